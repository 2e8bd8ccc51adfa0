use Rattle.std.proofs.Common.{sym, ◌∙◌}
use Rattle.settings.specs.declared.settings.Settings.{Settings}
use Rattle.controller.specs.BusState.{assembled}
use Rattle.controller.proofs.Assembled.{start_assembled, outside_assembled, starts, replies, ignores, enters}
use Rattle.controller.proofs.state.BusState.after.Goals as goal

pub returns-then-byte-eq165 : goal.returns-then-byte-eq165
returns-then-byte-eq165 c = λ (σ : Settings).
    let a = c.args in
    let k = assembled a.self σ a.body.now a.bytes.now in
    rw c.start.ensures (start_assembled a.self σ a.body.now a.bytes.now ∙ sym (starts k a.byte c.if-byte-eq165.true))

pub returns-then-self : goal.returns-then-self
returns-then-self c = λ (σ : Settings).
    let a = c.args in
    let k = assembled a.self σ a.body.now a.bytes.now in
    rw c.one_sent.ensures (sym (replies k a.byte c.if-byte-eq165.false c.if-self.true))

pub returns-then-is_idle : goal.returns-then-is_idle
returns-then-is_idle c = λ (σ : Settings).
    let a = c.args in
    let k = assembled a.self σ a.body.now a.bytes.now in
    let idle = sym c.is_idle.ensures ∙ c.if-is_idle.true in
    rw c.outside.ensures (outside_assembled a.self σ a.body.now a.bytes.now a.byte ∙ sym (ignores k a.byte c.if-byte-eq165.false c.if-self.false idle))

pub returns : goal.returns
returns c = λ (σ : Settings).
    let a = c.args in
    let k = assembled a.self σ a.body.now a.bytes.now in
    let busy = sym c.is_idle.ensures ∙ c.if-is_idle.false in
    c.inside.ensures a.bytes.now σ ∙ sym (enters k a.byte c.if-byte-eq165.false c.if-self.false busy)
