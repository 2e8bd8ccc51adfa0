use Rattle.std.proofs.Common.{ℕ, List, sym, ap, ◌∙◌}
use Rattle.settings.specs.declared.settings.Settings.{Settings}
use Rattle.settings.specs.Settings.{flagged}
use Rattle.bus.specs.Bus.{feed}
use Rattle.controller.specs.BusState.{assembled}
use Rattle.controller.proofs.Assembled.{feeds_escaped, opens, feeds}
use Rattle.controller.proofs.state.BusState.inside.Goals as goal

pub returns-then-self : goal.returns-then-self
returns-then-self c = λ (bytes : List ℕ) (σ : Settings).
    let a = c.args in
    let k = assembled a.self σ a.body.now bytes in
    c.feed.ensures bytes σ ∙ ap (λ (v : ℕ). feed k v) c.unescaped.ensures ∙ sym (feeds_escaped k a.byte c.if-self.true)

pub returns-then-byte-eq90 : goal.returns-then-byte-eq90
unfolding flagged
returns-then-byte-eq90 c = λ (bytes : List ℕ) (σ : Settings).
    let a = c.args in
    let k = assembled a.self σ a.body.now bytes in
    rw c.escape_open.ensures (sym (opens k a.byte c.if-self.false c.if-byte-eq90.true))

pub returns : goal.returns
returns c = λ (bytes : List ℕ) (σ : Settings).
    let a = c.args in
    let k = assembled a.self σ a.body.now bytes in
    c.feed-2.ensures bytes σ ∙ sym (feeds k a.byte c.if-self.false c.if-byte-eq90.false)
