use Rattle.std.proofs.Common.{◌≡◌, ◌<◌, min, length, get_or, take, drop, sym, ap, ◌∙◌, arith, length-set, rules}
use Rattle.bus.specs.declared.Controller.{Controller}
use Rattle.bus.specs.Bus.{after, out}
use Rattle.controller.specs.BusState.{assembled}
use Rattle.bus.specs.Run.{run}
use Rattle.bus.proofs.RunLaws.{run_more}
use Rattle.std.proofs.Math.Nat.{min_comm}
use Rattle.std.proofs.lemmas.List.{take_min, drop_min}
use Rattle.controller.proofs.Sent.{sent_more}
use Rattle.controller.proofs.run.exchange_all.Goals as goal
use Rattle.controller.proofs.run.exchange_all.Goals.{in-Next, in-Checksum}

pub loop-i-preserved : goal.loop-i-preserved
loop-i-preserved c =
    let l = c.loop-i in
    let input = c.args.input.now in
    let output = c.args.output.now in
    let k = c.args.controller in
    let start = assembled c.of-state.result k.settings k.packet.body k.reply.bytes in
    let byte = get_or input l.i 0 in
    let within : l.i < length input = omega (arith, c.loop-i-test.true, c.min-n.ensures) in
    let room : l.i < length output = omega (arith, c.loop-i-test.true, c.min-n.ensures) in
    let step = c.after-step.ensures l.settings in
    let more = ap (λ (k : Controller). after k byte) l.invariant.1 ∙ sym (run_more start input l.i within) in
    let out_is : c.out.result ≡ out (run start (take l.i input)) = c.out.ensures l.settings l.body ∙ ap out l.invariant.1 in (
      search rules,
      elim c.match-step.branch [
        | in-Next w ↦ rw (w.state-is, w.settings-is, w.bytes-is) ((rw w.in-Next.is at step) ∙ more)
        | in-Checksum w ↦
            rw (w.state-is, w.settings-is, w.bytes-is, w.ended-state.ensures)
            (w.judged-done.ensures _ ∙ (rw w.in-Checksum.is at step) ∙ more)
      ],
      rw (out_is, l.invariant.2) (sent_more start input output l.i within room),
      simp length-set l.invariant.3,
    )

pub returns : goal.returns
returns c =
    let l = c.loop-i in
    let input = c.args.input.now in
    let output = c.args.output.now in
    let all : l.i ≡ min (length input) (length output) = omega (arith, c.loop-i-test.false, c.min-n.ensures) in
    let taken : take l.i input ≡ take (length output) input = rw (all, min_comm (length input) (length output)) (take_min (length output) input) in
    let kept : drop l.i output ≡ drop (length input) output = rw all (drop_min (length input) output) in
    record { after = c.assembled.ensures ∙ l.invariant.1 ∙ rw (c.of-state.ensures, taken); sent = l.invariant.2 ∙ rw (c.of-state.ensures, taken, kept) }
