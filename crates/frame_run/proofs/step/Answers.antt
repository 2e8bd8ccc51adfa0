use native.Mathlib.Nat.{add-sub_cancel_left}
use mathlib.Core.Path.{refl}
use Rattle.frame_run.proofs.Laws.{follows}
use Rattle.frame_run.proofs.step.Goals as goal

pub returns : goal.returns
returns c =
    let called = c.frame_in-answered in
    record {
      answer = called.result;
      follows = follows c.args.run.cab _ c.args.out.now _ c.args.run.written called.result c.requires.1 (rw add-sub_cancel_left at called.ensures);
      state_is = refl;
      parts_are = c.with.ensures;
      at_is = refl;
      written_is = refl;
    }
