use Rattle.std.proofs.Common.{◌≡◌, ◌≤◌, ◌+◌, length, sym, ◌∙◌, arith, refl}
use borrow.Author.Tests.{le-ltb}
use Rattle.base.proofs.Lists.{sets_next, sets_front}
use Rattle.wrapping.specs.Wrapping.{head, wrapped, wrapping}
use Rattle.stream.proofs.wrapper.wrap.Goals as goal

pub returns : goal.returns
unfolding wrapping
returns c =
    let f = c.args.frame.now in
    let fitting = sym c.fits.ensures.value ∙ c.if-not-fits.false in
    let enough : length (wrapped f) ≤ length c.args.out.now = omega arith in
    let stored = c.store-2.ensures ∙ rw (c.store.ensures, c.to_le_bytes.ensures) (sets_next (head (length f)) f c.args.out.now 3 refl) ∙ sets_front (wrapped f) c.args.out.now enough in
    let long : length (wrapped f) ≡ 3 + length f = omega arith in
    record { answer_is = rw (fitting, le-ltb _ _ enough, long); output_is = rw (fitting, le-ltb _ _ enough) stored }
