use Rattle.std.proofs.Common.{◌≡◌, length, lt-ltb, le-ltb, ltb-false, le_refl, refl, rules}
use Rattle.frame.specs.Frame.{data_limit}
use Rattle.frame.specs.View.{meaning}
use Rattle.link.specs.View.{frame_limit, encoding_of}
use Rattle.link.proofs.FrameLaws.{frame_fits}
use Rattle.outcome.proofs.Rooms.{gives_at_front}
use Rattle.session.specs.Box.{frame_in}
use Rattle.cabbox.proofs.Laws.{judged_decoded}
use Rattle.cabbox.proofs.frame_in.Goals as goal

pub returns-in_default : goal.returns-in_default
unfolding frame_in
returns-in_default c = rw (lt-ltb _ frame_limit c.in_default.ensures.cases, c.refused.ensures) (record { state_is = refl; refusal_is = refl; length_is = refl; output_is = refl })

pub returns : goal.returns
unfolding frame_in
returns c =
    let read = c.decode.ensures in
    let chunk = c.in-Some.ensures.cases in
    let frame = c.judged.result.frame in
    let body : length frame.change.body ≡ data_limit = search (rules, c.judged.type_inv) in
    let short = ltb-false frame_limit (length (encoding_of (meaning frame))) (frame_fits frame frame_limit body (le_refl frame_limit)) in
    let whole = gives_at_front _ _ frame_limit c.args.out.now _ chunk.enough short (rw chunk.same at c.answer.ensures) in
    rw (le-ltb _ frame_limit chunk.enough, ← judged_decoded _ _, ← read.fault, ← read.meaning, ← c.judged.ensures) whole
