-- Laws of lengths: of frames, of their structs, and of a lent output.
use Prim.Native.Nat.{ℕ, ◌+◌, ◌≤◌}
use native.Mathlib.Nat.{min-le_right}
use native.Mathlib.Omega.{arith}
use mathlib.Core.Path.{◌≡◌, refl}
use mathlib.Core.Bool.{Bool, true, false, cond}
use mathlib.Core.List.{List, []}
use mathlib.Core.Option.{none, some}
use lib.ListN.{length, length-take}
use lib.Dec.{ltb}
use borrow.Author.Tests.{ltb-false, le-ltb}
use Rattle.std.specs.Prelude.{Result, Ok, Err}
use Rattle.base.specs.declared.refusal.Refusal.{Refusal}
use Rattle.base.specs.Lent.{overwritten}
use Rattle.base.specs.declared.refusal.Refusal.TheVariants.{OutputTooShort}
use Rattle.base.specs.Refusal.{number, plain}
use Rattle.base.specs.Result.{refused, accepted}
use Rattle.base.specs.Writes.{Writes, answer, length_of, bytes_of, fitting}
use Rattle.base.proofs.Refusals.{number_determines}
use Rattle.settings.specs.declared.settings.Settings.{Settings}
use Rattle.frame.specs.declared.frame.Ask.{Ask}
use Rattle.frame.specs.declared.frame.Ask.TheVariants.{Command, Raise, Lower}
use Rattle.frame.specs.declared.frame.Change.{Change as ChangeStruct}
use Rattle.frame.specs.declared.frame.Frame.{Frame as FrameStruct}
use Rattle.frame.specs.declared.frame.Kind.{Kind}
use Rattle.frame.specs.declared.frame.Kind.TheVariants.{Malformed, Opening, Welcome, Order, Ack, Refuse}
use Rattle.registers.proofs.BlockTheorems.{block_long}
use Rattle.frame.specs.Frame.{data_limit, Change, command, raise, lower, Frame, opening, welcome, order, ack, refuse, too_long}
use Rattle.link.specs.Encoding.{change_field, encode}
use Rattle.link.specs.Steps.{frame_too_long}
use Rattle.frame.specs.View.{asked_as, asked, meaning_as, meaning, refusal_of}
use Rattle.link.specs.View.{frame_limit, encoding_of, sent_bytes, sent_refusal, length_written, Sends}

-- ---- lengths

change_length : (c : Change) → too_long c ≡ false → length (change_field c) ≤ 4 + data_limit
change_length (command k d) e = omega (arith, ltb-false data_limit (length d) e)
change_length (raise n) e = omega arith
change_length (lower n) e = omega arith

pub encode_length : (f : Frame) → frame_too_long f ≡ false → length (encode f) ≤ frame_limit
unfolding encode
encode_length (opening s) e = omega arith
encode_length (welcome s σ) e = omega (arith, block_long σ)
encode_length (order s n c) e = omega (arith, change_length c e)
encode_length (ack s k) e = omega arith
encode_length (refuse s r) e = omega arith

-- ---- what a struct holds is short, since its body is

asked_as_short : (a : Ask) (d : List ℕ) → length d ≤ data_limit → too_long (asked_as a d) ≡ false
asked_as_short (Command k) d h = le-ltb data_limit (length d) h
asked_as_short (Raise n) d h = refl
asked_as_short (Lower n) d h = refl

pub asked_short : (c : ChangeStruct) → length c.body ≡ data_limit → too_long (asked c) ≡ false
asked_short c e = asked_as_short c.ask _ (omega (arith, length-take c.count c.body, min-le_right c.count (length c.body)))

meaning_as_length : (k : Kind) (s n : ℕ) (c : Change) (σ : Settings) → too_long c ≡ false → length (encoding_of (meaning_as k s n c σ)) ≤ frame_limit
meaning_as_length Malformed s n c σ e = omega arith
meaning_as_length Opening s n c σ e = encode_length (opening s) refl
meaning_as_length Welcome s n c σ e = encode_length (welcome s σ) refl
meaning_as_length Order s n c σ e = encode_length (order s n c) e
meaning_as_length Ack s n c σ e = encode_length (ack s n) refl
meaning_as_length (Refuse r) s n c σ e = encode_length (refuse s r) refl

pub meaning_length : (f : FrameStruct) → length f.change.body ≡ data_limit → length (encoding_of (meaning f)) ≤ frame_limit
meaning_length f e = meaning_as_length f.kind f.session.0 f.number.0 (asked f.change) f.settings (asked_short f.change e)

-- an output as long as the longest frame is too short for none
pub frame_fits : (f : FrameStruct) (room : ℕ) → length f.change.body ≡ data_limit → frame_limit ≤ room → ltb room (length (encoding_of (meaning f))) ≡ false
frame_fits f room body fits = le-ltb room (length (encoding_of (meaning f))) (omega (arith, meaning_length f body))

-- ---- bytes written whole are sent

refused_short : (r : Result ℕ Refusal) → answer r ≡ refused 1 → (refusal_of r ≡ some (plain 1)) × (length_written r ≡ 0)
refused_short (Ok n) e = absurd cc
refused_short (Err q) e =
    let one : number q ≡ 1 = cc in
    let short : q ≡ OutputTooShort = number_determines q OutputTooShort (omega (arith, one)) one in
    rw short (refl, refl)

accepted_whole : (n : ℕ) (r : Result ℕ Refusal) → answer r ≡ accepted n → (refusal_of r ≡ none) × (length_written r ≡ n)
accepted_whole n (Ok m) e = (refl, cc)
accepted_whole n (Err q) e = absurd cc

by_room : (short : Bool) (bytes : List ℕ) (r : Result ℕ Refusal) → answer r ≡ length_of (cond short (refused 1) (accepted bytes)) →
    (refusal_of r ≡ cond short (some (plain 1)) none) × (length_written r ≡ length (cond short [] bytes))
by_room true bytes r e = refused_short r e
by_room false bytes r e = accepted_whole (length bytes) r e

written_bytes : (short : Bool) (bytes : List ℕ) → bytes_of (cond short (refused 1) (accepted bytes)) ≡ cond short [] bytes
written_bytes true bytes = refl
written_bytes false bytes = refl

pub sends_written : (bytes : List ℕ) (r : Result ℕ Refusal) (before after : List ℕ) → Writes (fitting bytes) r before after → Sends bytes r before after
unfolding fitting sent_bytes sent_refusal
sends_written bytes r before after written =
    let told = by_room (ltb (length before) (length bytes)) bytes r written.answer_is in
    record {
      refusal_is = told.0;
      length_is = told.1;
      output_is = rw written_bytes at written.output_is;
    }

-- such an output takes the whole of any
pub sent_whole : (f : FrameStruct) (r : Result ℕ Refusal) (before after : List ℕ) → length f.change.body ≡ data_limit → frame_limit ≤ length before →
    Sends (encoding_of (meaning f)) r before after →
    (length_written r ≡ length (encoding_of (meaning f))) × (after ≡ overwritten (encoding_of (meaning f)) before)
unfolding sent_bytes
sent_whole f r before after body fits sent =
    let fitting = frame_fits f (length before) body fits in
    (rw fitting at sent.length_is, rw fitting at sent.output_is)
