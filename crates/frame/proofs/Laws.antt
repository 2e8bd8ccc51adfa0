-- The structs and their meanings.
use mathlib.Core.Path.{◌≡◌, refl, ap}
use mathlib.Core.Option.{none, some}
use lib.ListN.{length, drop, replicate}
use lib.Seq.{take-append_seam}
use Rattle.frame.specs.Frame.{data_limit, Change, command, raise, lower, opening, welcome, order, ack, refuse}
use Rattle.frame.specs.Theorems.{MeaningFrameOf}
use Rattle.frame.specs.View.{asked, change_of}

pub asked_change_of : (c : Change) → asked (change_of c) ≡ c
asked_change_of (command k d) = ap (command k) (take-append_seam d (drop (length d) (replicate data_limit 0)))
asked_change_of (raise n) = refl
asked_change_of (lower n) = refl

pub meaning_frame_of : MeaningFrameOf
meaning_frame_of none = refl
meaning_frame_of (some (opening s)) = refl
meaning_frame_of (some (welcome s σ)) = refl
meaning_frame_of (some (order s n c)) = ap (λ (x : Change). some (order s n x)) (asked_change_of c)
meaning_frame_of (some (ack s k)) = refl
meaning_frame_of (some (refuse s r)) = refl
