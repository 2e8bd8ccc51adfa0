-- What arrives at one end, where it is the beginning of a row of wrapped frames.
use Prim.Native.Nat.{ℕ}
use native.Mathlib.Omega.{arith}
use mathlib.Core.Path.{◌≡◌, refl, sym, ap, ◌∙◌, subst}
use mathlib.Core.List.Memᴰ
use mathlib.Core.List.{List, [], ◌∷◌, ◌++◌, map, flat_map, Memᴰ}
use Rattle.base.specs.Refusal.{Fault}
use Rattle.wrapping.specs.Wrapping.{wrapped}
use Rattle.wrapping.specs.Receiver.{fresh}
use Rattle.wrapping.specs.Reading.{Handed, frame, refused, Reading, earlier, read}
use Rattle.wrapping.specs.Theorems.{AtTag, Wrappable}
use Rattle.wrapping.proofs.ReadingLaws.{read_append, given_reads, dropped_grows}
use Rattle.wrapping.proofs.StreamTheorems.{through_unchanged}
use Rattle.delivery.specs.Calls.{Incoming, started, with_piece, frames}
use Rattle.delivery.specs.Claim.{Intact}

-- ---- frames among what was handed on

frames_all : (row : List (List ℕ)) → frames (map frame row) ≡ row
frames_all [] = refl
frames_all (f ∷ row) = ap (λ (fs : List (List ℕ)). f ∷ fs) (frames_all row)

pub frames_among : (f : List ℕ) (handed : List Handed) → Memᴰ f (frames handed) → Memᴰ (frame f) handed
frames_among f [] m = elim m [ ]
frames_among f (frame g ∷ handed) (Memᴰ.head e) = Memᴰ.head (ap {B = Handed} frame e)
frames_among f (frame g ∷ handed) (Memᴰ.tail m) = Memᴰ.tail (frames_among f handed m)
frames_among f (refused n ∷ handed) m = Memᴰ.tail (frames_among f handed m)

-- ---- a receiver since its start

fresh_at_tag : AtTag fresh
fresh_at_tag = record { place = refl; long = refl }

-- what it holds and has handed on is what reading its bytes gives
abbrev pub Reads : Incoming → Type 0
Reads i = read fresh i.given ≡ record { receiver = i.receiver; handed = i.handed }

pub reads_piece : (i : Incoming) (piece : List ℕ) → Reads i → Reads (with_piece i piece)
reads_piece i piece reads =
    read_append fresh i.given piece ∙ ap (λ (t : Reading). earlier t.handed (read t.receiver piece)) reads ∙ ap (earlier i.handed) (sym (given_reads i.receiver piece))

-- its bytes are the beginning of a row of wrapped frames
pub record Begun (i : Incoming) : Type 0 where
  pub reads : Reads i
  pub row : List (List ℕ)
  pub rest : List ℕ
  pub joined : i.given ++ rest ≡ flat_map wrapped row
  pub each : (f : List ℕ) → Memᴰ f row → Wrappable f

pub begun_start : Begun started
unfolding flat_map
begun_start = record { reads = refl; row = []; rest = []; joined = refl; each = λ _ m. absurd (elim m [ ]) }

module _ (i : Incoming) (b : Begun i) where
  whole_row : read fresh (flat_map wrapped b.row) ≡ earlier i.handed (read i.receiver b.rest)
  whole_row =
      ap (read fresh) (sym b.joined) ∙ read_append fresh i.given b.rest ∙
      ap (λ (t : Reading). earlier t.handed (read t.receiver b.rest)) b.reads

  -- what was handed on, and what the rest will bring
  handed_row : i.handed ++ (read i.receiver b.rest).handed ≡ map frame b.row
  handed_row =
      ap (λ (t : Reading). t.handed) (sym whole_row ∙ sym (given_reads fresh (flat_map wrapped b.row))) ∙ (through_unchanged fresh fresh_at_tag b.row b.each).handed

  none_dropped : i.receiver.dropped ≡ 0
  none_dropped =
      let later : (read i.receiver b.rest).receiver.dropped ≡ 0 =
      ap (λ (t : Reading). t.receiver.dropped) (sym whole_row ∙ sym (given_reads fresh (flat_map wrapped b.row))) ∙ (through_unchanged fresh fresh_at_tag b.row b.each).dropped in
      omega (arith, dropped_grows i.receiver b.rest)

  -- whatever was handed on is a frame of the row
  handed_each : (x : Handed) → Memᴰ x i.handed → (f : List ℕ) × Memᴰ f b.row × (frame f ≡ x)
  handed_each x m = Memᴰ.of_map frame b.row (subst (Memᴰ x) handed_row (Memᴰ.append_left (read i.receiver b.rest).handed m))

  none_refused : (why : Fault) → Memᴰ (refused why) i.handed → ⊥
  none_refused why m = let (f, _, e) = handed_each (refused why) m in let z : ◌≡◌ {A = ℕ} 0 1 = cc in omega arith

  pub frames_each : (f : List ℕ) → Memᴰ (frame f) i.handed → Memᴰ f b.row
  frames_each f m = let (g, here, e) = handed_each (frame f) m in let same : f ≡ g = cc in Memᴰ.cast same here

  through : (row : List (List ℕ)) → ((f : List ℕ) → Memᴰ f row → Wrappable f) → i.given ≡ flat_map wrapped row → frames i.handed ≡ row
  through row each e =
      let all : i.handed ≡ map frame row =
      ap (λ (t : Reading). t.handed) (sym b.reads ∙ ap (read fresh) e ∙ sym (given_reads fresh (flat_map wrapped row))) ∙ (through_unchanged fresh fresh_at_tag row each).handed in
      ap frames all ∙ frames_all row

  pub intact : Intact i
  intact = record { none_refused = none_refused; none_dropped = none_dropped; through = through }
