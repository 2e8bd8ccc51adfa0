-- Laws of batches: lengths that sum to a total, one part more, and one answer more behind the earlier ones.
use Prim.Native.Nat.{ℕ, suc, ◌+◌, ◌-◌, ◌<◌, ◌≤◌}
use native.Mathlib.Omega.{arith}
use native.Mathlib.Numerals.{add-one}
use mathlib.Core.Path.{◌≡◌, refl, sym, ◌∙◌}
use mathlib.Core.Bool.{Bool, true, false, false≢true}
use mathlib.Core.List.{List, [], ◌∷◌, ◌++◌, map, append_assoc, append-nil, map-append}
use lib.ListN.{length, get_or, take, drop, set, replicate, length-append, length-map, drop_of_length-le}
use lib.Seq.{drop-cons, drop-drop, take-append_seam, drop-append_seam, set_at, append_snoc}
use Rattle.std.proofs.lemmas.List.{map-set}
use lib.Dec.{eqb, leb}
use borrow.Author.Tests.{lt-ltb, le-leb, lt-leb, leb-true, leb-false}
use Rattle.base.specs.Lent.{overwritten}
use Rattle.link.specs.View.{encoding_of}
use Rattle.outcome.specs.declared.Part.{Part as PartStruct}
use Rattle.outcome.specs.declared.Parts.{Parts}
use Rattle.outcome.specs.Batch.{batch_limit, fits, Part, bytes_of_parts, report, reported, no_report, reports, no_parts, with_part}

-- ---- lengths taken from a total, one by one

module _ (lengths : List ℕ) (left i : ℕ) where
  -- none is left
  pub fits_end : length lengths ≤ i → fits (drop i lengths) left ≡ eqb left 0
  unfolding fits
  fits_end h = rw (drop_of_length-le lengths h)

  module _ (h : i < length lengths) where
    -- the next one
    pub fits_next : get_or lengths i 0 ≤ left → fits (drop i lengths) left ≡ fits (drop (i + 1) lengths) (left - get_or lengths i 0)
    unfolding fits
    fits_next enough = rw (drop-cons lengths i 0 h, le-leb _ _ enough, add-one)

    pub fits_too_long : left < get_or lengths i 0 → fits (drop i lengths) left ≡ false
    unfolding fits
    fits_too_long short = rw (drop-cons lengths i 0 h, lt-leb _ _ short)

    -- where all sum to what is left, the next one is within it
    pub fits_within : fits (drop i lengths) left ≡ true → get_or lengths i 0 ≤ left
    fits_within all = by_cases (leb (get_or lengths i 0) left) refl
      where
        by_cases : (x : Bool) → leb (get_or lengths i 0) left ≡ x → get_or lengths i 0 ≤ left
        by_cases true e = leb-true _ _ e
        by_cases false e = absurd (false≢true (sym (fits_too_long (leb-false _ _ e)) ∙ all))

-- ---- parts of the code that report parts

pub record Tells (told : Parts) (parts : List Part) : Type 0 where
  pub count_is : told.count ≡ length parts
  pub parts_are : map reported told.each ≡ reports parts

pub none_tells : Tells no_parts []
none_tells = record { count_is = refl; parts_are = refl }

replicate_next : {A : Type 0} (n m : ℕ) (a : A) → m ≡ suc n → replicate m a ≡ a ∷ replicate n a
replicate_next n m a e = rw e

reports_more : (parts : List Part) (next : Part) → length parts < batch_limit → set (reports parts) (length parts) (report next) ≡ reports (parts ++ next ∷ [])
reports_more parts next room =
    let after = batch_limit - length (parts ++ next ∷ []) in
    let free : batch_limit - length parts ≡ suc after = omega (arith, length-append parts (next ∷ [])) in
    rw (replicate_next after _ no_report free, set_at (map report parts) no_report (replicate after no_report) (report next) (length parts) (length-map parts report), map-append)
    (sym (append_snoc (map report parts) (report next) (replicate after no_report)))

-- one part more
pub with_part_tells : (told : Parts) (parts : List Part) (x : PartStruct) (next : Part) → Tells told parts → length parts < batch_limit → reported x ≡ report next →
    Tells (with_part told x) (parts ++ next ∷ [])
unfolding with_part
with_part_tells told parts x next tells room e =
    rw (lt-ltb told.count batch_limit (omega arith))
    (record {
      count_is = rw tells.count_is (sym (length-append parts (next ∷ [])));
      parts_are = rw (map-set reported told.each told.count x, tells.parts_are, tells.count_is, e) (reports_more parts next room);
    })

-- ---- answers, one behind another

pub bytes_of_append : (parts more : List Part) → bytes_of_parts (parts ++ more) ≡ bytes_of_parts parts ++ bytes_of_parts more
bytes_of_append [] more = refl
bytes_of_append (p ∷ parts) more = rw (bytes_of_append parts more) (sym (append_assoc (encoding_of p.frame) (bytes_of_parts parts) (bytes_of_parts more)))

pub bytes_one_more : (parts : List Part) (next : Part) → bytes_of_parts (parts ++ next ∷ []) ≡ bytes_of_parts parts ++ encoding_of next.frame
bytes_one_more parts next = bytes_of_append parts (next ∷ []) ∙ rw append-nil

-- written over what the earlier ones left
pub overwritten_behind : (a b l : List ℕ) → take (length a) (overwritten a l) ++ overwritten b (drop (length a) (overwritten a l)) ≡ overwritten (a ++ b) l
overwritten_behind a b l = rw (take-append_seam, drop-append_seam, drop-drop, length-append, append_assoc)
