-- Every run of bytes is a row of items, and behind it nothing or the beginning of one more field.
use Prim.Native.Nat.{ℕ, zero, suc, ◌+◌, ◌*◌, ◌-◌, ◌/◌, ◌%◌, ◌<◌, ◌≤◌}
use native.Mathlib.Omega.{arith}
use mathlib.Core.Path.{◌≡◌, refl, sym, ap, ◌∙◌, subst}
use mathlib.Core.Logic.{inl, inr}
use mathlib.Core.Bool.{Bool, true, false}
use mathlib.Core.List.Memᴰ
use mathlib.Core.List.{List, [], ◌∷◌, ◌++◌, flat_map, append_assoc, Memᴰ}
use lib.Dec.{eqb, leb}
use lib.ListN.{length, take, drop, replicate, length-append, length-drop, length-replicate, take-append-drop}
use lib.Seq.{length-take-le}
use borrow.Author.Tests.{eqb-true, eqb-false, leb-true, leb-false}
use Rattle.base.specs.Bytes.{Bytes}
use Rattle.base.proofs.ByteLaws.{bytes_drop}
use Rattle.wrapping.specs.Theorems.{tag, Item, stray, field, item_bytes, Proper, Unfinished, Parted, EveryRun}

none_left : Parted []
unfolding flat_map
none_left = record { row = []; proper = λ _ m. absurd (Memᴰ.not-nil m); rest = []; unfinished = inl refl; joined = refl }

only_begun : {bytes : List ℕ} → Unfinished bytes → Parted bytes
unfolding flat_map
only_begun {bytes} u = record { row = []; proper = λ _ m. absurd (Memᴰ.not-nil m); rest = bytes; unfinished = inr u; joined = refl }

and_item : (item : Item) {rest : List ℕ} → Proper item → Parted rest → Parted (item_bytes item ++ rest)
unfolding flat_map
and_item item here parted =
    record {
      row = item ∷ parted.row;
      proper = proper;
      rest = parted.rest;
      unfinished = parted.unfinished;
      joined = append_assoc (item_bytes item) _ _ ∙ ap (λ (l : List ℕ). item_bytes item ++ l) parted.joined;
    }
  where
    proper : (i : Item) → Memᴰ i (item ∷ parted.row) → Proper i
    proper i (Memᴰ.head e) = subst Proper (sym e) here
    proper i (Memᴰ.tail m) = parted.proper i m

abbrev zeros : ℕ → List ℕ
zeros n = replicate n 0

zeros_long : (n : ℕ) → length (zeros n) ≡ n
zeros_long n = length-replicate n 0

module _ (low high : ℕ) (small_low : low < 256) (small_high : high < 256) where
  first : (low + high * 256) % 256 ≡ low
  first = omega arith

  second : (low + high * 256) / 256 ≡ high
  second = omega arith

  fits_two : low + high * 256 < 65536
  fits_two = omega arith

  -- a field that is cut in its contents
  cut_field : (bytes : List ℕ) → length bytes < low + high * 256 → Unfinished (tag ∷ low ∷ high ∷ bytes)
  cut_field bytes more =
      let n = low + high * 256 in
      let missing = zeros (n - length bytes) in
      let rest : length missing ≡ n - length bytes = zeros_long (n - length bytes) in
      let long : length (bytes ++ missing) ≡ n = omega (arith, length-append bytes missing) in
      record {
        contents = bytes ++ missing;
        proper = rw long fits_two;
        missing = missing;
        some_missing = omega arith;
        joined = rw (long, first, second);
      }

  -- a whole one, and what stands behind it
  whole_field : (bytes : List ℕ) → low + high * 256 ≤ length bytes → Parted (drop (low + high * 256) bytes) → Parted (tag ∷ low ∷ high ∷ bytes)
  whole_field bytes enough rest =
      let n = low + high * 256 in
      let long : length (take n bytes) ≡ n = length-take-le n bytes enough in
      let joined : item_bytes (field (take n bytes)) ++ drop n bytes ≡ tag ∷ low ∷ high ∷ bytes = rw (long, first, second, take-append-drop n bytes) in
      subst Parted joined (and_item (field (take n bytes)) (rw long fits_two) rest)

-- what begins with a tag
tagged : (n : ℕ) → ((bytes : List ℕ) → length bytes ≤ n → Bytes bytes → Parted bytes) → (bytes : List ℕ) → length bytes ≤ n → Bytes bytes → Parted (tag ∷ bytes)
tagged n shorter [] few small = only_begun (record { contents = []; proper = omega arith; missing = 0 ∷ 0 ∷ []; some_missing = omega arith; joined = refl })
tagged n shorter (low ∷ []) few small =
    let here : low < 256 = small 0 in
    let first : low % 256 ≡ low = omega arith in
    let second : low / 256 ≡ 0 = omega arith in
    only_begun (record {
      contents = zeros low;
      proper = rw (zeros_long low) (omega arith);
      missing = 0 ∷ zeros low;
      some_missing = omega arith;
      joined = rw (zeros_long low, first, second);
    })
tagged n shorter (low ∷ high ∷ bytes) few small = by_length (leb (low + high * 256) (length bytes)) refl
  where
    by_length : (whole : Bool) → leb (low + high * 256) (length bytes) ≡ whole → Parted (tag ∷ low ∷ high ∷ bytes)
    by_length true e =
        whole_field low high (small 0) (small 1) bytes (leb-true _ _ e)
        (shorter (drop (low + high * 256) bytes) (simp length-drop (omega arith)) (bytes_drop (low + high * 256) bytes (λ i. small (suc (suc i)))))
    by_length false e = only_begun (cut_field low high (small 0) (small 1) bytes (leb-false _ _ e))

only_none : (bytes : List ℕ) → length bytes ≤ 0 → Bytes bytes → Parted bytes
only_none [] few small = none_left
only_none (byte ∷ bytes) few small = absurd (omega arith)

one_more : (n : ℕ) → ((bytes : List ℕ) → length bytes ≤ n → Bytes bytes → Parted bytes) → (bytes : List ℕ) → length bytes ≤ suc n → Bytes bytes → Parted bytes
one_more n shorter [] few small = none_left
one_more n shorter (byte ∷ bytes) few small = by_tag (eqb byte tag) refl
  where
    by_tag : (is_tag : Bool) → eqb byte tag ≡ is_tag → Parted (byte ∷ bytes)
    by_tag true e = rw (eqb-true byte tag e) (tagged n shorter bytes (omega arith) (λ i. small (suc i)))
    by_tag false e = and_item (stray byte) (eqb-false byte tag e) (shorter bytes (omega arith) (λ i. small (suc i)))

parted : (n : ℕ) → (bytes : List ℕ) → length bytes ≤ n → Bytes bytes → Parted bytes
parted zero = only_none
parted (suc n) = one_more n (parted n)

pub every_run : EveryRun
every_run bytes small = parted (length bytes) bytes (omega arith) small
