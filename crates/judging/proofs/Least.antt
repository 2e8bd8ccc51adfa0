-- Tests in the order of their numbers, at places in the order of their offsets: the first that holds, place by place, is the least of all that are found.
use Prim.Native.Nat.{ℕ, suc, ◌<◌, ◌≤◌}
use native.Mathlib.Nat.{le_refl, le_antisymm}
use native.Mathlib.Omega.{arith}
use mathlib.Core.Path.{◌≡◌, refl, sym, ap, subst, ◌∙◌}
use mathlib.Core.Bool.{Bool, true, false, cond}
use mathlib.Core.List.Memᴰ
use mathlib.Core.List.{List, [], ◌∷◌, Memᴰ}
use mathlib.Core.Option.{Option, none, some, some-injective, none-ne-some, some-ne-none}
use mathlib.Core.Logic.{inl, inr}
use lib.Dec.{T}
use Rattle.base.specs.Refusal.{Fault, fault}
use Rattle.std.proofs.lemmas.Bool.{cond_both}
use Rattle.judging.specs.Decoding.{unless}
use Rattle.judging.specs.Faults.{Place, Test, found, all_found, Before, lower, listed, Least}
use Rattle.judging.specs.Theorems.{OneLeast}

abbrev pub first_at : List Test → Place → Option Fault
first_at [] p = none
first_at (t ∷ ts) p = cond (t.holds p) (some (fault t.number p.offset)) (first_at ts p)

abbrev pub first_of : List Test → List Place → Option Fault
first_of ts [] = none
first_of ts (p ∷ ps) = unless (first_at ts p) (first_of ts ps)

abbrev pub NumbersFrom : ℕ → List Test → Type 0
NumbersFrom n [] = T true
NumbersFrom n (t ∷ ts) = (n ≤ t.number) × NumbersFrom t.number ts

abbrev pub OffsetsFrom : ℕ → List Place → Type 0
OffsetsFrom n [] = T true
OffsetsFrom n (p ∷ ps) = (n ≤ p.offset) × OffsetsFrom (suc p.offset) ps

-- ---- what holds of each fault that is found

module _ (P : Fault → Type 0) where
  abbrev AtPlace : List Test → Place → Type 0
  AtPlace [] p = T true
  AtPlace (t ∷ ts) p = (t.holds p ≡ true → P (fault t.number p.offset)) × AtPlace ts p

  abbrev AtPlaces : List Test → List Place → Type 0
  AtPlaces ts [] = T true
  AtPlaces ts (p ∷ ps) = AtPlace ts p × AtPlaces ts ps

  of_found : (t : Test) (ps : List Place) → AtPlaces (t ∷ []) ps → (g : Fault) → Memᴰ g (found t ps) → P g
  of_found t [] each g m = absurd (Memᴰ.not-nil m)
  of_found t (p ∷ ps) each g m = go (t.holds p) refl (of_found t ps each.1 g) m
    where
      go : (x : Bool) → t.holds p ≡ x → (Memᴰ g (found t ps) → P g) → Memᴰ g (cond x (fault t.number p.offset ∷ found t ps) (found t ps)) → P g
      go true e later (Memᴰ.head q) = subst P (sym q) (each.0.0 e)
      go true e later (Memᴰ.tail n) = later n
      go false e later n = later n

  heads : (t : Test) (ts : List Test) (ps : List Place) → AtPlaces (t ∷ ts) ps → AtPlaces (t ∷ []) ps
  heads t ts [] each = tt
  heads t ts (p ∷ ps) each = ((each.0.0, tt), heads t ts ps each.1)

  tails : (t : Test) (ts : List Test) (ps : List Place) → AtPlaces (t ∷ ts) ps → AtPlaces ts ps
  tails t ts [] each = tt
  tails t ts (p ∷ ps) each = (each.0.1, tails t ts ps each.1)

  of_all : (ts : List Test) (ps : List Place) → AtPlaces ts ps → (g : Fault) → Memᴰ g (all_found ts ps) → P g
  of_all [] ps each g m = absurd (Memᴰ.not-nil m)
  of_all (t ∷ ts) ps each g m =
      elim (Memᴰ.append_cases (found t ps) m) as (λ _. P g) [
        | inl n ↦ of_found t ps (heads t ts ps each) g n
        | inr n ↦ of_all ts ps (tails t ts ps each) g n
      ]

-- ---- none is before the first

numbers_later : (f : Fault) (p : Place) → f.offset ≡ p.offset → (k : ℕ) → f.number ≤ k → (ts : List Test) → NumbersFrom k ts → AtPlace (Before f) ts p
numbers_later f p e k h [] rising = tt
numbers_later f p e k h (t ∷ ts) rising =
    let next : f.number ≤ t.number = omega (arith, h, rising.0) in
    (λ _. listed e next, numbers_later f p e t.number next ts rising.1)

lower_at : (f : Fault) (p : Place) → f.offset < p.offset → (ts : List Test) → AtPlace (Before f) ts p
lower_at f p h [] = tt
lower_at f p h (t ∷ ts) = (λ _. lower h, lower_at f p h ts)

places_later : (f : Fault) (ts : List Test) (n : ℕ) → f.offset < n → (ps : List Place) → OffsetsFrom n ps → AtPlaces (Before f) ts ps
places_later f ts n h [] rising = tt
places_later f ts n h (p ∷ ps) rising =
    let next : f.offset < p.offset = omega (arith, h, rising.0) in
    (lower_at f p next ts, places_later f ts (suc p.offset) (omega arith) ps rising.1)

none_at : (P : Fault → Type 0) (ts : List Test) (p : Place) → first_at ts p ≡ none → AtPlace P ts p
none_at P [] p e = tt
none_at P (t ∷ ts) p e = go (t.holds p) refl (none_at P ts p) e
  where
    go : (x : Bool) → t.holds p ≡ x → (first_at ts p ≡ none → AtPlace P ts p) →
        cond x (some (fault t.number p.offset)) (first_at ts p) ≡ none → (t.holds p ≡ true → P (fault t.number p.offset)) × AtPlace P ts p
    go true q later n = absurd (some-ne-none _ n)
    go false q later n = (λ h. absurd (subst T (sym h ∙ q) tt), later n)

-- the first at a place
record FirstAt (f : Fault) (ts : List Test) (p : Place) (ps : List Place) : Type 0 where
  here : f.offset ≡ p.offset
  before : AtPlace (Before f) ts p
  one_of : Memᴰ f (all_found ts (p ∷ ps))

some_at : (ts : List Test) (k : ℕ) → NumbersFrom k ts → (p : Place) (ps : List Place) (f : Fault) → first_at ts p ≡ some f → FirstAt f ts p ps
some_at [] k rising p ps f e = absurd (none-ne-some f e)
some_at (t ∷ ts) k rising p ps f e = go (t.holds p) refl (some_at ts t.number rising.1 p ps f) e
  where
    go : (x : Bool) → t.holds p ≡ x → (first_at ts p ≡ some f → FirstAt f ts p ps) →
        cond x (some (fault t.number p.offset)) (first_at ts p) ≡ some f → FirstAt f (t ∷ ts) p ps
    go true q later s =
        let is = some-injective (fault t.number p.offset) f s in
        record {
          here = ap (λ (g : Fault). g.offset) (sym is);
          before = (
            λ _. subst (λ (g : Fault). Before g (fault t.number p.offset)) is (listed refl (le_refl _)),
            numbers_later f p (ap (λ (g : Fault). g.offset) (sym is)) t.number (subst (λ (g : Fault). g.number ≤ t.number) is (le_refl _)) ts rising.1,
          );
          one_of = rw q (Memᴰ.head (sym is));
        }
    go false q later s =
        let first = later s in
        record { here = first.here; before = (λ h. absurd (subst T (sym h ∙ q) tt), first.before); one_of = Memᴰ.append_right (found t (p ∷ ps)) first.one_of }

-- ---- the first of all

one_more : (ts : List Test) (p : Place) (ps : List Place) (f : Fault) → Memᴰ f (all_found ts ps) → Memᴰ f (all_found ts (p ∷ ps))
one_more [] p ps f m = m
one_more (t ∷ ts) p ps f m =
    elim (Memᴰ.append_cases (found t ps) m) as (λ _. Memᴰ f (all_found (t ∷ ts) (p ∷ ps))) [
      | inl n ↦ Memᴰ.append_left (all_found ts (p ∷ ps)) (cond_both (t.holds p) _ _ (Memᴰ f) (λ _. Memᴰ.tail n) (λ _. n))
      | inr n ↦ Memᴰ.append_right (found t (p ∷ ps)) (one_more ts p ps f n)
    ]

-- of what is told, beside all that is found
abbrev pub TellsFirst : Option Fault → List Fault → Type 0
TellsFirst (some f) fs = Least f fs
TellsFirst none fs = fs ≡ []

empty : (fs : List Fault) → ((g : Fault) → Memᴰ g fs → ⊥) → fs ≡ []
empty [] h = refl
empty (f ∷ fs) h = absurd (h f (Memᴰ.head refl))

record FirstOf (f : Fault) (ts : List Test) (ps : List Place) : Type 0 where
  before : AtPlaces (Before f) ts ps
  one_of : Memᴰ f (all_found ts ps)

some_of : (ts : List Test) (k : ℕ) → NumbersFrom k ts → (n : ℕ) (ps : List Place) → OffsetsFrom n ps → (f : Fault) → first_of ts ps ≡ some f → FirstOf f ts ps
some_of ts k rising n [] places f e = absurd (none-ne-some f e)
some_of ts k rising n (p ∷ ps) places f e = go (first_at ts p) refl (some_of ts k rising (suc p.offset) ps places.1 f) e
  where
    go : (o : Option Fault) → first_at ts p ≡ o → (first_of ts ps ≡ some f → FirstOf f ts ps) → unless o (first_of ts ps) ≡ some f → FirstOf f ts (p ∷ ps)
    go (some g) q later s =
        let first = some_at ts k rising p ps f (q ∙ s) in
        record { before = (first.before, places_later f ts (suc p.offset) (omega (arith, first.here)) ps places.1); one_of = first.one_of }
    go none q later s =
        let first = later s in
        record { before = (none_at (Before f) ts p q, first.before); one_of = one_more ts p ps f first.one_of }

none_of : (ts : List Test) (ps : List Place) → first_of ts ps ≡ none → AtPlaces (λ _. ⊥) ts ps
none_of ts [] e = tt
none_of ts (p ∷ ps) e = go (first_at ts p) refl (none_of ts ps) e
  where
    go : (o : Option Fault) → first_at ts p ≡ o → (first_of ts ps ≡ none → AtPlaces (λ _. ⊥) ts ps) → unless o (first_of ts ps) ≡ none → AtPlaces (λ _. ⊥) ts (p ∷ ps)
    go (some g) q later s = absurd (some-ne-none g s)
    go none q later s = (none_at (λ _. ⊥) ts p q, later s)

pub first_least : (ts : List Test) (k : ℕ) → NumbersFrom k ts → (n : ℕ) (ps : List Place) → OffsetsFrom n ps → (o : Option Fault) → first_of ts ps ≡ o →
    TellsFirst o (all_found ts ps)
first_least ts k rising n ps places (some f) e =
    let first = some_of ts k rising n ps places f e in
    record { one_of = first.one_of; before_all = of_all (Before f) ts ps first.before }
first_least ts k rising n ps places none e = empty (all_found ts ps) (of_all (λ _. ⊥) ts ps (none_of ts ps e))

-- ---- no two are least

same_place : (f g : Fault) → f.offset ≡ g.offset → f.number ≡ g.number → f ≡ g
same_place f g o n = λ i. record { number = n i; offset = o i }

equal_order : (f g : Fault) → Before f g → Before g f → f ≡ g
equal_order f g (lower h) (lower k) = absurd (omega arith)
equal_order f g (lower h) (listed e k) = absurd (omega arith)
equal_order f g (listed e h) (lower k) = absurd (omega arith)
equal_order f g (listed e h) (listed e' k) = same_place f g e (le_antisymm h k)

pub one_least : OneLeast
one_least f g fs least_f least_g = equal_order f g (least_f.before_all g least_g.one_of) (least_g.before_all f least_f.one_of)
