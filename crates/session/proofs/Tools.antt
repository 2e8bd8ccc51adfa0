-- Tools of the proofs: functions updated at one number, elements and prefixes of lists, frames decoded from bytes.
use Prim.Native.Nat.{ℕ, zero, suc, ◌+◌, ◌<◌, ◌≤◌}
use native.Mathlib.Omega.{arith}
use native.Mathlib.Numerals.{add-one}
use native.Mathlib.Nat.{not-suc-le-zero, le_of_suc-le-suc}
use mathlib.Core.Path.{◌≡◌, refl, sym, ap, ◌∙◌, subst, fun_ext}
use mathlib.Core.Bool.{Bool, true, false, false≢true}
use mathlib.Core.List.{List, [], ◌∷◌, ◌++◌, Memᴰ}
use mathlib.Core.Option.{some, some-injective, none-ne-some}
use lib.ListN.{length, take, get_elem?, length-append, length-take}
use lib.Seq.{take_all, take-append-le}
use lib.Dec.{eqb}
use borrow.Author.Tests.{eqb-true, eqb-false, eq-eqb, ne_eqb}
use Rattle.std.proofs.lemmas.Bool.{cond_both}
use Rattle.frame.specs.Frame.{Frame}
use Rattle.link.specs.Encoding.{Valid, encode}
use Rattle.judging.specs.declared.End.{End}
use Rattle.judging.specs.Decoding.{a_frame, decode}
use Rattle.judging.specs.Theorems.{reader}
use Rattle.judging.proofs.Exact.{decode_encode}
use Rattle.session.specs.Calls.{updated}

-- a test that fails does not hold
pub impossible : {A : Type 0} → false ≡ true → A
impossible e = absurd (false≢true e)

-- ---- a function updated at one number

module _ {A : Type 0} (f : ℕ → A) (s : ℕ) (a : A) where
  pub updated_same : updated f s a s ≡ a
  updated_same = rw (eq-eqb s s refl)

  pub updated_other : (t : ℕ) → (s ≡ t → ⊥) → updated f s a t ≡ f t
  updated_other t other = rw (ne_eqb s t other)

  -- a property of the new value there and of the old values elsewhere
  pub updated_each : (P : ℕ → A → Type 0) → P s a → ((t : ℕ) → (s ≡ t → ⊥) → P t (f t)) → (t : ℕ) → P t (updated f s a t)
  updated_each P here elsewhere t =
      cond_both (eqb s t) a (f t) (P t) (λ e. subst (λ (x : ℕ). P x a) (eqb-true s t e) here) (λ e. elsewhere t (eqb-false s t e))

  -- an update by the value that is there
  pub updated_by_own : f s ≡ a → updated f s a ≡ f
  updated_by_own own = fun_ext (updated_each (λ t x. x ≡ f t) (sym own) (λ _ _. refl))

-- ---- elements of lists

module _ {A : Type 0} where
  pub get_elem?_below : (l : List A) (i : ℕ) (a : A) → get_elem? l i ≡ some a → i < length l
  get_elem?_below [] i a e = absurd (none-ne-some a e)
  get_elem?_below (x ∷ l) zero a e = omega arith
  get_elem?_below (x ∷ l) (suc i) a e = omega (arith, get_elem?_below l i a e)

  pub get_elem?_append : (l m : List A) (i : ℕ) → i < length l → get_elem? (l ++ m) i ≡ get_elem? l i
  get_elem?_append [] m i h = absurd (not-suc-le-zero h)
  get_elem?_append (x ∷ l) m zero h = refl
  get_elem?_append (x ∷ l) m (suc i) h = get_elem?_append l m i (le_of_suc-le-suc h)

  pub get_elem?_last : (l : List A) (a : A) → get_elem? (l ++ (a ∷ [])) (length l) ≡ some a
  get_elem?_last [] a = refl
  get_elem?_last (x ∷ l) a = get_elem?_last l a

  -- a property of every element, and of one more
  pub get_elem?_each : (P : A → Type 0) (l : List A) (a : A) → P a → ((i : ℕ) (b : A) → get_elem? l i ≡ some b → P b) → (i : ℕ) (b : A) →
      get_elem? (l ++ (a ∷ [])) i ≡ some b → P b
  get_elem?_each P [] a last before zero b e = subst P (some-injective a b e) last
  get_elem?_each P [] a last before (suc i) b e = absurd (none-ne-some b e)
  get_elem?_each P (x ∷ l) a last before zero b e = before zero b e
  get_elem?_each P (x ∷ l) a last before (suc i) b e = get_elem?_each P l a last (λ j. before (suc j)) i b e

  pub take_next : (n : ℕ) (l : List A) (a : A) → get_elem? l n ≡ some a → take (suc n) l ≡ take n l ++ (a ∷ [])
  take_next n [] a e = absurd (none-ne-some a e)
  take_next zero (x ∷ l) a e = ap (λ (y : A). y ∷ []) (some-injective x a e)
  take_next (suc n) (x ∷ l) a e = ap (λ (m : List A). x ∷ m) (take_next n l a e)

  pub length_one_more : (l : List A) (a : A) → length (l ++ (a ∷ [])) ≡ length l + 1
  length_one_more l a = length-append l (a ∷ [])

  -- ---- prefixes

  -- l is a prefix of m
  abbrev pub Prefix : List A → List A → Type 0
  Prefix l m = l ≡ take (length l) m

  pub prefix_length : (l m : List A) → Prefix l m → length l ≤ length m
  prefix_length l m e = omega (arith, ap length e, length-take (length l) m)

  pub prefix_append : (l m k : List A) → Prefix l m → Prefix l (m ++ k)
  prefix_append l m k e = e ∙ sym (take-append-le (length l) m k (prefix_length l m e))

  pub prefix_next : (l m : List A) (a : A) → Prefix l m → get_elem? m (length l) ≡ some a → Prefix (l ++ (a ∷ [])) m
  prefix_next l m a e next = rw (length_one_more l a, add-one, take_next (length l) m a next) (ap (λ (k : List A). k ++ (a ∷ [])) e)

  pub prefix_whole : (l m : List A) → Prefix l m → length m ≤ length l → l ≡ m
  prefix_whole l m e h = e ∙ take_all (length l) m h

-- ---- frames and their bytes

-- bytes that decode to a valid frame of which P holds, at the end for which it is meant
pub record Decodes (P : Frame → Type 0) (bytes : List ℕ) : Type 0 where
  pub frame : Frame
  pub encoded : bytes ≡ encode frame
  pub decoded : decode (reader frame) bytes ≡ a_frame frame
  pub valid : Valid frame
  pub holds : P frame

abbrev pub EachDecodes : (Frame → Type 0) → List (List ℕ) → Type 0
EachDecodes P frames = (bytes : List ℕ) → Memᴰ bytes frames → Decodes P bytes

-- at an end for which every frame is meant of which P holds
pub decoded_at : {P : Frame → Type 0} {bytes : List ℕ} (end : End) → ((f : Frame) → P f → reader f ≡ end) → (written : Decodes P bytes) → decode end bytes ≡ a_frame written.frame
decoded_at {P} {bytes} end meant written = subst (λ (x : End). decode x bytes ≡ a_frame written.frame) (meant written.frame written.holds) written.decoded

module _ (P : Frame → Type 0) (frames : List (List ℕ)) (each : EachDecodes P frames) where
  pub decodes_weaker : (Q : Frame → Type 0) → ((f : Frame) → P f → Q f) → EachDecodes Q frames
  decodes_weaker Q weaker bytes m =
      let written = each bytes m in
      record { frame = written.frame; encoded = written.encoded; decoded = written.decoded; valid = written.valid; holds = weaker written.frame written.holds }

  -- one more frame is written
  pub decodes_one_more : (f : Frame) → Valid f → P f → EachDecodes P (encode f ∷ frames)
  decodes_one_more f valid holds bytes (Memᴰ.head e) =
      record { frame = f; encoded = e; decoded = ap (decode (reader f)) e ∙ decode_encode f valid; valid = valid; holds = holds }
  decodes_one_more f valid holds bytes (Memᴰ.tail m) = each bytes m

-- ---- a call's answer b, tested as `!b`

pub passed : {b test : Bool} → b ≡ test → b ≡ true → test ≡ true
passed e tested = sym e ∙ tested

pub failed : {b test : Bool} → b ≡ test → b ≡ false → test ≡ false
failed e tested = sym e ∙ tested
