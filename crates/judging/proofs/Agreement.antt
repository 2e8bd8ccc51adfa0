-- The fault told is the least of all that the bytes have.
use Prim.Native.Nat.{ℕ, ◌+◌, ◌<◌, ◌≤◌}
use native.Mathlib.Nat.{add-zero}
use native.Mathlib.Omega.{arith}
use mathlib.Core.Path.{◌≡◌, refl, sym, ap, subst, ◌∙◌}
use mathlib.Core.Bool.{Bool, true, false, beq, cond, not, ◌&&◌, ◌||◌, and-false, or-false}
use mathlib.Core.List.Memᴰ
use mathlib.Core.List.{List, [], ◌∷◌, Memᴰ}
use mathlib.Core.Option.{Option, none, some}
use lib.ListN.{length, get_or, drop, length-drop}
use lib.Seq.{get_or-drop, drop-drop}
use lib.Dec.{T, eqb, leb, ltb}
use borrow.Author.Tests.{eq-eqb, ne_eqb, lt-ltb, le-ltb, le-leb, lt-leb, eqb-true, eqb-false, ltb-true, ltb-false}
use Rattle.base.specs.Bytes.{Bytes}
use Rattle.base.specs.Refusal.{Fault, fault}
use Rattle.base.proofs.ByteLaws.{bytes_take, bytes_drop}
use Rattle.base.proofs.Tests.{all_below, below_each}
use Rattle.number.specs.Number.{le16, le32}
use Rattle.judging.specs.declared.End.{End}
use Rattle.judging.specs.declared.End.TheVariants.{Box, Office}
use Rattle.judging.specs.Decoding.{contents_length, field_length, contents, is_first, is_change, is_for, length_right, contents_allowed, unless, field_fault, end_fault, last_fault, rest_fault, fault_told, frame_in, Decoded, a_fault, a_frame, decoded, decode}
use Rattle.judging.specs.Faults.{among, first_tags, second_tags, tags_for, other, tag_at, length_at, end_at, place, places_behind, places, needed, wrong_length, wrong_contents, ends_early, unexpected_tag, unexpected_length, unexpected_contents, goes_on, for_other_end, tests, faults, Least}
use Rattle.judging.specs.Theorems.{Tells, TellsLeast, FaultExact}
use Rattle.judging.proofs.Carried.{agree_equal, refusal_same}
use Rattle.judging.proofs.Exact.{FirstTag, tag_opening, tag_welcome, tag_order, tag_ack, tag_refuse, first_tag, field_right}
use Rattle.judging.proofs.Least.{first_at, first_of, NumbersFrom, OffsetsFrom, TellsFirst, first_least, one_least}

-- ---- two ways to say a test

between : (k n : ℕ) → leb k n && leb n k ≡ eqb n k
between k n = go (eqb n k) refl (ltb n k) refl
  where
    go : (x : Bool) → eqb n k ≡ x → (y : Bool) → ltb n k ≡ y → leb k n && leb n k ≡ eqb n k
    go true e y q = let is = eqb-true n k e in rw (e, le-leb k n (omega (arith, is)), le-leb n k (omega (arith, is)))
    go false e true q = rw (e, lt-leb k n (ltb-true n k q))
    go false e false q = rw (e, lt-leb n k (omega (arith, ltb-false n k q, eqb-false n k e)), and-false)

not_zero : (n : ℕ) → not (eqb n 0) ≡ leb 1 n
not_zero n = go (eqb n 0) refl
  where
    go : (x : Bool) → eqb n 0 ≡ x → not (eqb n 0) ≡ leb 1 n
    go true e = rw (e, lt-leb 1 n (omega (arith, eqb-true n 0 e)))
    go false e = rw (e, le-leb 1 n (omega (arith, eqb-false n 0 e)))

first_same : (tag : ℕ) → tag < 256 → is_first tag ≡ among tag first_tags
unfolding all_below
first_same tag h = agree_equal _ _ (below_each 256 (λ n. beq (is_first n) (among n first_tags)) tt tag h)

change_same : (tag : ℕ) → tag < 256 → is_change tag ≡ among tag (second_tags 0x12)
unfolding all_below
change_same tag h = agree_equal _ _ (below_each 256 (λ n. beq (is_change n) (among n (second_tags 0x12))) tt tag h)

-- ---- a tag's lengths and contents, in the table and in the tests

record Aligned (tag : ℕ) : Type 0 where
  lengths : (n : ℕ) → wrong_length tag n ≡ not (length_right tag n)
  contents : (d : List ℕ) → Bytes d → wrong_contents tag d ≡ not (contents_allowed tag d)

abbrev EachAligned : List ℕ → Type 0
EachAligned [] = T true
EachAligned (tag ∷ tags) = Aligned tag × EachAligned tags

aligned_among : (tag : ℕ) (tags : List ℕ) → EachAligned tags → among tag tags ≡ true → Aligned tag
aligned_among tag [] each e = absurd (subst T (sym e) tt)
aligned_among tag (m ∷ tags) each e = go (eqb tag m) refl (aligned_among tag tags each.1) e
  where
    go : (x : Bool) → eqb tag m ≡ x → (among tag tags ≡ true → Aligned tag) → x || among tag tags ≡ true → Aligned tag
    go true q later p = subst Aligned (sym (eqb-true tag m q)) each.0
    go false q later p = later p

first_aligned : EachAligned first_tags
unfolding length_right contents_allowed
first_aligned = (
  record { lengths = λ n. rw (between, or-false); contents = λ d h. refl },
  (
    record { lengths = λ n. rw (between, or-false); contents = λ d h. refl },
    (
      record { lengths = λ n. rw (between, or-false); contents = λ d h. rw (not_zero (le16 (drop 4 d)), or-false) },
      (
        record { lengths = λ n. rw (between, or-false); contents = λ d h. refl },
        (
          record { lengths = λ n. rw (between, or-false); contents = λ d h. rw (refusal_same (get_or d 4 0) (h 4) (eqb (le32 d) 0), or-false) },
          tt,
        ),
      ),
    ),
  ),
)

settings_aligned : EachAligned (second_tags 0x11)
unfolding length_right contents_allowed
settings_aligned = (record { lengths = λ n. rw (between, or-false); contents = λ d h. rw or-false }, tt)

change_aligned : EachAligned (second_tags 0x12)
unfolding length_right contents_allowed
change_aligned = (
  record { lengths = λ n. rw or-false; contents = λ d h. refl },
  (
    record { lengths = λ n. rw (between, or-false); contents = λ d h. refl },
    (
      record { lengths = λ n. rw (between, or-false); contents = λ d h. refl },
      tt,
    ),
  ),
)

-- ---- the tests at a place, in their order

-- where c is "ends early", e "tag expected", l "length right" and a "contents allowed"
in_order : (c e l a t14 t15 t16 t17 t18 : Bool) (f14 f15 f16 f17 f18 : Fault) (next : Option Fault) →
    t14 ≡ c → (c ≡ false → t15 ≡ not e) → (c ≡ false → e ≡ true → t16 ≡ not l) → (c ≡ false → e ≡ true → l ≡ true → t17 ≡ not a) → t18 ≡ false →
    cond t14 (some f14) (cond t15 (some f15) (cond t16 (some f16) (cond t17 (some f17) (cond t18 (some f18) next))))
    ≡ unless (cond c (some f14) (cond e (cond l (cond a none (some f17)) (some f16)) (some f15))) next
in_order true e l a t14 t15 t16 t17 t18 f14 f15 f16 f17 f18 next h14 h15 h16 h17 h18 = rw h14
in_order false false l a t14 t15 t16 t17 t18 f14 f15 f16 f17 f18 next h14 h15 h16 h17 h18 = rw (h14, h15 refl)
in_order false true false a t14 t15 t16 t17 t18 f14 f15 f16 f17 f18 next h14 h15 h16 h17 h18 = rw (h14, h15 refl, h16 refl refl)
in_order false true true false t14 t15 t16 t17 t18 f14 f15 f16 f17 f18 next h14 h15 h16 h17 h18 = rw (h14, h15 refl, h16 refl refl, h17 refl refl refl)
in_order false true true true t14 t15 t16 t17 t18 f14 f15 f16 f17 f18 next h14 h15 h16 h17 h18 = rw (h14, h15 refl, h16 refl refl, h17 refl refl refl, h18)

module _ (end : End) (b : List ℕ) (bytes : Bytes b) (offset : ℕ) (inside : offset ≤ length b) where
  tag_here : tag_at b offset ≡ get_or (drop offset b) 0 0
  tag_here = sym (get_or-drop offset b 0 0 ∙ ap (λ (i : ℕ). get_or b i 0) (add-zero offset))

  length_here : length_at b offset ≡ contents_length (drop offset b)
  length_here = ap le16 (sym (drop-drop 1 offset b))

  early_here : ltb (length b) (end_at b offset) ≡ ltb (length (drop offset b)) (field_length (drop offset b))
  early_here = go (ltb (length b) (end_at b offset)) refl
    where
      go : (x : Bool) → ltb (length b) (end_at b offset) ≡ x → ltb (length b) (end_at b offset) ≡ ltb (length (drop offset b)) (field_length (drop offset b))
      go true e = rw (e, lt-ltb (length (drop offset b)) (field_length (drop offset b)) (omega (arith, length-drop offset b, length_here, ltb-true (length b) (end_at b offset) e)))
      go false e = rw (e, le-ltb (length (drop offset b)) (field_length (drop offset b)) (omega (arith, length-drop offset b, length_here, ltb-false (length b) (end_at b offset) e)))

  -- a needed field: the tests of the field, and then whether it is for the other end
  at_needed : (tags : List ℕ) → needed (place offset tags) ≡ true → EachAligned tags →
      first_at (tests end b) (place offset tags)
      ≡ unless (field_fault (among (get_or (drop offset b) 0 0) tags) (drop offset b) offset)
      (cond (for_other_end end b (place offset tags)) (some (fault 19 offset)) none)
  unfolding field_fault
  at_needed tags need each =
      let x = drop offset b in
      let tag = get_or x 0 0 in
      let p = place offset tags in
      let long : ltb (length x) (field_length x) ≡ false → end_at b offset ≤ length b = λ whole. ltb-false (length b) (end_at b offset) (early_here ∙ whole) in
      in_order (ltb (length x) (field_length x)) (among tag tags) (length_right tag (contents_length x)) (contents_allowed tag (contents x))
      (ends_early b p) (unexpected_tag b p) (unexpected_length b p) (unexpected_contents b p) (goes_on b p) _ _ _ _ _ _
      (rw need early_here)
      (λ whole. rw (need, lt-ltb offset (length b) (omega (arith, long whole)), tag_here))
      (λ whole expected. rw (need, lt-ltb (offset + 2) (length b) (omega (arith, long whole)), tag_here, length_here) ((aligned_among tag tags each expected).lengths (contents_length x)))
      (λ whole expected right.
      let known = aligned_among tag tags each expected in
      rw (need, le-leb (end_at b offset) (length b) (long whole), tag_here, length_here, known.lengths (contents_length x), right, ← drop-drop 3 offset b)
      (known.contents (contents x) (bytes_take (contents_length x) (drop 3 x) (bytes_drop 3 x (bytes_drop offset b bytes)))))
      (rw need)

-- where the frame must have ended
at_end : (end : End) (b : List ℕ) (offset : ℕ) → 0 < offset → first_at (tests end b) (place offset []) ≡ end_fault (drop offset b) offset
at_end end b offset behind = go (ltb offset (length b)) refl
  where
    go : (x : Bool) → ltb offset (length b) ≡ x → first_at (tests end b) (place offset []) ≡ end_fault (drop offset b) offset
    go true e = rw (e, ne_eqb (length (drop offset b)) 0 (λ z. omega (arith, z, length-drop offset b, ltb-true offset (length b) e)))
    go false e =
        rw (e, ne_eqb offset 0 (λ z. omega (arith, z)), eq-eqb (length (drop offset b)) 0 (omega (arith, length-drop offset b, ltb-false offset (length b) e)))

-- ---- all places

none_after : (o : Option Fault) → unless o none ≡ o
none_after (some f) = refl
none_after none = refl

module _ (end : End) (b : List ℕ) (bytes : Bytes b) where
  -- a last field at an offset, and the place behind it
  at_last : (offset : ℕ) → 0 < offset → offset ≤ length b → (tags : List ℕ) → needed (place offset tags) ≡ true → EachAligned tags → (expected : Bool) →
      expected ≡ among (get_or (drop offset b) 0 0) tags →
      first_of (tests end b) (place offset tags ∷ place (end_at b offset) [] ∷ []) ≡ last_fault expected (drop offset b) offset
  unfolding last_fault
  at_last offset behind inside tags need each expected same =
      let x = drop offset b in
      let finish : end_at b offset ≡ offset + field_length x = omega (arith, length_here end b bytes offset inside) in
      let beyond : drop (field_length x) x ≡ drop (end_at b offset) b = drop-drop (field_length x) offset b ∙ ap (λ (n : ℕ). drop n b) (sym finish) in
      rw (at_needed end b bytes offset inside tags need each, ne_eqb offset 0 (λ z. omega (arith, z)), none_after, at_end end b (end_at b offset) (omega arith), same, beyond, ← finish, none_after (end_fault (drop (end_at b offset) b) (end_at b offset)))

  -- behind a first field in order, at either end
  module _ (whole : field_length b ≤ length b) where
    ended_same : first_of (tests end b) (place (end_at b 0) [] ∷ []) ≡ end_fault (drop (field_length b) b) (field_length b)
    ended_same = none_after (first_at (tests end b) (place (end_at b 0) [])) ∙ at_end end b (end_at b 0) (omega arith)

    byte_next : get_or (drop (field_length b) b) 0 0 < 256
    byte_next = bytes_drop (field_length b) b bytes 0

    welcome_same : first_of (tests end b) (places_behind b 0 (second_tags 0x11)) ≡ last_fault (eqb (get_or (drop (field_length b) b) 0 0) 0x20) (drop (field_length b) b) (field_length b)
    welcome_same =
        at_last (field_length b) (omega arith) whole (second_tags 0x11) refl settings_aligned (eqb (get_or (drop (field_length b) b) 0 0) 0x20) (sym (or-false _))

    order_same : first_of (tests end b) (places_behind b 0 (second_tags 0x12)) ≡ last_fault (is_change (get_or (drop (field_length b) b) 0 0)) (drop (field_length b) b) (field_length b)
    order_same =
        at_last (field_length b) (omega arith) whole (second_tags 0x12) refl change_aligned (is_change (get_or (drop (field_length b) b) 0 0)) (change_same _ byte_next)

-- behind a first field with which nothing is wrong, but perhaps its end
behind_same : (end : End) (b : List ℕ) → Bytes b → field_length b ≤ length b → (tag : ℕ) → FirstTag tag →
    unless (cond (among tag (tags_for (other end))) (some (fault 19 0)) none) (first_of (tests end b) (places_behind b 0 (second_tags tag)))
    ≡ cond (is_for end tag) (rest_fault tag (drop (field_length b) b) (field_length b)) (some (fault 19 0))
unfolding rest_fault
behind_same Box b bytes whole _ tag_opening = ended_same Box b bytes whole
behind_same Office b bytes whole _ tag_opening = refl
behind_same Box b bytes whole _ tag_welcome = refl
behind_same Office b bytes whole _ tag_welcome = welcome_same Office b bytes whole
behind_same Box b bytes whole _ tag_order = order_same Box b bytes whole
behind_same Office b bytes whole _ tag_order = refl
behind_same Box b bytes whole _ tag_ack = refl
behind_same Office b bytes whole _ tag_ack = ended_same Office b bytes whole
behind_same Box b bytes whole _ tag_refuse = refl
behind_same Office b bytes whole _ tag_refuse = ended_same Office b bytes whole

unless_unless : (o p q : Option Fault) → unless (unless o p) q ≡ unless o (unless p q)
unless_unless (some f) p q = refl
unless_unless none p q = refl

unless_same : (o p q : Option Fault) → (o ≡ none → p ≡ q) → unless o p ≡ unless o q
unless_same (some f) p q h = refl
unless_same none p q h = h refl

told_first : (end : End) (b : List ℕ) → Bytes b → first_of (tests end b) (places b) ≡ fault_told end b
unfolding fault_told
told_first end b bytes =
    let tag = get_or b 0 0 in
    let tests_of_field = field_fault (among tag first_tags) b 0 in
    let behind = first_of (tests end b) (places_behind b 0 (second_tags tag)) in
    let other_end = cond (for_other_end end b (place 0 first_tags)) (some (fault 19 0)) none in
    let rest = cond (is_for end tag) (rest_fault tag (drop (field_length b) b) (field_length b)) (some (fault 19 0)) in
    let named = first_same tag (bytes 0) in
    ap (λ (o : Option Fault). unless o behind) (at_needed end b bytes 0 (omega arith) first_tags refl first_aligned)
    ∙ unless_unless tests_of_field other_end behind
    ∙ unless_same tests_of_field (unless other_end behind) rest
    (λ none_told.
    let right = field_right (among tag first_tags) b 0 bytes none_told in
    rw (lt-ltb 0 (length b) (omega (arith, right.inside))) (behind_same end b bytes right.inside tag (first_tag tag (named ∙ right.tag_expected))))
    ∙ ap (λ (expected : Bool). unless (field_fault expected b 0) rest) (sym named)

numbers_rise : (end : End) (b : List ℕ) → NumbersFrom 14 (tests end b)
numbers_rise end b = search arith

behind_rise : (b : List ℕ) (tags : List ℕ) → OffsetsFrom 1 (places_behind b 0 tags)
behind_rise b [] = (omega arith, tt)
behind_rise b (tag ∷ tags) = (omega arith, (omega arith, tt))

pub tells_least : TellsLeast
unfolding decode
tells_least end b bytes = go (fault_told end b) (first_least (tests end b) 14 (numbers_rise end b) 0 (places b) (omega arith, behind_rise b (second_tags (tag_at b 0))) _ (told_first end b bytes))
  where
    go : (o : Option Fault) → TellsFirst o (faults end b) → Tells (decoded o (frame_in b)) (faults end b)
    go (some f) least = least
    go none empty = empty

pub fault_exact : FaultExact
fault_exact end b bytes f = (
  λ told. subst (λ (d : Decoded). Tells d (faults end b)) told (tells_least end b bytes),
  λ least. go least (decode end b) (tells_least end b bytes),
)
  where
    go : Least f (faults end b) → (d : Decoded) → Tells d (faults end b) → d ≡ a_fault f
    go least (a_fault g) tells = ap a_fault (one_least g f (faults end b) tells least)
    go least (a_frame frame) clean = absurd (Memᴰ.not-nil (subst (Memᴰ f) clean least.one_of))
