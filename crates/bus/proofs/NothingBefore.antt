-- Until the writer's packet is whole it changes nothing but two status bits: "incomplete" and "escape seen".
use Prim.Native.Nat.{ℕ, zero, suc, ◌+◌, ◌-◌, ◌≤◌, ◌<◌}
use mathlib.Core.Path.{◌≡◌, refl, ap, ◌∙◌}
use mathlib.Core.Bool.{Bool, true, false, cond}
use mathlib.Core.List.{List, [], ◌∷◌, ◌++◌, append_assoc, append-nil}
use native.Mathlib.Omega.{arith}
use lib.ListN.{length, take, length-append, length-take}
use lib.Seq.{take-append-le, take-append-add}
use lib.Dec.{eqb, ltb, eqb-suc-zero}
use borrow.Author.Tests.{ltb-true, ltb-false}
use Rattle.packet.specs.Packet.{command_byte, checksum, escape_byte, escape, packet_of, packet}
use Rattle.std.proofs.lemmas.List.Concat.{flat_map-append}
use Rattle.bus.specs.declared.Phase.{Phase}
use Rattle.bus.specs.declared.Phase.TheVariants.{Command, Length}
use Rattle.bus.specs.declared.Collected.{Collected}
use Rattle.bus.specs.declared.Controller.{Controller}
use Rattle.settings.specs.declared.settings.Settings.{Settings}
use Rattle.settings.specs.declared.settings.Flag.TheVariants.{Incomplete, EscapeSeen}
use Rattle.settings.specs.Settings.{flagged, cleared}
use Rattle.settings.proofs.StatusLaws.{cleared_flagged}
use Rattle.bus.specs.Bus.{is_idle, feed_at, after_length, after}
use Rattle.bus.specs.Run.{run}
use Rattle.bus.specs.BusTheorems.{NothingBefore, ClearedBefore}
use Rattle.bus.proofs.RunLaws.{run_append}
use Rattle.packet.specs.Packet.{has_escape}
use Rattle.bus.specs.Bus.{opening, noted}
use Rattle.bus.proofs.ReadsBack.{noted_append, reading, escape_opens, byte_in, after_length_busy, fields_in, packet_is, start_in}

-- ---- what holds of every proper beginning of an escaped list

-- a proper beginning of xs ++ ys is one of xs, or xs and one of ys
in_append : (xs ys : List ℕ) (P : List ℕ → Type 0) → ((i : ℕ) → i < length xs → P (take i xs)) → ((i : ℕ) → i < length ys → P (xs ++ take i ys)) →
    (i : ℕ) → i < length (xs ++ ys) → P (take i (xs ++ ys))
in_append xs ys P first second i h = by_cases (ltb i (length xs)) refl
  where
    by_cases : (x : Bool) → ltb i (length xs) ≡ x → P (take i (xs ++ ys))
    by_cases true e =
        let short : i < length xs = ltb-true i (length xs) e in
        rw (take-append-le i xs ys (omega arith)) (first i short)
    by_cases false e =
        let split : i ≡ length xs + (i - length xs) = omega (arith, ltb-false i (length xs) e) in
        rw (split, take-append-add xs ys (i - length xs)) (second (i - length xs) (omega (arith, length-append xs ys)))

-- a proper beginning of an escaped byte is empty, or an escape
in_byte : (v : ℕ) (P : List ℕ → Type 0) → P [] → P (0x5A ∷ []) → (i : ℕ) → i < length (escape_byte v) → P (take i (escape_byte v))
unfolding escape_byte
in_byte v P none opened = by_cases (eqb v 0xA5) (eqb v 0x5A)
  where
    pair : (b i : ℕ) → i < 2 → P (take i (0x5A ∷ b ∷ []))
    pair b zero h = none
    pair b (suc zero) h = opened
    pair b (suc (suc i)) h = absurd (omega arith)

    single : (i : ℕ) → i < 1 → P (take i (v ∷ []))
    single zero h = none
    single (suc i) h = absurd (omega arith)

    by_cases : (x y : Bool) (i : ℕ) → let bytes = cond x (0x5A ∷ 0x00 ∷ []) (cond y (0x5A ∷ 0x5A ∷ []) (v ∷ [])) in i < length bytes → P (take i bytes)
    by_cases true y i h = pair 0x00 i h
    by_cases false true i h = pair 0x5A i h
    by_cases false false i h = single i h

-- a proper beginning of an escaped list is whole bytes, or whole bytes and an escape
in_escape : (vs : List ℕ) (P : List ℕ → Type 0) → ((j : ℕ) → j < length vs → P (escape (take j vs))) →
    ((j : ℕ) → j < length vs → P (escape (take j vs) ++ 0x5A ∷ [])) → (i : ℕ) → i < length (escape vs) → P (take i (escape vs))
in_escape [] P whole opened i h = absurd (omega arith)
in_escape (v ∷ vs) P whole opened i h =
    in_append (escape_byte v) (escape vs) P (in_byte v P (whole 0 (omega arith)) (opened 0 (omega arith)))
    (in_escape vs (λ bytes. P (escape_byte v ++ bytes)) (λ j l. whole (suc j) (omega arith)) (λ j l. rw append_assoc at (opened (suc j) (omega arith)))) i h

-- ---- a packet that is not whole

-- between two bytes of the packet the controller reads on, and only an escape is noted
record Unfinished (σ : Settings) (c : Controller) (bytes : List ℕ) : Type 0 where
  phase : Phase
  busy : is_idle phase ≡ false
  held : Collected
  is_reading : run c bytes ≡ reading (noted σ bytes) phase held

-- so it is after any of a packet's fields but the last
unfinished : (σ : Settings) (held : Collected) (k : ℕ) (d : List ℕ) (sum j : ℕ) → j < length (k ∷ length d ∷ d ++ sum ∷ []) →
    Unfinished σ (reading σ Command held) (escape (take j (k ∷ length d ∷ d ++ sum ∷ [])))
unfolding run has_escape feed_at
unfinished σ held k d sum zero h = record { phase = Command; busy = refl; held = held; is_reading = refl }
unfinished σ held k d sum (suc zero) h = rw append-nil (record { phase = Length; busy = refl; held = _; is_reading = byte_in σ Command held refl k })
unfinished σ held k d sum (suc (suc j)) h =
    let left = length d - j in
    let short : j ≤ length d = omega (arith, length-append d (sum ∷ [])) in
    let split : length d ≡ length (take j d) + left = omega (arith, length-take j d) in
    rw (take-append-le j d (sum ∷ []) short)
    (record { phase = after_length left; busy = after_length_busy left; held = _; is_reading = fields_in σ held k (take j d) (length d) left split })

module _ {σ : Settings} {c : Controller} {bytes : List ℕ} (u : Unfinished σ c bytes) where
  noted_between : (run c bytes).settings ≡ noted σ bytes
  noted_between = ap (λ (x : Controller). x.settings) u.is_reading

  noted_escape : (run c (bytes ++ 0x5A ∷ [])).settings ≡ noted σ (bytes ++ 0x5A ∷ [])
  unfolding run has_escape
  noted_escape =
      ap (λ (x : Controller). x.settings)
      (run_append bytes (0x5A ∷ []) c ∙ ap (λ (x : Controller). after x 0x5A) u.is_reading ∙ escape_opens (noted σ bytes) u.phase u.held u.busy)
      ∙ noted_append σ bytes (0x5A ∷ [])

-- inside a packet that has begun
noted_inside : (σ : Settings) (held : Collected) (k : ℕ) (d : List ℕ) (sum i : ℕ) → let fields = k ∷ length d ∷ d ++ sum ∷ [] in
    i < length (escape fields) → (run (reading σ Command held) (take i (escape fields))).settings ≡ noted σ (take i (escape fields))
noted_inside σ held k d sum =
    in_escape (k ∷ length d ∷ d ++ sum ∷ []) (λ bytes. (run (reading σ Command held) bytes).settings ≡ noted σ bytes)
    (λ j h. noted_between (unfinished σ held k d sum j h)) (λ j h. noted_escape (unfinished σ held k d sum j h))

-- ---- the theorems

packet_escaped : (k : ℕ) (d : List ℕ) → packet_of k d ≡ 0xA5 ∷ escape (k ∷ length d ∷ d ++ checksum (k ∷ length d ∷ d) ∷ [])
packet_escaped k d = packet_is k d ∙ simp (flat_map-append, append_assoc, append-nil)

pub nothing_before : NothingBefore
unfolding run has_escape
nothing_before c id access d zero h = refl
nothing_before c id access d (suc i) h =
    let k = command_byte id access in
    let sum = checksum (k ∷ length d ∷ d) in
    rw (packet_escaped k d, eqb-suc-zero i)
    (ap (λ (x : Controller). (run x (take i (escape (k ∷ length d ∷ d ++ sum ∷ [])))).settings) (start_in c)
    ∙ noted_inside (opening c) c.packet k d sum i (omega (arith, ap length (packet_escaped k d))))

pub cleared_opening : (c : Controller) → cleared (opening c) ≡ cleared c.settings
cleared_opening c = by_cases (is_idle c.phase)
  where
    by_cases : (x : Bool) → cleared (cond x c.settings (flagged c.settings Incomplete)) ≡ cleared c.settings
    by_cases true = refl
    by_cases false = cleared_flagged c.settings Incomplete

pub cleared_noted : (σ : Settings) (bytes : List ℕ) → cleared (noted σ bytes) ≡ cleared σ
cleared_noted σ bytes = by_cases (has_escape bytes)
  where
    by_cases : (x : Bool) → cleared (cond x (flagged σ EscapeSeen) σ) ≡ cleared σ
    by_cases true = cleared_flagged σ EscapeSeen
    by_cases false = refl

pub cleared_before : ClearedBefore
cleared_before c id access d i h = rw (nothing_before c id access d i h) (by_cases (eqb i 0))
  where
    by_cases : (x : Bool) → cleared (cond x c.settings (noted (opening c) (take i (packet id access d)))) ≡ cleared c.settings
    by_cases true = refl
    by_cases false = cleared_noted (opening c) (take i (packet id access d)) ∙ cleared_opening c
