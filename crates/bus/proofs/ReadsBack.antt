-- The writer's packet is read by the controller, whatever its state, as the command and the data that were written.
use Prim.Native.Nat.{ℕ, suc, ◌+◌, ◌-◌, ◌/◌, ◌%◌, ◌≤◌, ◌<◌}
use mathlib.Core.Path.{◌≡◌, refl, sym, ap, ◌∙◌}
use mathlib.Core.Bool.{Bool, true, false, cond, ◌||◌, or_assoc}
use mathlib.Core.List.{List, [], ◌∷◌, ◌++◌, append_assoc, append-nil}
use native.Mathlib.Omega.{arith}
use lib.ListN.{length, take, set}
use lib.Seq.{sets, length-sets, append_snoc, take_at}
use lib.Dec.{eqb, leb}
use borrow.Author.Tests.{eqb-true, leb-true, leb-false, eq-eqb, ne_eqb}
use Rattle.base.proofs.Lists.{sets_front}
use Rattle.packet.specs.Packet.{data_most, command_byte, total, checksum, escape_byte, escape, fields, packet_of, has_escape}
use Rattle.packet.proofs.PacketLaws.{checksum_snoc}
use Rattle.bus.specs.declared.Phase.{Phase}
use Rattle.bus.specs.declared.Phase.TheVariants.{Idle, Command, Length, Data, Checksum}
use Rattle.bus.specs.declared.Collected.{Collected}
use Rattle.bus.specs.declared.Controller.{Controller}
use Rattle.settings.specs.declared.settings.Settings.{Settings}
use Rattle.settings.specs.declared.settings.Flag.TheVariants.{Incomplete, EscapeSeen}
use Rattle.settings.specs.Settings.{set_bit, flagged}
use Rattle.bus.specs.Commands.{perform}
use Rattle.bus.specs.Bus.{
  flagged as flagged_controller,
  is_idle,
  opening,
  noted,
  waiting,
  nothing_unsent,
  controller_of,
  at,
  with_data,
  after_length,
  after_data,
  started,
  start,
  judge,
  feed_at,
  inside,
  after,
}
use Rattle.bus.specs.Run.{run}
use Rattle.bus.specs.BusTheorems.{PacketRead, ReadsBack}
use Rattle.bus.proofs.RunLaws.{run_append}

-- ---- "escape seen" twice is once

set_bit_twice : (b : ℕ) → set_bit (set_bit b 0x80) 0x80 ≡ set_bit b 0x80
unfolding set_bit
set_bit_twice b = by_cases (eqb (b / 0x80 % 2) 1) refl (leb b 0x7F) refl
  where
    by_cases : (x : Bool) → eqb (b / 0x80 % 2) 1 ≡ x → (y : Bool) → leb b 0x7F ≡ y → set_bit (set_bit b 0x80) 0x80 ≡ set_bit b 0x80
    by_cases true e y f = simp e
    by_cases false e true f =
        let set : eqb ((b + 0x80) / 0x80 % 2) 1 ≡ true = eq-eqb ((b + 0x80) / 0x80 % 2) 1 (omega (arith, leb-true b 0x7F f)) in
        simp (e, f, set)
    by_cases false e false f = simp (e, f)

flagged_twice : (σ : Settings) → flagged (flagged σ EscapeSeen) EscapeSeen ≡ flagged σ EscapeSeen
unfolding flagged
flagged_twice σ = rw (set_bit_twice σ.status.fourth)

has_escape_append : (xs ys : List ℕ) → has_escape (xs ++ ys) ≡ has_escape xs || has_escape ys
unfolding has_escape
has_escape_append [] ys = refl
has_escape_append (x ∷ xs) ys = rw (has_escape_append xs ys) (sym (or_assoc (eqb x 0x5A) (has_escape xs) (has_escape ys)))

pub noted_append : (σ : Settings) (xs ys : List ℕ) → noted (noted σ xs) ys ≡ noted σ (xs ++ ys)
noted_append σ xs ys = rw (has_escape_append xs ys) (by_cases (has_escape xs) (has_escape ys))
  where
    by_cases : (x y : Bool) → let seen = flagged σ EscapeSeen in cond y (flagged (cond x seen σ) EscapeSeen) (cond x seen σ) ≡ cond (x || y) seen σ
    by_cases true true = flagged_twice σ
    by_cases true false = refl
    by_cases false true = refl
    by_cases false false = refl

-- ---- one byte of the packet

-- a controller inside a packet, between two of its bytes
abbrev pub reading : Settings → Phase → Collected → Controller
reading σ phase held = controller_of phase false held nothing_unsent σ

-- a controller inside an escape
abbrev pub escaping : Settings → Phase → Collected → Controller
escaping σ phase held = controller_of phase true held nothing_unsent σ

abbrev holding : ℕ → ℕ → ℕ → List ℕ → Collected
holding k n sum body = record { command = k; count = n; sum = sum; body = body }

-- a byte of the packet shuts the escape
feed_shuts : (σ : Settings) (phase : Phase) (held : Collected) (v : ℕ) → is_idle phase ≡ false →
    feed_at phase (escaping σ phase held) v ≡ feed_at phase (reading σ phase held) v
unfolding feed_at judge
feed_shuts σ Idle held v busy = cc
feed_shuts σ Command held v busy = refl
feed_shuts σ Length held v busy = refl
feed_shuts σ (Data left) held v busy = refl
feed_shuts σ Checksum held v busy = refl

module _ (σ : Settings) (phase : Phase) (held : Collected) (busy : is_idle phase ≡ false) where
  -- an escape is noted, and changes nothing else
  pub escape_opens : after (reading σ phase held) 0x5A ≡ escaping (flagged σ EscapeSeen) phase held
  unfolding after inside
  escape_opens = rw busy

  -- a byte goes to `feed_at` as it was before it was escaped
  pub byte_in : (v : ℕ) → run (reading σ phase held) (escape_byte v) ≡ feed_at phase (reading (noted σ (escape_byte v)) phase held) v
  unfolding run escape_byte has_escape after inside
  byte_in v = by_cases (eqb v 0xA5) refl (eqb v 0x5A) refl
    where
      seen : Settings
      seen = flagged σ EscapeSeen

      pair : (b : ℕ) → after (escaping seen phase held) b ≡ feed_at phase (escaping seen phase held) v →
          run (reading σ phase held) (0x5A ∷ b ∷ []) ≡ feed_at phase (reading seen phase held) v
      pair b fed = ap (λ (c : Controller). after c b) escape_opens ∙ fed ∙ feed_shuts seen phase held v busy

      by_cases : (x : Bool) → eqb v 0xA5 ≡ x → (y : Bool) → eqb v 0x5A ≡ y →
          run (reading σ phase held) (escape_byte v) ≡ feed_at phase (reading (noted σ (escape_byte v)) phase held) v
      by_cases true e y f = simp (e, f) (pair 0x00 (rw (busy, eqb-true v 0xA5 e)))
      by_cases false e true f = simp (e, f) (pair 0x5A (rw (busy, eqb-true v 0x5A f)))
      by_cases false e false f = simp (e, f, busy)

  next_in : (v : ℕ) (rest : List ℕ) →
      run (reading σ phase held) (escape_byte v ++ rest) ≡ run (feed_at phase (reading (noted σ (escape_byte v)) phase held) v) rest
  next_in v rest = run_append (escape_byte v) rest (reading σ phase held) ∙ ap (λ (c : Controller). run c rest) (byte_in v)

-- ---- the fields

-- with data or the checksum to come no controller is idle
pub after_length_busy : (n : ℕ) → is_idle (after_length n) ≡ false
unfolding after_length
after_length_busy n = by_cases (eqb n 0)
  where
    by_cases : (x : Bool) → is_idle (cond x Checksum (Data n)) ≡ false
    by_cases true = refl
    by_cases false = refl

-- where `left` data bytes are to come, one of them leaves one fewer
after_data_is : (left : ℕ) → 0 < left → after_data left ≡ after_length (left - 1)
unfolding after_length after_data
after_data_is left more = by_cases (leb left 1) refl
  where
    by_cases : (x : Bool) → leb left 1 ≡ x → after_data left ≡ after_length (left - 1)
    by_cases true e = simp (e, eq-eqb (left - 1) 0 (omega (arith, leb-true left 1 e)))
    by_cases false e = simp (e, ne_eqb (left - 1) 0 (omega (arith, leb-false left 1 e)))

data_fed : (left : ℕ) (c : Controller) (v : ℕ) → 0 < left → feed_at (after_length left) c v ≡ at c (after_length (left - 1)) (with_data c.packet left v)
unfolding feed_at after_length
data_fed left c v more = rw (ne_eqb left 0 (omega arith), after_data_is left more)

-- data bytes from place i on: before them `left` are to come, after them m
data_in : (vs : List ℕ) (left m i : ℕ) (xs : List ℕ) (σ : Settings) (k n : ℕ) (body : List ℕ) → left ≡ length vs + m → n ≡ i + left →
    run (reading σ (after_length left) (holding k n (checksum xs) body)) (escape vs) ≡
    reading (noted σ (escape vs)) (after_length m) (holding k n (checksum (xs ++ vs)) (sets body i vs))
unfolding run has_escape
data_in [] left m i xs σ k n body e f = let same : left ≡ m = omega arith in rw (same, append-nil)
data_in (v ∷ vs) left m i xs σ k n body e f =
    let τ = noted σ (escape_byte v) in
    let held = holding k n (checksum xs) body in
    let here : n - left ≡ i = omega arith in
    next_in σ (after_length left) held (after_length_busy left) v (escape vs)
    ∙ ap (λ (c : Controller). run c (escape vs)) (data_fed left (reading τ (after_length left) held) v (omega arith))
    ∙ rw (here, ← (checksum_snoc xs v), ← (noted_append σ (escape_byte v) (escape vs)), ← (append_snoc xs v vs))
    (data_in vs (left - 1) m (suc i) (xs ++ v ∷ []) τ k n (set body i v) (omega arith) (omega arith))

sum_of_two : (k n : ℕ) → (k + n) % 256 ≡ checksum (k ∷ n ∷ [])
unfolding checksum total
sum_of_two k n = omega arith

-- the command byte, the length byte and the first data bytes; m more are to come
pub fields_in : (σ : Settings) (held : Collected) (k : ℕ) (vs : List ℕ) (n m : ℕ) → n ≡ length vs + m →
    run (reading σ Command held) (escape (k ∷ n ∷ vs)) ≡
    reading (noted σ (escape (k ∷ n ∷ vs))) (after_length m) (holding k n (checksum (k ∷ n ∷ vs)) (sets held.body 0 vs))
unfolding feed_at
fields_in σ held k vs n m e =
    let τ = noted σ (escape_byte k) in
    next_in σ Command held refl k (escape_byte n ++ escape vs)
    ∙ next_in τ Length (holding k 0 k held.body) refl n (escape vs)
    ∙ ap (λ (sum : ℕ). run (reading (noted τ (escape_byte n)) (after_length n) (holding k n sum held.body)) (escape vs)) (sum_of_two k n)
    ∙ data_in vs n m 0 (k ∷ n ∷ []) (noted τ (escape_byte n)) k n held.body e (omega arith)
    ∙ rw (noted_append τ (escape_byte n) (escape vs), noted_append σ (escape_byte k) (escape_byte n ++ escape vs))

-- a packet is its start, its fields escaped, and its checksum escaped
pub packet_is : (k : ℕ) (d : List ℕ) → packet_of k d ≡ 0xA5 ∷ (escape (k ∷ length d ∷ d) ++ escape_byte (checksum (k ∷ length d ∷ d)))
unfolding packet_of fields
packet_is k d = simp append_assoc

-- a start opens a packet in every state
pub start_in : (c : Controller) → after c 0xA5 ≡ reading (opening c) Command c.packet
unfolding after start
start_in c = by_cases (is_idle c.phase)
  where
    by_cases : (x : Bool) → cond x (started c) (started (flagged_controller c Incomplete)) ≡ reading (cond x c.settings (flagged c.settings Incomplete)) Command c.packet
    by_cases true = refl
    by_cases false = refl

-- what the body holds is the data
data_held : (body d : List ℕ) → length d ≤ length body → take (length d) (sets body 0 d) ≡ d
data_held body d short = rw (sets_front d body short) (take_at d _ (length d) refl)

-- a checksum byte that is right ends the packet
sum_in : (σ : Settings) (k n sum : ℕ) (body : List ℕ) →
    let done = perform (noted σ (escape_byte sum)) k (take n body) in
    run (reading σ Checksum (holding k n sum body)) (escape_byte sum) ≡ controller_of Idle false (holding k n sum body) (waiting done.reply) done.settings
unfolding feed_at judge
sum_in σ k n sum body = byte_in σ Checksum (holding k n sum body) refl sum ∙ rw (eq-eqb sum sum refl)

-- ---- the whole packet

packet_in : (c : Controller) (k : ℕ) (d : List ℕ) → length d ≤ length c.packet.body →
    let done = perform (noted (opening c) (packet_of k d)) k d in
    run c (packet_of k d) ≡ controller_of Idle false (holding k (length d) (checksum (k ∷ length d ∷ d)) (sets c.packet.body 0 d)) (waiting done.reply) done.settings
unfolding run has_escape after_length
packet_in c k d short =
    let n = length d in
    let sum = checksum (k ∷ n ∷ d) in
    let body = sets c.packet.body 0 d in
    let front = escape (k ∷ n ∷ d) in
    rw (packet_is k d)
    (ap (λ (x : Controller). run x (front ++ escape_byte sum)) (start_in c)
    ∙ run_append front (escape_byte sum) (reading (opening c) Command c.packet)
    ∙ ap (λ (x : Controller). run x (escape_byte sum)) (fields_in (opening c) c.packet k d n 0 (omega arith))
    ∙ sum_in (noted (opening c) front) k n sum body
    ∙ rw (noted_append (opening c) front (escape_byte sum), data_held c.packet.body d short))

-- the same for every command byte
pub reads_back_command : (c : Controller) (k : ℕ) (d : List ℕ) → length d ≤ data_most → length c.packet.body ≡ data_most → PacketRead c k d
reads_back_command c k d short long =
    let e = packet_in c k d (omega arith) in
    record {
      idle = ap (λ (x : Controller). x.phase) e;
      escape_shut = ap (λ (x : Controller). x.escape) e;
      settings_are = ap (λ (x : Controller). x.settings) e;
      reply_is = ap (λ (x : Controller). x.reply) e;
      body_long = ap (λ (x : Controller). length x.packet.body) e ∙ length-sets c.packet.body 0 d ∙ long;
    }

pub reads_back : ReadsBack
reads_back c id access = reads_back_command c (command_byte id access)
