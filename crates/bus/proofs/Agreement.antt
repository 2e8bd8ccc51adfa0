-- Both definitions of the controller answer every list of bytes alike.
use Prim.Native.Nat.{ℕ, zero, suc, ◌+◌, ◌-◌, ◌%◌, ◌≤◌, ◌<◌}
use native.Mathlib.Nat.{add-zero}
use native.Mathlib.Numerals.{add-one}
use native.Mathlib.Omega.{arith}
use mathlib.Core.Path.{◌≡◌, refl, sym, ap, ◌∙◌}
use mathlib.Core.Bool.{Bool, true, false, cond, false≢true}
use mathlib.Core.List.{List, [], ◌∷◌, ◌++◌}
use mathlib.Core.Option.{Option, none, some}
use lib.ListN.{length, get_or, take, drop, set, replicate, length-append, length-take, length-drop, length-set}
use lib.Seq.{take_at, take-append_seam, get_or_at, get_or-take, take-suc-set}
use lib.Dec.{eqb, ltb}
use borrow.Author.Tests.{lt-ltb, le-ltb, eq-eqb, ne_eqb, lt-leb}
use Rattle.packet.specs.Packet.{data_most, total, checksum}
use Rattle.packet.proofs.PacketLaws.{checksum_snoc}
use Rattle.std.proofs.lemmas.List.{drop_more}
use Rattle.settings.specs.declared.settings.Settings.{Settings}
use Rattle.settings.specs.Settings.{fresh as settings_fresh}
use Rattle.settings.specs.declared.settings.Flag.TheVariants.{Incomplete, EscapeSeen, BytesIgnored, WrongChecksum}
use Rattle.bus.specs.declared.Outgoing.{Outgoing}
use Rattle.bus.specs.declared.command.Performed.{Performed}
use Rattle.bus.specs.declared.Phase.{Phase}
use Rattle.bus.specs.declared.Phase.TheVariants.{Idle, Command, Length, Data, Checksum}
use Rattle.bus.specs.declared.Collected.{Collected}
use Rattle.bus.specs.declared.Controller.{Controller}
use Rattle.bus.specs.Commands.{reply_limit, reply_of}
use Rattle.bus.specs.Bus.{
  is_idle,
  none as collected_none,
  waiting,
  nothing_unsent,
  after_length,
  after_data,
  controller_of,
  fresh,
  start,
  ended,
  judge,
  feed_at,
  inside,
  outside,
  sent_one,
  after,
  out,
}
use Rattle.bus.specs.Run.{run, outs}
use Rattle.bus.specs.AsWritten.{
  Outcome,
  checked,
  State,
  state,
  idle,
  begin,
  whole,
  closed,
  collected,
  in_packet,
  taken,
  opened,
  step,
  byte_out,
  steps,
  sent,
}
use Rattle.base.specs.Bytes.{Bytes}
use Rattle.base.proofs.Tests.{if_both, unless_both}
use Rattle.bus.specs.CommandTheorems.{StatusFits}
use Rattle.bus.specs.BusTheorems.{Agrees}
use Rattle.bus.proofs.StatusBits.{marked_alike}
use Rattle.bus.proofs.CommandTable.{Same, checksum_sum, failed_same, same}

-- ---- the unsent bytes

-- what a reply has still to send
record Unsent (us : List ℕ) (r : Outgoing) : Type 0 where
  pub rest : us ≡ drop r.sent (take r.len r.bytes)
  pub within : r.len ≤ length r.bytes

-- a new reply, of which nothing is sent
all_unsent : (reply : List ℕ) → Unsent reply (waiting (reply_of reply))
all_unsent reply =
    record {
      rest = sym (take-append_seam reply (drop (length reply) (replicate reply_limit 0)));
      within = simp length-append (omega arith);
    }

-- the code's two counts tell how many are unsent
unsent_count : {us : List ℕ} {r : Outgoing} → Unsent us r → length us ≡ r.len - r.sent
unsent_count u = ap length u.rest ∙ simp (length-drop, length-take) (omega arith)

none_unsent : {r : Outgoing} → Unsent [] r → ltb r.sent r.len ≡ false
none_unsent {r} u = le-ltb r.sent r.len (omega (arith, unsent_count u))

module _ {v : ℕ} {us : List ℕ} {r : Outgoing} (u : Unsent (v ∷ us) r) where
  some_unsent : r.sent < r.len
  some_unsent = omega (arith, unsent_count u)

  -- the next byte, and those after it
  unsent_parts : v ∷ us ≡ get_or r.bytes r.sent 0 ∷ drop (r.sent + 1) (take r.len r.bytes)
  unsent_parts =
      u.rest
      ∙ drop_more (take r.len r.bytes) r.sent 0 (simp length-take (omega (arith, some_unsent, u.within)))
      ∙ rw (get_or-take r.len r.bytes r.sent 0 some_unsent)

  next_unsent : v ≡ get_or r.bytes r.sent 0
  next_unsent = cc unsent_parts

  fewer_unsent : Unsent us (sent_one r)
  fewer_unsent = record { rest = cc unsent_parts; within = u.within }

-- both put out the same byte
out_alike : (us : List ℕ) {r : Outgoing} → Unsent us r → byte_out us ≡ cond (ltb r.sent r.len) (get_or r.bytes r.sent 0) 0xFF
out_alike [] u = rw (none_unsent u)
out_alike (v ∷ us) {r} u = rw (lt-ltb r.sent r.len (some_unsent u)) (next_unsent u)

-- ---- the open packet

abbrev collecting : ℕ → ℕ → ℕ → List ℕ → Collected
collecting k n sum body = record { command = k; count = n; sum = sum; body = body }

-- the body holds the data d so far, and `left` of n are missing
record Filled (n : ℕ) (d : List ℕ) (left : ℕ) (body : List ℕ) : Type 0 where
  pub kept : take (length d) body ≡ d
  pub missing : length d + left ≡ n
  pub room : n ≤ length body

-- the packet's bytes, and the phase and fields that stand for them
data Open : List ℕ → Phase → Collected → Type 0 where
  at_command : {p : Collected} → Open [] Command p
  at_length : {k : ℕ} {body : List ℕ} → Open (k ∷ []) Length (collecting k 0 k body)
  at_data : {k n left : ℕ} {d body : List ℕ} → Filled n d (suc left) body → Open (k ∷ n ∷ d) (Data (suc left)) (collecting k n (checksum (k ∷ n ∷ d)) body)
  at_checksum : {k n : ℕ} {d body : List ℕ} → Filled n d 0 body → Open (k ∷ n ∷ d) Checksum (collecting k n (checksum (k ∷ n ∷ d)) body)

-- the body has room for any packet's data
abbrev Sized : Collected → Type 0
Sized p = length p.body ≡ data_most

-- no packet is open, or one whose bytes these are
data Held : Option (List ℕ) → Phase → Collected → Type 0 where
  no_packet : {p : Collected} → Sized p → Held none Idle p
  open_packet : {bytes : List ℕ} {phase : Phase} {p : Collected} → Open bytes phase p → Sized p → Held (some bytes) phase p

-- a state as written and a controller that stands for it: settings and escape flag are the same
data Matches : State → Controller → Type 0 where
  matches : {σ : Settings} {packet : Option (List ℕ)} {escape : Bool} {us : List ℕ} {phase : Phase} {p : Collected} {r : Outgoing}
      → StatusFits σ → Held packet phase p → Unsent us r → Matches (state σ packet escape us) (controller_of phase escape p r σ)

-- ---- a byte of the open packet

-- the phase after the length or a data byte, with `left` bytes missing
next_phase : (left : ℕ) {k n : ℕ} {d body : List ℕ} → Filled n d left body → Open (k ∷ n ∷ d) (after_length left) (collecting k n (checksum (k ∷ n ∷ d)) body)
unfolding after_length
next_phase zero f = at_checksum f
next_phase (suc left) f = rw (ne_eqb (suc left) 0 (λ e. omega arith)) (at_data f)

fewer_left : (left : ℕ) → after_data (suc left) ≡ after_length left
unfolding after_data after_length
fewer_left zero = refl
fewer_left (suc m) = rw (lt-leb (suc (suc m)) 1 (omega arith), ne_eqb (suc m) 0 (λ e. omega arith)) (ap Data (omega arith))

-- the sum after the length byte
two_summed : (k n : ℕ) → checksum (k ∷ n ∷ []) ≡ (k + n) % 256
unfolding checksum total
two_summed k n = rw add-zero

-- the next data byte goes to its place
one_more : {n left : ℕ} {d body : List ℕ} → Filled n d (suc left) body → (v : ℕ) → Filled n (d ++ v ∷ []) left (set body (n - suc left) v)
one_more {n} {left} {d} {body} f v =
    let here : n - suc left ≡ length d = omega arith in
    record {
      kept = rw (here, length-append, add-one, take-suc-set body (length d) v (omega arith), f.kept);
      missing = simp length-append (omega arith);
      room = simp length-set f.room;
    }

-- after the length byte all data are missing
no_data_yet : (n : ℕ) (body : List ℕ) → n ≤ length body → Filled n [] n body
no_data_yet n body room = record { kept = refl; missing = omega arith; room = room }

-- ---- the checksum byte

abbrev closing : Outcome → State
closing o = state o.settings none false o.reply

-- a packet has ended, with one outcome on both sides
ended_alike : {o : Outcome} {p : Performed} → Same o p → (c : Controller) → Sized c.packet → Matches (closing o) (ended c p.settings p.reply)
ended_alike {o} s c room = rw (← s.settled, ← s.replied) (matches s.fitting (no_packet room) (all_unsent o.reply))

-- at the checksum the body holds all the data
all_kept : {n : ℕ} {d body : List ℕ} → Filled n d 0 body → take n body ≡ d
all_kept {n} {d} f =
    let all : length d ≡ n = omega arith in
    rw all at f.kept

-- what follows an escape stands for a byte
unescaped_fits : (t : Bool) (b : ℕ) → b < 256 → cond t 0xA5 b < 256
unescaped_fits true b h = omega arith
unescaped_fits false b h = h

not_idle : {bytes : List ℕ} {phase : Phase} {p : Collected} → Open bytes phase p → is_idle phase ≡ false
not_idle at_command = refl
not_idle at_length = refl
not_idle (at_data f) = refl
not_idle (at_checksum f) = refl

-- the checksum byte: the checks, the effect and the reply
judge_alike : (σ : Settings) → StatusFits σ → (e : Bool) (r : Outgoing) (k : ℕ) {n : ℕ} {d body : List ℕ} → Filled n d 0 body → length body ≡ data_most → (v : ℕ) →
    Matches (closing (checked σ k n d v)) (judge (controller_of Checksum e (collecting k n (checksum (k ∷ n ∷ d)) body) r σ) v)
unfolding judge checked
judge_alike σ fits e r k {n} {d} {body} f room v =
    let c = controller_of Checksum e (collecting k n (checksum (k ∷ n ∷ d)) body) r σ in
    rw (all_kept f, ← (checksum_sum (k ∷ n ∷ d)))
    (unless_both (λ (o : Outcome). Matches (closing o)) (eqb v (checksum (k ∷ n ∷ d))) (ended_alike (failed_same σ fits WrongChecksum 0x02) c room)
    (ended_alike (same σ k d fits) c room))

-- ---- one byte, case by case

module _ (σ : Settings) (r : Outgoing) (fits : StatusFits σ) where
  -- a byte of the packet, out of its escape
  feed_alike : {bytes : List ℕ} {phase : Phase} {p : Collected} → Open bytes phase p → Sized p → Unsent [] r → (e : Bool) (v : ℕ) → v < 256 →
      Matches (collected σ (bytes ++ v ∷ [])) (feed_at phase (controller_of phase e p r σ) v)
  unfolding collected whole feed_at closed
  feed_alike at_command room u e v h = matches fits (open_packet at_length room) u
  feed_alike (at_length {k} {body}) room u e v h =
      rw (ne_eqb 0 (v + 1) (λ q. omega arith), ← (two_summed k v))
      (matches fits (open_packet (next_phase v (no_data_yet v body (omega arith))) room) u)
  feed_alike (at_data {k} {n} {left} {d} {body} f) room u e v h =
      rw (ne_eqb (length (d ++ v ∷ [])) (n + 1) (λ q. omega (arith, length-append d (v ∷ []))), fewer_left left, ← (checksum_snoc (k ∷ n ∷ d) v))
      (matches fits (open_packet (next_phase left (one_more f v)) (length-set body (n - suc left) v ∙ room)) u)
  feed_alike (at_checksum {k} {n} {d} {body} f) room u e v h =
      rw (eq-eqb (length (d ++ v ∷ [])) (n + 1) (omega (arith, length-append d (v ∷ []))), take_at d (v ∷ []) n (omega arith), get_or_at d v [] 0 n (omega arith))
      (judge_alike σ fits e r k f room v)

  -- a byte inside a packet
  inside_alike : {bytes : List ℕ} {phase : Phase} {p : Collected} → Open bytes phase p → Sized p → Unsent [] r → (e : Bool) (b : ℕ) → b < 256 →
      Matches (in_packet σ bytes e b) (inside (controller_of phase e p r σ) b)
  unfolding in_packet inside
  inside_alike o room u true b h = feed_alike o room u true (cond (eqb b 0x00) 0xA5 b) (unescaped_fits (eqb b 0x00) b h)
  inside_alike o room u false b h =
      rw (marked_alike σ fits EscapeSeen).0
      (if_both Matches (eqb b 0x5A) (matches (marked_alike σ fits EscapeSeen).1 (open_packet o room) u) (feed_alike o room u false b h))

  -- a byte that is no start, with no reply unsent
  taken_alike : {packet : Option (List ℕ)} {phase : Phase} {p : Collected} → Held packet phase p → Unsent [] r → (e : Bool) (b : ℕ) → b < 256 →
      Matches (taken σ packet e b) (cond (is_idle phase) (outside (controller_of phase e p r σ) b) (inside (controller_of phase e p r σ) b))
  unfolding taken outside
  taken_alike (no_packet room) u e b h =
      rw (marked_alike σ fits BytesIgnored).0
      (if_both Matches (eqb b 0x00) (matches fits (no_packet room) u) (matches (marked_alike σ fits BytesIgnored).1 (no_packet room) u))
  taken_alike (open_packet o room) u e b h = rw (not_idle o) (inside_alike o room u e b h)

  -- a start
  opened_alike : {packet : Option (List ℕ)} {phase : Phase} {p : Collected} → Held packet phase p → (e : Bool) → Matches (opened σ packet) (start (controller_of phase e p r σ))
  unfolding start
  opened_alike (no_packet room) e = matches fits (open_packet at_command room) (all_unsent [])
  opened_alike (open_packet o room) e =
      rw (not_idle o, (marked_alike σ fits Incomplete).0)
      (matches (marked_alike σ fits Incomplete).1 (open_packet at_command room) (all_unsent []))

  -- any byte
  step_alike : (us : List ℕ) {packet : Option (List ℕ)} {phase : Phase} {p : Collected} → Held packet phase p → Unsent us r → (e : Bool) (b : ℕ) → b < 256 →
      Matches (step (state σ packet e us) b) (after (controller_of phase e p r σ) b)
  unfolding step after
  step_alike [] held u e b h = if_both Matches (eqb b 0xA5) (opened_alike held e) (rw (none_unsent u) (taken_alike held u e b h))
  step_alike (v ∷ us) held u e b h =
      if_both Matches (eqb b 0xA5) (opened_alike held e)
      (rw (lt-ltb r.sent r.len (some_unsent u)) (matches fits held (fewer_unsent u)))

-- ---- every list of bytes

-- matched controllers put out the same byte and stay matched
exchange_alike : {s : State} {c : Controller} → Matches s c → (b : ℕ) → b < 256 → (byte_out s.unsent ≡ out c) × Matches (step s b) (after c b)
unfolding out
exchange_alike (matches {σ} {packet} {escape} {us} {phase} {p} {r} fits held u) b h = (out_alike us u, step_alike σ r fits us held u escape b h)

same_settings : {s : State} {c : Controller} → Matches s c → s.settings ≡ c.settings
same_settings (matches fits held u) = refl

-- matched controllers stay matched over any bytes
stay_matched : (bs : List ℕ) → Bytes bs → (s : State) (c : Controller) → Matches s c → Matches (steps s bs) (run c bs)
unfolding steps run
stay_matched [] t s c m = m
stay_matched (b ∷ bs) t s c m = stay_matched bs (λ i. t (suc i)) (step s b) (after c b) (exchange_alike m b (t 0)).1

-- and answer alike
sent_alike : (bs : List ℕ) → Bytes bs → (s : State) (c : Controller) → Matches s c → sent s bs ≡ outs c bs
unfolding sent outs
sent_alike [] t s c m = refl
sent_alike (b ∷ bs) t s c m =
    let now = exchange_alike m b (t 0) in
    let later = sent_alike bs (λ i. t (suc i)) (step s b) (after c b) now.1 in
    cc

-- idle with these settings and no reply waiting, by the code's definition
abbrev pub ready_with : Settings → Controller
ready_with σ = controller_of Idle false collected_none nothing_unsent σ

idle_matches : (σ : Settings) → StatusFits σ → Matches (idle σ) (ready_with σ)
idle_matches σ fits = matches fits (no_packet refl) (all_unsent [])

pub agrees : Agrees
agrees bs t =
    let first = idle_matches settings_fresh (omega arith) in
    (sent_alike bs t begin fresh first, same_settings (stay_matched bs t begin fresh first))

-- a controller that is idle stands for an idle state
idle_matched : {s : State} {c : Controller} → Matches s c → c.phase ≡ Idle → c.escape ≡ false → s ≡ state c.settings none false s.unsent
idle_matched (matches {σ} {us = us} _ (no_packet _) _) _ shut = λ i. state σ none (shut i) us
idle_matched (matches _ (open_packet o _) _) at _ = absurd (false≢true (sym (not_idle o) ∙ ap is_idle at))

-- so where the code's controller is idle after some bytes, the one as written is, with the same settings
pub idle_after : (σ : Settings) → StatusFits σ → (bs : List ℕ) → Bytes bs → (run (ready_with σ) bs).phase ≡ Idle → (run (ready_with σ) bs).escape ≡ false →
    steps (idle σ) bs ≡ state (run (ready_with σ) bs).settings none false (steps (idle σ) bs).unsent
idle_after σ fits bs t = idle_matched (stay_matched bs t (idle σ) (ready_with σ) (idle_matches σ fits))
