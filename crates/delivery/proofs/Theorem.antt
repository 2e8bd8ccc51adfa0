-- Demand 3 from whole frames delivered by the receivers, proved: what is supposed of the bytes makes every frame that a receiver hands on one that the other end
-- wrote, so that the calls delivered are a list of 01's.
use Prim.Native.Nat.{ℕ, zero, suc, ◌≤◌}
use native.Mathlib.Omega.{arith}
use mathlib.Core.Path.{refl}
use mathlib.Core.List.Memᴰ
use mathlib.Core.List.{List, [], ◌∷◌, ◌++◌, map, Memᴰ}
use lib.ListN.{length, take}
use Rattle.frame.specs.Frame.{Frame, opening, welcome, order, ack, refuse}
use Rattle.link.specs.Encoding.{encode}
use Rattle.link.proofs.FrameTheorems.{encode_short}
use Rattle.wrapping.specs.Reading.{given}
use Rattle.wrapping.specs.Theorems.{Wrappable}
use Rattle.session.specs.Calls.{restart, box_frame, box_frames, office_frame, Call, at_box, at_office, state_after, Ends, first_ends, ends_rules, Log, first_log, log_after, AllowedFrom}
use Rattle.session.specs.History.{History, first_history}
use Rattle.session.proofs.Invariant.{Safe, safe_first}
use Rattle.session.proofs.Refinement.{EndsAlike, first_ends_alike}
use Rattle.session.proofs.Theorem.{follows, demand_3}
use Rattle.session.proofs.Tools.{Decodes, updated_each}
use Rattle.delivery.specs.Calls.{ByteCall, whole, box_bytes, office_bytes, Incoming, Arrivals, first_arrivals, with_piece, arrivals_with}
use Rattle.delivery.specs.Calls.{arrivals_after, frames, delivered_by, delivered_from, delivered, Begins, SupposedOf, SupposedFrom, Supposed}
use Rattle.delivery.specs.Claim.{Demand3Delivered}
use Rattle.delivery.proofs.Arrivals.{frames_among, reads_piece, Begun, begun_start, frames_each, intact}

-- ---- every frame that an end writes can be wrapped

encode_some : (f : Frame) → 1 ≤ length (encode f)
unfolding encode
encode_some (opening s) = omega arith
encode_some (welcome s σ) = omega arith
encode_some (order s n c) = omega arith
encode_some (ack s k) = omega arith
encode_some (refuse s r) = omega arith

wrappable : {P : Frame → Type 0} {bytes : List ℕ} → Decodes P bytes → Wrappable bytes
wrappable d =
    let short = encode_short d.frame d.valid in
    let some_bytes = encode_some d.frame in
    (rw d.encoded some_bytes, rw d.encoded (omega arith))

-- ---- lists of whole calls

allowed_append : (xs ys : List Call) (e : Ends) (l : Log) → AllowedFrom e l xs → AllowedFrom (state_after ends_rules e xs) (log_after e l xs) ys → AllowedFrom e l (xs ++ ys)
allowed_append [] ys e l first second = second
allowed_append (x ∷ xs) ys e l (permitted, first) second = (permitted, allowed_append xs ys (ends_rules e x).state _ first second)

box_frames_allowed : (fs : List (List ℕ)) (room : ℕ) (e : Ends) (l : Log) → ((f : List ℕ) → Memᴰ f fs → Memᴰ f l.from_offices) →
    AllowedFrom e l (map (λ f. at_box (box_frame f room)) fs)
box_frames_allowed [] room e l each = tt
box_frames_allowed (f ∷ fs) room e l each =
    (each f (Memᴰ.head refl), box_frames_allowed fs room (ends_rules e (at_box (box_frame f room))).state _ (λ g m. each g (Memᴰ.tail m)))

office_frames_allowed : (fs : List (List ℕ)) (i : ℕ) (e : Ends) (l : Log) → ((f : List ℕ) → Memᴰ f fs → Memᴰ f l.from_box) →
    AllowedFrom e l (map (λ f. at_office i (office_frame f)) fs)
office_frames_allowed [] i e l each = tt
office_frames_allowed (f ∷ fs) i e l each =
    (each f (Memᴰ.head refl), office_frames_allowed fs i (ends_rules e (at_office i (office_frame f))).state _ (λ g m. each g (Memᴰ.tail m)))

-- ---- a piece at an end

module _ (i : Incoming) (piece : List ℕ) (written : List (List ℕ)) (fits : (f : List ℕ) → Memᴰ f written → Wrappable f) (b : Begun i) (g : Begins (i.given ++ piece) written) where
  abbrev begun_piece : Begun (with_piece i piece)
  begun_piece = record { reads = reads_piece i piece b.reads; row = g.row; rest = g.rest; joined = g.joined; each = λ f m. fits f (g.each f m) }

  piece_written : (f : List ℕ) → Memᴰ f (frames (given i.receiver piece).handed) → Memᴰ f written
  piece_written f m = g.each f (frames_each (with_piece i piece) begun_piece f (Memᴰ.append_right i.handed (frames_among f _ m)))

-- ---- a call of a list, and the whole list

-- whole or begun frames at every end
pub record AllBegun (a : Arrivals) : Type 0 where
  box : Begun a.box
  offices : (i : ℕ) → Begun (a.offices i)

record Arrived (e : Ends) (l : Log) (calls : List Call) (a : Arrivals) : Type 0 where
  allowed : AllowedFrom e l calls
  begun : AllBegun a

module _ (e : Ends) (h : History) (l : Log) (safe : Safe h l) (a : Arrivals) (begun : AllBegun a) where
  arrives : (c : ByteCall) → SupposedOf e l a c → Arrived e l (delivered_by a c) (arrivals_with a c)
  arrives (whole (at_box (restart told))) permitted = record { allowed = (permitted, tt); begun = record { box = begun_start; offices = begun.offices } }
  arrives (whole (at_box (box_frame bytes room))) permitted = record { allowed = (permitted, tt); begun = begun }
  arrives (whole (at_box (box_frames lengths bytes room))) permitted = record { allowed = (permitted, tt); begun = begun }
  arrives (whole (at_office i c)) permitted = record { allowed = (permitted, tt); begun = begun }
  arrives (box_bytes piece room) begins =
      let fits : (f : List ℕ) → Memᴰ f l.from_offices → Wrappable f = λ f m. wrappable (safe.requests f m) in
      record {
        allowed = box_frames_allowed _ room e l (piece_written a.box piece l.from_offices fits begun.box begins);
        begun = record { box = begun_piece a.box piece l.from_offices fits begun.box begins; offices = begun.offices };
      }
  arrives (office_bytes i piece) begins =
      let fits : (f : List ℕ) → Memᴰ f l.from_box → Wrappable f = λ f m. wrappable (safe.replies f m) in
      let now = begun_piece (a.offices i) piece l.from_box fits (begun.offices i) begins in
      record {
        allowed = office_frames_allowed _ i e l (piece_written (a.offices i) piece l.from_box fits (begun.offices i) begins);
        begun = record { box = begun.box; offices = updated_each a.offices i (with_piece (a.offices i) piece) (λ _ x. Begun x) now (λ j _. begun.offices j) };
      }

all_arrive : (cs : List ByteCall) (e : Ends) (h : History) (l : Log) (a : Arrivals) → EndsAlike e h → Safe h l → AllBegun a → SupposedFrom e l a cs →
    Arrived e l (delivered_from a cs) (arrivals_after a cs)
all_arrive [] e h l a alike safe begun supposed = record { allowed = tt; begun = begun }
all_arrive (c ∷ cs) e h l a alike safe begun (supposed, later) =
    let one = arrives e h l safe a begun c supposed in
    let after = follows (delivered_by a c) e h l alike safe one.allowed in
    let rest = all_arrive cs _ _ _ (arrivals_with a c) after.alike after.safe one.begun later in
    record { allowed = allowed_append (delivered_by a c) _ e l one.allowed rest.allowed; begun = rest.begun }

-- a beginning of a list keeps to what the list keeps to
supposed_take : (n : ℕ) (cs : List ByteCall) (e : Ends) (l : Log) (a : Arrivals) → SupposedFrom e l a cs → SupposedFrom e l a (take n cs)
supposed_take zero cs e l a supposed = tt
supposed_take (suc n) [] e l a supposed = tt
supposed_take (suc n) (c ∷ cs) e l a (supposed, later) = (supposed, supposed_take n cs _ _ (arrivals_with a c) later)

arrive_first : (cs : List ByteCall) → Supposed cs → Arrived first_ends first_log (delivered cs) (arrivals_after first_arrivals cs)
arrive_first cs = all_arrive cs first_ends first_history first_log first_arrivals first_ends_alike safe_first (record { box = begun_start; offices = λ _. begun_start })

pub demand_3_delivered : Demand3Delivered
demand_3_delivered cs supposed =
    let all = arrive_first cs supposed in
    let part : (n : ℕ) → Arrived first_ends first_log (delivered (take n cs)) (arrivals_after first_arrivals (take n cs)) =
    λ n. arrive_first (take n cs) (supposed_take n cs first_ends first_log first_arrivals supposed) in
    record {
      allowed = all.allowed;
      claim = demand_3 _ all.allowed;
      at_box = λ n. intact _ (part n).begun.box;
      at_office = λ i n. intact _ ((part n).begun.offices i);
    }
