-- An output that has room for the frames of a whole batch is as good as any longer one.
use Prim.Native.Nat.{ℕ, suc, ◌+◌, ◌-◌, ◌*◌, ◌≤◌, min}
use native.Mathlib.Omega.{arith}
use mathlib.Core.Path.{◌≡◌, refl, sym, subst, ap, ◌∙◌}
use mathlib.Core.Bool.{Bool, true, false}
use mathlib.Core.List.{List, [], ◌∷◌, ◌++◌, foldl}
use mathlib.Core.Option.{Option, none, some}
use lib.ListN.{length, take, length-append}
use lib.Seq.{sets, length-take-le, take-append-le}
use Rattle.std.specs.Prelude.{Result, Ok, Err}
use lib.Dec.{ltb}
use borrow.Author.Tests.{ltb-true, ltb-false, lt-ltb, le-ltb}
use Rattle.base.proofs.Lists.{sets_front}
use Rattle.base.specs.Refusal.{Told, told}
use Rattle.base.specs.declared.refusal.Refusal.{Refusal}
use Rattle.frame.specs.Frame.{Change, order}
use Rattle.link.specs.View.{frame_limit}
use Rattle.link.proofs.FrameLaws.{encode_length}
use Rattle.outcome.specs.declared.BatchOrder.{BatchOrder}
use Rattle.outcome.specs.Turn.{Turn, bytes_written}
use Rattle.outcome.specs.Batch.{batch_limit, changes, Outcome, begun, part_of, bytes_of_parts, no_parts, GivesParts, refused_answer}
use Rattle.outcome.proofs.Wholes.{gives_refused}
use Rattle.outcome.proofs.PartsLaws.{bytes_one_more}
use Rattle.session.specs.declared.Office.{Office}
use Rattle.session.specs.Office.{with_order, issue_refusal, issue, extended_unless, issue_unless_refused, issue_next, all_or_none, issue_each}
use Rattle.office.proofs.Decided.{Decided, no, yes}
use Rattle.issuing.proofs.IssueLaws.{Issuable, issue_decided}
use Rattle.order_batch.specs.declared.Issued.{Issued}
use Rattle.order_batch.specs.View.{frames_limit, Fitting, Holds, Leads, AllGo}

-- ---- one order

-- it asks only whether the longest frame fits
issue_by_room : (o : Office) (change : Change) (room other : ℕ) → ltb room frame_limit ≡ ltb other frame_limit → issue o change room ≡ issue o change other
unfolding issue issue_refusal
issue_by_room o change room other e = rw e

decided_short : (o : Office) (change : Change) (room : ℕ) (turn : Turn Office) →
    Decided o (Issuable o change room) (with_order o change) (order o.session.0 (o.issued.0 + 1) change) turn → length (bytes_written turn) ≤ frame_limit
decided_short o change room turn no = omega arith
decided_short o change room turn (yes fits) = encode_length (order o.session.0 (o.issued.0 + 1) change) fits.1

issued_short : (o : Office) (change : Change) (room : ℕ) → length (bytes_written (issue o change room)) ≤ frame_limit
issued_short o change room = decided_short o change room (issue o change room) (issue_decided o change room)

-- ---- the next order of a batch, where room is left for it

room_alike : (room w : ℕ) → w + frame_limit ≤ frames_limit → ltb (min room frames_limit - w) frame_limit ≡ ltb (room - w) frame_limit
room_alike room w left = by_room (ltb (room - w) frame_limit) refl
  where
    by_room : (x : Bool) → ltb (room - w) frame_limit ≡ x → ltb (min room frames_limit - w) frame_limit ≡ x
    by_room true e = lt-ltb (min room frames_limit - w) frame_limit (omega (arith, ltb-true (room - w) frame_limit e))
    by_room false e = le-ltb (min room frames_limit - w) frame_limit (omega (arith, ltb-false (room - w) frame_limit e))

next_alike : (why : Option Told) (room : ℕ) (t : Outcome Office) (change : Change) → length (bytes_of_parts t.parts) + frame_limit ≤ frames_limit →
    issue_unless_refused why (min room frames_limit) t change ≡ issue_unless_refused why room t change
next_alike (some told) room t change left = refl
next_alike none room t change left =
    let w = length (bytes_of_parts t.parts) in
    ap (λ (next : Turn Office). extended_unless next.refusal t next)
    (issue_by_room t.state change (min room frames_limit - w) (room - w) (room_alike room w left))

extended_short : (why : Option Told) (t : Outcome Office) (next : Turn Office) → length (bytes_written next) ≤ frame_limit →
    length (bytes_of_parts (extended_unless why t next).parts) ≤ length (bytes_of_parts t.parts) + frame_limit
extended_short none t next short = omega (arith, ap length (bytes_one_more t.parts (part_of next)), length-append (bytes_of_parts t.parts) (bytes_written next))
extended_short (some told) t next short = omega arith

next_short : (why : Option Told) (room : ℕ) (t : Outcome Office) (change : Change) →
    length (bytes_of_parts (issue_unless_refused why room t change).parts) ≤ length (bytes_of_parts t.parts) + frame_limit
next_short (some told) room t change = omega arith
next_short none room t change =
    let left = room - length (bytes_of_parts t.parts) in
    let next = issue t.state change left in
    extended_short next.refusal t next (issued_short t.state change left)

-- ---- a batch

all_alike : (room : ℕ) (t : Outcome Office) (cs : List Change) → length (bytes_of_parts t.parts) + frame_limit * length cs ≤ frames_limit →
    foldl (issue_next (min room frames_limit)) t cs ≡ foldl (issue_next room) t cs
all_alike room t [] left = refl
all_alike room t (change ∷ cs) left =
    ap (λ (u : Outcome Office). foldl (issue_next (min room frames_limit)) u cs) (next_alike t.refusal room t change (omega arith))
    ∙ all_alike room (issue_next room t change) cs (omega (arith, next_short t.refusal room t change))

length_changes : (orders : List BatchOrder) (bytes : List ℕ) → length (changes orders bytes) ≡ length orders
length_changes [] bytes = refl
length_changes (o ∷ orders) bytes = ap suc (length_changes orders _)

pub batch_alike : (o : Office) (orders : List BatchOrder) (bytes : List ℕ) (room : ℕ) → length orders ≤ batch_limit →
    foldl (issue_next (min room frames_limit)) (begun o) (changes orders bytes) ≡ foldl (issue_next room) (begun o) (changes orders bytes)
batch_alike o orders bytes room few = all_alike room (begun o) (changes orders bytes) (omega (arith, length_changes orders bytes))

-- ---- all or none of its frames

abbrev all_issued : Office → List BatchOrder → List ℕ → ℕ → Outcome Office
all_issued o orders bytes room = foldl (issue_next room) (begun o) (changes orders bytes)

abbrev none_issued : Office → Issued
none_issued o = record { office = o; parts = no_parts; used = 0; written = 0 }

module _ (o : Office) (orders : List BatchOrder) (bytes out : List ℕ) (fitting : Fitting orders bytes) where
  -- what orders lead to that were lent no more of a buffer than there is room in the output
  led : (s : Issued) (buffer part : List ℕ) (limit : ℕ) (r : Result Unit Refusal) → limit ≡ min (length out) frames_limit → length buffer ≡ frames_limit →
      AllGo (none_issued o) orders bytes r s (take limit buffer) part → Leads (all_issued o orders bytes (length out)) r s part
  led s buffer part limit r cut long go =
      let room : length (take limit buffer) ≡ min (length out) frames_limit = length-take-le limit buffer (omega arith) ∙ cut in
      let none_yet : Holds (begun o) (none_issued o) (take limit buffer) =
      record { going = refl; state_is = refl; count_is = refl; parts_are = refl; within = omega arith; bytes_are = refl } in
      rw (← batch_alike o orders bytes (length out) fitting.few, ← room) (go (begun o) (omega (arith, fitting.few)) none_yet)

  pub gives_all : (s : Issued) (buffer part rest : List ℕ) (limit : ℕ) (u : Unit) → limit ≡ min (length out) frames_limit → length buffer ≡ frames_limit →
      length part ≡ length (take limit buffer) → AllGo (none_issued o) orders bytes (Ok u) s (take limit buffer) part →
      GivesParts (issue_each o (changes orders bytes) (length out)) (record { state = s.office; parts = Ok s.parts }) out
      (sets out 0 (take s.written (part ++ rest)))
  unfolding issue_each
  gives_all s buffer part rest limit u cut long same go =
      let t = all_issued o orders bytes (length out) in
      let h : Holds t s part = led s buffer part limit (Ok u) cut long go in
      let written : take s.written (part ++ rest) ≡ bytes_of_parts t.parts = take-append-le s.written part rest h.within ∙ h.bytes_are in
      let room : length (bytes_of_parts t.parts) ≤ length out =
      omega (arith, h.within, cut, ap length h.bytes_are, length-take-le s.written part h.within, length-take-le limit buffer (omega (arith, cut, long))) in
      subst (λ (x : Option Told). GivesParts (all_or_none x o t) (record { state = s.office; parts = Ok s.parts }) out (sets out 0 (take s.written (part ++ rest))))
      (sym h.going)
      (record {
        state_is = h.state_is;
        refusal_is = sym h.going;
        count_is = h.count_is;
        parts_are = h.parts_are;
        output_is = rw written (sets_front (bytes_of_parts t.parts) out room);
      })

  pub gives_none : (s : Issued) (buffer part : List ℕ) (limit : ℕ) (why : Refusal) → limit ≡ min (length out) frames_limit → length buffer ≡ frames_limit →
      AllGo (none_issued o) orders bytes (Err why) s (take limit buffer) part → GivesParts (issue_each o (changes orders bytes) (length out)) (refused_answer o why) out out
  unfolding issue_each
  gives_none s buffer part limit why cut long go =
      let t = all_issued o orders bytes (length out) in
      let over : t.refusal ≡ some (told why) = led s buffer part limit (Err why) cut long go in
      subst (λ (x : Option Told). GivesParts (all_or_none x o t) (refused_answer o why) out out) (sym over)
      (gives_refused o why out)
