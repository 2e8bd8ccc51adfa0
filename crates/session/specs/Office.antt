-- The office end: document 01, "The adjustment link", Office; a batch of orders: document 02, Ask 3.
use Rattle.std.specs.Prelude.{ℕ, ◌+◌, ◌-◌, ◌%◌, Bool, true, false, cond, ◌||◌, length, get_or, set, replicate, eqb, leb, ltb}
use mathlib.Core.List.{List, foldl}
use Rattle.std.proofs.Math.Option.{Option, none, some}
use Rattle.base.specs.Refusal.{Told, fault, plain}
use Rattle.settings.specs.declared.settings.Settings.{Settings}
use Rattle.settings.specs.Settings.{fresh}
use Rattle.frame.specs.Frame.{Change, raise, too_long, Frame, opening, welcome, order, ack, refuse}
use Rattle.judging.specs.declared.End.TheVariants.{Office as AtOffice}
use Rattle.judging.specs.Decoding.{Decoded, a_fault, a_frame, decode}
use Rattle.frame.specs.View.{asked, change_of}
use Rattle.link.specs.View.{frame_limit}
use Rattle.order.specs.Apply.{apply}
use Rattle.outcome.specs.declared.BatchOrder.{BatchOrder}
use Rattle.session.specs.declared.Office.{Office}
use Rattle.session.specs.declared.Order.{Order}
use Rattle.session.specs.declared.Progress.{Progress}
use Rattle.session.specs.declared.Progress.TheVariants.{Settled, Waiting, Over}
use Rattle.session.specs.declared.Stage.{Stage}
use Rattle.session.specs.declared.Stage.TheVariants.{Unopened, Awaiting, Live, Ended}
use Rattle.outcome.specs.Batch.{batch_limit, data_lengths, changes, fits, Outcome, begun, extended, refused_whole, bytes_of_parts}
use Rattle.session.specs.Limits.{window_limit, order_limit}
use Rattle.outcome.specs.Turn.{Turn, wrote, silent, refused, faulted}

-- ---- the office's state

abbrev pub order_of : ℕ → Change → Order
order_of n change = record { number = record { 0 = n }; change = change_of change }

abbrev pub no_order : Order
no_order = order_of 0 (raise 0)

abbrev pub empty_window : List Order
empty_window = replicate window_limit no_order

abbrev pub office_of : Stage → ℕ → Settings → ℕ → ℕ → List Order → Office
office_of stage s σ issued confirmed window =
    record { stage = stage; session = record { 0 = s }; settings = σ; issued = record { 0 = issued }; confirmed = record { 0 = confirmed }; window = window }

-- an office never opened
abbrev pub never : Office
never = office_of Unopened 0 fresh 0 0 empty_window

abbrev pub is_awaiting : Stage → Bool
is_awaiting Unopened = false
is_awaiting Awaiting = true
is_awaiting Live = false
is_awaiting Ended = false

abbrev pub is_live : Stage → Bool
is_live Unopened = false
is_live Awaiting = false
is_live Live = true
is_live Ended = false

-- ---- opening, with `room` bytes lent for the frame

unfoldable pub open_session : Office → ℕ → ℕ → Turn Office
open_session o s room =
    cond (eqb s 0) (refused o 6)
    (cond (ltb room frame_limit) (refused o 1)
    (wrote (office_of Awaiting s fresh 0 0 empty_window) (opening s)))

-- ---- issuing

-- order n stands at place (n - 1) mod the window's length
abbrev pub with_order : Office → Change → Office
with_order o change =
    office_of Live o.session.0 (apply o.settings change) (o.issued.0 + 1) o.confirmed.0
    (set o.window (o.issued.0 % window_limit) (order_of (o.issued.0 + 1) change))

-- why issuing is refused, if it is: in the order 10, 1, 2, 9, 8
unfoldable pub issue_refusal : Office → Change → ℕ → Option ℕ
issue_refusal o change room =
    cond (is_live o.stage)
    (cond (ltb room frame_limit) (some 1)
    (cond (too_long change) (some 2)
    (cond (eqb o.issued.0 order_limit) (some 9)
    (cond (leb window_limit (o.issued.0 - o.confirmed.0)) (some 8)
    none))))
    (some 10)

abbrev pub issue_unless : Option ℕ → Office → Change → Turn Office
issue_unless (some number) o change = refused o number
issue_unless none o change = wrote (with_order o change) (order o.session.0 (o.issued.0 + 1) change)

unfoldable pub issue : Office → Change → ℕ → Turn Office
issue o change room = issue_unless (issue_refusal o change room) o change

-- ---- issuing a batch

-- an order that is refused refuses the whole
abbrev pub extended_unless : Option Told → Outcome Office → Turn Office → Outcome Office
extended_unless none t next = extended t next
extended_unless (some told) t next = refused_whole t.state told

-- the next order, given the output that the earlier ones left; behind a refused one none is issued
abbrev pub issue_unless_refused : Option Told → ℕ → Outcome Office → Change → Outcome Office
issue_unless_refused (some told) room t change = t
issue_unless_refused none room t change =
    let next = issue t.state change (room - length (bytes_of_parts t.parts)) in
    extended_unless next.refusal t next

abbrev pub issue_next : ℕ → Outcome Office → Change → Outcome Office
issue_next room t change = issue_unless_refused t.refusal room t change

-- all, or nothing: what was issued before a refused order is undone
abbrev pub all_or_none : Option Told → Office → Outcome Office → Outcome Office
all_or_none none o t = t
all_or_none (some told) o t = refused_whole o told

unfoldable pub issue_each : Office → List Change → ℕ → Outcome Office
issue_each o cs room =
    let t = foldl (issue_next room) (begun o) cs in
    all_or_none t.refusal o t

-- orders with their data, and `room` bytes lent for all frames
unfoldable pub issue_all : Office → List BatchOrder → List ℕ → ℕ → Outcome Office
issue_all o orders bytes room =
    cond (ltb batch_limit (length orders)) (refused_whole o (plain 2))
    (cond (fits (data_lengths orders) (length bytes)) (issue_each o (changes orders bytes) room)
    (refused_whole o (plain 2)))

-- ---- sending again, each as the same frame

abbrev pub kept_change : List Order → ℕ → Change
kept_change window n = asked (get_or window ((n - 1) % window_limit) no_order).change

-- an unanswered order
unfoldable pub resend : Office → ℕ → ℕ → Turn Office
resend o n room =
    cond (is_live o.stage)
    (cond (ltb o.confirmed.0 n)
    (cond (leb n o.issued.0)
    (cond (ltb room frame_limit) (refused o 1)
    (wrote o (order o.session.0 n (kept_change o.window n))))
    (refused o 13))
    (refused o 13))
    (refused o 10)

unfoldable pub reopen : Office → ℕ → Turn Office
reopen o room =
    cond (is_awaiting o.stage)
    (cond (ltb room frame_limit) (refused o 1) (wrote o (opening o.session.0)))
    (refused o 13)

-- ---- any frame

abbrev pub with_stage : Office → Stage → Office
with_stage o stage = office_of stage o.session.0 o.settings o.issued.0 o.confirmed.0 o.window

-- WELCOME of its session counts only while opening
unfoldable pub welcomed : Office → ℕ → Settings → Office
welcomed o s σ =
    cond (is_awaiting o.stage)
    (cond (eqb s o.session.0) (office_of Live s σ 0 0 o.window) o)
    o

-- ACK of its session counts only while open, and only as news of orders that were issued
unfoldable pub acknowledged : Office → ℕ → ℕ → Office
acknowledged o s k =
    cond (is_live o.stage)
    (cond (eqb s o.session.0) (cond (ltb o.confirmed.0 k)
    (cond (leb k o.issued.0) (office_of Live s o.settings o.issued.0 k o.window)
    o) o) o) o

-- REFUSE 5 or 6 of its session ends it
unfoldable pub ended : Office → ℕ → ℕ → Office
ended o s r =
    cond (is_awaiting o.stage || is_live o.stage)
    (cond (eqb s o.session.0) (cond (eqb r 5 || eqb r 6) (with_stage o Ended) o) o)
    o

-- to a frame for the other end, which `decode` does not give here
abbrev pub not_for_office : Office → Turn Office
not_for_office o = faulted o (fault 19 0)

unfoldable pub received : Office → Frame → Turn Office
received o (opening s) = not_for_office o
received o (welcome s σ) = silent (welcomed o s σ)
received o (order s n change) = not_for_office o
received o (ack s k) = silent (acknowledged o s k)
received o (refuse s r) = silent (ended o s r)

abbrev pub judged : Office → Decoded → Turn Office
judged o (a_fault f) = faulted o f
judged o (a_frame frame) = received o frame

abbrev pub frame_in : Office → List ℕ → Turn Office
frame_in o bytes = judged o (decode AtOffice bytes)

-- ---- the progress: 01's word

abbrev pub progress_at : Stage → Office → Progress
progress_at Unopened o = Waiting
progress_at Awaiting o = Waiting
progress_at Live o = cond (eqb o.confirmed.0 o.issued.0) Settled Waiting
progress_at Ended o = Over

abbrev pub progress : Office → Progress
progress o = progress_at o.stage o
