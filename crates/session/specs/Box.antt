-- The cab box: document 01, "The adjustment link", Box; a run of frames: document 02, Ask 3.
use Rattle.std.specs.Prelude.{ℕ, ◌-◌, ◌*◌, Bool, true, false, cond, length, replicate, eqb, leb, ltb}
use mathlib.Core.List.{List, foldl}
use Rattle.base.specs.Refusal.{fault, plain}
use Rattle.bus.specs.declared.Controller.{Controller}
use Rattle.bus.specs.Bus as bus
use Rattle.bus.specs.Run.{run}
use Rattle.frame.specs.Frame.{Change, Frame, opening, welcome, order, ack, refuse}
use Rattle.judging.specs.declared.End.TheVariants.{Box}
use Rattle.judging.specs.Decoding.{Decoded, a_fault, a_frame, decode}
use Rattle.link.specs.View.{frame_limit}
use Rattle.order.specs.Apply.{order_packet}
use Rattle.session.specs.declared.Cab.{Cab}
use Rattle.outcome.specs.Batch.{batch_limit, cut, fits, Outcome, begun, extended, refused_whole}
use Rattle.outcome.specs.Turn.{Turn, wrote, refused, refused_by, faulted_by}

-- ---- opening a session

abbrev pub cab_of : Controller → ℕ → Bool → ℕ → Cab
cab_of controller highest active taken =
    record { controller = controller; highest = record { 0 = highest }; active = active; taken = record { 0 = taken } }

abbrev pub started : ℕ → Cab
started highest = cab_of bus.fresh highest false 0

abbrev pub welcomed : Cab → Turn Cab
welcomed c = wrote c (welcome c.highest.0 c.controller.settings)

abbrev pub acknowledged : Cab → Turn Cab
acknowledged c = wrote c (ack c.highest.0 c.taken.0)

-- a session above the highest opens with no order taken; the settings stay
abbrev pub with_session : Cab → ℕ → Cab
with_session c s = cab_of c.controller s true 0

unfoldable pub opened_again : Cab → ℕ → Turn Cab
opened_again c s =
    cond c.active
    (cond (eqb s c.highest.0) (cond (eqb c.taken.0 0) (welcomed c) (acknowledged c)) (refused_by c s 6))
    (refused_by c s 6)

unfoldable pub opened : Cab → ℕ → Turn Cab
opened c s = cond (ltb c.highest.0 s) (welcomed (with_session c s)) (opened_again c s)

-- ---- orders

abbrev pub unsent : Controller → ℕ
unsent c = c.reply.len - c.reply.sent

-- bytes one by one, then 0x00 until the reply is out
unfoldable pub sent : Controller → List ℕ → Controller
sent c bytes = run (run c bytes) (replicate (unsent (run c bytes)) 0x00)

abbrev pub obeyed : Controller → Change → Controller
obeyed c change = sent c (order_packet c.settings.backlight change)

abbrev pub with_order : Cab → ℕ → Change → Cab
with_order c n change = cab_of (obeyed c.controller change) c.highest.0 c.active n

-- an order of the open session: taken before, the next one, or too far ahead
unfoldable pub ordered_here : Cab → ℕ → Change → Turn Cab
ordered_here c n change =
    cond (leb n c.taken.0) (acknowledged c)
    (cond (eqb (n - c.taken.0) 1) (acknowledged (with_order c n change))
    (refused_by c c.highest.0 7))

unfoldable pub ordered : Cab → ℕ → ℕ → Change → Turn Cab
ordered c s n change =
    cond c.active
    (cond (eqb s c.highest.0) (ordered_here c n change) (refused_by c s 6))
    (refused_by c s 5)

-- ---- any frame

-- to a frame for the other end, which `decode` does not give here
abbrev pub not_for_box : Cab → Turn Cab
not_for_box c = faulted_by c (fault 19 0)

unfoldable pub received : Cab → Frame → Turn Cab
received c (opening s) = opened c s
received c (welcome s σ) = not_for_box c
received c (order s n change) = ordered c s n change
received c (ack s k) = not_for_box c
received c (refuse s r) = not_for_box c

abbrev pub judged : Cab → Decoded → Turn Cab
judged c (a_fault f) = faulted_by c f
judged c (a_frame frame) = received c frame

-- a frame in, with `room` bytes lent for the answer
unfoldable pub frame_in : Cab → List ℕ → ℕ → Turn Cab
frame_in c bytes room =
    cond (ltb room frame_limit) (refused c 1)
    (judged c (decode Box bytes))

-- ---- a run of frames

-- one frame more, judged alone from the box that the earlier ones left; there is room for its answer
abbrev pub judged_next : Outcome Cab → List ℕ → Outcome Cab
judged_next t bytes = extended t (judged t.state (decode Box bytes))

abbrev pub all_judged : Cab → List (List ℕ) → Outcome Cab
all_judged c frames = foldl judged_next (begun c) frames

-- frames in, with their lengths beside them and `room` bytes lent for all answers
unfoldable pub frames_in : Cab → List ℕ → List ℕ → ℕ → Outcome Cab
frames_in c lengths bytes room =
    cond (ltb batch_limit (length lengths)) (refused_whole c (plain 2))
    (cond (fits lengths (length bytes))
    (cond (ltb room (frame_limit * length lengths)) (refused_whole c (plain 1))
    (all_judged c (cut lengths bytes)))
    (refused_whole c (plain 2)))
