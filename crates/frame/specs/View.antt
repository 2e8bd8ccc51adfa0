-- What the code's structs mean. Public contracts speak of a frame through `meaning`.
use Rattle.std.specs.Prelude.{ℕ, cond, List, length, take, replicate, Result, Ok, Err}
use Rattle.std.proofs.Math.Option.{Option, none, some}
use Rattle.base.specs.Refusal.{Told, told}
use Rattle.base.specs.declared.refusal.Refusal.{Refusal}
use Rattle.base.specs.Result.{Result as Answer, refused, accepted}
use Rattle.base.specs.Lent.{overwritten}
use Rattle.settings.specs.Settings.{fresh}
use Rattle.settings.specs.declared.settings.Settings.{Settings}
use Rattle.frame.specs.declared.frame.Ask.{Ask}
use Rattle.frame.specs.declared.frame.Ask.TheVariants.{Command, Raise, Lower}
use Rattle.frame.specs.declared.frame.Change.{Change as ChangeStruct}
use Rattle.frame.specs.declared.frame.Frame.{Frame as FrameStruct}
use Rattle.frame.specs.declared.frame.Kind.{Kind}
use Rattle.frame.specs.declared.frame.Kind.TheVariants.{Malformed, Opening, Welcome, Order, Ack, Refuse}
use Rattle.frame.specs.Frame.{data_limit, Change, command, raise, lower, too_long, Frame, opening, welcome, order, ack, refuse}

-- ---- from a struct to its meaning

abbrev pub asked_as : Ask → List ℕ → Change
asked_as (Command k) d = command k d
asked_as (Raise n) d = raise n
asked_as (Lower n) d = lower n

abbrev pub asked : ChangeStruct → Change
asked c = asked_as c.ask (take c.count c.body)

abbrev pub meaning_as : Kind → ℕ → ℕ → Change → Settings → Option Frame
meaning_as Malformed s n c σ = none
meaning_as Opening s n c σ = some (opening s)
meaning_as Welcome s n c σ = some (welcome s σ)
meaning_as Order s n c σ = some (order s n c)
meaning_as Ack s n c σ = some (ack s n)
meaning_as (Refuse r) s n c σ = some (refuse s r)

abbrev pub meaning : FrameStruct → Option Frame
meaning f = meaning_as f.kind f.session.0 f.number.0 (asked f.change) f.settings

-- ---- from a meaning to the struct that the code makes: what a kind does not have is zero, or fresh settings

abbrev pub change_of : Change → ChangeStruct
change_of (command k d) = record { ask = Command k; count = length d; body = overwritten d (replicate data_limit 0) }
change_of (raise n) = record { ask = Raise n; count = 0; body = replicate data_limit 0 }
change_of (lower n) = record { ask = Lower n; count = 0; body = replicate data_limit 0 }

abbrev pub framed : Kind → ℕ → ℕ → ChangeStruct → Settings → FrameStruct
framed k s n c σ = record { kind = k; session = record { 0 = s }; number = record { 0 = n }; change = c; settings = σ }

abbrev pub bare : Kind → ℕ → ℕ → FrameStruct
bare k s n = framed k s n (change_of (raise 0)) fresh

abbrev pub frame_of : Option Frame → FrameStruct
frame_of none = bare Malformed 0 0
frame_of (some (opening s)) = bare Opening s 0
frame_of (some (welcome s σ)) = framed Welcome s 0 (change_of (raise 0)) σ
frame_of (some (order s n c)) = framed Order s n (change_of c) fresh
frame_of (some (ack s k)) = bare Ack s k
frame_of (some (refuse s r)) = bare (Refuse r) s 0

-- ---- what a refusal tells, if there is one

abbrev pub refusal_of : {A : Type 0} → Result A Refusal → Option Told
refusal_of (Ok a) = none
refusal_of (Err r) = some (told r)

-- ---- a change asked for: refused where it has more data than an ORDER can carry

abbrev pub change_made : Change → Answer ChangeStruct
change_made c = cond (too_long c) (refused 2) (accepted (change_of c))
