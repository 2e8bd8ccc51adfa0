-- The refusals' numbers: document 01, "Refusal numbers", whose 4 document 02's second request splits into 14 to 19.
use Rattle.std.specs.Prelude.{◌≡◌, ℕ, ◌<◌}
use Rattle.base.specs.declared.refusal.Fault.{Fault as FaultStruct}
use Rattle.base.specs.declared.refusal.FrameFault.{FrameFault}
use Rattle.base.specs.declared.refusal.FrameFault.TheVariants.{
  Truncated,
  UnexpectedTag,
  WrongLength,
  InvalidContents,
  TrailingBytes,
  OtherEnd,
}
use Rattle.base.specs.declared.refusal.Refusal.{Refusal}
use Rattle.base.specs.declared.refusal.Refusal.TheVariants.{
  OutputTooShort,
  DataTooLong,
  IdTooLarge,
  NoOpenSession,
  WrongSession,
  OrderTooFarAhead,
  WindowFull,
  OrderNumbersExhausted,
  OfficeNotOpen,
  InvalidReply,
  IncompleteReply,
  NothingToResend,
  Frame,
}

abbrev pub fault_number : FrameFault → ℕ
fault_number Truncated = 14
fault_number UnexpectedTag = 15
fault_number WrongLength = 16
fault_number InvalidContents = 17
fault_number TrailingBytes = 18
fault_number OtherEnd = 19

-- ---- what a refusal tells

-- a frame's fault: its number, and the offset of the first byte of the field at fault
pub record Fault : Type 0 where
  pub number : ℕ
  pub offset : ℕ

abbrev pub fault : ℕ → ℕ → Fault
fault number offset = record { number = number; offset = offset }

abbrev pub fault_of : FaultStruct → Fault
fault_of f = fault (fault_number f.kind) f.offset

-- a number alone, or a fault
pub data Told : Type 0 where
  plain : ℕ → Told
  faulty : Fault → Told

abbrev pub told : Refusal → Told
told OutputTooShort = plain 1
told DataTooLong = plain 2
told IdTooLarge = plain 3
told NoOpenSession = plain 5
told WrongSession = plain 6
told OrderTooFarAhead = plain 7
told WindowFull = plain 8
told OrderNumbersExhausted = plain 9
told OfficeNotOpen = plain 10
told InvalidReply = plain 11
told IncompleteReply = plain 12
told NothingToResend = plain 13
told (Frame f) = faulty (fault_of f)

abbrev pub number_told : Told → ℕ
number_told (plain n) = n
number_told (faulty f) = f.number

abbrev pub number : Refusal → ℕ
number r = number_told (told r)

-- ---- what is told has one case, so a contract that gives what is told gives the case

abbrev pub ToldDetermines : Type 0
ToldDetermines = (r q : Refusal) → told r ≡ told q → r ≡ q

-- where it is no frame's fault, its number is enough
abbrev pub NumberDetermines : Type 0
NumberDetermines = (r q : Refusal) → number r < 14 → number r ≡ number q → r ≡ q
