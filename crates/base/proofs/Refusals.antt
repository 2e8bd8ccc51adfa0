-- What a refusal tells determines its case.
use mathlib.Core.Path.{◌≡◌, refl, sym, ap, ◌∙◌}
use mathlib.Core.List.{List, [], ◌∷◌}
use Prim.Native.Nat.{ℕ, ◌-◌, ◌<◌}
use native.Mathlib.Omega.{arith}
use lib.ListN.{get_or}
use Rattle.base.specs.declared.refusal.FrameFault.{FrameFault}
use Rattle.base.specs.declared.refusal.Refusal.{Refusal}
use Rattle.base.specs.declared.refusal.FrameFault.TheVariants.{
  Truncated,
  UnexpectedTag,
  WrongLength,
  InvalidContents,
  TrailingBytes,
  OtherEnd,
}
use Rattle.base.specs.declared.refusal.Refusal.TheVariants.{
  OutputTooShort,
  DataTooLong,
  IdTooLarge,
  NoOpenSession,
  WrongSession,
  OrderTooFarAhead,
  WindowFull,
  OrderNumbersExhausted,
  OfficeNotOpen,
  InvalidReply,
  IncompleteReply,
  NothingToResend,
  Frame,
}
use Rattle.base.specs.Refusal.{fault, fault_number, Told, plain, faulty, told, number, ToldDetermines, NumberDetermines}

-- by number; any case in the place of 0 and 4, which no refusal has
by_number : List Refusal
by_number =
    NothingToResend
    ∷ OutputTooShort
    ∷ DataTooLong
    ∷ IdTooLarge
    ∷ NothingToResend
    ∷ NoOpenSession
    ∷ WrongSession
    ∷ OrderTooFarAhead
    ∷ WindowFull
    ∷ OrderNumbersExhausted
    ∷ OfficeNotOpen
    ∷ InvalidReply
    ∷ IncompleteReply
    ∷ NothingToResend
    ∷ []

-- from 14 on
faults : List FrameFault
faults = Truncated ∷ UnexpectedTag ∷ WrongLength ∷ InvalidContents ∷ TrailingBytes ∷ OtherEnd ∷ []

case_of : Told → Refusal
case_of (plain n) = get_or by_number n NothingToResend
case_of (faulty f) = Frame (record { kind = get_or faults (f.number - 14) OtherEnd; offset = f.offset })

found_fault : (k : FrameFault) (offset : ℕ) → case_of (faulty (fault (fault_number k) offset)) ≡ Frame (record { kind = k; offset = offset })
unfolding case_of by_number faults
found_fault Truncated offset = refl
found_fault UnexpectedTag offset = refl
found_fault WrongLength offset = refl
found_fault InvalidContents offset = refl
found_fault TrailingBytes offset = refl
found_fault OtherEnd offset = refl

found : (r : Refusal) → case_of (told r) ≡ r
unfolding case_of by_number faults
found OutputTooShort = refl
found DataTooLong = refl
found IdTooLarge = refl
found NoOpenSession = refl
found WrongSession = refl
found OrderTooFarAhead = refl
found WindowFull = refl
found OrderNumbersExhausted = refl
found OfficeNotOpen = refl
found InvalidReply = refl
found IncompleteReply = refl
found NothingToResend = refl
found (Frame f) = found_fault f.kind f.offset

pub told_determines : ToldDetermines
told_determines r q e = sym (found r) ∙ ap case_of e ∙ found q

fault_high : (f : FrameFault) → fault_number f < 14 → ⊥
fault_high Truncated h = omega arith
fault_high UnexpectedTag h = omega arith
fault_high WrongLength h = omega arith
fault_high InvalidContents h = omega arith
fault_high TrailingBytes h = omega arith
fault_high OtherEnd h = omega arith

told_plain : (r : Refusal) → number r < 14 → told r ≡ plain (number r)
told_plain OutputTooShort h = refl
told_plain DataTooLong h = refl
told_plain IdTooLarge h = refl
told_plain NoOpenSession h = refl
told_plain WrongSession h = refl
told_plain OrderTooFarAhead h = refl
told_plain WindowFull h = refl
told_plain OrderNumbersExhausted h = refl
told_plain OfficeNotOpen h = refl
told_plain InvalidReply h = refl
told_plain IncompleteReply h = refl
told_plain NothingToResend h = refl
told_plain (Frame f) h = absurd (fault_high f.kind h)

pub number_determines : NumberDetermines
number_determines r q h e = told_determines r q (told_plain r h ∙ ap plain e ∙ sym (told_plain q (rw e at h)))
