-- When an office says "over": document 01, Office; document 02, Ask 12.
use Rattle.std.specs.Prelude.{ℕ, ◌≡◌, Bool, true, false, List, [], ◌∷◌, ◌⊎◌}
use Rattle.frame.specs.Frame.{refuse}
use Rattle.judging.specs.declared.End.TheVariants.{Office as AtOffice}
use Rattle.judging.specs.Decoding.{a_frame, decode}
use Rattle.session.specs.declared.Office.{Office}
use Rattle.session.specs.declared.Progress.{Progress}
use Rattle.session.specs.declared.Progress.TheVariants.{Settled, Waiting, Over}
use Rattle.session.specs.declared.Stage.TheVariants.{Unopened}
use Rattle.session.specs.Calls.{open_session, office_frame, Call, at_office, Answer, refusals, answer_of, Ends, ends_rules}
use Rattle.session.specs.Office as office

-- a REFUSE 5 or 6 reaches office i, which holds o, and names its session
pub data TellsOver (i : ℕ) (o : Office) : Call → Type 0 where
  refuse_reaches : {bytes : List ℕ} {r : ℕ} → decode AtOffice bytes ≡ a_frame (refuse o.session.0 r) → (r ≡ 5) ⊎ (r ≡ 6) → TellsOver i o (at_office i (office_frame bytes))

-- office i opens anew
pub data OpensAnew (i : ℕ) (a : Answer) : Call → Type 0 where
  opening_accepted : {s room : ℕ} → refusals a ≡ [] → OpensAnew i a (at_office i (open_session s room))

abbrev pub is_over : Progress → Bool
is_over Settled = false
is_over Waiting = false
is_over Over = true

-- at one call, from any ends: what office i says after it
pub record OverFollows (i : ℕ) (e : Ends) (c : Call) : Type 0 where
  -- an office never opened has no session that a frame could name
  pub told : TellsOver i (e.offices i) c → ((e.offices i).stage ≡ Unopened → ⊥) → office.progress ((ends_rules e c).state.offices i) ≡ Over
  pub opened : OpensAnew i (answer_of (ends_rules e c)) c → office.progress ((ends_rules e c).state.offices i) ≡ Waiting
  -- by no other call does it become or cease to be over
  pub otherwise : (TellsOver i (e.offices i) c → ⊥) → (OpensAnew i (answer_of (ends_rules e c)) c → ⊥) →
      is_over (office.progress ((ends_rules e c).state.offices i)) ≡ is_over (office.progress (e.offices i))

-- at each call of a list
abbrev pub EachCall : (Ends → Call → Type 0) → Ends → List Call → Type 0
EachCall P e [] = Unit {0}
EachCall P e (c ∷ cs) = P e c × EachCall P (ends_rules e c).state cs
