-- Nothing of demand 3's list is left out.
use Rattle.std.specs.Prelude.{ℕ, List, ◌⊎◌}
use Rattle.std.proofs.Common.{inl, inr}
use Rattle.outcome.specs.declared.BatchOrder.{BatchOrder}
use Rattle.session.specs.Calls.{BoxCall, box_frames, OfficeCall, issue_all}
use Rattle.calls.specs.declared.Call.{Call as CodeCall}
use Rattle.calls.specs.View.{call_of}

-- A call of the code that is this one.
pub data AsCode : BoxCall ⊎ OfficeCall → Type 0 where
  single : (call : CodeCall) (bytes : List ℕ) (room : ℕ) → AsCode (call_of call bytes room)
  batch : (orders : List BatchOrder) (bytes : List ℕ) (room : ℕ) → AsCode (inr (issue_all orders bytes room))
  frames : (lengths bytes : List ℕ) (room : ℕ) → AsCode (inl (box_frames lengths bytes room))

-- every call of demand 3's list is one of the code, at the box or at an office
abbrev pub EveryCall : Type 0
EveryCall = (c : BoxCall ⊎ OfficeCall) → AsCode c
