-- Demand 3 from whole frames delivered by the receivers: document 02, Ask 1. It is proved in proofs/Theorem.antt.
-- Calls.antt has the lists of calls; session's Claim.antt has demand 3 over whole frames.
use Rattle.std.specs.Prelude.{ℕ, ◌≡◌, take}
use mathlib.Core.List.{List, flat_map, Memᴰ}
use Rattle.base.specs.Refusal.{Fault}
use Rattle.wrapping.specs.Wrapping.{wrapped}
use Rattle.wrapping.specs.Reading.{refused}
use Rattle.wrapping.specs.Theorems.{Wrappable}
use Rattle.session.specs.Calls.{Allowed}
use Rattle.session.specs.Claim.{Claim}
use Rattle.delivery.specs.Calls.{ByteCall, Incoming, first_arrivals, arrivals_after, frames, delivered, Supposed}

-- what arrived at an end since its start or restart
pub record Intact (i : Incoming) : Type 0 where
  -- nothing was refused or dropped on the way
  pub none_refused : (why : Fault) → Memᴰ (refused why) i.handed → ⊥
  pub none_dropped : i.receiver.dropped ≡ 0
  -- whole frames were handed on, each once and in order
  pub through : (row : List (List ℕ)) → ((f : List ℕ) → Memᴰ f row → Wrappable f) → i.given ≡ flat_map wrapped row → frames i.handed ≡ row

pub record Delivered (cs : List ByteCall) : Type 0 where
  -- the calls so delivered are a list that 01 allows, and the whole claim holds of it
  pub allowed : Allowed (delivered cs)
  pub claim : Claim (delivered cs)
  -- after every call
  pub at_box : (n : ℕ) → Intact (arrivals_after first_arrivals (take n cs)).box
  pub at_office : (i n : ℕ) → Intact ((arrivals_after first_arrivals (take n cs)).offices i)

-- It supposes that from each start or restart on a receiver stands where a tag should, as a fresh one does, and is given whole wrapped frames, cut anyhow.
abbrev pub Demand3Delivered : Type 0
Demand3Delivered = (cs : List ByteCall) → Supposed cs → Delivered cs
