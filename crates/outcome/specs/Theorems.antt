-- What lent bytes are cut into. It is proved in proofs/Cutting.antt.
use Rattle.std.specs.Prelude.{ℕ, ◌+◌, ◌≡◌, length}
use mathlib.Core.List.{List, [], ◌++◌, map, foldr, zip_with}
use Rattle.frame.specs.View.{asked_as}
use Rattle.outcome.specs.declared.BatchOrder.{BatchOrder}
use Rattle.outcome.specs.Batch.{cut, data_lengths, changes}

-- where the lengths sum to the bytes lent: the frames have those lengths, and joined they are the bytes
abbrev pub CutsExactly : Type 0
CutsExactly = (lengths bytes : List ℕ) → foldr ◌+◌ 0 lengths ≡ length bytes →
    (map (λ f. length f) (cut lengths bytes) ≡ lengths) × (foldr ◌++◌ [] (cut lengths bytes) ≡ bytes)

-- the changes of a batch: each one's data are what its length cuts from the bytes
abbrev pub ChangesCut : Type 0
ChangesCut = (orders : List BatchOrder) (bytes : List ℕ) → changes orders bytes ≡ zip_with (λ o d. asked_as o.ask d) orders (cut (data_lengths orders) bytes)
