-- A frame's bytes as a value.
use Prim.Native.Nat.{ℕ, ◌≤◌}
use mathlib.Core.Path.{◌≡◌}
use mathlib.Core.List.{List}
use lib.ListN.{length, drop, replicate}
use lib.Seq.{take-append_seam}
use Rattle.link.specs.declared.encoded.Encoded.{Encoded}
use Rattle.link.specs.View.{frame_limit, bytes_of, encoded}

pub bytes_of_encoded : (l : List ℕ) → bytes_of (encoded l) ≡ l
bytes_of_encoded l = take-append_seam l (drop (length l) (replicate frame_limit 0))

-- encode's three clauses from the first
pub whole_encoded : (l : List ℕ) (r : Encoded) → length l ≤ frame_limit → r ≡ encoded l → (r ≡ encoded l) × ((bytes_of r ≡ l) × (r.len ≤ frame_limit))
whole_encoded l r short whole = (whole, (rw whole (bytes_of_encoded l), rw whole short))
