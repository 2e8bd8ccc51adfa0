-- The index leads to the paper's rows: one computed test over the 256 command bytes, and what it says at each.
use Prim.Native.Nat.{ℕ, zero, suc, ◌+◌, ◌/◌}
use native.Mathlib.Nat.{add-zero, zero-add, add-suc, suc-add}
use native.Mathlib.Omega.{arith}
use mathlib.Core.Path.{◌≡◌, refl, ◌∙◌}
use mathlib.Core.Bool.{Bool, true, false, cond}
use mathlib.Core.List.{List, [], ◌∷◌, map}
use Rattle.std.specs.Prelude.{Some, None}
use lib.ListN.{get_or}
use lib.Dec.{T, eqb, eqb→eq}
use borrow.Author.Tests.{eq-eqb, ne_eqb}
use Rattle.base.proofs.Tests.{all_below, below_each}
use Rattle.bus.specs.declared.command.CommandRow.{CommandRow}
use Rattle.bus.specs.Commands.{command_rows, find_row, lookup}
use Rattle.bus.specs.AsWritten.{table}
use Rattle.bus.proofs.CommandTable.{table_alike}
use Rattle.command_table.specs.Index.{entry, one_more, number_among, paper_number, numbered, row_at, index_number, IndexAsWritten, RowAsWritten}

abbrev right_at : ℕ → Bool
right_at k = eqb (index_number (k / 2)) (paper_number (k / 2))

right_everywhere : T (all_below 256 right_at)
unfolding all_below entry number_among table
right_everywhere = tt

pub index_as_written : IndexAsWritten
index_as_written k h = eqb→eq _ _ (below_each 256 right_at right_everywhere k h)

-- ---- the row with an ID's number is the row with that ID

abbrev ids : List CommandRow → List ℕ
ids rows = map (λ (row : CommandRow). row.id) rows

entry_get_or : {A : Type 0} (other : A) (start n : ℕ) (xs : List A) → entry other start (start + n) xs ≡ get_or xs n other
unfolding entry
entry_get_or other start n [] = refl
entry_get_or other start zero (x ∷ xs) = rw (eq-eqb (start + 0) start (add-zero start))
entry_get_or other start (suc n) (x ∷ xs) = rw (ne_eqb (start + suc n) start (λ e. omega arith), add-suc start n, ← (suc-add start n)) (entry_get_or other (suc start) n xs)

by_number : (id : ℕ) (rows : List CommandRow) → get_or (numbered rows) (number_among id (ids rows)) None ≡ find_row id rows
unfolding number_among
by_number id [] = refl
by_number id (row ∷ rows) = by_cases (eqb id row.id) (number_among id (ids rows)) (by_number id rows)
  where
    by_cases : (here : Bool) (later : ℕ) → get_or (numbered rows) later None ≡ find_row id rows →
        get_or (numbered (row ∷ rows)) (cond here 1 (one_more later)) None ≡ cond here (Some row) (find_row id rows)
    by_cases true later e = refl
    by_cases false zero e = e
    by_cases false (suc n) e = e

-- both tables have their rows in one order
pub lookup_by_number : (id : ℕ) → row_at (paper_number id) ≡ lookup id
unfolding lookup table
lookup_by_number id = rw (← (zero-add (paper_number id))) (entry_get_or None 0 (paper_number id) (numbered command_rows) ∙ by_number id command_rows)

pub row_as_written : RowAsWritten
row_as_written k h = rw (index_as_written k h, lookup_by_number (k / 2)) (table_alike (k / 2))
