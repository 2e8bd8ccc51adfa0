-- The command table by number: the number of an ID's row, the row of a number, and the index that leads from the ID to the number.
use Rattle.std.specs.Prelude.{ℕ, zero, suc, ◌-◌, ◌/◌, ◌%◌, ◌*◌, ◌^◌, ◌<◌, ◌≡◌, cond, List, [], ◌∷◌, map, eqb, Option, Some, None}
use Rattle.bus.specs.declared.command.CommandRow.{CommandRow}
use Rattle.bus.specs.Commands.{command_rows}
use Rattle.bus.specs.AsWritten.{Row, table, find}
use Rattle.bus.specs.CommandTheorems.{Alike}

-- the entry of a list with the number n, where the first one's number is start
unfoldable pub entry : {A : Type 0} → A → ℕ → ℕ → List A → A
entry other start n [] = other
entry other start n (x ∷ xs) = cond (eqb n start) x (entry other (suc start) n xs)

-- ---- rows by number, the first being 1

-- the number where one more stands before it; 0 is no number
abbrev pub one_more : ℕ → ℕ
one_more zero = zero
one_more (suc n) = suc (suc n)

-- the number of an ID among these, or 0 where it is not
unfoldable pub number_among : ℕ → List ℕ → ℕ
number_among id [] = 0
number_among id (x ∷ xs) = cond (eqb id x) 1 (one_more (number_among id xs))

-- the number of the paper's row with this ID
abbrev pub paper_number : ℕ → ℕ
paper_number id = number_among id (map (λ (row : Row). row.id) table)

abbrev pub numbered : List CommandRow → List (Option CommandRow)
numbered rows = None ∷ map (λ (row : CommandRow). Some row) rows

abbrev pub row_at : ℕ → Option CommandRow
row_at number = entry None 0 number (numbered command_rows)

-- ---- the index

-- the numbers of the rows of eight IDs in each word: a byte each, the first ID's lowest
abbrev pub index_words : List ℕ
index_words =
    0x030201
    ∷ 0
    ∷ 0
    ∷ 0
    ∷ 0x0605040000000000
    ∷ 0x07
    ∷ 0x08000000
    ∷ 0
    ∷ 0
    ∷ 0
    ∷ 0x09000000
    ∷ 0
    ∷ 0x0D0C0B0A00000000
    ∷ 0x0F0E
    ∷ 0
    ∷ 0
    ∷ []

abbrev pub index_word : ℕ → ℕ
index_word block = entry (2 ^ 64 - 1) 0 block index_words

abbrev pub index_number : ℕ → ℕ
index_number id = index_word (id / 8) / 2 ^ (8 * (id % 8)) % 256

-- ---- document 02, Ask 5

-- at each of the 256 command bytes the index has the number of the paper's row, or 0 where the paper has none
abbrev pub IndexAsWritten : Type 0
IndexAsWritten = (k : ℕ) → k < 256 → index_number (k / 2) ≡ paper_number (k / 2)

-- and the row found says what the paper's row says, or there is none in either
abbrev pub RowAsWritten : Type 0
RowAsWritten = (k : ℕ) → k < 256 → Alike (k / 2) (find (k / 2) table) (row_at (index_number (k / 2)))
