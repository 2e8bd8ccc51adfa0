-- The tests of Commands.antt are the paper's table, at every ID and for every packet.
use Prim.Native.Nat.{ℕ, zero, suc, ◌+◌, ◌*◌, ◌/◌, ◌%◌}
use native.Mathlib.Nat.{add-zero, mul-add-mod_self_right}
use native.Mathlib.Omega.{arith}
use mathlib.Core.Path.{◌≡◌, refl, sym, ap, ◌∙◌, subst}
use mathlib.Core.Bool.{Bool, true, false, cond, ◌&&◌, ◌||◌, and-true, and-false}
use mathlib.Core.List.{List, [], ◌∷◌, ◌++◌, foldr}
use Rattle.std.specs.Prelude.{Option as StdOption, Some}
use mathlib.Core.Option.{Option, some, some-injective, none-ne-some}
use lib.ListN.{length, get_or, drop}
use lib.Seq.{get_or-drop}
use lib.IntN.{ℤ, pos, negsuc, +ℤ_idl}
use lib.Dec.{eqb, eqb-suc-zero, leb-suc-zero}
use Rattle.number.specs.Number.{le16, le16_bytes}
use Rattle.number.specs.Signed.{offset, magnitude, sign}
use Rattle.packet.specs.Packet.{total, checksum}
use Rattle.packet.specs.Reply.{success}
use borrow.Author.Tests.{eqb-true}
use Rattle.packet.specs.declared.writer.Access.TheVariants.{Write, Read}
use Rattle.bus.specs.declared.command.CommandRow.{CommandRow}
use Rattle.bus.specs.declared.command.Performed.{Performed}
use Rattle.settings.specs.declared.settings.Settings.{Settings}
use Rattle.settings.specs.declared.settings.Flag.{Flag}
use Rattle.settings.specs.declared.settings.Flag.TheVariants.{NotAvailable, InvalidCommand, OutOfRange, WrongLength}
use Rattle.settings.specs.Settings.{no_flags}
use Rattle.bus.specs.declared.command.Register.{Register}
use Rattle.bus.specs.declared.command.Register.TheVariants.{
  Backlight,
  Master,
  Park,
  Splash,
  Strength,
  Heater,
  Bezel,
  Status,
  Pixels,
  CalibrationMode,
  RedLevel,
  GreenLevel,
  BlueLevel,
  CurrentLimit,
  SensorGain,
}
use Rattle.bus.specs.Commands.{command_rows, find_row, lookup, access, offset_bytes, offset_from, read, reply_of, failed, written, write_register, perform_offered, perform_found, perform_looked_up, perform}
use Rattle.settings.specs.Range.{StatusHeld}
use Rattle.bus.specs.AsWritten.{
  number_at,
  two_bytes,
  negative,
  signed,
  signed_at,
  signed_bytes,
  stores_bezel,
  stores_pixels,
  bezel_bytes,
  Row,
  table,
  find,
  sum,
  good_read,
  Outcome,
  outcome,
  master_off,
  out_of_mode,
  command,
  command_found,
}
use Rattle.base.proofs.Tests.{if_both, unless_both}
use Rattle.std.proofs.lemmas.Bool.{cond_both}
use Rattle.bus.specs.CommandTheorems.{Described, Alike, unknown, known, TableAlike, ReadCounted, StatusFits, PerformedAlike}
use Rattle.bus.proofs.StatusBits.{marked, marked_alike}

-- ---- numbers, sums and replies of both definitions

number_from : (i : ℕ) (d : List ℕ) → le16 (drop i d) ≡ number_at i d
number_from i d = rw (get_or-drop i d 0 0, get_or-drop i d 1 0, add-zero)

offset_signed : (amount s : ℕ) → offset amount s ≡ signed amount s
unfolding offset signed negative
offset_signed zero zero = refl
offset_signed (suc n) zero = +ℤ_idl (negsuc n)
offset_signed amount (suc s) = rw eqb-suc-zero

-- an amount's two bytes are those of the amount below 65536 that is kept of it
two_bytes_kept : (n : ℕ) → le16_bytes (n % 65536) ≡ two_bytes n
two_bytes_kept n =
    let first : n % 65536 % 256 ≡ n % 256 = omega arith in
    let quotient : n / 256 ≡ n / 65536 * 256 + n % 65536 / 256 = omega arith in
    let second : n / 256 % 256 ≡ n % 65536 / 256 % 256 = ap (λ (q : ℕ). q % 256) quotient ∙ mul-add-mod_self_right (n / 65536) 256 (n % 65536 / 256) in
    rw (first, ← second)

offset_bytes_signed : (z : ℤ) → offset_bytes z ≡ signed_bytes z
unfolding magnitude sign signed_bytes
offset_bytes_signed (pos n) =
    let positive : sign (pos n) ≡ 1 = rw leb-suc-zero in
    λ i. two_bytes_kept n i ++ positive i ∷ []
offset_bytes_signed (negsuc n) = λ i. two_bytes_kept (suc n) i ++ 0 ∷ []

total_sum : (bytes : List ℕ) → total bytes ≡ foldr ◌+◌ 0 bytes
unfolding total
total_sum [] = refl
total_sum (b ∷ bs) = ap (λ (n : ℕ). b + n) (total_sum bs)

pub checksum_sum : (bytes : List ℕ) → checksum bytes ≡ sum bytes
unfolding checksum sum
checksum_sum bytes = rw (total_sum bytes)

success_good_read : (d : List ℕ) → success d ≡ good_read d
unfolding success good_read
success_good_read d = rw (checksum_sum (0x01 ∷ length d ∷ d))

-- ---- the table

stored_bezel : (σ : Settings) (d : List ℕ) → written σ Bezel d ≡ stores_bezel σ d
stored_bezel σ d =
    let horizontal = offset_signed (number_at 0 d) (get_or d 2 0) in
    let vertical : offset_from (drop 3 d) ≡ signed_at 3 d = rw (number_from 3 d, get_or-drop 3 d 2 0) (offset_signed (number_at 3 d) (get_or d 5 0)) in
    λ i. record σ { bezel = record { horizontal = horizontal i; vertical = vertical i } }

stored_pixels : (σ : Settings) (d : List ℕ) → written σ Pixels d ≡ stores_pixels σ d
stored_pixels σ d = rw (number_from 2 d, number_from 4 d, number_from 6 d)

pub read_bezel : (σ : Settings) → read σ Bezel ≡ bezel_bytes σ
read_bezel σ = λ i. offset_bytes_signed σ.bezel.horizontal i ++ offset_bytes_signed σ.bezel.vertical i

-- when a write is available, by each mode right
open_always : (x : Bool) → false ≡ (x && false) || false
open_always true = refl
open_always false = refl

while_on : (x : Bool) → x ≡ (x && true) || false
while_on true = refl
while_on false = refl

while_calibrating : (x y : Bool) → x || y ≡ (x && true) || y
while_calibrating true y = refl
while_calibrating false y = refl

ruleset availability = (open_always, while_on, while_calibrating, and-true, and-false)

-- a pair, for rows of them
infixr 5 ◌&◌
pub ◌&◌ : {A B : Type 0} → A → B → A × B
a & b = (a, b)

-- both tables, row by row
abbrev Rows : List Row → List CommandRow → Type 0
Rows [] [] = Unit {0}
Rows [] (row ∷ rows) = ⊥
Rows (paper ∷ papers) [] = ⊥
Rows (paper ∷ papers) (row ∷ rows) = Described paper row × Rows papers rows

rows_described : Rows table command_rows
unfolding table
rows_described =
    search availability
    & search availability
    & search availability
    & search availability
    & search availability
    & search availability
    & search (availability, stored_bezel, read_bezel)
    & search availability
    & search (availability, stored_pixels)
    & search availability
    & search availability
    & search availability
    & search availability
    & search availability
    & search availability
    & tt

-- the row found in both is the same one
found_alike : (id : ℕ) (papers : List Row) (rows : List CommandRow) → Rows papers rows → Alike id (find id papers) (find_row id rows)
unfolding find
found_alike id [] (row ∷ rows) told = elim told [ ]
found_alike id (paper ∷ papers) [] told = elim told [ ]
found_alike id [] [] told = unknown
found_alike id (paper ∷ papers) (row ∷ rows) told = at_id (eqb id paper.id) refl (found_alike id papers rows told.1)
  where
    by_row : {x : Bool} → eqb id paper.id ≡ x → eqb id row.id ≡ x
    by_row e = ap (eqb id) told.0.named ∙ e

    at_id : (x : Bool) → eqb id paper.id ≡ x → Alike id (find id papers) (find_row id rows) →
        Alike id (cond x (some paper) (find id papers)) (cond (eqb id row.id) (Some row) (find_row id rows))
    at_id true e later = rw (by_row e) (known paper row (sym (eqb-true _ _ e)) told.0)
    at_id false e later = rw (by_row e) later

pub table_alike : TableAlike
unfolding lookup
table_alike id = found_alike id table command_rows rows_described

pub read_counted : ReadCounted
read_counted id paper found σ = counted (table_alike id) found
  where
    counted : {o : Option Row} {l : StdOption CommandRow} → Alike id o l → o ≡ some paper → length (paper.reads σ) ≡ paper.count
    counted unknown e = absurd (none-ne-some paper e)
    counted (known paper' row at told) e =
        let same_row : paper' ≡ paper = some-injective paper' paper e in
        subst (λ (x : Row). length (x.reads σ) ≡ x.count) same_row (ap length (sym (told.read_as σ)) ∙ told.counted σ ∙ told.write_length)

-- ---- every packet

-- an outcome, as written, and what the code does are one; the status bytes stay bytes
pub record Same (o : Outcome) (p : Performed) : Type 0 where
  pub settled : o.settings ≡ p.settings
  pub replied : reply_of o.reply ≡ p.reply
  pub fitting : StatusFits o.settings

pub no_flags_fit : StatusHeld no_flags
no_flags_fit = omega arith

-- a write changes no status bit
pub written_status : (σ : Settings) (r : Register) (d : List ℕ) → (written σ r d).status ≡ σ.status
written_status σ Backlight d = refl
written_status σ Master d = refl
written_status σ Park d = refl
written_status σ Splash d = refl
written_status σ Strength d = refl
written_status σ Heater d = refl
written_status σ Bezel d = refl
written_status σ Status d = refl
written_status σ Pixels d = refl
written_status σ CalibrationMode d = refl
written_status σ RedLevel d = refl
written_status σ GreenLevel d = refl
written_status σ BlueLevel d = refl
written_status σ CurrentLimit d = refl
written_status σ SensorGain d = refl

module _ (σ : Settings) (fits : StatusFits σ) where
  -- a failure sets its bit and answers its code
  pub failed_same : (flag : Flag) (code : ℕ) → Same (outcome (marked flag σ) (code ∷ [])) (failed σ flag code)
  failed_same flag code = record { settled = sym (marked_alike σ fits flag).0; replied = refl; fitting = (marked_alike σ fits flag).1 }

  -- two tests with one answer, made one after the other or at once
  either_both : (x y : Bool) {o q : Outcome} {p r : Performed} → Same o p → Same q r → Same (cond x o (cond y o q)) (cond (x || y) p r)
  either_both true y h g = h
  either_both false true h g = h
  either_both false false h g = g

  -- the same checks in the same order
  row_same : (paper : Row) (row : CommandRow) → Described paper row → (is_read : Bool) (d : List ℕ) →
      Same (command σ paper is_read d) (perform_found σ row (cond is_read Read Write) d)
  unfolding command perform_found perform_offered write_register
  row_same paper row told true d =
      rw (told.read_available σ, told.named, ← (told.read_as σ), ← (success_good_read (read σ row.register)))
      (if_both Same (master_off σ paper.id) (failed_same NotAvailable 0x04)
      (unless_both Same (eqb (length d) 0) (failed_same WrongLength 0x05)
      (record { settled = refl; replied = refl; fitting = cond_both (eqb paper.id 0x33) _ _ StatusFits (λ e. no_flags_fit) (λ e. fits) })))
  row_same paper row told false d =
      rw (told.writes, told.write_available σ, told.write_length, told.limited d, ← (told.stored σ d))
      (unless_both Same paper.writable (failed_same InvalidCommand 0x03)
      (either_both (master_off σ paper.id) (out_of_mode σ paper.id) (failed_same NotAvailable 0x04)
      (unless_both Same (eqb (length d) paper.count) (failed_same WrongLength 0x05)
      (unless_both Same (paper.accepted d) (failed_same OutOfRange 0x07)
      (record { settled = refl; replied = refl; fitting = subst StatusHeld (sym (written_status σ row.register d)) fits })))))

  -- a known register or an unknown ID
  found_same : (k : ℕ) {found : Option Row} {l : StdOption CommandRow} → Alike (k / 2) found l → (d : List ℕ) → Same (command_found found σ (eqb (k % 2) 1) d) (perform_looked_up l σ k d)
  unfolding access
  found_same k unknown d = failed_same InvalidCommand 0x03
  found_same k (known paper row at told) d = row_same paper row told (eqb (k % 2) 1) d

-- both definitions do the same with every command byte and data
pub same : (σ : Settings) (k : ℕ) (d : List ℕ) → StatusFits σ → Same (command_found (find (k / 2) table) σ (eqb (k % 2) 1) d) (perform σ k d)
same σ k d fits = found_same σ fits k (table_alike (k / 2)) d

-- as two equations
pub performed_alike : PerformedAlike
performed_alike σ k d fits = ((same σ k d fits).settled, (same σ k d fits).replied)
