-- The calibration registers: written in their mode alone, and kept by all other commands.
use Prim.Native.Nat.{ℕ, ◌+◌, ◌-◌, ◌/◌, ◌<◌}
use native.Mathlib.Omega.{arith}
use mathlib.Core.Path.{◌≡◌, refl, sym, ap, ◌∙◌, subst}
use mathlib.Core.Bool.{Bool, true, false, ◌&&◌, ◌||◌, and-false, or-true, true≢false, false≢true}
use mathlib.Core.List.{List, [], ◌∷◌}
use Rattle.std.specs.Prelude.{Option as StdOption, Some, None}
use mathlib.Core.Option.{Option}
use mathlib.Core.Logic.{◌⊎◌, inl, inr}
use lib.Dec.{T, eqb, leb}
use borrow.Author.Tests.{eqb-true, eq-eqb, ne_eqb, le-leb, lt-leb}
use Rattle.base.proofs.Tests.{all_below, below_each}
use Rattle.std.proofs.lemmas.Bool.{cond_both}
use Rattle.packet.specs.declared.writer.Access.TheVariants.{Write, Read}
use Rattle.settings.specs.declared.settings.Settings.{Settings}
use Rattle.settings.specs.declared.settings.Flag.TheVariants.{NotAvailable}
use Rattle.settings.specs.Settings.{flagged, cleared}
use Rattle.settings.proofs.StatusLaws.{cleared_flagged}
use Rattle.bus.specs.declared.command.CommandRow.{CommandRow}
use Rattle.bus.specs.declared.command.Register.TheVariants.{CalibrationMode}
use Rattle.bus.specs.declared.command.Ways.TheVariants.{ReadWrite}
use Rattle.bus.specs.declared.command.ModeRight.TheVariants.{MasterOn}
use Rattle.bus.specs.AsWritten.{Row, table, find, master_off, out_of_mode}
use Rattle.bus.specs.Commands.{command_row, command_rows, find_row, lookup, access, offers, locked, written, failed, perform_offered, perform_found, perform_looked_up, perform}
use Rattle.bus.specs.CommandTheorems.{Alike, known, Requested}
use Rattle.bus.specs.CalibrationTheorems.{MasterOff, OfLevels, LevelsGuarded, LevelsRefused, ModeWritten, ReadInEitherMode, CalibrationKept, LevelsKept}
use Rattle.bus.proofs.CommandTable.{◌&◌, table_alike}
use Rattle.bus.proofs.Effect.{perform_writes, perform_reads, command_keeps}

-- ---- what holds of every row holds of the row found

abbrev Each : (CommandRow → Type 0) → List CommandRow → Type 0
Each P [] = Unit {0}
Each P (row ∷ rows) = P row × Each P rows

abbrev OfFound : (CommandRow → Type 0) → ℕ → StdOption CommandRow → Type 0
OfFound P id None = Unit {0}
OfFound P id (Some row) = P row × (row.id ≡ id)

each_found : (P : CommandRow → Type 0) (id : ℕ) (rows : List CommandRow) → Each P rows → OfFound P id (find_row id rows)
each_found P id [] all = tt
each_found P id (row ∷ rows) all =
    cond_both (eqb id row.id) _ _ (OfFound P id) (λ e. (all.0, sym (eqb-true _ _ e))) (λ e. each_found P id rows all.1)

of_row : (P : CommandRow → Type 0) → Each P command_rows → (k : ℕ) (row : CommandRow) → lookup (k / 2) ≡ Some row → P row × (row.id ≡ k / 2)
unfolding lookup
of_row P all k row found = subst (OfFound P (k / 2)) found (each_found P (k / 2) command_rows all)

-- ---- what the write of each row keeps

abbrev within : ℕ → Bool
within id = leb 0x64 id && leb id 0x69

abbrev KeepsCalibration : CommandRow → Type 0
KeepsCalibration row = (σ : Settings) (d : List ℕ) → (written σ row.register d).calibration ≡ σ.calibration

abbrev KeepsLevels : CommandRow → Type 0
KeepsLevels row =
    (σ : Settings) (d : List ℕ) → (written σ row.register d).calibration ≡ record σ.calibration { mode = (written σ row.register d).calibration.mode }

record Keeps (row : CommandRow) : Type 0 where
  outside : within row.id ≡ false → KeepsCalibration row
  mode : eqb row.id 0x64 ≡ true → KeepsLevels row

rows_keep : Each Keeps command_rows
rows_keep =
    other (λ σ d. refl)
    & other (λ σ d. refl)
    & other (λ σ d. refl)
    & other (λ σ d. refl)
    & other (λ σ d. refl)
    & other (λ σ d. refl)
    & other (λ σ d. refl)
    & other (λ σ d. refl)
    & other (λ σ d. refl)
    & record { outside = λ e. absurd (true≢false e); mode = λ e σ d. refl }
    & level refl refl
    & level refl refl
    & level refl refl
    & level refl refl
    & level refl refl
    & tt
  where
    other : {row : CommandRow} → KeepsCalibration row → Keeps row
    other keeps = record { outside = λ e. keeps; mode = λ e σ d. rw (keeps σ d) }

    level : {row : CommandRow} → within row.id ≡ true → eqb row.id 0x64 ≡ false → Keeps row
    level inside apart = record { outside = λ e. absurd (true≢false (sym inside ∙ e)); mode = λ e. absurd (false≢true (sym apart ∙ e)) }

-- of the row that a command writes
written_keeps : (σ : Settings) (k : ℕ) (d : List ℕ) (row : CommandRow) → Requested σ k d row Write → Keeps row × (row.id ≡ k / 2)
written_keeps σ k d row passed = of_row Keeps rows_keep k row passed.available.known.found

pub calibration_kept : CalibrationKept
unfolding flagged
calibration_kept σ k d other =
    command_keeps (λ (end : Settings). end.calibration ≡ σ.calibration) σ k d refl refl (λ flag. refl)
    (λ row passed fits. let keeps = written_keeps σ k d row passed in keeps.0.outside (ap within keeps.1 ∙ outside other) σ d)
  where
    outside : (k / 2 < 0x64) ⊎ (0x69 < k / 2) → within (k / 2) ≡ false
    outside (inl below) = simp (lt-leb 0x64 (k / 2) below)
    outside (inr above) = simp (lt-leb (k / 2) 0x69 above, and-false)

pub levels_kept : LevelsKept
unfolding flagged
levels_kept σ k d is_mode =
    command_keeps (λ (end : Settings). end.calibration ≡ record σ.calibration { mode = end.calibration.mode }) σ k d refl refl (λ flag. refl)
    (λ row passed fits. let keeps = written_keeps σ k d row passed in keeps.0.mode (eq-eqb _ _ (keeps.1 ∙ is_mode)) σ d)

-- ---- the mode right

-- a write is locked by the paper's third check
locked_as_written : (σ : Settings) (k : ℕ) {o : Option Row} {row : CommandRow} → Alike (k / 2) o (Some row) →
    locked σ row Write ≡ master_off σ (k / 2) || out_of_mode σ (k / 2)
locked_as_written σ k (known paper row at told) = subst (λ (id : ℕ). locked σ row Write ≡ master_off σ id || out_of_mode σ id) at (told.write_available σ)

module _ (σ : Settings) (k : ℕ) (of : OfLevels k) where
  locks : (row : CommandRow) → lookup (k / 2) ≡ Some row → (σ.calibration.mode ≡ 0) ⊎ MasterOff σ → locked σ row Write ≡ true
  locks row found when = locked_as_written σ k (subst (Alike (k / 2) (find (k / 2) table)) found (table_alike (k / 2))) ∙ by_cases when
    where
      by_cases : (σ.calibration.mode ≡ 0) ⊎ MasterOff σ → master_off σ (k / 2) || out_of_mode σ (k / 2) ≡ true
      by_cases (inl normal) = simp (eq-eqb _ _ normal, le-leb 0x65 (k / 2) of.0, le-leb (k / 2) 0x69 of.1, or-true)
      by_cases (inr off) = simp (eq-eqb _ _ off, ne_eqb (k / 2) 0x01 (λ e. omega arith))

pub levels_guarded : LevelsGuarded
levels_guarded σ k d of changed = (λ normal. changed (unchanged (inl normal)), λ off. changed (unchanged (inr off)))
  where
    unchanged : (σ.calibration.mode ≡ 0) ⊎ MasterOff σ → cleared (perform σ k d).settings ≡ cleared σ
    unchanged when =
        command_keeps (λ (end : Settings). cleared end ≡ cleared σ) σ k d refl refl (λ flag. cleared_flagged σ flag)
        (λ row passed fits. absurd (true≢false (sym (locks σ k of row passed.available.known.found when) ∙ passed.available.unlocked)))

-- each of the five has a row that offers a write
abbrev offered : StdOption CommandRow → Bool
offered None = false
offered (Some row) = offers row Write

all_offered : T (all_below 5 (λ i. offered (lookup (0x65 + i))))
unfolding all_below lookup
all_offered = tt

levels_offered : (k : ℕ) → OfLevels k → T (offered (lookup (k / 2)))
levels_offered k of =
    let here : 0x65 + (k / 2 - 0x65) ≡ k / 2 = omega arith in
    subst (λ (id : ℕ). T (offered (lookup id))) here (below_each 5 (λ i. offered (lookup (0x65 + i))) all_offered (k / 2 - 0x65) (omega arith))

pub levels_refused : LevelsRefused
unfolding perform_found perform_offered
levels_refused σ k d of asked when = by_cases (lookup (k / 2)) refl (levels_offered k of)
  where
    holds : (x : Bool) → T x → x ≡ true
    holds false t = elim t [ ]
    holds true t = refl

    by_cases : (l : StdOption CommandRow) → lookup (k / 2) ≡ l → T (offered l) → perform_looked_up l σ k d ≡ failed σ NotAvailable 0x04
    by_cases None found t = elim t [ ]
    by_cases (Some row) found t = rw asked (simp (holds (offers row Write) t, locks σ k of row found when))

-- ---- what is not refused for the mode

pub mode_written : ModeWritten
unfolding lookup access
mode_written σ mode on fits = perform_writes σ 0xC8 (mode ∷ []) row passed (le-leb mode 1 fits)
  where
    row : CommandRow
    row = command_row 0x64 CalibrationMode ReadWrite 1 MasterOn

    passed : Requested σ 0xC8 (mode ∷ []) row Write
    passed = record { available = record { known = record { found = refl; asked = refl }; offered = refl; unlocked = ne_eqb _ _ on }; whole = refl }

read_available : (σ : Settings) (k : ℕ) {o : Option Row} {row : CommandRow} → Alike (k / 2) o (Some row) → (MasterOff σ → ⊥) →
    (offers row Read ≡ true) × (locked σ row Read ≡ false)
read_available σ k (known paper row at told) on = (told.reads, told.read_available σ ∙ simp (ne_eqb σ.switches.master 0 on))

pub read_in_either_mode : ReadInEitherMode
read_in_either_mode σ k row found asked on =
    let free = read_available σ k (subst (Alike (k / 2) (find (k / 2) table)) found (table_alike (k / 2))) on in
    perform_reads σ k [] row
    (record { available = record { known = record { found = found; asked = asked }; offered = free.0; unlocked = free.1 }; whole = refl })
