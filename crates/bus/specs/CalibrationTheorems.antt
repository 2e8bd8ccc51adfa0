-- What is proved of the calibration registers, 64h to 69h: document 02, Ask 6.
use Rattle.std.specs.Prelude.{ℕ, ◌/◌, ◌≤◌, ◌<◌, ◌≡◌, List, [], ◌∷◌, ◌⊎◌, Some}
use Rattle.packet.specs.declared.writer.Access.TheVariants.{Write, Read}
use Rattle.settings.specs.declared.settings.Settings.{Settings}
use Rattle.settings.specs.declared.settings.Flag.TheVariants.{NotAvailable}
use Rattle.settings.specs.Settings.{cleared}
use Rattle.bus.specs.declared.command.CommandRow.{CommandRow}
use Rattle.bus.specs.declared.command.Register.TheVariants.{CalibrationMode}
use Rattle.bus.specs.Commands.{lookup, access, failed, read_register, perform}
use Rattle.bus.specs.CommandTheorems.{write_performed}

abbrev pub InCalibration : Settings → Type 0
InCalibration σ = σ.calibration.mode ≡ 0 → ⊥

abbrev pub MasterOff : Settings → Type 0
MasterOff σ = σ.switches.master ≡ 0

-- the command byte k is one of 65h to 69h
abbrev pub OfLevels : ℕ → Type 0
OfLevels k = (0x65 ≤ k / 2) × (k / 2 ≤ 0x69)

-- such a command changes a register, status bits aside, only in calibration mode with master on
abbrev pub LevelsGuarded : Type 0
LevelsGuarded =
    (σ : Settings) (k : ℕ) (d : List ℕ) → OfLevels k → (cleared (perform σ k d).settings ≡ cleared σ → ⊥) →
    InCalibration σ × (MasterOff σ → ⊥)

-- and its write is otherwise answered with 04, whatever its data: "not available" is set, and all else is as it was
abbrev pub LevelsRefused : Type 0
LevelsRefused =
    (σ : Settings) (k : ℕ) (d : List ℕ) → OfLevels k → access k ≡ Write → (σ.calibration.mode ≡ 0) ⊎ MasterOff σ →
    perform σ k d ≡ failed σ NotAvailable 0x04

-- 64h is not: while master is on it takes 0 and 1 in either mode
abbrev pub ModeWritten : Type 0
ModeWritten =
    (σ : Settings) (mode : ℕ) → (MasterOff σ → ⊥) → mode ≤ 1 →
    perform σ 0xC8 (mode ∷ []) ≡ write_performed σ CalibrationMode (mode ∷ [])

-- nor is any read
abbrev pub ReadInEitherMode : Type 0
ReadInEitherMode =
    (σ : Settings) (k : ℕ) (row : CommandRow) → lookup (k / 2) ≡ Some row → access k ≡ Read → (MasterOff σ → ⊥) →
    perform σ k [] ≡ read_register σ row.id row.register

-- a command of another ID, master's too, keeps the mode, the levels and the gain
abbrev pub CalibrationKept : Type 0
CalibrationKept =
    (σ : Settings) (k : ℕ) (d : List ℕ) → (k / 2 < 0x64) ⊎ (0x69 < k / 2) →
    (perform σ k d).settings.calibration ≡ σ.calibration

-- and 64h keeps the levels and the gain, into calibration mode and out of it
abbrev pub LevelsKept : Type 0
LevelsKept =
    (σ : Settings) (k : ℕ) (d : List ℕ) → k / 2 ≡ 0x64 →
    let after = (perform σ k d).settings.calibration in
    after ≡ record σ.calibration { mode = after.mode }
