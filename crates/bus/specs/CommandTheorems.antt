-- What is proved of a command that is performed.
use Rattle.std.specs.Prelude.{ℕ, ◌/◌, ◌%◌, ◌≤◌, ◌<◌, ◌≡◌, true, false, ◌||◌, List, [], ◌∷◌, ◌⊎◌, length, eqb, Option as StdOption, Some, None}
use Rattle.std.proofs.Math.Option.{Option, none, some}
use Rattle.base.specs.Bytes.{Bytes}
use Rattle.packet.specs.declared.writer.Access.{Access}
use Rattle.packet.specs.declared.writer.Access.TheVariants.{Write, Read}
use Rattle.settings.specs.declared.settings.Settings.{Settings}
use Rattle.settings.specs.declared.settings.Flag.TheVariants.{NotAvailable, InvalidCommand, OutOfRange, WrongLength}
use Rattle.settings.specs.Range.{StatusHeld, Held}
use Rattle.bus.specs.declared.command.Register.{Register}
use Rattle.bus.specs.declared.command.Register.TheVariants.{Bezel}
use Rattle.bus.specs.declared.command.CommandRow.{CommandRow}
use Rattle.bus.specs.declared.command.Performed.{Performed}
use Rattle.bus.specs.Commands.{lookup, access, offers, request_length, accepts, read, written, reply_of, failed, read_register, locked, perform}
use Rattle.bus.specs.AsWritten.{Row, table, find, master_off, out_of_mode, command_found}

-- ---- the registers as the paper's table has them

-- a row of the paper's table says what a row of Commands.antt and the rules for its register say: its ID, its ways, when each is available, its two
-- lengths, its range, what it stores and what it reads as
pub record Described (paper : Row) (row : CommandRow) : Type 0 where
  pub named : row.id ≡ paper.id
  pub writes : offers row Write ≡ paper.writable
  pub reads : offers row Read ≡ true
  pub write_available : (σ : Settings) → locked σ row Write ≡ master_off σ paper.id || out_of_mode σ paper.id
  pub read_available : (σ : Settings) → locked σ row Read ≡ master_off σ paper.id
  pub write_length : request_length row Write ≡ paper.count
  pub read_length : request_length row Read ≡ 0
  pub limited : (d : List ℕ) → accepts row.register d ≡ paper.accepted d
  pub stored : (σ : Settings) (d : List ℕ) → written σ row.register d ≡ paper.stores σ d
  pub read_as : (σ : Settings) → read σ row.register ≡ paper.reads σ
  pub counted : (σ : Settings) → length (read σ row.register) ≡ row.count

-- no row in either, or the rows with this ID
pub data Alike (id : ℕ) : Option Row → StdOption CommandRow → Type 0 where
  unknown : Alike id none None
  known : (paper : Row) (row : CommandRow) → paper.id ≡ id → Described paper row → Alike id (some paper) (Some row)

-- at every ID both tables have no row, or one that says the same
abbrev pub TableAlike : Type 0
TableAlike = (id : ℕ) → Alike id (find id table) (lookup id)

-- a read gives as many bytes as its row says
abbrev pub ReadCounted : Type 0
ReadCounted = (id : ℕ) (row : Row) → find id table ≡ some row → (σ : Settings) → length (row.reads σ) ≡ row.count

-- the status bytes are bytes
abbrev pub StatusFits : Settings → Type 0
StatusFits σ = StatusHeld σ.status

-- one effect and one reply, by the paper's table and by the tests that the code makes
abbrev pub PerformedAlike : Type 0
PerformedAlike =
    (σ : Settings) (k : ℕ) (d : List ℕ) → StatusFits σ →
    ((command_found (find (k / 2) table) σ (eqb (k % 2) 1) d).settings ≡ (perform σ k d).settings)
    × (reply_of (command_found (find (k / 2) table) σ (eqb (k % 2) 1) d).reply ≡ (perform σ k d).reply)

-- ---- when a command takes effect

-- the ID of the command byte k has a row, and it asks for this way of access
pub record Known (k : ℕ) (row : CommandRow) (way : Access) : Type 0 where
  pub found : lookup (k / 2) ≡ Some row
  pub asked : access k ≡ way

-- the way is offered, and neither master nor the calibration mode locks the register: 01's checks 2 and 3 are passed
pub record Available (σ : Settings) (k : ℕ) (row : CommandRow) (way : Access) : Type 0 where
  pub known : Known k row way
  pub offered : offers row way ≡ true
  pub unlocked : locked σ row way ≡ false

-- so is check 4: the length is right, which for a read is 0
pub record Requested (σ : Settings) (k : ℕ) (d : List ℕ) (row : CommandRow) (way : Access) : Type 0 where
  pub available : Available σ k row way
  pub whole : length d ≡ request_length row way

abbrev pub write_performed : Settings → Register → List ℕ → Performed
write_performed σ r d = record { settings = written σ r d; reply = reply_of (0x01 ∷ []) }

-- what becomes of the command byte k with data d: each failure where its own check is the first that is not passed,
-- and an effect where every check is passed
pub data CommandEffect (σ : Settings) (k : ℕ) (d : List ℕ) : Performed → Type 0 where
  unknown_id : lookup (k / 2) ≡ None → CommandEffect σ k d (failed σ InvalidCommand 0x03)
  no_such_way : {row : CommandRow} {way : Access} → Known k row way → offers row way ≡ false → CommandEffect σ k d (failed σ InvalidCommand 0x03)
  not_available : {row : CommandRow} {way : Access} → Known k row way → offers row way ≡ true → locked σ row way ≡ true → CommandEffect σ k d (failed σ NotAvailable 0x04)
  wrong_length : {row : CommandRow} {way : Access} → Available σ k row way → (length d ≡ request_length row way → ⊥) → CommandEffect σ k d (failed σ WrongLength 0x05)
  out_of_range : {row : CommandRow} → Requested σ k d row Write → accepts row.register d ≡ false → CommandEffect σ k d (failed σ OutOfRange 0x07)
  was_written : {row : CommandRow} → Requested σ k d row Write → accepts row.register d ≡ true → CommandEffect σ k d (write_performed σ row.register d)
  was_read : {row : CommandRow} → Requested σ k d row Read → CommandEffect σ k d (read_register σ row.id row.register)

-- every command comes to one of these
abbrev pub PerformOutcome : Type 0
PerformOutcome = (σ : Settings) (k : ℕ) (d : List ℕ) → CommandEffect σ k d (perform σ k d)

-- and one that passes every check takes effect
abbrev pub PerformWrites : Type 0
PerformWrites =
    (σ : Settings) (k : ℕ) (d : List ℕ) (row : CommandRow) → Requested σ k d row Write → accepts row.register d ≡ true →
    perform σ k d ≡ write_performed σ row.register d

abbrev pub PerformReads : Type 0
PerformReads = (σ : Settings) (k : ℕ) (d : List ℕ) (row : CommandRow) → Requested σ k d row Read → perform σ k d ≡ read_register σ row.id row.register

-- document 02, Ask 4: while master is on, a write of the bezel offsets, horizontal then vertical, takes effect where both signs are 0 or 1; where either is
-- above, the response is 07, "out of range" is set, and all else is as it was
abbrev pub SignsJudged : Type 0
SignsJudged =
    (σ : Settings) (h_low h_high h_sign v_low v_high v_sign : ℕ) → (σ.switches.master ≡ 0 → ⊥) →
    let d = h_low ∷ h_high ∷ h_sign ∷ v_low ∷ v_high ∷ v_sign ∷ [] in
    (h_sign ≤ 1 → v_sign ≤ 1 → perform σ 0x50 d ≡ write_performed σ Bezel d)
    × ((1 < h_sign) ⊎ (1 < v_sign) → perform σ 0x50 d ≡ failed σ OutOfRange 0x07)

-- settings that a controller could hold stay such, whatever command is performed
abbrev pub PerformHeld : Type 0
PerformHeld = (σ : Settings) (k : ℕ) (d : List ℕ) → Bytes d → Held σ → Held (perform σ k d).settings
