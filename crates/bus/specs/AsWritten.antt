-- The controller once more, told as document 01 and, from 64h on, document 02's Ask 6 tell it: the open packet is the list of its
-- bytes, the checks are made on that list when it is whole, and the registers are a table. With the definitions that the code follows
-- it shares only the record of the settings. `Agrees` in BusTheorems.antt says that both answer every list of bytes alike.
use Rattle.std.specs.Prelude.{ℕ, zero, suc, ◌+◌, ◌*◌, ◌/◌, ◌%◌, ◌^◌, Bool, true, false, cond, not, ◌&&◌, length, get_or, take, ℤ, pos, negsuc, eqb, leb}
use mathlib.Core.List.{List, [], ◌∷◌, ◌++◌, foldr}
use Rattle.std.proofs.Math.Option.{Option, none, some}
use Rattle.settings.specs.declared.settings.Settings.{Settings}
use Rattle.settings.specs.declared.settings.Switches.{Switches}
use Rattle.settings.specs.declared.settings.HeaterDrive.{HeaterDrive}
use Rattle.settings.specs.declared.settings.Offsets.{Offsets}
use Rattle.settings.specs.declared.settings.Area.{Area}
use Rattle.settings.specs.declared.settings.Calibration.{Calibration}
use Rattle.settings.specs.declared.settings.StatusBytes.{StatusBytes}

-- ---- the settings by register

abbrev pub settings_of : ℕ → Switches → HeaterDrive → Offsets → Area → Calibration → StatusBytes → Settings
settings_of l w h o a c s = record { backlight = l; switches = w; heater = h; bezel = o; pixels = a; calibration = c; status = s }

abbrev pub switches_of : ℕ → ℕ → ℕ → ℕ → Switches
switches_of master park splash strength = record { master = master; park = park; splash = splash; strength = strength }

abbrev pub calibration_of : ℕ → ℕ → ℕ → ℕ → ℕ → ℕ → Calibration
calibration_of mode red green blue limit gain = record { mode = mode; red = red; green = green; blue = blue; limit = limit; gain = gain }

abbrev pub with_switches : Settings → Switches → Settings
with_switches σ w = settings_of σ.backlight w σ.heater σ.bezel σ.pixels σ.calibration σ.status

abbrev pub with_calibration : Settings → Calibration → Settings
with_calibration σ c = settings_of σ.backlight σ.switches σ.heater σ.bezel σ.pixels c σ.status

abbrev pub with_status : Settings → ℕ → ℕ → ℕ → ℕ → Settings
with_status σ a b c d =
    settings_of σ.backlight σ.switches σ.heater σ.bezel σ.pixels σ.calibration
    (record { first = a; second = b; third = c; fourth = d })

-- master on, all else 0
abbrev pub fresh : Settings
fresh =
    settings_of 0 (switches_of 1 0 0 0) (record { khz = 0; duty = 0 }) (record { horizontal = pos 0; vertical = pos 0 })
    (record { x0 = 0; y0 = 0; x1 = 0; y1 = 0 }) (calibration_of 0 0 0 0 0 0) (record { first = 0; second = 0; third = 0; fourth = 0 })

-- ---- status bits, by their numbers

abbrev pub with_bit : ℕ → ℕ → ℕ
with_bit bit b = cond (eqb (b / 2 ^ bit % 2) 1) b (b + 2 ^ bit)

abbrev pub in_first : ℕ → Settings → Settings
in_first bit σ = with_status σ (with_bit bit σ.status.first) σ.status.second σ.status.third σ.status.fourth

abbrev pub in_second : ℕ → Settings → Settings
in_second bit σ = with_status σ σ.status.first (with_bit bit σ.status.second) σ.status.third σ.status.fourth

abbrev pub in_fourth : ℕ → Settings → Settings
in_fourth bit σ = with_status σ σ.status.first σ.status.second σ.status.third (with_bit bit σ.status.fourth)

abbrev pub incomplete : Settings → Settings
incomplete σ = in_first 3 σ

abbrev pub not_available : Settings → Settings
not_available σ = in_first 2 σ

abbrev pub invalid_command : Settings → Settings
invalid_command σ = in_first 0 σ

abbrev pub out_of_range : Settings → Settings
out_of_range σ = in_second 5 σ

abbrev pub escape_seen : Settings → Settings
escape_seen σ = in_fourth 7 σ

abbrev pub wrong_length : Settings → Settings
wrong_length σ = in_fourth 6 σ

abbrev pub bytes_ignored : Settings → Settings
bytes_ignored σ = in_fourth 5 σ

abbrev pub wrong_checksum : Settings → Settings
wrong_checksum σ = in_fourth 4 σ

-- ---- numbers in bytes, low byte first

abbrev pub number_at : ℕ → List ℕ → ℕ
number_at i d = get_or d i 0 + get_or d (i + 1) 0 * 256

abbrev pub two_bytes : ℕ → List ℕ
two_bytes n = n % 256 ∷ n / 256 % 256 ∷ []

-- a bezel offset: an amount and a sign byte, which is 0 for a negative one

unfoldable pub negative : ℕ → ℤ
negative zero = pos 0
negative (suc n) = negsuc n

unfoldable pub signed : ℕ → ℕ → ℤ
signed amount zero = negative amount
signed amount (suc sign) = pos amount

abbrev pub signed_at : ℕ → List ℕ → ℤ
signed_at i d = signed (number_at i d) (get_or d (i + 2) 0)

-- read back as its amount, then 0 if below zero, else 1
unfoldable pub signed_bytes : ℤ → List ℕ
signed_bytes (pos n) = two_bytes n ++ 1 ∷ []
signed_bytes (negsuc n) = two_bytes (suc n) ++ 0 ∷ []

-- ---- the registers: which data a write accepts, how it stores them, and what a read gives

abbrev pub any : List ℕ → Bool
any d = true

abbrev pub up_to : ℕ → List ℕ → Bool
up_to most d = leb (get_or d 0 0) most

abbrev pub duty_up_to : ℕ → List ℕ → Bool
duty_up_to most d = leb (get_or d 2 0) most

-- the sign bytes of both offsets: document 02, Ask 4
abbrev pub signs_up_to : ℕ → List ℕ → Bool
signs_up_to most d = leb (get_or d 2 0) most && leb (get_or d 5 0) most

abbrev pub stores_backlight : Settings → List ℕ → Settings
stores_backlight σ d = settings_of (number_at 0 d) σ.switches σ.heater σ.bezel σ.pixels σ.calibration σ.status

abbrev pub stores_master : Settings → List ℕ → Settings
stores_master σ d = with_switches σ (switches_of (get_or d 0 0) σ.switches.park σ.switches.splash σ.switches.strength)

abbrev pub stores_park : Settings → List ℕ → Settings
stores_park σ d = with_switches σ (switches_of σ.switches.master (get_or d 0 0) σ.switches.splash σ.switches.strength)

abbrev pub stores_splash : Settings → List ℕ → Settings
stores_splash σ d = with_switches σ (switches_of σ.switches.master σ.switches.park (get_or d 0 0) σ.switches.strength)

abbrev pub stores_strength : Settings → List ℕ → Settings
stores_strength σ d = with_switches σ (switches_of σ.switches.master σ.switches.park σ.switches.splash (get_or d 0 0))

abbrev pub stores_heater : Settings → List ℕ → Settings
stores_heater σ d = settings_of σ.backlight σ.switches (record { khz = number_at 0 d; duty = get_or d 2 0 }) σ.bezel σ.pixels σ.calibration σ.status

abbrev pub stores_bezel : Settings → List ℕ → Settings
stores_bezel σ d =
    settings_of σ.backlight σ.switches σ.heater (record { horizontal = signed_at 0 d; vertical = signed_at 3 d }) σ.pixels σ.calibration σ.status

abbrev pub stores_nothing : Settings → List ℕ → Settings
stores_nothing σ d = σ

abbrev pub stores_pixels : Settings → List ℕ → Settings
stores_pixels σ d =
    settings_of σ.backlight σ.switches σ.heater σ.bezel
    (record { x0 = number_at 0 d; y0 = number_at 2 d; x1 = number_at 4 d; y1 = number_at 6 d }) σ.calibration σ.status

-- document 02, Ask 6
abbrev pub stores_mode : Settings → List ℕ → Settings
stores_mode σ d = let c = σ.calibration in with_calibration σ (calibration_of (get_or d 0 0) c.red c.green c.blue c.limit c.gain)

abbrev pub stores_red : Settings → List ℕ → Settings
stores_red σ d = let c = σ.calibration in with_calibration σ (calibration_of c.mode (number_at 0 d) c.green c.blue c.limit c.gain)

abbrev pub stores_green : Settings → List ℕ → Settings
stores_green σ d = let c = σ.calibration in with_calibration σ (calibration_of c.mode c.red (number_at 0 d) c.blue c.limit c.gain)

abbrev pub stores_blue : Settings → List ℕ → Settings
stores_blue σ d = let c = σ.calibration in with_calibration σ (calibration_of c.mode c.red c.green (number_at 0 d) c.limit c.gain)

abbrev pub stores_limit : Settings → List ℕ → Settings
stores_limit σ d = let c = σ.calibration in with_calibration σ (calibration_of c.mode c.red c.green c.blue (number_at 0 d) c.gain)

abbrev pub stores_gain : Settings → List ℕ → Settings
stores_gain σ d = let c = σ.calibration in with_calibration σ (calibration_of c.mode c.red c.green c.blue c.limit (get_or d 0 0))

abbrev pub backlight_bytes : Settings → List ℕ
backlight_bytes σ = two_bytes σ.backlight

abbrev pub master_byte : Settings → List ℕ
master_byte σ = σ.switches.master ∷ []

-- 2 if parked, else 0
abbrev pub park_byte : Settings → List ℕ
park_byte σ = cond (eqb σ.switches.park 0) 0 2 ∷ []

abbrev pub splash_byte : Settings → List ℕ
splash_byte σ = σ.switches.splash ∷ []

abbrev pub strength_byte : Settings → List ℕ
strength_byte σ = σ.switches.strength ∷ []

abbrev pub heater_bytes : Settings → List ℕ
heater_bytes σ = two_bytes σ.heater.khz ++ σ.heater.duty ∷ []

abbrev pub bezel_bytes : Settings → List ℕ
bezel_bytes σ = signed_bytes σ.bezel.horizontal ++ signed_bytes σ.bezel.vertical

abbrev pub status_bytes : Settings → List ℕ
status_bytes σ = σ.status.first ∷ σ.status.second ∷ σ.status.third ∷ σ.status.fourth ∷ []

abbrev pub pixels_bytes : Settings → List ℕ
pixels_bytes σ = two_bytes σ.pixels.x0 ++ two_bytes σ.pixels.y0 ++ two_bytes σ.pixels.x1 ++ two_bytes σ.pixels.y1

-- document 02, Ask 6
abbrev pub mode_byte : Settings → List ℕ
mode_byte σ = σ.calibration.mode ∷ []

abbrev pub red_bytes : Settings → List ℕ
red_bytes σ = two_bytes σ.calibration.red

abbrev pub green_bytes : Settings → List ℕ
green_bytes σ = two_bytes σ.calibration.green

abbrev pub blue_bytes : Settings → List ℕ
blue_bytes σ = two_bytes σ.calibration.blue

abbrev pub limit_bytes : Settings → List ℕ
limit_bytes σ = two_bytes σ.calibration.limit

abbrev pub gain_byte : Settings → List ℕ
gain_byte σ = σ.calibration.gain ∷ []

pub record Row : Type 0 where
  pub id : ℕ
  pub writable : Bool
  -- the data of a write, and of a read's reply
  pub count : ℕ
  pub accepted : List ℕ → Bool
  pub stores : Settings → List ℕ → Settings
  pub reads : Settings → List ℕ

abbrev pub row : ℕ → Bool → ℕ → (List ℕ → Bool) → (Settings → List ℕ → Settings) → (Settings → List ℕ) → Row
row id writable count accepted stores reads = record { id = id; writable = writable; count = count; accepted = accepted; stores = stores; reads = reads }

unfoldable pub table : List Row
table =
    row 0x00 true 2 any stores_backlight backlight_bytes
    ∷ row 0x01 true 1 (up_to 1) stores_master master_byte
    ∷ row 0x02 true 1 (up_to 1) stores_park park_byte
    ∷ row 0x25 true 1 (up_to 1) stores_splash splash_byte
    ∷ row 0x26 true 1 (up_to 2) stores_strength strength_byte
    ∷ row 0x27 true 3 (duty_up_to 100) stores_heater heater_bytes
    ∷ row 0x28 true 6 (signs_up_to 1) stores_bezel bezel_bytes
    ∷ row 0x33 false 4 any stores_nothing status_bytes
    ∷ row 0x53 true 8 any stores_pixels pixels_bytes
    ∷ row 0x64 true 1 (up_to 1) stores_mode mode_byte
    ∷ row 0x65 true 2 any stores_red red_bytes
    ∷ row 0x66 true 2 any stores_green green_bytes
    ∷ row 0x67 true 2 any stores_blue blue_bytes
    ∷ row 0x68 true 2 any stores_limit limit_bytes
    ∷ row 0x69 true 1 (up_to 3) stores_gain gain_byte
    ∷ []

unfoldable pub find : ℕ → List Row → Option Row
find id [] = none
find id (r ∷ rs) = cond (eqb id r.id) (some r) (find id rs)

-- ---- the five checks on a whole packet, and its effect

pub record Outcome : Type 0 where
  pub settings : Settings
  pub reply : List ℕ

abbrev pub outcome : Settings → List ℕ → Outcome
outcome σ reply = record { settings = σ; reply = reply }

-- the sum of bytes modulo 256
unfoldable pub sum : List ℕ → ℕ
sum bytes = foldr ◌+◌ 0 bytes % 256

-- a good read's reply: 01, the data's count, the data, and the sum of all these
unfoldable pub good_read : List ℕ → List ℕ
good_read d = (0x01 ∷ length d ∷ d) ++ sum (0x01 ∷ length d ∷ d) ∷ []

-- a status read clears what it gives
abbrev pub clears : ℕ → Settings → Settings
clears id σ = cond (eqb id 0x33) (with_status σ 0 0 0 0) σ

-- the third check: master is off and the ID is not 01h
abbrev pub master_off : Settings → ℕ → Bool
master_off σ id = eqb σ.switches.master 0 && not (eqb id 0x01)

-- and with it, for writes: 65h to 69h outside calibration mode
abbrev pub out_of_mode : Settings → ℕ → Bool
out_of_mode σ id = leb 0x65 id && leb id 0x69 && eqb σ.calibration.mode 0

-- a command byte is a write of its register or, where it is odd, a read
unfoldable pub command : Settings → Row → Bool → List ℕ → Outcome
command σ r false d =
    cond (not r.writable) (outcome (invalid_command σ) (0x03 ∷ []))
    (cond (master_off σ r.id) (outcome (not_available σ) (0x04 ∷ []))
    (cond (out_of_mode σ r.id) (outcome (not_available σ) (0x04 ∷ []))
    (cond (not (eqb (length d) r.count)) (outcome (wrong_length σ) (0x05 ∷ []))
    (cond (not (r.accepted d)) (outcome (out_of_range σ) (0x07 ∷ []))
    (outcome (r.stores σ d) (0x01 ∷ []))))))
command σ r true d =
    cond (master_off σ r.id) (outcome (not_available σ) (0x04 ∷ []))
    (cond (not (eqb (length d) 0)) (outcome (wrong_length σ) (0x05 ∷ []))
    (outcome (clears r.id σ) (good_read (r.reads σ))))

abbrev pub command_found : Option Row → Settings → Bool → List ℕ → Outcome
command_found none σ is_read d = outcome (invalid_command σ) (0x03 ∷ [])
command_found (some r) σ is_read d = command σ r is_read d

-- the packet k, n, d, s: command byte, length, data and checksum
unfoldable pub checked : Settings → ℕ → ℕ → List ℕ → ℕ → Outcome
checked σ k n d s =
    cond (not (eqb s (sum (k ∷ n ∷ d)))) (outcome (wrong_checksum σ) (0x02 ∷ []))
    (command_found (find (k / 2) table) σ (eqb (k % 2) 1) d)

-- ---- the exchange

pub record State : Type 0 where
  pub settings : Settings
  pub packet : Option (List ℕ)
  pub escape : Bool
  pub unsent : List ℕ

abbrev pub state : Settings → Option (List ℕ) → Bool → List ℕ → State
state σ packet escape unsent = record { settings = σ; packet = packet; escape = escape; unsent = unsent }

-- idle, with no reply waiting
abbrev pub idle : Settings → State
idle σ = state σ none false []

abbrev pub begin : State
begin = idle fresh

-- the bytes of a packet once they are all there: command byte, length n, n data bytes and checksum
unfoldable pub whole : List ℕ → Bool
whole [] = false
whole (k ∷ []) = false
whole (k ∷ n ∷ bs) = eqb (length bs) (n + 1)

unfoldable pub closed : Settings → List ℕ → State
closed σ [] = state σ none false []
closed σ (k ∷ []) = state σ none false []
closed σ (k ∷ n ∷ bs) =
    let end = checked σ k n (take n bs) (get_or bs n 0) in
    state end.settings none false end.reply

unfoldable pub collected : Settings → List ℕ → State
collected σ bytes = cond (whole bytes) (closed σ bytes) (state σ (some bytes) false [])

unfoldable pub in_packet : Settings → List ℕ → Bool → ℕ → State
in_packet σ bytes true b = collected σ (bytes ++ cond (eqb b 0x00) 0xA5 b ∷ [])
in_packet σ bytes false b =
    cond (eqb b 0x5A) (state (escape_seen σ) (some bytes) true [])
    (collected σ (bytes ++ b ∷ []))

-- a byte that is no start, with no reply unsent
unfoldable pub taken : Settings → Option (List ℕ) → Bool → ℕ → State
taken σ none escape b = cond (eqb b 0x00) (state σ none escape []) (state (bytes_ignored σ) none escape [])
taken σ (some bytes) escape b = in_packet σ bytes escape b

abbrev pub opened : Settings → Option (List ℕ) → State
opened σ none = state σ (some []) false []
opened σ (some bytes) = state (incomplete σ) (some []) false []

abbrev pub byte_in : Settings → Option (List ℕ) → Bool → List ℕ → ℕ → State
byte_in σ packet escape [] b = taken σ packet escape b
byte_in σ packet escape (u ∷ us) b = state σ packet escape us

unfoldable pub step : State → ℕ → State
step s b = cond (eqb b 0xA5) (opened s.settings s.packet) (byte_in s.settings s.packet s.escape s.unsent b)

abbrev pub byte_out : List ℕ → ℕ
byte_out [] = 0xFF
byte_out (u ∷ us) = u

unfoldable pub steps : State → List ℕ → State
steps s [] = s
steps s (b ∷ bs) = steps (step s b) bs

unfoldable pub sent : State → List ℕ → List ℕ
sent s [] = []
sent s (b ∷ bs) = byte_out s.unsent ∷ sent (step s b) bs
