-- Lines of text as lists of bytes: parts, words and numbers.
use Rattle.std.specs.Prelude.{ℕ, ◌+◌, ◌-◌, ◌*◌, Bool, if◌then◌else◌, ◌&&◌, ◌||◌, not, ◌==◌, List, [], length, get_or, take, drop, leb, Option, None, Some, Result, Ok, Err}
use Rattle.std.specs.Option.{option_map, option_and_then}
use Rattle.std.specs.List.{position_or_len, prefix_len, list_all, fold}
use Rattle.text.specs.declared.digits.DecimalError.{DecimalError}
use Rattle.text.specs.declared.digits.DecimalError.TheVariants.{NotDigits, TooLarge}

-- s[from..to], or nothing where s has no such part
abbrev pub part : List ℕ → ℕ → ℕ → List ℕ
part s from to = if leb to (length s) && leb from to then take (to - from) (drop from s) else []

-- how many bytes stand before the first that is `byte`, or before the end
abbrev pub before : ℕ → List ℕ → ℕ
before byte s = position_or_len (λ b. b == byte) s

abbrev pub find : List ℕ → ℕ → ℕ → ℕ
find s start byte = start + before byte (drop start s)

-- ---- words: 0x20 is the space

abbrev pub word : List ℕ → List ℕ
word s = take (before 0x20 s) s

-- how many spaces stand at the front
abbrev pub spaces : List ℕ → ℕ
spaces s = prefix_len (λ b. b == 0x20) s

abbrev pub skip_spaces : List ℕ → List ℕ
skip_spaces s = drop (spaces s) s

abbrev pub after_word : List ℕ → List ℕ
after_word s = skip_spaces (drop (before 0x20 s) s)

-- ---- decimal numbers: 0x30 to 0x39 are the digits 0 to 9

abbrev pub digit : ℕ → Bool
digit b = leb 0x30 b && leb b 0x39

abbrev pub all_digits : List ℕ → Bool
all_digits s = list_all digit s

abbrev pub digit_value : ℕ → ℕ
digit_value b = b - 0x30

-- the digits of n, and then this one
abbrev pub appended : ℕ → ℕ → ℕ
appended n b = 10 * n + digit_value b

-- the number that the digits of n and then those of s write
abbrev pub value_from : ℕ → List ℕ → ℕ
value_from n s = fold appended n s

abbrev pub largest_u64 : ℕ
largest_u64 = 18446744073709551615

abbrev pub within_u64 : ℕ → Result ℕ DecimalError
within_u64 n = if leb n largest_u64 then Ok n else Err TooLarge

abbrev pub decimal : List ℕ → Result ℕ DecimalError
decimal s = if length s == 0 || not (all_digits s) then Err NotDigits else within_u64 (value_from 0 s)

-- ---- bytes in hexadecimal: 0x41 to 0x46 are A to F, 0x61 to 0x66 are a to f

abbrev pub hex_digit : ℕ → Option ℕ
hex_digit b =
    if digit b then Some (digit_value b)
    else if leb 0x41 b && leb b 0x46 then Some (b - 0x41 + 10)
    else if leb 0x61 b && leb b 0x66 then Some (b - 0x61 + 10)
    else None

-- exactly two digits
abbrev pub hex_byte : List ℕ → Option ℕ
hex_byte s =
    if length s == 2
    then option_and_then (λ high. option_map (λ low. 16 * high + low) (hex_digit (get_or s 1 0))) (hex_digit (get_or s 0 0))
    else None
