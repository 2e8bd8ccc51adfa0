-- What an encoded frame means. Public contracts speak of its bytes through `bytes_of`.
use Rattle.std.specs.Prelude.{ℕ, ◌+◌, ◌≡◌, cond, List, [], length, take, replicate, ltb, Result, Ok, Err}
use Rattle.std.proofs.Math.Option.{Option, none, some}
use Rattle.base.specs.Lent.{overwritten}
use Rattle.base.specs.Refusal.{Told, plain}
use Rattle.registers.specs.Block.{block_length}
use Rattle.base.specs.declared.refusal.Refusal.{Refusal}
use Rattle.link.specs.declared.encoded.Encoded.{Encoded}
use Rattle.frame.specs.Frame.{Frame}
use Rattle.frame.specs.View.{refusal_of}
use Rattle.link.specs.Encoding.{encode}

-- the longest frame's length, and the least output of box and office: a WELCOME's session field of 7 bytes, a field's header
-- of 3 and the settings block. It is the code's FRAME_LIMIT, since a clause cannot name a constant of the code.
abbrev pub frame_limit : ℕ
frame_limit = 10 + block_length

abbrev pub encoding_of : Option Frame → List ℕ
encoding_of none = []
encoding_of (some f) = encode f

-- where len is over the limit, which no call returns, the whole array
abbrev pub bytes_of : Encoded → List ℕ
bytes_of e = take e.len e.bytes

abbrev pub encoded : List ℕ → Encoded
encoded l = record { bytes = overwritten l (replicate frame_limit 0); len = length l }

-- what is written at the start of a lent output of `room` bytes: all or nothing
unfoldable pub sent_bytes : List ℕ → ℕ → List ℕ
sent_bytes bytes room = cond (ltb room (length bytes)) [] bytes

unfoldable pub sent_refusal : List ℕ → ℕ → Option Told
sent_refusal bytes room = cond (ltb room (length bytes)) (some (plain 1)) none

-- how many bytes were written, none on a refusal
abbrev pub length_written : Result ℕ Refusal → ℕ
length_written (Ok n) = n
length_written (Err r) = 0

-- what a call returned, and made of its lent output: what a refusal tells, the length and every byte
pub record Sends (bytes : List ℕ) (r : Result ℕ Refusal) (before after : List ℕ) : Type 0 where
  pub refusal_is : refusal_of r ≡ sent_refusal bytes (length before)
  pub length_is : length_written r ≡ length (sent_bytes bytes (length before))
  pub output_is : after ≡ overwritten (sent_bytes bytes (length before)) before
