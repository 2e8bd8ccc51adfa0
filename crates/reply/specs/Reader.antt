-- What the reply reader is to answer: document 01, "Refusal numbers".
use Rattle.std.specs.Prelude.{ℕ, ◌+◌, Bool, cond, ◌||◌, ◌&&◌, ◌==◌, List, [], ◌∷◌, length, get_or, take, drop, leb, eqb}
use Rattle.std.specs.List.{prefix_len}
use Rattle.base.specs.Result.{Result, refused, accepted}
use Rattle.packet.specs.Packet.{checksum}
use Rattle.packet.specs.declared.writer.Access.{Access}
use Rattle.packet.specs.declared.writer.Access.TheVariants.{Write, Read}
use Rattle.reply.specs.declared.reader.Reply.{Reply}

-- how many 0xFF stand at the front
abbrev pub dummies : List ℕ → ℕ
dummies bytes = prefix_len (λ b. b == 0xFF) bytes

-- the responses that no controller gives
abbrev pub reserved : ℕ → Bool
reserved b = eqb b 0x00 || eqb b 0x06 || (leb 0x09 b && leb b 0xFE)

-- a reply that is a response alone; `at` is the offset after it
abbrev pub response_only : ℕ → ℕ → Reply
response_only response at = record { response = response; start = at; count = 0; end = at }

-- m data bytes from offset `start` on, where `bytes` begin, and the sum of response 01, m and these
unfoldable pub payload_of : ℕ → ℕ → List ℕ → Result Reply
payload_of m start bytes =
    cond (leb (length bytes) m) (refused 12)
    (cond (eqb (get_or bytes m 0) (checksum (0x01 ∷ m ∷ take m bytes)))
    (accepted (record { response = 0x01; start = start; count = m; end = start + m + 1 }))
    (refused 11))

-- what follows response 01 where a read was asked: a length at offset `at`, and as many data bytes
unfoldable pub payload_at : ℕ → List ℕ → Result Reply
payload_at at [] = refused 12
payload_at at (m ∷ bytes) = payload_of m (at + 1) bytes

-- only a read's success has more than its response
unfoldable pub after_response : Access → ℕ → ℕ → List ℕ → Result Reply
after_response Write response at bytes = accepted (response_only response at)
after_response Read response at bytes = cond (eqb response 0x01) (payload_at at bytes) (accepted (response_only response at))

-- the reply at offset `at`, where `bytes` begin
unfoldable pub reply_at : Access → ℕ → List ℕ → Result Reply
reply_at asked at [] = refused 12
reply_at asked at (response ∷ bytes) = cond (reserved response) (refused 11) (after_response asked response (at + 1) bytes)

-- the reply after the leading dummies; whatever follows it does not matter
abbrev pub reply : Access → List ℕ → Result Reply
reply asked bytes = reply_at asked (dummies bytes) (drop (dummies bytes) bytes)
