-- The reader's definition on what a controller sends, and on what none does.
use mathlib.Core.Path.{◌≡◌, refl, ◌∙◌}
use mathlib.Core.Bool.{Bool, true, false}
use mathlib.Core.List.{List, [], ◌∷◌, ◌++◌, append_assoc, append-nil}
use mathlib.Core.Logic.{inl, inr}
use Prim.Native.Nat.{ℕ, zero, suc, ◌+◌, ◌<◌}
use native.Mathlib.Omega.{arith}
use lib.Dec.{leb}
use lib.ListN.{length, replicate, drop, length-append}
use lib.Seq.{take_at, get_or_at}
use borrow.Author.Tests.{le-leb, lt-leb, eq-eqb, ne_eqb, leb-true}
use Rattle.packet.specs.declared.writer.Access.{Access}
use Rattle.packet.specs.declared.writer.Access.TheVariants.{Write, Read}
use Rattle.base.specs.Result.{accepted}
use Rattle.packet.specs.Packet.{checksum}
use Rattle.packet.specs.Reply.{success}
use Rattle.reply.specs.Reader.{dummies, reserved, payload_of, payload_at, after_response, reply_at, reply}
use Rattle.reply.specs.Theorems.{SuccessRead, Reserved, ResponseRead, ReservedRefused, DummiesRefused}

-- ---- leading dummies are passed over

module _ (bytes : List ℕ) (first : dummies bytes ≡ 0) where
  dummies_passed : (n : ℕ) → dummies (replicate n 0xFF ++ bytes) ≡ n
  dummies_passed zero = first
  dummies_passed (suc n) = rw (dummies_passed n) (omega arith)

  dummies_dropped : (n : ℕ) → drop n (replicate n 0xFF ++ bytes) ≡ bytes
  dummies_dropped zero = refl
  dummies_dropped (suc n) = dummies_dropped n

  after_dummies : (asked : Access) (n : ℕ) → reply asked (replicate n 0xFF ++ bytes) ≡ reply_at asked n bytes
  after_dummies asked n = rw (dummies_passed n, dummies_dropped n)

no_dummy : (b : ℕ) (bytes : List ℕ) → (b ≡ 0xFF → ⊥) → dummies (b ∷ bytes) ≡ 0
no_dummy b bytes h = rw (ne_eqb b 0xFF h)

pub dummies_refused : DummiesRefused
unfolding reply_at
dummies_refused asked n = rw append-nil at (after_dummies [] refl asked n)

-- ---- a good read

success_found : (bytes after : List ℕ) (n : ℕ) → reply_at Read n (success bytes ++ after) ≡
    accepted (record { response = 0x01; start = n + 1 + 1; count = length bytes; end = n + 1 + 1 + length bytes + 1 })
unfolding reply_at after_response payload_at payload_of success
success_found bytes after n =
    let sum = checksum (0x01 ∷ length bytes ∷ bytes) in
    rw (append_assoc bytes (sum ∷ []) after, take_at bytes (sum ∷ after) (length bytes) refl, get_or_at bytes sum after 0 (length bytes) refl)
    (simp (lt-leb (length (bytes ++ sum ∷ after)) (length bytes) (omega (arith, length-append bytes (sum ∷ after))), eq-eqb sum sum refl))

pub success_read : SuccessRead
unfolding success
success_read bytes after n = after_dummies (success bytes ++ after) refl Read n ∙ success_found bytes after n

-- ---- a response alone

not_reserved : (r : ℕ) → r < 0xFF → (Reserved r → ⊥) → reserved r ≡ false
not_reserved r below free = simp (ne_eqb r 0x00 (λ e. free (inl e)), ne_eqb r 0x06 (λ e. free (inr (inl e))), by_cases (leb 0x09 r) refl)
  where
    by_cases : (x : Bool) → leb 0x09 r ≡ x → leb 0x09 r ≡ false
    by_cases true e = absurd (free (inr (inr (leb-true 0x09 r e, omega arith))))
    by_cases false e = e

pub response_read : ResponseRead
unfolding reply_at after_response
response_read Write r below free alone after n =
    after_dummies (r ∷ after) (no_dummy r after (omega arith)) Write n ∙ rw (not_reserved r below free)
response_read Read r below free alone after n =
    after_dummies (r ∷ after) (no_dummy r after (omega arith)) Read n ∙ rw (not_reserved r below free, ne_eqb r 0x01 (alone refl))

-- ---- a reserved response

is_reserved : (r : ℕ) → Reserved r → reserved r ≡ true
is_reserved r (inl e) = rw e
is_reserved r (inr (inl e)) = rw e
is_reserved r (inr (inr (from, to))) =
    simp (ne_eqb r 0x00 (omega arith), ne_eqb r 0x06 (omega arith), le-leb 0x09 r from, le-leb r 0xFE to)

no_reserved_dummy : (r : ℕ) → Reserved r → r ≡ 0xFF → ⊥
no_reserved_dummy r (inl e) = omega arith
no_reserved_dummy r (inr (inl e)) = omega arith
no_reserved_dummy r (inr (inr (from, to))) = omega arith

pub reserved_refused : ReservedRefused
unfolding reply_at
reserved_refused asked r h after n =
    after_dummies (r ∷ after) (no_dummy r after (no_reserved_dummy r h)) asked n ∙ rw (is_reserved r h)
