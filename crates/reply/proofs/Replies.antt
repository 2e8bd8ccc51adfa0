-- What the reader finds at each place of the bytes, where the reply begins at offset `at`.
use mathlib.Core.Path.{◌≡◌, refl, sym, ◌∙◌}
use mathlib.Core.Bool.{true, false, cond}
use mathlib.Core.List.{List, ◌∷◌}
use Prim.Native.Nat.{ℕ, ◌+◌, ◌-◌, ◌<◌, ◌≤◌}
use native.Mathlib.Omega.{arith}
use lib.ListN.{length, get_or, take, drop, length-drop, drop_of_length-le}
use lib.Seq.{get_or-drop}
use lib.Dec.{leb, eqb}
use borrow.Author.Tests.{le-leb, lt-leb, eq-eqb, ne_eqb}
use Rattle.std.proofs.lemmas.List.{drop_more}
use Rattle.base.specs.Result.{refused, accepted}
use Rattle.packet.specs.declared.writer.Access.{Access}
use Rattle.packet.specs.declared.writer.Access.TheVariants.{Write, Read}
use Rattle.packet.specs.Packet.{checksum}
use Rattle.reply.specs.Reader.{dummies, reserved, response_only, payload_of, payload_at, after_response, reply_at, reply}

-- ---- the definitions where the bytes left are those from an offset on

module _ (s : List ℕ) (at : ℕ) where
  pub payload_missing : length s ≤ at → payload_at at (drop at s) ≡ refused 12
  unfolding payload_at
  payload_missing h = rw (drop_of_length-le s h)

  pub payload_from : at < length s → payload_at at (drop at s) ≡ payload_of (get_or s at 0) (at + 1) (drop (at + 1) s)
  unfolding payload_at
  payload_from h = rw (drop_more s at 0 h)

  pub payload_is : (m : ℕ) → payload_of m at (drop at s) ≡
      cond (leb (length s - at) m) (refused 12)
      (cond (eqb (get_or s (at + m) 0) (checksum (0x01 ∷ m ∷ take m (drop at s))))
      (accepted (record { response = 0x01; start = at; count = m; end = at + m + 1 }))
      (refused 11))
  unfolding payload_of
  payload_is m = rw (length-drop at s, get_or-drop at s m 0)

  pub reply_missing : (asked : Access) → length s ≤ at → reply_at asked at (drop at s) ≡ refused 12
  unfolding reply_at
  reply_missing asked h = rw (drop_of_length-le s h)

  pub reply_from : (asked : Access) → at < length s → reply_at asked at (drop at s) ≡
      cond (reserved (get_or s at 0)) (refused 11) (after_response asked (get_or s at 0) (at + 1) (drop (at + 1) s))
  unfolding reply_at
  reply_from asked h = rw (drop_more s at 0 h)

-- ---- the reply that the reader finds

module _ (asked : Access) (s : List ℕ) {at : ℕ} (begins : at ≡ dummies s) where
  pub no_response : length s ≤ at → refused 12 ≡ reply asked s
  no_response h = rw (← begins, reply_missing s at asked h)

  module _ {r : ℕ} (within : at < length s) (there : r ≡ get_or s at 0) where
    pub response_reserved : reserved r ≡ true → refused 11 ≡ reply asked s
    response_reserved h = rw (← begins, reply_from s at asked within, ← there, h)

    -- a response that is not reserved
    module _ (free : reserved r ≡ false) where
      responded : reply asked s ≡ after_response asked r (at + 1) (drop (at + 1) s)
      responded = rw (← begins, reply_from s at asked within, ← there, free)

      pub written : asked ≡ Write → accepted (response_only r (at + 1)) ≡ reply asked s
      unfolding after_response
      written h = rw (responded, h)

      pub failed : (r ≡ 0x01 → ⊥) → accepted (response_only r (at + 1)) ≡ reply asked s
      unfolding after_response
      failed h = rw responded (by_way asked)
        where
          by_way : (way : Access) → accepted (response_only r (at + 1)) ≡ after_response way r (at + 1) (drop (at + 1) s)
          by_way Write = refl
          by_way Read = rw (ne_eqb r 0x01 h)

      -- and that is a read's success
      module _ (way : asked ≡ Read) (success : r ≡ 0x01) where
        succeeded : reply asked s ≡ payload_at (at + 1) (drop (at + 1) s)
        unfolding after_response
        succeeded = rw (responded, way, success)

        pub no_length : length s ≤ at + 1 → refused 12 ≡ reply asked s
        no_length h = rw (succeeded, payload_missing s (at + 1) h)

        module _ {m : ℕ} (second : at + 1 < length s) (counted : m ≡ get_or s (at + 1) 0) where
          next : at + 1 + 1 ≡ at + 2
          next = omega arith

          payload_told : reply asked s ≡
              cond (leb (length s - (at + 2)) m) (refused 12)
              (cond (eqb (get_or s (at + 2 + m) 0) (checksum (0x01 ∷ m ∷ take m (drop (at + 2) s))))
              (accepted (record { response = 0x01; start = at + 2; count = m; end = at + 2 + m + 1 }))
              (refused 11))
          payload_told = rw (succeeded, payload_from s (at + 1) second, ← counted, next, payload_is s (at + 2) m)

          pub data_missing : length s ≤ at + 2 + m → refused 12 ≡ reply asked s
          data_missing h = sym (payload_told ∙ simp (le-leb (length s - (at + 2)) m (omega arith)))

          module _ {last sum : ℕ} (whole : at + 2 + m < length s) (behind : last ≡ get_or s (at + 2 + m) 0)
              (summed : sum ≡ checksum (0x01 ∷ m ∷ take (at + 2 + m - (at + 2)) (drop (at + 2) s))) where
            few : at + 2 + m - (at + 2) ≡ m
            few = omega arith

            summed_data : sum ≡ checksum (0x01 ∷ m ∷ take m (drop (at + 2) s))
            summed_data = rw few at summed

            pub sum_wrong : (last ≡ sum → ⊥) → refused 11 ≡ reply asked s
            sum_wrong h = sym (payload_told ∙ simp (lt-leb (length s - (at + 2)) m (omega arith), ← behind, ← summed_data, ne_eqb last sum h))

            pub sum_right : last ≡ sum → accepted (record { response = 0x01; start = at + 2; count = m; end = at + 2 + m + 1 }) ≡ reply asked s
            sum_right h = sym (payload_told ∙ simp (lt-leb (length s - (at + 2)) m (omega arith), ← behind, ← summed_data, eq-eqb last sum h))

pub ruleset places = (no_response, response_reserved, written, failed, no_length, data_missing, sum_wrong, sum_right)
