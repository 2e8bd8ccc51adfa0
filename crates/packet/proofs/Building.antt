-- What the code builds up run by run, and the packet that it comes to.
use Prim.Native.Nat.{ℕ, ◌+◌, ◌<◌, ◌≤◌}
use native.Mathlib.Nat.{zero-add, add_assoc}
use native.Mathlib.Omega.{arith}
use mathlib.Core.Path.{◌≡◌, ap, ◌∙◌}
use mathlib.Core.List.{List, [], ◌∷◌, ◌++◌, append_assoc, append-nil}
use lib.ListN.{length, get_or, take, drop, set, replicate, length-append, take-append-drop}
use Rattle.std.proofs.lemmas.List.{take_more}
use Rattle.std.proofs.lemmas.List.Concat.{flat_map-append}
use Rattle.base.proofs.Lists.{sets_append, sets_front}
use Rattle.packet.specs.Packet.{data_most, packet_limit, checksum, escape_byte, escape, fields, packet_of}
use Rattle.packet.specs.Writer.{built}
use Rattle.packet.specs.Steps.{Put, head}
use Rattle.packet.proofs.PacketTheorems.{packet_of_short}

-- a run after another
pub put_then : {xs ys out out' out'' : List ℕ} {at next last : ℕ} → Put xs at out out' next → Put ys next out' out'' last → Put (xs ++ ys) at out out'' last
put_then {xs} {ys} {out} {at = at} p q = record {
  next_is = q.next_is ∙ rw (p.next_is, length-append xs ys, add_assoc);
  after_is = q.after_is ∙ rw (p.after_is, p.next_is) (sets_append xs ys out at);
}

-- a run after one byte
pub put_after : {b : ℕ} {xs out out' : List ℕ} {next : ℕ} → Put xs 1 (set out 0 b) out' next → Put (b ∷ xs) 0 out out' next
put_after p = record { next_is = omega (arith, p.next_is); after_is = p.after_is }

-- one more byte of what is escaped
pub escape_more : (l : List ℕ) (i : ℕ) → i < length l → escape (take (i + 1) l) ≡ escape (take i l) ++ escape_byte (get_or l i 0)
escape_more l i h = rw (take_more l i 0 h, flat_map-append escape_byte (take i l) (get_or l i 0 ∷ []), append-nil (escape_byte (get_or l i 0)))

-- what is escaped of the first i bytes and of the next one is no longer than all of it
pub escape_within : (l : List ℕ) (i : ℕ) → i < length l → length (escape (take i l)) + length (escape_byte (get_or l i 0)) ≤ length (escape l)
escape_within l i h =
    let split : length (escape (take (i + 1) l ++ drop (i + 1) l)) ≡ length (escape l) = ap (λ (x : List ℕ). length (escape x)) (take-append-drop (i + 1) l) in
    omega (
      arith,
      length-append (escape (take i l)) (escape_byte (get_or l i 0)),
      ap length (escape_more l i h),
      length-append (escape (take (i + 1) l)) (escape (drop (i + 1) l)),
      ap length (flat_map-append escape_byte (take (i + 1) l) (drop (i + 1) l)),
    )

-- one more byte of a run
module _ (l : List ℕ) (i : ℕ) {start at : ℕ} {out out' : List ℕ} (p : Put (escape (take i l)) start out out' at) (h : i < length l) where
  pub put_room : start + length (escape l) ≤ packet_limit → at + length (escape_byte (get_or l i 0)) ≤ packet_limit
  put_room room = omega (arith, p.next_is, escape_within l i h)

  pub put_more : {out'' : List ℕ} {next : ℕ} → Put (escape_byte (get_or l i 0)) at out' out'' next → Put (escape (take (i + 1) l)) start out out'' next
  put_more q = rw (escape_more l i h) (put_then p q)

module _ (k : ℕ) (d : List ℕ) (short : length d ≤ data_most) where
  abbrev sum : ℕ
  sum = checksum (k ∷ length d ∷ d)

  -- a packet in the runs in which it is built
  abbrev runs : List ℕ
  runs = head k (length d) ++ (escape d ++ escape_byte sum)

  packet_runs : packet_of k d ≡ runs
  unfolding packet_of fields
  packet_runs = simp append_assoc

  runs_short : length (head k (length d)) + length (escape d) + length (escape_byte sum) ≤ packet_limit
  runs_short = simp length-append (omega (arith, simp length-append at (rw packet_runs at (packet_of_short k d short))))

  -- each has room behind those before it
  module _ {out out' : List ℕ} {start : ℕ} (p : Put (head k (length d)) 0 out out' start) where
    pub data_room : start + length (escape d) ≤ packet_limit
    data_room = omega (arith, runs_short, p.next_is)

    pub sum_room : {out'' : List ℕ} {end : ℕ} → Put (escape d) start out' out'' end → end + length (escape_byte sum) ≤ packet_limit
    sum_room q = omega (arith, runs_short, p.next_is, q.next_is)

  pub runs_built : {out : List ℕ} {len : ℕ} → Put runs 0 (replicate packet_limit 0) out len → record { bytes = out; len = len } ≡ built (packet_of k d)
  runs_built = rw (← packet_runs) (λ p.
      let run = p.after_is ∙ sets_front (packet_of k d) (replicate packet_limit 0) (packet_of_short k d short) in
      let len = p.next_is ∙ zero-add _ in
      λ i. record { bytes = run i; len = len i })
