-- The list of pieces keeps to what is supposed, and comes to the calls told: computed.
use Prim.Native.Nat.{ℕ}
use mathlib.Core.Path.{refl}
use mathlib.Core.List.Memᴰ
use mathlib.Core.List.{List, [], ◌∷◌, flat_map, Memᴰ}
use native.Mathlib.Omega.{arith}
use lib.ListN.{drop}
use Rattle.packet.specs.Packet.{total, checksum, escape_byte, fields, packet_of, has_escape}
use Rattle.number.specs.Signed.{offset, magnitude, sign}
use Rattle.registers.specs.Block.{block, from_block}
use Rattle.bus.specs.Commands.{lookup, access, write_register, perform_offered, perform_found}
use Rattle.bus.specs.Bus.{after_length, after_data, start, judge, feed_at, inside, after}
use Rattle.bus.specs.Run.{run}
use Rattle.link.specs.Encoding.{encode}
use Rattle.judging.specs.Decoding.{length_right, settings_allowed, contents_allowed, field_fault, last_fault, rest_fault, fault_told, change_in, frame_in, decode}
use Rattle.order.specs.Apply.{apply}
use Rattle.wrapping.specs.Wrapping.{fits, wrapped}
use Rattle.wrapping.specs.Receiver.{counted, at_tag, skipping, at_length, at_contents, receive}
use Rattle.wrapping.specs.Reading.{calls}
use Rattle.session.specs.Box as box
use Rattle.session.specs.Office as office
use Rattle.session.proofs.Tunnel.{last, call}
use Rattle.session.specs.Tunnel.{open_bytes, welcome_bytes, order_bytes}
use Rattle.delivery.specs.Pieces.{PiecesDelivered}

-- a row of written frames, one by one
no_frame : {written : List (List ℕ)} (f : List ℕ) → Memᴰ f [] → Memᴰ f written
no_frame f m = absurd (Memᴰ.not-nil m)

and_frame : {row written : List (List ℕ)} {f : List ℕ} → Memᴰ f written → ((g : List ℕ) → Memᴰ g row → Memᴰ g written) →
    (g : List ℕ) → Memᴰ g (f ∷ row) → Memᴰ g written
and_frame here rest g (Memᴰ.head e) = Memᴰ.cast e here
and_frame here rest g (Memᴰ.tail m) = rest g m

abbrev welcomed : List ℕ
welcomed = welcome_bytes 7 0x00 0x00

pub pieces_delivered : PiecesDelivered
unfolding flat_map fits counted at_tag skipping at_length at_contents receive calls encode decode fault_told rest_fault last_fault field_fault contents_allowed settings_allowed length_right frame_in change_in block from_block offset magnitude sign box.frame_in box.received box.opened box.ordered box.ordered_here box.sent office.open_session office.issue_refusal office.issue office.welcomed office.received packet_of fields escape_byte checksum total run after start inside feed_at judge after_length after_data perform_found perform_offered write_register lookup access apply has_escape
pieces_delivered =
    record {
      supposed =
          call (omega arith, λ _. Memᴰ.not-nil)
          (call (record { row = open_bytes 7 ∷ []; rest = drop 5 (wrapped (open_bytes 7)); joined = refl; each = and_frame last no_frame })
          (call (record { row = open_bytes 7 ∷ []; rest = []; joined = refl; each = and_frame last no_frame })
          (call (record { row = welcomed ∷ []; rest = drop 9 (wrapped welcomed); joined = refl; each = and_frame last no_frame })
          (call (record { row = welcomed ∷ []; rest = []; joined = refl; each = and_frame last no_frame })
          (call (record { row = welcomed ∷ []; rest = []; joined = refl; each = and_frame last no_frame })
          (call (omega arith) (call (omega arith)
          (call (record {
            row = open_bytes 7 ∷ order_bytes 7 1 ∷ order_bytes 7 2 ∷ [];
            rest = drop 9 (wrapped (order_bytes 7 2));
            joined = refl;
            each = and_frame (Memᴰ.tail (Memᴰ.tail last)) (and_frame (Memᴰ.tail last) (and_frame last no_frame));
          })
          (call refl
          (call (record { row = order_bytes 7 2 ∷ []; rest = []; joined = refl; each = and_frame last no_frame }) tt))))))))));
      delivers = refl;
    }
