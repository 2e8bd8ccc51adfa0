-- The tunnel's lists of calls are allowed and end settled: computed.
use Prim.Native.Nat.{ℕ}
use mathlib.Core.Path.{refl, sym, subst}
use mathlib.Core.List.Memᴰ
use mathlib.Core.List.{List, [], ◌∷◌, Memᴰ}
use native.Mathlib.Omega.{arith}
use Rattle.frame.specs.Frame.{Change}
use Rattle.packet.specs.Packet.{total, checksum, escape_byte, fields, packet_of, has_escape}
use Rattle.number.specs.Signed.{offset, magnitude, sign}
use Rattle.registers.specs.Block.{block, from_block}
use Rattle.bus.specs.Commands.{lookup, access, write_register, perform_offered, perform_found}
use Rattle.bus.specs.Bus.{after_length, after_data, start, judge, feed_at, inside, after}
use Rattle.bus.specs.Run.{run}
use Rattle.link.specs.Encoding.{encode}
use Rattle.judging.specs.Decoding.{length_right, settings_allowed, contents_allowed, field_fault, last_fault, rest_fault, fault_told, change_in, frame_in, decode}
use Rattle.order.specs.Apply.{apply}
use Rattle.session.specs.Box as box
use Rattle.session.specs.Office as office
use Rattle.outcome.specs.Batch.{fits}
use Rattle.session.specs.Calls.{FitsChange}
use Rattle.session.specs.History.{rule_open, rule_order, rule_box_frame, rule_opening, rule_issue, rule_welcome, rule_ack, rule_refuse, rule_office_frame}
use Rattle.session.specs.Tunnel.{TunnelSettles, BatchTunnelSettles, ReliefSettles}

-- the last frame written, and the one before it
pub last : {bytes : List ℕ} {frames : List (List ℕ)} → Memᴰ bytes (bytes ∷ frames)
last = Memᴰ.head refl

before : {bytes later : List ℕ} {frames : List (List ℕ)} → Memᴰ bytes (later ∷ bytes ∷ frames)
before = Memᴰ.tail last

-- a call that is permitted, and the rest
pub call : {A B : Type 0} → A → B → A × B
call permitted rest = (permitted, rest)

pub tunnel_settles : TunnelSettles
unfolding encode decode fault_told rest_fault last_fault field_fault contents_allowed settings_allowed length_right frame_in change_in block from_block offset magnitude sign box.frame_in box.received box.opened box.ordered box.ordered_here box.sent office.open_session office.issue_refusal office.issue office.resend office.welcomed office.acknowledged office.received packet_of fields escape_byte checksum total run after start inside feed_at judge after_length after_data perform_found perform_offered write_register lookup access apply has_escape
tunnel_settles =
    record {
      allowed =
          call (omega arith, λ _. Memᴰ.not-nil)
          (call last (call last
          (call (omega arith) (call (omega arith) (call (omega arith)
          (call (Memᴰ.tail before) (call before
          (call tt (call tt
          (call before (call last
          (call last (call before tt)))))))))))));
      settled = refl;
      same_session = refl;
      issued = refl;
      taken = refl;
      office_level = refl;
      box_level = refl;
    }

-- a frame of the two, if it is written
either_one : {f g : List ℕ} {frames : List (List ℕ)} → Memᴰ f frames → Memᴰ g frames → (x : List ℕ) → Memᴰ x (f ∷ g ∷ []) → Memᴰ x frames
either_one {f} {g} {frames} first second x (Memᴰ.head e) = subst (λ (y : List ℕ). Memᴰ y frames) (sym e) first
either_one {f} {g} {frames} first second x (Memᴰ.tail (Memᴰ.head e)) = subst (λ (y : List ℕ). Memᴰ y frames) (sym e) second
either_one first second x (Memᴰ.tail (Memᴰ.tail m)) = absurd (Memᴰ.not-nil m)

-- three changes that are the same
each_fits : {c : Change} → FitsChange c → (d : Change) → Memᴰ d (c ∷ c ∷ c ∷ []) → FitsChange d
each_fits fits d (Memᴰ.head e) = subst FitsChange (sym e) fits
each_fits fits d (Memᴰ.tail (Memᴰ.head e)) = subst FitsChange (sym e) fits
each_fits fits d (Memᴰ.tail (Memᴰ.tail (Memᴰ.head e))) = subst FitsChange (sym e) fits
each_fits fits d (Memᴰ.tail (Memᴰ.tail (Memᴰ.tail m))) = absurd (Memᴰ.not-nil m)

pub batch_tunnel_settles : BatchTunnelSettles
unfolding encode decode fault_told rest_fault last_fault field_fault contents_allowed settings_allowed length_right frame_in change_in block from_block offset magnitude sign box.frame_in box.received box.opened box.ordered box.ordered_here box.sent office.open_session office.issue_refusal office.issue office.resend office.welcomed office.acknowledged office.received packet_of fields escape_byte checksum total run after start inside feed_at judge after_length after_data perform_found perform_offered write_register lookup access apply has_escape box.frames_in office.issue_all office.issue_each fits
batch_tunnel_settles =
    record {
      allowed =
          call (omega arith, λ _. Memᴰ.not-nil)
          (call last (call last
          (call (each_fits (omega arith))
          (call (λ _. either_one (Memᴰ.tail before) before)
          (call tt (call tt
          (call (λ _. either_one before last)
          (call last (call before tt)))))))));
      settled = refl;
      same_session = refl;
      issued = refl;
      taken = refl;
      office_level = refl;
      box_level = refl;
    }

pub relief_settles : ReliefSettles
unfolding encode decode fault_told rest_fault last_fault field_fault contents_allowed settings_allowed length_right frame_in change_in block from_block offset magnitude sign box.frame_in box.received box.opened box.ordered box.ordered_here box.sent office.open_session office.issue_refusal office.issue office.welcomed office.acknowledged office.received packet_of fields escape_byte checksum total run after start inside feed_at judge after_length after_data perform_found perform_offered write_register lookup access apply has_escape office.ended rule_open rule_order rule_box_frame rule_opening rule_issue rule_welcome rule_ack rule_refuse rule_office_frame
relief_settles =
    record {
      settles = record {
        allowed =
            call (omega arith, λ _. Memᴰ.not-nil)
            (call last (call last
            (call (omega arith) (call (omega arith) (call (omega arith)
            (call (Memᴰ.tail before) (call last (call before
            (call (omega arith, λ _ m. other_session m) (call (omega arith, λ _ m. other_session m)
            (call last (call last (call last
            (call (omega arith)
            (call last (call (Memᴰ.tail before)
            (call before (call last (call last tt)))))))))))))))))));
        settled = refl;
        same_session = refl;
        issued = refl;
        taken = refl;
        office_level = refl;
        box_level = refl;
      };
      overtaken = refl;
      row = refl;
      confirmed = refl;
      waiting = refl;
      over = refl;
    }
  where
    other_session : Memᴰ {A = ℕ} 8 (7 ∷ []) → ⊥
    other_session m = let e = Memᴰ.eq_of_singleton m in omega arith
