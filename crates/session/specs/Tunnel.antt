-- Demand 3 supposes what its list of calls keeps to. Here are three such lists and how they end: the winter's tunnel as in scenarios/tunnel.script, the same in batches and
-- runs, and a relief fitter, like that of scenarios/relief.script. It is proved in proofs/Tunnel.antt, by computing.
use Rattle.std.specs.Prelude.{ℕ, ◌+◌, ◌*◌, ◌≡◌, List, [], ◌∷◌, ◌++◌, length}
use Rattle.std.proofs.Math.Option.{some}
use Rattle.frame.specs.Frame.{raise, lower}
use Rattle.frame.specs.declared.frame.Ask.TheVariants.{Raise}
use Rattle.link.specs.View.{frame_limit}
use Rattle.outcome.specs.declared.BatchOrder.{BatchOrder}
use Rattle.session.specs.declared.Progress.TheVariants.{Settled, Waiting, Over}
use Rattle.session.specs.Calls.{box_frame, box_frames, open_session, issue, resend, office_frame, issue_all, Call, at_box, at_office, cab_session, Allowed}
use Rattle.session.specs.Claim.{ends_after, history_after}
use Rattle.session.specs.Office as office

-- ---- frames of session s, below 256, byte for byte as document 01 has them

abbrev pub open_bytes : ℕ → List ℕ
open_bytes s = 0x10 ∷ 0x04 ∷ 0x00 ∷ s ∷ 0x00 ∷ 0x00 ∷ 0x00 ∷ []

-- the settings are a fresh controller's, but for the level, low byte and high byte
abbrev pub welcome_bytes : ℕ → ℕ → ℕ → List ℕ
welcome_bytes s low high =
    0x11 ∷ 0x04 ∷ 0x00 ∷ s ∷ 0x00 ∷ 0x00 ∷ 0x00 ∷ 0x20 ∷ 0x25 ∷ 0x00
    ∷ low ∷ high ∷ 0x01 ∷ 0x00 ∷ 0x00 ∷ 0x00 ∷ 0x00 ∷ 0x00 ∷ 0x00 ∷ 0x00 ∷ 0x00 ∷ 0x01 ∷ 0x00 ∷ 0x00 ∷ 0x01
    ∷ 0x00 ∷ 0x00 ∷ 0x00 ∷ 0x00 ∷ 0x00 ∷ 0x00 ∷ 0x00 ∷ 0x00 ∷ 0x00 ∷ 0x00 ∷ 0x00
    ∷ 0x00 ∷ 0x00 ∷ 0x00 ∷ 0x00 ∷ 0x00 ∷ 0x00 ∷ 0x00 ∷ 0x00 ∷ 0x00 ∷ 0x00 ∷ 0x00 ∷ []

-- order n: raise by 1000
abbrev pub order_bytes : ℕ → ℕ → List ℕ
order_bytes s n = 0x12 ∷ 0x06 ∷ 0x00 ∷ s ∷ 0x00 ∷ 0x00 ∷ 0x00 ∷ n ∷ 0x00 ∷ 0x22 ∷ 0x02 ∷ 0x00 ∷ 0xE8 ∷ 0x03 ∷ []

-- order n: lower by 500
abbrev pub lower_bytes : ℕ → ℕ → List ℕ
lower_bytes s n = 0x12 ∷ 0x06 ∷ 0x00 ∷ s ∷ 0x00 ∷ 0x00 ∷ 0x00 ∷ n ∷ 0x00 ∷ 0x23 ∷ 0x02 ∷ 0x00 ∷ 0xF4 ∷ 0x01 ∷ []

abbrev pub ack_bytes : ℕ → ℕ → List ℕ
ack_bytes s k = 0x13 ∷ 0x06 ∷ 0x00 ∷ s ∷ 0x00 ∷ 0x00 ∷ 0x00 ∷ k ∷ 0x00 ∷ []

abbrev pub refuse_bytes : ℕ → ℕ → List ℕ
refuse_bytes s r = 0x14 ∷ 0x05 ∷ 0x00 ∷ s ∷ 0x00 ∷ 0x00 ∷ 0x00 ∷ r ∷ []

-- ---- the calls

abbrev pub to_box : List ℕ → Call
to_box bytes = at_box (box_frame bytes frame_limit)

abbrev pub to_office : ℕ → List ℕ → Call
to_office i bytes = at_office i (office_frame bytes)

abbrev pub raise_by_1000 : ℕ → Call
raise_by_1000 i = at_office i (issue (raise 1000) frame_limit)

-- office 1 opens session 7, and issues three raises
abbrev pub three_raises : List Call
three_raises =
    at_office 1 (open_session 7 frame_limit)
    ∷ to_box (open_bytes 7)
    ∷ to_office 1 (welcome_bytes 7 0x00 0x00)
    ∷ raise_by_1000 1
    ∷ raise_by_1000 1
    ∷ raise_by_1000 1
    ∷ []

-- the box takes two of them, and its ACKs are lost; two orders are sent again; a late ACK with a smaller count comes last
abbrev pub tunnel : List Call
tunnel =
    three_raises
    ++ (to_box (order_bytes 7 1)
    ∷ to_box (order_bytes 7 2)
    ∷ at_office 1 (resend 2 frame_limit)
    ∷ at_office 1 (resend 3 frame_limit)
    ∷ to_box (order_bytes 7 2)
    ∷ to_box (order_bytes 7 3)
    ∷ to_office 1 (ack_bytes 7 3)
    ∷ to_office 1 (ack_bytes 7 2)
    ∷ [])

-- the same with the three raises in one batch, in the least output for them, and with the orders in runs
abbrev pub raise_1000 : BatchOrder
raise_1000 = record { ask = Raise 1000; len = 0 }

abbrev pub two_orders : ℕ → ℕ → Call
two_orders n m = at_box (box_frames (14 ∷ 14 ∷ []) (order_bytes 7 n ++ order_bytes 7 m) (2 * frame_limit))

abbrev pub batch_tunnel : List Call
batch_tunnel =
    at_office 1 (open_session 7 frame_limit)
    ∷ to_box (open_bytes 7)
    ∷ to_office 1 (welcome_bytes 7 0x00 0x00)
    ∷ at_office 1 (issue_all (raise_1000 ∷ raise_1000 ∷ raise_1000 ∷ []) [] (2 * 14 + frame_limit))
    ∷ two_orders 1 2
    ∷ at_office 1 (resend 2 frame_limit)
    ∷ at_office 1 (resend 3 frame_limit)
    ∷ two_orders 2 3
    ∷ to_office 1 (ack_bytes 7 3)
    ∷ to_office 1 (ack_bytes 7 2)
    ∷ []

-- One of office 1's orders is taken and confirmed, one is taken and its ACK lost, and one is still on its way when office 2 opens session 8, at first with no
-- output, which is refused and names nothing. That order comes late, and gets REFUSE 6. WELCOME of session 8, and then that REFUSE, come to the wrong office first.
abbrev pub relief_until_told : List Call
relief_until_told =
    three_raises
    ++ (to_box (order_bytes 7 1)
    ∷ to_office 1 (ack_bytes 7 1)
    ∷ to_box (order_bytes 7 2)
    ∷ at_office 2 (open_session 8 0)
    ∷ at_office 2 (open_session 8 frame_limit)
    ∷ to_box (open_bytes 8)
    ∷ to_office 1 (welcome_bytes 8 0xD0 0x07)
    ∷ to_office 2 (welcome_bytes 8 0xD0 0x07)
    ∷ at_office 2 (issue (lower 500) frame_limit)
    ∷ to_box (lower_bytes 8 1)
    ∷ to_box (order_bytes 7 3)
    ∷ to_office 2 (ack_bytes 8 1)
    ∷ to_office 2 (refuse_bytes 7 6)
    ∷ [])

abbrev pub relief : List Call
relief = relief_until_told ++ (to_office 1 (refuse_bytes 7 6) ∷ [])

-- ---- how they end

-- a list keeps to 01's List, and office i ends settled: so many orders issued and taken in its session, and this level at both ends
pub record Settles (cs : List Call) (i count level : ℕ) : Type 0 where
  pub allowed : Allowed cs
  -- what `settled_equal` of the claim asks for
  pub settled : office.progress ((ends_after cs).offices i) ≡ Settled
  pub same_session : cab_session (ends_after cs).cab ≡ some ((ends_after cs).offices i).session.0
  pub issued : ((ends_after cs).offices i).issued.0 ≡ count
  pub taken : (ends_after cs).cab.taken.0 ≡ count
  pub office_level : ((ends_after cs).offices i).settings.backlight ≡ level
  pub box_level : (ends_after cs).cab.controller.settings.backlight ≡ level

abbrev pub TunnelSettles : Type 0
TunnelSettles = Settles tunnel 1 3 3000

abbrev pub BatchTunnelSettles : Type 0
BatchTunnelSettles = Settles batch_tunnel 1 3 3000

pub record ReliefSettles : Type 0 where
  pub settles : Settles relief 2 1 1500
  -- of office 1's three orders two were taken, and nothing of it later; the row has both sessions
  pub overtaken : length ((history_after relief).box.taken 7) ≡ 2
  pub row : (history_after relief).box.since_restart ≡ 7 ∷ 8 ∷ []
  -- one is confirmed; it waits until the REFUSE reaches it
  pub confirmed : ((ends_after relief).offices 1).confirmed.0 ≡ 1
  pub waiting : office.progress ((ends_after relief_until_told).offices 1) ≡ Waiting
  pub over : office.progress ((ends_after relief).offices 1) ≡ Over
