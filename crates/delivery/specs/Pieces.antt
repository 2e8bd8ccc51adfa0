-- What is supposed of the bytes can be kept to: here is such a list, with a frame that the tunnel cuts and one that a restart cuts, and the calls that it comes to.
-- It is proved in proofs/Pieces.antt, by computing.
use Rattle.std.specs.Prelude.{◌≡◌, List, [], ◌∷◌, ◌++◌, take, drop}
use Rattle.link.specs.View.{frame_limit}
use Rattle.wrapping.specs.Wrapping.{wrapped}
use Rattle.session.specs.Calls.{restart, open_session, Call, at_box, at_office}
use Rattle.session.specs.Tunnel.{open_bytes, welcome_bytes, order_bytes, to_box, to_office, raise_by_1000}
use Rattle.delivery.specs.Calls.{ByteCall, whole, box_bytes, office_bytes, delivered, Supposed}

abbrev pub pieces : List ByteCall
pieces =
    whole (at_office 1 (open_session 7 frame_limit))
    -- OPEN, with the tunnel in the middle of it
    ∷ box_bytes (take 5 (wrapped (open_bytes 7))) frame_limit
    ∷ box_bytes (drop 5 (wrapped (open_bytes 7))) frame_limit
    -- WELCOME, half of it to another office first; the two receivers are not mixed
    ∷ office_bytes 2 (take 9 (wrapped (welcome_bytes 7 0x00 0x00)))
    ∷ office_bytes 1 (wrapped (welcome_bytes 7 0x00 0x00))
    ∷ office_bytes 2 (drop 9 (wrapped (welcome_bytes 7 0x00 0x00)))
    ∷ whole (raise_by_1000 1)
    ∷ whole (raise_by_1000 1)
    -- one order and a half: the rest of it is lost with the restart
    ∷ box_bytes (wrapped (order_bytes 7 1) ++ take 9 (wrapped (order_bytes 7 2))) frame_limit
    ∷ whole (at_box (restart 7))
    ∷ box_bytes (wrapped (order_bytes 7 2)) frame_limit
    ∷ []

abbrev pub delivered_pieces : List Call
delivered_pieces =
    at_office 1 (open_session 7 frame_limit)
    ∷ to_box (open_bytes 7)
    ∷ to_office 1 (welcome_bytes 7 0x00 0x00)
    ∷ to_office 2 (welcome_bytes 7 0x00 0x00)
    ∷ raise_by_1000 1
    ∷ raise_by_1000 1
    ∷ to_box (order_bytes 7 1)
    ∷ at_box (restart 7)
    ∷ to_box (order_bytes 7 2)
    ∷ []

pub record PiecesDelivered : Type 0 where
  pub supposed : Supposed pieces
  pub delivers : delivered pieces ≡ delivered_pieces
