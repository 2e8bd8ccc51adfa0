-- Tests by which the rules go, named where safety and "over" rest on what they say.
use Prim.Native.Nat.{ℕ}
use mathlib.Core.Bool.{Bool, ◌&&◌}
use lib.ListN.{length}
use lib.Dec.{eqb, leb, ltb}
use Rattle.session.specs.declared.Office.{Office}
use Rattle.session.specs.History.{is_awaiting, is_live, BoxHistory, OfficeHistory, orders}

-- an opening at the box opens a session
abbrev pub is_higher : BoxHistory → ℕ → Bool
is_higher b s = ltb b.highest s

-- WELCOME, ACK and REFUSE at an office are for its session
abbrev pub welcome_heeded : OfficeHistory → ℕ → Bool
welcome_heeded o s = is_awaiting o.stage && eqb s o.session

abbrev pub ack_heeded : OfficeHistory → ℕ → ℕ → Bool
ack_heeded o s k = is_live o.stage && eqb s o.session && ltb o.confirmed k && leb k (length (orders o))

abbrev pub names_session : Office → ℕ → Bool
names_session o s = eqb s o.session.0
