-- The exchange over a list of bytes: the controller at the end, and the bytes that went out.
use Rattle.std.specs.Prelude.{ℕ, ◌≤◌, ◌≡◌, List, [], ◌∷◌, length, take}
use Rattle.bus.specs.declared.Controller.{Controller}
use Rattle.bus.specs.declared.Phase.TheVariants.{Idle}
use Rattle.packet.specs.Packet.{data_most}
use Rattle.bus.specs.Bus.{exchange}

-- the bytes of an input that are exchanged: as many as the output has room for
abbrev pub exchanged : List ℕ → List ℕ → List ℕ
exchanged input output = take (length output) input

unfoldable pub run : Controller → List ℕ → Controller
run c [] = c
run c (b ∷ bs) = run (exchange c b).controller bs

unfoldable pub outs : Controller → List ℕ → List ℕ
outs c [] = []
outs c (b ∷ bs) = (exchange c b).out ∷ outs (exchange c b).controller bs

-- idle with no reply unsent
pub record Ready (c : Controller) : Type 0 where
  pub idle : c.phase ≡ Idle
  pub all_sent : c.reply.len ≤ c.reply.sent
  pub body_long : length c.packet.body ≡ data_most
