use Rattle.link.proofs.Building.{bytes_of_encoded}
use Rattle.link.proofs.encoder.encode.Goals as goal

pub returns-in-Welcome-clause-bytes : goal.returns-in-Welcome-clause-bytes
returns-in-Welcome-clause-bytes c = rw (c.welcome.ensures, c.in-Welcome.is) (bytes_of_encoded _)
