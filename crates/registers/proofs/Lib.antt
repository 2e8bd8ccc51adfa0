pub mod BlockTheorems
