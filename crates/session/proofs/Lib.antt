-- Demand 3 in three parts, joined in Theorem.
pub mod Theorem
-- refinement: every call turns the ends as the history's rules turn the history
pub mod Refinement
pub mod BoxAlike
pub mod OfficeAlike
pub mod Alike
-- safety: an invariant of the history along every allowed list
pub mod Safety
pub mod RuleTests
pub mod BoxFollows
pub mod BoxSafe
pub mod Opening
pub mod OfficeSafe
pub mod BatchSafe
pub mod Invariant
pub mod Later
pub mod Row
-- settlement: what the invariant says of an office's counts, and where it says settled
pub mod Settlement
-- when an office says over
pub mod Over
-- lists of calls that demand 3 speaks of
pub mod Tunnel
-- demand 1 at both ends
pub mod Refusals
-- what a program runs that takes one office at a time
pub mod OneOffice
-- batches and runs, part by part
pub mod Singly
pub mod Batches
pub mod BoxLaws
pub mod Tools
