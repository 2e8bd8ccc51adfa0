-- Read Claim first, then Calls and History; Box and Office are the rules that the code's contracts cite.
pub mod Claim
pub mod Calls
pub mod History
pub mod Box
pub mod Office
pub mod Over
pub mod Limits
pub mod Tunnel
pub mod Refusals
pub mod Singly
pub mod OneOffice
