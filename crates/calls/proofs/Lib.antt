pub mod EveryCall
pub mod Laws
