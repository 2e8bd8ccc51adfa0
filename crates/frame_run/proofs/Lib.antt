pub mod Laws
pub mod SoFar
