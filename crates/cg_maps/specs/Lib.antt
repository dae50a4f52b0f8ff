pub mod FiniteMap
pub mod FiniteSet
pub mod Code
pub mod Laws
