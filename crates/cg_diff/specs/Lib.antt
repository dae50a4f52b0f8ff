pub mod Difference
pub mod DifferenceOf
pub mod Laws
pub mod Sides
