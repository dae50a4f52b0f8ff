pub mod Lists
pub mod Placing
pub mod Seating
pub mod Stacks
pub mod Walking
pub mod Ordering
