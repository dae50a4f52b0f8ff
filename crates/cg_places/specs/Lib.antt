pub mod Lists
pub mod Located
pub mod Placed
pub mod Seats
pub mod Stacks
pub mod Walks
