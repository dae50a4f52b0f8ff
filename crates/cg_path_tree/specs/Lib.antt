pub mod Nodes
pub mod Chains
pub mod Linked
pub mod LastFound
pub mod Lends
pub mod Listing
pub mod PathEntries
