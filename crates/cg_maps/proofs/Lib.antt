pub mod Maps
pub mod Sets
pub mod Tests
pub mod TreeMaps
