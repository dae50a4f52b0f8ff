pub mod Words
pub mod WordsBack
pub mod CpuList
pub mod Separated
pub mod Ascending
pub mod Laws
