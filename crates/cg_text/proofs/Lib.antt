pub mod Lists
mod Readers
pub mod Files
mod TrimmedLines
mod Closing
mod BareEnd
mod Masks
mod PlainWords
mod Blanks
mod FirstWord
pub mod Cuts
pub mod Lines
pub mod WrittenLines
mod Appending
pub mod Sets
pub mod Operations
pub mod Limits
mod Spelled
pub mod Canonical
