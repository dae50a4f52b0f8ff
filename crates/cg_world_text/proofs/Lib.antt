pub mod Adding
mod Appending
pub mod Cpus
pub mod Endings
pub mod Limits
pub mod Lines
mod Listed
pub mod LowCpus
pub mod PlainWords
pub mod RoundTrip
pub mod Spelled
pub mod Stages
pub mod Taken
pub mod ToCome
pub mod WrittenCpus
pub mod WrittenLimits
pub mod WrittenWords
