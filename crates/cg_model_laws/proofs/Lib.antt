pub mod Paths
pub mod Lists
pub mod Fields
pub mod Keys
pub mod Marks
pub mod Agreement
pub mod Seen
pub mod Locality
mod Frame
pub mod Lawful
mod Commuting
mod IfAccepted
mod Plans
pub mod EachCommand
pub mod Parents
mod Values
mod SinglePuts
mod SubtreeChanges
mod CommandChanges
pub mod AcceptedCommands
pub mod Swapping
mod ControllerSets
mod SoundPuts
mod SoundControl
pub mod SoundCommands
pub mod OwnChecks
