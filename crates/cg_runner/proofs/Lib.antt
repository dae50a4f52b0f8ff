mod Asking
mod Each
mod Happening
mod Made
mod Placing
mod Telling
mod Tries
pub mod Zipping
