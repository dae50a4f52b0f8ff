mod Backwards
mod Changed
mod ClashingItems
mod Letting
mod Names
mod OldestFirst
pub mod Places
pub mod Steps
mod StepsBack
mod Taking
