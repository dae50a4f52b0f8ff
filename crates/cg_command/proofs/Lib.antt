pub mod Above
pub mod Alike
mod Applying
mod Changing
mod Compact
mod Disabling
mod Emptying
pub mod Proper
pub mod Variants
