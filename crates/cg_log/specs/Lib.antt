pub mod Call
pub mod CallCode
pub mod CallOf
pub mod LogState
pub mod Rests
pub mod Standing
