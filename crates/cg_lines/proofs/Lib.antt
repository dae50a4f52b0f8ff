pub mod DeviceLemmas
pub mod LinesLaw
pub mod LinesLemmas
pub mod NewlineLemmas
pub mod WholeLemmas
