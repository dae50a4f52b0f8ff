pub mod NamedLemmas
pub mod ProgramLemmas
pub mod ShowLemmas
