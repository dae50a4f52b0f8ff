pub mod Accepted
pub mod JsonLines
pub mod ShellLines
pub mod ShellReading
pub mod ShellTexts
