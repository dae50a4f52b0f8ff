pub mod Keywords
pub mod OneCommand
pub mod SpelledCommands
pub mod WrittenCommands
pub mod Appending
pub mod OpWords
pub mod WordsOfSlices
