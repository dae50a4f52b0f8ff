mod Lines
mod Once
mod Plain
mod Played
