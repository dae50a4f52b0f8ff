-- The theory of interleaving, of any system of commands.
pub mod Interleaving
-- The tree of control groups as such a system, and the room that going back needs.
pub mod ControlGroups
