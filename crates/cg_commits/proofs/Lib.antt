-- where scripts lie
pub mod Ends
-- which script has a place
pub mod Numbering
-- the script of a commit
pub mod Committing
