pub mod Forms
pub mod Leads
pub mod PlanValue
pub mod Shell
pub mod ShellWord
pub mod Told
