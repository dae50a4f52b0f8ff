mod Asked
pub mod Controllers
mod Known
pub mod Processes
pub mod Said
pub mod Taken
