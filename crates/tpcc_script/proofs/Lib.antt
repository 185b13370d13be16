pub mod Turns
pub mod Runs
pub mod Lines
pub mod Sessions
pub mod ShownScripts
