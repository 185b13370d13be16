pub mod Prepares
pub mod Internal
