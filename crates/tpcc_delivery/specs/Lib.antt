pub mod QueueView
pub mod Runs
pub mod Internal
