pub mod Draws
pub mod Cards
pub mod Internal
