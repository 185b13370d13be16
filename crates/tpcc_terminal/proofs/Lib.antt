pub mod Decks
pub mod Drawn
pub mod Standing
