pub mod Cards
pub mod Receipts
pub mod Terminals
