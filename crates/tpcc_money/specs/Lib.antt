pub mod Amounts
pub mod Numerals
pub mod Texts
