pub mod Booleans
mod InPlace
pub mod PrintableTexts
