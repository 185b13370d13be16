pub mod Brands
pub mod Supplies
pub mod Refusal
pub mod OrderLines
pub mod Preparations
