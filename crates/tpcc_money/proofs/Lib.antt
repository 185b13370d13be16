pub mod Values
pub mod Digit
pub mod Total
pub mod Moments
