pub mod Record
mod Row
mod ReadBack
pub mod Putting
