mod Elements
mod Log
pub mod Counts
mod Shelves
