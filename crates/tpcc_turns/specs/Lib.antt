pub mod Closing
pub mod Knows
pub mod Seats
pub mod Internal
