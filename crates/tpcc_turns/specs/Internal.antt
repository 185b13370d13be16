-- What no public contract reaches: words of private contracts, of how values are seen, and of proofs.
pub mod Closing
pub mod Gathering
pub mod Seats
pub mod Shares
pub mod TurnRule
pub mod TurnSteps
