-- What no public contract reaches: words of private contracts, of how values are seen, and of proofs.
pub mod Prepares
pub mod Supplied
pub mod Tests
