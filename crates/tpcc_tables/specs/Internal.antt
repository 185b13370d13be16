-- What no public contract reaches: words of private contracts, of how values are seen, and of proofs.
pub mod Ready
pub mod Sums
pub mod Supplies
pub mod View
pub mod Writes
