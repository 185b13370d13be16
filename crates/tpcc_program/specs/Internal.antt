-- What no public contract reaches: words of private contracts, of how values are seen, and of proofs.
pub mod Ranges
pub mod Requests
pub mod Scales
