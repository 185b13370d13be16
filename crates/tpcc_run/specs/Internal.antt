-- What no public contract reaches: words of private contracts, of how values are seen, and of proofs.
pub mod Answered
pub mod Asking
pub mod Faults
pub mod Plans
pub mod Returned
pub mod Started
pub mod Working
