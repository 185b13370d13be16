-- What no public contract reaches: words of private contracts, of how values are seen, and of proofs.
pub mod AnswerView
pub mod Crediting
pub mod Past
pub mod Pooling
pub mod Ready
