pub mod Chains
mod Request
pub mod Districts
pub mod Parting
pub mod OrderWords
pub mod PaymentWords
pub mod Ordering
pub mod Names
mod NumeralLaws
mod PartLaws
mod WordLaws
pub mod RequestLaws
pub mod Faults
pub mod BlockSteps
