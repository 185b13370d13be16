pub mod Jobs
pub mod Rounds
pub mod Servings
pub mod Internal
