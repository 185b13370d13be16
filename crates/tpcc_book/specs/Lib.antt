pub mod Past
pub mod Turn
pub mod AnswerView
pub mod Purses
pub mod Serve
pub mod Internal
