pub mod ScriptBook
pub mod Run
pub mod Session
pub mod ShownScript
pub mod Internal
