pub mod Report
pub mod RequestLines
pub mod Screens
pub mod Script
pub mod Sayable
pub mod Prefix
pub mod Internal
