pub mod Names
pub mod Columns
pub mod Records
pub mod Dump
pub mod Shown
pub mod Internal
