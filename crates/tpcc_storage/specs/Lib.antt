pub mod Searches
pub mod Names
pub mod KeyedRows
pub mod KeptRows
pub mod ByDistrict
pub mod Runs
pub mod Internal
