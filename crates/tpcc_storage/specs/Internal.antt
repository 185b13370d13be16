-- What no public contract reaches: words of private contracts, of how values are seen, and of proofs.
pub mod ByDistrict
pub mod ByDistrictView
pub mod DistrictRows
pub mod DistrictRowsView
pub mod DistrictWords
pub mod KeyedRows
pub mod KeyedRowsView
pub mod MapKeys
pub mod Names
pub mod OrderRange
pub mod OrderRangeView
pub mod PendingView
