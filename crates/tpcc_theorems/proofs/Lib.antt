pub mod Letters
pub mod Replaying
pub mod Small
mod WorkedAmounts
mod WorkedOpening
mod WorkedPayments
mod WorkedOrders
mod WorkedWarehouses
mod WorkedLookups
mod WorkedDeliveries
mod WrongBodies
pub mod WorkedScreens
mod WorkedScripts
