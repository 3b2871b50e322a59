pub mod DateOrder
pub mod DateSums
pub mod DateVisits
pub mod EntryChanges
pub mod GroupItems
pub mod SaleSums
pub mod Reported
pub mod YearReported
