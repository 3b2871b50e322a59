pub mod Beside
pub mod Child
pub mod Queried
pub mod Selected
pub mod Slots
pub mod Summed
pub mod Visited
