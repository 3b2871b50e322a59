pub mod ByArgument
pub mod Neighbours
pub mod Visiting
