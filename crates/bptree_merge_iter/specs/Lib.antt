pub mod Merge
pub mod Sides
pub mod Sources
