pub mod Removal
pub mod Replacement
