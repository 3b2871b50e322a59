pub mod Beside
pub mod Joined
pub mod KeyLaws
pub mod Rows
pub mod Symmetric
pub mod TwoSets
pub mod Union
