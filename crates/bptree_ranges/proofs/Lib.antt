pub mod Bordered
pub mod Bounded
pub mod Counts
pub mod GroupIndexes
pub mod Passing
pub mod Ranged
pub mod Runs
pub mod Sums
