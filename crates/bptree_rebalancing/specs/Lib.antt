pub mod ChooseSibling
pub mod Rebalance
pub mod Transfer
pub mod RotateMerge
pub mod Trim
