pub mod Cuts
pub mod Dedup
pub mod Loading
