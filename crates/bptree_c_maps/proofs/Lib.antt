pub mod BackLemmas
pub mod CloneLemmas
pub mod CopyLemmas
pub mod Handles
pub mod NeighbourLemmas
pub mod PageLemmas
pub mod Values
