pub mod EmptyLemmas
pub mod LengthLemmas
pub mod MoveLemmas
pub mod PartLemmas
pub mod RangeLemmas
pub mod ShardLemmas
