pub mod Cached
pub mod Placed
pub mod SplitLeaf
pub mod Upserted
