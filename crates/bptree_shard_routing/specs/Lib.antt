pub mod Laws
pub mod Lengths
pub mod Moves
pub mod Shards
