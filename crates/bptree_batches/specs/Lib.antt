pub mod Each
pub mod RankWays
pub mod SelectWays
pub mod Slots
pub mod Ways
