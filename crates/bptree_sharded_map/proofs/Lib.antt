pub mod Asked
pub mod EmptyMaps
pub mod Moved
pub mod Pages
pub mod RankLemmas
pub mod Taken
