pub mod Beside
pub mod Calendar
pub mod Dates
pub mod Depths
pub mod EntryMoves
pub mod Items
pub mod Ranks
pub mod Sales
