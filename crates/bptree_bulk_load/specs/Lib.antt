pub mod Layer
pub mod Steps
pub mod Rooms
pub mod Plans
