pub mod Replies
pub mod Running
pub mod Serving
pub mod Sharded
