pub mod Cuts
pub mod Ends
pub mod Inputs
pub mod Replies
pub mod Runs
