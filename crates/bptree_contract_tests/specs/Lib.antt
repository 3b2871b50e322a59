pub mod Groups
pub mod Numbers
pub mod Summaries
pub mod Thinned
pub mod Words
