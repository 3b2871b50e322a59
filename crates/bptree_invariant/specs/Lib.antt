pub mod Edit
pub mod Leaves
pub mod NodeTree
pub mod Order
pub mod Outcome
pub mod Path
pub mod Shape
