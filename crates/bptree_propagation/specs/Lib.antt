pub mod Change
pub mod Climb
pub mod Failing
pub mod LeafChange
pub mod Borrowing
pub mod Sums
pub mod Undoing
pub use Rattle.bptree_invariant.specs.NodeTree
