pub mod Clones
pub mod Hint
pub mod IdState
pub mod IdStateClones
pub mod StoreSlabs
