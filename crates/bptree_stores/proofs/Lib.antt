pub mod EmptiedValues
pub mod IdStates
