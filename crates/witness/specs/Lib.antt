pub mod Path
pub mod Criteria
pub mod Shapes
pub mod Showing
