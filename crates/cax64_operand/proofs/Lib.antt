pub mod Folds
pub mod Taken
pub mod Table
pub mod Shapes
