pub mod Formulas
pub mod Shapes
pub mod Built
pub mod Truth
pub mod Runs
pub mod Theorems
