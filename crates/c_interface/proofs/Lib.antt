-- Lemmas of the C boundary.
pub mod Cells
pub mod Restoring
pub mod Returning
