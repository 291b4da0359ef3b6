-- What keeps the signed-digit recurrence going.
pub mod Selection
