-- What it is to be an engine picked by name.
pub mod Choice
