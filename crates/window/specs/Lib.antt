-- What replies add up to, what ring and words hold, what a window means, and what its calls answer.
pub mod Replies
pub mod Ring
pub mod Words
pub mod Held
pub mod Faults
pub mod Window
pub mod Peak
pub mod Average
pub mod Due
