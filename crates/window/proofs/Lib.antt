-- Lemmas of the window: the ring, the words, the invariant, the order of replies, the peak and the sums; Facts is for its users.
mod Turning
mod Adding
mod Holding
mod Rising
mod Topping
mod Totals
pub mod Facts
