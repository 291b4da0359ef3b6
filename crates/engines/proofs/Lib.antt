mod Recurrence
mod Correction
