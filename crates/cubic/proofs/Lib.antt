mod Newton
mod Polynomials
mod Ranges
