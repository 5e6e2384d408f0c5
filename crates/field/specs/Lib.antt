pub mod Mul
pub mod Loop
pub mod Power
pub mod Polynomial
pub mod Laws
pub mod Reductions
