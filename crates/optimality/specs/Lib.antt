pub mod Condition3
pub mod Agreement
pub mod States
pub mod Refusals
