pub mod Reversals
