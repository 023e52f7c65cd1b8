pub mod Numbers
pub mod Lists
pub mod Tables
pub mod Fields
pub mod Ranks
pub mod Rounds
