pub mod Items
pub mod Further
pub mod Values
