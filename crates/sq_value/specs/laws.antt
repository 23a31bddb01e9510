pub mod Padding
pub mod NumberOrder
pub mod TextOrder
pub mod ValueOrder
