pub mod Answer
pub mod Name
pub mod Number
pub mod Room
pub mod Value
