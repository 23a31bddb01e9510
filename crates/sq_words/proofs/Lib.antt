pub mod Examples
pub mod Given
pub mod Level
pub mod Read
pub mod Uses
