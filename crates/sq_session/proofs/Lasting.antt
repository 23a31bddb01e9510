-- What holds of a session after each call.
pub mod After
pub mod Holding
pub mod StaysOver
