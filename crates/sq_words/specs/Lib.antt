pub mod Answer
pub mod Command
pub mod Reading
pub mod Task
