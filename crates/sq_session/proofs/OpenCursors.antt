-- Cursors are opened, go on over their lists, and are closed.
pub mod Closed
pub mod GoOn
pub mod Kept
pub mod Opened
pub mod Over
pub mod Put
