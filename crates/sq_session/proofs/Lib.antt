pub mod Calls
pub mod Parameters
pub mod Walks
pub mod OpenCursors
pub mod Fetching
pub mod Lasting
