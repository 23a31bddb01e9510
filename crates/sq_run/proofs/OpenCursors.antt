-- A session's cursors and the machine's.
pub mod Below
pub mod CursorOpens
pub mod CursorsGrow
pub mod CursorsKept
pub mod FetchSame
pub mod NumbersLeft
pub mod OpenQueries
pub mod OpenSame
pub mod OpenWalks
pub mod QuietOpens
pub mod SameCursors
pub mod WalkLeft
pub mod GoesOver
pub mod Openers
pub mod UpdatableCursors
pub mod Cursors
pub mod AheadWalks
