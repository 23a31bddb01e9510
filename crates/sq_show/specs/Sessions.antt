-- What contracts see of a session, for the crates above.
pub use Rattle.sq_session.specs.Session.{Session}
