-- The texts of a run, as its callers hand them in.
pub use Rattle.sq_perform.specs.Texts.{texts}
