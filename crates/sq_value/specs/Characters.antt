-- Characters with a meaning of their own (ISO/IEC 9075:1992, 5.1).
use Rattle.std.specs.Prelude.{ℕ}
pub use Rattle.sq_items.specs.Characters.{blank, point, underscore}

abbrev pub percent : ℕ
percent = 37
