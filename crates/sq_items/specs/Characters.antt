-- Characters with a meaning of their own (ISO/IEC 9075:1992, 5.1), in texts of the language and in values.
use Rattle.std.specs.Prelude.{ℕ}

abbrev pub blank : ℕ
blank = 32

abbrev pub point : ℕ
point = 46

abbrev pub underscore : ℕ
underscore = 95
