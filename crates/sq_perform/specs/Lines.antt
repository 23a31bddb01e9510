-- Texts of whole lines.
use Rattle.std.specs.Prelude.{◌≡◌, ◌++◌, ◌⊎◌, [], ◌∷◌}
use Rattle.sq_lex.specs.Characters.{line_feed}
use Rattle.sq_meaning.specs.Report.{Bytes}

-- a text that has a line end last
pub record EndsLine (text : Bytes) : Type 0 where
  pub before : Bytes
  pub is : text ≡ before ++ line_feed ∷ []

-- nothing, or lines that all have their line end
abbrev pub AreLines : Bytes → Type 0
AreLines text = (text ≡ []) ⊎ EndsLine text
