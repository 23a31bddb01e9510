-- Texts that come one after the other.
use Rattle.std.specs.Prelude.{◌≡◌, ℕ, List, [], ◌∷◌, take, drop}
use Rattle.sq_meaning.specs.Report.{Bytes}
use Rattle.sq_run.specs.Texts.{texts}
use Rattle.sq_page_c.specs.declared.texts.RunTexts.{RunTexts}

-- The texts of these lengths, one after the other. If bytes are lacking, a text is shorter.
abbrev pub pieces : List ℕ → Bytes → List Bytes
pieces [] bytes = []
pieces (n ∷ lengths) bytes = take n bytes ∷ pieces lengths (drop n bytes)

-- the schemas and modules of a run are these
abbrev pub AreTexts : List Bytes → List Bytes → RunTexts → Type 0
AreTexts schemas modules t = (texts t.schemas.items ≡ schemas) × (texts t.modules.items ≡ modules)
