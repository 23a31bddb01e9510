-- Judged texts: elements with an error are passed over, and the rest is checked.
use Rattle.std.specs.Prelude.{⊤, List, [], ◌∷◌}
use Rattle.sq_advice.specs.Passed.{IsLeft}
use Rattle.sq_meaning.specs.Report.{Bytes}
use Rattle.sq_perform.specs.Checked.{AreCheckedTexts}
use Rattle.sq_perform.specs.Texts.{texts}
use Rattle.sqmod.specs.declared.judged.Judged.{Judged}
use Rattle.sqmod.specs.declared.texts.Sources.{Sources}

-- each text is the rest of one, after some of its pieces are passed over
abbrev pub AreLeft : List Bytes → List Bytes → Type 0
AreLeft [] [] = ⊤
AreLeft (text ∷ all) (left ∷ rest) = IsLeft text left × AreLeft all rest
AreLeft _ _ = ⊥

-- the same of the schemas and the modules of a request
pub record AreSourcesLeft (sources left : Sources) : Type 0 where
  pub schemas : AreLeft (texts sources.schemas.items) (texts left.schemas.items)
  pub modules : AreLeft (texts sources.modules.items) (texts left.modules.items)

-- the lines are about the rest: all that a check says of these texts, and no more
pub record IsJudged (sources : Sources) (judged : Judged) : Type 0 where
  pub left : AreSourcesLeft sources judged.left
  pub checked :
      AreCheckedTexts
      (texts judged.left.schemas.items)
      (texts judged.left.modules.items)
      judged.checked
