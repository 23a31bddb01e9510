-- What the answer to texts says of the trees that they spell.
use Rattle.std.specs.Prelude.{ℕ, List}
use Rattle.sq_meaning.specs.Report.{Bytes}
use Rattle.sq_run.specs.Accepted.{AcceptedSpellTrees, TextsHaveOneTree}
use Rattle.sq_run.specs.Refused.{RefusalsTell}
use Rattle.sq_run.specs.Spelling.{SpelledIsSpelling}
use Rattle.sq_run.specs.TextRow.{ReadingsAreRows}
use Rattle.sq_run.specs.Unexpected.{UnexpectedIsFinal}

-- Accepted texts spell the trees of the machine; no text spells two; a refused one spells none, or only deeper ones, unless it is
-- refused for what it means; the token of Unexpected is the first with which no text goes on; the tokens of a text are those of which
-- it is a row; and what trees mean is what the equations of `Spelling` say, and nothing else.
pub record TellsOfTrees (row_numbers : ℕ) (schemas modules : List Bytes) (script : Bytes) : Type 0 where
  pub accepted : AcceptedSpellTrees row_numbers schemas modules script
  pub one_tree : TextsHaveOneTree
  pub refused : RefusalsTell row_numbers schemas modules script
  pub unexpected : UnexpectedIsFinal row_numbers schemas modules script
  pub rows : ReadingsAreRows
  pub spelling : SpelledIsSpelling
