-- A function value that reads the tokens after a bracket.
use Rattle.std.specs.Prelude.{ℕ, Result, ◌<◌, length, OnOk}
use Rattle.std.specs.declared.alloc.Global.{Global}
use denote.Ref.{MutBor}
use Rattle.sq_grammar.specs.declared.stop.Stop.{Stop}
use Rattle.sq_grammar.specs.Reading.{Tokens, Parser}
use Rattle.sq_grammar.specs.Reads.{Reads}

pub record Nests {A : Type 0} (inside : ℕ → Parser A) (left : ℕ) (pre : Global → MutBor Tokens → ℕ → Type 0)
    (post : Global → MutBor Tokens → ℕ → Result A Stop → MutBor Tokens → Type 0) : Type 0 where
  pub callable : (alloc : Global) (old : MutBor Tokens) → 0 < left → pre alloc old left
  pub value : (alloc : Global) (old new : MutBor Tokens) (r : Result A Stop) → post alloc old left r new
      → Reads (inside left old.now) r new.now
  pub shorter : (alloc : Global) (old new : MutBor Tokens) (r : Result A Stop) → post alloc old left r new
      → OnOk r (length new.now < length old.now)
