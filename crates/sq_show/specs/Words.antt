-- What is written of a cause.
use Rattle.std.specs.Prelude.{◌≡◌, ◌++◌, ◌≢◌, ℕ, List}
use Rattle.std.specs.List.{AllByRecursion}

-- a line after something was added to it: what was there, and behind it characters other than a line end
pub record IsContinued (before after : List ℕ) : Type 0 where
  pub added : List ℕ
  pub joined : after ≡ before ++ added
  pub no_end : AllByRecursion (λ c. c ≢ 10) added
