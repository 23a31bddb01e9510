-- A function value that reads an item of a list.
use Rattle.std.specs.Prelude.{Result, Option, ◌<◌, ◌≤◌, length, OnOk, OnSome, IfOk}
use denote.Ref.{MutBor}
use Rattle.sq_grammar.specs.declared.stop.Stop.{Stop}
use Rattle.sq_grammar.specs.Reading.{Tokens, Parser}
use Rattle.sq_grammar.specs.Reads.{Reads}

-- It may always be called, and leaves fewer tokens.
pub record Advances {A : Type 0} (pre : MutBor Tokens → Type 0) (post : MutBor Tokens → Result A Stop
    → MutBor Tokens → Type 0) : Type 0 where
  pub callable : (old : MutBor Tokens) → pre old
  pub shorter : (old new : MutBor Tokens) (r : Result A Stop) → post old r new
      → OnOk r (length new.now < length old.now)

-- It reads what the parser does.
pub record Follows {A : Type 0} (parser : Parser A) (post : MutBor Tokens → Result A Stop → MutBor Tokens
    → Type 0) : Type 0 where
  pub value : (old new : MutBor Tokens) (r : Result A Stop) → post old r new
      → Reads (parser old.now) r new.now

-- It may always be called, and leaves fewer tokens if it reads an item; it reads one only if one comes.
pub record AdvancesIfAny {A : Type 0} (pre : MutBor Tokens → Type 0) (post : MutBor Tokens
    → Result (Option A) Stop → MutBor Tokens → Type 0) : Type 0 where
  pub callable : (old : MutBor Tokens) → pre old
  pub shorter : (old new : MutBor Tokens) (r : Result (Option A) Stop) → post old r new
      → IfOk r (λ item. OnSome item (length new.now < length old.now))
  pub no_longer : (old new : MutBor Tokens) (r : Result (Option A) Stop) → post old r new
      → OnOk r (length new.now ≤ length old.now)
