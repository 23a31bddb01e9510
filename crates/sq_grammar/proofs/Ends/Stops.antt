-- The places where reading stops: at a later part, or at this one.
use Rattle.std.proofs.Common.{◌≡◌, Ok, ◌∙◌, ap}
use Rattle.sq_grammar.specs.Reading.{Tokens, Parser, ◌>>=◌, and_then}
use Rattle.sq_grammar.specs.declared.stop.Stop.{Stop}
use Rattle.sq_grammar.specs.declared.stop.Stop.TheVariants.{NoMemory, Unfit}
use Rattle.sq_grammar.specs.Reads.{Stops}

-- A stop at a later part, and at this one.
pub stops_after : {A B : Type 0} (p : Parser A) (f : A → Parser B) (ts mid : Tokens) (x : A) (stop : Stop) → p ts ≡ Ok (x, mid) → Stops (f x mid) stop → Stops ((p >>= f) ts) stop
stops_after p f ts mid x NoMemory e s = tt
stops_after p f ts mid x (Unfit n) e s = ap (λ r. and_then r f) e ∙ s

pub stops_here : {A B : Type 0} (p : Parser A) (f : A → Parser B) (ts : Tokens) (stop : Stop) → Stops (p ts) stop → Stops ((p >>= f) ts) stop
stops_here p f ts NoMemory s = tt
stops_here p f ts (Unfit n) s = ap (λ r. and_then r f) s
