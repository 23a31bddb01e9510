-- A test of borrowed words is a test of the words.
use Rattle.std.proofs.Common.{◌≡◌, Bool, ◌||◌, List, [], ◌∷◌, ap, refl}
use Rattle.std.specs.Borrow.{Bor}
use Rattle.std.specs.List.{list_any}
use Rattle.sq_bindings.specs.Names.{listed}
use Rattle.sq_bindings.specs.Template.{Text}

pub any_listed : (f : Text → Bool) (words : List (Bor Text)) → list_any (λ (w : Bor Text). f w.now) words ≡ list_any f (listed words)
any_listed f [] = refl
any_listed f (w ∷ ws) = ap (λ b. f w.now || b) (any_listed f ws)
