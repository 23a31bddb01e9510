-- Left open for levels_of: its result; answered by laws of std.
use Rattle.std.proofs.Common.{◌≡◌, ◌∙◌, ◌∷◌, ◌++◌, [], List, map, ap, sym}
use Rattle.std.specs.Borrow.{Bor}
use Rattle.std.proofs.lemmas.List.{map_push}
use Rattle.sq_bound.specs.declared.condition.BoundCond.{BoundCond}
use Rattle.sq_bound.specs.declared.names.Leaf.{Leaf}
use Rattle.sq_query.specs.Target.{and_own}
use Rattle.sq_query.proofs.target.levels_of.Goals as goal

pub returns-in_ok-push-in-Some : goal.returns-in_ok-push-in-Some
returns-in_ok-push-in-Some c =
    let now = λ (b : Bor BoundCond). b.now in
    let conditions = c.args.target.now.leaf.conditions in
    let prior : map now c.in_ok-levels.levels.items ≡ conditions = c.in_ok-levels.ensures ∙ c.as_slice.ensures ∙ ap (λ (l : Leaf). l.conditions) c.get.ensures in
    ap (map now) c.in_ok-push-in-Some.ensures.items ∙ map_push now c.in_ok-levels.levels.items _ ∙ ap (λ (xs : List BoundCond). xs ++ c.in-Some.condition ∷ []) prior
    ∙ sym (ap (and_own conditions) c.in-Some.is)

pub returns-in-None : goal.returns-in-None
returns-in-None c =
    let now = λ (b : Bor BoundCond). b.now in
    let conditions = c.args.target.now.leaf.conditions in
    let prior : map now c.in_ok-levels.levels.items ≡ conditions = c.in_ok-levels.ensures ∙ c.as_slice.ensures ∙ ap (λ (l : Leaf). l.conditions) c.get.ensures in
    prior ∙ sym (ap (and_own conditions) c.in-None.is)
