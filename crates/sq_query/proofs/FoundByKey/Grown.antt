-- Rows of base tables that were found one after another.
use Rattle.std.proofs.Common.{◌≡◌, ◌∙◌, List, [], ◌∷◌, ◌++◌, Option, Some, None, Result, Vec, Global, refl, sym, ap, subst, Ok, Err}
use Rattle.std.specs.Prelude.{IfOk, IfSome, option_to_list}
use Rattle.std.proofs.lemmas.List.{append_assoc}
use Rattle.sq_expression.specs.declared.fault.Fault.{Fault}
use Rattle.sq_expression.specs.declared.table.BaseRows.{BaseRows}
use Rattle.sq_query.specs.Items.{AreMore, Grows}

module _ (Step : List BaseRows → BaseRows → Type 0) where
  pub grown_none : (before : List BaseRows) → Grows Step before before
  grown_none before = ([], refl, tt)

  pub grown_one : (before now next : List BaseRows) (own : BaseRows) → Grows Step before now → Step now own → next ≡ own ∷ now → Grows Step before next
  grown_one before now next own so_far step is =
      (own ∷ so_far.0, is ∙ ap (λ (l : List BaseRows). own ∷ l) so_far.1, (subst (λ (l : List BaseRows). Step l own) so_far.1 step, so_far.2))

  pub grown_by : (before now next : List BaseRows) (o : Option BaseRows) → Grows Step before now → IfSome o (Step now) → next ≡ option_to_list o ++ now → Grows Step before next
  grown_by before now next None so_far step is = (so_far.0, is ∙ so_far.1, so_far.2)
  grown_by before now next (Some own) so_far step is = grown_one before now next own so_far step is

  more_more : (before some more : List BaseRows) → AreMore Step before some → AreMore Step (some ++ before) more → AreMore Step before (more ++ some)
  more_more before some [] h k = h
  more_more before some (own ∷ more) h k = (subst (λ (l : List BaseRows). Step l own) (sym (append_assoc more some before)) k.0, more_more before some more h k.1)

  pub grown_more : (before now next : List BaseRows) → Grows Step before now → Grows Step now next → Grows Step before next
  grown_more before now next first second = (
    second.0 ++ first.0,
    second.1 ∙ ap (λ (l : List BaseRows). second.0 ++ l) first.1 ∙ sym (append_assoc second.0 first.0 before),
    more_more before first.0 second.0 first.2 (subst (λ (l : List BaseRows). AreMore Step l second.0) first.1 second.2),
  )

  pub grown_then : (before now : List BaseRows) → Grows Step before now → (r : Result (Vec BaseRows Global) Fault) → IfOk r (λ found. Grows Step now found.items) → IfOk r (λ found. Grows Step before found.items)
  grown_then before now first (Err e) second = tt
  grown_then before now first (Ok found) second = grown_more before now found.items first second
