-- The scope of a query: the surroundings of its clauses.
use Rattle.std.proofs.Common.{◌≡◌, Bool, true, false, List, ◌∷◌, map, None, Some, subst, Bor}
use Rattle.sq_lex.specs.declared.name.Name.{Name}
use Rattle.sq_bound.specs.Expression.{place_meant}
use Rattle.sq_bound.specs.declared.expression.Place.{Place}
use Rattle.sq_binding.specs.From.{NamedTables}
use Rattle.sq_binding.specs.Select.{Surroundings, of_groups, of_lines}
use Rattle.sq_binder.specs.Scope.{item_of, parameters_in, scope_over, scopes_in}
use Rattle.sq_binder.specs.declared.scope.Environment.{Environment}
use Rattle.sq_binder.specs.declared.scope.FromItem.{FromItem}

abbrev pub at : NamedTables → Environment → Bool → Surroundings
at names environment allowed = record { names = names; parameters = parameters_in environment; scopes = scopes_in environment; functions_allowed = allowed }

module _ (P : Surroundings → Name → Type 0) (a : Surroundings) (inner : Environment) (own : Name) (items : List FromItem) (parameters : parameters_in inner ≡ a.parameters) (user : inner.user ≡ own) where
  -- in WHERE and GROUP BY
  pub inside_lines : scopes_in inner ≡ scope_over items None ∷ a.scopes → P (at a.names inner false) inner.user → P (of_lines (map item_of items) a) own
  inside_lines scopes p = subst (λ (z : Surroundings × Name). P z.0 z.1) (λ i. (record { names = a.names; parameters = parameters i; scopes = scopes i; functions_allowed = false }, user i)) p

  -- in the select list and HAVING
  pub inside_groups : (columns : Bor (List Place)) → scopes_in inner ≡ scope_over items (Some columns) ∷ a.scopes → P (at a.names inner true) inner.user → P (of_groups (map item_of items) (map place_meant columns.now) a) own
  inside_groups columns scopes p = subst (λ (z : Surroundings × Name). P z.0 z.1) (λ i. (record { names = a.names; parameters = parameters i; scopes = scopes i; functions_allowed = true }, user i)) p
