-- Search conditions and query specifications with their columns, parameters and tables placed (ISO/IEC 9075:1992, 6.3, 6.4, 7.3
-- to 7.9 and clause 8). Set functions stay as they are, and `*` becomes all columns. Which columns may be read, and where set
-- functions may occur, has no bearing on it.
use Rattle.std.specs.Prelude.{ℕ, List, map, Option, Some, None, Ok}
use Rattle.std.specs.List.{enumerate_from, flat_map}
use Rattle.std.specs.Option.{option_map}
use Rattle.sq_meaning.specs.Environment.{TableReference}
use Rattle.sq_meaning.specs.Placed.{Placed}
use Rattle.sq_meaning.specs.Spelled.{Named}
use Rattle.sq_meaning.specs.Status.{Outcome, ◌>>=◌, each, well_formed}
use Rattle.sq_meaning.specs.Syntax.{Expr, column, SelectList, all_columns, expressions, Cond, Conds, Clause, Select, compare, compare_subquery, compare_quantified, between, in_subquery, in_list, like, is_null, exists, negated, conjunction, disjunction, no_cond, a_cond, absent, present, select}
use Rattle.sq_bound.specs.Condition.{PlacedClause, PlacedCond, PlacedSelect, compared_with}
use Rattle.sq_bound.specs.Expression.{PlacedExpr}
use Rattle.sq_bound.specs.declared.condition.Compared.TheVariants.{Scalar}
use Rattle.sq_bound.specs.declared.condition.TablePlace.{TablePlace}
use Rattle.sq_binding.specs.Condition.{compared_as}
use Rattle.sq_binding.specs.From.{NamedItem, NamedTables, item_over, items_of, tables_of}
use Rattle.sq_binding.specs.Placed.{placed, placed_column}
use Rattle.sq_binding.specs.Scope.{FromItem}
use Rattle.sq_binding.specs.Select.{Surroundings, of_lines}

abbrev pub expr_placed : Surroundings → Expr Named → Outcome PlacedExpr
expr_placed a e = placed a.scopes a.parameters e

abbrev pub escape_placed : Surroundings → Option (Expr Named) → Outcome (Option PlacedExpr)
escape_placed a None = Ok None
escape_placed a (Some e) = expr_placed a e >>= λ x. Ok (Some x)

abbrev pub item_placed : NamedTables → TableReference → Outcome NamedItem
item_placed names r = well_formed (option_map (item_over r) (names r.table))

-- the columns of an item, by its number (7.9)
abbrev pub columns_placed : ℕ × FromItem → List PlacedExpr
columns_placed i = map (λ c. column (record { depth = 0; item = i.0; column = c.position })) i.1.columns

abbrev pub list_placed : Surroundings → List FromItem → SelectList Named → Outcome (List PlacedExpr)
list_placed a items all_columns = Ok (flat_map columns_placed (enumerate_from 0 items))
list_placed a items (expressions es) = each (expr_placed a) es

abbrev mutual
  pub cond_placed : Surroundings → Cond Named → Outcome PlacedCond
  cond_placed a (compare op x y) = expr_placed a x >>= λ p. expr_placed a y >>= λ q. Ok (compare op p q)
  cond_placed a (compare_subquery op x s) =
      expr_placed a x >>= λ p. select_placed a s >>= λ q. Ok (compared_with Scalar op p q)
  cond_placed a (compare_quantified op k x s) =
      expr_placed a x >>= λ p. select_placed a s >>= λ q. Ok (compared_with (compared_as k) op p q)
  cond_placed a (between x low high) =
      expr_placed a x >>= λ p. expr_placed a low >>= λ q. expr_placed a high >>= λ r. Ok (between p q r)
  cond_placed a (in_subquery x s) = expr_placed a x >>= λ p. select_placed a s >>= λ q. Ok (in_subquery p q)
  cond_placed a (in_list x es) = expr_placed a x >>= λ p. each (expr_placed a) es >>= λ ps. Ok (in_list p ps)
  cond_placed a (like x pattern escape) =
      expr_placed a x >>= λ p. expr_placed a pattern >>= λ q. escape_placed a escape >>= λ r. Ok (like p q r)
  cond_placed a (is_null x) = expr_placed a x >>= λ p. Ok (is_null p)
  cond_placed a (exists s) = select_placed a s >>= λ q. Ok (exists q)
  cond_placed a (negated c) = cond_placed a c >>= λ p. Ok (negated p)
  cond_placed a (conjunction cs) = conds_placed a cs >>= λ ps. Ok (conjunction ps)
  cond_placed a (disjunction cs) = conds_placed a cs >>= λ ps. Ok (disjunction ps)

  pub conds_placed : Surroundings → Conds Named → Outcome (Conds (Placed TablePlace))
  conds_placed a no_cond = Ok no_cond
  conds_placed a (a_cond c cs) = cond_placed a c >>= λ p. conds_placed a cs >>= λ ps. Ok (a_cond p ps)

  pub clause_placed : Surroundings → Clause Named → Outcome PlacedClause
  clause_placed a absent = Ok absent
  clause_placed a (present c) = cond_placed a c >>= λ p. Ok (present p)

  -- all clauses of a query see the items of its FROM
  pub select_placed : Surroundings → Select Named → Outcome PlacedSelect
  select_placed a (select distinct list from filter by having) = do
    items ← each (item_placed a.names) from
    kept ← clause_placed (of_lines (items_of items) a) filter
    columns ← each (placed_column (of_lines (items_of items) a).scopes) by
    shown ← list_placed (of_lines (items_of items) a) (items_of items) list
    groups ← clause_placed (of_lines (items_of items) a) having
    Ok (select distinct (expressions shown) (tables_of items) kept columns groups)
