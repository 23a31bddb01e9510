-- A text with its names placed is the same whatever privileges are held on the tables that it names.
use Rattle.std.proofs.Common.{◌≡◌, Bool, false, List, Option, Some, None, Ok, refl, ap}
use Rattle.std.specs.Option.{option_map}
use Rattle.sq_meaning.specs.Environment.{TableName, TableReference}
use Rattle.sq_meaning.specs.Spelled.{Named}
use Rattle.sq_meaning.specs.Status.{Outcome, and_then, each, well_formed}
use Rattle.sq_meaning.specs.Syntax.{Cond, Conds, Clause, Select, SelectList, Query, all_columns, expressions, compare, compare_subquery, compare_quantified, between, in_subquery, in_list, like, is_null, exists, negated, conjunction, disjunction, no_cond, a_cond, absent, present, select, specification, union}
use Rattle.sq_bound.specs.Condition.{compared_with}
use Rattle.sq_bound.specs.Known.{KnownTable, KnownTables}
use Rattle.sq_bound.specs.declared.condition.Compared.TheVariants.{Scalar}
use Rattle.sq_binding.specs.ColumnNames.{list_names, names_placed}
use Rattle.sq_binding.specs.Condition.{compared_as}
use Rattle.sq_binding.specs.From.{NamedItem, NamedTables, items_of, tables_of}
use Rattle.sq_binding.specs.From as from_spec
use Rattle.sq_binding.specs.Placed.{placed_column}
use Rattle.sq_binding.specs.PlacedQuery.{clause_placed, cond_placed, conds_placed, expr_placed, item_placed, list_placed, select_placed}
use Rattle.sq_binding.specs.PlacedUnion.{query_placed}
use Rattle.sq_binding.specs.Select.{Surroundings, of_lines}
use Rattle.sq_binding.specs.Names.{meant_by, named_table, named_tables}
use Rattle.sq_binding.specs.Names as names_spec
use Rattle.sq_binding.specs.Written as written
use Rattle.sq_binding.specs.Written.{query_names_placed}

module _ (known : KnownTables) (selects grants : TableName → Bool) where
  abbrev held : NamedTables
  held = named_tables known selects grants

  abbrev bare : NamedTables
  bare = names_spec.tables_of known

  item_same : (r : TableReference) → item_placed held r ≡ item_placed bare r
  item_same r = by_meant (meant_by known r.table)
    where
      by_meant : (k : Option KnownTable) → well_formed (option_map (from_spec.item_over r) (option_map (named_table (selects r.table) (grants r.table)) k)) ≡ well_formed (option_map (from_spec.item_over r) (option_map (named_table false false) k))
      by_meant None = refl
      by_meant (Some k) = refl

  items_same : (from : List TableReference) → each (item_placed held) from ≡ each (item_placed bare) from
  items_same from i = each (λ r. item_same r i) from

  abbrev by_held : Surroundings → Surroundings
  by_held a = record a { names = held }

  abbrev by_bare : Surroundings → Surroundings
  by_bare a = record a { names = bare }

  list_same : (list : SelectList Named) (a : Surroundings) (items : List NamedItem) → list_placed (by_held a) (items_of items) list ≡ list_placed (by_bare a) (items_of items) list
  list_same all_columns a items = refl
  list_same (expressions es) a items = refl

  mutual
    pub cond_same : (c : Cond Named) (a : Surroundings) → cond_placed (by_held a) c ≡ cond_placed (by_bare a) c
    cond_same (compare op x y) a = refl
    cond_same (compare_subquery op x q) a = λ i. and_then (expr_placed a x) (λ p. and_then (select_same q a i) (λ q. Ok (compared_with Scalar op p q)))
    cond_same (compare_quantified op k x q) a = λ i. and_then (expr_placed a x) (λ p. and_then (select_same q a i) (λ q. Ok (compared_with (compared_as k) op p q)))
    cond_same (between x low high) a = refl
    cond_same (in_subquery x q) a = λ i. and_then (expr_placed a x) (λ p. and_then (select_same q a i) (λ q. Ok (in_subquery p q)))
    cond_same (in_list x es) a = refl
    cond_same (like x pattern None) a = refl
    cond_same (like x pattern (Some escape)) a = refl
    cond_same (is_null x) a = refl
    cond_same (exists q) a = λ i. and_then (select_same q a i) (λ q. Ok (exists q))
    cond_same (negated c) a = λ i. and_then (cond_same c a i) (λ p. Ok (negated p))
    cond_same (conjunction cs) a = λ i. and_then (conds_same cs a i) (λ ps. Ok (conjunction ps))
    cond_same (disjunction cs) a = λ i. and_then (conds_same cs a i) (λ ps. Ok (disjunction ps))

    conds_same : (cs : Conds Named) (a : Surroundings) → conds_placed (by_held a) cs ≡ conds_placed (by_bare a) cs
    conds_same no_cond a = refl
    conds_same (a_cond c cs) a = λ i. and_then (cond_same c a i) (λ p. and_then (conds_same cs a i) (λ ps. Ok (a_cond p ps)))

    pub clause_same : (c : Clause Named) (a : Surroundings) → clause_placed (by_held a) c ≡ clause_placed (by_bare a) c
    clause_same absent a = refl
    clause_same (present c) a = λ i. and_then (cond_same c a i) (λ p. Ok (present p))

    pub select_same : (q : Select Named) (a : Surroundings) → select_placed (by_held a) q ≡ select_placed (by_bare a) q
    select_same (select distinct list from filter by having) a = λ i.
        and_then (items_same from i) (λ items.
        and_then (clause_same filter (of_lines (items_of items) a) i) (λ kept.
        and_then (each (placed_column (of_lines (items_of items) a).scopes) by) (λ columns.
        and_then (list_same list (of_lines (items_of items) a) items i) (λ shown.
        and_then (clause_same having (of_lines (items_of items) a) i) (λ groups.
        Ok (select distinct (expressions shown) (tables_of items) kept columns groups))))))

  pub query_same : (q : Query Named) (a : Surroundings) → query_placed (by_held a) q ≡ query_placed (by_bare a) q
  query_same (specification s) a = λ i. and_then (select_same s a i) (λ x. Ok (specification x))
  query_same (union all left right) a = λ i. and_then (query_same left a i) (λ x. and_then (query_same right a i) (λ y. Ok (union all x y)))

  pub names_same : (q : Select Named) → names_placed held q ≡ names_placed bare q
  names_same (select distinct list from filter by having) = ap (λ (o : Outcome (List NamedItem)). and_then o (λ items. Ok (list_names (items_of items) list))) (items_same from)

  pub query_names_same : (q : Query Named) → query_names_placed held q ≡ query_names_placed bare q
  query_names_same (specification q) = names_same q
  query_names_same (union all left right) = λ i. and_then (query_names_same left i) (λ ls. and_then (query_names_same right i) (λ rs. Ok (written.common_names ls rs)))
