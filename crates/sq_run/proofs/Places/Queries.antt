-- A query expression has by its places the rows, and the order, that it has by its names (ISO/IEC 9075:1992, 7.10 and 13.1).
use Rattle.std.proofs.Common.{◌≡◌, List, [], ◌∷◌, ◌++◌, map, Option, Some, refl, ap, ◌∙◌, Ok}
use Rattle.std.specs.Prelude.{⊤, IfOk, if◌then◌else◌}
use Rattle.std.specs.List.{AllZip, flat_map, zip}
use Rattle.sq_lex.specs.declared.name.Name.{Name}
use Rattle.sq_meaning.specs.Status.{Outcome, and_then, each}
use Rattle.sq_meaning.specs.Syntax.{all_columns, expressions, Select, select, Query, specification, union}
use Rattle.sq_meaning.specs.Environment.{Item, Row}
use Rattle.sq_meaning.specs.Kind.{common_kinds, query_kinds, select_kinds}
use Rattle.sq_meaning.specs.QueryExpression.{ordered_rows, query_rows, row_brought_to}
use Rattle.sq_meaning.specs.Rows.{SortColumn, by_columns, firsts, same_row, sorted}
use Rattle.sq_meaning.specs.SortKeys.{common_name, item_name, query_names, select_names}
use Rattle.sq_meaning.specs.Spelled.{Named}
use Rattle.sq_bound.specs.Condition.{PlacedSelect}
use Rattle.sq_bound.specs.Query.{PlacedQuery}
use Rattle.sq_bound.specs.WellFormed.{TableKinds}
use Rattle.sq_binding.specs.ColumnNames.{item_names, names_placed}
use Rattle.sq_binding.specs.From.{items_of, tables_of}
use Rattle.sq_binding.specs.Placed.{placed_column}
use Rattle.sq_binding.specs.PlacedQuery.{clause_placed, item_placed, list_placed, select_placed}
use Rattle.sq_binding.specs.PlacedUnion.{query_placed}
use Rattle.sq_binding.specs.Scope.{FromItem, ItemColumn}
use Rattle.sq_binding.specs.Written.{common_names, query_names_placed}
use Rattle.sq_run.proofs.Places.ColumnKinds.{AreTyped, TypedItem, item_typed, kinds_at_places, list_kinds_same, named_kinds}
use Rattle.sq_run.proofs.Places.Conditions.{SameOutcome, SameRows, select_same}
use Rattle.sq_run.proofs.Places.Items.{IsFit, SameItem, heads_same, in_order_same, item_same}
use Rattle.sq_run.proofs.Places.Outcomes.{if_any, if_both, if_each, if_one, if_then, if_two}
use Rattle.sq_run.proofs.Places.Setting.{Setting, around, at_places, items_named, named, names_in, scopes_with}
use Rattle.sq_run.proofs.Sites.Stars.{QueryStars}

-- ---- the kinds of the columns

abbrev pub SameKinds : Setting → TableKinds → Select Named → PlacedSelect → Type 0
SameKinds s columns q t = select_kinds (named_kinds s) [] q ≡ select_kinds (kinds_at_places s columns) [] t

pub select_kinds_same : (s : Setting) (columns : TableKinds) → IsFit s → AreTyped s columns → (q : Select Named)
    → IfOk (select_placed (around s []) q) (SameKinds s columns q)
select_kinds_same s columns fit typed (select distinct list from filter by having) =
    if_then (each (item_placed (names_in s)) from)
    (λ tables. and_then (clause_placed (around s (items_of tables ∷ [])) filter) (λ kept. and_then (each (placed_column (scopes_with (items_of tables ∷ []))) by) (λ places.
    and_then (list_placed (around s (items_of tables ∷ [])) (items_of tables) list)
    (λ shown. and_then (clause_placed (around s (items_of tables ∷ [])) having) (λ groups.
    Ok (select distinct (expressions shown) (tables_of tables) kept places groups))))))
    (λ tables. AllZip (SameItem s) from tables × AllZip (TypedItem s columns) from tables)
    (SameKinds s columns (select distinct list from filter by having))
    (if_both (each (item_placed (names_in s)) from) (AllZip (SameItem s) from) (AllZip (TypedItem s columns) from) (if_each (item_placed (names_in s)) (SameItem s) (item_same s fit) from) (if_each (item_placed (names_in s)) (TypedItem s columns) (item_typed s columns typed) from))
    (λ tables both. if_then (clause_placed (around s (items_of tables ∷ [])) filter)
    (λ kept. and_then (each (placed_column (scopes_with (items_of tables ∷ []))) by) (λ places.
    and_then (list_placed (around s (items_of tables ∷ [])) (items_of tables) list)
    (λ shown. and_then (clause_placed (around s (items_of tables ∷ [])) having) (λ groups.
    Ok (select distinct (expressions shown) (tables_of tables) kept places groups)))))
    (λ kept. ⊤) (SameKinds s columns (select distinct list from filter by having))
    (if_any (clause_placed (around s (items_of tables ∷ [])) filter))
    (λ kept any. if_then (each (placed_column (scopes_with (items_of tables ∷ []))) by)
    (λ places. and_then (list_placed (around s (items_of tables ∷ [])) (items_of tables) list) (λ shown. and_then (clause_placed (around s (items_of tables ∷ [])) having) (λ groups.
    Ok (select distinct (expressions shown) (tables_of tables) kept places groups))))
    (λ places. ⊤) (SameKinds s columns (select distinct list from filter by having))
    (if_any (each (placed_column (scopes_with (items_of tables ∷ []))) by))
    (λ places any_place. if_two (list_placed (around s (items_of tables ∷ [])) (items_of tables) list) (clause_placed (around s (items_of tables ∷ [])) having)
    (λ shown groups. select distinct (expressions shown) (tables_of tables) kept places groups)
    (λ shown. select_kinds (named_kinds s) [] (select distinct list from filter by having) ≡ select_kinds (kinds_at_places s columns) [] (select distinct (expressions shown) (tables_of tables) kept places kept))
    (λ groups. ⊤) (SameKinds s columns (select distinct list from filter by having))
    (list_kinds_same s columns from tables (record { items_are = heads_same s from tables both.0; in_order = in_order_same s from tables both.0; typed = both.1 }) list)
    (if_any (clause_placed (around s (items_of tables ∷ [])) having))
    (λ shown groups e any_group. e))))

-- ---- query expressions

pub record SameQuery (s : Setting) (columns : TableKinds) (q : Query Named) (t : PlacedQuery) : Type 0 where
  pub kinds : query_kinds (named_kinds s) q ≡ query_kinds (kinds_at_places s columns) t
  pub rows : SameOutcome s [] (query_rows (named s) (named_kinds s) q) (query_rows (at_places s) (kinds_at_places s columns) t)

pub query_same : (s : Setting) (columns : TableKinds) → IsFit s → AreTyped s columns → (q : Query Named) → QueryStars q
    → IfOk (query_placed (around s []) q) (SameQuery s columns q)
query_same s columns fit typed (specification q) stars =
    if_one (select_placed (around s []) q) (λ t. specification t) (λ t. SameKinds s columns q t × SameRows s [] q t)
    (SameQuery s columns (specification q))
    (if_both (select_placed (around s []) q) (SameKinds s columns q) (SameRows s [] q) (select_kinds_same s columns fit typed q) (select_same s fit [] q stars))
    (λ t both. record { kinds = both.0; rows = both.1 })
query_same s columns fit typed (union all left right) stars =
    if_two (query_placed (around s []) left) (query_placed (around s []) right) (λ x y. union all x y) (SameQuery s columns left)
    (SameQuery s columns right) (SameQuery s columns (union all left right))
    (query_same s columns fit typed left stars.0) (query_same s columns fit typed right stars.1)
    (λ x y p q. record {
      kinds = (λ i. and_then (p.kinds i) (λ ls. and_then (q.kinds i) (common_kinds ls)));
      rows = λ env other h.
          (λ i. and_then (p.rows env other h i) (λ ls. and_then (q.rows env other h i) (λ rs. and_then (and_then (p.kinds i) (λ ks. and_then (q.kinds i) (common_kinds ks))) (λ kinds.
          and_then (each (row_brought_to kinds) (ls ++ rs)) (λ joined. Ok (if all then joined else firsts same_row joined))))));
    })

-- in the order of the same columns
pub ordered_same : (s : Setting) (columns : TableKinds) (q : Query Named) (t : PlacedQuery) → SameQuery s columns q t
    → (order : List SortColumn)
    → SameOutcome s [] (ordered_rows (named s) (named_kinds s) q order)
    (ordered_rows (at_places s) (kinds_at_places s columns) t order)
ordered_same s columns q t same order env other h =
    ap (λ (o : Outcome (List Row)). and_then o (λ found. Ok (sorted (by_columns order) found))) (same.rows env other h)

-- ---- the names by which ORDER BY sorts

abbrev Names : Type 0
Names = List (Option Name)

some_names : (columns : List ItemColumn) → map Some (map (λ c. c.name) columns) ≡ map (λ c. Some c.name) columns
some_names [] = refl
some_names (c ∷ cs) = ap (λ ns. Some c.name ∷ ns) (some_names cs)

all_names : (items : List FromItem) → flat_map (λ head. map Some head.columns) (items_named items) ≡ flat_map item_names items
all_names [] = refl
all_names (i ∷ items) = (λ j. some_names i.columns j ++ all_names items j)

pub names_same : (s : Setting) → IsFit s → (q : Select Named)
    → IfOk (names_placed (names_in s) q) (λ ns. select_names s.tables q ≡ Ok ns)
names_same s fit (select distinct all_columns from filter by having) =
    if_one (each (item_placed (names_in s)) from) (λ placed. flat_map item_names (items_of placed)) (AllZip (SameItem s) from)
    (λ ns. select_names s.tables (select distinct all_columns from filter by having) ≡ Ok ns)
    (if_each (item_placed (names_in s)) (SameItem s) (item_same s fit) from)
    (λ placed h. ap (λ (o : Outcome (List Item)). and_then o (λ heads. Ok (flat_map (λ head. map Some head.columns) heads))) (heads_same s from placed h) ∙ ap (λ (ns : Names). Ok ns) (all_names (items_of placed)))
names_same s fit (select distinct (expressions es) from filter by having) =
    if_one (each (item_placed (names_in s)) from) (λ placed. map item_name es) (λ placed. ⊤)
    (λ ns. select_names s.tables (select distinct (expressions es) from filter by having) ≡ Ok ns)
    (if_any (each (item_placed (names_in s)) from)) (λ placed any. refl)

pub query_names_same : (s : Setting) → IsFit s → (q : Query Named)
    → IfOk (query_names_placed (names_in s) q) (λ ns. query_names s.tables q ≡ Ok ns)
query_names_same s fit (specification q) = names_same s fit q
query_names_same s fit (union all left right) =
    if_two (query_names_placed (names_in s) left) (query_names_placed (names_in s) right) (λ ls rs. common_names ls rs)
    (λ ns. query_names s.tables left ≡ Ok ns) (λ ns. query_names s.tables right ≡ Ok ns)
    (λ ns. query_names s.tables (union all left right) ≡ Ok ns) (query_names_same s fit left) (query_names_same s fit right)
    (λ ls rs p q. (λ i. and_then (p i) (λ xs. and_then (q i) (λ ys. Ok (map (λ n. common_name n.0 n.1) (zip xs ys))))))
