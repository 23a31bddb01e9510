-- A query specification has by its places the rows that it has by its names, where its conditions are the same on every line
-- and group (ISO/IEC 9075:1992, 7.3 to 7.9).
use Rattle.std.proofs.Common.{◌≡◌, Bool, false, List, [], ◌∷◌, ◌++◌, map, refl, sym, ap, inl, inr, ◌∙◌, Ok}
use Rattle.std.specs.Prelude.{◌||◌, ◌⊎◌}
use Rattle.std.specs.List.{AllByRecursion, AllZip, flat_map}
use Rattle.sq_tree.specs.declared.names.ColumnReference.{ColumnReference}
use Rattle.sq_meaning.specs.Status.{Outcome, and_then, each, kept}
use Rattle.sq_meaning.specs.Syntax.{SelectList, all_columns, expressions, Clause, select}
use Rattle.sq_meaning.specs.Environment.{Item, Row, Line, Env, Place, TableReference, within, alone, items_in, value_at}
use Rattle.sq_meaning.specs.Expression.{Reading, value, set_functions}
use Rattle.sq_meaning.specs.Placed.{Placed}
use Rattle.sq_meaning.specs.Rows.{product}
use Rattle.sq_meaning.specs.Query.{clause_functions, clause_truth, first_line, group_scope, group_scopes, grouped, grouping_values, groups_by, is_grouped, is_present, is_some_of, is_true, list_functions, listed_values, rows, scopes_of}
use Rattle.sq_meaning.specs.Spelled.{Named}
use Rattle.sq_meaning.proofs.OutcomeLaws.{each_value, either_way}
use Rattle.sq_bound.specs.Condition.{PlacedClause}
use Rattle.sq_bound.specs.Expression.{PlacedExpr}
use Rattle.sq_bound.specs.declared.condition.TablePlace.{TablePlace}
use Rattle.sq_binding.specs.From.{NamedItem, items_of, tables_of}
use Rattle.sq_binding.specs.Scope.{FromItem}
use Rattle.sq_run.proofs.Places.Expressions.{SameValue}
use Rattle.sq_run.proofs.Places.Items.{HaveWidths, SameItem, heads_same, line_seen, product_wide, tables_same}
use Rattle.sq_run.proofs.Places.Lists.{ListsLine, SameList, seen_by_name, seen_by_place, values_same}
use Rattle.sq_run.proofs.Places.Outcomes.{all_each, all_self, append_zip, each_zip, kept_of, same_then}
use Rattle.sq_run.proofs.Places.Phases.{groups_then, shown_by, shown_is, shown_of, shown_same, ungrouped_way}
use Rattle.sq_run.proofs.Places.Seen.{SameColumn, SeenEnv, SeenLine, SeenScopes}
use Rattle.sq_run.proofs.Places.Setting.{Setting, at_places, items_named, named}
use Rattle.sq_run.proofs.Sites.Stars.{ListStars}

-- a clause has the same truth, and the same set functions one by one
pub record SameClause (s : Setting) (scopes : List (List FromItem)) (c : Clause Named) (d : PlacedClause) : Type 0 where
  pub truth : (env : Env Item) (other : Env (Unit {0})) → SeenEnv s.parameters scopes env other
      → clause_truth (named s) c env ≡ clause_truth (at_places s) d other
  pub functions : AllZip (SameValue s scopes) (clause_functions c) (clause_functions d)
  pub presence : is_present c ≡ is_present d

-- ---- grouping

some_same : {A B : Type 0} (R : A → B → Type 0) (xs : List A) (ys : List B) → AllZip R xs ys → is_some_of xs ≡ is_some_of ys
some_same R [] [] r = refl
some_same R [] (y ∷ ys) r = absurd r
some_same R (x ∷ xs) [] r = absurd r
some_same R (x ∷ xs) (y ∷ ys) r = refl

keys_same : (s : Setting) (scopes : List (List FromItem)) (cs : List ColumnReference) (ps : List Place)
    → AllZip (SameColumn scopes) cs ps → (env : Env Item) (other : Env (Unit {0})) → SeenScopes scopes env.scopes other.scopes
    → grouping_values (named s) cs env ≡ grouping_values (at_places s) ps other
keys_same s scopes cs ps h env other seen =
    each_zip (SameColumn scopes) (λ c. and_then ((named s).place c (items_in env)) (value_at env)) (λ p. value_at other p)
    (λ c p same. same env other seen) cs ps h

-- ---- the rows

-- a query specification in two forms, whose parts are the same
pub record SameParts (s : Setting) (scopes : List (List FromItem)) (from : List TableReference) (placed : List NamedItem)
    (list : SelectList Named) (shown : List PlacedExpr)
    (filter : Clause Named) (filtered : PlacedClause) (by : List ColumnReference) (columns : List Place) (having : Clause Named)
    (groups : PlacedClause) : Type 0 where
  pub from_is : AllZip (SameItem s) from placed
  pub list_is : SameList s scopes (items_of placed) list shown
  pub filter_is : SameClause s (items_of placed ∷ scopes) filter filtered
  pub by_is : AllZip (SameColumn (items_of placed ∷ scopes)) by columns
  pub having_is : SameClause s (items_of placed ∷ scopes) having groups

-- any line is shown, or only what is not grouped
lists_any : (list : SelectList Named) (items : List FromItem) (by : List ColumnReference) (having : Clause Named)
    → ListStars list by having → (is_grouped list by having ≡ false) ⊎ ((line : Line) → ListsLine list items line)
lists_any all_columns items by having stars = inl stars
lists_any (expressions es) items by having stars = inr (λ line. tt)

lists_wide : (list : SelectList Named) (items : List FromItem) (lines : List Line) → AllByRecursion (HaveWidths items) lines
    → AllByRecursion (ListsLine list items) lines
lists_wide all_columns items lines wide = wide
lists_wide (expressions es) items lines wide = all_each (ListsLine (expressions es) items) (λ line. tt) lines

pub specification_same : (s : Setting) (scopes : List (List FromItem)) (d : Bool) (from : List TableReference)
    (placed : List NamedItem) (list : SelectList Named) (shown : List PlacedExpr)
    (filter : Clause Named) (filtered : PlacedClause) (by : List ColumnReference) (columns : List Place) (having : Clause Named)
    (groups : PlacedClause)
    → SameParts s scopes from placed list shown filter filtered by columns having groups → ListStars list by having
    → (env : Env Item) (other : Env (Unit {0})) → SeenEnv s.parameters scopes env other
    → rows (named s) (select d list from filter by having) env
    ≡ rows (at_places s) (select d (expressions shown) (tables_of placed) filtered columns groups) other
specification_same s scopes d from placed list shown filter filtered by columns having groups same stars env other h =
    ap (λ (o : Outcome (List Item)). and_then o (λ hs. and_then (each m.rows from) (λ tables. from_product hs tables)))
    (heads_same s from placed same.from_is)
    ∙ ap (λ (o : Outcome (List (List Row))). and_then o (from_product (items_named items)))
    (tables_same s from placed same.from_is)
    ∙ same_then (each s.shown (tables_of placed)) (λ tables. AllByRecursion (HaveWidths items) (product tables))
    (from_product (items_named items)) (placed_product heads) (product_wide s from placed same.from_is) products_same
    ∙ sym (ap (λ (o : Outcome (List (Unit {0}))). and_then o (λ hs. and_then (each s.shown (tables_of placed)) (placed_product hs))) (each_value (λ t. tt) (tables_of placed)))
  where
    m : Reading Named
    m = named s

    n : Reading (Placed TablePlace)
    n = at_places s

    items : List FromItem
    items = items_of placed

    heads : List (Unit {0})
    heads = map (λ t. tt) (tables_of placed)

    from_product : List Item → List (List Row) → Outcome (List Row)
    from_product hs tables =
        and_then (kept (λ line. is_true (clause_truth m filter (within (alone hs line) env))) (product tables))
        (λ lines. and_then (scopes_of m list by having hs lines env) (shown_of m d list having env))

    placed_product : List (Unit {0}) → List (List Row) → Outcome (List Row)
    placed_product hs tables =
        and_then (kept (λ line. is_true (clause_truth n filtered (within (alone hs line) other))) (product tables))
        (λ lines. and_then (scopes_of n (expressions shown) columns groups hs lines other) (shown_of n d (expressions shown) groups other))

    line_is : (line : Line) → SeenLine items line line
    line_is line = line_seen s from placed same.from_is line

    lines_are : (line : Line) (group : List Line)
        → SeenEnv s.parameters (items ∷ scopes) (within (seen_by_name items line group) env)
        (within (seen_by_place heads line group) other)
    lines_are line group = record {
      scopes_are = (record { items_are = refl; line = line_is line; group = all_self (SeenLine items) line_is group }, h.scopes_are);
      inputs_are = h.inputs_are;
      user_is = h.user_is;
    }

    wheres : (line : Line)
        → clause_truth m filter (within (alone (items_named items) line) env)
        ≡ clause_truth n filtered (within (alone heads line) other)
    wheres line = same.filter_is.truth (within (alone (items_named items) line) env) (within (alone heads line) other) (lines_are line [])

    havings : (line : Line) (group : List Line)
        → clause_truth m having (within (seen_by_name items line group) env)
        ≡ clause_truth n groups (within (seen_by_place heads line group) other)
    havings line group =
        same.having_is.truth (within (seen_by_name items line group) env) (within (seen_by_place heads line group) other)
        (lines_are line group)

    listed : (line : Line) (group : List Line) → ListsLine list items line
        → listed_values m list (within (seen_by_name items line group) env)
        ≡ listed_values n (expressions shown) (within (seen_by_place heads line group) other)
    listed line group w = same.list_is.values heads line group env other w (lines_are line group)

    functions : AllZip (SameValue s (items ∷ scopes)) (list_functions list ++ clause_functions having)
        (flat_map set_functions shown ++ clause_functions groups)
    functions =
        append_zip (SameValue s (items ∷ scopes)) (list_functions list) (clause_functions having) (flat_map set_functions shown)
        (clause_functions groups) same.list_is.functions same.having_is.functions

    grouped_same : is_grouped list by having ≡ is_grouped (expressions shown) columns groups
    grouped_same =
        (λ i. some_same (SameColumn (items ∷ scopes)) by columns same.by_is i || same.having_is.presence i || some_same (SameValue s (items ∷ scopes)) (list_functions list) (flat_map set_functions shown) same.list_is.functions i)

    -- each line by itself
    line_tail : (lines : List Line) → AllByRecursion (ListsLine list items) lines
        → shown_of m d list having env (map (alone (items_named items)) lines)
        ≡ shown_of n d (expressions shown) groups other (map (alone heads) lines)
    line_tail lines wide =
        shown_is m d list having env (alone (items_named items)) lines
        ∙ shown_same d (ListsLine list items)
        (λ line. clause_truth m having (within (alone (items_named items) line) env))
        (λ line. clause_truth n groups (within (alone heads line) other))
        (λ line. listed_values m list (within (alone (items_named items) line) env))
        (λ line. listed_values n (expressions shown) (within (alone heads line) other))
        (λ line. havings line []) (λ line w. listed line [] w) lines wide
        ∙ sym (shown_is n d (expressions shown) groups other (alone heads) lines)

    -- the groups, where any line will do
    groups_are : (cs : List ColumnReference) (ps : List Place) → AllZip (SameColumn (items ∷ scopes)) cs ps → (lines : List Line)
        → groups_by m cs (items_named items) lines env ≡ groups_by n ps heads lines other
    groups_are [] [] r lines = refl
    groups_are [] (p ∷ ps) r lines = absurd r
    groups_are (c ∷ cs) [] r lines = absurd r
    groups_are (c ∷ cs) (p ∷ ps) r lines =
        (λ i. and_then (each (λ line. and_then (keys_same s (items ∷ scopes) (c ∷ cs) (p ∷ ps) r (within (alone (items_named items) line) env) (within (alone heads line) other) (lines_are line []).scopes_are i) (λ key. Ok (key, line))) lines) (λ keyed. Ok (grouped keyed)))

    functions_are : (group : List Line)
        → each (λ f. value m f (within (group_scope (items_named items) group) env))
        (list_functions list ++ clause_functions having)
        ≡ each (λ f. value n f (within (group_scope heads group) other)) (flat_map set_functions shown ++ clause_functions groups)
    functions_are group =
        values_same s (items ∷ scopes) (list_functions list ++ clause_functions having)
        (flat_map set_functions shown ++ clause_functions groups) functions
        (within (group_scope (items_named items) group) env) (within (group_scope heads group) other)
        (lines_are (first_line group) group)

    group_tail : ((line : Line) → ListsLine list items line) → (found : List (List Line))
        → shown_of m d list having env (map (group_scope (items_named items)) found)
        ≡ shown_of n d (expressions shown) groups other (map (group_scope heads) found)
    group_tail any found =
        shown_is m d list having env (group_scope (items_named items)) found
        ∙ (λ i. shown_by d (λ group. havings (first_line group) group i) (λ group. listed (first_line group) group (any (first_line group)) i) found)
        ∙ sym (shown_is n d (expressions shown) groups other (group_scope heads) found)

    group_lines : ((line : Line) → ListsLine list items line) → (lines : List Line)
        → and_then (group_scopes m (list_functions list ++ clause_functions having) by (items_named items) lines env)
        (shown_of m d list having env)
        ≡ and_then (group_scopes n (flat_map set_functions shown ++ clause_functions groups) columns heads lines other)
        (shown_of n d (expressions shown) groups other)
    group_lines any lines =
        groups_then m (list_functions list ++ clause_functions having) by (items_named items) lines env
        (shown_of m d list having env)
        ∙ (λ i. and_then (groups_are by columns same.by_is lines i) (λ found. and_then (each (λ group. functions_are group i) found) (λ _. group_tail any found i)))
        ∙ sym (groups_then n (flat_map set_functions shown ++ clause_functions groups) columns heads lines other (shown_of n d (expressions shown) groups other))

    by_groups : ((line : Line) → ListsLine list items line) → (lines : List Line)
        → and_then (scopes_of m list by having (items_named items) lines env) (shown_of m d list having env)
        ≡ and_then (scopes_of n (expressions shown) columns groups heads lines other)
        (shown_of n d (expressions shown) groups other)
    by_groups any lines =
        either_way (is_grouped list by having) (is_grouped (expressions shown) columns groups) grouped_same
        (group_scopes m (list_functions list ++ clause_functions having) by (items_named items) lines env)
        (Ok (map (alone (items_named items)) lines))
        (group_scopes n (flat_map set_functions shown ++ clause_functions groups) columns heads lines other)
        (Ok (map (alone heads) lines))
        (shown_of m d list having env) (shown_of n d (expressions shown) groups other) (group_lines any lines)
        (line_tail lines (all_each (ListsLine list items) any lines))

    by_lines : is_grouped list by having ≡ false → (lines : List Line) → AllByRecursion (ListsLine list items) lines
        → and_then (scopes_of m list by having (items_named items) lines env) (shown_of m d list having env)
        ≡ and_then (scopes_of n (expressions shown) columns groups heads lines other)
        (shown_of n d (expressions shown) groups other)
    by_lines e lines wide =
        ungrouped_way (is_grouped list by having) (is_grouped (expressions shown) columns groups) e (sym grouped_same ∙ e)
        (group_scopes m (list_functions list ++ clause_functions having) by (items_named items) lines env)
        (Ok (map (alone (items_named items)) lines))
        (group_scopes n (flat_map set_functions shown ++ clause_functions groups) columns heads lines other)
        (Ok (map (alone heads) lines))
        (shown_of m d list having env) (shown_of n d (expressions shown) groups other) (line_tail lines wide)

    lines_same : (lines : List Line) → AllByRecursion (ListsLine list items) lines
        → and_then (scopes_of m list by having (items_named items) lines env) (shown_of m d list having env)
        ≡ and_then (scopes_of n (expressions shown) columns groups heads lines other)
        (shown_of n d (expressions shown) groups other)
    lines_same lines wide = elim (lists_any list items by having stars) [
      | inl e ↦ by_lines e lines wide
      | inr any ↦ by_groups any lines
    ]

    products_same : (tables : List (List Row)) → AllByRecursion (HaveWidths items) (product tables)
        → from_product (items_named items) tables ≡ placed_product heads tables
    products_same tables wide =
        (λ i. and_then (kept (λ line. is_true (wheres line i)) (product tables)) (λ lines. and_then (scopes_of m list by having (items_named items) lines env) (shown_of m d list having env)))
        ∙ same_then (kept (λ line. is_true (clause_truth n filtered (within (alone heads line) other))) (product tables))
        (AllByRecursion (ListsLine list items))
        (λ lines. and_then (scopes_of m list by having (items_named items) lines env) (shown_of m d list having env))
        (λ lines. and_then (scopes_of n (expressions shown) columns groups heads lines other) (shown_of n d (expressions shown) groups other))
        (kept_of (ListsLine list items) (λ line. is_true (clause_truth n filtered (within (alone heads line) other))) (product tables) (lists_wide list items (product tables) wide))
        lines_same
