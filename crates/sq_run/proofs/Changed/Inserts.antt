-- INSERT makes by its places the rows that it makes by its names, or ends with the same status (ISO/IEC 9075:1992, 13.8).
use Rattle.std.proofs.Common.{◌≡◌, ℕ, ◌+◌, List, [], ◌∷◌, length, map, refl, sym, ap, ◌∙◌, Ok, Err}
use Rattle.std.specs.Prelude.{nat_le}
use Rattle.std.specs.List.{AllByRecursion, AllZip, zip}
use Rattle.sq_lex.specs.declared.name.Name.{Name}
use Rattle.sq_store.specs.Content.{Content, table_at}
use Rattle.sq_tree.specs.declared.statement.Insert.{Insert}
use Rattle.sq_tree.specs.declared.statement.InsertSource.{InsertSource}
use Rattle.sq_tree.specs.declared.statement.InsertSource.TheVariants as source
use Rattle.sq_tree.specs.declared.statement.NewValue.{NewValue}
use Rattle.sq_value.specs.declared.value.Value.{Value}
use Rattle.sq_meaning.specs.Assignment.{assigned}
use Rattle.sq_meaning.specs.Environment.{Row}
use Rattle.sq_meaning.specs.Placed.{by_place}
use Rattle.sq_meaning.specs.Query.{rows}
use Rattle.sq_meaning.specs.Spelled.{listed, select_of, table_of}
use Rattle.sq_meaning.specs.Status.{Outcome, and_then, each}
use Rattle.sq_meaning.specs.Tables.{TableDescriptor}
use Rattle.sq_meaning.specs.Target.{Target, target_of}
use Rattle.sq_meaning.specs.declared.status.Status.TheVariants.{NoRowNumberLeft}
use Rattle.sq_meaning.proofs.OutcomeLaws.{each_map, then_then}
use Rattle.sq_meaning.specs.Schema.{BaseTable}
use Rattle.sq_meaning.specs.Change as by_name
use Rattle.sq_meaning.specs.Change.{base_at, domain_at, given_rows, has_numbers, if_some, insert_places, new_row, outer_env, reading_in, stored_row, stored_value, tables_in, with_rows}
use Rattle.sq_meaning.specs.Constraints.{demanded}
use Rattle.sq_bound.specs.Condition as bound
use Rattle.sq_bound.specs.Expression.{expr_of}
use Rattle.sq_bound.specs.Fits.{IsColumnOf}
use Rattle.sq_bound.specs.Known.{KnownTables}
use Rattle.sq_bound.specs.declared.condition.BoundSpecification.{BoundSpecification}
use Rattle.sq_bound.specs.declared.expression.BoundExpr.{BoundExpr}
use Rattle.sq_bound.specs.declared.names.BaseTable.{BaseTable as BoundTable}
use Rattle.sq_bound.specs.declared.names.ObjectColumn.{ObjectColumn}
use Rattle.sq_bound.specs.declared.names.ParameterDesc.{ParameterDesc}
use Rattle.sq_bound.specs.declared.statement.BoundInsert.{BoundInsert}
use Rattle.sq_bound.specs.declared.statement.InsertedRows.{InsertedRows}
use Rattle.sq_bound.specs.declared.statement.InsertedRows.TheVariants as inserted
use Rattle.sq_binding.specs.Written.{AreInto, IsSourceOf, value_placed}
use Rattle.sq_change.specs.Made.{Shown, row_stored, rows_given, rows_inserted, rows_made, stored_in, value_given, values_given}
use Rattle.sq_run.proofs.Places.Bound.{bound_rows}
use Rattle.sq_run.proofs.Changed.Given.{domain_same, insert_places_same, new_row_same, pairs_same, positions}
use Rattle.sq_run.proofs.Places.Items.{IsFit}
use Rattle.sq_run.proofs.Changed.NewValues.{HasNoFunction, NewValueIs, inserted_value_same}
use Rattle.sq_run.proofs.Places.Outcomes.{all_self}
use Rattle.sq_run.proofs.Places.Parameters.{AreNamed}
use Rattle.sq_run.proofs.Places.Setting.{around}
use Rattle.sq_run.proofs.Sites.Stars.{SelectStars}
use Rattle.sq_run.proofs.Changed.Statements.{IsTableAs, IsTableIn, call_seen, outer_places, read_in, seen_in}

-- ---- outcomes of lists

parts_of : {A : Type 0} (o : Outcome A) (r : Outcome (List A)) (y : A) (ys : List A)
    → and_then o (λ z. and_then r (λ zs. Ok (z ∷ zs))) ≡ Ok (y ∷ ys) → (o ≡ Ok y) × (r ≡ Ok ys)
parts_of (Err status) r y ys e = cc
parts_of (Ok z) (Err status) y ys e = cc
parts_of {A} (Ok z) (Ok zs) y ys e = let first : z ≡ y = cc in let others : zs ≡ ys = cc in (ap (λ (x : A). Ok x) first, ap (λ (xs : List A). Ok xs) others)

some_parts : {A : Type 0} (o : Outcome A) (r : Outcome (List A)) → and_then o (λ z. and_then r (λ zs. Ok (z ∷ zs))) ≡ Ok [] → ⊥
some_parts (Err status) r e = cc
some_parts (Ok z) (Err status) e = cc
some_parts (Ok z) (Ok zs) e = cc

-- what each of some elements becomes
pub each_made : {A B C : Type 0} (f : A → Outcome C) (g : B → C) (xs : List A) (ys : List B) → each f xs ≡ Ok (map g ys)
    → AllZip (λ x y. f x ≡ Ok (g y)) xs ys
each_made f g [] [] e = tt
each_made f g [] (y ∷ ys) e = cc
each_made f g (x ∷ xs) [] e = absurd (some_parts (f x) (each f xs) e)
each_made f g (x ∷ xs) (y ∷ ys) e = let parts = parts_of (f x) (each f xs) (g y) (map g ys) e in (parts.0, each_made f g xs ys parts.1)

-- where each comes from one
one_from : {B C : Type 0} (h : B → C) (o : Outcome B) (r : Outcome (List B))
    → and_then (and_then o (λ y. Ok (h y))) (λ z. and_then (and_then r (λ ys. Ok (map h ys))) (λ zs. Ok (z ∷ zs)))
    ≡ and_then (and_then o (λ y. and_then r (λ ys. Ok (y ∷ ys)))) (λ ys. Ok (map h ys))
one_from h (Err status) r = refl
one_from h (Ok y) (Err status) = refl
one_from h (Ok y) (Ok ys) = refl

each_from : {A B C : Type 0} (f : A → Outcome C) (g : A → Outcome B) (h : B → C)
    → ((x : A) → f x ≡ and_then (g x) (λ y. Ok (h y)))
    → (xs : List A) → each f xs ≡ and_then (each g xs) (λ ys. Ok (map h ys))
each_from f g h e [] = refl
each_from f g h e (x ∷ xs) =
    (λ i. and_then (e x i) (λ z. and_then (each_from f g h e xs i) (λ zs. Ok (z ∷ zs)))) ∙ one_from h (g x) (each g xs)

-- ---- the statement

-- No set function stands in VALUES, and `*` in no grouped query, which the rules of well-formed statements say.
abbrev pub IsSourceRight : Name → InsertSource → Type 0
IsSourceRight user (source.Values values) = AllByRecursion HasNoFunction (listed values)
IsSourceRight user (source.Query q) = SelectStars (select_of user q)

module _ (m : by_name.Setting) (queries : List BoundSpecification) (known : KnownTables) (shown : Shown)
    (parameters : List ParameterDesc) (names : AreNamed parameters m.inputs)
    (t : BaseTable) (b : BoundTable) (table : IsTableAs t b) (columns : List ObjectColumn)
    (are_columns : AllByRecursion (IsColumnOf b) columns) where
  abbrev pairs : Row → List (ℕ × Value)
  pairs row = zip (positions columns) row

  -- the values of VALUES
  abbrev IsBoundTo : NewValue → BoundExpr → Type 0
  IsBoundTo v e = HasNoFunction v × NewValueIs (read_in m known shown parameters) [] v e

  both_of : (vs : List NewValue) (es : List BoundExpr) → AllByRecursion HasNoFunction vs
      → AllZip (NewValueIs (read_in m known shown parameters) []) vs es → AllZip IsBoundTo vs es
  both_of [] [] p r = tt
  both_of [] (e ∷ es) p r = absurd r
  both_of (v ∷ vs) [] p r = absurd r
  both_of (v ∷ vs) (e ∷ es) p r = ((p.0, r.0), both_of vs es p.1 r.1)

  value_same : (c : ObjectColumn) (v : NewValue) (e : BoundExpr) → IsColumnOf b c → IsBoundTo v e
      → stored_value m (outer_env m) (domain_at t c.position) v ≡ value_given shown (seen_in m queries) (c, e)
  value_same c v e of h =
      ap (λ d. stored_value m (outer_env m) d v) (domain_same t b table c of)
      ∙ inserted_value_same m queries known shown parameters names c.domain v e [] h.0 h.1

  one_row : (o : Outcome Row)
      → and_then (and_then o (λ row. Ok (pairs row))) (λ row. Ok (row ∷ []))
      ≡ and_then (and_then o (λ row. Ok (row ∷ []))) (λ found. Ok (map pairs found))
  one_row (Err status) = refl
  one_row (Ok row) = refl

  -- the rows of a query
  row_same : (row : Row) → stored_row t (positions columns) row ≡ and_then (row_stored columns row) (λ r. Ok (pairs r))
  row_same row =
      pairs_same (λ n. assigned (domain_at t n.0) n.1) stored_in (λ v w. v ≡ w) (IsColumnOf b)
      (λ c v w of e. (λ i. assigned (domain_same t b table c of i) (e i))) columns row row are_columns
      (all_self (λ v w. v ≡ w) (λ v. refl) row)

  some_rows : (o : Outcome (List Row))
      → and_then o (each (stored_row t (positions columns)))
      ≡ and_then (and_then o (each (row_stored columns))) (λ found. Ok (map pairs found))
  some_rows (Err status) = refl
  some_rows (Ok found) = each_from (stored_row t (positions columns)) (row_stored columns) pairs row_same found

  -- the values that are given, row by row
  pub given_same : IsFit (read_in m known shown parameters) → (from : InsertSource) (x : InsertedRows) → IsSourceRight m.user from
      → IsSourceOf (around (read_in m known shown parameters) []) m.user from x
      → given_rows m t (positions columns) from
      ≡ and_then (rows_given shown (seen_in m queries) columns x) (λ found. Ok (map pairs found))
  given_same fit (source.Values values) (inserted.Values es) right is =
      let each_is : AllZip (NewValueIs (read_in m known shown parameters) []) (listed values) es
      = each_made (value_placed (around (read_in m known shown parameters) [])) (expr_of []) (listed values) es (is []) in
      ap (λ (o : Outcome (List (ℕ × Value))). and_then o (λ row. Ok (row ∷ [])))
      (pairs_same (λ n. stored_value m (outer_env m) (domain_at t n.0) n.1) (value_given shown (seen_in m queries)) IsBoundTo (IsColumnOf b) value_same columns (listed values) es are_columns (both_of (listed values) es right each_is))
      ∙ one_row (values_given shown (seen_in m queries) columns es)
  given_same fit (source.Query q) (inserted.Query x) right is =
      sym (then_then (rows (reading_in m) (select_of m.user q) (outer_env m)) if_some (each (stored_row t (positions columns))))
      ∙ ap (λ (o : Outcome (List Row)). and_then (and_then o if_some) (each (stored_row t (positions columns))))
      (bound_rows (read_in m known shown parameters) fit [] (select_of m.user q) right x is (outer_env m) (outer_places m) (call_seen m parameters names))
      ∙ some_rows (and_then (rows (by_place shown) (bound.select_of x) (outer_places m)) if_some)
  given_same fit (source.Values values) (inserted.Query x) right is = absurd is
  given_same fit (source.Query q) (inserted.Values es) right is = absurd is

  -- The new rows are the same, each with its defaults.
  pub rows_made_same : IsFit (read_in m known shown parameters) → (from : InsertSource) (x : InsertedRows)
      → IsSourceRight m.user from
      → IsSourceOf (around (read_in m known shown parameters) []) m.user from x
      → and_then (given_rows m t (positions columns) from) (each (new_row m t)) ≡ rows_made shown (seen_in m queries) b columns x
  rows_made_same fit from x right is =
      ap (λ (o : Outcome (List (List (ℕ × Value)))). and_then o (each (new_row m t))) (given_same fit from x right is)
      ∙ then_then (rows_given shown (seen_in m queries) columns x) (λ found. Ok (map pairs found)) (each (new_row m t))
      ∙ (λ i. and_then (rows_given shown (seen_in m queries) columns x) (λ found. (each_map pairs (new_row m t) found ∙ (λ j. each (λ row. new_row_same m t b table columns row j) found)) i))

-- What binding promises of INSERT, and what the rules of statements say of it.
pub record IsInsertIn (m : by_name.Setting) (known : KnownTables) (shown : Shown) (bases : List BoundTable)
    (parameters : List ParameterDesc) (i : Insert) (x : BoundInsert) : Type 0 where
  pub table : IsTableIn m known shown bases (table_of m.user i.table) x.leaf
  pub into : AreInto table.table.columns i.columns x.columns
  pub are_columns : AllByRecursion (IsColumnOf x.leaf.table) x.columns
  pub right : IsSourceRight m.user i.source
  pub source_is : IsSourceOf (around (read_in m known shown parameters) []) m.user i.source x.source

-- the rows go on to check options and constraints, if there are numbers for them
numbered_rows : (m : by_name.Setting) (place : ℕ) (o : Outcome (List Row)) (f : List Row → Outcome Content)
    → and_then o (λ found. and_then (demanded (has_numbers m place found) NoRowNumberLeft) (λ _. f found))
    ≡ and_then
    (and_then o (λ found. and_then (demanded (nat_le ((table_at m.content place).next + length found) (m.row_numbers + 1)) NoRowNumberLeft) (λ _. Ok found))) f
numbered_rows m place (Err status) f = refl
numbered_rows m place (Ok found) f = by_numbers (demanded (has_numbers m place found) NoRowNumberLeft)
  where
    by_numbers : (o : Outcome (Unit {0})) → and_then o (λ _. f found) ≡ and_then (and_then o (λ _. Ok found)) f
    by_numbers (Err status) = refl
    by_numbers (Ok done) = refl

-- INSERT comes by its names to what its rows by place come to, where check options and constraints let them.
pub insert_same : (m : by_name.Setting) (queries : List BoundSpecification) (known : KnownTables) (shown : Shown)
    (bases : List BoundTable) (parameters : List ParameterDesc)
    → AreNamed parameters m.inputs
    → IsFit (read_in m known shown parameters)
    → (i : Insert) (x : BoundInsert) (h : IsInsertIn m known shown bases parameters i x)
    → by_name.insert_outcome m i
    ≡ and_then (rows_inserted shown (seen_in m queries) m.row_numbers x)
    (λ found. by_name.completed m h.table.target h.table.base found (with_rows (table_at m.content x.leaf.table.place) found))
insert_same m queries known shown bases parameters names fit i x h =
    ap (λ (o : Outcome TableDescriptor). and_then o (λ d. and_then (target_of (tables_in m) (table_of m.user i.table)) (λ target. and_then (base_at m target.place) (λ t. from_table d target t)))) table.is_there
    ∙ ap (λ (o : Outcome Target). and_then o (λ target. and_then (base_at m target.place) (λ t. from_table table.descriptor target t))) table.means
    ∙ ap (λ (o : Outcome BaseTable). and_then o (λ t. from_table table.descriptor table.target t)) table.is_base
    ∙ ap (λ places. and_then (given_rows m table.base places i.source) rows_on)
    (insert_places_same m known shown bases (table_of m.user i.table) x.leaf table i.columns x.columns h.into)
    ∙ sym (then_then (given_rows m table.base (positions x.columns) i.source) (each (new_row m table.base)) checked)
    ∙ ap (λ o. and_then o checked)
    (rows_made_same m queries known shown parameters names table.base x.leaf.table table.base_is x.columns h.are_columns fit i.source x.source h.right h.source_is)
    ∙ numbered_rows m table.target.place (rows_made shown (seen_in m queries) x.leaf.table x.columns x.source)
    (completed_at table.target.place)
    ∙ ap (λ place. and_then (and_then (rows_made shown (seen_in m queries) x.leaf.table x.columns x.source)
    (λ found. and_then (demanded (nat_le ((table_at m.content place).next + length found) (m.row_numbers + 1)) NoRowNumberLeft) (λ _. Ok found))) (completed_at place)) table.under.place
  where
    table : IsTableIn m known shown bases (table_of m.user i.table) x.leaf
    table = h.table

    -- the rows in the table
    completed_at : ℕ → List Row → Outcome Content
    completed_at place found = by_name.completed m table.target table.base found (with_rows (table_at m.content place) found)

    checked : List Row → Outcome Content
    checked found =
        and_then (demanded (has_numbers m table.target.place found) NoRowNumberLeft) (λ _. completed_at table.target.place found)

    rows_on : List (List (ℕ × Value)) → Outcome Content
    rows_on given = and_then (each (new_row m table.base) given) checked

    from_table : TableDescriptor → Target → BaseTable → Outcome Content
    from_table d target t =
        and_then (given_rows m t (insert_places d target i.columns) i.source)
        (λ given. and_then (each (new_row m t) given) (λ found.
        and_then (demanded (has_numbers m target.place found) NoRowNumberLeft)
        (λ _. by_name.completed m target t found (with_rows (table_at m.content target.place) found))))
