-- A well-formed tree stays so if more tables exist, and more parameters.
use Rattle.std.proofs.Common.{◌≡◌, ℕ, Bool, List, [], ◌∷◌, Option, Some, None, refl, ap, sym, subst, Ok, Err}
use Rattle.std.specs.Prelude.{⊤, IsTrue, true, false, nat_lt, if◌then◌else◌, slice_get}
use Rattle.std.specs.List.{AllByRecursion, flat_map}
use Rattle.std.proofs.lemmas.Option.{IfSome_then}
use Rattle.sq_value.specs.declared.domain.Kind.{Kind}
use Rattle.sq_meaning.specs.Status.{Outcome, and_then, each, well_formed, not_well_formed}
use Rattle.sq_meaning.specs.Syntax.{Expr, literal, parameter, user, column, count_rows, set_function, signed, added, scaled, bracketed, SelectList, all_columns, expressions, Cond, Conds, Clause, Select, compare, compare_subquery, compare_quantified, between, in_subquery, in_list, like, is_null, exists, negated, conjunction, disjunction, no_cond, a_cond, absent, present, select}
use Rattle.sq_meaning.specs.Environment.{Row, Place}
use Rattle.sq_meaning.specs.Kind.{Kinds, kind, signed_kind, sum_kind, product_kind, function_kind, list_kinds, select_kinds}
use Rattle.sq_meaning.specs.Placed.{Placed, PlacedParameter, by_place}
use Rattle.sq_meaning.specs.Query.{is_grouped}
use Rattle.sq_meaning.specs.WellFormed.{Has, HasValue, froms, of_lines, inside_function, shown_level, is_comparable, is_text, IsOnlyKind, kind_there, MayStand, WellFormedExpr, WellFormedColumn, WellFormedPair, WellFormedText, WellFormedEscape, IsBeside, WellFormedTable, WellFormedList, WellFormedCond, WellFormedConds, WellFormedClause, WellFormedSelect, kinds_by_place, IsThere, IsDeclaredAt}
use Rattle.sq_meaning.proofs.AnswerLaws.{all_weaker}
use Rattle.sq_bound.specs.Condition.{select_of}
use Rattle.sq_bound.specs.WellFormed.{TableKinds, before_view, Extends, Levels, IsExpr, IsCond, IsSelect, IsCondOn, IsLeaf, IsBody, IsTable, kinds_of_select, base_kinds, kinds_of_columns, of_base, place_of}
use Rattle.sq_bound.specs.declared.condition.BoundCond.{BoundCond}
use Rattle.sq_bound.specs.declared.condition.BoundSpecification.{BoundSpecification}
use Rattle.sq_bound.specs.declared.condition.TablePlace.{TablePlace}
use Rattle.sq_bound.specs.declared.condition.TablePlace.TheVariants.{Base, View}
use Rattle.sq_bound.specs.declared.expression.BoundExpr.{BoundExpr}
use Rattle.sq_bound.specs.declared.expression.SetFunctionCall.{SetFunctionCall}
use Rattle.sq_bound.specs.declared.names.BaseTable.{BaseTable}
use Rattle.sq_bound.specs.declared.names.Leaf.{Leaf}
use Rattle.sq_bound.specs.declared.names.TableBody.{TableBody}
use Rattle.sq_bound.specs.declared.names.TableBody.TheVariants as body
use Rattle.sq_bound.specs.declared.names.TableDesc.{TableDesc}

-- ---- outcomes

-- a value that is there is the other's, too
abbrev pub Keeps : {A : Type 0} → Outcome A → Outcome A → Type 0
Keeps (Ok x) s = s ≡ Ok x
Keeps (Err status) s = ⊤

pub kept_value : {A : Type 0} (r s : Outcome A) (x : A) → Keeps r s → r ≡ Ok x → s ≡ Ok x
kept_value r s x h e = subst (λ o. Keeps o s) e h

pub keeps_values : {A : Type 0} (r s : Outcome A) → ((x : A) → r ≡ Ok x → s ≡ Ok x) → Keeps r s
keeps_values (Ok x) s h = h x refl
keeps_values (Err status) s h = tt

pub keeps_itself : {A : Type 0} (r : Outcome A) → Keeps r r
keeps_itself (Ok x) = refl
keeps_itself (Err status) = tt

pub there_keeps : {A : Type 0} (o u : Option A) → ((x : A) → o ≡ Some x → u ≡ Some x) → Keeps (well_formed o) (well_formed u)
there_keeps (Some x) u h = ap well_formed (h x refl)
there_keeps None u h = tt

then_keeps : {A B : Type 0} (r s : Outcome A) (f g : A → Outcome B) → Keeps r s → ((x : A) → Keeps (f x) (g x)) → Keeps (and_then r f) (and_then s g)
then_keeps (Ok x) s f g h t = subst (λ o. Keeps (f x) (and_then o g)) (sym h) (t x)
then_keeps (Err status) s f g h t = tt

each_keeps : {A B : Type 0} (f g : A → Outcome B) → ((x : A) → Keeps (f x) (g x)) → (xs : List A) → Keeps (each f xs) (each g xs)
each_keeps f g t [] = refl
each_keeps f g t (x ∷ xs) =
    then_keeps (f x) (g x) (λ y. and_then (each f xs) (λ ys. Ok (y ∷ ys))) (λ y. and_then (each g xs) (λ ys. Ok (y ∷ ys))) (t x)
    (λ y. then_keeps (each f xs) (each g xs) (λ ys. Ok (y ∷ ys)) (λ ys. Ok (y ∷ ys)) (each_keeps f g t xs) (λ ys. refl))

has_kept : {A : Type 0} (P Q : A → Type 0) (r s : Outcome A) → Keeps r s → ((x : A) → P x → Q x) → Has P r → Has Q s
has_kept P Q (Ok x) s h t p = subst (Has Q) (sym h) (t x p)
has_kept P Q (Err status) s h t p = absurd p

value_kept : {A : Type 0} (r s : Outcome A) → Keeps r s → HasValue r → HasValue s
value_kept r s h v = has_kept (λ x. ⊤) (λ x. ⊤) r s h (λ x p. p) v

-- ---- trees by place

-- each parameter is still there, of its kind
abbrev pub HasMore : List Kind → List Kind → Type 0
HasMore ps qs = (n : ℕ) (k : Kind) → slice_get ps n ≡ Some k → slice_get qs n ≡ Some k

module _ (before after : TableKinds) (ps qs : List Kind) (extends : Extends before after) (more : HasMore ps qs) where
  abbrev few : Kinds (Placed TablePlace)
  few = kinds_by_place before ps

  abbrev many : Kinds (Placed TablePlace)
  many = kinds_by_place after qs

  columns_keep : (t : TablePlace) → Keeps (before t) (after t)
  columns_keep t = keeps_values (before t) (after t) (extends t)

  parameters_keep : (n : ℕ) → Keeps (well_formed (slice_get ps n)) (well_formed (slice_get qs n))
  parameters_keep n = there_keeps (slice_get ps n) (slice_get qs n) (more n)

  table_keeps : (p : Place) (t : TablePlace) → Keeps (and_then (before t) (λ kinds. well_formed (slice_get kinds p.column))) (and_then (after t) (λ kinds. well_formed (slice_get kinds p.column)))
  table_keeps p t =
      then_keeps (before t) (after t) (λ kinds. well_formed (slice_get kinds p.column)) (λ kinds. well_formed (slice_get kinds p.column)) (columns_keep t)
      (λ kinds. keeps_itself (well_formed (slice_get kinds p.column)))

  abbrev in_from : TableKinds → Place → List TablePlace → Outcome Kind
  in_from columns p from = and_then (well_formed (slice_get from p.item)) (λ t. and_then (columns t) (λ kinds. well_formed (slice_get kinds p.column)))

  column_keeps : (scopes : List (List TablePlace)) (p : Place) → Keeps (kind_there before scopes p) (kind_there after scopes p)
  column_keeps scopes p =
      then_keeps (well_formed (slice_get scopes p.depth)) (well_formed (slice_get scopes p.depth)) (in_from before p) (in_from after p) (keeps_itself (well_formed (slice_get scopes p.depth)))
      (λ from. then_keeps (well_formed (slice_get from p.item)) (well_formed (slice_get from p.item)) (λ t. and_then (before t) (λ kinds. well_formed (slice_get kinds p.column)))
      (λ t. and_then (after t) (λ kinds. well_formed (slice_get kinds p.column))) (keeps_itself (well_formed (slice_get from p.item))) (table_keeps p))

  -- an expression has its kind
  pub kind_keeps : (scopes : List (List TablePlace)) (e : Expr (Placed TablePlace)) → Keeps (kind few scopes e) (kind many scopes e)
  kind_keeps scopes (literal v) = keeps_itself (kind few scopes (literal v))
  kind_keeps scopes (parameter p) = parameters_keep p.position
  kind_keeps scopes user = refl
  kind_keeps scopes (column p) = column_keeps scopes p
  kind_keeps scopes count_rows = refl
  kind_keeps scopes (set_function function distinct e) =
      then_keeps (kind few scopes e) (kind many scopes e) (function_kind function) (function_kind function) (kind_keeps scopes e) (λ k. keeps_itself (function_kind function k))
  kind_keeps scopes (signed sign e) = then_keeps (kind few scopes e) (kind many scopes e) signed_kind signed_kind (kind_keeps scopes e) (λ k. keeps_itself (signed_kind k))
  kind_keeps scopes (added sign a b) =
      then_keeps (kind few scopes a) (kind many scopes a) (λ x. and_then (kind few scopes b) (sum_kind x)) (λ x. and_then (kind many scopes b) (sum_kind x)) (kind_keeps scopes a)
      (λ x. then_keeps (kind few scopes b) (kind many scopes b) (sum_kind x) (sum_kind x) (kind_keeps scopes b) (λ y. keeps_itself (sum_kind x y)))
  kind_keeps scopes (scaled sign a b) =
      then_keeps (kind few scopes a) (kind many scopes a) (λ x. and_then (kind few scopes b) (product_kind sign x)) (λ x. and_then (kind many scopes b) (product_kind sign x)) (kind_keeps scopes a)
      (λ x. then_keeps (kind few scopes b) (kind many scopes b) (product_kind sign x) (product_kind sign x) (kind_keeps scopes b) (λ y. keeps_itself (product_kind sign x y)))
  kind_keeps scopes (bracketed e) = kind_keeps scopes e

  list_keeps : (outer : List (List TablePlace)) (from : List TablePlace) (list : SelectList (Placed TablePlace)) → Keeps (list_kinds few outer from list) (list_kinds many outer from list)
  list_keeps outer from all_columns =
      then_keeps (each before from) (each after from) (λ tables. Ok (flat_map (λ kinds. kinds) tables)) (λ tables. Ok (flat_map (λ kinds. kinds) tables)) (each_keeps before after columns_keep from) (λ tables. refl)
  list_keeps outer from (expressions es) = each_keeps (kind few (from ∷ outer)) (kind many (from ∷ outer)) (kind_keeps (from ∷ outer)) es

  pub select_keeps : (outer : List (List TablePlace)) (q : Select (Placed TablePlace)) → Keeps (select_kinds few outer q) (select_kinds many outer q)
  select_keeps outer (select distinct list from filter by having) = list_keeps outer from list

  indicator_wider : (i : Option ℕ) → IsThere ps i → IsThere qs i
  indicator_wider None h = tt
  indicator_wider (Some n) h = value_kept (well_formed (slice_get ps n)) (well_formed (slice_get qs n)) (parameters_keep n) h

  declared_wider : (p : PlacedParameter) → IsDeclaredAt ps p → IsDeclaredAt qs p
  declared_wider p h = (value_kept (well_formed (slice_get ps p.position)) (well_formed (slice_get qs p.position)) (parameters_keep p.position) h.0, indicator_wider p.indicator h.1)

  module _ (rows_of : TablePlace → Outcome (List Row)) where
    -- an expression may stand where it stood
    pub stands_wider : (levels : Levels) (e : Expr (Placed TablePlace)) → MayStand (by_place rows_of) few (IsDeclaredAt ps) levels e → MayStand (by_place rows_of) many (IsDeclaredAt qs) levels e
    stands_wider levels (literal v) h = tt
    stands_wider levels (parameter p) h = declared_wider p h
    stands_wider levels user h = tt
    stands_wider levels (column p) h = h
    stands_wider levels count_rows h = h
    stands_wider levels (set_function function distinct e) h = (h.0, stands_wider (inside_function levels) e h.1)
    stands_wider levels (signed sign e) h = stands_wider levels e h
    stands_wider levels (added sign a b) h = (stands_wider levels a h.0, stands_wider levels b h.1)
    stands_wider levels (scaled sign a b) h = (stands_wider levels a h.0, stands_wider levels b h.1)
    stands_wider levels (bracketed e) h = stands_wider levels e h

    abbrev Was : Levels → Expr (Placed TablePlace) → Type 0
    Was = WellFormedExpr (by_place rows_of) few (IsDeclaredAt ps)

    abbrev Is : Levels → Expr (Placed TablePlace) → Type 0
    Is = WellFormedExpr (by_place rows_of) many (IsDeclaredAt qs)

    expr_wider : (levels : Levels) (e : Expr (Placed TablePlace)) → Was levels e → Is levels e
    expr_wider levels e h = (value_kept (kind few (froms levels) e) (kind many (froms levels) e) (kind_keeps (froms levels) e) h.0, stands_wider levels e h.1)

    pair_wider : (levels : Levels) (a b : Expr (Placed TablePlace)) → WellFormedPair (by_place rows_of) few (IsDeclaredAt ps) levels a b → WellFormedPair (by_place rows_of) many (IsDeclaredAt qs) levels a b
    pair_wider levels a b h = (
      expr_wider levels a h.0,
      expr_wider levels b h.1,
      has_kept (λ x. Has (λ y. IsTrue (is_comparable x y)) (kind few (froms levels) b)) (λ x. Has (λ y. IsTrue (is_comparable x y)) (kind many (froms levels) b))
          (kind few (froms levels) a) (kind many (froms levels) a) (kind_keeps (froms levels) a)
          (λ x p. has_kept (λ y. IsTrue (is_comparable x y)) (λ y. IsTrue (is_comparable x y)) (kind few (froms levels) b) (kind many (froms levels) b) (kind_keeps (froms levels) b) (λ y c. c) p) h.2,
    )

    text_wider : (levels : Levels) (e : Expr (Placed TablePlace)) → WellFormedText (by_place rows_of) few (IsDeclaredAt ps) levels e → WellFormedText (by_place rows_of) many (IsDeclaredAt qs) levels e
    text_wider levels e h =
        (expr_wider levels e h.0, has_kept (λ x. IsTrue (is_text x)) (λ x. IsTrue (is_text x)) (kind few (froms levels) e) (kind many (froms levels) e) (kind_keeps (froms levels) e) (λ x p. p) h.1)

    escape_wider : (levels : Levels) (e : Option (Expr (Placed TablePlace))) → WellFormedEscape (by_place rows_of) few (IsDeclaredAt ps) levels e → WellFormedEscape (by_place rows_of) many (IsDeclaredAt qs) levels e
    escape_wider levels None h = tt
    escape_wider levels (Some e) h = text_wider levels e h

    beside_wider : (levels : Levels) (a : Expr (Placed TablePlace)) (q : Select (Placed TablePlace)) → IsBeside (by_place rows_of) few (IsDeclaredAt ps) levels a q → IsBeside (by_place rows_of) many (IsDeclaredAt qs) levels a q
    beside_wider levels a q h =
        has_kept (λ x. Has (IsOnlyKind x) (select_kinds few (froms levels) q)) (λ x. Has (IsOnlyKind x) (select_kinds many (froms levels) q))
        (kind few (froms levels) a) (kind many (froms levels) a) (kind_keeps (froms levels) a)
        (λ x p. has_kept (IsOnlyKind x) (IsOnlyKind x) (select_kinds few (froms levels) q) (select_kinds many (froms levels) q) (select_keeps (froms levels) q) (λ ks c. c) p) h

    table_wider : (t : TablePlace) → WellFormedTable (by_place rows_of) few (IsDeclaredAt ps) t → WellFormedTable (by_place rows_of) many (IsDeclaredAt qs) t
    table_wider t h = (value_kept (before t) (after t) (columns_keep t) h.0, h.1)

    list_wider : (levels : Levels) (grouped : Bool) (list : SelectList (Placed TablePlace)) → WellFormedList (by_place rows_of) few (IsDeclaredAt ps) levels grouped list → WellFormedList (by_place rows_of) many (IsDeclaredAt qs) levels grouped list
    list_wider levels grouped all_columns h = h
    list_wider levels grouped (expressions es) h = all_weaker (Was levels) (Is levels) (expr_wider levels) es h

    mutual
      -- a well-formed condition
      pub cond_wider : (c : Cond (Placed TablePlace)) (levels : Levels) → WellFormedCond (by_place rows_of) few (IsDeclaredAt ps) levels c → WellFormedCond (by_place rows_of) many (IsDeclaredAt qs) levels c
      cond_wider (compare op a b) levels w = pair_wider levels a b w
      cond_wider (compare_subquery op a q) levels w = (expr_wider levels a w.0, beside_wider levels a q w.1, select_wider q levels w.2)
      cond_wider (compare_quantified op every a q) levels w = (expr_wider levels a w.0, beside_wider levels a q w.1, select_wider q levels w.2)
      cond_wider (between a low high) levels w = (pair_wider levels a low w.0, pair_wider levels a high w.1)
      cond_wider (in_subquery a q) levels w = (expr_wider levels a w.0, beside_wider levels a q w.1, select_wider q levels w.2)
      cond_wider (in_list a es) levels w =
          (expr_wider levels a w.0, all_weaker (WellFormedPair (by_place rows_of) few (IsDeclaredAt ps) levels a) (WellFormedPair (by_place rows_of) many (IsDeclaredAt qs) levels a) (pair_wider levels a) es w.1)
      cond_wider (like text pattern escape) levels w = (text_wider levels text w.0, text_wider levels pattern w.1, escape_wider levels escape w.2)
      cond_wider (is_null a) levels w = expr_wider levels a w
      cond_wider (exists q) levels w = select_wider q levels w
      cond_wider (negated c) levels w = cond_wider c levels w
      cond_wider (conjunction cs) levels w = conds_wider cs levels w
      cond_wider (disjunction cs) levels w = conds_wider cs levels w

      conds_wider : (cs : Conds (Placed TablePlace)) (levels : Levels) → WellFormedConds (by_place rows_of) few (IsDeclaredAt ps) levels cs → WellFormedConds (by_place rows_of) many (IsDeclaredAt qs) levels cs
      conds_wider no_cond levels w = tt
      conds_wider (a_cond c cs) levels w = (cond_wider c levels w.0, conds_wider cs levels w.1)

      clause_wider : (c : Clause (Placed TablePlace)) (levels : Levels) → WellFormedClause (by_place rows_of) few (IsDeclaredAt ps) levels c → WellFormedClause (by_place rows_of) many (IsDeclaredAt qs) levels c
      clause_wider absent levels w = tt
      clause_wider (present c) levels w = cond_wider c levels w

      -- a well-formed query specification
      pub select_wider : (q : Select (Placed TablePlace)) (levels : Levels) → WellFormedSelect (by_place rows_of) few (IsDeclaredAt ps) levels q → WellFormedSelect (by_place rows_of) many (IsDeclaredAt qs) levels q
      select_wider (select distinct list from filter by having) levels w = (
        all_weaker (WellFormedTable (by_place rows_of) few (IsDeclaredAt ps)) (WellFormedTable (by_place rows_of) many (IsDeclaredAt qs)) table_wider from w.0,
        list_wider (shown_level list from by having ∷ levels) (is_grouped list by having) list w.1,
        clause_wider filter (of_lines from ∷ levels) w.2,
        all_weaker (WellFormedColumn (by_place rows_of) few (IsDeclaredAt ps) (of_lines from ∷ levels)) (WellFormedColumn (by_place rows_of) many (IsDeclaredAt qs) (of_lines from ∷ levels))
            (λ p h. expr_wider (of_lines from ∷ levels) (column p) h) by w.3,
        clause_wider having (shown_level list from by having ∷ levels) w.4,
      )

  -- ---- bound trees

  pub is_expr_wider : (levels : Levels) (calls : List SetFunctionCall) (k : Kind) (e : BoundExpr) → IsExpr before ps levels calls k e → IsExpr after qs levels calls k e
  is_expr_wider levels calls k e h = record {
    tree = h.tree;
    is_tree = h.is_tree;
    kind_is = kept_value (kind few (froms levels) h.tree) (kind many (froms levels) h.tree) k (kind_keeps (froms levels) h.tree) h.kind_is;
    stands = λ rows_of. stands_wider rows_of levels h.tree (h.stands rows_of);
  }

  pub is_cond_wider : (levels : Levels) (calls : List SetFunctionCall) (c : BoundCond) → IsCond before ps levels calls c → IsCond after qs levels calls c
  is_cond_wider levels calls c h = record {
    tree = h.tree;
    is_tree = h.is_tree;
    stands = λ rows_of. cond_wider rows_of h.tree levels (h.stands rows_of);
    notes = h.notes;
    numbers = h.numbers;
  }

  pub is_select_wider : (levels : Levels) (q : BoundSpecification) → IsSelect before ps levels q → IsSelect after qs levels q
  is_select_wider levels q h = record {
    stands = λ rows_of. select_wider rows_of (select_of q) levels (h.stands rows_of);
    kinds_are = kept_value (select_kinds few (froms levels) (select_of q)) (select_kinds many (froms levels) (select_of q)) (kinds_of_select q) (select_keeps (froms levels) (select_of q)) h.kinds_are;
    notes = h.notes;
    numbers = h.numbers;
  }

-- ---- tables, which have no parameters

module _ (before after : TableKinds) (extends : Extends before after) where
  pub conditions_wider : (b : BaseTable) (cs : List BoundCond) → AllByRecursion (IsCondOn before b) cs → AllByRecursion (IsCondOn after b) cs
  conditions_wider b cs h = all_weaker (IsCondOn before b) (IsCondOn after b) (λ c w. is_cond_wider before after [] [] extends (λ n k e. e) (of_base b) [] c w) cs h

  pub is_leaf_wider : (l : Leaf) → IsLeaf before l → IsLeaf after l
  is_leaf_wider l h = record {
    kinds_are = extends (Base l.table.place) (base_kinds l.table) h.kinds_are;
    conditions = conditions_wider l.table l.conditions h.conditions;
    checks = conditions_wider l.table l.table.checks h.checks;
  }

  if_wider : (b : Bool) (x y : Outcome (List Kind)) (kinds : List Kind) → ((k : List Kind) → x ≡ Ok k → y ≡ Ok k)
      → (if b then x else not_well_formed) ≡ Ok kinds → (if b then y else not_well_formed) ≡ Ok kinds
  if_wider true x y kinds h e = h kinds e
  if_wider false x y kinds h e = absurd cc

  -- the views before one, too
  pub before_wider : (n : ℕ) → Extends (before_view n before) (before_view n after)
  before_wider n (Base p) kinds e = extends (Base p) kinds e
  before_wider n (View p) kinds e = if_wider (nat_lt p n) (before (View p)) (after (View p)) kinds (extends (View p)) e

  pub is_body_wider : (kinds : List Kind) (b : TableBody) → IsBody before kinds b → IsBody after kinds b
  is_body_wider kinds (body.Base b) h = tt
  is_body_wider kinds (body.View v) h =
      (is_select_wider (before_view v.place before) (before_view v.place after) [] [] (before_wider v.place) (λ n k e. e) [] v.query h.0, h.1)

  pub is_table_wider : (t : TableDesc) → IsTable before t → IsTable after t
  is_table_wider t h = record {
    kinds_are = extends (place_of t.body) (kinds_of_columns t.columns) h.kinds_are;
    leaf = IfSome_then t.leaf {P = IsLeaf before} {Q = IsLeaf after} h.leaf is_leaf_wider;
    body = is_body_wider (kinds_of_columns t.columns) t.body h.body;
    plain = h.plain;
  }

-- ---- what is known before a view is known afterwards
