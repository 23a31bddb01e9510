-- A text with its names placed stays the same if more tables are known.
use Rattle.std.proofs.Common.{◌≡◌, false, List, [], ◌∷◌, map, Option, Some, None, Ok, ap, refl, ◌∙◌}
use Rattle.std.specs.Option.{option_map}
use Rattle.sq_lex.specs.declared.name.Name.{Name}
use Rattle.sq_meaning.specs.Environment.{Place, TableReference}
use Rattle.sq_meaning.specs.Placed.{Placed}
use Rattle.sq_meaning.specs.Spelled.{Named}
use Rattle.sq_meaning.specs.Status.{Outcome, and_then, each, well_formed}
use Rattle.sq_meaning.specs.Syntax.{Cond, Conds, Clause, Select, SelectList, all_columns, expressions, compare, compare_subquery, compare_quantified, between, in_subquery, in_list, like, is_null, exists, negated, conjunction, disjunction, no_cond, a_cond, absent, present, select}
use Rattle.sq_bound.specs.Condition.{PlacedClause, PlacedCond, PlacedSelect, clause_of, compared_with}
use Rattle.sq_bound.specs.Expression.{PlacedExpr}
use Rattle.sq_bound.specs.Known.{KnownTable, KnownTables, StillKnown}
use Rattle.sq_bound.specs.SetFunction.{call_of}
use Rattle.sq_bound.specs.declared.condition.Compared.TheVariants.{Scalar}
use Rattle.sq_bound.specs.declared.condition.TablePlace.{TablePlace}
use Rattle.sq_bound.specs.declared.names.ParameterDesc.{ParameterDesc}
use Rattle.sq_bound.specs.declared.query.UpdatableQuery.{UpdatableQuery}
use Rattle.sq_binding.specs.ColumnNames.{list_names, names_placed}
use Rattle.sq_binding.specs.Condition.{compared_as}
use Rattle.sq_binding.specs.From as from_spec
use Rattle.sq_binding.specs.From.{NamedItem, items_of, tables_of}
use Rattle.sq_binding.specs.Placed.{placed_column}
use Rattle.sq_binding.specs.PlacedQuery.{clause_placed, cond_placed, conds_placed, expr_placed, item_placed, list_placed, select_placed}
use Rattle.sq_binding.specs.Scope.{FromItem}
use Rattle.sq_binding.specs.Select.{Surroundings, of_lines}
use Rattle.sq_binding.specs.Names as names_spec
use Rattle.sq_binding.specs.Names.{meant_by, named_table, outside}
use Rattle.sq_binding.specs.Written.{IsUpdatableOf, leaf_item}
use Rattle.sq_binding.proofs.WellFormed.PlainText.{goes_on}

after : {A B : Type 0} (o p : Outcome A) (f g : A → Outcome B) (y : B) → ((x : A) → o ≡ Ok x → p ≡ Ok x) → ((x : A) → f x ≡ Ok y → g x ≡ Ok y) → and_then o f ≡ Ok y → and_then p g ≡ Ok y
after o p f g y first next e =
    let step = goes_on o f y e in
    ap (λ o. and_then o g) (first step.0 step.1.0) ∙ next step.0 step.1.1

each_stays : {A B : Type 0} (f g : A → Outcome B) → ((x : A) (y : B) → f x ≡ Ok y → g x ≡ Ok y) → (xs : List A) (ys : List B) → each f xs ≡ Ok ys → each g xs ≡ Ok ys
each_stays f g keep [] ys e = e
each_stays f g keep (x ∷ xs) ys e =
    after (f x) (g x) (λ y. and_then (each f xs) (λ ys. Ok (y ∷ ys))) (λ y. and_then (each g xs) (λ ys. Ok (y ∷ ys))) ys (keep x)
    (λ y. after (each f xs) (each g xs) (λ ys. Ok (y ∷ ys)) (λ ys. Ok (y ∷ ys)) ys (each_stays f g keep xs) (λ _ h. h)) e

abbrev with : KnownTables → Surroundings → Surroundings
with k a = record a { names = names_spec.tables_of k }

module _ (less more : KnownTables) (keep : StillKnown less more) where
  item_stays : (r : TableReference) (i : NamedItem) → item_placed (names_spec.tables_of less) r ≡ Ok i → item_placed (names_spec.tables_of more) r ≡ Ok i
  item_stays r i e = found (meant_by less r.table) (keep r.table.user r.table.name) e
    where
      found : (o : Option KnownTable) → ((t : KnownTable) → o ≡ Some t → meant_by more r.table ≡ Some t) → well_formed (option_map (from_spec.item_over r) (option_map (named_table false false) o)) ≡ Ok i
          → item_placed (names_spec.tables_of more) r ≡ Ok i
      found (Some t) kept e = ap (λ o. well_formed (option_map (from_spec.item_over r) (option_map (named_table false false) o))) (kept t refl) ∙ e
      found None kept e = cc

  items_stay : (from : List TableReference) (items : List NamedItem) → each (item_placed (names_spec.tables_of less)) from ≡ Ok items → each (item_placed (names_spec.tables_of more)) from ≡ Ok items
  items_stay = each_stays (item_placed (names_spec.tables_of less)) (item_placed (names_spec.tables_of more)) item_stays

  -- the names of a query specification's columns
  pub names_stay : (s : Select Named) (names : List (Option Name)) → names_placed (names_spec.tables_of less) s ≡ Ok names → names_placed (names_spec.tables_of more) s ≡ Ok names
  names_stay (select distinct list from filter by having) names e =
      let all = λ (placed : List NamedItem). Ok (list_names (items_of placed) list) in
      after (each (item_placed (names_spec.tables_of less)) from) (each (item_placed (names_spec.tables_of more)) from) all all names (items_stay from) (λ _ h. h) e

  list_stays : (a : Surroundings) (items : List FromItem) (list : SelectList Named) (x : List PlacedExpr) → list_placed (with less a) items list ≡ Ok x → list_placed (with more a) items list ≡ Ok x
  list_stays a items all_columns x e = e
  list_stays a items (expressions es) x e = e

  mutual
    pub cond_stays : (a : Surroundings) (c : Cond Named) (x : PlacedCond) → cond_placed (with less a) c ≡ Ok x → cond_placed (with more a) c ≡ Ok x
    cond_stays a (compare op left right) x e = e
    cond_stays a (compare_subquery op left s) x e =
        let p = expr_placed (with less a) left in
        after p p (λ p. and_then (select_placed (with less a) s) (λ q. Ok (compared_with Scalar op p q))) (λ p. and_then (select_placed (with more a) s) (λ q. Ok (compared_with Scalar op p q))) x (λ _ h. h)
        (λ p. after (select_placed (with less a) s) (select_placed (with more a) s) (λ q. Ok (compared_with Scalar op p q)) (λ q. Ok (compared_with Scalar op p q)) x (select_stays a s) (λ _ h. h)) e
    cond_stays a (compare_quantified op k left s) x e =
        let p = expr_placed (with less a) left in
        let how = compared_as k in
        after p p (λ p. and_then (select_placed (with less a) s) (λ q. Ok (compared_with how op p q))) (λ p. and_then (select_placed (with more a) s) (λ q. Ok (compared_with how op p q))) x (λ _ h. h)
        (λ p. after (select_placed (with less a) s) (select_placed (with more a) s) (λ q. Ok (compared_with how op p q)) (λ q. Ok (compared_with how op p q)) x (select_stays a s) (λ _ h. h)) e
    cond_stays a (between left low high) x e = e
    cond_stays a (in_subquery left s) x e =
        let p = expr_placed (with less a) left in
        after p p (λ p. and_then (select_placed (with less a) s) (λ q. Ok (in_subquery p q))) (λ p. and_then (select_placed (with more a) s) (λ q. Ok (in_subquery p q))) x (λ _ h. h)
        (λ p. after (select_placed (with less a) s) (select_placed (with more a) s) (λ q. Ok (in_subquery p q)) (λ q. Ok (in_subquery p q)) x (select_stays a s) (λ _ h. h)) e
    cond_stays a (in_list left es) x e = e
    cond_stays a (like left pattern None) x e = e
    cond_stays a (like left pattern (Some escape)) x e = e
    cond_stays a (is_null left) x e = e
    cond_stays a (exists s) x e = after (select_placed (with less a) s) (select_placed (with more a) s) (λ q. Ok (exists q)) (λ q. Ok (exists q)) x (select_stays a s) (λ _ h. h) e
    cond_stays a (negated c) x e = after (cond_placed (with less a) c) (cond_placed (with more a) c) (λ p. Ok (negated p)) (λ p. Ok (negated p)) x (cond_stays a c) (λ _ h. h) e
    cond_stays a (conjunction cs) x e = after (conds_placed (with less a) cs) (conds_placed (with more a) cs) (λ ps. Ok (conjunction ps)) (λ ps. Ok (conjunction ps)) x (conds_stay a cs) (λ _ h. h) e
    cond_stays a (disjunction cs) x e = after (conds_placed (with less a) cs) (conds_placed (with more a) cs) (λ ps. Ok (disjunction ps)) (λ ps. Ok (disjunction ps)) x (conds_stay a cs) (λ _ h. h) e

    conds_stay : (a : Surroundings) (cs : Conds Named) (x : Conds (Placed TablePlace)) → conds_placed (with less a) cs ≡ Ok x → conds_placed (with more a) cs ≡ Ok x
    conds_stay a no_cond x e = e
    conds_stay a (a_cond c cs) x e =
        after (cond_placed (with less a) c) (cond_placed (with more a) c) (λ p. and_then (conds_placed (with less a) cs) (λ ps. Ok (a_cond p ps))) (λ p. and_then (conds_placed (with more a) cs) (λ ps. Ok (a_cond p ps))) x (cond_stays a c)
        (λ p. after (conds_placed (with less a) cs) (conds_placed (with more a) cs) (λ ps. Ok (a_cond p ps)) (λ ps. Ok (a_cond p ps)) x (conds_stay a cs) (λ _ h. h)) e

    pub clause_stays : (a : Surroundings) (c : Clause Named) (x : PlacedClause) → clause_placed (with less a) c ≡ Ok x → clause_placed (with more a) c ≡ Ok x
    clause_stays a absent x e = e
    clause_stays a (present c) x e = after (cond_placed (with less a) c) (cond_placed (with more a) c) (λ p. Ok (present p)) (λ p. Ok (present p)) x (cond_stays a c) (λ _ h. h) e

    pub select_stays : (a : Surroundings) (s : Select Named) (x : PlacedSelect) → select_placed (with less a) s ≡ Ok x → select_placed (with more a) s ≡ Ok x
    select_stays a (select distinct list from filter by having) x e =
        let last = λ (ts : List NamedItem) (kept : PlacedClause) (columns : List Place) (shown : List PlacedExpr) (groups : PlacedClause). Ok (select distinct (expressions shown) (tables_of ts) kept columns groups) in
        let grouped = λ (k : KnownTables) (ts : List NamedItem) (kept : PlacedClause) (columns : List Place) (shown : List PlacedExpr). and_then (clause_placed (with k (of_lines (items_of ts) a)) having) (last ts kept columns shown) in
        let listed = λ (k : KnownTables) (ts : List NamedItem) (kept : PlacedClause) (columns : List Place). and_then (list_placed (with k (of_lines (items_of ts) a)) (items_of ts) list) (grouped k ts kept columns) in
        let by_columns = λ (k : KnownTables) (ts : List NamedItem) (kept : PlacedClause). and_then (each (placed_column (of_lines (items_of ts) a).scopes) by) (listed k ts kept) in
        let filtered = λ (k : KnownTables) (ts : List NamedItem). and_then (clause_placed (with k (of_lines (items_of ts) a)) filter) (by_columns k ts) in
        after (each (item_placed (names_spec.tables_of less)) from) (each (item_placed (names_spec.tables_of more)) from) (filtered less) (filtered more) x (items_stay from)
        (λ ts.
        let here = of_lines (items_of ts) a in
        after (clause_placed (with less here) filter) (clause_placed (with more here) filter) (by_columns less ts) (by_columns more ts) x (clause_stays here filter)
        (λ kept.
        let columns = each (placed_column here.scopes) by in
        after columns columns (listed less ts kept) (listed more ts kept) x (λ _ h. h)
        (λ columns.
        after (list_placed (with less here) (items_of ts) list) (list_placed (with more here) (items_of ts) list) (grouped less ts kept columns) (grouped more ts kept columns) x (list_stays here (items_of ts) list)
        (λ shown. after (clause_placed (with less here) having) (clause_placed (with more here) having) (last ts kept columns shown) (last ts kept columns shown) x (clause_stays here having) (λ _ h. h))))) e

  -- an updatable query
  pub updatable_stays : (parameters : List ParameterDesc) (s : Select Named) (u : UpdatableQuery) → IsUpdatableOf less parameters s u → IsUpdatableOf more parameters s u
  updatable_stays parameters s u h =
      let item = (from_spec.item_over h.reference (named_table false false h.table)).item in record {
        list = h.list;
        reference = h.reference;
        filter = h.filter;
        is_plain = h.is_plain;
        table = h.table;
        is_known = keep h.reference.table.user h.reference.table.name h.table h.is_known;
        place = h.place;
        is_over = h.is_over;
        condition = λ functions. clause_stays (of_lines (leaf_item h.reference h.table ∷ []) (outside less parameters)) h.filter (clause_of (map call_of functions) u.target.condition) (h.condition functions);
        shown = h.shown;
        list_is = list_stays (of_lines (item ∷ []) (outside less parameters)) (item ∷ []) h.list h.shown h.list_is;
        columns = h.columns;
      }
