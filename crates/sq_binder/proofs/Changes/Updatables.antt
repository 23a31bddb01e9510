-- Query specifications over one table that may be changed: their table, and the columns that they show.
use Rattle.std.proofs.Common.{◌≡◌, ℕ, ◌+◌, ◌<◌, ◌≤◌, Bool, false, List, [], ◌∷◌, ◌++◌, length, map, get_or, drop, Option, None, Some, refl, sym, ap, ◌∙◌, append-nil}
use Rattle.std.proofs.lemmas.List.{append_assoc, drop_all, drop_more}
use Rattle.std.specs.Borrow.{Bor}
use Rattle.std.specs.Option.{is_some, option_and_then, option_copied, option_map}
use Rattle.std.specs.Prelude.{fold, not, ◌&&◌}
use Rattle.sq_value.proofs.Truths.{and_true, and_false}
use Rattle.sq_lex.specs.declared.name.Name.{Name}
use Rattle.sq_tree.specs.declared.cond.Cond.{Cond}
use Rattle.sq_tree.specs.declared.cond.QuerySpecification.{QuerySpecification, out-QuerySpecification}
use Rattle.sq_tree.specs.declared.cond.TableExpression.{out-TableExpression}
use Rattle.sq_meaning.specs.Environment.{TableReference}
use Rattle.sq_meaning.specs.SortKeys.{item_name}
use Rattle.sq_meaning.specs.Spelled.{Named, clause, cond_of, is_distinct_word, list_of, listed, listed_if_any, reference_of, select_of}
use Rattle.sq_meaning.specs.Syntax.{Expr, literal, parameter, user, column, count_rows, set_function, signed, added, scaled, bracketed, select}
use Rattle.sq_bound.specs.declared.condition.BoundSpecification.{BoundSpecification, out-BoundSpecification}
use Rattle.sq_bound.specs.declared.condition.Grouping.{Grouping}
use Rattle.sq_bound.specs.declared.expression.BoundExpr.{BoundExpr}
use Rattle.sq_bound.specs.declared.expression.BoundExpr.TheVariants as bound
use Rattle.sq_bound.specs.declared.expression.Operation.{Operation}
use Rattle.sq_binding.proofs.Standing.SeenLevels.{grouping_seen-out, select_seen-out}
use Rattle.sq_binding.specs.Changeable.{UnderTable, from_of, filter_of, has_plain_rows, is_grouped, is_reference, leaf_column, leaf_columns, list_of as list_in, only_one, shown_of}
use Rattle.sq_binding.specs.Numbered.{Numbered}
use Rattle.sq_binding.specs.Seen.{grouping_seen, groups_if, numbered_of, operation_of, select_seen}
use Rattle.sq_binder.proofs.Clauses.Conditions.{parts_of, select_of-out}
use Rattle.sq_binder.proofs.Expressions.Images.{numbered_of-Operations, operation_of-out}

-- ---- the parts of a query specification

module _ (own : Name) (q : QuerySpecification) where
  parts : let o = out-QuerySpecification q in let t = out-TableExpression o.table in
      select_of own q
      ≡ select (is_distinct_word o.quantifier) (list_of o.list) (map (reference_of own) (listed t.from)) (clause (option_map (cond_of own) t.where_clause)) (listed_if_any t.group_by) (clause (option_map (cond_of own) t.having))
  parts = let o = out-QuerySpecification q in select_of-out own q ∙ parts_of own o.quantifier o.list o.table

  pub from_is : from_of (select_of own q) ≡ map (reference_of own) (listed (out-TableExpression (out-QuerySpecification q).table).from)
  from_is = ap from_of parts

  pub list_is : list_in (select_of own q) ≡ list_of (out-QuerySpecification q).list
  list_is = ap list_in parts

  pub filter_is : filter_of (select_of own q) ≡ clause (option_map (cond_of own) (out-TableExpression (out-QuerySpecification q).table).where_clause)
  filter_is = ap filter_of parts

-- the only table of a list
pub one_alone : {A : Type 0} (f : A → TableReference) (first : A) (rest : List A) → rest ≡ [] → Some (f first) ≡ only_one (map f (first ∷ rest))
one_alone f first rest none = ap (λ l. only_one (map f (first ∷ l))) (sym none)

pub one_of_several : {A : Type 0} (f : A → TableReference) (first : A) (rest : List A) → (rest ≡ [] → ⊥) → None ≡ only_one (map f (first ∷ rest))
one_of_several f first [] some = absurd (some refl)
one_of_several f first (r ∷ rest) some = refl

-- a WHERE clause that is lent
pub clause_lent : (own : Name) (o : Option (Bor Cond)) (c : Option Cond) → option_copied o ≡ c → clause (option_map (λ (x : Bor Cond). cond_of own x.now) o) ≡ clause (option_map (cond_of own) c)
clause_lent own None c e = ap (λ (c : Option Cond). clause (option_map (cond_of own) c)) e
clause_lent own (Some x) c e = ap (λ (c : Option Cond). clause (option_map (cond_of own) c)) e

groups_there : (o : Option Grouping) → is_grouped (groups_if (option_map grouping_seen o)) ≡ is_some o
groups_there None = refl
groups_there (Some g) = ap is_grouped (grouping_seen-out g)

pub plain_rows : (s : BoundSpecification) → has_plain_rows (select_seen s) ≡ (not (out-BoundSpecification s).distinct && not (is_some (out-BoundSpecification s).grouping))
plain_rows s =
    ap has_plain_rows (select_seen-out s) ∙ ap (λ (b : Bool). not (out-BoundSpecification s).distinct && not b) (groups_there (out-BoundSpecification s).grouping)

pub ungrouped_plain : (s : BoundSpecification) → (out-BoundSpecification s).grouping ≡ None → not (out-BoundSpecification s).distinct ≡ has_plain_rows (select_seen s)
ungrouped_plain s none =
    let d = not (out-BoundSpecification s).distinct in
    sym (plain_rows s ∙ ap (λ (g : Option Grouping). d && not (is_some g)) none ∙ and_true d)

pub grouped_plain : (s : BoundSpecification) (g : Grouping) → (out-BoundSpecification s).grouping ≡ Some g → false ≡ has_plain_rows (select_seen s)
grouped_plain s g some =
    let d = not (out-BoundSpecification s).distinct in
    sym (plain_rows s ∙ ap (λ (g : Option Grouping). d && not (is_some g)) some ∙ and_false d)

pub shown_is : (s : BoundSpecification) → shown_of (select_seen s) ≡ map numbered_of (out-BoundSpecification s).list
shown_is s = ap shown_of (select_seen-out s)

-- ---- column references

pub reference_named : (e : Expr Named) → is_reference e ≡ is_some (item_name e)
reference_named (literal v) = refl
reference_named (parameter p) = refl
reference_named user = refl
reference_named (column c) = refl
reference_named count_rows = refl
reference_named (set_function f d e) = refl
reference_named (signed s e) = refl
reference_named (added s a b) = refl
reference_named (scaled s a b) = refl
reference_named (bracketed e) = refl

-- ---- the columns of the base table

module _ (u : UnderTable) where
  -- an operation is no column
  operations_none : (rest : List Operation) (e : Numbered) → leaf_column u e ≡ None → leaf_column u (fold (λ left o. operation_of o left) e rest) ≡ None
  operations_none [] e none = none
  operations_none (o ∷ rest) e none = operations_none rest (operation_of o e) (ap (leaf_column u) (operation_of-out o e))

  pub operation_none : (first : BoundExpr) (rest : List Operation) → (rest ≡ [] → ⊥) → leaf_column u (numbered_of (bound.Operations first rest)) ≡ None
  operation_none first [] some = absurd (some refl)
  operation_none first (o ∷ rest) some =
      ap (leaf_column u) (numbered_of-Operations first (o ∷ rest)) ∙ operations_none rest (operation_of o (numbered_of first)) (ap (leaf_column u) (operation_of-out o (numbered_of first)))

  pub operations_alone : (first : BoundExpr) (rest : List Operation) → rest ≡ [] → numbered_of (bound.Operations first rest) ≡ numbered_of first
  operations_alone first rest none = numbered_of-Operations first rest ∙ ap (fold (λ left o. operation_of o left) (numbered_of first)) none

  -- the columns so far, and those of the expressions that are left
  abbrev pub behind : List ℕ → List BoundExpr → Option (List ℕ)
  behind columns es = option_map (λ ns. columns ++ ns) (leaf_columns u (map numbered_of es))

  itself : (o : Option (List ℕ)) → option_map (λ ns. [] ++ ns) o ≡ o
  itself None = refl
  itself (Some ns) = refl

  pub leaf_begun : (es : List BoundExpr) (columns : List ℕ) → columns ≡ [] → leaf_columns u (map numbered_of es) ≡ behind columns es
  leaf_begun es columns none = sym (itself (leaf_columns u (map numbered_of es))) ∙ ap (λ l. behind l es) (sym none)

  with_one : (columns : List ℕ) (n : ℕ) (o : Option (List ℕ)) → option_map (λ ns. columns ++ ns) (option_map (λ ns. n ∷ ns) o) ≡ option_map (λ ns. (columns ++ n ∷ []) ++ ns) o
  with_one columns n None = refl
  with_one columns n (Some ns) = ap Some (sym (append_assoc columns (n ∷ []) ns))

  module _ (es : List BoundExpr) (i : ℕ) (e : BoundExpr) (columns : List ℕ) (within : i < length es) (at : e ≡ get_or es i e) where
    next_is : drop i es ≡ e ∷ drop (i + 1) es
    next_is = drop_more es i e within ∙ ap (λ x. x ∷ drop (i + 1) es) (sym at)

    pub leaf_next : (n : ℕ) (more : List ℕ) (whole : Option (List ℕ)) → whole ≡ behind columns (drop i es) → leaf_column u (numbered_of e) ≡ Some n → more ≡ columns ++ n ∷ [] → whole ≡ behind more (drop (i + 1) es)
    leaf_next n more whole so_far found is =
        so_far ∙ ap (behind columns) next_is
        ∙ ap (λ o. option_map (λ ns. columns ++ ns) (option_and_then (λ n. option_map (λ ns. n ∷ ns) (leaf_columns u (map numbered_of (drop (i + 1) es)))) o)) found
        ∙ with_one columns n (leaf_columns u (map numbered_of (drop (i + 1) es))) ∙ ap (λ l. behind l (drop (i + 1) es)) (sym is)

    pub leaf_none : (whole : Option (List ℕ)) → whole ≡ behind columns (drop i es) → leaf_column u (numbered_of e) ≡ None → whole ≡ None
    leaf_none whole so_far none =
        so_far ∙ ap (behind columns) next_is
        ∙ ap (λ o. option_map (λ ns. columns ++ ns) (option_and_then (λ n. option_map (λ ns. n ∷ ns) (leaf_columns u (map numbered_of (drop (i + 1) es)))) o)) none

  pub leaf_all : (es : List BoundExpr) (i : ℕ) (columns : List ℕ) (whole : Option (List ℕ)) → length es ≤ i → whole ≡ behind columns (drop i es) → whole ≡ Some columns
  leaf_all es i columns whole past so_far = so_far ∙ ap (behind columns) (drop_all i es past) ∙ ap Some (append-nil columns)
