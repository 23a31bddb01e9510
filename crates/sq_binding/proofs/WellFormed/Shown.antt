-- The columns of the base table that an updatable query shows, and their kinds (ISO/IEC 9075:1992, 7.9).
use Rattle.std.proofs.Common.{◌≡◌, ◌<◌, ℕ, zero, suc, Bool, true, false, ◌&&◌, List, [], ◌∷◌, length, Option, Some, None, Ok, refl, sym, ap, subst, arith, ◌∙◌, lt-ltb}
use Rattle.std.proofs.lemmas.List.{length-map}
use Rattle.std.specs.List.{AllByRecursion, AllZip}
use Rattle.std.specs.Option.{option_and_then, option_map}
use Rattle.std.specs.Prelude.{if◌then◌else◌, slice_get}
use Rattle.sq_value.specs.Domain.{kind_of}
use Rattle.sq_value.specs.declared.domain.Kind.{Kind}
use Rattle.sq_meaning.specs.Environment.{Place}
use Rattle.sq_meaning.specs.Kind.{kind}
use Rattle.sq_meaning.specs.Status.{Outcome, and_then, each, well_formed}
use Rattle.sq_meaning.specs.Syntax.{column}
use Rattle.sq_meaning.specs.Target.{are_distinct}
use Rattle.sq_meaning.specs.WellFormed.{kind_there, kinds_by_place}
use Rattle.sq_bound.specs.Expression.{PlacedExpr}
use Rattle.sq_bound.specs.Names.{are_positions}
use Rattle.sq_bound.specs.WellFormed.{TableKinds, base_kinds, kinds_of_columns}
use Rattle.sq_bound.specs.declared.condition.TablePlace.{TablePlace}
use Rattle.sq_bound.specs.declared.names.BaseColumn.{BaseColumn}
use Rattle.sq_bound.specs.declared.names.BaseTable.{BaseTable}
use Rattle.sq_bound.specs.declared.names.Column.{Column}
use Rattle.sq_binding.specs.Changeable.{UnderTable, columns_shown, if_distinct, is_of_references, leaf_column, leaf_columns}
use Rattle.sq_binding.specs.Numbered.{Numbered, tree_of}
use Rattle.sq_binding.specs.NumberedCondition.{trees_of}
use Rattle.sq_meaning.specs.Spelled.{Named}
use Rattle.sq_meaning.specs.Syntax.{SelectList}
use Rattle.sq_binding.specs.Names.{leaf_positions}
use Rattle.sq_binding.specs.Written.{IsShownAt}
use Rattle.sq_binding.proofs.WellFormed.PlainText.{goes_on}

-- the column of the base table at a position
abbrev pub IsLeafAt : List ℕ → Numbered → ℕ → Type 0
IsLeafAt positions e n = (p : Place) × (e ≡ Numbered.column p) × (slice_get positions p.column ≡ Some n)

leaf_at : (u : UnderTable) (e : Numbered) (n : ℕ) → leaf_column u e ≡ Some n → IsLeafAt u.columns e n
leaf_at u (Numbered.column p) n is = (p, refl, is)
leaf_at u (Numbered.literal v) n is = cc
leaf_at u (Numbered.parameter p) n is = cc
leaf_at u Numbered.user n is = cc
leaf_at u (Numbered.set_function k) n is = cc
leaf_at u (Numbered.signed sign e) n is = cc
leaf_at u (Numbered.operation op x y) n is = cc

leaves_at : (u : UnderTable) (es : List Numbered) (ns : List ℕ) → leaf_columns u es ≡ Some ns → AllZip (IsLeafAt u.columns) es ns
leaves_at u [] ns is = let same : [] ≡ ns = cc in subst (AllZip (IsLeafAt u.columns) []) same tt
leaves_at u (e ∷ es) ns is = by_first (leaf_column u e) refl (leaf_columns u es) refl (leaves_at u es) is
  where
    by_first : (o : Option ℕ) → leaf_column u e ≡ o → (rest : Option (List ℕ)) → leaf_columns u es ≡ rest → ((ms : List ℕ) → leaf_columns u es ≡ Some ms → AllZip (IsLeafAt u.columns) es ms)
        → option_and_then (λ n. option_map (λ ns. n ∷ ns) rest) o ≡ Some ns → AllZip (IsLeafAt u.columns) (e ∷ es) ns
    by_first None first rest others next is = cc
    by_first (Some n) first None others next is = cc
    by_first (Some n) first (Some ms) others next is =
        let same : n ∷ ms ≡ ns = cc in subst (AllZip (IsLeafAt u.columns) (e ∷ es)) same (leaf_at u e n first, next ms others)

distinct_is : (test : Bool) (ms ns : List ℕ) → (if test then Some ms else None) ≡ Some ns → ms ≡ ns
distinct_is true ms ns is = cc
distinct_is false ms ns is = cc

pub shown_leaves : (u : UnderTable) (list : SelectList Named) (es : List Numbered) (ns : List ℕ) → columns_shown u list es ≡ Some ns → AllZip (IsLeafAt u.columns) es ns
shown_leaves u list es ns is = by_list (is_of_references list) (leaf_columns u es) refl is
  where
    by_list : (test : Bool) (o : Option (List ℕ)) → leaf_columns u es ≡ o → (if test then option_and_then if_distinct o else None) ≡ Some ns → AllZip (IsLeafAt u.columns) es ns
    by_list false o e is = cc
    by_list true None e is = cc
    by_list true (Some ms) e is = subst (AllZip (IsLeafAt u.columns) es) (distinct_is (are_distinct ms) ms ns is) (leaves_at u es ms e)

-- ---- as they are written

pub shown_at : (columns : List Column) (es : List Numbered) (ns : List ℕ) → AllZip (IsLeafAt (leaf_positions columns)) es ns → AllZip (IsShownAt columns) (trees_of [] es) ns
shown_at columns [] [] h = tt
shown_at columns [] (n ∷ ns) h = absurd h
shown_at columns (e ∷ es) [] h = absurd h
shown_at columns (e ∷ es) (n ∷ ns) h = ((h.0.0, ap (tree_of []) h.0.1, h.0.2), shown_at columns es ns h.1)

-- ---- their kinds

found_there : (o : Option Kind) (k : Kind) → well_formed o ≡ Ok k → o ≡ Some k
found_there (Some l) k h = cc
found_there None k h = cc

-- a column of the only table
of_only_table : (kinds : TableKinds) (t : TablePlace) (own : List Kind) (depth item n : ℕ) (k : Kind) → kinds t ≡ Ok own
    → kind_there kinds ((t ∷ []) ∷ []) (record { depth = depth; item = item; column = n }) ≡ Ok k → slice_get own n ≡ Some k
of_only_table kinds t own zero zero n k there h = found_there (slice_get own n) k (sym (ap (λ (o : Outcome (List Kind)). and_then o (λ ks. well_formed (slice_get ks n))) there) ∙ h)
of_only_table kinds t own zero (suc item) n k there h = cc
of_only_table kinds t own (suc depth) item n k there h = cc

-- the column of the base table has the kind of the column that it is
leaf_kind : (own : List Kind) (columns : List Column) → AllByRecursion (λ (c : Column). slice_get own c.leaf_column ≡ Some c.kind) columns → (n position : ℕ) (k : Kind) → slice_get (kinds_of_columns columns) n ≡ Some k
    → slice_get (leaf_positions columns) n ≡ Some position → slice_get own position ≡ Some k
leaf_kind own [] all n position k there is = cc
leaf_kind own (c ∷ columns) all zero position k there is =
    let same : c.kind ≡ k = cc in
    let at : c.leaf_column ≡ position = cc in
    ap (slice_get own) (sym at) ∙ all.0 ∙ ap Some same
leaf_kind own (c ∷ columns) all (suc n) position k there is = leaf_kind own columns all.1 n position k there is

-- columns at these positions have these kinds
abbrev pub HaveKinds : List Kind → List ℕ → List Kind → Type 0
HaveKinds own = AllZip (λ p k. slice_get own p ≡ Some k)

module _ (kinds : TableKinds) (parameters : List Kind) (t : TablePlace) (columns : List Column) (own : List Kind) (there : kinds t ≡ Ok (kinds_of_columns columns))
    (all : AllByRecursion (λ (c : Column). slice_get own c.leaf_column ≡ Some c.kind) columns) where
  abbrev kind_at : PlacedExpr → Outcome Kind
  kind_at = kind (kinds_by_place kinds parameters) ((t ∷ []) ∷ [])

  pub leaf_kinds : (es : List Numbered) (ns : List ℕ) (ks : List Kind) → AllZip (IsLeafAt (leaf_positions columns)) es ns → each kind_at (trees_of [] es) ≡ Ok ks → HaveKinds own ns ks
  leaf_kinds [] [] ks h is = let same : [] ≡ ks = cc in subst (HaveKinds own []) same tt
  leaf_kinds [] (n ∷ ns) ks h is = absurd h
  leaf_kinds (e ∷ es) [] ks h is = absurd h
  leaf_kinds (e ∷ es) (n ∷ ns) ks h is =
      let first = goes_on (kind_at (tree_of [] e)) (λ k. and_then (each kind_at (trees_of [] es)) (λ ks. Ok (k ∷ ks))) ks is in
      let rest = goes_on (each kind_at (trees_of [] es)) (λ ks. Ok (first.0 ∷ ks)) ks first.1.1 in
      let made : Ok (first.0 ∷ rest.0) ≡ Ok ks = rest.1.1 in
      let same : first.0 ∷ rest.0 ≡ ks = cc in
      let p : Place = h.0.0 in
      let of_column : kind_at (column p) ≡ Ok first.0 = ap kind_at (sym (ap (tree_of []) h.0.1)) ∙ first.1.0 in
      subst (HaveKinds own (n ∷ ns)) same
      (leaf_kind own columns all p.column n first.0 (of_only_table kinds t (kinds_of_columns columns) p.depth p.item p.column first.0 there of_column) h.0.2, leaf_kinds es ns rest.0 h.1 rest.1.0)

-- ---- positions

kind_within : (own : List Kind) (n : ℕ) (k : Kind) → slice_get own n ≡ Some k → n < length own
kind_within [] n k h = cc
kind_within (l ∷ own) zero k h = omega arith
kind_within (l ∷ own) (suc n) k h = omega (arith, kind_within own n k h)

are_within : (own : List Kind) (ps : List ℕ) (ks : List Kind) → HaveKinds own ps ks → are_positions (length own) ps ≡ true
are_within own [] ks h = refl
are_within own (p ∷ ps) [] h = absurd h
are_within own (p ∷ ps) (k ∷ ks) h = (λ i. lt-ltb p (length own) (kind_within own p k h.0) i && are_within own ps ks h.1 i)

pub positions_there : (b : BaseTable) (ps : List ℕ) (ks : List Kind) → HaveKinds (base_kinds b) ps ks → are_positions (length b.columns) ps ≡ true
positions_there b ps ks h = subst (λ n. are_positions n ps ≡ true) (length-map b.columns (λ (c : BaseColumn). kind_of c.domain)) (are_within (base_kinds b) ps ks h)
