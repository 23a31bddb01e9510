-- INSERT is bound to its values or its query with names placed, for the columns that are named (ISO/IEC 9075:1992, 13.8).
use Rattle.std.proofs.Common.{◌≡◌, Bool, true, false, List, [], ◌∷◌, length, map, Option, Some, None, Ok, refl, sym, ap, arith, ◌∙◌}
use Rattle.std.specs.List.{zip}
use Rattle.std.specs.Prelude.{◌==◌}
use Rattle.sq_lex.specs.declared.name.Name.{Name}
use Rattle.sq_tree.specs.declared.list.CommaList.{CommaList}
use Rattle.sq_tree.specs.declared.statement.Insert.{Insert}
use Rattle.sq_tree.specs.declared.statement.InsertSource.{InsertSource}
use Rattle.sq_tree.specs.declared.statement.InsertSource.TheVariants as source
use Rattle.sq_tree.specs.declared.statement.NewValue.{NewValue}
use Rattle.sq_meaning.specs.Spelled as spelled
use Rattle.sq_meaning.specs.Spelled.{listed, table_of}
use Rattle.sq_meaning.specs.Status as status
use Rattle.sq_meaning.specs.Tables.{Declared}
use Rattle.sq_meaning.specs.WellFormed.{is_comparable}
use Rattle.sq_meaning.specs.Privilege.{Privilege}
use Rattle.sq_meaning.specs.declared.fault.BindingFault.{BindingFault}
use Rattle.sq_meaning.specs.declared.fault.BindingFault.TheVariants as fault
use Rattle.sq_bound.specs.Expression.{PlacedExpr}
use Rattle.sq_binding.specs.Change.{NumberedInsert, NumberedSource, Receiver, column_for, insert_bound, itself, receivers_bound, receivers_of, source_bound, value_for}
use Rattle.sq_binding.specs.Changeable.{ChangedTable, UserNames, changed_table, outside}
use Rattle.sq_binding.specs.Condition.{select_bound}
use Rattle.sq_binding.specs.Found.{◌>>=◌, ◌>>◌, each, has_found, must, outcome, pure}
use Rattle.sq_binding.specs.Numbered.{tree_of}
use Rattle.sq_binding.specs.NumberedCondition.{ResultColumn, columns_of, select_of, trees_of}
use Rattle.sq_binding.specs.PlacedQuery.{select_placed}
use Rattle.sq_binding.specs.Select.{Surroundings}
use Rattle.sq_binding.specs.Whole.{needed, whole}
use Rattle.sq_binding.proofs.Inductions.Parts.{AreMeant, Binds, each_binds, has_found_binds, must_binds, one_binds, outcome_binds, pure_binds, then_any, then_binds}
use Rattle.sq_binding.proofs.Placing.PlacedChange.{Along, IsMade, columns_bind, new_value_is_placed, value_placed, whole_is}
use Rattle.sq_binding.proofs.Placing.PlacedParts.{SelectIs, around}
use Rattle.sq_binding.proofs.Placing.PlacedQuery.{select_is_placed}
use Rattle.sq_binding.proofs.Placing.PlacedUnion.{each_any}
use Rattle.sq_binding.proofs.FaultsFound.UnionFaults.{lengths_equal}

-- ---- the rows

abbrev pub SourceIs : UserNames → Surroundings → InsertSource → List PlacedExpr → NumberedSource → Type 0
SourceIs names a (source.Values list) functions (NumberedSource.values xs) = status.each (value_placed (around a)) (listed list) ≡ Ok (trees_of functions xs)
SourceIs names a (source.Query q) functions (NumberedSource.query x) = select_placed (around a) (spelled.select_of names.user q) ≡ Ok (select_of x)
SourceIs names a _ functions _ = ⊥

must_held : (allowed test : Bool) (f : BindingFault) → Binds allowed (λ functions u. test ≡ true) (must test f)
must_held allowed true f counts = record { is_so = λ before later size. refl; none_forbidden = λ no. refl }
must_held allowed false f counts = tt

seconds : (a : Surroundings) (rs : List Receiver) (vs : List NewValue) → length rs ≡ length vs → status.each (λ (p : Receiver × NewValue). value_placed a p.1) (zip rs vs) ≡ status.each (value_placed a) vs
seconds a [] [] e = refl
seconds a [] (v ∷ vs) e = cc
seconds a (r ∷ rs) [] e = cc
seconds a (r ∷ rs) (v ∷ vs) e =
    let rest : length rs ≡ length vs = omega (arith, e) in
    ap (λ (o : status.Outcome (List PlacedExpr)). status.and_then (value_placed a v) (λ y. status.and_then o (λ ys. Ok (y ∷ ys)))) (seconds a rs vs rest)

module _ (names : UserNames) (a : Surroundings) (rs : List Receiver) where
  values_bind : (list : CommaList NewValue) → Binds a.functions_allowed (SourceIs names a (source.Values list)) (source_bound names a rs (source.Values list))
  values_bind list =
      then_binds a.functions_allowed (λ functions u. (length rs == length (listed list)) ≡ true) (SourceIs names a (source.Values list)) (must (length rs == length (listed list)) fault.CountMismatch)
      (λ _. each (value_for a) (zip rs (listed list)) >>= λ given. pure (NumberedSource.values given)) (must_held a.functions_allowed (length rs == length (listed list)) fault.CountMismatch)
      (λ u.
      one_binds a.functions_allowed (AreMeant (λ (p : Receiver × NewValue). value_placed (around a) p.1) tree_of (zip rs (listed list)))
      (λ functions y. (length rs == length (listed list)) ≡ true → SourceIs names a (source.Values list) functions y) (each (value_for a) (zip rs (listed list))) (λ given. NumberedSource.values given)
      (each_binds a.functions_allowed (value_for a) (λ (p : Receiver × NewValue). value_placed (around a) p.1) tree_of (λ p. new_value_is_placed a p.0.kind p.1) (zip rs (listed list)))
      (λ functions given h e. sym (seconds (around a) rs (listed list) (lengths_equal (length rs) (length (listed list)) e)) ∙ h))

  source_binds : (s : InsertSource) → Binds a.functions_allowed (SourceIs names a s) (source_bound names a rs s)
  source_binds (source.Values list) = values_bind list
  source_binds (source.Query q) =
      then_binds a.functions_allowed (SelectIs (select_placed (around a) (spelled.select_of names.user q))) (SourceIs names a (source.Query q)) (select_bound a (spelled.select_of names.user q))
      (λ x. must (length rs == length (columns_of x)) fault.CountMismatch >> (each column_for (zip (columns_of x) rs) >> pure (NumberedSource.query x))) (select_is_placed (spelled.select_of names.user q) a)
      (λ x.
      then_any a.functions_allowed (λ functions y. SelectIs (select_placed (around a) (spelled.select_of names.user q)) functions x → SourceIs names a (source.Query q) functions y)
      (must (length rs == length (columns_of x)) fault.CountMismatch) (λ _. each column_for (zip (columns_of x) rs) >> pure (NumberedSource.query x)) (must_binds a.functions_allowed (length rs == length (columns_of x)) fault.CountMismatch)
      (λ _.
      then_any a.functions_allowed (λ functions y. SelectIs (select_placed (around a) (spelled.select_of names.user q)) functions x → SourceIs names a (source.Query q) functions y)
      (each column_for (zip (columns_of x) rs)) (λ _. pure (NumberedSource.query x))
      (each_any a.functions_allowed column_for (λ (p : ResultColumn × Receiver). must_binds a.functions_allowed (is_comparable p.0.kind p.1.kind) fault.KindMismatch) (zip (columns_of x) rs))
      (λ _. pure_binds a.functions_allowed (λ functions y. SelectIs (select_placed (around a) (spelled.select_of names.user q)) functions x → SourceIs names a (source.Query q) functions y) (NumberedSource.query x) (λ functions h. h))))

-- ---- the columns

-- the columns that get values: those that are listed, or all
abbrev pub IntoIs : ChangedTable → Option (CommaList Name) → List Receiver → Type 0
IntoIs t None rs = rs ≡ receivers_of t
IntoIs t (Some list) rs = Along (λ (name : Name) (r : Receiver). IsMade t name (λ (found : Receiver) (x : Name) (y : Receiver). y ≡ found) name r) (listed list) rs

into_binds : (allowed : Bool) (t : ChangedTable) (list : Option (CommaList Name)) → Binds allowed (λ functions rs. IntoIs t list rs) (receivers_bound t list)
into_binds allowed t None = pure_binds allowed (λ functions rs. IntoIs t None rs) (receivers_of t) (λ functions. refl)
into_binds allowed t (Some list) =
    columns_bind allowed t (λ (name : Name). name) itself (λ functions (found : Receiver) (x : Name) (y : Receiver). y ≡ found) (λ x r. pure_binds allowed (λ functions (y : Receiver). y ≡ r) r (λ functions. refl)) [] (listed list)

-- ---- INSERT

pub record IsInsert (names : UserNames) (a : Surroundings) (i : Insert) (functions : List PlacedExpr) (x : NumberedInsert) : Type 0 where
  pub changed : ChangedTable
  pub is_changed : changed_table names (table_of names.user i.table) ≡ Ok changed
  pub receivers : List Receiver
  pub into : IntoIs changed i.columns receivers
  pub is_under : x.leaf ≡ changed.under.leaf
  pub columns : x.columns ≡ map (λ r. r.column) receivers
  pub source : SourceIs names a i.source functions x.source

module _ (names : UserNames) (parameters : List Declared) (i : Insert) where
  abbrev here : Surroundings
  here = outside names parameters

  abbrev Is : List PlacedExpr → NumberedInsert → Type 0
  Is functions x = IsInsert names here i functions x

  abbrev IsOf : ChangedTable → Type 0
  IsOf t = changed_table names (table_of names.user i.table) ≡ Ok t

  abbrev made_of : ChangedTable → List Receiver → NumberedSource → NumberedInsert
  made_of t rs s = record { leaf = t.under.leaf; columns = map (λ r. r.column) rs; source = s }

  insert_binds : Binds false Is (insert_bound names parameters i)
  insert_binds =
      then_binds false (λ functions t. IsOf t) Is (outcome (changed_table names (table_of names.user i.table)))
      (λ t. receivers_bound t i.columns >>= λ rs. source_bound names here rs i.source >>= λ s. has_found (needed (names.holds t.reference.table Privilege.insert)) >> pure (made_of t rs s))
      (outcome_binds false (λ functions t. IsOf t) (changed_table names (table_of names.user i.table)) (λ t is functions. is))
      (λ t.
      then_binds false (λ functions rs. IntoIs t i.columns rs) (λ functions x. IsOf t → Is functions x) (receivers_bound t i.columns)
      (λ rs. source_bound names here rs i.source >>= λ s. has_found (needed (names.holds t.reference.table Privilege.insert)) >> pure (made_of t rs s)) (into_binds false t i.columns)
      (λ rs.
      then_binds false (SourceIs names here i.source) (λ functions x. IntoIs t i.columns rs → IsOf t → Is functions x) (source_bound names here rs i.source)
      (λ s. has_found (needed (names.holds t.reference.table Privilege.insert)) >> pure (made_of t rs s)) (source_binds names here rs i.source)
      (λ s.
      then_any false (λ functions x. SourceIs names here i.source functions s → IntoIs t i.columns rs → IsOf t → Is functions x) (has_found (needed (names.holds t.reference.table Privilege.insert))) (λ _. pure (made_of t rs s))
      (has_found_binds false (needed (names.holds t.reference.table Privilege.insert)))
      (λ _.
      pure_binds false (λ functions x. SourceIs names here i.source functions s → IntoIs t i.columns rs → IsOf t → Is functions x) (made_of t rs s)
      (λ functions rows into is. record { changed = t; is_changed = is; receivers = rs; into = into; is_under = refl; columns = refl; source = rows })))))

  pub insert_is_placed : (x : NumberedInsert) → whole (insert_bound names parameters i) ≡ Ok x → IsInsert names here i [] x
  insert_is_placed x is = whole_is Is (insert_bound names parameters i) insert_binds x is
