-- The names of a view's columns, and that a view is that of its text.
use Rattle.std.proofs.Common.{◌≡◌, ℕ, suc, ◌+◌, ◌<◌, ◌≤◌, List, [], ◌∷◌, ◌++◌, length, get_or, take, map, Option, Some, None, Result, Ok, Err, IfOk, refl, ap, sym, subst, ◌∙◌, append-nil, arith}
use Rattle.std.specs.List.{cons_option, filter_map}
use Rattle.std.specs.Option.{IfSome, IsSomeAnd, option_map}
use Rattle.std.proofs.lemmas.List.{take_more}
use Rattle.std.proofs.lemmas.List.Elements.{filter_map-append}
use Rattle.std.proofs.lemmas.Simd.{map-map}
use Rattle.sq_lex.specs.declared.name.Name.{Name}
use Rattle.sq_tree.specs.declared.list.CommaList.{CommaList}
use Rattle.sq_meaning.specs.Spelled.{listed, select_of}
use Rattle.sq_meaning.specs.Status.{Outcome}
use Rattle.sq_bound.specs.Known.{KnownTables, under_of}
use Rattle.sq_bound.specs.declared.condition.BoundSpecification.{BoundSpecification, out-BoundSpecification}
use Rattle.sq_bound.specs.declared.names.BaseTable.{BaseTable}
use Rattle.sq_bound.specs.declared.names.Column.{Column}
use Rattle.sq_bound.specs.declared.names.Leaf.{Leaf}
use Rattle.sq_bound.specs.declared.names.TableDesc.{TableDesc}
use Rattle.sq_bound.specs.declared.query.UpdatableQuery.{UpdatableQuery}
use Rattle.sq_bound.specs.declared.condition.ResultColumn.{ResultColumn}
use Rattle.sq_meaning.specs.Schema.{has_name_twice}
use Rattle.sq_meaning.specs.declared.refusal.SchemaFault.TheVariants as fault
use Rattle.sq_binding.specs.NumberedCondition as numbered
use Rattle.sq_binding.specs.Seen.{column_of}
use Rattle.sq_binding.specs.ElementOutcome.{and_then, refused_if}
use Rattle.sq_binding.specs.CreateView as definition
use Rattle.sq_binding.specs.CreateView.{as_many, own_names as declared_names}
use Rattle.sq_binding.specs.Written.{IsUpdatableOf, NamesAre}
use Rattle.sq_catalog.specs.Fault.{Makes, Stops}
use Rattle.sq_catalog.specs.declared.fault.ElementFault.{ElementFault}
use Rattle.sq_catalog.proofs.OneByOne.Turns.{stops_then}
use Rattle.sq_catalog.specs.View.{IsAbove, IsOverQuery, IsViewWith, names_for, names_of_query, names_or}
use Rattle.sq_catalog.specs.Views.{HasQueryOf, IsUnderView, IsViewOf, WrittenView, column_names, names_written}

-- ---- the items that have a value

module _ {A B : Type 0} (f : A → Option B) where
  some_within : (xs : List A) → length (filter_map f xs) ≤ length xs
  some_within [] = omega arith
  some_within (x ∷ xs) = by_head (f x) (some_within xs)
    where
      by_head : (o : Option B) → length (filter_map f xs) ≤ length xs → length (cons_option o (filter_map f xs)) ≤ suc (length xs)
      by_head None h = omega arith
      by_head (Some y) h = omega arith

  -- where there are as many, each item has one
  pub all_some : (xs : List A) → length (filter_map f xs) ≡ length xs → map (λ y. Some y) (filter_map f xs) ≡ map f xs
  all_some [] h = refl
  all_some (x ∷ xs) h = by_head (f x) (some_within xs) (λ e. all_some xs e) h
    where
      by_head : (o : Option B) → length (filter_map f xs) ≤ length xs → (length (filter_map f xs) ≡ length xs → map (λ y. Some y) (filter_map f xs) ≡ map f xs)
          → length (cons_option o (filter_map f xs)) ≡ suc (length xs) → map (λ y. Some y) (cons_option o (filter_map f xs)) ≡ o ∷ map f xs
      by_head None within rest h = absurd (omega arith)
      by_head (Some y) within rest h = ap (λ l. Some y ∷ l) (rest (omega arith))

  pub all_named : {E : Type 0} (r : Result (List B) E) (ys : List B) (xs : List A) → IfOk r (λ them. them ≡ ys) → IfOk r (λ them. length them ≡ length xs) → ys ≡ filter_map f xs → IfOk r (λ them. map (λ y. Some y) them ≡ map f xs)
  all_named (Err e) ys xs them count is = tt
  all_named (Ok zs) ys xs them count is =
      let same : zs ≡ filter_map f xs = them ∙ is in
      ap (map (λ y. Some y)) same ∙ all_some xs (ap length (sym same) ∙ count)

  values_next : (xs : List A) (i : ℕ) (x : A) → i < length xs → x ≡ get_or xs i x → filter_map f (take (i + 1) xs) ≡ filter_map f (take i xs) ++ cons_option (f x) []
  values_next xs i x lt e =
      ap (filter_map f) (take_more xs i x lt ∙ ap (λ y. take i xs ++ y ∷ []) (sym e)) ∙ filter_map-append f (take i xs) (x ∷ [])

  -- an item more, with a value or without
  pub one_found : (xs : List A) (i : ℕ) (x : A) (y : B) (ys new : List B) → i < length xs → x ≡ get_or xs i x → f x ≡ Some y → new ≡ ys ++ y ∷ [] → ys ≡ filter_map f (take i xs) → new ≡ filter_map f (take (i + 1) xs)
  one_found xs i x y ys new lt e is grown h =
      grown ∙ ap (λ l. l ++ y ∷ []) h ∙ ap (λ o. filter_map f (take i xs) ++ cons_option o []) (sym is) ∙ sym (values_next xs i x lt e)

  pub none_found : (xs : List A) (i : ℕ) (x : A) (ys : List B) → i < length xs → x ≡ get_or xs i x → f x ≡ None → ys ≡ filter_map f (take i xs) → ys ≡ filter_map f (take (i + 1) xs)
  none_found xs i x ys lt e is h =
      h ∙ sym (append-nil (filter_map f (take i xs))) ∙ ap (λ o. filter_map f (take i xs) ++ cons_option o []) (sym is) ∙ sym (values_next xs i x lt e)

-- ---- the names of a query's columns

own_same : (columns : List ResultColumn) → filter_map (λ c. c.name) columns ≡ declared_names (map column_of columns)
own_same [] = refl
own_same (c ∷ columns) = ap (cons_option c.name) (own_same columns)

module _ (columns : List ResultColumn) (names : List Name) (is : names ≡ filter_map (λ (c : ResultColumn). c.name) columns) where
  abbrev shown : List (numbered.ResultColumn)
  shown = map column_of columns

  pub query_named : (r : Result (List Name) ElementFault) → refused_if fault.NameTwice (has_name_twice names) ≡ Ok tt → Makes (λ (ns : List Name). ns) (as_many shown names) r → Makes (λ (ns : List Name). ns) (names_of_query shown) r
  query_named r once made =
      subst (λ (ns : List Name). Makes (λ (them : List Name). them) (and_then (refused_if fault.NameTwice (has_name_twice ns)) (λ _. as_many shown ns)) r) (is ∙ own_same columns)
      (subst (λ o. Makes (λ (them : List Name). them) (and_then o (λ _. as_many shown names)) r) (sym once) made)

  pub query_unnamed : (stop : ElementFault) → Stops (refused_if fault.NameTwice (has_name_twice names)) stop → Stops (names_of_query shown) stop
  query_unnamed stop stops =
      subst (λ (ns : List Name). Stops (and_then (refused_if fault.NameTwice (has_name_twice ns)) (λ _. as_many shown ns)) stop) (is ∙ own_same columns)
      (stops_then (refused_if fault.NameTwice (has_name_twice names)) (λ _. as_many shown names) stop stops)

-- the names that are listed, or those of the query
pub names_chosen : (list : Option (CommaList Name)) (columns : List numbered.ResultColumn) → names_for (option_map listed list) columns ≡ definition.column_names list columns
names_chosen None columns = refl
names_chosen (Some list) columns = refl

-- ---- the view of a text

abbrev pub own_names : BoundSpecification → List (Option Name)
own_names q = map (λ (c : ResultColumn). c.name) (out-BoundSpecification q).columns

names_listed : (list : Option (CommaList Name)) (text : Outcome (List (Option Name))) (own : List (Option Name)) → text ≡ Ok own → column_names list text ≡ Ok (names_or (option_map listed list) own)
names_listed None text own e = e
names_listed (Some list) text own e = refl

under_above : (known : KnownTables) (w : WrittenView) (over : UpdatableQuery) (columns : List Column) (under : Option Leaf) → IsUpdatableOf known [] (select_of w.user w.view.query) over
    → IfSome under (IsAbove w.view.check_option over columns) → IfSome (option_map under_of under) (IsUnderView known w columns)
under_above known w over columns None is_over h = tt
under_above known w over columns (Some l) is_over h = record {
  over = over;
  is_over = is_over;
  base = ap (λ (b : BaseTable). b.place) h.table;
  conditions = h.conditions;
  demanded = h.demanded;
  shows = h.shows;
}

at_some : {A : Type 0} (P : A → Type 0) (o : Option A) → IsSomeAnd o P → IfSome o P
at_some P None h = absurd h
at_some P (Some x) h = h

under_written : (known : KnownTables) (w : WrittenView) (t : TableDesc) (updatable : Option ((Name × Name) × UpdatableQuery)) → IfSome updatable (λ over. IsUpdatableOf known [] (select_of w.user w.view.query) over.1)
    → IsOverQuery w.view.check_option updatable t → IfSome (option_map under_of t.leaf) (IsUnderView known w t.columns)
under_written known w t None is_over none = subst (λ (l : Option Leaf). IfSome (option_map under_of l) (IsUnderView known w t.columns)) (sym none) tt
under_written known w t (Some over) is_over h = under_above known w over.1 t.columns t.leaf is_over (at_some (IsAbove w.view.check_option over.1 t.columns) t.leaf h)

pub view_written : (known : KnownTables) (w : WrittenView) (own : Option (List Name)) (names : List Name) (q : BoundSpecification) (t : TableDesc) → own ≡ option_map listed w.view.columns
    → NamesAre (names_written known w) q → HasQueryOf known w q → map (λ n. Some n) names ≡ names_or own (own_names q) → IsViewWith names q t
    → (updatable : Option ((Name × Name) × UpdatableQuery)) → IfSome updatable (λ over. IsUpdatableOf known [] (select_of w.user w.view.query) over.1) → IsOverQuery w.view.check_option updatable t → IsViewOf known w t
view_written known w own names q t list named is_written is h updatable is_over over = record {
  is_seen = record {
    names =
        names_listed w.view.columns (names_written known w) (own_names q) named
        ∙ ap (λ l. Ok (names_or l (own_names q))) (sym list)
        ∙ ap Ok (sym is ∙ ap (map (λ n. Some n)) (sym h.names_are) ∙ map-map (λ n. Some n) (λ (c : Column). c.name) t.columns);
    under = under_written known w t updatable is_over over;
  };
  query = q;
  stands_for = h.stands_for;
  is_written = is_written;
}

-- as it is answered
pub views_written : {X E : Type 0} (known : KnownTables) (w : WrittenView) (own : Option (List Name)) (names : List Name) (q : BoundSpecification) (table : X → TableDesc) (r : Result X E) → own ≡ option_map listed w.view.columns
    → NamesAre (names_written known w) q → HasQueryOf known w q → map (λ n. Some n) names ≡ names_or own (own_names q) → (updatable : Option ((Name × Name) × UpdatableQuery))
    → IfSome updatable (λ over. IsUpdatableOf known [] (select_of w.user w.view.query) over.1) → IfOk r (λ x. IsViewWith names q (table x)) → IfOk r (λ x. IsOverQuery w.view.check_option updatable (table x)) → IfOk r (λ x. IsViewOf known w (table x))
views_written known w own names q table (Err e) list named is_written is updatable is_over made over = tt
views_written known w own names q table (Ok x) list named is_written is updatable is_over made over = view_written known w own names q (table x) list named is_written is made updatable is_over over
