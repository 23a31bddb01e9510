-- What the owner of a view holds on it, grant by grant.
use Rattle.std.proofs.Common.{◌≡◌, ℕ, ◌+◌, ◌<◌, ◌≤◌, min, Bool, true, false, List, [], ◌∷◌, ◌++◌, length, get_or, drop, map, flat_map, Option, Some, None, Result, Ok, Err, refl, sym, ap, subst, ◌∙◌, append-nil, append_assoc, arith}
use Rattle.std.proofs.lemmas.Bool.Decides.{nat_tests}
use Rattle.std.proofs.lemmas.Grind.{flat_map-append}
use Rattle.std.proofs.lemmas.List.{drop_all, drop_more, map-append}
use Rattle.std.proofs.lemmas.Simd.{map-map}
use Rattle.std.specs.List.{zip}
use Rattle.std.specs.Option.{option_and_then, option_map}
use Rattle.std.specs.Prelude.{fold, nat_lt, option_to_list, slice_get}
use Rattle.std.specs.Result.{OnOk}
use Rattle.sq_lex.specs.declared.name.Name.{Name}
use Rattle.sq_meaning.specs.Environment.{TableName}
use Rattle.sq_meaning.specs.Tables.{ColumnDescriptor}
use Rattle.sq_meaning.specs.Privilege.{Privilege}
use Rattle.sq_bound.specs.declared.condition.BoundSpecification.{out-BoundSpecification}
use Rattle.sq_bound.specs.declared.expression.BoundExpr.{BoundExpr}
use Rattle.sq_bound.specs.declared.expression.BoundExpr.TheVariants as bound
use Rattle.sq_bound.specs.declared.expression.Operation.{Operation}
use Rattle.sq_bound.specs.declared.names.BaseColumn.{BaseColumn}
use Rattle.sq_bound.specs.declared.names.BaseTable.{BaseTable}
use Rattle.sq_bound.specs.declared.names.Column.{Column}
use Rattle.sq_bound.specs.declared.names.TableBody.{TableBody}
use Rattle.sq_bound.specs.declared.names.TableBody.TheVariants as body
use Rattle.sq_bound.specs.declared.names.TableDesc.{TableDesc}
use Rattle.sq_binding.specs.Changeable.{shown_of}
use Rattle.sq_binding.specs.Numbered.{Numbered}
use Rattle.sq_binding.specs.Seen.{numbered_of, operation_of, select_seen}
use Rattle.sq_binder.proofs.Expressions.Images.{numbered_of-Operations, operation_of-out}
use Rattle.sq_binding.specs.Catalog as definition
use Rattle.sq_binding.specs.Catalog.{entry, entry_column_names}
use Rattle.sq_binding.specs.CreateView.{column_shown, followed, grants_over, names_underneath, owner_grants, updates, view_grants}
use Rattle.sq_binding.specs.Names.{descriptor_of}
use Rattle.sq_catalog.specs.Exact.{column_declared, entry_with, name_in, names_in}
use Rattle.sq_catalog.specs.Held.{grant_seen}
use Rattle.sq_catalog.specs.Stored.{IsBody}
use Rattle.sq_catalog.specs.ViewGrants.{HoldsMore, all_followed, followed_over, updates_over}
use Rattle.sq_binding.specs.SeenQuery.{updatable_seen}
use Rattle.sq_bound.specs.declared.query.UpdatableQuery.{UpdatableQuery}
use Rattle.sq_binder.specs.declared.view.BoundView.{BoundView}
use Rattle.sq_binder.proofs.Changes.Updatables.{shown_is}
use Rattle.sq_catalog.specs.ViewMade.{over_alone, view_found}
use Rattle.sq_catalog.specs.declared.catalog.FullName.{FullName}
use Rattle.sq_catalog.specs.declared.held.Grant.{Grant}
use Rattle.sq_catalog.specs.declared.view_grants.ViewOver.{ViewOver}

pub if_ok : {E P Q : Type 0} (r : Result (Unit {0}) E) → (P → Q) → OnOk r P → OnOk r Q
if_ok (Ok u) f h = f h
if_ok (Err e) f h = tt

-- ---- more grants

pub more_none : (old : List Grant) → HoldsMore old old []
more_none old = sym (append-nil (map grant_seen old))

pub more_one : (old new : List Grant) (g : Grant) → new ≡ old ++ g ∷ [] → HoldsMore old new (grant_seen g ∷ [])
more_one old new g is = ap (map grant_seen) is ∙ map-append grant_seen old (g ∷ [])

pub more_then : (a b c : List Grant) (xs ys : List definition.Grant) → HoldsMore a b xs → HoldsMore b c ys → HoldsMore a c (xs ++ ys)
more_then a b c xs ys f g = g ∙ ap (λ l. l ++ ys) f ∙ append_assoc (map grant_seen a) xs ys

-- at first there is no grant
pub more_begun : (old new : List Grant) (xs : List definition.Grant) → old ≡ [] → HoldsMore old new xs → map grant_seen new ≡ xs
more_begun old new xs none h = h ∙ ap (λ l. map grant_seen l ++ xs) none

-- ---- a privilege on a view

module _ (owner : Name) (t : TableName) (p : Privilege) where
  abbrev held : Bool → definition.Grant
  held to_grant = record { user = Some owner; table = t; privilege = p; to_grant = to_grant }

  pub owned_not : (is_held can_grant : Bool) (old : List Grant) → is_held ≡ false → HoldsMore old old (owner_grants owner t is_held can_grant p)
  owned_not is_held can_grant old is = subst (λ b. HoldsMore old old (owner_grants owner t b can_grant p)) (sym is) (more_none old)

  pub owned_alone : (is_held can_grant : Bool) (old new : List Grant) → is_held ≡ true → can_grant ≡ false → HoldsMore old new (held false ∷ []) → HoldsMore old new (owner_grants owner t is_held can_grant p)
  owned_alone is_held can_grant old new is not_too h = subst (λ (b : Bool × Bool). HoldsMore old new (owner_grants owner t b.0 b.1 p)) (λ i. (sym is i, sym not_too i)) h

  pub owned_both : (is_held can_grant : Bool) (old mid new : List Grant) → is_held ≡ true → can_grant ≡ true → HoldsMore old mid (held false ∷ []) → HoldsMore mid new (held true ∷ [])
      → HoldsMore old new (owner_grants owner t is_held can_grant p)
  owned_both is_held can_grant old mid new is too f g =
      subst (λ (b : Bool × Bool). HoldsMore old new (owner_grants owner t b.0 b.1 p)) (λ i. (sym is i, sym too i)) (more_then old mid new (held false ∷ []) (held true ∷ []) f g)

-- ---- UPDATE of columns

module _ (c : definition.Catalog) (owner : Name) (over : ViewOver) where
  pub update_shown : (underneath : List Name) (name below : Name) (e : Numbered) (old new : List Grant) → Some below ≡ option_and_then (slice_get underneath) (column_shown e)
      → HoldsMore old new (followed c owner (name_in over.view) (name_in over.under) (Privilege.update name, Privilege.update below)) → HoldsMore old new (all_followed c owner over (updates underneath (name, e)))
  update_shown underneath name below e old new is h =
      let one = followed c owner (name_in over.view) (name_in over.under) (Privilege.update name, Privilege.update below) in
      subst (λ (o : Option Name). HoldsMore old new (all_followed c owner over (option_to_list (option_map (λ (n : Name). (Privilege.update name, Privilege.update n)) o)))) is
      (h ∙ ap (λ l. map grant_seen old ++ l) (sym (append-nil one)))

  pub update_none : (underneath : List Name) (name : Name) (e : Numbered) (old : List Grant) → None ≡ option_and_then (slice_get underneath) (column_shown e) → HoldsMore old old (all_followed c owner over (updates underneath (name, e)))
  update_none underneath name e old is =
      subst (λ (o : Option Name). HoldsMore old old (all_followed c owner over (option_to_list (option_map (λ (n : Name). (Privilege.update name, Privilege.update n)) o)))) is (more_none old)

  -- the grants of the columns that are left
  abbrev pub left : List Name → List Name → List BoundExpr → List definition.Grant
  left underneath names shown = updates_over c owner over underneath (zip names (map numbered_of shown))

  split : (underneath : List Name) (x : Name × Numbered) (xs : List (Name × Numbered)) → updates_over c owner over underneath (x ∷ xs) ≡ all_followed c owner over (updates underneath x) ++ updates_over c owner over underneath xs
  split underneath x xs = flat_map-append (followed c owner (name_in over.view) (name_in over.under)) (updates underneath x) (flat_map (updates underneath) xs)

  module _ (underneath names : List Name) (shown : List BoundExpr) (i m : ℕ) (name : Name) (e : BoundExpr) (count : m ≡ i + 1) (in_names : i < length names) (in_shown : i < length shown) (at : name ≡ get_or names i name)
      (is : e ≡ get_or shown i e) where
    names_are : drop i names ≡ name ∷ drop m names
    names_are = drop_more names i name in_names ∙ (λ k. sym at k ∷ drop (sym count k) names)

    shown_are : drop i shown ≡ e ∷ drop m shown
    shown_are = drop_more shown i e in_shown ∙ (λ k. sym is k ∷ drop (sym count k) shown)

    pub left_next : (all : List definition.Grant) (old new : List Grant) → all ≡ map grant_seen old ++ left underneath (drop i names) (drop i shown)
        → HoldsMore old new (all_followed c owner over (updates underneath (name, numbered_of e))) → all ≡ map grant_seen new ++ left underneath (drop m names) (drop m shown)
    left_next all old new so_far h =
        let one = all_followed c owner over (updates underneath (name, numbered_of e)) in
        let rest = left underneath (drop m names) (drop m shown) in
        so_far ∙ (λ k. map grant_seen old ++ left underneath (names_are k) (shown_are k)) ∙ ap (λ l. map grant_seen old ++ l) (split underneath (name, numbered_of e) (zip (drop m names) (map numbered_of (drop m shown))))
        ∙ sym (append_assoc (map grant_seen old) one rest) ∙ ap (λ l. l ++ rest) (sym h)

  none_left : (underneath names : List Name) (shown : List BoundExpr) → left underneath names [] ≡ []
  none_left underneath [] shown = refl
  none_left underneath (n ∷ names) shown = refl

  -- no column is left at the end of either list
  pub left_all : (underneath names : List Name) (shown : List BoundExpr) (i : ℕ) (old now : List Grant) → i ≡ min (length names) (length shown)
      → map grant_seen old ++ left underneath names shown ≡ map grant_seen now ++ left underneath (drop i names) (drop i shown) → HoldsMore old now (left underneath names shown)
  left_all underneath names shown i old now end so_far = sym (so_far ∙ ap (λ l. map grant_seen now ++ l) (by (nat_lt (length names) (length shown)) refl) ∙ append-nil (map grant_seen now))
    where
      over_names : length names ≤ i → left underneath (drop i names) (drop i shown) ≡ []
      over_names past = ap (λ l. left underneath l (drop i shown)) (drop_all i names past)

      over_shown : length shown ≤ i → left underneath (drop i names) (drop i shown) ≡ []
      over_shown past = ap (λ l. left underneath (drop i names) l) (drop_all i shown past) ∙ none_left underneath (drop i names) shown

      by : (b : Bool) → nat_lt (length names) (length shown) ≡ b → left underneath (drop i names) (drop i shown) ≡ []
      by true e = let less : length names < length shown = grind (arith, nat_tests, e) in over_names (omega (arith, less, end))
      by false e = let less : length shown ≤ length names = grind (arith, nat_tests, e) in over_shown (omega (arith, less, end))

  -- ---- with INSERT and DELETE

  abbrev ins : List definition.Grant
  ins = followed c owner (name_in over.view) (name_in over.under) (Privilege.insert, Privilege.insert)

  abbrev del : List definition.Grant
  del = followed c owner (name_in over.view) (name_in over.under) (Privilege.delete, Privilege.delete)

  -- a name of no table has no columns
  no_update : (x : Name × Numbered) → updates [] x ≡ []
  no_update x = by (column_shown x.1)
    where
      by : (o : Option ℕ) → option_to_list {X = Privilege × Privilege} (option_map (λ (n : Name). (Privilege.update x.0, Privilege.update n)) (option_and_then (slice_get []) o)) ≡ []
      by None = refl
      by (Some n) = refl

  no_updates : (xs : List (Name × Numbered)) → flat_map (updates []) xs ≡ []
  no_updates [] = refl
  no_updates (x ∷ xs) = (λ i. no_update x i ++ no_updates xs i)

  pub over_none : (names : List Name) (shown : List BoundExpr) (a b d : List Grant) → entry c (name_in over.under) ≡ None → HoldsMore a b ins → HoldsMore b d del → HoldsMore a d (followed_over c owner over names (map numbered_of shown))
  over_none names shown a b d none f g =
      let columns : names_underneath c (name_in over.under) ≡ [] = ap (λ (o : Option definition.Entry). flat_map entry_column_names (option_to_list o)) none in
      subst (λ (l : List Name). HoldsMore a d (ins ++ (del ++ updates_over c owner over l (zip names (map numbered_of shown))))) (sym columns)
      (subst (λ (l : List (Privilege × Privilege)). HoldsMore a d (ins ++ (del ++ all_followed c owner over l))) (sym (no_updates (zip names (map numbered_of shown))))
      (more_then a b d ins (del ++ []) f (subst (HoldsMore b d) (sym (append-nil del)) g)))

  pub over_some : (names : List Name) (shown : List BoundExpr) (a b d e : List Grant) (found : definition.Entry) (underneath : List Name) → entry c (name_in over.under) ≡ Some found → entry_column_names found ≡ underneath
      → HoldsMore a b ins → HoldsMore b d del → HoldsMore d e (left underneath names shown) → HoldsMore a e (followed_over c owner over names (map numbered_of shown))
  over_some names shown a b d e found underneath is are f g h =
      let columns : names_underneath c (name_in over.under) ≡ underneath =
      ap (λ (o : Option definition.Entry). flat_map entry_column_names (option_to_list o)) is ∙ append-nil (entry_column_names found) ∙ are in
      subst (λ (l : List Name). HoldsMore a e (ins ++ (del ++ updates_over c owner over l (zip names (map numbered_of shown))))) (sym columns)
      (more_then a b e ins (del ++ left underneath names shown) f (more_then b d e del (left underneath names shown) g h))

-- ---- the columns underneath

names_of_base : (columns : List Column) (own : List BaseColumn) → length columns ≡ length own
    → map (λ (d : ColumnDescriptor). d.name) (map definition.column_descriptor (map column_declared (zip (names_in columns) own))) ≡ names_in columns
names_of_base [] [] e = refl
names_of_base [] (b ∷ own) e = refl
names_of_base (x ∷ columns) [] e = absurd (omega (arith, e))
names_of_base (x ∷ columns) (b ∷ own) e = let rest : length columns ≡ length own = omega (arith, e) in ap (λ l. x.name ∷ l) (names_of_base columns own rest)

pub entry_names : (name : FullName) (t : TableDesc) (bases : List BaseTable) (b : TableBody) → IsBody bases (length t.columns) b → entry_column_names (entry_with name t b) ≡ names_in t.columns
entry_names name t bases (body.Base b) is = names_of_base t.columns b.columns is.1
entry_names name t bases (body.View v) is = map-map (λ (d : ColumnDescriptor). d.name) descriptor_of t.columns

-- ---- the columns that are shown

operations_none : (rest : List Operation) (e : Numbered) → column_shown e ≡ None → column_shown (fold (λ left o. operation_of o left) e rest) ≡ None
operations_none [] e none = none
operations_none (o ∷ rest) e none = operations_none rest (operation_of o e) (ap column_shown (operation_of-out o e))

pub operation_none : (first : BoundExpr) (rest : List Operation) → (rest ≡ [] → ⊥) → column_shown (numbered_of (bound.Operations first rest)) ≡ None
operation_none first [] some = absurd (some refl)
operation_none first (o ∷ rest) some =
    ap column_shown (numbered_of-Operations first (o ∷ rest)) ∙ operations_none rest (operation_of o (numbered_of first)) (ap column_shown (operation_of-out o (numbered_of first)))

pub operations_alone : (first : BoundExpr) (rest : List Operation) → rest ≡ [] → numbered_of (bound.Operations first rest) ≡ numbered_of first
operations_alone first rest none = numbered_of-Operations first rest ∙ ap (fold (λ left o. operation_of o left) (numbered_of first)) none

-- ---- of a view that is bound

module _ (d : definition.Catalog) (owner : Name) (view : FullName) (names : List Name) (b : BoundView) where
  abbrev beneath : Option ((Name × Name) × UpdatableQuery) → List definition.Grant
  beneath o = grants_over d owner (name_in view) names (select_seen b.query) (option_map over_alone (option_map updatable_seen o))

  pub beneath_none : (old : List Grant) → b.updatable ≡ None → HoldsMore old old (beneath b.updatable)
  beneath_none old none = subst (λ o. HoldsMore old old (beneath o)) (sym none) (more_none old)

  pub beneath_some : (over : (Name × Name) × UpdatableQuery) (under : FullName) (shown : List BoundExpr) (old new : List Grant) → b.updatable ≡ Some over → under ≡ record { user = over.0.0; name = over.0.1 } → shown ≡ (out-BoundSpecification b.query).list
      → HoldsMore old new (followed_over d owner (record { view = view; under = under }) names (map numbered_of shown)) → HoldsMore old new (beneath b.updatable)
  beneath_some over under shown old new some is list h =
      let seen : map numbered_of shown ≡ shown_of (select_seen b.query) = ap (map numbered_of) list ∙ sym (shown_is b.query) in
      subst (λ o. HoldsMore old new (beneath o)) (sym some)
      (subst (λ (z : FullName × List Numbered). HoldsMore old new (followed_over d owner (record { view = view; under = z.0 }) names z.1)) (λ i. (is i, seen i)) h)

  pub view_held : (none held all : List Grant) → none ≡ [] → HoldsMore none held (owner_grants owner (name_in view) true b.may_grant_select Privilege.select) → HoldsMore held all (beneath b.updatable)
      → map grant_seen all ≡ view_grants d owner (name_in view) names (view_found b)
  view_held none held all empty f g =
      let select = owner_grants owner (name_in view) true b.may_grant_select Privilege.select in
      more_begun none all (select ++ beneath b.updatable) empty (more_then none held all select (beneath b.updatable) f g)
