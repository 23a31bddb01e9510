-- What is bound of a view's query in a catalog: it stands, is the text's, and where it is updatable it has the rows under the table that is
-- named (ISO/IEC 9075:1992, 7.9 and 11.19).
use Rattle.std.proofs.Common.{◌≡◌, ℕ, true, false, List, map, Option, Some, None, Result, Ok, Err, refl, sym, ap, subst, ◌∙◌}
use Rattle.std.specs.Option.{option_and_then, option_map}
use Rattle.std.specs.Prelude.{IfOk, IfSome}
use Rattle.sq_lex.specs.declared.name.Name.{Name}
use Rattle.sq_tree.specs.declared.schema.ViewDefinition.{ViewDefinition}
use Rattle.sq_meaning.specs.Environment.{TableName}
use Rattle.sq_meaning.specs.Spelled.{select_of}
use Rattle.sq_meaning.specs.Privilege.{Privilege}
use Rattle.sq_bound.specs.Fits.{IsBase}
use Rattle.sq_bound.specs.Known.{under_of}
use Rattle.sq_bound.specs.declared.names.Leaf.{Leaf}
use Rattle.sq_bound.specs.declared.names.TableBody.{TableBody}
use Rattle.sq_bound.specs.declared.names.TableBody.TheVariants as body
use Rattle.sq_bound.specs.declared.names.TableDesc.{TableDesc}
use Rattle.sq_bound.specs.declared.query.UpdatableQuery.{UpdatableQuery}
use Rattle.sq_binding.specs.Seen.{cond_seen}
use Rattle.sq_binding.specs.View.{view_bound}
use Rattle.sq_binder.specs.Binds.{Binds}
use Rattle.sq_binder.specs.declared.stop.Stop.{Stop}
use Rattle.sq_binding.specs.Catalog.{entry, entry_under, itself as declared_itself, may}
use Rattle.sq_binding.proofs.WellFormed.Views.{IsViewBound, view_fits, view_is_written, view_names, view_over, view_stands, view_updatable}
use Rattle.sq_binding.specs.SeenQuery.{table_named}
use Rattle.sq_binder.specs.Names.{Beneath, IsUnder}
use Rattle.sq_binder.specs.View.{view_seen}
use Rattle.sq_binder.specs.declared.view.BoundView.{BoundView}
use Rattle.sq_catalog.specs.Catalog.{Catalog, column_kinds, itself, known}
use Rattle.sq_catalog.specs.Exact.{base_declared, declared, described, entry_declared, entry_with, under_declared}
use Rattle.sq_catalog.specs.Stored.{IsStored, IsUnderItself}
use Rattle.sq_catalog.specs.UserTables.{NamesStand, beneath_in, beneath_leaf, changes_by_user, names_in, names_known}
use Rattle.sq_catalog.specs.ViewMade.{IsBoundView, IsLeafUnder, leaf_declared}
use Rattle.sq_catalog.specs.declared.catalog.FullName.{FullName}
use Rattle.sq_catalog.specs.declared.fault.ElementFault.{ElementFault}

abbrev full_of : TableName → FullName
full_of t = record { user = t.user; name = t.name }

-- ---- what is under a table

same_leaf : (k l : Leaf) → Some k ≡ Some l → k ≡ l
same_leaf k l e = cc

-- a base table is under itself; under a view is what was found under its table
body_under : (name : FullName) (t : TableDesc) (l : Leaf) (b : TableBody) → IsUnderItself b (Some l) → t.leaf ≡ Some l → (columns : List ℕ) × (entry_under (entry_with name t b) ≡ Some (leaf_declared columns l))
body_under name t l (body.View v) own is = (map (λ c. c.leaf_column) t.columns, ap (option_map (under_declared t.columns)) is)
body_under name t l (body.Base b) own is =
    let same : itself b.place ≡ under_of l = let both : Some (itself b.place) ≡ Some (under_of l) = sym own in cc in (
      (declared_itself (base_declared name t.columns b)).columns,
      λ i. Some (record { base = (same i).base; conditions = map cond_seen ((same i).conditions); demanded = (same i).demanded; columns = (declared_itself (base_declared name t.columns b)).columns }),
    )

module _ (c : Catalog) where
  found_under : (t : TableName) (l : Leaf) (d : Option TableDesc) → IfSome d (IsStored c.bases) → entry (declared c) t ≡ option_map (entry_declared (full_of t)) d → option_map (λ (b : Beneath). b.leaf) (option_and_then beneath_in d) ≡ Some l
      → IsBase c.bases l.table × IsLeafUnder (declared c) t l
  found_under t l None stored is under = cc
  found_under t l (Some d) stored is under = by d.leaf refl under
    where
      by : (o : Option Leaf) → d.leaf ≡ o → option_map (λ (b : Beneath). b.leaf) (option_map (beneath_leaf d) o) ≡ Some l → IsBase c.bases l.table × IsLeafUnder (declared c) t l
      by None none under = cc
      by (Some k) some under =
          let here : d.leaf ≡ Some l = some ∙ ap Some (same_leaf k l under) in
          let below = body_under (full_of t) d l d.body (subst (IsUnderItself d.body) here stored.itself) here in (
            subst (λ (o : Option Leaf). IfSome o (λ x. IsBase c.bases x.table)) here stored.over,
            (below.0, ap (option_and_then entry_under) is ∙ below.1),
          )

  pub leaf_under : (user : Name) (t : TableName) (l : Leaf) → NamesStand c → IsUnder (changes_by_user c user) t l → IsBase c.bases l.table × IsLeafUnder (declared c) t l
  leaf_under user t l up under = found_under t l (described c t) (up.stored t) (up.entries t) under

  module _ (user : Name) (v : ViewDefinition) (up : NamesStand c) where
    each_under : (P Q : (Name × Name) × UpdatableQuery → Type 0) → ((over : (Name × Name) × UpdatableQuery) → P over → Q over) → (o : Option ((Name × Name) × UpdatableQuery)) → IfSome o P → IfSome o Q
    each_under P Q f None h = tt
    each_under P Q f (Some over) h = f over h

    abbrev UnderIt : (Name × Name) × UpdatableQuery → Type 0
    UnderIt over = IsUnder (changes_by_user c user) (table_named over.0) over.1.target.leaf

    abbrev HasBase : (Name × Name) × UpdatableQuery → Type 0
    HasBase over = IsBase c.bases over.1.target.leaf.table

    abbrev HasLeaf : (Name × Name) × UpdatableQuery → Type 0
    HasLeaf over = IsLeafUnder (declared c) (table_named over.0) over.1.target.leaf

    abbrev HasBoth : (Name × Name) × UpdatableQuery → Type 0
    HasBoth over = HasBase over × HasLeaf over

    pub view_is_found : (b : BoundView) → view_bound (names_in c user) (select_of user v.query) ≡ Ok (view_seen b) → IfSome b.updatable (λ over. IsUnder (changes_by_user c user) (table_named over.0) over.1.target.leaf)
        → IsBoundView c (record { user = user; view = v }) b.query b.updatable
    view_is_found b bound under =
        let q = select_of user v.query in
        let sel = λ (t : TableName). may (declared c) false user t Privilege.select in
        let grants = λ (t : TableName). may (declared c) true user t Privilege.select in
        let holds = may (declared c) false user in
        let is : IsViewBound (names_known c user) q b.query b.updatable =
        record { view = view_seen b; is_bound = subst (λ n. view_bound n q ≡ Ok (view_seen b)) (up.are_known user) bound; query_is = refl; updatable_is = refl } in
        let both : IfSome b.updatable HasBoth = each_under UnderIt HasBoth (λ over h. leaf_under user (table_named over.0) over.1.target.leaf up h) b.updatable under in
        let there : IfSome b.updatable HasBase = each_under HasBoth HasBase (λ over h. h.0) b.updatable both in
        record {
          stands = record {
            fits = view_fits c.bases (column_kinds c) (known c) up.there user sel grants holds q b.query b.updatable is there;
            query = view_stands c.bases (column_kinds c) (known c) up.there user sel grants holds q b.query b.updatable is;
            target = view_updatable c.bases (column_kinds c) (known c) up.there user sel grants holds q b.query b.updatable is there;
          };
          is_written = view_is_written c.bases (column_kinds c) (known c) up.there user sel grants holds q b.query b.updatable is;
          names = view_names c.bases (column_kinds c) (known c) up.there user sel grants holds q b.query b.updatable is;
          over = view_over c.bases (column_kinds c) (known c) up.there user sel grants holds q b.query b.updatable is there;
          under = each_under HasBoth HasLeaf (λ over h. h.1) b.updatable both;
        }

    -- as it is answered
    pub answer_is_found : (r : Result BoundView ElementFault) (b : Result BoundView Stop) → IfOk r (λ view. b ≡ Ok view) → Binds view_seen (view_bound (names_in c user) (select_of user v.query)) b
        → IfOk b (λ view. IfSome view.updatable (λ over. IsUnder (changes_by_user c user) (table_named over.0) over.1.target.leaf))
        → IfOk r (λ view. IsBoundView c (record { user = user; view = v }) view.query view.updatable)
    answer_is_found (Err e) b is bound under = tt
    answer_is_found (Ok view) b is bound under =
        view_is_found view (subst (Binds view_seen (view_bound (names_in c user) (select_of user v.query))) is bound)
        (subst (λ (x : Result BoundView Stop). IfOk x (λ view. IfSome view.updatable (λ over. IsUnder (changes_by_user c user) (table_named over.0) over.1.target.leaf))) is under)
