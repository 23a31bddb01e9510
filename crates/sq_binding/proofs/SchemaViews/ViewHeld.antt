-- A catalog with one more view is the catalog of the elements with its CREATE VIEW: its owner holds on it what the rules say (ISO/IEC
-- 9075:1992, 11.19).
use Rattle.std.proofs.Common.{◌≡◌, ℕ, Bool, true, false, ◌&&◌, ◌||◌, List, [], ◌∷◌, length, map, Option, Some, None, Ok, Err, refl, sym, ap, subst, ◌∙◌}
use Rattle.std.proofs.lemmas.List.{append-nil}
use Rattle.std.proofs.lemmas.List.Folds.{list_any-append}
use Rattle.std.specs.List.{flat_map, list_all, list_any}
use Rattle.std.specs.Option.{option_and_then, option_map}
use Rattle.std.specs.Prelude.{if◌then◌else◌, is_some, option_to_list, slice_get}
use Rattle.std.specs.Result.{result_ok}
use Rattle.sq_value.proofs.Truths.{and_true, and_without, or_without}
use Rattle.sq_lex.specs.declared.name.Name.{Name}
use Rattle.sq_tree.specs.declared.schema.ViewDefinition.{ViewDefinition}
use Rattle.sq_meaning.specs.Environment.{TableName, same_name, same_table}
use Rattle.sq_meaning.specs.Spelled.{Named, select_of, table_of}
use Rattle.sq_meaning.specs.Status as status
use Rattle.sq_meaning.specs.Syntax.{Select}
use Rattle.sq_meaning.specs.Tables.{ColumnDescriptor, TableDescriptor, column_names, descriptor_of}
use Rattle.sq_meaning.specs.Target.{Source}
use Rattle.sq_meaning.specs.Catalog.{tables_of, view_descriptor}
use Rattle.sq_meaning.specs.Privilege.{Privilege}
use Rattle.sq_meaning.specs.Privileges.{chain, holds_underneath, implies, is_on_column, privilege_underneath, tables_named, updatable_here, view_gives, view_gives_owner}
use Rattle.sq_meaning.specs.Schema.{Elements, is_among, place_among}
use Rattle.sq_meaning.specs.Words.{is_some_and}
use Rattle.sq_binding.specs.Changeable.{NumberedUpdatable, shown_of}
use Rattle.sq_binding.specs.Numbered.{Numbered}
use Rattle.sq_binding.specs.View.{NumberedView}
use Rattle.sq_binding.proofs.FaultsFound.CondFaults.{SelectSpellsNoNull}
use Rattle.sq_binding.proofs.FaultsFound.Known.{columns_in}
use Rattle.sq_binding.specs.Catalog.{Catalog, Entry, entry, entry_column_names, gives, may, may_on, owns, same_privilege, with_grants}
use Rattle.sq_binding.specs.CreateView.{NewView, column_shown, declared_view, grants_over, names_underneath, owner_grants, privileges_followed, with_view}
use Rattle.sq_binding.proofs.SchemaViews.BoundViews.{IsBoundView}
use Rattle.sq_binding.proofs.Schemas.GrantsAdded.{given_with_grants}
use Rattle.sq_binding.proofs.Schemas.KnownTables.{IsCatalogOf, IsMadeOf, Known, known_columns}
use Rattle.sq_binding.proofs.Schemas.Made.{StillNamed, made_with_view}
use Rattle.sq_binding.proofs.Schemas.Names.{position_there, table_same}
use Rattle.sq_binding.proofs.SchemaViews.ViewGrants.{below, chain_weaker, followed_given, followed_is, is_followed, owner_given}
use Rattle.sq_binding.proofs.SchemaViews.ViewShows.{shows}
use Rattle.sq_binding.proofs.SchemaViews.Viewed.{bases_now, bound_known, columns_named, count_now, described_are, elements, few_now, known_now, over_known, source_there, view_entry, view_new}
use Rattle.sq_binding.proofs.SchemaViews.CreatedViews.{IsNewView}

-- ---- what a view gives

any_alike : {A : Type 0} (f g : A → Bool) → ((x : A) → f x ≡ g x) → (xs : List A) → list_any f xs ≡ list_any g xs
any_alike f g h [] = refl
any_alike f g h (x ∷ xs) = λ i. h x i || any_alike f g h xs i

all_alike : {A : Type 0} (f g : A → Bool) → ((x : A) → f x ≡ g x) → (xs : List A) → list_all f xs ≡ list_all g xs
all_alike f g h [] = refl
all_alike f g h (x ∷ xs) = λ i. h x i && all_alike f g h xs i

module _ (users : List Name) (before : Elements) (c : Catalog) (of : IsCatalogOf users before c) (user : Name) (v : ViewDefinition) (null : SelectSpellsNoNull (select_of user v.query)) (n : NewView) (m : IsNewView users before c of user v null n) where
  abbrev own : TableName
  own = table_of user v.name

  abbrev Q : Select Named
  Q = select_of user v.query

  abbrev b : NumberedView
  b = m.bound

  abbrev D : TableDescriptor
  D = view_descriptor (tables_of before) user v

  known_view : IsBoundView users before c of user Q null b
  known_view = bound_known users before c of user v null n m

  column_names_are : column_names D ≡ m.ns
  column_names_are = ap (map (λ (c : ColumnDescriptor). c.name)) (described_are users before c of user v null n m) ∙ columns_named users before c of user v null n m

  below_is : (us : List Name) (H : Privilege → Bool) (ts : List Numbered) (count : length m.ns ≡ length ts) (source : Source) (shown : map column_shown ts ≡ map Some source.columns) → us ≡ source.item.columns → (p : Privilege)
      → below us H m.ns ts source.columns count shown m.are.apart p ≡ privilege_underneath D source p
  below_is us H ts count source shown is Privilege.select = refl
  below_is us H ts count source shown is Privilege.insert = refl
  below_is us H ts count source shown is Privilege.delete = refl
  below_is us H ts count source shown is (Privilege.update col) = λ i. option_map Privilege.update (option_and_then (slice_get (is i)) (option_and_then (slice_get source.columns) (place_among (sym column_names_are i) col)))
  below_is us H ts count source shown is (Privilege.references col) = refl

  module _ (grantable : Bool) (who : Name) (to : TableName) (p : Privilege) where
    abbrev A : Bool
    A = same_name user who

    abbrev B : Bool
    B = same_table own to

    -- by what the table underneath gives
    abbrev U : Option Source → Bool
    U o = is_some_and (λ source. holds_underneath (chain before) user grantable D source p) o

    abbrev followed_any : Option NumberedUpdatable → Bool
    followed_any None = false
    followed_any (Some u) = list_any (is_followed grantable who to p user own c u.table) (privileges_followed m.ns (names_underneath c u.table) b.query)

    held_followed : (t : TableName) (q : Privilege) → (may c false user t q && implies grantable (may c true user t q)) ≡ may c grantable user t q
    held_followed t q = by grantable
      where
        weaker : may c true user t q ≡ true → may c false user t q ≡ true
        weaker e = of.held false user t q ∙ chain_weaker before user t q (sym (of.held true user t q) ∙ e)

        both : (x y : Bool) → (y ≡ true → x ≡ true) → (x && y) ≡ y
        both true y h = refl
        both false true h = h refl
        both false false h = refl

        by : (g : Bool) → (may c false user t q && implies g (may c true user t q)) ≡ may c g user t q
        by false = and_true (may c false user t q)
        by true = both (may c false user t q) (may c true user t q) weaker

    no_source : b.updatable ≡ None → updatable_here (tables_of before) Q ≡ None
    no_source is = by (updatable_here (tables_of before) Q) (sym (ap (option_map (λ (u : NumberedUpdatable). u.table)) is) ∙ known_view.over)
      where
        by : (o : Option Source) → None ≡ option_map (λ source. source.item.reference.table) o → o ≡ None
        by None e = refl
        by (Some source) e = cc

    -- the columns underneath
    columns_underneath : (u : NumberedUpdatable) → b.updatable ≡ Some u → (source : Source) → u.table ≡ source.item.reference.table → source.item.columns ≡ map (λ c. c.name) (columns_in (descriptor_of (tables_of before) source.item.reference.table))
        → names_underneath c u.table ≡ source.item.columns
    columns_underneath u is source same columns =
        let k = over_known users before c of user v null n m u is in
        let there : entry c u.table ≡ Some k.on = ap (entry c) k.table ∙ k.there in
        ap (λ o. flat_map entry_column_names (option_to_list o)) there ∙ append-nil (entry_column_names k.on)
        ∙ ap (map (λ (c : ColumnDescriptor). c.name)) (of_known (descriptor_of (tables_of before) u.table) (known_columns before u.table (Some k.on) (subst (Known before u.table) there (of.known u.table))))
        ∙ ap (λ t. map (λ (c : ColumnDescriptor). c.name) (columns_in (descriptor_of (tables_of before) t))) same ∙ sym columns
      where
        of_known : {cs : List ColumnDescriptor} (o : status.Outcome TableDescriptor) → Some cs ≡ option_map (λ d. d.columns) (result_ok o) → cs ≡ columns_in o
        of_known (Ok d) e = cc
        of_known (Err s) e = cc

    over_is : (o : Option NumberedUpdatable) → b.updatable ≡ o → followed_any o ≡ U (updatable_here (tables_of before) Q)
    over_is None is = sym (ap U (no_source is))
    over_is (Some u) is =
        let there = source_there users before c of user v null n m u is in
        let source = there.0 in
        let s = shows users before c of user Q known_view.found known_view.is_found source there.1 in
        let us = names_underneath c u.table in
        let ts = shown_of b.query in
        let H : Privilege → Bool = may c grantable user u.table in
        let count : length m.ns ≡ length ts = m.are.as_many ∙ sym known_view.trees in
        let shown : map column_shown ts ≡ map Some source.columns = ap (λ s. map column_shown (shown_of s)) (sym known_view.query) ∙ s.columns in
        any_alike (is_followed grantable who to p user own c u.table) (λ q. H q.1 && same_privilege q.0 p) (λ q. ap (λ h. h && same_privilege q.0 p) (held_followed u.table q.1)) (privileges_followed m.ns us b.query)
        ∙ followed_is us H m.ns ts source.columns count shown m.are.apart p
        ∙ ap (is_some_and H) (below_is us H ts count source shown (columns_underneath u is source there.2 s.underneath) p)
        ∙ (λ i. is_some_and (λ q. (of.held grantable user u.table q ∙ ap (λ t. chain before grantable user t q) there.2) i) (privilege_underneath D source p))
        ∙ sym (ap U there.1)

    -- ---- all that is granted

    over_given : (o : Option NumberedUpdatable) → list_any (gives grantable who to p) (grants_over c user own m.ns b.query o) ≡ (A && B && followed_any o)
    over_given None = none A B
      where
        none : (a b : Bool) → false ≡ (a && b && false)
        none true true = refl
        none true false = refl
        none false b = refl
    over_given (Some u) = followed_given grantable who to p user own c u.table (privileges_followed m.ns (names_underneath c u.table) b.query)

    granted_all : b.may_grant_select ≡ list_all (λ t. chain before true user t Privilege.select) (tables_named (tables_of before) Q)
    granted_all = known_view.grants ∙ all_alike (λ t. may c true user t Privilege.select) (λ t. chain before true user t Privilege.select) (λ t. of.held true user t Privilege.select) (tables_named (tables_of before) Q)

  joined : (a b x y z : Bool) → (x || y) ≡ z → ((a && b && x) || (a && b && y)) ≡ (a && b && z)
  joined true true x y z e = e
  joined true false x y z e = refl
  joined false b x y z e = refl

  no_select : (i : Bool) → (true && i && false) ≡ false
  no_select true = refl
  no_select false = refl

  yes_select : (i : Bool) → ((true && i && true) || false) ≡ i
  yes_select true = refl
  yes_select false = refl

  -- SELECT, or what follows from the table underneath
  either_is : (grantable : Bool) (who : Name) (to : TableName) (p : Privilege)
      → ((true && implies grantable b.may_grant_select && same_privilege Privilege.select p) || followed_any grantable who to p b.updatable) ≡ view_gives_owner (chain before) (tables_of before) user v grantable p
  either_is grantable who to Privilege.select =
      (λ i. (true && implies grantable b.may_grant_select && true) || (over_is grantable who to Privilege.select b.updatable refl ∙ none (updatable_here (tables_of before) Q)) i)
      ∙ yes_select (implies grantable b.may_grant_select) ∙ ap (implies grantable) (granted_all grantable who to Privilege.select)
    where
      none : (o : Option Source) → is_some_and (λ source. holds_underneath (chain before) user grantable D source Privilege.select) o ≡ false
      none None = refl
      none (Some source) = refl
  either_is grantable who to Privilege.insert = (λ i. no_select (implies grantable b.may_grant_select) i || over_is grantable who to Privilege.insert b.updatable refl i)
  either_is grantable who to Privilege.delete = (λ i. no_select (implies grantable b.may_grant_select) i || over_is grantable who to Privilege.delete b.updatable refl i)
  either_is grantable who to (Privilege.update col) = (λ i. no_select (implies grantable b.may_grant_select) i || over_is grantable who to (Privilege.update col) b.updatable refl i)
  either_is grantable who to (Privilege.references col) = (λ i. no_select (implies grantable b.may_grant_select) i || over_is grantable who to (Privilege.references col) b.updatable refl i)

  -- what is granted is what the view gives
  given_is : (grantable : Bool) (who : Name) (to : TableName) (p : Privilege) → list_any (gives grantable who to p) n.grants ≡ view_gives (chain before) (tables_of before) user v grantable who to p
  given_is grantable who to p =
      ap (λ (n : NewView). list_any (gives grantable who to p) n.grants) m.made
      ∙ list_any-append (gives grantable who to p) (owner_grants user own true b.may_grant_select Privilege.select) (grants_over c user own m.ns b.query b.updatable)
      ∙ (λ i. owner_given grantable who to p user own true b.may_grant_select Privilege.select i || over_given grantable who to p b.updatable i)
      ∙ joined (same_name user who) (same_table own to) (true && implies grantable b.may_grant_select && same_privilege Privilege.select p) (followed_any grantable who to p b.updatable) (view_gives_owner (chain before) (tables_of before) user v grantable p)
      (either_is grantable who to p)

  other_gift : (grantable : Bool) (who : Name) (to : TableName) (p : Privilege) → same_table own to ≡ false → view_gives (chain before) (tables_of before) user v grantable who to p ≡ false
  other_gift grantable who to p is =
      and_without (same_name user who) (same_table own to) (view_gives_owner (chain before) (tables_of before) user v grantable p) is

  none_given : (grantable : Bool) (who : Name) (to : TableName) (p : Privilege) → same_table own to ≡ false → list_any (gives grantable who to p) n.grants ≡ false
  none_given grantable who to p is = given_is grantable who to p ∙ other_gift grantable who to p is

  -- ---- the catalog

  no_old : (to : TableName) → same_table own to ≡ true → (grantable : Bool) (who : Name) (p : Privilege) → list_any (gives grantable who to p) c.grants ≡ false
  no_old to is grantable who p = of.granted to (subst (λ t. entry c t ≡ None) (table_same own to is) (view_new users before c of user v null n m)) grantable who p

  none_before : (to : TableName) → same_table own to ≡ true → (grantable : Bool) (who : Name) (p : Privilege) → chain before grantable who to p ≡ false
  none_before to is grantable who p = sym (of.held grantable who to p) ∙ ap (is_some_and (may_on c grantable who to p)) (subst (λ t. entry c t ≡ None) (table_same own to is) (view_new users before c of user v null n m))

  both_grants : (grantable : Bool) (who : Name) (to : TableName) (p : Privilege) → list_any (gives grantable who to p) (with_grants c.grants n.grants) ≡ (list_any (gives grantable who to p) c.grants || list_any (gives grantable who to p) n.grants)
  both_grants grantable who to p = given_with_grants grantable who to p c.grants n.grants

  held_here : (grantable : Bool) (who : Name) (to : TableName) (p : Privilege) → same_table own to ≡ true → may_on (with_view c n) grantable who to p (Entry.view n.view) ≡ view_gives (chain before) (tables_of before) user v grantable who to p
  held_here grantable who to p is = both_grants grantable who to p ∙ ap (λ b. b || list_any (gives grantable who to p) n.grants) (no_old to is grantable who p) ∙ given_is grantable who to p

  held_elsewhere : (grantable : Bool) (who : Name) (to : TableName) (p : Privilege) → same_table own to ≡ false → (o : Option Entry) → is_some_and (may_on (with_view c n) grantable who to p) o ≡ is_some_and (may_on c grantable who to p) o
  held_elsewhere grantable who to p is None = refl
  held_elsewhere grantable who to p is (Some e) =
      ap (λ b. owns who to e && is_on_column (entry_column_names e) p || b) (both_grants grantable who to p ∙ or_without (list_any (gives grantable who to p) c.grants) (list_any (gives grantable who to p) n.grants) (none_given grantable who to p is))

  held_now : (grantable : Bool) (who : Name) (to : TableName) (p : Privilege) → may (with_view c n) grantable who to p ≡ chain (elements users before c of user v null n m) grantable who to p
  held_now grantable who to p = ap (is_some_and (may_on (with_view c n) grantable who to p)) (view_entry users before c of user v null n m to) ∙ by (same_table own to) refl
    where
      by : (same : Bool) → same_table own to ≡ same → is_some_and (may_on (with_view c n) grantable who to p) (if same then Some (Entry.view n.view) else entry c to)
          ≡ (view_gives (chain before) (tables_of before) user v grantable who to p || chain before grantable who to p)
      by true is = held_here grantable who to p is ∙ sym (or_without (view_gives (chain before) (tables_of before) user v grantable who to p) (chain before grantable who to p) (none_before to is grantable who p))
      by false is = held_elsewhere grantable who to p is (entry c to) ∙ of.held grantable who to p ∙ ap (λ g. g || chain before grantable who to p) (sym (other_gift grantable who to p is))

  granted_now : (to : TableName) → entry (with_view c n) to ≡ None → (grantable : Bool) (who : Name) (p : Privilege) → list_any (gives grantable who to p) (with_grants c.grants n.grants) ≡ false
  granted_now to none grantable who p = by (same_table own to) refl (sym (view_entry users before c of user v null n m to) ∙ none)
    where
      by : (same : Bool) → same_table own to ≡ same → (if same then Some (Entry.view n.view) else entry c to) ≡ None → list_any (gives grantable who to p) (with_grants c.grants n.grants) ≡ false
      by true is e = cc
      by false is e = both_grants grantable who to p ∙ (λ i. of.granted to e grantable who p i || none_given grantable who to p is i)

  -- what a view gives on a column it gives on one of its own
  gives_on : (grantable : Bool) (p : Privilege) → view_gives_owner (chain before) (tables_of before) user v grantable p ≡ true → is_on_column m.ns p ≡ true
  gives_on grantable Privilege.select e = refl
  gives_on grantable Privilege.insert e = refl
  gives_on grantable Privilege.delete e = refl
  gives_on grantable (Privilege.update col) e = by (updatable_here (tables_of before) Q) e
    where
      there : (o : Option ℕ) → place_among m.ns col ≡ o → (source : Source) → is_some_and (chain before grantable user source.item.reference.table) (option_map Privilege.update (option_and_then (slice_get source.item.columns) (option_and_then (slice_get source.columns) o))) ≡ true → is_among m.ns col ≡ true
      there None at source e = cc
      there (Some k) at source e = sym (position_there (same_name col) m.ns) ∙ ap is_some at

      by : (o : Option Source) → is_some_and (λ source. holds_underneath (chain before) user grantable D source (Privilege.update col)) o ≡ true → is_among m.ns col ≡ true
      by None e = cc
      by (Some source) e =
          there (place_among m.ns col) refl source
          (sym (ap (λ names. is_some_and (chain before grantable user source.item.reference.table) (option_map Privilege.update (option_and_then (slice_get source.item.columns) (option_and_then (slice_get source.columns) (place_among names col))))) column_names_are) ∙ e)
  gives_on grantable (Privilege.references col) e = by (updatable_here (tables_of before) Q) e
    where
      by : (o : Option Source) → is_some_and (λ source. holds_underneath (chain before) user grantable D source (Privilege.references col)) o ≡ true → is_among m.ns col ≡ true
      by None e = cc
      by (Some source) e = cc

  on_columns_now : (grantable : Bool) (who : Name) (to : TableName) (p : Privilege) (e : Entry) → entry (with_view c n) to ≡ Some e → may (with_view c n) grantable who to p ≡ true → is_on_column (entry_column_names e) p ≡ true
  on_columns_now grantable who to p e at may_it =
      by (same_table own to) refl (sym (view_entry users before c of user v null n m to) ∙ at) (sym (ap (is_some_and (may_on (with_view c n) grantable who to p)) (view_entry users before c of user v null n m to)) ∙ may_it)
    where
      last : (a b d : Bool) → (a && b && d) ≡ true → d ≡ true
      last true true d e = e
      last true false d e = cc
      last false b d e = cc

      by : (same : Bool) → same_table own to ≡ same → (if same then Some (Entry.view n.view) else entry c to) ≡ Some e → is_some_and (may_on (with_view c n) grantable who to p) (if same then Some (Entry.view n.view) else entry c to) ≡ true → is_on_column (entry_column_names e) p ≡ true
      by false is at may_it = of.on_columns grantable who to p e at (sym (held_elsewhere grantable who to p is (entry c to)) ∙ may_it)
      by true is at may_it =
          let same : Entry.view n.view ≡ e = cc in
          subst (λ e. is_on_column (entry_column_names e) p ≡ true) same
          (ap (λ names. is_on_column names p) (columns_named users before c of user v null n m)
          ∙ gives_on grantable p (last (same_name user who) (same_table own to) (view_gives_owner (chain before) (tables_of before) user v grantable p) (sym (held_here grantable who to p is) ∙ may_it)))

  still : StillNamed c (with_view c n)
  still to e at = by (same_table own to) refl (view_entry users before c of user v null n m to)
    where
      by : (same : Bool) → same_table own to ≡ same → entry (with_view c n) to ≡ (if same then Some (Entry.view n.view) else entry c to) → entry (with_view c n) to ≡ Some e
      by true is here = let two : Some e ≡ None = sym at ∙ subst (λ t. entry c t ≡ None) (table_same own to is) (view_new users before c of user v null n m) in cc
      by false is here = here ∙ at

  -- the view stands behind the others
  made_now : declared_view c user v ≡ Ok n → IsMadeOf (elements users before c of user v null n m) (with_view c n)
  made_now is =
      made_with_view before user v c (with_view c n) n.view refl refl still (ap (λ (n : NewView). n.view.place) m.made) (record { earlier = c; new = n; made = is; is = refl; still = still }) of.made

  pub with_this_view : declared_view c user v ≡ Ok n → IsCatalogOf users (elements users before c of user v null n m) (with_view c n)
  with_this_view is = record {
    users_are = of.users_are;
    known = known_now users before c of user v null n m;
    count = count_now users before c of user v null n m;
    bases = bases_now users before c of user v null n m;
    few = few_now users before c of user v null n m;
    held = held_now;
    made = made_now is;
    on_columns = on_columns_now;
    granted = granted_now;
  }
