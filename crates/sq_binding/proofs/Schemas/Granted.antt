-- GRANT is accepted exactly if the rules refuse nothing of it. Its grants are the ones that the rules say it gives (ISO/IEC 9075:1992,
-- 11.36).
use Rattle.std.proofs.Common.{◌≡◌, Bool, true, false, not, ◌&&◌, ◌||◌, List, [], ◌∷◌, Option, Some, None, refl, sym, ap, subst, ◌∙◌}
use Rattle.std.specs.List.{flat_map, list_any}
use Rattle.std.specs.Prelude.{if◌then◌else◌, find, is_none, nat_lt}
use Rattle.std.proofs.lemmas.Bool.{false≢true}
use Rattle.sq_value.proofs.Truths.{or_assoc_left}
use Rattle.sq_lex.specs.declared.name.Name.{Name}
use Rattle.sq_tree.specs.declared.schema.GrantStatement.{GrantStatement}
use Rattle.sq_tree.specs.declared.schema.SchemaElement.TheVariants as element
use Rattle.sq_meaning.specs.Environment.{TableName, same_table}
use Rattle.sq_meaning.specs.Spelled.{listed, table_of}
use Rattle.sq_meaning.specs.Privilege.{Privilege}
use Rattle.sq_meaning.specs.Privileges.{chain, covers, grant_gives, implies, is_grantee, is_on_column}
use Rattle.sq_meaning.specs.Schema.{Elements}
use Rattle.sq_meaning.specs.SchemaRefusal.{action_columns, action_repeats, actions_of, columns_of_made, grant_unknown, has_unknown, is_made, may_grant, other_schema, privilege_lacking, refused_for, schema_faults, too_many_tables, with_element}
use Rattle.sq_meaning.specs.Words.{is_some_and}
use Rattle.sq_meaning.specs.declared.refusal.SchemaFault.{SchemaFault}
use Rattle.sq_meaning.specs.declared.refusal.SchemaFault.TheVariants as fault
use Rattle.sq_binding.specs.Catalog.{Catalog, Entry, Grant, entry, entry_column_names, gives, may, may_on, owns, with_grants}
use Rattle.sq_binding.specs.Grant.{declared_grants, grants_made, privileges_granted, with_granted}
use Rattle.sq_binding.specs.ElementOutcome.{or_fault, refused_if}
use Rattle.sq_binding.proofs.Schemas.Answers.{Answers, answers_end, answers_then, behind, first_broken, if_told, one_rule, tells_at, tells_made, tells_there}
use Rattle.sq_binding.proofs.Schemas.KnownTables.{IsCatalogOf, IsMadeOf, Known, made_columns, same_known, there_is_made}
use Rattle.sq_binding.proofs.Schemas.Made.{made_still}
use Rattle.sq_binding.proofs.Schemas.Names.{table_same}
use Rattle.sq_binding.proofs.Schemas.GrantedPrivileges.{AreGranted, granted_is, granted_told, made_gives}
use Rattle.sq_binding.proofs.Schemas.GrantsAdded.{given_with_grants}

module _ (users : List Name) (before : Elements) (c : Catalog) (of : IsCatalogOf users before c) (user : Name) (g : GrantStatement) where
  abbrev name : TableName
  name = table_of user g.table

  abbrev elements : Elements
  elements = with_element before user (element.Grant g)

  abbrev columns : List Name
  columns = columns_of_made before name

  abbrev held : Privilege → Bool
  held p = may c true user name p

  abbrev named : List Name
  named = flat_map action_columns (actions_of g.privileges)

  -- what is granted
  pub record IsGranted (gs : List Grant) : Type 0 where
    pub on : Entry
    pub there : entry c name ≡ Some on
    pub ps : List Privilege
    pub are : AreGranted held (entry_column_names on) g.privileges ps
    pub made : gs ≡ grants_made name ps g

  abbrev pub grant_rules : List (SchemaFault × Bool)
  grant_rules =
      (fault.UnknownName, not (is_made before name)) ∷ (fault.UnknownName, has_unknown columns named) ∷ (fault.PrivilegeMissing, privilege_lacking before user (element.Grant g))
      ∷ (fault.OtherSchema, other_schema user (element.Grant g)) ∷ []

  absent : (o : Option Entry) → Known before name o → is_none o ≡ not (is_made before name)
  absent None h = sym (ap not h.not_made)
  absent (Some e) h = ap not (there_is_made before name (Some e) h)

  columns_are : (e : Entry) → entry c name ≡ Some e → columns ≡ entry_column_names e
  columns_are e at = made_columns before name e (subst (Known before name) at (of.known name))

  lacking : (e : Entry) → entry c name ≡ Some e → not (may_grant held (entry_column_names e) g.privileges) ≡ privilege_lacking before user (element.Grant g)
  lacking e at = λ i. not (may_grant (λ p. of.held true user name p i) (sym (columns_are e at) i) g.privileges)

  pub grants_told : Answers grant_rules IsGranted (declared_grants c user g)
  grants_told =
      answers_then fault.UnknownName _ (behind grant_rules) (λ e. entry c name ≡ Some e) IsGranted (or_fault fault.UnknownName (entry c name)) _
      (tells_at fault.UnknownName (is_none (entry c name)) (not (is_made before name)) (λ e. entry c name ≡ Some e) (or_fault fault.UnknownName (entry c name)) (absent (entry c name) (of.known name)) (tells_there fault.UnknownName (entry c name)))
      (λ e at. answers_then fault.UnknownName _ (behind (behind grant_rules)) (λ u. has_unknown columns named ≡ false) IsGranted (refused_if fault.UnknownName (has_unknown (entry_column_names e) named)) _
      (if_told fault.UnknownName (has_unknown (entry_column_names e) named) (has_unknown columns named) (ap (λ names. has_unknown names named) (sym (columns_are e at))))
      (λ u v. answers_then fault.PrivilegeMissing _ (behind (behind (behind grant_rules))) (AreGranted held (entry_column_names e) g.privileges) IsGranted (privileges_granted held (entry_column_names e) g.privileges) _
      (tells_at fault.PrivilegeMissing (not (may_grant held (entry_column_names e) g.privileges)) (privilege_lacking before user (element.Grant g)) (AreGranted held (entry_column_names e) g.privileges) (privileges_granted held (entry_column_names e) g.privileges)
      (lacking e at) (granted_told held (entry_column_names e) g.privileges))
      (λ ps are. answers_end fault.OtherSchema (other_schema user (element.Grant g)) IsGranted _
      (tells_made fault.OtherSchema (other_schema user (element.Grant g)) (λ w. other_schema user (element.Grant g) ≡ false) IsGranted (refused_if fault.OtherSchema (list_any action_repeats (actions_of g.privileges))) (λ w. grants_made name ps g)
      (if_told fault.OtherSchema (list_any action_repeats (actions_of g.privileges)) (other_schema user (element.Grant g)) refl)
      (λ w x. record { on = e; there = at; ps = ps; are = are; made = refl })))))

  few_left : too_many_tables before user (element.Grant g) ≡ false
  few_left = ap (nat_lt 1000) of.count ∙ of.few

  -- the first of these rules is the first of the rules' order
  pub grant_first : first_broken grant_rules ≡ find (refused_for before user (element.Grant g)) schema_faults
  grant_first =
      one_rule fault.UnknownName (not (is_made before name)) (has_unknown columns named) later
      ∙ ap (λ o. if grant_unknown before user g then Some fault.UnknownName else (if privilege_lacking before user (element.Grant g) then Some fault.PrivilegeMissing else (if other_schema user (element.Grant g) then Some fault.OtherSchema else o)))
      (ap (λ b. if b then Some fault.TooManyTables else None) (sym few_left))
    where
      later : List (SchemaFault × Bool)
      later = (fault.PrivilegeMissing, privilege_lacking before user (element.Grant g)) ∷ (fault.OtherSchema, other_schema user (element.Grant g)) ∷ []

  -- ---- the catalog

  module _ (gs : List Grant) (m : IsGranted gs) where
    on_column : (p : Privilege) → held p ≡ true → is_on_column (entry_column_names m.on) p ≡ true
    on_column p is = of.on_columns true user name p m.on m.there is

    abbrev G : Name → Bool
    G who = list_any (is_grantee who) (listed g.grantees)

    -- what is given is what the rules say
    given_is : (grantable : Bool) (who : Name) (to : TableName) (p : Privilege) → list_any (gives grantable who to p) gs ≡ (G who && (same_table name to && (covers g.privileges p && held p)) && implies grantable g.grant_option)
    given_is grantable who to p =
        ap (list_any (gives grantable who to p)) m.made ∙ made_gives grantable who to p name m.ps g
        ∙ ap (λ b. G who && (same_table name to && b) && implies grantable g.grant_option) (granted_is held (entry_column_names m.on) g.privileges m.ps m.are p (on_column p))

    gift : (grantable : Bool) (who : Name) (to : TableName) (p : Privilege) → list_any (gives grantable who to p) gs ≡ grant_gives (chain before) user g grantable who to p
    gift grantable who to p = given_is grantable who to p ∙ by (same_table name to) refl
      where
        turns : (x y z w : Bool) → (x && (true && (y && z)) && w) ≡ (true && y && x && w && z)
        turns true true true true = refl
        turns true true true false = refl
        turns true true false true = refl
        turns true true false false = refl
        turns true false z true = refl
        turns true false z false = refl
        turns false true z w = refl
        turns false false z w = refl

        never : (x y z w v : Bool) → (x && (false && (y && z)) && w) ≡ (false && y && x && w && v)
        never true y z w v = refl
        never false y z w v = refl

        by : (s : Bool) → same_table name to ≡ s → (G who && (s && (covers g.privileges p && held p)) && implies grantable g.grant_option) ≡ (s && covers g.privileges p && G who && implies grantable g.grant_option && chain before true user to p)
        by true is =
            turns (G who) (covers g.privileges p) (held p) (implies grantable g.grant_option)
            ∙ ap (λ h. true && covers g.privileges p && G who && implies grantable g.grant_option && h) (of.held true user name p ∙ ap (λ n. chain before true user n p) (table_same name to is))
        by false is = never (G who) (covers g.privileges p) (held p) (implies grantable g.grant_option) (chain before true user to p)

    none_given : (grantable : Bool) (who : Name) (to : TableName) (p : Privilege) → same_table name to ≡ false → list_any (gives grantable who to p) gs ≡ false
    none_given grantable who to p is = given_is grantable who to p ∙ ap (λ s. G who && (s && (covers g.privileges p && held p)) && implies grantable g.grant_option) is ∙ never (G who)
      where
        never : (x : Bool) → (x && (false && (covers g.privileges p && held p)) && implies grantable g.grant_option) ≡ false
        never true = refl
        never false = refl

    -- a table that isn't there is another
    other : (to : TableName) → entry c to ≡ None → same_table name to ≡ false
    other to none = by (same_table name to) refl
      where
        by : (s : Bool) → same_table name to ≡ s → same_table name to ≡ false
        by false is = is
        by true is = let two : Some m.on ≡ None = sym m.there ∙ ap (entry c) (table_same name to is) ∙ none in cc

    or_assoc : (a b d : Bool) → (a || (b || d)) ≡ (d || (a || b))
    or_assoc true true true = refl
    or_assoc true true false = refl
    or_assoc true false true = refl
    or_assoc true false false = refl
    or_assoc false true true = refl
    or_assoc false true false = refl
    or_assoc false false true = refl
    or_assoc false false false = refl

    held_now : (grantable : Bool) (who : Name) (to : TableName) (p : Privilege) → may (with_granted c gs) grantable who to p ≡ chain elements grantable who to p
    held_now grantable who to p = by (entry c to) refl
      where
        by : (o : Option Entry) → entry c to ≡ o → is_some_and (may_on (with_granted c gs) grantable who to p) o ≡ (grant_gives (chain before) user g grantable who to p || chain before grantable who to p)
        by None at =
            λ i. (sym (none_given grantable who to p (other to at)) ∙ gift grantable who to p) i || (sym (ap (is_some_and (may_on c grantable who to p)) at) ∙ of.held grantable who to p) i
        by (Some e) at =
            ap (λ b. owns who to e && is_on_column (entry_column_names e) p || b) (given_with_grants grantable who to p c.grants gs)
            ∙ or_assoc (owns who to e && is_on_column (entry_column_names e) p) (list_any (gives grantable who to p) c.grants) (list_any (gives grantable who to p) gs)
            ∙ (λ i. gift grantable who to p i || (sym (ap (is_some_and (may_on c grantable who to p)) at) ∙ of.held grantable who to p) i)

    granted_now : (to : TableName) → entry c to ≡ None → (grantable : Bool) (who : Name) (p : Privilege) → list_any (gives grantable who to p) (with_grants c.grants gs) ≡ false
    granted_now to none grantable who p =
        given_with_grants grantable who to p c.grants gs ∙ (λ i. of.granted to none grantable who p i || none_given grantable who to p (other to none) i)

    on_columns_now : (grantable : Bool) (who : Name) (to : TableName) (p : Privilege) (e : Entry) → entry c to ≡ Some e → may (with_granted c gs) grantable who to p ≡ true → is_on_column (entry_column_names e) p ≡ true
    on_columns_now grantable who to p e at is =
        by (may_on c grantable who to p e) refl (same_table name to) refl
        (sym (or_assoc_left (owns who to e && is_on_column (entry_column_names e) p) (list_any (gives grantable who to p) c.grants) (list_any (gives grantable who to p) gs))
        ∙ sym (ap (λ b. owns who to e && is_on_column (entry_column_names e) p || b) (given_with_grants grantable who to p c.grants gs))
        ∙ sym (ap (is_some_and (may_on (with_granted c gs) grantable who to p)) at) ∙ is)
      where
        last : (x y z : Bool) → (x && (true && (y && z)) && implies grantable g.grant_option) ≡ true → z ≡ true
        last true true true e = refl
        last true true false e = cc
        last true false z e = cc
        last false y z e = cc

        by : (b : Bool) → may_on c grantable who to p e ≡ b → (s : Bool) → same_table name to ≡ s → (b || list_any (gives grantable who to p) gs) ≡ true → is_on_column (entry_column_names e) p ≡ true
        by true may_it s same h = of.on_columns grantable who to p e at (ap (is_some_and (may_on c grantable who to p)) at ∙ may_it)
        by false lacks false same h = absurd (false≢true (sym (none_given grantable who to p same) ∙ h))
        by false lacks true same h =
            let is_it = last (G who) (covers g.privileges p) (held p) (sym (given_is grantable who to p ∙ ap (λ s. G who && (s && (covers g.privileges p && held p)) && implies grantable g.grant_option) same) ∙ h) in
            of.on_columns true user to p e at (ap (λ n. may c true user n p) (sym (table_same name to same)) ∙ is_it)

    -- a grant makes neither a base table nor a view
    made_elsewhere : IsMadeOf before (with_granted c gs) → IsMadeOf elements (with_granted c gs)
    made_elsewhere h = record { bases = h.bases; base_places = h.base_places; views = h.views; view_places = h.view_places }

    pub with_these_grants : IsCatalogOf users elements (with_granted c gs)
    with_these_grants = record {
      users_are = of.users_are;
      known = λ to. same_known before elements refl to refl (entry c to) (of.known to);
      count = of.count;
      bases = of.bases;
      few = of.few;
      held = held_now;
      made = made_elsewhere (made_still before c (with_granted c gs) refl refl (λ to e at. at) of.made);
      on_columns = on_columns_now;
      granted = granted_now;
    }
