-- The privileges that a GRANT names, and the grants that it makes of them (ISO/IEC 9075:1992, 11.36).
use Rattle.std.proofs.Common.{◌≡◌, Bool, true, false, cond, not, ◌&&◌, ◌||◌, List, [], ◌∷◌, filter, map, Some, None, refl, sym, ap, subst, ◌∙◌}
use Rattle.std.proofs.lemmas.List.Folds.{list_any-append}
use Rattle.std.specs.List.{flat_map, list_all, list_any}
use Rattle.std.specs.Prelude.{if◌then◌else◌, ⊤}
use Rattle.std.proofs.lemmas.Bool.{false≢true, and_parts, not-false}
use Rattle.sq_value.proofs.Truths.{alike}
use Rattle.sq_lex.specs.declared.name.Name.{Name}
use Rattle.sq_tree.specs.declared.schema.Action.{Action}
use Rattle.sq_tree.specs.declared.schema.Action.TheVariants as action
use Rattle.sq_tree.specs.declared.schema.GrantStatement.{GrantStatement}
use Rattle.sq_tree.specs.declared.schema.Grantee.{Grantee}
use Rattle.sq_tree.specs.declared.schema.Grantee.TheVariants as grantee
use Rattle.sq_tree.specs.declared.schema.Privileges.{Privileges}
use Rattle.sq_tree.specs.declared.schema.Privileges.TheVariants as privileges
use Rattle.sq_meaning.specs.Environment.{TableName, same_name, same_table}
use Rattle.sq_meaning.specs.Spelled.{listed}
use Rattle.sq_meaning.specs.Privilege.{Privilege}
use Rattle.sq_meaning.specs.Privileges.{action_covers, covers, implies, is_grantee, is_on_column}
use Rattle.sq_meaning.specs.Schema.{is_among}
use Rattle.sq_meaning.specs.SchemaRefusal.{action_privileges, all_privileges, columns_granted, may_grant}
use Rattle.sq_meaning.specs.declared.refusal.SchemaFault.TheVariants as fault
use Rattle.sq_binding.proofs.Placing.SameParameters.{name_itself, names_equal}
use Rattle.sq_binding.specs.Catalog.{Grant, gives, is_granted_to, same_option, same_privilege}
use Rattle.sq_binding.specs.Grant.{grantee_user, grants_made, grants_to, is_empty, privileges_granted}
use Rattle.sq_binding.specs.ElementOutcome.{refused_if}
use Rattle.sq_binding.proofs.Schemas.Answers.{Tells, if_told, tells_made, tells_more}

-- ---- privileges

pub privilege_equal : (p q : Privilege) → same_privilege p q ≡ true → p ≡ q
privilege_equal Privilege.select Privilege.select e = refl
privilege_equal Privilege.insert Privilege.insert e = refl
privilege_equal Privilege.delete Privilege.delete e = refl
privilege_equal (Privilege.update a) (Privilege.update b) e = ap Privilege.update (names_equal a b e)
privilege_equal (Privilege.references a) (Privilege.references b) e = ap Privilege.references (names_equal a b e)
privilege_equal _ _ e = cc

abbrev pub is_named : Privilege → List Privilege → Bool
is_named p ps = list_any (λ q. same_privilege q p) ps

pub turned : (a b : Name) → same_name a b ≡ same_name b a
turned a b = alike (same_name a b) (same_name b a) (λ e. subst (λ c. same_name c a ≡ true) (names_equal a b e) (name_itself a)) (λ e. subst (λ c. same_name c b ≡ true) (names_equal b a e) (name_itself b))

-- a name is among names where its privilege is among theirs
updates_among : (c : Name) (names : List Name) → is_named (Privilege.update c) (map Privilege.update names) ≡ is_among names c
updates_among c [] = refl
updates_among c (n ∷ names) = λ i. turned n c i || updates_among c names i

references_among : (c : Name) (names : List Name) → is_named (Privilege.references c) (map Privilege.references names) ≡ is_among names c
references_among c [] = refl
references_among c (n ∷ names) = λ i. turned n c i || references_among c names i

none_updated : (p : Privilege) (names : List Name) → ((c : Name) → same_privilege (Privilege.update c) p ≡ false) → is_named p (map Privilege.update names) ≡ false
none_updated p [] h = refl
none_updated p (n ∷ names) h = λ i. h n i || none_updated p names h i

none_referenced : (p : Privilege) (names : List Name) → ((c : Name) → same_privilege (Privilege.references c) p ≡ false) → is_named p (map Privilege.references names) ≡ false
none_referenced p [] h = refl
none_referenced p (n ∷ names) h = λ i. h n i || none_referenced p names h i

-- ---- what an action names

-- an action names a privilege, on columns that are there, exactly where it covers it
action_names : (columns : List Name) (a : Action) (p : Privilege) → is_on_column columns p ≡ true → is_named p (action_privileges columns a) ≡ action_covers a p
action_names columns action.Select Privilege.select on = refl
action_names columns action.Select Privilege.insert on = refl
action_names columns action.Select Privilege.delete on = refl
action_names columns action.Select (Privilege.update c) on = refl
action_names columns action.Select (Privilege.references c) on = refl
action_names columns action.Insert Privilege.select on = refl
action_names columns action.Insert Privilege.insert on = refl
action_names columns action.Insert Privilege.delete on = refl
action_names columns action.Insert (Privilege.update c) on = refl
action_names columns action.Insert (Privilege.references c) on = refl
action_names columns action.Delete Privilege.select on = refl
action_names columns action.Delete Privilege.insert on = refl
action_names columns action.Delete Privilege.delete on = refl
action_names columns action.Delete (Privilege.update c) on = refl
action_names columns action.Delete (Privilege.references c) on = refl
action_names columns (action.Update list) Privilege.select on = none_updated Privilege.select (columns_granted columns list) (λ c. refl)
action_names columns (action.Update list) Privilege.insert on = none_updated Privilege.insert (columns_granted columns list) (λ c. refl)
action_names columns (action.Update list) Privilege.delete on = none_updated Privilege.delete (columns_granted columns list) (λ c. refl)
action_names columns (action.Update None) (Privilege.update c) on = updates_among c columns ∙ on
action_names columns (action.Update (Some list)) (Privilege.update c) on = updates_among c (listed list)
action_names columns (action.Update list) (Privilege.references c) on = none_updated (Privilege.references c) (columns_granted columns list) (λ d. refl)
action_names columns (action.References list) Privilege.select on = none_referenced Privilege.select (columns_granted columns list) (λ c. refl)
action_names columns (action.References list) Privilege.insert on = none_referenced Privilege.insert (columns_granted columns list) (λ c. refl)
action_names columns (action.References list) Privilege.delete on = none_referenced Privilege.delete (columns_granted columns list) (λ c. refl)
action_names columns (action.References list) (Privilege.update c) on = none_referenced (Privilege.update c) (columns_granted columns list) (λ d. refl)
action_names columns (action.References None) (Privilege.references c) on = references_among c columns ∙ on
action_names columns (action.References (Some list)) (Privilege.references c) on = references_among c (listed list)

actions_name : (columns : List Name) (p : Privilege) → is_on_column columns p ≡ true → (actions : List Action) → is_named p (flat_map (action_privileges columns) actions) ≡ list_any (λ a. action_covers a p) actions
actions_name columns p on [] = refl
actions_name columns p on (a ∷ actions) =
    list_any-append (λ q. same_privilege q p) (action_privileges columns a) (flat_map (action_privileges columns) actions) ∙ (λ i. action_names columns a p on i || actions_name columns p on actions i)

-- ---- what is held of what is named

held_is_named : (held : Privilege → Bool) (p : Privilege) → held p ≡ true → (ps : List Privilege) → is_named p (filter held ps) ≡ is_named p ps
held_is_named held p is [] = refl
held_is_named held p is (q ∷ ps) = by (held q) refl (same_privilege q p) refl (held_is_named held p is ps)
  where
    by : (b : Bool) → held q ≡ b → (s : Bool) → same_privilege q p ≡ s → is_named p (filter held ps) ≡ is_named p ps → is_named p (cond b (q ∷ filter held ps) (filter held ps)) ≡ (s || is_named p ps)
    by true keeps s same h = λ i. same i || h i
    by false keeps true same h = absurd (false≢true (sym keeps ∙ ap held (privilege_equal q p same) ∙ is))
    by false keeps false same h = h

all_held_named : (held : Privilege → Bool) (p : Privilege) → held p ≡ false → (ps : List Privilege) → list_all held ps ≡ true → is_named p ps ≡ false
all_held_named held p is [] all = refl
all_held_named held p is (q ∷ ps) all =
    let parts = and_parts (held q) (list_all held ps) all in
    by (same_privilege q p) refl parts.0 (all_held_named held p is ps parts.1)
  where
    by : (s : Bool) → same_privilege q p ≡ s → held q ≡ true → is_named p ps ≡ false → (s || is_named p ps) ≡ false
    by true same keeps h = absurd (false≢true (sym is ∙ ap held (sym (privilege_equal q p same)) ∙ keeps))
    by false same keeps h = h

filter_is_held : (held : Privilege → Bool) (ps : List Privilege) → list_all held (filter held ps) ≡ true
filter_is_held held [] = refl
filter_is_held held (q ∷ ps) = by (held q) refl (filter_is_held held ps)
  where
    by : (b : Bool) → held q ≡ b → list_all held (filter held ps) ≡ true → list_all held (cond b (q ∷ filter held ps) (filter held ps)) ≡ true
    by true keeps h = λ i. keeps i && h i
    by false keeps h = h

none_kept : (held : Privilege → Bool) (ps : List Privilege) → is_empty (filter held ps) ≡ not (list_any held ps)
none_kept held [] = refl
none_kept held (q ∷ ps) = by (held q) (none_kept held ps)
  where
    by : (b : Bool) → is_empty (filter held ps) ≡ not (list_any held ps) → is_empty (cond b (q ∷ filter held ps) (filter held ps)) ≡ not (b || list_any held ps)
    by true h = refl
    by false h = h

all_named : (columns : List Name) (p : Privilege) → is_on_column columns p ≡ true → is_named p (all_privileges columns) ≡ true
all_named columns Privilege.select on = refl
all_named columns Privilege.insert on = refl
all_named columns Privilege.delete on = refl
all_named columns (Privilege.update c) on =
    list_any-append (λ q. same_privilege q (Privilege.update c)) (map Privilege.update columns) (map Privilege.references columns) ∙ (λ i. (updates_among c columns ∙ on) i || is_named (Privilege.update c) (map Privilege.references columns))
all_named columns (Privilege.references c) on =
    list_any-append (λ q. same_privilege q (Privilege.references c)) (map Privilege.update columns) (map Privilege.references columns)
    ∙ (λ i. none_updated (Privilege.references c) columns (λ d. refl) i || (references_among c columns ∙ on) i)

-- the privileges that are granted: each is held, and of those that are held they are what is written
pub record AreGranted (held : Privilege → Bool) (columns : List Name) (written : Privileges) (ps : List Privilege) : Type 0 where
  pub all : list_all held ps ≡ true
  pub named : (p : Privilege) → is_on_column columns p ≡ true → held p ≡ true → is_named p ps ≡ covers written p

pub granted_told : (held : Privilege → Bool) (columns : List Name) (written : Privileges) → Tells fault.PrivilegeMissing (not (may_grant held columns written)) (AreGranted held columns written) (privileges_granted held columns written)
granted_told held columns privileges.All =
    tells_made fault.PrivilegeMissing (not (list_any held (all_privileges columns))) (λ u. ⊤) (AreGranted held columns privileges.All) (refused_if fault.PrivilegeMissing (is_empty (filter held (all_privileges columns)))) (λ u. filter held (all_privileges columns))
    (tells_more fault.PrivilegeMissing (not (list_any held (all_privileges columns))) (λ u. not (list_any held (all_privileges columns)) ≡ false) (λ u. ⊤) (refused_if fault.PrivilegeMissing (is_empty (filter held (all_privileges columns)))) (λ u v. tt)
    (if_told fault.PrivilegeMissing (is_empty (filter held (all_privileges columns))) (not (list_any held (all_privileges columns))) (none_kept held (all_privileges columns))))
    (λ u v. record { all = filter_is_held held (all_privileges columns); named = λ p on is. held_is_named held p is (all_privileges columns) ∙ all_named columns p on })
granted_told held columns (privileges.Actions actions) =
    tells_made fault.PrivilegeMissing (not (list_all held (flat_map (action_privileges columns) (listed actions)))) (λ u. not (list_all held (flat_map (action_privileges columns) (listed actions))) ≡ false) (AreGranted held columns (privileges.Actions actions))
    (refused_if fault.PrivilegeMissing (not (list_all held (flat_map (action_privileges columns) (listed actions))))) (λ u. flat_map (action_privileges columns) (listed actions))
    (if_told fault.PrivilegeMissing (not (list_all held (flat_map (action_privileges columns) (listed actions)))) (not (list_all held (flat_map (action_privileges columns) (listed actions)))) refl)
    (λ u e. record { all = not-false (list_all held (flat_map (action_privileges columns) (listed actions))) e; named = λ p on is. actions_name columns p on (listed actions) })

-- what is named is covered and held
pub granted_is : (held : Privilege → Bool) (columns : List Name) (written : Privileges) (ps : List Privilege) → AreGranted held columns written ps → (p : Privilege) → (held p ≡ true → is_on_column columns p ≡ true) → is_named p ps ≡ (covers written p && held p)
granted_is held columns written ps are p on = by (held p) refl
  where
    and_true : (b : Bool) → b ≡ (b && true)
    and_true true = refl
    and_true false = refl

    and_false : (b : Bool) → false ≡ (b && false)
    and_false true = refl
    and_false false = refl

    by : (b : Bool) → held p ≡ b → is_named p ps ≡ (covers written p && b)
    by true is = are.named p (on is) is ∙ and_true (covers written p)
    by false is = all_held_named held p is ps are.all ∙ and_false (covers written p)

-- ---- to whom it is granted

grantee_is : (g : Grantee) (who : Name) → is_granted_to (grantee_user g) who ≡ is_grantee who g
grantee_is grantee.Public who = refl
grantee_is (grantee.User name) who = refl

module _ (grantable : Bool) (who : Name) (to : TableName) (p : Privilege) (t : TableName) (ps : List Privilege) where
  abbrev given : List Grant → Bool
  given gs = list_any (gives grantable who to p) gs

  abbrev S : Bool
  S = same_table t to

  abbrev Q : Bool
  Q = is_named p ps

  spread : (a b s : Bool) (f : Privilege → Bool) (qs : List Privilege) → list_any (λ q. a && b && s && f q) qs ≡ (a && b && (s && list_any f qs))
  spread true true true f qs = refl
  spread true true false f [] = refl
  spread true true false f (q ∷ qs) = spread true true false f qs
  spread true false s f [] = refl
  spread true false s f (q ∷ qs) = spread true false s f qs
  spread false b s f [] = refl
  spread false b s f (q ∷ qs) = spread false b s f qs

  any_map : {A B : Type 0} (f : A → B) (test : B → Bool) (xs : List A) → list_any test (map f xs) ≡ list_any (λ x. test (f x)) xs
  any_map f test [] = refl
  any_map f test (x ∷ xs) = ap (λ b. test (f x) || b) (any_map f test xs)

  to_one : (to_grant : Bool) (g : Grantee) → given (grants_to t ps to_grant g) ≡ (same_option to_grant grantable && is_grantee who g && (S && Q))
  to_one to_grant g =
      any_map (λ q. record { user = grantee_user g; table = t; privilege = q; to_grant = to_grant }) (gives grantable who to p) ps
      ∙ spread (same_option to_grant grantable) (is_granted_to (grantee_user g) who) S (λ q. same_privilege q p) ps
      ∙ ap (λ b. same_option to_grant grantable && b && (S && Q)) (grantee_is g who)

  gathered : (a b c r : Bool) → ((a && b && r) || (a && c && r)) ≡ (a && (b || c) && r)
  gathered false b c r = refl
  gathered true true c true = refl
  gathered true true true false = refl
  gathered true true false false = refl
  gathered true false c r = refl

  to_none : (a r : Bool) → false ≡ (a && false && r)
  to_none true r = refl
  to_none false r = refl

  to_each : (to_grant : Bool) (gs : List Grantee) → given (flat_map (grants_to t ps to_grant) gs) ≡ (same_option to_grant grantable && list_any (is_grantee who) gs && (S && Q))
  to_each to_grant [] = to_none (same_option to_grant grantable) (S && Q)
  to_each to_grant (g ∷ gs) =
      list_any-append (gives grantable who to p) (grants_to t ps to_grant g) (flat_map (grants_to t ps to_grant) gs)
      ∙ (λ i. to_one to_grant g i || to_each to_grant gs i)
      ∙ gathered (same_option to_grant grantable) (is_grantee who g) (list_any (is_grantee who) gs) (S && Q)

  optional : (b : Bool) (gs : List Grantee) → given (if b then flat_map (grants_to t ps true) gs else []) ≡ (b && given (flat_map (grants_to t ps true) gs))
  optional true gs = refl
  optional false gs = refl

  turns : (o g r : Bool) (grantable : Bool) → ((same_option false grantable && g && r) || (o && (same_option true grantable && g && r))) ≡ (g && r && implies grantable o)
  turns true true true true = refl
  turns true true true false = refl
  turns true true false true = refl
  turns true true false false = refl
  turns true false r true = refl
  turns true false r false = refl
  turns false true true true = refl
  turns false true true false = refl
  turns false true false true = refl
  turns false true false false = refl
  turns false false r true = refl
  turns false false r false = refl

  pub made_gives : (g : GrantStatement) → given (grants_made t ps g) ≡ (list_any (is_grantee who) (listed g.grantees) && (S && Q) && implies grantable g.grant_option)
  made_gives g =
      list_any-append (gives grantable who to p) (flat_map (grants_to t ps false) (listed g.grantees)) (if g.grant_option then flat_map (grants_to t ps true) (listed g.grantees) else [])
      ∙ (λ i. to_each false (listed g.grantees) i || (optional g.grant_option (listed g.grantees) ∙ ap (λ b. g.grant_option && b) (to_each true (listed g.grantees))) i)
      ∙ turns g.grant_option (list_any (is_grantee who) (listed g.grantees)) (S && Q) grantable
