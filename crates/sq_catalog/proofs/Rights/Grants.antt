-- The set of grants is the definitions' list of them (ISO/IEC 9075:1992, 10.3): grants that are compared by `==`.
use Rattle.std.proofs.Common.{◌≡◌, Bool, true, false, ◌&&◌, ◌||◌, List, [], ◌∷◌, ◌++◌, map, Option, Some, None, refl, ◌∙◌}
use Rattle.std.proofs.lemmas.List.{map-append}
use Rattle.std.specs.List.{list_any}
use Rattle.std.specs.Option.{option_eq}
use Rattle.std.specs.Bool.{beq}
use Rattle.std.specs.Prelude.{if◌then◌else◌}
use Rattle.sq_lex.specs.declared.name.Name.{Name}
use Rattle.sq_meaning.specs.Environment.{TableName, same_name, same_table}
use Rattle.sq_meaning.specs.Privilege as rules
use Rattle.sq_binding.specs.Catalog as definition
use Rattle.sq_binding.specs.Catalog.{gives, same_grant, same_holder, same_option, same_privilege, with_grant}
use Rattle.sq_binding.proofs.Schemas.GrantsAdded.{by_name_or_public}
use Rattle.indexmap.specs.IndexSet.{insert_key}
use Rattle.sq_catalog.specs.Exact.{name_in}
use Rattle.sq_catalog.specs.Held.{grant_seen, privilege_of}
use Rattle.sq_catalog.specs.contracts.held.GrantPartialEq.TheImpl as grants
use Rattle.sq_catalog.specs.contracts.privilege.PrivilegePartialEq.TheImpl as privileges
use Rattle.sq_catalog.specs.declared.held.Grant.{Grant}
use Rattle.sq_catalog.specs.declared.privilege.Privilege.{Privilege}
use Rattle.sq_catalog.specs.declared.privilege.Privilege.TheVariants as privilege

-- the test that the set uses
abbrev pub equal : Grant → Grant → Bool
equal = grants.eq-value.it

privileges_equal : (p q : Privilege) → privileges.eq-value.it p q ≡ same_privilege (privilege_of p) (privilege_of q)
privileges_equal privilege.Select privilege.Select = refl
privileges_equal privilege.Insert privilege.Insert = refl
privileges_equal privilege.Delete privilege.Delete = refl
privileges_equal (privilege.Update a) (privilege.Update b) = refl
privileges_equal (privilege.References a) (privilege.References b) = refl
privileges_equal _ _ = refl

holders_equal : (u v : Option Name) → option_eq same_name u v ≡ same_holder u v
holders_equal (Some a) (Some b) = refl
holders_equal None None = refl
holders_equal _ _ = refl

options_equal : (a b : Bool) → beq a b ≡ same_option a b
options_equal true true = refl
options_equal true false = refl
options_equal false true = refl
options_equal false false = refl

grants_equal : (g h : Grant) → equal g h ≡ same_grant (grant_seen g) (grant_seen h)
grants_equal g h =
    (λ i. holders_equal g.user h.user i && (same_table (name_in g.table) (name_in h.table) && (privileges_equal g.privilege h.privilege i && options_equal g.to_grant h.to_grant i)))
    ∙ assoc (same_holder g.user h.user) (same_table (name_in g.table) (name_in h.table)) (same_privilege (privilege_of g.privilege) (privilege_of h.privilege)) (same_option g.to_grant h.to_grant)
  where
    assoc : (a b c d : Bool) → (a && (b && (c && d))) ≡ (a && b && c && d)
    assoc true true true d = refl
    assoc true true false d = refl
    assoc true false c d = refl
    assoc false b c d = refl

pub any_equal : (g : Grant) (ks : List Grant) → list_any (equal g) ks ≡ list_any (same_grant (grant_seen g)) (map grant_seen ks)
any_equal g [] = refl
any_equal g (k ∷ ks) = λ i. grants_equal g k i || any_equal g ks i

pub inserted : (g : Grant) (ks : List Grant) → map grant_seen (insert_key equal ks g) ≡ with_grant (map grant_seen ks) (grant_seen g)
inserted g ks = by (list_any (equal g) ks) (list_any (same_grant (grant_seen g)) (map grant_seen ks)) (any_equal g ks)
  where
    by : (a b : Bool) → a ≡ b → map grant_seen (if a then ks else ks ++ g ∷ []) ≡ (if b then map grant_seen ks else map grant_seen ks ++ grant_seen g ∷ [])
    by true true e = refl
    by false false e = map-append grant_seen ks (g ∷ [])
    by true false e = cc
    by false true e = cc

-- ---- by name, or as one of PUBLIC

any_of_two : (f g h : definition.Grant → Bool) → ((k : definition.Grant) → (f k || g k) ≡ h k) → (ks : List definition.Grant) → (list_any f ks || list_any g ks) ≡ list_any h ks
any_of_two f g h each [] = refl
any_of_two f g h each (k ∷ ks) = turned (f k) (g k) (list_any f ks) (list_any g ks) ∙ (λ i. each k i || any_of_two f g h each ks i)
  where
    turned : (a b c d : Bool) → ((a || c) || (b || d)) ≡ ((a || b) || (c || d))
    turned true b c d = refl
    turned false true true d = refl
    turned false true false d = refl
    turned false false c d = refl

pub given : (to_grant : Bool) (user : Name) (t : TableName) (p : rules.Privilege) (ks : List definition.Grant)
    → (list_any (same_grant (record { user = Some user; table = t; privilege = p; to_grant = to_grant })) ks || list_any (same_grant (record { user = None; table = t; privilege = p; to_grant = to_grant })) ks) ≡ list_any (gives to_grant user t p) ks
given to_grant user t p ks = any_of_two _ _ (gives to_grant user t p) (by_name_or_public to_grant user t p) ks
