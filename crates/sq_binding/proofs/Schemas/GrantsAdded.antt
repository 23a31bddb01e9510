-- Grants that are added once give the same as the earlier and the new ones together. A grant gives a privilege to a user if it is one to
-- the user or to PUBLIC (ISO/IEC 9075:1992, 10.3 and 11.36).
use Rattle.std.proofs.Common.{◌≡◌, Bool, true, false, ◌&&◌, ◌||◌, List, [], ◌∷◌, ◌++◌, Option, Some, None, refl, subst, sym, ap, ◌∙◌}
use Rattle.std.proofs.lemmas.List.Folds.{list_any-append}
use Rattle.std.specs.List.{list_any}
use Rattle.std.specs.Prelude.{if◌then◌else◌}
use Rattle.std.proofs.lemmas.Bool.{and_parts}
use Rattle.sq_value.proofs.Truths.{alike, or_false, or_assoc}
use Rattle.sq_lex.specs.declared.name.Name.{Name}
use Rattle.sq_meaning.specs.Environment.{TableName, same_name, same_table}
use Rattle.sq_meaning.specs.Privilege.{Privilege}
use Rattle.sq_binding.proofs.Placing.SameParameters.{name_itself, names_equal}
use Rattle.sq_binding.specs.Catalog.{Grant, gives, is_granted_to, same_grant, same_holder, same_option, same_privilege, with_grant, with_grants}
use Rattle.sq_binding.proofs.Schemas.Names.{table_itself, table_same}

-- ---- what is the same is equal

privilege_same : (p q : Privilege) → same_privilege p q ≡ true → p ≡ q
privilege_same Privilege.select Privilege.select e = refl
privilege_same Privilege.insert Privilege.insert e = refl
privilege_same Privilege.delete Privilege.delete e = refl
privilege_same (Privilege.update a) (Privilege.update b) e = ap Privilege.update (names_equal a b e)
privilege_same (Privilege.references a) (Privilege.references b) e = ap Privilege.references (names_equal a b e)
privilege_same _ _ e = cc

holder_same : (a b : Option Name) → same_holder a b ≡ true → a ≡ b
holder_same None None e = refl
holder_same (Some a) (Some b) e = ap Some (names_equal a b e)
holder_same _ _ e = cc

option_same : (a b : Bool) → same_option a b ≡ true → a ≡ b
option_same true true e = refl
option_same false false e = refl
option_same _ _ e = cc

grant_same : (g h : Grant) → same_grant g h ≡ true → g ≡ h
grant_same g h e =
    let option = and_parts (same_holder g.user h.user && same_table g.table h.table && same_privilege g.privilege h.privilege) (same_option g.to_grant h.to_grant) e in
    let privilege = and_parts (same_holder g.user h.user && same_table g.table h.table) (same_privilege g.privilege h.privilege) option.0 in
    let parts = and_parts (same_holder g.user h.user) (same_table g.table h.table) privilege.0 in
    λ i. record {
      user = holder_same g.user h.user parts.0 i;
      table = table_same g.table h.table parts.1 i;
      privilege = privilege_same g.privilege h.privilege privilege.1 i;
      to_grant = option_same g.to_grant h.to_grant option.1 i;
    }

-- ---- it is the same the other way round

name_turned : (a b : Name) → same_name a b ≡ same_name b a
name_turned a b = alike (same_name a b) (same_name b a) (λ e. subst (λ n. same_name n a ≡ true) (names_equal a b e) (name_itself a)) (λ e. subst (λ n. same_name n b ≡ true) (names_equal b a e) (name_itself b))

table_turned : (s t : TableName) → same_table s t ≡ same_table t s
table_turned s t = alike (same_table s t) (same_table t s) (λ e. subst (λ n. same_table n s ≡ true) (table_same s t e) (table_itself s)) (λ e. subst (λ n. same_table n t ≡ true) (table_same t s e) (table_itself t))

privilege_turned : (p q : Privilege) → same_privilege p q ≡ same_privilege q p
privilege_turned Privilege.select Privilege.select = refl
privilege_turned Privilege.insert Privilege.insert = refl
privilege_turned Privilege.delete Privilege.delete = refl
privilege_turned (Privilege.update a) (Privilege.update b) = name_turned a b
privilege_turned (Privilege.references a) (Privilege.references b) = name_turned a b
privilege_turned _ _ = refl

option_turned : (a b : Bool) → same_option a b ≡ same_option b a
option_turned true true = refl
option_turned true false = refl
option_turned false true = refl
option_turned false false = refl

-- ---- what is given

module _ (grantable : Bool) (who : Name) (t : TableName) (p : Privilege) where
  abbrev given : List Grant → Bool
  given gs = list_any (gives grantable who t p) gs

  -- a grant that is there already gives nothing more
  gives_no_more : (grants : List Grant) (g : Grant) → list_any (same_grant g) grants ≡ true → given grants ≡ (given grants || gives grantable who t p g)
  gives_no_more [] g e = cc
  gives_no_more (h ∷ grants) g e = by (same_grant g h) refl e (gives_no_more grants g)
    where
      first : (a b : Bool) → (a || b) ≡ ((a || b) || a)
      first true b = refl
      first false b = sym (or_false b)

      later : (a b d : Bool) → b ≡ (b || d) → (a || b) ≡ ((a || b) || d)
      later true b d e = refl
      later false b d e = e

      by : (same : Bool) → same_grant g h ≡ same → (same || list_any (same_grant g) grants) ≡ true → (list_any (same_grant g) grants ≡ true → given grants ≡ (given grants || gives grantable who t p g))
          → given (h ∷ grants) ≡ (given (h ∷ grants) || gives grantable who t p g)
      by true is e rest = first (gives grantable who t p h) (given grants) ∙ ap (λ it. given (h ∷ grants) || gives grantable who t p it) (sym (grant_same g h is))
      by false is e rest = later (gives grantable who t p h) (given grants) (gives grantable who t p g) (rest e)

  given_with_grant : (grants : List Grant) (g : Grant) → given (with_grant grants g) ≡ (given grants || gives grantable who t p g)
  given_with_grant grants g = by (list_any (same_grant g) grants) refl
    where
      by : (is : Bool) → list_any (same_grant g) grants ≡ is → given (if is then grants else grants ++ g ∷ []) ≡ (given grants || gives grantable who t p g)
      by true is = gives_no_more grants g is
      by false is = list_any-append (gives grantable who t p) grants (g ∷ []) ∙ ap (λ b. given grants || b) (or_false (gives grantable who t p g))

  pub given_with_grants : (grants new : List Grant) → given (with_grants grants new) ≡ (given grants || given new)
  given_with_grants grants [] = sym (or_false (given grants))
  given_with_grants grants (g ∷ new) =
      given_with_grants (with_grant grants g) new ∙ ap (λ b. b || given new) (given_with_grant grants g) ∙ or_assoc (given grants) (gives grantable who t p g) (given new)

  -- ---- to the user by name, or to PUBLIC

  abbrev to_holder : Option Name → Grant
  to_holder user = record { user = user; table = t; privilege = p; to_grant = grantable }

  reordered : (h x y z : Bool) → ((h && x && y && z) || false) ≡ (z && h && x && y)
  reordered true true true true = refl
  reordered true true true false = refl
  reordered true true false true = refl
  reordered true true false false = refl
  reordered true false y true = refl
  reordered true false y false = refl
  reordered false x y true = refl
  reordered false x y false = refl

  module _ (g : Grant) where
    abbrev T : Bool
    T = same_table t g.table

    abbrev P : Bool
    P = same_privilege p g.privilege

    abbrev O : Bool
    O = same_option grantable g.to_grant

    turned : (h : Bool) → (O && h && T && P) ≡ (same_option g.to_grant grantable && h && same_table g.table t && same_privilege g.privilege p)
    turned h = λ i. option_turned grantable g.to_grant i && h && table_turned t g.table i && privilege_turned p g.privilege i

    of_holder : (user : Option Name) → ((same_holder (Some who) user && T && P && O) || (same_holder None user && T && P && O))
        ≡ (same_option g.to_grant grantable && is_granted_to user who && same_table g.table t && same_privilege g.privilege p)
    of_holder None = sym (or_false (T && P && O)) ∙ reordered true T P O ∙ turned true
    of_holder (Some name) =
        reordered (same_name who name) T P O ∙ turned (same_name who name)
        ∙ ap (λ h. same_option g.to_grant grantable && h && same_table g.table t && same_privilege g.privilege p) (name_turned who name)

    pub by_name_or_public : (same_grant (to_holder (Some who)) g || same_grant (to_holder None) g) ≡ gives grantable who t p g
    by_name_or_public = of_holder g.user
