-- The privileges that a view's owner is granted, as the rules say that the view gives them (ISO/IEC 9075:1992, 11.19). Laws of the grants,
-- and of the columns that an updatable query shows.
use Rattle.std.proofs.Common.{◌≡◌, ℕ, zero, suc, ◌+◌, Bool, true, false, ◌&&◌, ◌||◌, List, [], ◌∷◌, arith, length, map, Option, Some, None, Ok, Err, refl, sym, ap, ◌∙◌}
use Rattle.std.proofs.lemmas.List.Folds.{list_any-append}
use Rattle.std.specs.List.{AllZip, enumerate_from, flat_map, list_any, zip}
use Rattle.std.specs.Option.{option_and_then, option_map}
use Rattle.std.specs.Prelude.{is_some, option_to_list, slice_get}
use Rattle.sq_value.proofs.Truths.{and_false}
use Rattle.sq_lex.specs.declared.name.Name.{Name}
use Rattle.sq_meaning.specs.Environment.{Item, TableName, same_name, same_table}
use Rattle.sq_meaning.specs.Spelled.{Named, listed, select_of, table_of}
use Rattle.sq_meaning.specs.Status as status
use Rattle.sq_meaning.specs.Syntax.{Expr, added, bracketed, column, count_rows, literal, parameter, scaled, set_function, signed, user}
use Rattle.sq_meaning.specs.Tables.{ColumnDescriptor, TableDescriptor}
use Rattle.sq_meaning.specs.Target.{Source, places_of, shown_column}
use Rattle.sq_meaning.specs.Privilege.{Privilege}
use Rattle.sq_meaning.specs.Catalog.{tables_of, view_descriptor}
use Rattle.sq_meaning.specs.Privileges.{chain, covers, gives as gives_now, holds_underneath, implies, is_grantee, privilege_underneath, updatable_here, view_gives_owner}
use Rattle.sq_meaning.specs.Schema.{Elements, has_name_twice, place_among}
use Rattle.sq_tree.specs.declared.schema.SchemaElement.{SchemaElement}
use Rattle.sq_tree.specs.declared.schema.SchemaElement.TheVariants as element
use Rattle.sq_tree.specs.declared.schema.ViewDefinition.{ViewDefinition}
use Rattle.sq_meaning.specs.Words.{is_some_and}
use Rattle.sq_binding.specs.From.{column_over}
use Rattle.sq_binding.specs.Numbered.{Numbered}
use Rattle.sq_binding.specs.Select.{column_of_item}
use Rattle.sq_binding.proofs.OneTable.ShownColumns.{IsShownAs}
use Rattle.sq_binding.specs.Catalog.{Catalog, Grant, gives, may, same_option, same_privilege}
use Rattle.sq_binding.specs.CreateView.{column_shown, followed, owner_grants, updates}
use Rattle.sq_binding.proofs.Schemas.Names.{among_apart, none_later, position_there}
use Rattle.sq_binding.proofs.Schemas.GrantedPrivileges.{turned}

-- ---- the grants of an owner

module _ (grantable : Bool) (who : Name) (to : TableName) (p : Privilege) where
  abbrev given : List Grant → Bool
  given gs = list_any (gives grantable who to p) gs

  one_grant : (g A B S : Bool) → ((same_option false g && A && B && S) || false) ≡ (A && B && (true && implies g false && S))
  one_grant false true true true = refl
  one_grant false true true false = refl
  one_grant false true false S = refl
  one_grant false false B S = refl
  one_grant true true true S = refl
  one_grant true true false S = refl
  one_grant true false B S = refl

  two_grants : (g A B S : Bool) → ((same_option false g && A && B && S) || ((same_option true g && A && B && S) || false)) ≡ (A && B && (true && implies g true && S))
  two_grants false true true true = refl
  two_grants false true true false = refl
  two_grants false true false S = refl
  two_grants false false B S = refl
  two_grants true true true true = refl
  two_grants true true true false = refl
  two_grants true true false S = refl
  two_grants true false B S = refl

  no_grant_at_all : (A B i S : Bool) → false ≡ (A && B && (false && i && S))
  no_grant_at_all true true i S = refl
  no_grant_at_all true false i S = refl
  no_grant_at_all false B i S = refl

  module _ (owner : Name) (t : TableName) where
    abbrev A : Bool
    A = same_name owner who

    abbrev B : Bool
    B = same_table t to

    pub owner_given : (held can : Bool) (q : Privilege) → given (owner_grants owner t held can q) ≡ (A && B && (held && implies grantable can && same_privilege q p))
    owner_given false can q = no_grant_at_all A B (implies grantable can) (same_privilege q p)
    owner_given true false q = one_grant grantable A B (same_privilege q p)
    owner_given true true q = two_grants grantable A B (same_privilege q p)

    gathered : (a b x y : Bool) → ((a && b && x) || (a && b && y)) ≡ (a && b && (x || y))
    gathered true true x y = refl
    gathered true false x y = refl
    gathered false b x y = refl

    to_none : (a b : Bool) → false ≡ (a && b && false)
    to_none true true = refl
    to_none true false = refl
    to_none false b = refl

    module _ (c : Catalog) (under : TableName) where
      abbrev pub is_followed : Privilege × Privilege → Bool
      is_followed q = may c false owner under q.1 && implies grantable (may c true owner under q.1) && same_privilege q.0 p

      pub followed_given : (qs : List (Privilege × Privilege)) → given (flat_map (followed c owner t under) qs) ≡ (A && B && list_any is_followed qs)
      followed_given [] = to_none A B
      followed_given (q ∷ qs) =
          list_any-append (gives grantable who to p) (followed c owner t under q) (flat_map (followed c owner t under) qs)
          ∙ (λ i. owner_given (may c false owner under q.1) (may c true owner under q.1) q.0 i || followed_given qs i)
          ∙ gathered A B (is_followed q) (list_any is_followed qs)

-- ---- who holds a privilege with the grant option holds it

module _ (before : Elements) (weaker_before : (user : Name) (t : TableName) (p : Privilege) → chain before true user t p ≡ true → chain before false user t p ≡ true) where
  under_weaker : (owner : Name) (d : TableDescriptor) (p : Privilege) (o : Option Source) → is_some_and (λ source. holds_underneath (chain before) owner true d source p) o ≡ true → is_some_and (λ source. holds_underneath (chain before) owner false d source p) o ≡ true
  under_weaker owner d p None e = cc
  under_weaker owner d p (Some source) e = by (privilege_underneath d source p) e
    where
      by : (q : Option Privilege) → is_some_and (chain before true owner source.item.reference.table) q ≡ true → is_some_and (chain before false owner source.item.reference.table) q ≡ true
      by None e = cc
      by (Some q) e = weaker_before owner source.item.reference.table q e

  owner_weaker : (owner : Name) (v : ViewDefinition) (p : Privilege) → view_gives_owner (chain before) (tables_of before) owner v true p ≡ true → view_gives_owner (chain before) (tables_of before) owner v false p ≡ true
  owner_weaker owner v Privilege.select e = refl
  owner_weaker owner v Privilege.insert e = under_weaker owner (view_descriptor (tables_of before) owner v) Privilege.insert (updatable_here (tables_of before) (select_of owner v.query)) e
  owner_weaker owner v Privilege.delete e = under_weaker owner (view_descriptor (tables_of before) owner v) Privilege.delete (updatable_here (tables_of before) (select_of owner v.query)) e
  owner_weaker owner v (Privilege.update c) e = under_weaker owner (view_descriptor (tables_of before) owner v) (Privilege.update c) (updatable_here (tables_of before) (select_of owner v.query)) e
  owner_weaker owner v (Privilege.references c) e = under_weaker owner (view_descriptor (tables_of before) owner v) (Privilege.references c) (updatable_here (tables_of before) (select_of owner v.query)) e

  with_owner : (a b x y : Bool) → (x ≡ true → y ≡ true) → (a && b && x) ≡ true → (a && b && y) ≡ true
  with_owner true true x y h e = h e
  with_owner true false x y h e = cc
  with_owner false b x y h e = cc

  with_option : (s k l o h : Bool) → (s && k && l && implies true o && h) ≡ true → (s && k && l && implies false o && h) ≡ true
  with_option true true true true h e = e
  with_option true true true false h e = cc
  with_option true true false o h e = cc
  with_option true false l o h e = cc
  with_option false k l o h e = cc

  gift_weaker : (owner : Name) (e : SchemaElement) (who : Name) (t : TableName) (p : Privilege) → gives_now (chain before) (tables_of before) owner e true who t p ≡ true → gives_now (chain before) (tables_of before) owner e false who t p ≡ true
  gift_weaker owner (element.Table d) who t p h = h
  gift_weaker owner (element.View v) who t p h =
      with_owner (same_name owner who) (same_table (table_of owner v.name) t) (view_gives_owner (chain before) (tables_of before) owner v true p) (view_gives_owner (chain before) (tables_of before) owner v false p) (owner_weaker owner v p) h
  gift_weaker owner (element.Grant g) who t p h =
      with_option (same_table (table_of owner g.table) t) (covers g.privileges p) (list_any (is_grantee who) (listed g.grantees)) g.grant_option (chain before true owner t p) h

pub chain_weaker : (elements : Elements) (owner : Name) (t : TableName) (p : Privilege) → chain elements true owner t p ≡ true → chain elements false owner t p ≡ true
chain_weaker [] owner t p e = cc
chain_weaker (x ∷ before) owner t p e =
    either (gives_now (chain before) (tables_of before) x.user x.element true owner t p) (chain before true owner t p) e (gift_weaker before (chain_weaker before) x.user x.element owner t p) (chain_weaker before owner t p)
  where
    either : (a b : Bool) → (a || b) ≡ true → (a ≡ true → gives_now (chain before) (tables_of before) x.user x.element false owner t p ≡ true) → (b ≡ true → chain before false owner t p ≡ true)
        → (gives_now (chain before) (tables_of before) x.user x.element false owner t p || chain before false owner t p) ≡ true
    either true b e h g = ap (λ a. a || chain before false owner t p) (h refl)
    either false b e h g = by (gives_now (chain before) (tables_of before) x.user x.element false owner t p) (g e)
      where
        by : (a : Bool) → chain before false owner t p ≡ true → (a || chain before false owner t p) ≡ true
        by true e = refl
        by false e = e

-- ---- columns that are shown

places_alike : {A B : Type 0} (f : A → B) (n : ℕ) (xs : List A) → map (λ p. p.0) (enumerate_from n (map f xs)) ≡ map (λ p. p.0) (enumerate_from n xs)
places_alike f n [] = refl
places_alike f n (x ∷ xs) = ap (λ l. n ∷ l) (places_alike f (n + 1) xs)

-- `*`
pub star_columns : (n : ℕ) (cs : List ColumnDescriptor) → map column_shown (map (λ c. c.tree) (map (column_of_item 0) (map column_over (enumerate_from n cs)))) ≡ map Some (map (λ p. p.0) (enumerate_from n cs))
star_columns n [] = refl
star_columns n (c ∷ cs) = ap (λ l. Some n ∷ l) (star_columns (n + 1) cs)

pub star_places : (cs : List ColumnDescriptor) → places_of (map (λ c. c.name) cs) ≡ places_of cs
star_places cs = places_alike (λ (c : ColumnDescriptor). c.name) 0 cs

shown_place : (item : Item) (e : Expr Named) (t : Numbered) → IsShownAs item e t → (n : ℕ) → shown_column item e ≡ Ok n → column_shown t ≡ Some n
shown_place item (column c) t h n e =
    let there : status.well_formed (Some h.0.column) ≡ Ok n = ap status.well_formed (sym h.2) ∙ e in
    let same : h.0.column ≡ n = cc in
    ap column_shown h.1 ∙ ap Some same
shown_place item (literal v) t h n e = cc
shown_place item (parameter p) t h n e = cc
shown_place item user t h n e = cc
shown_place item count_rows t h n e = cc
shown_place item (set_function f distinct x) t h n e = cc
shown_place item (signed sign x) t h n e = cc
shown_place item (added sign x y) t h n e = cc
shown_place item (scaled sign x y) t h n e = cc
shown_place item (bracketed x) t h n e = cc

pub shown_places : (item : Item) (es : List (Expr Named)) (ts : List Numbered) → AllZip (IsShownAs item) es ts → (ks : List ℕ) → status.each (shown_column item) es ≡ Ok ks → map column_shown ts ≡ map Some ks
shown_places item [] [] h ks e = let same : [] ≡ ks = cc in ap (map Some) same
shown_places item [] (t ∷ ts) h ks e = absurd h
shown_places item (x ∷ es) [] h ks e = absurd h
shown_places item (x ∷ es) (t ∷ ts) h ks e = by (shown_column item x) (λ n is. shown_place item x t h.0 n is) refl (status.each (shown_column item) es) (λ ks is. shown_places item es ts h.1 ks is) refl e
  where
    by : (o : status.Outcome ℕ) → ((n : ℕ) → shown_column item x ≡ Ok n → column_shown t ≡ Some n) → shown_column item x ≡ o
        → (rest : status.Outcome (List ℕ)) → ((ks : List ℕ) → status.each (shown_column item) es ≡ Ok ks → map column_shown ts ≡ map Some ks) → status.each (shown_column item) es ≡ rest
        → status.and_then o (λ k. status.and_then rest (λ ks. Ok (k ∷ ks))) ≡ Ok ks → column_shown t ∷ map column_shown ts ≡ map Some ks
    by (Err s) here is rest later are e = cc
    by (Ok k) here is (Err s) later are e = cc
    by (Ok k) here is (Ok ms) later are e = let same : k ∷ ms ≡ ks = cc in (λ i. here k is i ∷ later ms are i) ∙ ap (map Some) same

-- ---- what is followed

module _ (us : List Name) (H : Privilege → Bool) where
  abbrev pub is_held_at : Option ℕ → Bool
  is_held_at o = is_some_and (λ below. H (Privilege.update below)) (option_and_then (slice_get us) o)

  abbrev test : Name × Numbered → Bool
  test z = is_held_at (column_shown z.1)

  zip_shown : (ns : List Name) (ts : List Numbered) (ks : List ℕ) → length ns ≡ length ts → map column_shown ts ≡ map Some ks → (n : ℕ) → is_some_and test (slice_get (zip ns ts) n) ≡ is_held_at (slice_get ks n)
  zip_shown [] [] [] same shown n = refl
  zip_shown [] [] (k ∷ ks) same shown n = cc
  zip_shown [] (t ∷ ts) ks same shown n = cc
  zip_shown (m ∷ ns) [] ks same shown n = cc
  zip_shown (m ∷ ns) (t ∷ ts) [] same shown n = cc
  zip_shown (m ∷ ns) (t ∷ ts) (k ∷ ks) same shown zero = let first : column_shown t ≡ Some k = cc in ap is_held_at first
  zip_shown (m ∷ ns) (t ∷ ts) (k ∷ ks) same shown (suc n) =
      let rest : map column_shown ts ≡ map Some ks = cc in
      let count : length ns ≡ length ts = omega (arith, same) in
      zip_shown ns ts ks count rest n

  zipped_names : (ns : List Name) (ts : List Numbered) → length ns ≡ length ts → map (λ z. z.0) (zip ns ts) ≡ ns
  zipped_names [] ts same = refl
  zipped_names (m ∷ ns) [] same = cc
  zipped_names (m ∷ ns) (t ∷ ts) same = let count : length ns ≡ length ts = omega (arith, same) in ap (λ l. m ∷ l) (zipped_names ns ts count)

  abbrev in_pair : Privilege → Privilege × Privilege → Bool
  in_pair p q = H q.1 && same_privilege q.0 p

  and_turn : (a b : Bool) → ((a && b) || false) ≡ (b && a)
  and_turn true true = refl
  and_turn true false = refl
  and_turn false true = refl
  and_turn false false = refl

  no_update : (p : Privilege) → ((n : Name) → same_privilege (Privilege.update n) p ≡ false) → (zs : List (Name × Numbered)) → list_any (in_pair p) (flat_map (updates us) zs) ≡ false
  no_update p never [] = refl
  no_update p never (z ∷ zs) =
      list_any-append (in_pair p) (updates us z) (flat_map (updates us) zs) ∙ (λ i. one (option_and_then (slice_get us) (column_shown z.1)) i || no_update p never zs i)
    where
      one : (o : Option Name) → list_any (in_pair p) (option_to_list (option_map (λ name. (Privilege.update z.0, Privilege.update name)) o)) ≡ false
      one None = refl
      one (Some below) = λ i. (ap (λ b. H (Privilege.update below) && b) (never z.0) ∙ and_false (H (Privilege.update below))) i || false

  one_update : (col : Name) (zs : List (Name × Numbered)) → list_any (in_pair (Privilege.update col)) (flat_map (updates us) zs) ≡ list_any (λ z. same_name col z.0 && test z) zs
  one_update col [] = refl
  one_update col (z ∷ zs) =
      list_any-append (in_pair (Privilege.update col)) (updates us z) (flat_map (updates us) zs) ∙ (λ i. one (option_and_then (slice_get us) (column_shown z.1)) i || one_update col zs i)
    where
      one : (o : Option Name) → list_any (in_pair (Privilege.update col)) (option_to_list (option_map (λ name. (Privilege.update z.0, Privilege.update name)) o)) ≡ (same_name col z.0 && is_some_and (λ below. H (Privilege.update below)) o)
      one None = sym (and_false (same_name col z.0))
      one (Some below) = and_turn (H (Privilege.update below)) (same_name z.0 col) ∙ ap (λ b. b && H (Privilege.update below)) (turned z.0 col)

  -- each column has a name of its own, and these are the columns underneath
  module _ (ns : List Name) (ts : List Numbered) (ks : List ℕ) (same : length ns ≡ length ts) (shown : map column_shown ts ≡ map Some ks) (apart : has_name_twice ns ≡ false) where
    update_is : (col : Name) → list_any (λ z. same_name col z.0 && test z) (zip ns ts) ≡ is_held_at (option_and_then (slice_get ks) (place_among ns col))
    update_is col = by (place_among ns col) refl
      where
        names_are : map (λ z. z.0) (zip ns ts) ≡ ns
        names_are = zipped_names ns ts same

        by : (o : Option ℕ) → place_among ns col ≡ o → list_any (λ z. same_name col z.0 && test z) (zip ns ts) ≡ is_held_at (option_and_then (slice_get ks) o)
        by None at = none_later (λ z. z.0) test col (zip ns ts) (ap (list_any (same_name col)) names_are ∙ sym (position_there (same_name col) ns) ∙ ap is_some at)
        by (Some n) at = among_apart (λ z. z.0) test col (zip ns ts) (ap has_name_twice names_are ∙ apart) n (ap (λ names. place_among names col) names_are ∙ at) ∙ zip_shown ns ts ks same shown n

    abbrev pub below : Privilege → Option Privilege
    below Privilege.insert = Some Privilege.insert
    below Privilege.delete = Some Privilege.delete
    below (Privilege.update col) = option_map Privilege.update (option_and_then (slice_get us) (option_and_then (slice_get ks) (place_among ns col)))
    below _ = None

    abbrev all : List (Privilege × Privilege)
    all = (Privilege.insert, Privilege.insert) ∷ (Privilege.delete, Privilege.delete) ∷ flat_map (updates us) (zip ns ts)

    two_no : (a b c : Bool) → c ≡ false → ((a && false) || ((b && false) || c)) ≡ false
    two_no true true c e = e
    two_no true false c e = e
    two_no false true c e = e
    two_no false false c e = e

    first_yes : (a b c : Bool) → c ≡ false → ((a && true) || ((b && false) || c)) ≡ a
    first_yes true b c e = refl
    first_yes false true c e = e
    first_yes false false c e = e

    second_yes : (a b c : Bool) → c ≡ false → ((a && false) || ((b && true) || c)) ≡ b
    second_yes true true c e = refl
    second_yes true false c e = e
    second_yes false true c e = refl
    second_yes false false c e = e

    last_yes : (a b c : Bool) → ((a && false) || ((b && false) || c)) ≡ c
    last_yes true true c = refl
    last_yes true false c = refl
    last_yes false true c = refl
    last_yes false false c = refl

    mapped : (o : Option Name) → is_some_and (λ below. H (Privilege.update below)) o ≡ is_some_and H (option_map Privilege.update o)
    mapped None = refl
    mapped (Some x) = refl

    pub followed_is : (p : Privilege) → list_any (in_pair p) all ≡ is_some_and H (below p)
    followed_is Privilege.select = two_no (H Privilege.insert) (H Privilege.delete) (list_any (in_pair Privilege.select) (flat_map (updates us) (zip ns ts))) (no_update Privilege.select (λ n. refl) (zip ns ts))
    followed_is Privilege.insert = first_yes (H Privilege.insert) (H Privilege.delete) (list_any (in_pair Privilege.insert) (flat_map (updates us) (zip ns ts))) (no_update Privilege.insert (λ n. refl) (zip ns ts))
    followed_is Privilege.delete = second_yes (H Privilege.insert) (H Privilege.delete) (list_any (in_pair Privilege.delete) (flat_map (updates us) (zip ns ts))) (no_update Privilege.delete (λ n. refl) (zip ns ts))
    followed_is (Privilege.update col) =
        last_yes (H Privilege.insert) (H Privilege.delete) (list_any (in_pair (Privilege.update col)) (flat_map (updates us) (zip ns ts))) ∙ one_update col (zip ns ts) ∙ update_is col
        ∙ mapped (option_and_then (slice_get us) (option_and_then (slice_get ks) (place_among ns col)))
    followed_is (Privilege.references col) =
        two_no (H Privilege.insert) (H Privilege.delete) (list_any (in_pair (Privilege.references col)) (flat_map (updates us) (zip ns ts))) (no_update (Privilege.references col) (λ n. refl) (zip ns ts))
