-- The key that a reference is to, and how its columns pair, are found exactly if the rules find that the reference is good (ISO/IEC
-- 9075:1992, 11.8).
use Rattle.std.proofs.Common.{◌≡◌, ℕ, zero, suc, ◌+◌, Bool, true, false, cond, not, ◌&&◌, ◌||◌, List, [], ◌∷◌, length, map, Option, Some, None, refl, sym, ap, subst, ◌∙◌}
use Rattle.std.proofs.lemmas.Bool.{eq-eqb, and_parts, or_parts, or_right}
use Rattle.std.specs.Bool.{beq}
use Rattle.std.specs.List.{AllZip, cons_option, enumerate_from, filter_map, list_all, list_any, zip}
use Rattle.std.specs.Option.{option_and_then, option_map, option_or}
use Rattle.std.specs.Prelude.{◌==◌, find, if◌then◌else◌, is_some, nat_eq, nat_lt, position, slice_get, unwrap_or}
use Rattle.sq_lex.specs.declared.name.Name.{Name}
use Rattle.sq_value.specs.Domain.{is_of_numbers, kind_of}
use Rattle.sq_value.specs.declared.domain.Domain.{Domain}
use Rattle.sq_value.specs.declared.domain.Domain.TheVariants as domain
use Rattle.sq_value.specs.declared.domain.Kind.{Kind}
use Rattle.sq_tree.specs.declared.list.CommaList.{CommaList}
use Rattle.sq_tree.specs.declared.schema.ColumnDefinition.{ColumnDefinition}
use Rattle.sq_tree.specs.declared.schema.References.{References}
use Rattle.sq_tree.specs.declared.schema.TableDefinition.{TableDefinition}
use Rattle.sq_meaning.specs.Environment.{same_name}
use Rattle.sq_meaning.specs.Spelled.{domain_of, listed}
use Rattle.sq_meaning.specs.Catalog.{column_domain}
use Rattle.sq_meaning.specs.Schema as rules
use Rattle.sq_meaning.specs.Schema.{Constraint, column_definitions, constraints, has_name_twice, is_among, key_columns, place_among, primary_columns, referenced_columns, table_columns}
use Rattle.sq_meaning.specs.SchemaRefusal.{domain_of_column, has_unknown, is_key, pairs_well}
use Rattle.sq_meaning.specs.SchemaRefusal as refusal
use Rattle.sq_meaning.specs.Words.{has_twice, is_some_and}
use Rattle.sq_binding.specs.Key.{has_bad_key, is_bad_list, is_primary, most_key_columns, primary_place}
use Rattle.sq_binding.specs.Reference.{ReferencedKey, ReferencedTable, are_of_one_sort, are_paired, are_the_same, is_numeric, key_at, key_listed, names_at, primary_key, referenced_key}
use Rattle.sq_binding.proofs.Schemas.Names.{IsPlaced, any_placed, as_long, position_at, position_step}
use Rattle.sq_binding.proofs.Schemas.KnownTables.{AreListed}
use Rattle.sq_binding.proofs.Schemas.Subsets.{same_members}
use Rattle.sq_binding.proofs.Placing.SameParameters.{name_itself, names_equal}

-- A table as its references see it is that of its definition.
pub record IsTarget (t : TableDefinition) (r : ReferencedTable) : Type 0 where
  pub names : r.names ≡ table_columns t
  pub kinds : AllZip (λ (d : ColumnDefinition) kind. option_map kind_of (domain_of d.data_type) ≡ Some kind) (column_definitions t) r.kinds
  pub keys : AllZip (AllZip (IsPlaced (table_columns t))) (rules.keys t) r.keys
  pub primary : r.primary_key ≡ primary_place t
  pub lists : has_bad_key t r.keys ≡ false

-- ---- names at positions

pub names_placed : (names wanted : List Name) (ns : List ℕ) → AllZip (IsPlaced names) wanted ns → names_at names ns ≡ wanted
names_placed names [] [] h = refl
names_placed names [] (n ∷ ns) h = absurd h
names_placed names (a ∷ wanted) [] h = absurd h
names_placed names (a ∷ wanted) (n ∷ ns) h =
    let x = position_at (same_name a) names n h.0 in
    ap (λ o. cons_option o (names_at names ns)) (x.1 ∙ ap Some (sym (names_equal a x.0 x.2))) ∙ ap (λ l. a ∷ l) (names_placed names wanted ns h.1)

-- ---- kinds

turned : (a b : Name) → same_name a b ≡ same_name b a
turned a b = by (same_name a b) refl (same_name b a) refl
  where
    by : (x : Bool) → same_name a b ≡ x → (y : Bool) → same_name b a ≡ y → x ≡ y
    by true is true of = refl
    by false is false of = refl
    by true is false of = sym (sym of ∙ ap (λ c. same_name b c) (names_equal a b is) ∙ name_itself b)
    by false is true of = sym is ∙ ap (λ c. same_name a c) (names_equal b a of) ∙ name_itself a

abbrev pub IsKindOf : ColumnDefinition → Kind → Type 0
IsKindOf d kind = option_map kind_of (domain_of d.data_type) ≡ Some kind

abbrev pub column_kind : ColumnDefinition → Kind
column_kind d = kind_of (column_domain d)

kind_itself : (o : Option Domain) (x : Kind) → option_map kind_of o ≡ Some x → Some (kind_of (unwrap_or o domain.Int)) ≡ Some x
kind_itself (Some d) x e = e
kind_itself None x e = cc

-- a column's kind, by its name and by its position
kind_placed : (name : Name) (ds : List ColumnDefinition) (kinds : List Kind) → AllZip IsKindOf ds kinds → (n : ℕ) → IsPlaced (map (λ c. c.name) ds) name n
    → option_map column_kind (find (λ c. same_name c.name name) ds) ≡ slice_get kinds n
kind_placed name [] [] h n e = cc
kind_placed name [] (x ∷ kinds) h n e = absurd h
kind_placed name (d ∷ ds) [] h n e = absurd h
kind_placed name (d ∷ ds) (x ∷ kinds) h n e =
    ap (λ b. option_map column_kind (cond b (Some d) (find (λ c. same_name c.name name) ds))) (turned d.name name)
    ∙ by (λ m at. kind_placed name ds kinds h.1 m at) (same_name name d.name) (place_among (map (λ c. c.name) ds) name) refl n (sym (position_step (same_name name) d.name (map (λ c. c.name) ds)) ∙ e)
  where
    by : ((m : ℕ) → IsPlaced (map (λ c. c.name) ds) name m → option_map column_kind (find (λ c. same_name c.name name) ds) ≡ slice_get kinds m) → (b : Bool) (o : Option ℕ) → place_among (map (λ c. c.name) ds) name ≡ o
        → (n : ℕ) → (if b then Some 0 else option_map suc o) ≡ Some n → option_map column_kind (cond b (Some d) (find (λ c. same_name c.name name) ds)) ≡ slice_get (x ∷ kinds) n
    by later true o at zero e = kind_itself (domain_of d.data_type) x h.0
    by later true o at (suc n) e = cc
    by later false None at n e = cc
    by later false (Some m) at zero e = cc
    by later false (Some m) at (suc n) e = let same : m ≡ n = cc in later n (at ∙ ap Some same)

-- ---- how columns pair

module _ (t target : TableDefinition) (own theirs : List Kind) (of : AllZip IsKindOf (column_definitions t) own) (to : AllZip IsKindOf (column_definitions target) theirs) where
  of_numbers : (d : Domain) → is_of_numbers d ≡ is_numeric (kind_of d)
  of_numbers domain.Small = refl
  of_numbers domain.Int = refl
  of_numbers (domain.Numeric p s) = refl
  of_numbers (domain.Char n) = refl
  of_numbers (domain.VarChar n) = refl

  sorts : (o p : Option Domain) → refusal.are_of_one_sort o p ≡ are_of_one_sort (option_map kind_of o) (option_map kind_of p)
  sorts None p = refl
  sorts (Some d) None = refl
  sorts (Some d) (Some e) = λ i. beq (of_numbers d i) (of_numbers e i)

  kind_found : (name : Name) (ds : List ColumnDefinition) → option_map kind_of (option_map column_domain (find (λ c. same_name c.name name) ds)) ≡ option_map column_kind (find (λ c. same_name c.name name) ds)
  kind_found name ds = by (find (λ c. same_name c.name name) ds)
    where
      by : (o : Option ColumnDefinition) → option_map kind_of (option_map column_domain o) ≡ option_map column_kind o
      by None = refl
      by (Some d) = refl

  pair_sorted : (a : Name) (n : ℕ) → IsPlaced (table_columns t) a n → (b : Name) (w : ℕ) → IsPlaced (table_columns target) b w → refusal.are_paired t target (a, b) ≡ are_paired own theirs (n, w)
  pair_sorted a n h b w g =
      sorts (domain_of_column t a) (domain_of_column target b)
      ∙ (λ i. are_of_one_sort ((kind_found a (column_definitions t) ∙ kind_placed a (column_definitions t) own of n h) i) ((kind_found b (column_definitions target) ∙ kind_placed b (column_definitions target) theirs to w g) i))

  pub all_paired : (names : List Name) (ns : List ℕ) → AllZip (IsPlaced (table_columns t)) names ns → (wanted : List Name) (ws : List ℕ) → AllZip (IsPlaced (table_columns target)) wanted ws
      → list_all (refusal.are_paired t target) (zip names wanted) ≡ list_all (are_paired own theirs) (zip ns ws)
  all_paired [] [] h wanted ws g = refl
  all_paired [] (n ∷ ns) h wanted ws g = absurd h
  all_paired (a ∷ names) [] h wanted ws g = absurd h
  all_paired (a ∷ names) (n ∷ ns) h [] [] g = refl
  all_paired (a ∷ names) (n ∷ ns) h [] (w ∷ ws) g = absurd g
  all_paired (a ∷ names) (n ∷ ns) h (b ∷ wanted) [] g = absurd g
  all_paired (a ∷ names) (n ∷ ns) h (b ∷ wanted) (w ∷ ws) g =
      λ i. pair_sorted a n h.0 b w g.0 i && all_paired names ns h.1 wanted ws g.1 i

-- ---- keys by names and by positions

not_any : {A : Type 0} (f : A → Bool) (xs : List A) → not (list_any (λ x. not (f x)) xs) ≡ list_all f xs
not_any f [] = refl
not_any f (x ∷ xs) = by (f x) (not_any f xs)
  where
    by : (b : Bool) → not (list_any (λ x. not (f x)) xs) ≡ list_all f xs → not (not b || list_any (λ x. not (f x)) xs) ≡ (b && list_all f xs)
    by true h = h
    by false h = refl

module _ (names : List Name) where
  abbrev Placed : List Name → List ℕ → Type 0
  Placed = AllZip (IsPlaced names)

  all_among : (wanted : List Name) (ns : List ℕ) → Placed wanted ns → (key : List Name) (ks : List ℕ) → Placed key ks → list_all (is_among key) wanted ≡ list_all (λ n. list_any (nat_eq n) ks) ns
  all_among [] [] h key ks g = refl
  all_among [] (n ∷ ns) h key ks g = absurd h
  all_among (a ∷ wanted) [] h key ks g = absurd h
  all_among (a ∷ wanted) (n ∷ ns) h key ks g = λ i. any_placed names a n h.0 key ks g i && all_among wanted ns h.1 key ks g i

  no_twice : (ns : List ℕ) → is_bad_list ns ≡ false → has_twice nat_eq ns ≡ false
  no_twice ns e = (or_parts (nat_lt most_key_columns (length ns)) (has_twice nat_eq ns) e).1

  module _ (wanted : List Name) (ns : List ℕ) (at : Placed wanted ns) (good : is_bad_list ns ≡ false) where
    key_same : (key : List Name) (ks : List ℕ) → Placed key ks → is_bad_list ks ≡ false → is_key wanted key ≡ are_the_same ns ks
    key_same key ks h fine =
        (λ i. as_long (IsPlaced names) wanted ns at i == as_long (IsPlaced names) key ks h i && (not_any (is_among key) wanted ∙ all_among wanted ns at key ks h) i)
        ∙ sym (same_members ns ks (no_twice ns good) (no_twice ks fine))

    pub keys_same : (keys : List (List Name)) (all : List (List ℕ)) → AllZip Placed keys all → list_any is_bad_list all ≡ false → list_any (is_key wanted) keys ≡ list_any (are_the_same ns) all
    keys_same [] [] h fine = refl
    keys_same [] (ks ∷ all) h fine = absurd h
    keys_same (key ∷ keys) [] h fine = absurd h
    keys_same (key ∷ keys) (ks ∷ all) h fine =
        let parts = or_parts (is_bad_list ks) (list_any is_bad_list all) fine in
        λ i. key_same key ks h.0 parts.0 i || keys_same keys all h.1 parts.1 i

-- ---- the primary key

-- the first primary key is this one of the keys
abbrev IsFirst : List Constraint → Option ℕ → Type 0
IsFirst ks None = slice_get (filter_map primary_columns ks) 0 ≡ None
IsFirst ks (Some n) = (names : List Name) × (slice_get (filter_map primary_columns ks) 0 ≡ Some names) × (slice_get (filter_map key_columns ks) n ≡ Some names)

abbrev flagged : Bool → Bool
flagged primary = primary

first_primary : (ks : List Constraint) → IsFirst ks (position flagged (filter_map is_primary ks))
first_primary [] = refl
first_primary (Constraint.not_null n ∷ ks) = first_primary ks
first_primary (Constraint.unique ns ∷ ks) = subst (IsFirst (Constraint.unique ns ∷ ks)) (sym (position_step flagged false (filter_map is_primary ks))) (later (position flagged (filter_map is_primary ks)) (first_primary ks))
  where
    later : (o : Option ℕ) → IsFirst ks o → IsFirst (Constraint.unique ns ∷ ks) (option_map suc o)
    later None h = h
    later (Some n) h = h
first_primary (Constraint.primary_key ns ∷ ks) = subst (IsFirst (Constraint.primary_key ns ∷ ks)) (sym (position_step flagged true (filter_map is_primary ks))) (ns, refl, refl)
first_primary (Constraint.referential ns r ∷ ks) = first_primary ks
first_primary (Constraint.check c ∷ ks) = first_primary ks

zip_at : {A B : Type 0} (R : A → B → Type 0) (xs : List A) (ys : List B) → AllZip R xs ys → (n : ℕ) (x : A) → slice_get xs n ≡ Some x → (y : B) × (slice_get ys n ≡ Some y) × R x y
zip_at R [] [] h n x e = cc
zip_at R [] (y ∷ ys) h n x e = absurd h
zip_at R (z ∷ xs) [] h n x e = absurd h
zip_at R (z ∷ xs) (y ∷ ys) h zero x e = let same : z ≡ x = cc in (y, refl, subst (λ x. R x y) same h.0)
zip_at R (z ∷ xs) (y ∷ ys) h (suc n) x e = zip_at R xs ys h.1 n x e

any_at : {A : Type 0} (test : A → Bool) (xs : List A) (n : ℕ) (x : A) → slice_get xs n ≡ Some x → test x ≡ true → list_any test xs ≡ true
any_at test [] n x e t = cc
any_at test (y ∷ ys) zero x e t = let same : y ≡ x = cc in ap (λ b. b || list_any test ys) (ap test same ∙ t)
any_at test (y ∷ ys) (suc n) x e t = by (test y) (any_at test ys n x e t)
  where
    by : (b : Bool) → list_any test ys ≡ true → (b || list_any test ys) ≡ true
    by true h = refl
    by false h = h

all_among_more : (names more : List Name) → list_all (is_among more) names ≡ true → (name : Name) → list_all (is_among (name ∷ more)) names ≡ true
all_among_more [] more e name = refl
all_among_more (n ∷ names) more e name =
    let parts = and_parts (is_among more n) (list_all (is_among more) names) e in
    λ i. or_right (same_name n name) (is_among more n) parts.0 i && all_among_more names more parts.1 name i

all_among_itself : (names : List Name) → list_all (is_among names) names ≡ true
all_among_itself [] = refl
all_among_itself (n ∷ names) = λ i. (ap (λ b. b || is_among names n) (name_itself n)) i && all_among_more names names (all_among_itself names) n i

key_itself : (names : List Name) → is_key names names ≡ true
key_itself names = λ i. eq-eqb (length names) (length names) refl i && (not_any (is_among names) names ∙ all_among_itself names) i

-- ---- the key that is referenced

module _ (target : TableDefinition) (r : ReferencedTable) (is : IsTarget target r) (to : References) where
  abbrev is_there : Option (List Name) → Bool
  is_there o = is_some_and (λ wanted. list_any (is_key wanted) (rules.keys target)) o

  -- the columns of the referenced key are those that the rules find
  pub record IsKeyOf (key : ReferencedKey) : Type 0 where
    pub wanted : List Name
    pub referenced : referenced_columns target to ≡ Some wanted
    pub placed : AllZip (IsPlaced (table_columns target)) wanted key.columns_listed
    pub keyed : list_any (is_key wanted) (rules.keys target) ≡ true

  abbrev pub IfKey : Option ReferencedKey → Type 0
  IfKey (Some key) = IsKeyOf key
  IfKey None = is_there (referenced_columns target to) ≡ false

  fine : list_any is_bad_list r.keys ≡ false
  fine = (or_parts (nat_lt 1 (length (rules.primary_keys target))) (list_any is_bad_list r.keys) is.lists).1

  found_among : (test : List ℕ → Bool) (keys : List (List ℕ)) (n : ℕ) → is_some (find (λ key. test key.1) (enumerate_from n keys)) ≡ list_any test keys
  found_among test [] n = refl
  found_among test (key ∷ keys) n = by (test key) (found_among test keys (n + 1))
    where
      by : (b : Bool) → is_some (find (λ key. test key.1) (enumerate_from (n + 1) keys)) ≡ list_any test keys → is_some (cond b (Some (n, key)) (find (λ key. test key.1) (enumerate_from (n + 1) keys))) ≡ (b || list_any test keys)
      by true h = refl
      by false h = h

  listed_found : (list : CommaList Name) → to.columns ≡ Some list → (ns : List ℕ) → AllZip (IsPlaced (table_columns target)) (listed list) ns → is_bad_list ns ≡ false → IfKey (key_listed r.keys ns)
  listed_found list written ns at good = by (find (λ key. are_the_same ns key.1) (enumerate_from 0 r.keys)) (found_among (are_the_same ns) r.keys 0)
    where
      means : referenced_columns target to ≡ Some (listed list)
      means = ap (λ (o : Option (CommaList Name)). option_or (option_map listed o) (slice_get (rules.primary_keys target) 0)) written

      by : (o : Option (ℕ × List ℕ)) → is_some o ≡ list_any (are_the_same ns) r.keys → IfKey (option_map (key_at ns) o)
      by None e = ap is_there means ∙ keys_same (table_columns target) (listed list) ns at good (rules.keys target) r.keys is.keys fine ∙ sym e
      by (Some key) e = record { wanted = listed list; referenced = means; placed = at; keyed = keys_same (table_columns target) (listed list) ns at good (rules.keys target) r.keys is.keys fine ∙ sym e }

  primary_found : to.columns ≡ None → IfKey (primary_key r)
  primary_found written = by (primary_place target) is.primary (first_primary (constraints target))
    where
      means : referenced_columns target to ≡ slice_get (rules.primary_keys target) 0
      means = ap (λ (o : Option (CommaList Name)). option_or (option_map listed o) (slice_get (rules.primary_keys target) 0)) written

      by : (o : Option ℕ) → r.primary_key ≡ o → IsFirst (constraints target) o → IfKey (primary_key r)
      by None e h = subst IfKey (sym (ap (option_and_then (λ n. option_map (λ key. key_at key (n, key)) (slice_get r.keys n))) e)) (ap is_there (means ∙ h))
      by (Some n) e h =
          let key = zip_at (AllZip (IsPlaced (table_columns target))) (rules.keys target) r.keys is.keys n h.0 h.2 in
          subst IfKey (sym (ap (option_and_then (λ n. option_map (λ key. key_at key (n, key)) (slice_get r.keys n))) e ∙ ap (option_map (λ key. key_at key (n, key))) key.1))
          (record { wanted = h.0; referenced = means ∙ h.1; placed = key.2; keyed = any_at (is_key h.0) (rules.keys target) n h.0 h.2 (key_itself h.0) })

  pub key_found : (list : Option (CommaList Name)) → to.columns ≡ list → (ns : Option (List ℕ)) → AreListed (table_columns target) list ns → is_some_and is_bad_list ns ≡ false → IfKey (referenced_key r ns)
  key_found None written None at good = primary_found written
  key_found None written (Some ns) at good = absurd at
  key_found (Some list) written None at good = absurd at
  key_found (Some list) written (Some ns) at good = listed_found list written ns at good
