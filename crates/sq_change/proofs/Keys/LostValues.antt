-- The values of keys that rows lose by changes.
use Rattle.std.proofs.Common.{◌≡◌, ℕ, ◌⊎◌, inl, inr, Bool, true, false, ◌&&◌, not, nat_eq, nat_lt, if◌then◌else◌, List, [], ◌∷◌, ◌++◌, length, slice_index_or, cond, filter, find, ◌||◌, Option, Some, None, refl, sym, ap, subst, ◌∙◌}
use Rattle.std.specs.List.{Contains, enumerate_from, flat_map, list_all, list_any}
use Rattle.std.specs.Cmp.Lexicographic.{lists_equiv, pointwise}
use Rattle.std.proofs.lemmas.Bool.{eq-eqb, eqb-true, and_parts}
use Rattle.std.proofs.lemmas.List.Elements.{Contains-append_left, Contains-append_right}
use Rattle.std.proofs.lemmas.List.Folds.{Any-from_list_any, list_all-append}
use Rattle.sq_value.proofs.Truths.{or_true}
use Rattle.sq_value.specs.Comparison.{is_same}
use Rattle.sq_value.specs.Key.{in_columns}
use Rattle.sq_value.specs.SetFunctions.{is_null}
use Rattle.sq_value.specs.laws.ValueOrder.{same_equiv}
use Rattle.sq_value.specs.declared.value.Value.{Value}
use Rattle.sq_value.specs.declared.value.Value.TheVariants.{Null, Num, Chars}
use Rattle.sq_store.specs.Content.{Content, changed, changed_by, inserted, replaced, row_at, table_at}
use Rattle.sq_store.specs.Keys.{Keys, has_keys, keys_at, with_key}
use Rattle.sq_store.specs.Rising.{has_rising_rows}
use Rattle.sq_store.specs.declared.change.Change.{Change}
use Rattle.sq_store.specs.declared.change.Change.TheVariants.{Insert, Replace, Remove}
use Rattle.sq_store.specs.declared.table.Numbered.{Numbered}
use Rattle.sq_store.specs.declared.table.Table.{Table}
use Rattle.sq_store.proofs.Search.{put}
use Rattle.sq_meaning.specs.Environment.{Row}
use Rattle.sq_meaning.specs.Constraints.{has_null}
use Rattle.sq_bound.specs.Fits.{IsBase, all_refer, holds, keys_of_bases, refers}
use Rattle.sq_bound.specs.declared.names.BaseTable.{BaseTable}
use Rattle.sq_bound.specs.declared.names.Reference.{Reference}
use Rattle.sq_change.specs.Lost.{are_free, free_by, has_reference_to, is_free, is_reference_to, is_referred, key_lost, lost_by, lost_if, lost_in_key, number_changed, referred_keys, row_changed, row_of, row_under}
use Rattle.sq_change.specs.Reference.{values_in}
use Rattle.sq_change.specs.declared.lost.LostKey.{LostKey}
use Rattle.sq_change.proofs.OneByOne.Among.{all_from, all_in, any_from, first_or_later, first_there, found_there, is_first, later_there, mapped_there, none_there}
use Rattle.sq_change.proofs.OneByOne.AllMet.{each_meets}
use Rattle.sq_change.proofs.Changes.Held.{keys_at_base, row_at_wide, row_has_keys}
use Rattle.sq_change.proofs.Keys.KeptValues.{is_under, put_not}

-- ---- elements

pub filter_there : {X : Type 0} (p : X → Bool) (xs : List X) (x : X) → p x ≡ true → Contains xs x → Contains (filter p xs) x
filter_there p [] x h c = c
filter_there {X} p (y ∷ ys) x h c = by (p y) refl (first_or_later y ys x c) (filter_there p ys x h)
  where
    by : (b : Bool) → p y ≡ b → (y ≡ x) ⊎ Contains ys x → (Contains ys x → Contains (filter p ys) x) → Contains (cond b (y ∷ filter p ys) (filter p ys)) x
    by true e (inl s) later = is_first y (filter p ys) x s
    by true e (inr d) later = later_there y (filter p ys) x (later d)
    by false e (inl s) later = let lacks : true ≡ false = sym h ∙ sym (ap p s) ∙ e in cc
    by false e (inr d) later = later d

pub passes : {X : Type 0} (p : X → Bool) (xs : List X) (x : X) → Contains (filter p xs) x → p x ≡ true
passes p [] x c = none_there x c
passes {X} p (y ∷ ys) x c = by (p y) refl c (passes p ys x)
  where
    on : (y ≡ x) ⊎ Contains (filter p ys) x → p y ≡ true → (Contains (filter p ys) x → p x ≡ true) → p x ≡ true
    on (inl s) e later = sym (ap p s) ∙ e
    on (inr d) e later = later d

    by : (b : Bool) → p y ≡ b → Contains (cond b (y ∷ filter p ys) (filter p ys)) x → (Contains (filter p ys) x → p x ≡ true) → p x ≡ true
    by true e d later = on (first_or_later y (filter p ys) x d) e later
    by false e d later = later d

pub flat_there : {X Y : Type 0} (f : X → List Y) (xs : List X) (x : X) (y : Y) → Contains xs x → Contains (f x) y → Contains (flat_map f xs) y
flat_there f [] x y c d = none_there x c
flat_there f (z ∷ zs) x y c d = by (first_or_later z zs x c) (λ e. flat_there f zs x y e d)
  where
    by : (z ≡ x) ⊎ Contains zs x → (Contains zs x → Contains (flat_map f zs) y) → Contains (f z ++ flat_map f zs) y
    by (inl s) later = Contains-append_left (f z) (flat_map f zs) y (subst (λ w. Contains (f w) y) (sym s) d)
    by (inr e) later = Contains-append_right (f z) (flat_map f zs) y (later e)

all_of_flat : {X Y : Type 0} (p : Y → Bool) (f : X → List Y) → ((x : X) → list_all p (f x) ≡ true) → (xs : List X) → list_all p (flat_map f xs) ≡ true
all_of_flat p f h [] = refl
all_of_flat p f h (x ∷ xs) = list_all-append p (f x) (flat_map f xs) ∙ ap (λ (b : Bool). b && list_all p (flat_map f xs)) (h x) ∙ all_of_flat p f h xs

-- ---- keys to which there are references

pub referred_there : (bases : List BaseTable) (lost : List ℕ) (b : BaseTable) (r : Reference) → Contains bases b → Contains b.references r → list_any (nat_eq r.key) lost ≡ true → Contains (referred_keys bases r.table lost) r.key
referred_there bases lost b r c d h = filter_there (is_referred bases r.table) lost r.key referred there
  where
    this : is_reference_to r.table r.key r ≡ true
    this = let t : nat_eq r.table r.table ≡ true = eq-eqb r.table r.table refl in let k : nat_eq r.key r.key ≡ true = eq-eqb r.key r.key refl in rw t k

    referred : is_referred bases r.table r.key ≡ true
    referred = any_from (has_reference_to r.table r.key) bases b c (any_from (is_reference_to r.table r.key) b.references r d this)

    there : Contains lost r.key
    there = let a = Any-from_list_any (nat_eq r.key) lost h in subst (Contains lost) (sym (eqb-true r.key a.1 a.4)) (a.0, a.2, a.3)

-- lost keys that are referred to are keys of the table
pub referred_within : (bases : List BaseTable) (t : BaseTable) (lost : List ℕ) → all_refer bases ≡ true → IsBase bases t → list_all (λ key. nat_lt key (length t.keys)) (referred_keys bases t.place lost) ≡ true
referred_within bases t lost refer base = all_from (λ key. nat_lt key (length t.keys)) (referred_keys bases t.place lost) (λ key c. within key (passes (is_referred bases t.place) lost key c))
  where
    keys : keys_at (keys_of_bases bases) t.place ≡ t.keys
    keys = keys_at_base bases t.place t base

    within : (key : ℕ) → is_referred bases t.place key ≡ true → nat_lt key (length t.keys) ≡ true
    within key h =
        let b = Any-from_list_any (has_reference_to t.place key) bases h in
        let r = Any-from_list_any (is_reference_to t.place key) b.1.references b.4 in
        let two = and_parts (nat_eq r.1.table t.place) (nat_eq r.1.key key) r.4 in
        let table : r.1.table ≡ t.place = eqb-true r.1.table t.place two.0 in
        let number : r.1.key ≡ key = eqb-true r.1.key key two.1 in
        let known : refers bases r.1 ≡ true = all_in (refers bases) b.1.references r.1 (all_in (λ a. list_all (refers bases) a.references) bases b.1 refer (b.0, b.2, b.3)) (r.0, r.2, r.3) in
        sym (λ i. nat_lt (number i) (length (keys i))) ∙ ap (λ (p : ℕ). nat_lt r.1.key (length (keys_at (keys_of_bases bases) p))) (sym table) ∙ known

-- ---- a row that is not there after changes was under a number of one of them

pub stays_or_goes : (changes : List Change) (t : Table) (m : Numbered) → Contains t.rows m → Contains (changed_by t changes).rows m ⊎ ((change : Change) × Contains changes change × (number_changed change ≡ Some m.number))
stays_or_goes [] t m c = inl c
stays_or_goes (Insert row ∷ changes) t m c = by (stays_or_goes changes (inserted t row) m (Contains-append_left t.rows (record { number = t.next; row = row } ∷ []) m c))
  where
    by : Contains (changed_by (inserted t row) changes).rows m ⊎ ((change : Change) × Contains changes change × (number_changed change ≡ Some m.number))
        → Contains (changed_by (inserted t row) changes).rows m ⊎ ((change : Change) × Contains (Insert row ∷ changes) change × (number_changed change ≡ Some m.number))
    by (inl d) = inl d
    by (inr d) = inr (d.0, later_there (Insert row) changes d.0 d.1, d.2)
stays_or_goes (Replace number row ∷ changes) t m c = on (nat_eq m.number number) refl (λ d. stays_or_goes changes (replaced t number row) m d)
  where
    by : Contains (changed_by (replaced t number row) changes).rows m ⊎ ((change : Change) × Contains changes change × (number_changed change ≡ Some m.number))
        → Contains (changed_by (replaced t number row) changes).rows m ⊎ ((change : Change) × Contains (Replace number row ∷ changes) change × (number_changed change ≡ Some m.number))
    by (inl d) = inl d
    by (inr d) = inr (d.0, later_there (Replace number row) changes d.0 d.1, d.2)

    on : (b : Bool) → nat_eq m.number number ≡ b
        → (Contains (replaced t number row).rows m → Contains (changed_by (replaced t number row) changes).rows m ⊎ ((change : Change) × Contains changes change × (number_changed change ≡ Some m.number)))
        → Contains (changed_by (replaced t number row) changes).rows m ⊎ ((change : Change) × Contains (Replace number row ∷ changes) change × (number_changed change ≡ Some m.number))
    on true e later = inr (Replace number row, first_there (Replace number row) changes, ap (λ (n : ℕ). Some n) (sym (eqb-true m.number number e)))
    on false e later = by (later (subst (Contains (replaced t number row).rows) (put_not number row m e) (mapped_there (put number row) t.rows m c)))
stays_or_goes (Remove number ∷ changes) t m c = on (nat_eq m.number number) refl (λ d. stays_or_goes changes (changed t (Remove number)) m d)
  where
    by : Contains (changed_by (changed t (Remove number)) changes).rows m ⊎ ((change : Change) × Contains changes change × (number_changed change ≡ Some m.number))
        → Contains (changed_by (changed t (Remove number)) changes).rows m ⊎ ((change : Change) × Contains (Remove number ∷ changes) change × (number_changed change ≡ Some m.number))
    by (inl d) = inl d
    by (inr d) = inr (d.0, later_there (Remove number) changes d.0 d.1, d.2)

    on : (b : Bool) → nat_eq m.number number ≡ b
        → (Contains (changed t (Remove number)).rows m → Contains (changed_by (changed t (Remove number)) changes).rows m ⊎ ((change : Change) × Contains changes change × (number_changed change ≡ Some m.number)))
        → Contains (changed_by (changed t (Remove number)) changes).rows m ⊎ ((change : Change) × Contains (Remove number ∷ changes) change × (number_changed change ≡ Some m.number))
    on true e later = inr (Remove number, first_there (Remove number) changes, ap (λ (n : ℕ). Some n) (sym (eqb-true m.number number e)))
    on false e later = by (later (filter_there (λ s. not (nat_eq s.number number)) t.rows m (ap not e) c))

-- ---- its values are among those that are lost

pub changed_under : (t : Table) (m : Numbered) (change : Change) → has_rising_rows t ≡ true → Contains t.rows m → number_changed change ≡ Some m.number → row_changed t change ≡ Some m.row
changed_under t m change rising c e = ap (row_under t) e ∙ ap row_of (is_under 1 t.rows t.next m rising c)

-- the values of a row in columns of which none is null
values_are : (row : Row) (columns : List ℕ) → has_null (in_columns row columns) ≡ false → values_in row columns ≡ Some (in_columns row columns)
values_are row columns none = ap (λ (b : Bool). if b then None else Some (in_columns row columns)) none

module _ (t : Table) (keys : Keys) (some : List ℕ) (changes : List Change) where
  pub lost_there : (change : Change) (row : Row) (key : ℕ) → Contains changes change → row_changed t change ≡ Some row → Contains some key → has_null (in_columns row (slice_index_or keys key [])) ≡ false
      → Contains (lost_by t keys some changes) (record { key = key; values = in_columns row (slice_index_or keys key []) })
  lost_there change row key c e d none =
      let l : LostKey = record { key = key; values = in_columns row (slice_index_or keys key []) } in
      flat_there (λ x. lost_if keys some (row_changed t x)) changes change l c
      (subst (λ (o : Option Row). Contains (lost_if keys some o) l) (sym e)
      (flat_there (lost_in_key keys row) some key l d
      (subst (λ (o : Option Row). Contains (key_lost key o) l) (sym (values_are row (slice_index_or keys key []) none)) (first_there l []))))

  -- none of them is null
  pub none_null : list_all (λ l. not (has_null l.values)) (lost_by t keys some changes) ≡ true
  none_null = all_of_flat (λ l. not (has_null l.values)) (λ x. lost_if keys some (row_changed t x)) (λ x. of_row (row_changed t x)) changes
    where
      of_key : (row : Row) (key : ℕ) → list_all (λ l. not (has_null l.values)) (lost_in_key keys row key) ≡ true
      of_key row key = by (has_null (in_columns row (slice_index_or keys key []))) refl
        where
          by : (b : Bool) → has_null (in_columns row (slice_index_or keys key [])) ≡ b
              → list_all (λ (l : LostKey). not (has_null l.values)) (key_lost key (if b then None else Some (in_columns row (slice_index_or keys key [])))) ≡ true
          by true e = refl
          by false e = ap (λ (b : Bool). not b && true) e

      of_row : (o : Option Row) → list_all (λ l. not (has_null l.values)) (lost_if keys some o) ≡ true
      of_row None = refl
      of_row (Some row) = all_of_flat (λ l. not (has_null l.values)) (lost_in_key keys row) (of_key row) some

-- ---- values that are the same

null_same : (v w : Value) → is_same v w ≡ true → is_null v ≡ is_null w
null_same Null Null h = refl
null_same Null (Num b) h = cc
null_same Null (Chars t) h = cc
null_same (Num a) Null h = cc
null_same (Num a) (Num b) h = refl
null_same (Num a) (Chars t) h = refl
null_same (Chars s) Null h = cc
null_same (Chars s) (Num b) h = refl
null_same (Chars s) (Chars t) h = refl

pub nulls_same : (vs ws : List Value) → pointwise is_same vs ws ≡ true → has_null vs ≡ has_null ws
nulls_same [] [] h = refl
nulls_same [] (w ∷ ws) h = cc
nulls_same (v ∷ vs) [] h = cc
nulls_same (v ∷ vs) (w ∷ ws) h =
    let two = and_parts (is_same v w) (pointwise is_same vs ws) h in
    let first : is_null v ≡ is_null w = null_same v w two.0 in
    let rest : has_null vs ≡ has_null ws = nulls_same vs ws two.1 in
    (λ i. first i || rest i)

-- a row is found by values that are the same
pub found_same : (t : Table) (columns : List ℕ) (vs ws : List Value) → pointwise is_same vs ws ≡ true → with_key t columns vs ≡ with_key t columns ws
found_same t columns vs ws h = λ i. find (λ r. (lists_equiv same_equiv).congr vs ws (in_columns r.row columns) h i) t.rows

pub same_back : (vs ws : List Value) → pointwise is_same vs ws ≡ true → pointwise is_same ws vs ≡ true
same_back vs ws h = sym ((lists_equiv same_equiv).symm vs ws) ∙ h

-- ---- the row that is changed has the columns of the keys

pub changed_has_keys : (bases : List BaseTable) (content : Content) (t : BaseTable) (change : Change) (row : Row) → holds bases content ≡ true → IsBase bases t → row_changed (table_at content t.place) change ≡ Some row → has_keys t.keys row ≡ true
changed_has_keys bases content t change row h base e = by (number_changed change) e
  where
    on : (number : ℕ) (o : Option Numbered) → row_at (table_at content t.place) number ≡ o → row_of o ≡ Some row → has_keys t.keys row ≡ true
    on number None f k = cc
    on number (Some m) f k =
        let same : m.row ≡ row = cc in
        let numbered : m.number ≡ number = found_number number (table_at content t.place).rows m f in
        let found : row_at (table_at content t.place) number ≡ Some (record { number = number; row = row }) = f ∙ (λ i. Some (record { number = numbered i; row = same i })) in
        let wide : length row ≡ length t.columns = row_at_wide bases content t number row h base found in
        row_has_keys (length t.columns) t.keys row t.key_columns (eq-eqb (length row) (length t.columns) wide)
      where
        found_number : (number : ℕ) (rows : List Numbered) (m : Numbered) → find (λ r. nat_eq r.number number) rows ≡ Some m → m.number ≡ number
        found_number number rows m f = eqb-true m.number number (found_there (λ r. nat_eq r.number number) rows m f).1

    by : (o : Option ℕ) → row_under (table_at content t.place) o ≡ Some row → has_keys t.keys row ≡ true
    by None k = cc
    by (Some number) k = on number (row_at (table_at content t.place) number) refl k

-- ---- what is tested

module _ (keys : List Keys) (content : Content) (table : ℕ) (lost : List LostKey) (place : ℕ) (r : Reference) where
  by_test : (b : Bool) → nat_eq r.table table ≡ b → free_by keys content table lost place r ≡ (not b || list_all (is_free keys content place r) lost)
  by_test b h = ap (λ (t : Bool). not t || list_all (is_free keys content place r) lost) h

  module _ (answer : Bool) (is : answer ≡ nat_eq r.table table) where
    -- a reference to another table
    pub free_elsewhere : answer ≡ false → free_by keys content table lost place r ≡ true
    free_elsewhere h = by_test false (sym is ∙ h)

    pub free_where : answer ≡ true → free_by keys content table lost place r ≡ list_all (is_free keys content place r) lost
    free_where h = by_test true (sym is ∙ h)

-- by the references of the table at a place
abbrev pub table_free : List Keys → Content → ℕ → List LostKey → ℕ × BaseTable → Bool
table_free keys content table lost p = list_all (free_by keys content table lost p.0) p.1.references

pub of_all_tables : (bases : List BaseTable) (keys : List Keys) (content : Content) (table : ℕ) (lost : List LostKey) → keys ≡ keys_of_bases bases
    → list_all (table_free keys content table lost) (enumerate_from 0 bases) ≡ are_free bases content table lost
of_all_tables bases keys content table lost same = ap (λ (ks : List Keys). list_all (table_free ks content table lost) (enumerate_from 0 bases)) same

-- where nothing is lost
pub none_lost : (bases : List BaseTable) (content : Content) (table : ℕ) (lost : List LostKey) → lost ≡ [] → are_free bases content table lost ≡ true
none_lost bases content table lost none =
    ap (λ (ls : List LostKey). are_free bases content table ls) none
    ∙ each_meets (table_free (keys_of_bases bases) content table [])
    (λ p. each_meets (free_by (keys_of_bases bases) content table [] p.0) (λ r. or_true (not (nat_eq r.table table))) p.1.references) (enumerate_from 0 bases)

-- ---- the values of one key more

module _ (keys : Keys) (row : Row) (key : ℕ) (found : Option Row) (is : found ≡ values_in row (slice_index_or keys key [])) where
  pub one_lost : (values : Row) → found ≡ Some values → record { key = key; values = values } ∷ [] ≡ lost_in_key keys row key
  one_lost values e = ap (key_lost key) (sym e ∙ is)

  pub not_lost : found ≡ None → [] ≡ lost_in_key keys row key
  not_lost e = ap (key_lost key) (sym e ∙ is)
