-- Testing only what a change can have broken decides all references (ISO/IEC 9075:1992, 11.8).
use Rattle.std.proofs.Common.{◌≡◌, ℕ, ◌<◌, ◌⊎◌, inl, inr, Bool, true, false, ◌&&◌, ◌||◌, not, nat_eq, List, [], ◌∷◌, length, slice_get, slice_index_or, is_some, if◌then◌else◌, Option, None, Some, refl, sym, ap, subst, ◌∙◌, arith}
use Rattle.std.specs.List.{Any, Contains, enumerate_from, flat_map, list_all, list_any}
use Rattle.std.specs.Cmp.Lexicographic.{pointwise}
use Rattle.std.proofs.lemmas.Bool.{and_from, and_parts, eq-eqb, eqb-false, eqb-true, or_right, not-true}
use Rattle.std.proofs.lemmas.Grind.{common_steps}
use Rattle.std.proofs.lemmas.List.{get_or-set_other, get_or-set_same}
use Rattle.std.proofs.lemmas.List.Folds.{list_all-append}
use Rattle.std.proofs.lemmas.Option.{slice_get-get_or}
use Rattle.sq_value.proofs.Truths.{alike as same_tests, and_true}
use Rattle.sq_value.specs.Comparison.{is_same}
use Rattle.sq_value.specs.Key.{in_columns}
use Rattle.sq_value.specs.declared.value.Value.{Value}
use Rattle.sq_store.specs.Change.{rows_put}
use Rattle.sq_store.specs.Content.{Content, changed_by, empty, table_at, with_table}
use Rattle.sq_store.specs.Keys.{Keys, has_key, key_at, keys_at, with_key}
use Rattle.sq_store.specs.Rising.{has_rising_rows}
use Rattle.sq_store.specs.declared.change.Change.{Change}
use Rattle.sq_store.specs.declared.table.Numbered.{Numbered}
use Rattle.sq_store.specs.declared.table.Table.{Table}
use Rattle.sq_meaning.specs.Environment.{Row}
use Rattle.sq_meaning.specs.Constraints.{has_null}
use Rattle.sq_bound.specs.Fits.{IsBase, all_refer, holds, keys_of_bases, refers}
use Rattle.sq_bound.specs.declared.names.BaseTable.{BaseTable}
use Rattle.sq_bound.specs.declared.names.Reference.{Reference}
use Rattle.sq_change.specs.Changed.{ArePutThere}
use Rattle.sq_change.specs.Constraints.{is_met_in, reference_met_in, references_met}
use Rattle.sq_change.specs.Lost.{are_free, free_by, is_free, lost_by, number_changed, referred_keys, row_changed}
use Rattle.sq_change.specs.Reference.{KeepsKeys, are_rows_there, is_row_there, referred, referred_by}
use Rattle.sq_change.specs.declared.lost.LostKey.{LostKey}
use Rattle.sq_change.proofs.OneByOne.Among.{all_from, all_in, any_from, at_there, each_so, found_any, found_there, placed_at, placed_there}
use Rattle.sq_change.proofs.Changes.Held.{is_there, keys_at_base}
use Rattle.sq_change.proofs.Keys.KeptValues.{old_or_put}
use Rattle.sq_change.proofs.Keys.LostValues.{changed_under, found_same, lost_there, none_null, nulls_same, referred_there, same_back, stays_or_goes}

-- ---- tests

or_kept : (a b c : Bool) → (b ≡ true → c ≡ true) → (a || b) ≡ true → (a || c) ≡ true
or_kept true b c h k = refl
or_kept false b c h k = h k

unless_so : (a b : Bool) → a ≡ true → (not a || b) ≡ true → b ≡ true
unless_so true b h k = k
unless_so false b h k = cc

if_so : (a b : Bool) → (a ≡ true → b ≡ true) → (not a || b) ≡ true
if_so true b h = h refl
if_so false b h = refl

all_over : {X Y : Type 0} (p : Y → Bool) (f : X → List Y) (xs : List X) → list_all p (flat_map f xs) ≡ list_all (λ x. list_all p (f x)) xs
all_over p f [] = refl
all_over p f (x ∷ xs) = list_all-append p (f x) (flat_map f xs) ∙ ap (λ (b : Bool). list_all p (f x) && b) (all_over p f xs)

all_alike : {X : Type 0} (p q : X → Bool) (xs : List X) → ((x : X) → p x ≡ q x) → list_all p xs ≡ list_all q xs
all_alike p q xs h = λ i. list_all (λ x. h x i) xs

-- ---- references are met

module _ (bases : List BaseTable) (content : Content) where
  -- the row that a reference asks for is there just where the reference is met
  referred_met : (row : Row) (r : Reference) → list_all (is_row_there (keys_of_bases bases) content) (referred row r) ≡ is_met_in (keys_of_bases bases) content r row
  referred_met row r = by (has_null (in_columns row r.by_key))
    where
      by : (b : Bool) → list_all (is_row_there (keys_of_bases bases) content) (if b then [] else record { table = r.table; key = r.key; values = in_columns row r.by_key } ∷ []) ≡ (b || is_some (with_key (table_at content r.table) (key_at (keys_of_bases bases) r.table r.key) (in_columns row r.by_key)))
      by true = refl
      by false = and_true (is_some (with_key (table_at content r.table) (key_at (keys_of_bases bases) r.table r.key) (in_columns row r.by_key)))

  rows_met : (references : List Reference) (rows : List Row)
      → are_rows_there (keys_of_bases bases) content (referred_by references rows) ≡ list_all (λ row. list_all (λ r. is_met_in (keys_of_bases bases) content r row) references) rows
  rows_met references rows =
      all_over (is_row_there (keys_of_bases bases) content) (λ row. flat_map (referred row) references) rows
      ∙ all_alike (λ row. list_all (is_row_there (keys_of_bases bases) content) (flat_map (referred row) references)) (λ row. list_all (λ r. is_met_in (keys_of_bases bases) content r row) references) rows
      (λ row. all_over (is_row_there (keys_of_bases bases) content) (referred row) references
      ∙ all_alike (λ r. list_all (is_row_there (keys_of_bases bases) content) (referred row r)) (λ r. is_met_in (keys_of_bases bases) content r row) references (referred_met row))

  met_at : (place : ℕ) (b : BaseTable) (r : Reference) → references_met bases content ≡ true → slice_get bases place ≡ Some b → Contains b.references r → reference_met_in (keys_of_bases bases) content place r ≡ true
  met_at place b r h at c =
      all_in (reference_met_in (keys_of_bases bases) content place) b.references r
      (all_in (λ p. list_all (reference_met_in (keys_of_bases bases) content p.0) p.1.references) (enumerate_from 0 bases) (place, b) h (placed_there bases place b at)) c

  row_met : (place : ℕ) (b : BaseTable) (r : Reference) (n : Numbered) → references_met bases content ≡ true → slice_get bases place ≡ Some b → Contains b.references r → Contains (table_at content place).rows n
      → is_met_in (keys_of_bases bases) content r n.row ≡ true
  row_met place b r n h at c d = all_in (λ m. is_met_in (keys_of_bases bases) content r m.row) (table_at content place).rows n (met_at place b r h at c) d

  all_met : ((place : ℕ) (b : BaseTable) (r : Reference) → slice_get bases place ≡ Some b → Contains b.references r → reference_met_in (keys_of_bases bases) content place r ≡ true) → references_met bases content ≡ true
  all_met h =
      all_from (λ p. list_all (reference_met_in (keys_of_bases bases) content p.0) p.1.references) (enumerate_from 0 bases)
      (λ p c. all_from (reference_met_in (keys_of_bases bases) content p.0) p.1.references (λ r d. h p.0 p.1 r (placed_at bases p c) d))

refers_there : (bases : List BaseTable) (place : ℕ) (b : BaseTable) (r : Reference) → all_refer bases ≡ true → slice_get bases place ≡ Some b → Contains b.references r → refers bases r ≡ true
refers_there bases place b r h at c = all_in (refers bases) b.references r (all_in (λ a. list_all (refers bases) a.references) bases b h (at_there bases place b at)) c

-- ---- a table changes

-- a reference is to one of these keys of a table
abbrev refers_to_lost : ℕ → List ℕ → Reference → Bool
refers_to_lost table lost r = nat_eq r.table table && list_any (nat_eq r.key) lost

module _ (bases : List BaseTable) (before after : Content) (t : BaseTable) (lost : List ℕ) (changes : List Change)
    (tables : holds bases before ≡ true) (base : IsBase bases t) (refer : all_refer bases ≡ true)
    (done : after ≡ with_table before t.place (changed_by (table_at before t.place) changes)) where
  pub this_table : table_at after t.place ≡ changed_by (table_at before t.place) changes
  this_table =
      ap (λ (c : Content). table_at c t.place) done
      ∙ get_or-set_same before t.place (changed_by (table_at before t.place) changes) empty (is_there bases before t.place t tables base)

  pub other_table : (place : ℕ) → nat_eq place t.place ≡ false → table_at after place ≡ table_at before place
  other_table place other =
      ap (λ (c : Content). table_at c place) done
      ∙ get_or-set_other before t.place place (changed_by (table_at before t.place) changes) empty (eqb-false place t.place other)

  -- ---- what is tested is enough

  module _ (kept : KeepsKeys t.keys lost (table_at before t.place) (changed_by (table_at before t.place) changes)) where
    -- a row that was referred to by a key that isn't lost is there still
    row_stays : (r : Reference) (values : List Value) → refers bases r ≡ true → refers_to_lost t.place lost r ≡ false
        → is_some (with_key (table_at before r.table) (key_at (keys_of_bases bases) r.table r.key) values) ≡ true
        → is_some (with_key (table_at after r.table) (key_at (keys_of_bases bases) r.table r.key) values) ≡ true
    row_stays r values to safe h = by (nat_eq r.table t.place) refl
      where
        within : r.key < length (keys_at (keys_of_bases bases) r.table)
        within = grind (arith, common_steps)

        by : (b : Bool) → nat_eq r.table t.place ≡ b → is_some (with_key (table_at after r.table) (key_at (keys_of_bases bases) r.table r.key) values) ≡ true
        by true e =
            let same : r.table ≡ t.place = eqb-true r.table t.place e in
            let unlost : list_any (nat_eq r.key) lost ≡ false = sym (ap (λ (b : Bool). b && list_any (nat_eq r.key) lost) e) ∙ safe in
            let at : slice_get t.keys r.key ≡ Some (key_at (keys_of_bases bases) r.table r.key)
            = subst (λ (ks : Keys). slice_get ks r.key ≡ Some (key_at (keys_of_bases bases) r.table r.key)) (ap (keys_at (keys_of_bases bases)) same ∙ keys_at_base bases t.place t base)
            (slice_get-get_or (keys_at (keys_of_bases bases) r.table) r.key [] within) in
            let was : is_some (with_key (table_at before t.place) (key_at (keys_of_bases bases) r.table r.key) values) ≡ true
            = subst (λ (p : ℕ). is_some (with_key (table_at before p) (key_at (keys_of_bases bases) r.table r.key) values) ≡ true) same h in
            subst (λ (u : Table). is_some (with_key u (key_at (keys_of_bases bases) r.table r.key) values) ≡ true) (sym (ap (table_at after) same ∙ this_table))
            (kept r.key (key_at (keys_of_bases bases) r.table r.key) at unlost values was)
        by false e = subst (λ (u : Table). is_some (with_key u (key_at (keys_of_bases bases) r.table r.key) values) ≡ true) (sym (other_table r.table e)) h

    still_met : (r : Reference) (row : Row) → refers bases r ≡ true → refers_to_lost t.place lost r ≡ false → is_met_in (keys_of_bases bases) before r row ≡ true → is_met_in (keys_of_bases bases) after r row ≡ true
    still_met r row to safe h =
        or_kept (has_null (in_columns row r.by_key)) (is_some (with_key (table_at before r.table) (key_at (keys_of_bases bases) r.table r.key) (in_columns row r.by_key)))
        (is_some (with_key (table_at after r.table) (key_at (keys_of_bases bases) r.table r.key) (in_columns row r.by_key))) (row_stays r (in_columns row r.by_key) to safe) h

    module _ (met : references_met bases before ≡ true) (rows_there : are_rows_there (keys_of_bases bases) after (referred_by t.references (rows_put changes)) ≡ true) where
      put_met : (r : Reference) (row : Row) → Contains t.references r → Contains (rows_put changes) row → is_met_in (keys_of_bases bases) after r row ≡ true
      put_met r row c d =
          all_in (λ s. is_met_in (keys_of_bases bases) after s row) t.references r
          (all_in (λ x. list_all (λ s. is_met_in (keys_of_bases bases) after s x) t.references) (rows_put changes) row (sym (rows_met bases after t.references (rows_put changes)) ∙ rows_there) d) c

      -- a row is one from before, or one that is put in
      either : (place : ℕ) (b : BaseTable) (r : Reference) (n : Numbered) → slice_get bases place ≡ Some b → Contains b.references r → Contains (table_at after place).rows n
          → (Contains (table_at before place).rows n → is_met_in (keys_of_bases bases) after r n.row ≡ true) → is_met_in (keys_of_bases bases) after r n.row ≡ true
      either place b r n at c d old = by (nat_eq place t.place) refl
        where
          on : place ≡ t.place → Contains (table_at before t.place).rows n ⊎ Contains (rows_put changes) n.row → is_met_in (keys_of_bases bases) after r n.row ≡ true
          on same (inl o) = old (subst (λ (p : ℕ). Contains (table_at before p).rows n) (sym same) o)
          on same (inr p) =
              let two : Some b ≡ Some t = sym at ∙ ap (slice_get bases) same ∙ base in
              let is : b ≡ t = cc in
              put_met r n.row (subst (λ (a : BaseTable). Contains a.references r) is c) p

          by : (b : Bool) → nat_eq place t.place ≡ b → is_met_in (keys_of_bases bases) after r n.row ≡ true
          by true e =
              let same : place ≡ t.place = eqb-true place t.place e in
              on same (old_or_put changes (table_at before t.place) n (subst (λ (u : Table). Contains u.rows n) (ap (table_at after) same ∙ this_table) d))
          by false e = old (subst (λ (u : Table). Contains u.rows n) (other_table place e) d)

      each_met : (place : ℕ) (b : BaseTable) (r : Reference) (n : Numbered) → slice_get bases place ≡ Some b → Contains b.references r → refers_to_lost t.place lost r ≡ false
          → Contains (table_at after place).rows n → is_met_in (keys_of_bases bases) after r n.row ≡ true
      each_met place b r n at c safe d = either place b r n at c d (λ o. still_met r n.row (refers_there bases place b r refer at c) safe (row_met bases before place b r n met at c o))

      module _ (rising : has_rising_rows (table_at before t.place) ≡ true) (free : are_free bases after t.place (lost_by (table_at before t.place) t.keys (referred_keys bases t.place lost) changes) ≡ true) where
        -- ---- a reference to a key in which rows may have lost their values

        module _ (place : ℕ) (b : BaseTable) (r : Reference) (n : Numbered) (at : slice_get bases place ≡ Some b) (c : Contains b.references r) (to : refers_to_lost t.place lost r ≡ true)
            (now : Contains (table_at after place).rows n) where
          abbrev columns : List ℕ
          columns = key_at (keys_of_bases bases) r.table r.key

          to_this : nat_eq r.table t.place ≡ true
          to_this = (and_parts (nat_eq r.table t.place) (list_any (nat_eq r.key) lost) to).0

          same : r.table ≡ t.place
          same = eqb-true r.table t.place to_this

          own : slice_index_or t.keys r.key [] ≡ columns
          own = ap (λ (ks : Keys). slice_index_or ks r.key []) (sym (ap (keys_at (keys_of_bases bases)) same ∙ keys_at_base bases t.place t base))

          -- values that were lost, and that the row has, are there still
          lost_there_still : (change : Change) (m : Numbered) → Contains changes change → row_changed (table_at before t.place) change ≡ Some m.row → has_null (in_columns m.row columns) ≡ false
              → pointwise is_same (in_columns m.row columns) (in_columns n.row r.by_key) ≡ true → is_some (with_key (table_at after r.table) columns (in_columns m.row columns)) ≡ true
          lost_there_still change m d e none alike =
              let l : LostKey = record { key = r.key; values = in_columns m.row columns } in
              let referred : Contains (referred_keys bases t.place lost) r.key
              = subst (λ (p : ℕ). Contains (referred_keys bases p lost) r.key) same (referred_there bases lost b r (at_there bases place b at) c (and_parts (nat_eq r.table t.place) (list_any (nat_eq r.key) lost) to).1) in
              let among : Contains (lost_by (table_at before t.place) t.keys (referred_keys bases t.place lost) changes) (record { key = r.key; values = in_columns m.row columns })
              = subst (λ (cs : List ℕ). Contains (lost_by (table_at before t.place) t.keys (referred_keys bases t.place lost) changes) (record { key = r.key; values = in_columns m.row cs })) own
              (lost_there (table_at before t.place) t.keys (referred_keys bases t.place lost) changes change m.row r.key d e referred (ap (λ (cs : List ℕ). has_null (in_columns m.row cs)) own ∙ none)) in
              let losts = lost_by (table_at before t.place) t.keys (referred_keys bases t.place lost) changes in
              let tested : free_by (keys_of_bases bases) after t.place losts place r ≡ true
              = all_in (free_by (keys_of_bases bases) after t.place losts place) b.references r
              (all_in (λ p. list_all (free_by (keys_of_bases bases) after t.place losts p.0) p.1.references) (enumerate_from 0 bases) (place, b) free (placed_there bases place b at)) c in
              let one : is_free (keys_of_bases bases) after place r l ≡ true
              = all_in (is_free (keys_of_bases bases) after place r) losts l (unless_so (nat_eq r.table t.place) (list_all (is_free (keys_of_bases bases) after place r) losts) to_this tested) among in
              let refers : is_some (with_key (table_at after place) r.by_key (in_columns m.row columns)) ≡ true
              = found_any (has_key r.by_key (in_columns m.row columns)) (table_at after place).rows ∙ any_from (has_key r.by_key (in_columns m.row columns)) (table_at after place).rows n now alike in
              let still = is_some (with_key (table_at after r.table) columns (in_columns m.row columns)) in
              unless_so (is_some (with_key (table_at after place) r.by_key (in_columns m.row columns))) still refers
              (unless_so (nat_eq r.key r.key) (not (is_some (with_key (table_at after place) r.by_key (in_columns m.row columns))) || still) (eq-eqb r.key r.key refl) one)

          abbrev values : List Value
          values = in_columns n.row r.by_key

          -- the row that was referred to stays, or its values are found again
          found_again : (m : Numbered) → has_null values ≡ false → Contains (table_at before r.table).rows m → pointwise is_same values (in_columns m.row columns) ≡ true
              → is_some (with_key (table_at after r.table) columns values) ≡ true
          found_again m none d alike = by (stays_or_goes changes (table_at before t.place) m (subst (λ (p : ℕ). Contains (table_at before p).rows m) same d))
            where
              by : Contains (changed_by (table_at before t.place) changes).rows m ⊎ ((change : Change) × Contains changes change × (number_changed change ≡ Some m.number)) → is_some (with_key (table_at after r.table) columns values) ≡ true
              by (inl stays) =
                  let there : Contains (table_at after r.table).rows m = subst (λ (u : Table). Contains u.rows m) (sym (ap (table_at after) same ∙ this_table)) stays in
                  found_any (has_key columns values) (table_at after r.table).rows ∙ any_from (has_key columns values) (table_at after r.table).rows m there alike
              by (inr goes) =
                  let was : Contains (table_at before t.place).rows m = subst (λ (p : ℕ). Contains (table_at before p).rows m) same d in
                  ap (λ (o : Option Numbered). is_some o) (found_same (table_at after r.table) columns values (in_columns m.row columns) alike)
                  ∙ lost_there_still goes.0 m goes.1 (changed_under (table_at before t.place) m goes.0 rising was goes.2) (sym (nulls_same values (in_columns m.row columns) alike) ∙ none)
                  (same_back values (in_columns m.row columns) alike)

          met_again : Contains (table_at before place).rows n → is_met_in (keys_of_bases bases) after r n.row ≡ true
          met_again o = by (has_null values) refl (row_met bases before place b r n met at c o)
            where
              on : (found : Option Numbered) → with_key (table_at before r.table) columns values ≡ found → has_null values ≡ false → is_some found ≡ true → is_some (with_key (table_at after r.table) columns values) ≡ true
              on None e none there = cc
              on (Some m) e none there = let two = found_there (has_key columns values) (table_at before r.table).rows m e in found_again m none two.0 two.1

              by : (none : Bool) → has_null values ≡ none → (has_null values || is_some (with_key (table_at before r.table) columns values)) ≡ true
                  → (has_null values || is_some (with_key (table_at after r.table) columns values)) ≡ true
              by true e was = ap (λ (x : Bool). x || is_some (with_key (table_at after r.table) columns values)) e
              by false e was =
                  ap (λ (x : Bool). x || is_some (with_key (table_at after r.table) columns values)) e
                  ∙ on (with_key (table_at before r.table) columns values) refl e (sym (ap (λ (x : Bool). x || is_some (with_key (table_at before r.table) columns values)) e) ∙ was)

        all_still_met : references_met bases after ≡ true
        all_still_met = all_met bases after one
          where
            one : (place : ℕ) (b : BaseTable) (r : Reference) → slice_get bases place ≡ Some b → Contains b.references r → reference_met_in (keys_of_bases bases) after place r ≡ true
            one place b r at c = all_from (λ n. is_met_in (keys_of_bases bases) after r n.row) (table_at after place).rows (λ n d. by (refers_to_lost t.place lost r) refl n d)
              where
                by : (l : Bool) → refers_to_lost t.place lost r ≡ l → (n : Numbered) → Contains (table_at after place).rows n → is_met_in (keys_of_bases bases) after r n.row ≡ true
                by true e n d = either place b r n at c d (met_again place b r n at c e d)
                by false e n d = each_met place b r n at c e d

  -- ---- and it isn't too much

  module _ (met : references_met bases after ≡ true) where
    lost_free : (losts : List LostKey) → list_all (λ l. not (has_null l.values)) losts ≡ true → are_free bases after t.place losts ≡ true
    lost_free losts nulls =
        all_from (λ p. list_all (free_by (keys_of_bases bases) after t.place losts p.0) p.1.references) (enumerate_from 0 bases)
        (λ p c. all_from (free_by (keys_of_bases bases) after t.place losts p.0) p.1.references
        (λ r d. or_right (not (nat_eq r.table t.place)) (list_all (is_free (keys_of_bases bases) after p.0 r) losts)
        (all_from (is_free (keys_of_bases bases) after p.0 r) losts (λ l e. one p.0 p.1 r l (placed_at bases p c) d e))))
      where
        one : (place : ℕ) (b : BaseTable) (r : Reference) (l : LostKey) → slice_get bases place ≡ Some b → Contains b.references r → Contains losts l → is_free (keys_of_bases bases) after place r l ≡ true
        one place b r l at c e = or_right (not (nat_eq l.key r.key)) (not (is_some referring) || is_some still) (if_so (is_some referring) (is_some still) (on referring refl))
          where
            referring : Option Numbered
            referring = with_key (table_at after place) r.by_key l.values

            still : Option Numbered
            still = with_key (table_at after r.table) (key_at (keys_of_bases bases) r.table r.key) l.values

            some : has_null l.values ≡ false
            some = not-true (has_null l.values) (all_in (λ (k : LostKey). not (has_null k.values)) losts l nulls e)

            on : (found : Option Numbered) → with_key (table_at after place) r.by_key l.values ≡ found → is_some found ≡ true → is_some still ≡ true
            on None f h = cc
            on (Some n) f h =
                let two = found_there (has_key r.by_key l.values) (table_at after place).rows n f in
                let none : has_null (in_columns n.row r.by_key) ≡ false = sym (nulls_same l.values (in_columns n.row r.by_key) two.1) ∙ some in
                let is_met : is_met_in (keys_of_bases bases) after r n.row ≡ true = row_met bases after place b r n met at c two.0 in
                ap (λ (o : Option Numbered). is_some o) (found_same (table_at after r.table) (key_at (keys_of_bases bases) r.table r.key) l.values (in_columns n.row r.by_key) two.1)
                ∙ sym (ap (λ (x : Bool). x || is_some (with_key (table_at after r.table) (key_at (keys_of_bases bases) r.table r.key) (in_columns n.row r.by_key))) none) ∙ is_met

    rows_found : ArePutThere (table_at before t.place) changes → are_rows_there (keys_of_bases bases) after (referred_by t.references (rows_put changes)) ≡ true
    rows_found there =
        rows_met bases after t.references (rows_put changes)
        ∙ all_from (λ row. list_all (λ r. is_met_in (keys_of_bases bases) after r row) t.references) (rows_put changes)
        (λ row c. all_from (λ r. is_met_in (keys_of_bases bases) after r row) t.references (λ r d. one row c r d))
      where
        one : (row : Row) → Contains (rows_put changes) row → (r : Reference) → Contains t.references r → is_met_in (keys_of_bases bases) after r row ≡ true
        one row c r d =
            let a = each_so (λ x. Any (λ s. s.row ≡ x) (changed_by (table_at before t.place) changes).rows) (rows_put changes) row there c in
            let among : Contains (table_at after t.place).rows a.1 = subst (λ (u : Table). Contains u.rows a.1) (sym this_table) (a.0, a.2, a.3) in
            subst (λ (x : Row). is_met_in (keys_of_bases bases) after r x ≡ true) a.4 (row_met bases after t.place t r a.1 met base d among)

  -- ---- all references are met just where those are that are tested

  module _ (keys : List Keys) (known : keys ≡ keys_of_bases bases) (met : references_met bases before ≡ true) (rising : has_rising_rows (table_at before t.place) ≡ true)
      (kept : KeepsKeys t.keys lost (table_at before t.place) (changed_by (table_at before t.place) changes)) where
    abbrev losts : List LostKey
    losts = lost_by (table_at before t.place) t.keys (referred_keys bases t.place lost) changes

    pub references_kept : are_rows_there keys after (referred_by t.references (rows_put changes)) ≡ true → are_free bases after t.place losts ≡ true → references_met bases after ≡ true
    references_kept rows_there free =
        all_still_met kept met (subst (λ (ks : List Keys). are_rows_there ks after (referred_by t.references (rows_put changes)) ≡ true) known rows_there) rising free

    pub references_decided : ArePutThere (table_at before t.place) changes
        → (are_rows_there keys after (referred_by t.references (rows_put changes)) && are_free bases after t.place losts) ≡ references_met bases after
    references_decided there =
        same_tests (are_rows_there keys after (referred_by t.references (rows_put changes)) && are_free bases after t.place losts) (references_met bases after)
        (λ h.
        let two = and_parts (are_rows_there keys after (referred_by t.references (rows_put changes))) (are_free bases after t.place losts) h in
        references_kept two.0 two.1)
        (λ h.
        let all : are_rows_there keys after (referred_by t.references (rows_put changes)) ≡ true
        = subst (λ (ks : List Keys). are_rows_there ks after (referred_by t.references (rows_put changes)) ≡ true) (sym known) (rows_found h there) in
        and_from (are_rows_there keys after (referred_by t.references (rows_put changes))) (are_free bases after t.place losts) all
        (lost_free h losts (none_null (table_at before t.place) t.keys (referred_keys bases t.place lost) changes)))
