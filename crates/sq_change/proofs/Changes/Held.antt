-- A store has the tables that names speak of: a row has a value for each column of its table.
use Rattle.std.proofs.Common.{◌≡◌, ℕ, zero, suc, ◌<◌, Bool, true, false, nat_eq, nat_lt, not, List, [], ◌∷◌, ◌++◌, length, map, filter, find, Some, get_or, slice_get, refl, sym, subst, ap, ◌∙◌, arith}
use Rattle.std.specs.List.{list_all}
use Rattle.std.proofs.lemmas.Grind.{common_steps}
use Rattle.std.proofs.lemmas.Option.{slice_get_within}
use Rattle.sq_value.specs.declared.value.Value.{Value}
use Rattle.sq_store.specs.declared.change.Change.{Change}
use Rattle.sq_store.specs.declared.change.Change.TheVariants.{Insert, Replace, Remove}
use Rattle.sq_store.specs.declared.table.Numbered.{Numbered}
use Rattle.sq_store.specs.declared.table.Table.{Table}
use Rattle.sq_store.specs.Change.{rows_put}
use Rattle.sq_store.specs.Content.{Content, changed, changed_by, row_at, table_at, with_table}
use Rattle.sq_store.specs.Keys.{Keys, are_keyed, has_columns, has_keys, keys_at}
use Rattle.sq_store.proofs.Search.{put}
use Rattle.sq_store.proofs.Sound.{keyed_length}
use Rattle.sq_bound.specs.Fits.{IsBase, all_refer, are_columns, have_width, holds, keys_of_bases, refers}
use Rattle.sq_bound.specs.Names.{are_positions}
use Rattle.sq_bound.specs.declared.names.BaseTable.{BaseTable}
use Rattle.sq_bound.specs.declared.names.Reference.{Reference}
use Rattle.sq_bound.specs.declared.statement.BoundAssignment.{BoundAssignment}
use Rattle.sq_change.specs.Changed.{are_wide}
use Rattle.sq_change.specs.Reference.{is_key, refer_to_keys}

-- ---- elements

-- what holds of each element holds of the one at a place
pub each_is : {X : Type 0} (p : X → Bool) (xs : List X) (i : ℕ) (x : X) → list_all p xs ≡ true → i < length xs → x ≡ get_or xs i x → p x ≡ true
each_is p [] i x h lt e = absurd (omega arith)
each_is p (y ∷ ys) zero x h lt e = let q : x ≡ y = e in let k : p y ≡ true = grind (arith, common_steps) in ap p q ∙ k
each_is p (y ∷ ys) (suc i) x h lt e = each_is p ys i x (grind (arith, common_steps)) (omega arith) e

-- a set clause is for a column
pub column_within : (n : ℕ) (list : List BoundAssignment) (i : ℕ) (a : BoundAssignment) → are_columns n list ≡ true → i < length list → a ≡ get_or list i a → a.column.position < n
column_within n list i a h lt e = let k : nat_lt a.column.position n ≡ true = each_is (λ x. nat_lt x.column.position n) list i a h lt e in grind (arith, common_steps)

-- ---- the rows of a table

-- what holds of each row holds of the one that is found
pub found_is : (P Q : Numbered → Bool) (rows : List Numbered) (f : Numbered) → list_all P rows ≡ true → find Q rows ≡ Some f → P f ≡ true
found_is P Q [] f h e = cc
found_is P Q (r ∷ rows) f h e = by_test (Q r) refl (found_is P Q rows f (grind (arith, common_steps)))
  where
    by_test : (b : Bool) → Q r ≡ b → (find Q rows ≡ Some f → P f ≡ true) → P f ≡ true
    by_test true t later = let k : Some r ≡ Some f = rw t at e in let q : r ≡ f = cc in rw (← q) (grind (arith, common_steps))
    by_test false t later = later (rw t at e)

wide_push : (n : ℕ) (rows : List Numbered) (r : Numbered) → have_width n rows ≡ true → nat_eq (length r.row) n ≡ true → have_width n (rows ++ r ∷ []) ≡ true
wide_push n [] r h k = grind (arith, common_steps)
wide_push n (q ∷ rows) r h k = grind (arith, common_steps, wide_push n rows r)

wide_put : (n : ℕ) (rows : List Numbered) (number : ℕ) (row : List Value) → have_width n rows ≡ true → nat_eq (length row) n ≡ true → have_width n (map (put number row) rows) ≡ true
wide_put n [] number row h k = h
wide_put n (r ∷ rows) number row h k = grind (arith, common_steps, wide_put n rows number row)

wide_without : (n : ℕ) (rows : List Numbered) (number : ℕ) → have_width n rows ≡ true → have_width n (filter (λ r. not (nat_eq r.number number)) rows) ≡ true
wide_without n [] number h = h
wide_without n (r ∷ rows) number h = grind (arith, common_steps, wide_without n rows number)

-- rows keep their width where the rows that are put in have it
wide_changed_by : (n : ℕ) (t : Table) (changes : List Change) → have_width n t.rows ≡ true → are_wide n (rows_put changes) ≡ true → have_width n (changed_by t changes).rows ≡ true
wide_changed_by n t [] h k = h
wide_changed_by n t (Insert row ∷ changes) h k =
    wide_changed_by n (changed t (Insert row)) changes (wide_push n t.rows _ h (grind (arith, common_steps))) (grind (arith, common_steps))
wide_changed_by n t (Replace number row ∷ changes) h k =
    wide_changed_by n (changed t (Replace number row)) changes (wide_put n t.rows number row h (grind (arith, common_steps))) (grind (arith, common_steps))
wide_changed_by n t (Remove number ∷ changes) h k =
    wide_changed_by n (changed t (Remove number)) changes (wide_without n t.rows number h) k

-- ---- columns of keys and references

-- positions below a number of columns are columns of a row with that many values
row_has : (n : ℕ) (columns : List ℕ) (row : List Value) → are_positions n columns ≡ true → length row ≡ n → has_columns columns row ≡ true
row_has n columns row h e = subst (λ (m : ℕ). list_all (λ c. nat_lt c m) columns ≡ true) (sym e) h

rows_have : (n : ℕ) (columns : List ℕ) (rows : List Numbered) → are_positions n columns ≡ true → have_width n rows ≡ true → list_all (λ r. has_columns columns r.row) rows ≡ true
rows_have n columns [] h k = refl
rows_have n columns (r ∷ rows) h k =
    let here : has_columns columns r.row ≡ true = row_has n columns r.row h (grind (arith, common_steps)) in
    let rest : list_all (λ r. has_columns columns r.row) rows ≡ true = rows_have n columns rows h (grind (arith, common_steps)) in
    grind (arith, common_steps)

-- a row of a table has the columns of each reference of the table
referencing_of : (b : BaseTable) (i : ℕ) (r : Reference) → i < length b.references → r ≡ get_or b.references i r → are_positions (length b.columns) r.by_key ≡ true
referencing_of b i r lt e = each_is (λ x. are_positions (length b.columns) x.by_key) b.references i r b.referencing lt e

pub row_refers_by : (b : BaseTable) (i : ℕ) (r : Reference) (row : List Value) → length row ≡ length b.columns → i < length b.references → r ≡ get_or b.references i r → has_columns r.by_key row ≡ true
row_refers_by b i r row w lt e = row_has (length b.columns) r.by_key row (referencing_of b i r lt e) w

pub rows_refer_by : (b : BaseTable) (i : ℕ) (r : Reference) (rows : List Numbered) → have_width (length b.columns) rows ≡ true → i < length b.references → r ≡ get_or b.references i r
    → list_all (λ q. has_columns r.by_key q.row) rows ≡ true
rows_refer_by b i r rows w lt e = rows_have (length b.columns) r.by_key rows (referencing_of b i r lt e) w

pub row_has_keys : (n : ℕ) (keys : Keys) (row : List Value) → list_all (are_positions n) keys ≡ true → nat_eq (length row) n ≡ true → has_keys keys row ≡ true
row_has_keys n keys row h k = let e : length row ≡ n = grind (arith, common_steps) in subst (λ (m : ℕ). list_all (λ columns. list_all (λ c. nat_lt c m) columns) keys ≡ true) (sym e) h

rows_have_keys : (n : ℕ) (keys : Keys) (rows : List (List Value)) → list_all (are_positions n) keys ≡ true → are_wide n rows ≡ true → list_all (has_keys keys) rows ≡ true
rows_have_keys n keys [] h k = refl
rows_have_keys n keys (row ∷ rows) h k =
    let here : has_keys keys row ≡ true = row_has_keys n keys row h (grind (arith, common_steps)) in
    let rest : list_all (has_keys keys) rows ≡ true = rows_have_keys n keys rows h (grind (arith, common_steps)) in
    grind (arith, common_steps)

-- ---- all tables

holds_length : (bases : List BaseTable) (content : Content) → holds bases content ≡ true → length bases ≡ length content
holds_length [] [] h = refl
holds_length [] (t ∷ ts) h = cc
holds_length (b ∷ bs) [] h = cc
holds_length (b ∷ bs) (t ∷ ts) h = grind (arith, common_steps, holds_length bs ts)

-- a table is there for each base table
pub is_there : (bases : List BaseTable) (content : Content) (place : ℕ) (b : BaseTable) → holds bases content ≡ true → slice_get bases place ≡ Some b → place < length content
is_there bases content place b h e = omega (arith, holds_length bases content h, slice_get_within bases place b e)

pub width_at : (bases : List BaseTable) (content : Content) (place : ℕ) (b : BaseTable) → holds bases content ≡ true → slice_get bases place ≡ Some b → have_width (length b.columns) (table_at content place).rows ≡ true
width_at [] content place b h e = cc
width_at (a ∷ bs) [] place b h e = cc
width_at (a ∷ bs) (t ∷ ts) zero b h e = let k : Some a ≡ Some b = e in let q : a ≡ b = cc in rw (← q) (grind (arith, common_steps))
width_at (a ∷ bs) (t ∷ ts) (suc place) b h e = width_at bs ts place b (grind (arith, common_steps)) e

-- the row under a number has a value for each column
pub row_at_wide : (bases : List BaseTable) (content : Content) (b : BaseTable) (number : ℕ) (row : List Value) → holds bases content ≡ true → IsBase bases b
    → row_at (table_at content b.place) number ≡ Some (record { number = number; row = row }) → length row ≡ length b.columns
row_at_wide bases content b number row h e found =
    let k : nat_eq (length row) (length b.columns) ≡ true
    = found_is (λ r. nat_eq (length r.row) (length b.columns)) (λ r. nat_eq r.number number) (table_at content b.place).rows (record { number = number; row = row }) (width_at bases content b.place b h e) found in
    grind (arith, common_steps)

holds_with : (bases : List BaseTable) (content : Content) (place : ℕ) (b : BaseTable) (t : Table) → holds bases content ≡ true → slice_get bases place ≡ Some b → have_width (length b.columns) t.rows ≡ true
    → holds bases (with_table content place t) ≡ true
holds_with [] content place b t h e k = cc
holds_with (a ∷ bs) [] place b t h e k = cc
holds_with (a ∷ bs) (u ∷ ts) zero b t h e k =
    let s : Some a ≡ Some b = e in
    let q : a ≡ b = cc in
    let w : have_width (length a.columns) t.rows ≡ true = rw q k in
    grind (arith, common_steps)
holds_with (a ∷ bs) (u ∷ ts) (suc place) b t h e k =
    let rest : holds bs (with_table ts place t) ≡ true = holds_with bs ts place b t (grind (arith, common_steps)) e k in
    grind (arith, common_steps)

-- changes of a base table leave the tables of names
holds_changed : (bases : List BaseTable) (content : Content) (b : BaseTable) (changes : List Change) → holds bases content ≡ true → IsBase bases b → are_wide (length b.columns) (rows_put changes) ≡ true
    → holds bases (with_table content b.place (changed_by (table_at content b.place) changes)) ≡ true
holds_changed bases content b changes h e k =
    holds_with bases content b.place b (changed_by (table_at content b.place) changes) h e (wide_changed_by (length b.columns) (table_at content b.place) changes (width_at bases content b.place b h e) k)

pub still_held : (bases : List BaseTable) (before after : Content) (b : BaseTable) (changes : List Change) → holds bases before ≡ true → IsBase bases b → are_wide (length b.columns) (rows_put changes) ≡ true
    → after ≡ with_table before b.place (changed_by (table_at before b.place) changes) → holds bases after ≡ true
still_held bases before after b changes h e w made = rw made (holds_changed bases before b changes h e w)

-- the keys of a base table
pub keys_at_base : (bases : List BaseTable) (place : ℕ) (b : BaseTable) → slice_get bases place ≡ Some b → keys_at (keys_of_bases bases) place ≡ b.keys
keys_at_base [] place b e = cc
keys_at_base (a ∷ bs) zero b e = let k : Some a ≡ Some b = e in let q : a ≡ b = cc in rw q
keys_at_base (a ∷ bs) (suc place) b e = keys_at_base bs place b e

-- rows that are as wide as a base table have the columns of its keys
pub put_have_keys : (bases : List BaseTable) (keys : List Keys) (b : BaseTable) (changes : List Change) → keys ≡ keys_of_bases bases → IsBase bases b → are_wide (length b.columns) (rows_put changes) ≡ true
    → list_all (has_keys (keys_at keys b.place)) (rows_put changes) ≡ true
put_have_keys bases keys b changes k e w = rw k (rw (keys_at_base bases b.place b e) (rows_have_keys (length b.columns) b.keys (rows_put changes) b.key_columns w))

-- a base table refers to keys that are there
pub refers_at : (bases : List BaseTable) (keys : List Keys) (place : ℕ) (b : BaseTable) → all_refer bases ≡ true → keys ≡ keys_of_bases bases → slice_get bases place ≡ Some b → refer_to_keys keys b.references ≡ true
refers_at bases keys place b h k e = rw k (at_place bases place h e)
  where
    at_place : (bs : List BaseTable) (p : ℕ) → list_all (λ a. list_all (refers bases) a.references) bs ≡ true → slice_get bs p ≡ Some b → list_all (refers bases) b.references ≡ true
    at_place [] p h e = cc
    at_place (a ∷ bs) zero h e = let s : Some a ≡ Some b = e in let q : a ≡ b = cc in rw (← q) (grind (arith, common_steps))
    at_place (a ∷ bs) (suc p) h e = at_place bs p (grind (arith, common_steps)) e

of_a_table : (keys : List Keys) (table key : ℕ) → is_key keys table key ≡ true → table < length keys
of_a_table [] table key h = absurd (grind (arith, common_steps))
of_a_table (ks ∷ rest) zero key h = omega arith
of_a_table (ks ∷ rest) (suc table) key h = let k : table < length rest = of_a_table rest table key h in omega arith

-- the table of a key is there
pub table_of_key : (keys : List Keys) (content : Content) (table key : ℕ) → are_keyed keys content ≡ true → is_key keys table key ≡ true → table < length content
table_of_key keys content table key keyed h = omega (arith, keyed_length keys content keyed, of_a_table keys table key h)
