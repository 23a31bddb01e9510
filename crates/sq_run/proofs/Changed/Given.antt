-- Values that are given to columns (ISO/IEC 9075:1992, 13.8): by name each stands beside the place of its column, by place in the order
-- of the columns. A new row is made of both alike, with the same defaults.
use Rattle.std.proofs.Common.{◌≡◌, ℕ, suc, ◌+◌, cond, not, Bool, true, false, List, [], ◌∷◌, length, map, Option, Some, None, refl, sym, ap, ◌∙◌, arith, Ok, Err}
use Rattle.std.proofs.lemmas.Cmp.{nat_list_eq_equiv}
use Rattle.std.proofs.lemmas.Grind.{common_steps}
use Rattle.std.specs.Prelude.{nat_eq, nat_lt, find, slice_get, unwrap_or, ◌==◌}
use Rattle.std.specs.List.{AllByRecursion, AllZip, cons_option, enumerate_from, filter_map, position, position_or_len, zip}
use Rattle.std.specs.Option.{option_map, option_and_then}
use Rattle.sq_lex.specs.declared.name.Name.{Name}
use Rattle.sq_tree.specs.declared.list.CommaList.{CommaList}
use Rattle.sq_tree.specs.declared.schema.ColumnDefinition.{ColumnDefinition}
use Rattle.sq_value.specs.declared.domain.Domain.{Domain}
use Rattle.sq_value.specs.declared.domain.Domain.TheVariants as domain
use Rattle.sq_value.specs.declared.value.Value.{Value}
use Rattle.sq_meaning.specs.Environment.{Row, TableName, same_name}
use Rattle.sq_meaning.specs.Spelled.{listed}
use Rattle.sq_meaning.specs.Status.{Outcome, and_then, each}
use Rattle.sq_meaning.specs.Catalog.{column_domain}
use Rattle.sq_meaning.specs.Schema.{BaseTable, column_definitions, place_among}
use Rattle.sq_meaning.specs.Change as by_name
use Rattle.sq_meaning.specs.Change.{domain_at, given_at, insert_places, new_row, place_under, value_or_default}
use Rattle.sq_bound.specs.Fits.{IsColumnOf}
use Rattle.sq_bound.specs.Known.{KnownTables}
use Rattle.sq_bound.specs.declared.names.BaseColumn.{BaseColumn}
use Rattle.sq_bound.specs.declared.names.BaseTable.{BaseTable as BoundTable}
use Rattle.sq_bound.specs.declared.names.Column.{Column}
use Rattle.sq_bound.specs.declared.names.Leaf.{Leaf}
use Rattle.sq_bound.specs.declared.names.ObjectColumn.{ObjectColumn}
use Rattle.sq_binding.specs.Names.{leaf_positions}
use Rattle.sq_binding.specs.Written.{AreInto, leaf_named}
use Rattle.sq_change.specs.Made.{Shown, or_default, row_completed, value_at, value_completed}
use Rattle.sq_run.proofs.Places.Parameters.{position_map}
use Rattle.sq_run.proofs.Changed.Statements.{IsColumnAs, IsTableAs, IsTableIn}

abbrev pub positions : List ObjectColumn → List ℕ
positions columns = map (λ c. c.position) columns

-- ---- which columns

-- a column of the statement's table is the same column of the base table
pub under_same : (m : by_name.Setting) (known : KnownTables) (shown : Shown) (bases : List BoundTable) (name : TableName)
    (leaf : Leaf) (t : IsTableIn m known shown bases name leaf) (column : Name)
    → place_under t.descriptor t.target column ≡ leaf_named t.table.columns column
under_same m known shown bases name leaf t column =
    (λ i. option_and_then (slice_get (t.under.columns_are i)) (place_among (t.names i) column))
    ∙ ap (option_and_then (slice_get (leaf_positions t.table.columns)))
    (position_map (same_name column) (λ (c : Column). c.name) t.table.columns
    ∙ (λ i. position (λ (c : Column). nat_list_eq_equiv.symm column c.name i) t.table.columns))

-- what is found of each
pub all_found : {A B C : Type 0} (f : A → Option C) (g : B → C) (xs : List A) (ys : List B)
    → AllZip (λ x y. f x ≡ Some (g y)) xs ys → filter_map f xs ≡ map g ys
all_found f g [] [] h = refl
all_found f g [] (y ∷ ys) h = absurd h
all_found f g (x ∷ xs) [] h = absurd h
all_found f g (x ∷ xs) (y ∷ ys) h = (λ i. cons_option (h.0 i) (all_found f g xs ys h.1 i))

each_found : (m : by_name.Setting) (known : KnownTables) (shown : Shown) (bases : List BoundTable) (name : TableName)
    (leaf : Leaf) (t : IsTableIn m known shown bases name leaf) (columns : List Name) (objects : List ObjectColumn)
    → AllZip (λ column c. leaf_named t.table.columns column ≡ Some c.position) columns objects
    → AllZip (λ column c. place_under t.descriptor t.target column ≡ Some c.position) columns objects
each_found m known shown bases name leaf t [] [] h = tt
each_found m known shown bases name leaf t [] (c ∷ cs) h = absurd h
each_found m known shown bases name leaf t (n ∷ ns) [] h = absurd h
each_found m known shown bases name leaf t (n ∷ ns) (c ∷ cs) h =
    (under_same m known shown bases name leaf t n ∙ h.0, each_found m known shown bases name leaf t ns cs h.1)

-- The columns that get values: those that are listed, or all.
pub insert_places_same : (m : by_name.Setting) (known : KnownTables) (shown : Shown) (bases : List BoundTable) (name : TableName)
    (leaf : Leaf) (t : IsTableIn m known shown bases name leaf) (list : Option (CommaList Name)) (objects : List ObjectColumn)
    → AreInto t.table.columns list objects → insert_places t.descriptor t.target list ≡ positions objects
insert_places_same m known shown bases name leaf t None objects h = t.under.columns_are ∙ sym h
insert_places_same m known shown bases name leaf t (Some list) objects h =
    all_found (place_under t.descriptor t.target) (λ (c : ObjectColumn). c.position) (listed list) objects
    (each_found m known shown bases name leaf t (listed list) objects h)

-- ---- values beside places

one_pair : (n : ℕ) (ns : List ℕ) (o : Outcome Value) (r : Outcome Row)
    → and_then (and_then o (λ v. Ok (n, v))) (λ z. and_then (and_then r (λ row. Ok (zip ns row))) (λ zs. Ok (z ∷ zs)))
    ≡ and_then (and_then o (λ v. and_then r (λ vs. Ok (v ∷ vs)))) (λ row. Ok (zip (n ∷ ns) row))
one_pair n ns (Err status) r = refl
one_pair n ns (Ok v) (Err status) = refl
one_pair n ns (Ok v) (Ok row) = refl

-- each value is stored before the next one is computed
pub pairs_same : {A B : Type 0} (f : ℕ × A → Outcome Value) (g : ObjectColumn × B → Outcome Value) (R : A → B → Type 0)
    (P : ObjectColumn → Type 0)
    → ((c : ObjectColumn) (x : A) (y : B) → P c → R x y → f (c.position, x) ≡ g (c, y))
    → (columns : List ObjectColumn) (xs : List A) (ys : List B) → AllByRecursion P columns → AllZip R xs ys
    → each (λ n. and_then (f n) (λ v. Ok (n.0, v))) (zip (positions columns) xs)
    ≡ and_then (each g (zip columns ys)) (λ row. Ok (zip (positions columns) row))
pairs_same f g R P h [] xs ys p r = refl
pairs_same f g R P h (c ∷ cs) [] [] p r = refl
pairs_same f g R P h (c ∷ cs) [] (y ∷ ys) p r = absurd r
pairs_same f g R P h (c ∷ cs) (x ∷ xs) [] p r = absurd r
pairs_same f g R P h (c ∷ cs) (x ∷ xs) (y ∷ ys) p r =
    (λ i. and_then (and_then (h c x y p.0 r.0 i) (λ v. Ok (c.position, v))) (λ z. and_then (pairs_same f g R P h cs xs ys p.1 r.1 i) (λ zs. Ok (z ∷ zs))))
    ∙ one_pair c.position (positions cs) (g (c, y)) (each g (zip cs ys))

-- the domain of a column at its place
domains_same : (ws : List ColumnDefinition) (cs : List BaseColumn) → AllZip IsColumnAs ws cs
    → map column_domain ws ≡ map (λ c. c.domain) cs
domains_same [] [] h = refl
domains_same [] (c ∷ cs) h = absurd h
domains_same (w ∷ ws) [] h = absurd h
domains_same (w ∷ ws) (c ∷ cs) h = (λ i. h.0.domain i ∷ domains_same ws cs h.1 i)

pub domain_same : (t : BaseTable) (b : BoundTable) → IsTableAs t b → (c : ObjectColumn) → IsColumnOf b c
    → domain_at t c.position ≡ c.domain
domain_same t b h c of =
    ap (λ ds. unwrap_or (slice_get ds c.position) domain.Int) (domains_same (column_definitions t.definition) b.columns h)
    ∙ ap (λ (o : Option Domain). unwrap_or o domain.Int) of

-- ---- new rows

none_at : (values : ℕ → Option Value) (o : Option ℕ) → ((n : ℕ) → None ≡ values n) → None ≡ option_and_then values o
none_at values None h = refl
none_at values (Some n) h = h n

both_less : (n count : ℕ) → nat_lt (suc n) (suc count) ≡ nat_lt n count
both_less n count = grind (arith, common_steps)

none_less : (count : ℕ) → nat_lt 0 (suc count) ≡ true
none_less count = grind (arith, common_steps)

-- where a first element is found, or one of the others
first_or_later : (b : Bool) (n count : ℕ)
    → cond (nat_lt (cond (not b) (1 + n) 0) (suc count)) (Some (cond (not b) (1 + n) 0)) None
    ≡ cond b (Some 0) (cond (nat_lt n count) (Some (suc n)) None)
first_or_later true n count = ap (λ b. cond b (Some 0) None) (none_less count)
first_or_later false n count =
    let one : 1 + n ≡ suc n = omega arith in
    (λ i. cond (nat_lt (one i) (suc count)) (Some (one i)) None) ∙ ap (λ b. cond b (Some (suc n)) None) (both_less n count)

-- the value that is given for the column at a place
given_there : (columns : List ObjectColumn) (row : Row) (place : ℕ)
    → given_at (zip (positions columns) row) place ≡ value_at columns row place
given_there [] row place = refl
given_there (c ∷ cs) [] place = none_at (slice_get []) (position (λ d. nat_eq d.position place) (c ∷ cs)) (λ n. refl)
given_there (c ∷ cs) (v ∷ row) place =
    by_test (nat_eq c.position place) (given_there cs row place)
    ∙ sym (ap (option_and_then (slice_get (v ∷ row))) (first_or_later (nat_eq c.position place) first (length cs)))
  where
    first : ℕ
    first = position_or_len (λ (d : ObjectColumn). nat_eq d.position place) cs

    later : (b : Bool)
        → option_and_then (slice_get row) (cond b (Some first) None)
        ≡ option_and_then (slice_get (v ∷ row)) (cond b (Some (suc first)) None)
    later true = refl
    later false = refl

    by_test : (b : Bool) → given_at (zip (positions cs) row) place ≡ value_at cs row place
        → option_map (λ g. g.1) (cond b (Some (c.position, v)) (find (λ g. g.0 == place) (zip (positions cs) row)))
        ≡ option_and_then (slice_get (v ∷ row)) (cond b (Some 0) (cond (nat_lt first (length cs)) (Some (suc first)) None))
    by_test true rest = refl
    by_test false rest = rest ∙ later (nat_lt first (length cs))

column_completed : (m : by_name.Setting) (w : ColumnDefinition) (c : BaseColumn) → IsColumnAs w c → (o : Option Value)
    → value_or_default m w o ≡ or_default m.user c o
column_completed m w c h None = h.default m.user
column_completed m w c h (Some v) = refl

columns_completed : (m : by_name.Setting) (columns : List ObjectColumn) (row : Row) (n : ℕ) (ws : List ColumnDefinition)
    (cs : List BaseColumn)
    → AllZip IsColumnAs ws cs
    → each (λ p. value_or_default m p.1 (given_at (zip (positions columns) row) p.0)) (enumerate_from n ws)
    ≡ each (value_completed m.user columns row) (enumerate_from n cs)
columns_completed m columns row n [] [] h = refl
columns_completed m columns row n [] (c ∷ cs) h = absurd h
columns_completed m columns row n (w ∷ ws) [] h = absurd h
columns_completed m columns row n (w ∷ ws) (c ∷ cs) h =
    (λ i. and_then ((ap (value_or_default m w) (given_there columns row n) ∙ column_completed m w c h.0 (value_at columns row n)) i)
    (λ v. and_then (columns_completed m columns row (n + 1) ws cs h.1 i) (λ vs. Ok (v ∷ vs))))

-- Each column has the value that is given for it, or else its default.
pub new_row_same : (m : by_name.Setting) (t : BaseTable) (b : BoundTable) → IsTableAs t b
    → (columns : List ObjectColumn) (row : Row)
    → new_row m t (zip (positions columns) row) ≡ row_completed m.user b columns row
new_row_same m t b h columns row = columns_completed m columns row 0 (column_definitions t.definition) b.columns h
