-- A column reference that no rule refuses means a column, of a kind, that may be read where it stands (ISO/IEC 9075:1992,
-- 6.4 and 7.9).
use Rattle.std.proofs.Common.{ap, arith, cond, subst, sym, ◌∙◌}
use Rattle.std.proofs.lemmas.Bool.{ltb-false, ltb-true}
use Rattle.std.proofs.lemmas.List.{length-map}
use Rattle.std.specs.List.{AllByRecursion, cons_option, enumerate_from, position, position_or_len}
use Rattle.std.specs.Prelude.{◌≡◌, ℕ, zero, suc, ◌+◌, ◌<◌, Bool, true, false, IsTrue, if◌then◌else◌, List, [], ◌∷◌, map, length, nat_lt, ◌==◌, slice_get, filter_map, Option, unwrap_or, option_map, Some, None, refl, Ok, Err}
use Rattle.std.specs.Result.{result_ok}
use Rattle.sq_lex.specs.declared.name.Name.{Name}
use Rattle.sq_value.specs.declared.domain.Kind.{Kind}
use Rattle.sq_tree.specs.declared.names.ColumnReference.{ColumnReference}
use Rattle.sq_meaning.specs.Environment.{Item, Place, Row, TableName, TableReference, column_in, fitting, names_item, nearest, place_of, same_name}
use Rattle.sq_meaning.specs.Status.{Outcome, and_then, each, well_formed}
use Rattle.sq_meaning.specs.Tables.{ColumnDescriptor, TableDescriptor, Tables, column_kinds, column_names, descriptor_of, item_of, kind_at, kinds_by_name, reading_by_name}
use Rattle.sq_meaning.specs.Database.{IsDeclaredIn}
use Rattle.sq_meaning.specs.WellFormed.{Has, HasLine, HasValue, MayRead, inside_function}
use Rattle.sq_meaning.specs.WellFormed.{Level as Lines, froms as from_clauses}
use Rattle.sq_meaning.specs.Spelled.{Named}
use Rattle.sq_meaning.proofs.AnswerLaws.{all_mapped, all_weaker}
use Rattle.sq_run.proofs.Sites.SiteLaws.{IsSound, never, none_passes}
use Rattle.sq_meaning.specs.Binding.{fits, fits_here, is_outer, is_ungrouped, is_ungrouped_at, item_here, items_here, nearest_fits, one_further}
use Rattle.sq_meaning.specs.Site.{Around, EnclosingQuery, Known, Site}
use Rattle.sq_meaning.specs.Words.{is_some_and}

-- ---- queries around

-- a grouping without columns leaves no line to read
abbrev pub has_line_of : Option (List ColumnReference) → Bool
has_line_of None = true
has_line_of (Some []) = false
has_line_of (Some (c ∷ cs)) = true

-- a query that is around, as evaluation sees it
abbrev pub lines_of_query : EnclosingQuery → Lines Named
lines_of_query query = record { from = query.from; has_line = has_line_of query.grouping }

abbrev pub lines_of : List EnclosingQuery → List (Lines Named)
lines_of queries = map lines_of_query queries

abbrev pub froms_of : List EnclosingQuery → List (List TableReference)
froms_of queries = map (λ query. query.from) queries

pub froms_same : (queries : List EnclosingQuery) → from_clauses (lines_of queries) ≡ froms_of queries
froms_same [] = refl
froms_same (query ∷ queries) = ap (λ (scopes : List (List TableReference)). query.from ∷ scopes) (froms_same queries)

-- a table that is there
abbrev pub IsKnown : Known → TableReference → Type 0
IsKnown k r = HasValue (descriptor_of k.tables r.table)

-- all tables around are there
abbrev pub AreKnown : Known → List EnclosingQuery → Type 0
AreKnown k queries = AllByRecursion (λ query. AllByRecursion (IsKnown k) query.from) queries

-- outside of the operands of set functions
abbrev pub around : List EnclosingQuery → Bool → Around
around queries allowed = record { queries = queries; functions_allowed = allowed; in_function = false }

-- in the operand of a set function
abbrev pub operand : List EnclosingQuery → Around
operand queries = record { queries = queries; functions_allowed = false; in_function = true }

-- ---- the items of FROM are those that the rules see

value_is : {A : Type 0} (o : Outcome A) (x : A) → HasValue o → o ≡ Ok (unwrap_or (result_ok o) x)
value_is (Ok y) x h = refl
value_is (Err status) x h = absurd h

pub then_valued : {A B : Type 0} (o : Outcome A) (f : A → B) → HasValue o → HasValue (and_then o (λ x. Ok (f x)))
then_valued (Ok x) f h = tt
then_valued (Err status) f h = absurd h

each_is : {A B : Type 0} (W : A → Type 0) (f : A → Outcome B) (g : A → B) → ((x : A) → W x → f x ≡ Ok (g x)) → (xs : List A) → AllByRecursion W xs → each f xs ≡ Ok (map g xs)
each_is W f g same [] w = refl
each_is {A} {B} W f g same (x ∷ xs) w =
    ap (λ (r : Outcome B). and_then r (λ y. and_then (each f xs) (λ ys. Ok (y ∷ ys)))) (same x w.0)
    ∙ ap (λ (r : Outcome (List B)). and_then r (λ ys. Ok (g x ∷ ys))) (each_is W f g same xs w.1)

-- the item of a table reference by its descriptor, and one without columns
abbrev pub item_with : TableReference → TableDescriptor → Item
item_with r d = record { reference = r; columns = column_names d }

abbrev item_without : TableReference → Item
item_without r = record { reference = r; columns = [] }

item_is : (k : Known) (r : TableReference) → IsKnown k r → item_of k.tables r ≡ Ok (item_here k r)
item_is k r h = value_is (item_of k.tables r) (item_without r) (then_valued (descriptor_of k.tables r.table) (item_with r) h)

pub items_are : (k : Known) (from : List TableReference) → AllByRecursion (IsKnown k) from → each (item_of k.tables) from ≡ Ok (map (item_here k) from)
items_are k from h = each_is (IsKnown k) (item_of k.tables) (item_here k) (item_is k) from h

all_items_are : (k : Known) (queries : List EnclosingQuery) → AreKnown k queries → each (each (item_of k.tables)) (froms_of queries) ≡ Ok (map (items_here k) queries)
all_items_are k [] h = refl
all_items_are k (query ∷ queries) h =
    ap (λ (r : Outcome (List Item)). and_then r (λ y. and_then (each (each (item_of k.tables)) (froms_of queries)) (λ ys. Ok (y ∷ ys)))) (items_are k query.from h.0)
    ∙ ap (λ (r : Outcome (List (List Item))). and_then r (λ ys. Ok (items_here k query ∷ ys))) (all_items_are k queries h.1)

-- ---- the place that a reference fits is the one that it means

abbrev place_here : ℕ × ℕ → Place
place_here f = record { depth = 0; item = f.0; column = f.1 }

nearest_is : (at : List (ℕ × ℕ)) (further : List Place) (o : Outcome Place) → ((p : Place) (ps : List Place) → further ≡ p ∷ ps → o ≡ Ok p)
    → (p : Place) (ps : List Place) → nearest_fits (map place_here at) further ≡ p ∷ ps → nearest at o ≡ Ok p
nearest_is (f ∷ fs) further o same p ps e = let first : place_here f ≡ p = cc in ap Ok first
nearest_is [] [] o same p ps e = cc
nearest_is [] (q ∷ qs) o same p ps e =
    let first : one_further q ≡ p = cc in ap (λ (r : Outcome Place). and_then r (λ at. Ok (one_further at))) (same q qs refl) ∙ ap Ok first

place_is : (k : Known) (c : ColumnReference) (queries : List EnclosingQuery) (p : Place) (ps : List Place) → fits k c queries ≡ p ∷ ps → place_of c (map (items_here k) queries) ≡ Ok p
place_is k c [] p ps e = cc
place_is k c (query ∷ queries) p ps e =
    nearest_is (fitting c (items_here k query)) (fits k c queries) (place_of c (map (items_here k) queries)) (λ q qs same. place_is k c queries q qs same) p ps e

-- ---- there is a column at such a place

kinds_within : (columns : List ColumnDescriptor) (n : ℕ) → n < length columns → HasValue (well_formed (slice_get (map (λ c. c.kind) columns) n))
kinds_within [] n h = absurd (none n h)
  where
    none : (m : ℕ) → m < 0 → ⊥
    none m less = omega arith
kinds_within (c ∷ columns) zero h = tt
kinds_within (c ∷ columns) (suc n) h = kinds_within columns n (omega arith)

chosen_within : (b : Bool) (m n bound : ℕ) → (b ≡ true → m < bound) → cond b (Some m) None ≡ Some n → n < bound
chosen_within true m n bound h e = let same : m ≡ n = cc in subst (λ x. x < bound) same (h refl)
chosen_within false m n bound h e = cc

column_within : (name : Name) (columns : List ColumnDescriptor) (n : ℕ) → position (λ c. same_name c name) (map (λ c. c.name) columns) ≡ Some n → HasValue (well_formed (slice_get (map (λ c. c.kind) columns) n))
column_within name columns n e =
    kinds_within columns n
    (subst (λ bound. n < bound) (length-map columns (λ (c : ColumnDescriptor). c.name))
    (chosen_within (nat_lt (position_or_len (λ c. same_name c name) (map (λ c. c.name) columns)) (length (map (λ c. c.name) columns)))
    (position_or_len (λ c. same_name c name) (map (λ c. c.name) columns)) n (length (map (λ c. c.name) columns))
    (λ less. ltb-true (position_or_len (λ c. same_name c name) (map (λ c. c.name) columns)) (length (map (λ c. c.name) columns)) less) e))

-- the kind of a column of an item of FROM
abbrev kind_in : Tables → List TableReference → ℕ → ℕ → Outcome Kind
kind_in tables from item column = and_then (well_formed (slice_get from item)) (λ r. and_then (descriptor_of tables r.table) (λ d. well_formed (slice_get (column_kinds d) column)))

chosen_fits : (tables : Tables) (c : ColumnReference) (r : TableReference) (o : Outcome TableDescriptor) → HasValue o → (b : Bool) (n : ℕ)
    → (if b then position (λ name. same_name name c.column) (unwrap_or (result_ok (and_then o (λ d. Ok (item_with r d)))) (item_without r)).columns else None) ≡ Some n
    → HasValue (and_then o (λ d. well_formed (slice_get (column_kinds d) n)))
chosen_fits tables c r (Ok d) h true n e = column_within c.column d.columns n e
chosen_fits tables c r (Ok d) h false n e = cc
chosen_fits tables c r (Err status) h b n e = absurd h

-- the items that fit, counted from a number on
abbrev FitsFrom : Tables → List TableReference → ℕ → ℕ × ℕ → Type 0
FitsFrom tables from n f = (i : ℕ) × (f.0 ≡ n + i) × HasValue (kind_in tables from i f.1)

further_on : (tables : Tables) (r : TableReference) (from : List TableReference) (n : ℕ) (f : ℕ × ℕ) → FitsFrom tables from (n + 1) f → FitsFrom tables (r ∷ from) n f
further_on tables r from n f h = (suc h.0, omega (arith, h.1), h.2)

all_further : (tables : Tables) (r : TableReference) (from : List TableReference) (n : ℕ) (fs : List (ℕ × ℕ)) → AllByRecursion (FitsFrom tables from (n + 1)) fs → AllByRecursion (FitsFrom tables (r ∷ from) n) fs
all_further tables r from n [] h = tt
all_further tables r from n (f ∷ fs) h = (further_on tables r from n f h.0, all_further tables r from n fs h.1)

abbrev fitting_from : Known → ColumnReference → List TableReference → ℕ → List (ℕ × ℕ)
fitting_from k c from n = filter_map (λ i. option_map (λ column. (i.0, column)) (column_in c i.1)) (enumerate_from n (map (item_here k) from))

fits_from : (k : Known) (c : ColumnReference) (from : List TableReference) (n : ℕ) → AllByRecursion (IsKnown k) from → AllByRecursion (FitsFrom k.tables from n) (fitting_from k c from n)
fits_from k c [] n h = tt
fits_from k c (r ∷ from) n h = first (column_in c (item_here k r)) refl (all_further k.tables r from n (fitting_from k c from (n + 1)) (fits_from k c from (n + 1) h.1))
  where
    first : (o : Option ℕ) → column_in c (item_here k r) ≡ o → AllByRecursion (FitsFrom k.tables (r ∷ from) n) (fitting_from k c from (n + 1))
        → AllByRecursion (FitsFrom k.tables (r ∷ from) n) (cons_option (option_map (λ column. (n, column)) o) (fitting_from k c from (n + 1)))
    first None e further = further
    first (Some column) e further =
        let same : n ≡ n + 0 = omega arith in
        ((0, same, chosen_fits k.tables c r (descriptor_of k.tables r.table) h.0 (names_item c.qualifier (item_here k r)) column e), further)

fits_in_query : (k : Known) (c : ColumnReference) (query : EnclosingQuery) → AllByRecursion (IsKnown k) query.from
    → AllByRecursion (λ f. HasValue (kind_in k.tables query.from f.0 f.1)) (fitting c (items_here k query))
fits_in_query k c query h =
    all_weaker (FitsFrom k.tables query.from 0) (λ f. HasValue (kind_in k.tables query.from f.0 f.1))
    (λ f at. let same : at.0 ≡ f.0 = omega (arith, at.1) in subst (λ item. HasValue (kind_in k.tables query.from item f.1)) same at.2)
    (fitting c (items_here k query)) (fits_from k c query.from 0 h)

-- a column stands at the place, and its query is there
abbrev pub IsPlace : Known → List EnclosingQuery → Place → Type 0
IsPlace k queries p = HasValue (kind_at k.tables (froms_of queries) p) × HasValue (well_formed (slice_get queries p.depth))

nearest_all : (P : Place → Type 0) (here further : List Place) → AllByRecursion P here → AllByRecursion P (map one_further further) → AllByRecursion P (nearest_fits here further)
nearest_all P [] further h g = g
nearest_all P (p ∷ ps) further h g = h

-- each place that a reference fits is one of a column
pub places_there : (k : Known) (c : ColumnReference) (queries : List EnclosingQuery) → AreKnown k queries → AllByRecursion (IsPlace k queries) (fits k c queries)
places_there k c [] h = tt
places_there k c (query ∷ queries) h =
    nearest_all (IsPlace k (query ∷ queries)) (fits_here k c query) (fits k c queries)
    (all_mapped (λ f. HasValue (kind_in k.tables query.from f.0 f.1)) (IsPlace k (query ∷ queries)) place_here (λ f there. (there, tt)) (fitting c (items_here k query)) (fits_in_query k c query h.0))
    (all_mapped (IsPlace k queries) (IsPlace k (query ∷ queries)) one_further (λ p there. there) (fits k c queries) (places_there k c queries h.1))

-- ---- what a reference means

-- the place that a reference means, where it fits one
pub record Means (k : Known) (c : ColumnReference) (queries : List EnclosingQuery) : Type 0 where
  pub place : Place
  pub others : List Place
  pub found : fits k c queries ≡ place ∷ others
  pub there : IsPlace k queries place

first_found : (k : Known) (c : ColumnReference) (queries : List EnclosingQuery) (ps : List Place) → fits k c queries ≡ ps → (length ps == 0) ≡ false → AllByRecursion (IsPlace k queries) ps → Means k c queries
first_found k c queries [] e some all = cc
first_found k c queries (p ∷ ps) e some all = record { place = p; others = ps; found = e; there = all.0 }

pub meant : (k : Known) (c : ColumnReference) (queries : List EnclosingQuery) → AreKnown k queries → (length (fits k c queries) == 0) ≡ false → Means k c queries
meant k c queries known some = first_found k c queries (fits k c queries) refl some (places_there k c queries known)

-- A column that a reference means has a kind.
pub column_valued : (k : Known) (c : ColumnReference) (queries : List EnclosingQuery) → AreKnown k queries → Means k c queries → HasValue ((kinds_by_name k.tables k.parameters).column c (froms_of queries))
column_valued k c queries known at =
    subst (λ (r : Outcome Kind). HasValue r)
    (sym (ap (λ (r : Outcome (List (List Item))). and_then r (λ items. and_then (place_of c items) (kind_at k.tables (froms_of queries)))) (all_items_are k queries known)
    ∙ ap (λ (r : Outcome Place). and_then r (kind_at k.tables (froms_of queries))) (place_is k c queries at.place at.others at.found)))
    at.there.0

-- A column that a reference means may be read where its query has a line.
pub may_read : (k : Known) (rows_of : TableName → Outcome (List Row)) (c : ColumnReference) (queries : List EnclosingQuery) (lines : List (Lines Named)) → AreKnown k queries → (at : Means k c queries)
    → from_clauses lines ≡ froms_of queries → HasLine lines at.place.depth
    → MayRead (reading_by_name k.tables rows_of) (kinds_by_name k.tables k.parameters) (IsDeclaredIn k.parameters) lines c
may_read k rows_of c queries lines known at same line =
    subst (Has (λ (p : Place). HasLine lines p.depth))
    (sym (ap (λ (scopes : List (List TableReference)). and_then (each (each (item_of k.tables)) scopes) (place_of c)) same
    ∙ ap (λ (r : Outcome (List (List Item))). and_then r (place_of c)) (all_items_are k queries known)
    ∙ place_is k c queries at.place at.others at.found))
    line

-- ---- outside of set functions: a grouping column, or a column of a query that is not grouped

line_of_group : (k : Known) (p : Place) (from : List TableReference) (grouping : Option (List ColumnReference))
    → is_ungrouped_at k p (record { from = from; grouping = grouping }) ≡ false → IsTrue (has_line_of grouping)
line_of_group k p from None e = refl
line_of_group k p from (Some []) e = cc
line_of_group k p from (Some (c ∷ cs)) e = refl

line_there : (k : Known) (p : Place) (queries : List EnclosingQuery) (depth : ℕ) → HasValue (well_formed (slice_get queries depth)) → is_some_and (is_ungrouped_at k p) (slice_get queries depth) ≡ false
    → HasLine (lines_of queries) depth
line_there k p [] depth h e = absurd h
line_there k p (query ∷ queries) zero h e = line_of_group k p query.from query.grouping e
line_there k p (query ∷ queries) (suc depth) h e = line_there k p queries depth h e

-- a column that is read
pub column_read : (k : Known) (rows_of : TableName → Outcome (List Row)) (c : ColumnReference) (queries : List EnclosingQuery) (allowed : Bool) → AreKnown k queries → IsSound k (Site.column_read (around queries allowed) c)
    → MayRead (reading_by_name k.tables rows_of) (kinds_by_name k.tables k.parameters) (IsDeclaredIn k.parameters) (lines_of queries) c
column_read k rows_of c queries allowed known s =
    let at = meant k c queries known s.columns in
    may_read k rows_of c queries (lines_of queries) known at (froms_same queries)
    (line_there k at.place queries at.place.depth at.there.1 (subst (λ (ps : List Place). AllByRecursion (λ p. is_ungrouped k queries p ≡ false) ps) at.found (none_passes (is_ungrouped k queries) (fits k c queries) s.grouping)).0)

-- ---- in the operand of a set function: a column of the query's own FROM

no_further : (depth : ℕ) → nat_lt 0 depth ≡ false → depth ≡ 0
no_further depth e = omega (arith, ltb-false 0 depth e)

-- a column that is read in the operand of a set function
pub operand_read : (k : Known) (rows_of : TableName → Outcome (List Row)) (c : ColumnReference) (queries : List EnclosingQuery) → AreKnown k queries → IsSound k (Site.column_read (operand queries) c) → is_outer k (operand queries) c ≡ false
    → MayRead (reading_by_name k.tables rows_of) (kinds_by_name k.tables k.parameters) (IsDeclaredIn k.parameters) (inside_function (lines_of queries)) c
operand_read k rows_of c [] known s own = never s.columns
operand_read k rows_of c (query ∷ queries) known s own =
    let at = meant k c (query ∷ queries) known s.columns in
    let near = (subst (λ (ps : List Place). AllByRecursion (λ p. nat_lt 0 p.depth ≡ false) ps) at.found (none_passes (λ (p : Place). nat_lt 0 p.depth) (fits k c (query ∷ queries)) own)).0 in
    may_read k rows_of c (query ∷ queries) (inside_function (lines_of (query ∷ queries))) known at (froms_same (query ∷ queries))
    (subst (HasLine (inside_function (lines_of (query ∷ queries)))) (sym (no_further at.place.depth near)) refl)
