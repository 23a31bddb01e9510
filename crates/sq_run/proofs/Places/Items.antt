-- What binding knows of the tables that FROM names, and what the items of a placed FROM are then (ISO/IEC 9075:1992, 6.3 and
-- 7.4): the items by name, their rows, each column at its own position, and rows as wide as the table.
use Rattle.std.proofs.Common.{◌≡◌, ℕ, zero, suc, ◌+◌, false, List, [], ◌∷◌, length, map, Option, Some, None, refl, sym, ap, ◌∙◌, arith, Ok, Err}
use Rattle.std.specs.Prelude.{slice_get, IfOk, IfSome}
use Rattle.std.specs.List.{AllByRecursion, AllZip, enumerate_from, flat_map, zip}
use Rattle.std.specs.Option.{option_map, option_and_then}
use Rattle.sq_lex.specs.declared.name.Name.{Name}
use Rattle.sq_meaning.specs.Status.{Outcome, and_then, each, well_formed}
use Rattle.sq_meaning.specs.Environment.{Line, Row, TableName, TableReference}
use Rattle.sq_meaning.specs.Rows.{product}
use Rattle.sq_meaning.specs.Tables.{TableDescriptor, column_names, descriptor_of, item_of}
use Rattle.sq_meaning.specs.WellFormed.{Has}
use Rattle.sq_meaning.proofs.AnswerLaws.{all_appended}
use Rattle.sq_bound.specs.Known.{KnownTable}
use Rattle.sq_bound.specs.declared.names.Column.{Column}
use Rattle.sq_binding.specs.From.{NamedItem, column_over, item_over, items_of, tables_of}
use Rattle.sq_binding.specs.PlacedQuery.{item_placed}
use Rattle.sq_binding.specs.Scope.{FromItem, ItemColumn, item_named}
use Rattle.sq_binding.specs.Names.{descriptor_of as described, leaf_positions, named_table}
use Rattle.sq_run.proofs.Places.Seen.{SeenLine, column_of}
use Rattle.sq_run.proofs.Places.Setting.{Setting, items_named, known_item, named, names_in}

abbrev pub names_of_columns : List Column → List Name
names_of_columns columns = map (λ c. c.name) columns

-- a name is known as what it means: the table has these columns, and at its place are its rows, each as wide
pub record IsKnownAs (s : Setting) (name : TableName) (t : KnownTable) : Type 0 where
  pub columns : Has (λ d. column_names d ≡ names_of_columns t.columns) (descriptor_of s.tables name)
  pub rows : s.rows_of name ≡ s.shown t.place
  pub widths : IfOk (s.shown t.place) (AllByRecursion (λ row. length row ≡ length t.columns))

-- Each known name is known for the table that the definitions find under it.
abbrev pub IsFit : Setting → Type 0
IsFit s = (name : TableName) → IfSome (s.known name.user name.name) (IsKnownAs s name)

-- ---- an item

-- each column is at its own position
abbrev pub IsInOrder : FromItem → Type 0
IsInOrder item = (k : ℕ) (c : ItemColumn) → slice_get item.columns k ≡ Some c → c.position ≡ k

abbrev pub AreInOrder : List FromItem → Type 0
AreInOrder items = AllByRecursion IsInOrder items

abbrev pub HasWidth : FromItem → Row → Type 0
HasWidth item row = length row ≡ length item.columns

pub record SameItem (s : Setting) (r : TableReference) (p : NamedItem) : Type 0 where
  pub item : item_of s.tables r ≡ Ok (item_named p.item)
  pub rows : s.rows_of r.table ≡ s.shown p.table
  pub in_order : IsInOrder p.item
  pub widths : IfOk (s.shown p.table) (AllByRecursion (HasWidth p.item))

pub names_over : (n : ℕ) (columns : List Column)
    → map (λ c. c.name) (map column_over (enumerate_from n (map described columns))) ≡ names_of_columns columns
names_over n [] = refl
names_over n (c ∷ cs) = ap (λ names. c.name ∷ names) (names_over (n + 1) cs)

length_over : (n : ℕ) (columns : List Column)
    → length columns ≡ length (map column_over (enumerate_from n (map described columns)))
length_over n [] = refl
length_over n (c ∷ cs) = ap suc (length_over (n + 1) cs)

position_over : (n k : ℕ) (columns : List Column) (c : ItemColumn)
    → slice_get (map column_over (enumerate_from n (map described columns))) k ≡ Some c → c.position ≡ n + k
position_over n k [] c e = cc
position_over n zero (x ∷ xs) c e = let there : column_over (n, described x) ≡ c = cc in let added : n ≡ n + 0 = omega arith in sym (ap (λ (d : ItemColumn). d.position) there) ∙ added
position_over n (suc k) (x ∷ xs) c e = let added : n + 1 + k ≡ n + suc k = omega arith in position_over (n + 1) k xs c e ∙ added

-- the columns of an item, each at the position of the base table's column that it is
abbrev pub columns_at_leaf : List Column → List ItemColumn
columns_at_leaf columns = map column_over (zip (leaf_positions columns) (map described columns))

pub names_at_leaf : (columns : List Column) → map (λ c. c.name) (columns_at_leaf columns) ≡ names_of_columns columns
names_at_leaf [] = refl
names_at_leaf (c ∷ cs) = ap (λ names. c.name ∷ names) (names_at_leaf cs)

-- the columns of an item of a query are at their own positions
pub over_in_order : (r : TableReference) (t : KnownTable) → IsInOrder (known_item r t).item
over_in_order r t = λ k c e. let same : 0 + k ≡ k = omega arith in position_over 0 k t.columns c e ∙ same

all_wide : (m n : ℕ) → m ≡ n → (rows : List Row) → AllByRecursion (λ row. length row ≡ m) rows
    → AllByRecursion (λ row. length row ≡ n) rows
all_wide m n e [] h = tt
all_wide m n e (row ∷ rows) h = (h.0 ∙ e, all_wide m n e rows h.1)

pub item_same : (s : Setting) → IsFit s → (r : TableReference) → IfOk (item_placed (names_in s) r) (SameItem s r)
item_same s fit r = by_known (s.known r.table.user r.table.name) (fit r.table)
  where
    by_descriptor : (t : KnownTable) (o : Outcome TableDescriptor) → Has (λ d. column_names d ≡ names_of_columns t.columns) o
        → and_then o (λ d. Ok (record { reference = r; columns = column_names d })) ≡ Ok (item_named (known_item r t).item)
    by_descriptor t (Ok d) h =
        ap (λ names. Ok (record { reference = r; columns = names })) (h ∙ sym (names_over 0 t.columns))
    by_descriptor t (Err status) h = absurd h

    wide : (t : KnownTable) (o : Outcome (List Row)) → IfOk o (AllByRecursion (λ row. length row ≡ length t.columns))
        → IfOk o (AllByRecursion (HasWidth (known_item r t).item))
    wide t (Ok rows) h =
        all_wide (length t.columns) (length (known_item r t).item.columns) (length_over 0 t.columns) rows h
    wide t (Err status) h = tt

    by_known : (found : Option KnownTable) → IfSome found (IsKnownAs s r.table)
        → IfOk (well_formed (option_map (item_over r) (option_map (named_table false false) found))) (SameItem s r)
    by_known None h = tt
    by_known (Some t) h = record {
      item = by_descriptor t (descriptor_of s.tables r.table) h.columns;
      rows = h.rows;
      in_order = over_in_order r t;
      widths = wide t (s.shown t.place) h.widths;
    }

-- ---- the items of FROM

pub heads_same : (s : Setting) (from : List TableReference) (placed : List NamedItem) → AllZip (SameItem s) from placed
    → each (item_of s.tables) from ≡ Ok (items_named (items_of placed))
heads_same s [] [] h = refl
heads_same s (r ∷ rs) (p ∷ ps) h =
    (λ i. and_then (h.0.item i) (λ head. and_then (heads_same s rs ps h.1 i) (λ heads. Ok (head ∷ heads))))
heads_same s _ _ h = absurd h

pub tables_same : (s : Setting) (from : List TableReference) (placed : List NamedItem) → AllZip (SameItem s) from placed
    → each (named s).rows from ≡ each s.shown (tables_of placed)
tables_same s [] [] h = refl
tables_same s (r ∷ rs) (p ∷ ps) h =
    (λ i. and_then (h.0.rows i) (λ rows. and_then (tables_same s rs ps h.1 i) (λ others. Ok (rows ∷ others))))
tables_same s _ _ h = absurd h

in_order_at : (s : Setting) (from : List TableReference) (placed : List NamedItem) → AllZip (SameItem s) from placed
    → (item column : ℕ) (c : ItemColumn) → column_of (items_of placed) item column ≡ Some c → c.position ≡ column
in_order_at s [] [] h item column c e = cc
in_order_at s (r ∷ rs) (p ∷ ps) h zero column c e = h.0.in_order column c e
in_order_at s (r ∷ rs) (p ∷ ps) h (suc item) column c e = in_order_at s rs ps h.1 item column c e
in_order_at s _ _ h item column c e = absurd h

-- a line is seen as itself
pub line_seen : (s : Setting) (from : List TableReference) (placed : List NamedItem) → AllZip (SameItem s) from placed
    → (line : Line) → SeenLine (items_of placed) line line
line_seen s from placed h line item column c e =
    ap (λ k. option_and_then (λ row. slice_get row k) (slice_get line item)) (sym (in_order_at s from placed h item column c e))

pub in_order_same : (s : Setting) (from : List TableReference) (placed : List NamedItem) → AllZip (SameItem s) from placed
    → AreInOrder (items_of placed)
in_order_same s [] [] h = tt
in_order_same s (r ∷ rs) (p ∷ ps) h = (h.0.in_order, in_order_same s rs ps h.1)
in_order_same s _ _ h = absurd h

-- ---- widths

abbrev pub HaveWidths : List FromItem → Line → Type 0
HaveWidths = AllZip HasWidth

with_row : (item : FromItem) (items : List FromItem) (row : Row) → HasWidth item row → (lines : List Line)
    → AllByRecursion (HaveWidths items) lines → AllByRecursion (HaveWidths (item ∷ items)) (map (λ line. row ∷ line) lines)
with_row item items row w [] h = tt
with_row item items row w (line ∷ lines) h = ((w, h.0), with_row item items row w lines h.1)

with_rows : (item : FromItem) (items : List FromItem) (rows : List Row) (lines : List Line) → AllByRecursion (HasWidth item) rows
    → AllByRecursion (HaveWidths items) lines
    → AllByRecursion (HaveWidths (item ∷ items)) (flat_map (λ row. map (λ line. row ∷ line) lines) rows)
with_rows item items [] lines w h = tt
with_rows item items (row ∷ rows) lines w h =
    all_appended (HaveWidths (item ∷ items)) (map (λ line. row ∷ line) lines) (flat_map (λ r. map (λ line. r ∷ line) lines) rows)
    (with_row item items row w.0 lines h) (with_rows item items rows lines w.1 h)

-- each line of the product is as wide as the items
pub product_wide : (s : Setting) (from : List TableReference) (placed : List NamedItem) → AllZip (SameItem s) from placed
    → IfOk (each s.shown (tables_of placed)) (λ tables. AllByRecursion (HaveWidths (items_of placed)) (product tables))
product_wide s [] [] h = (tt, tt)
product_wide s (r ∷ rs) (p ∷ ps) h = by_rows (s.shown p.table) (each s.shown (tables_of ps)) h.0.widths (product_wide s rs ps h.1)
  where
    by_rows : (o : Outcome (List Row)) (others : Outcome (List (List Row))) → IfOk o (AllByRecursion (HasWidth p.item))
        → IfOk others (λ tables. AllByRecursion (HaveWidths (items_of ps)) (product tables))
        → IfOk (and_then o (λ rows. and_then others (λ tables. Ok (rows ∷ tables))))
        (λ tables. AllByRecursion (HaveWidths (p.item ∷ items_of ps)) (product tables))
    by_rows (Err status) others w h = tt
    by_rows (Ok rows) (Err status) w h = tt
    by_rows (Ok rows) (Ok tables) w h = with_rows p.item (items_of ps) rows (product tables) w h
product_wide s _ _ h = absurd h
