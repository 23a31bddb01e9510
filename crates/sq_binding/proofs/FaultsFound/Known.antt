-- A column reference and a parameter mean in binding what the rules find, if the queries around have the FROM items of the
-- known tables (ISO/IEC 9075:1992, 6.2 to 6.4).
use Rattle.std.proofs.Common.{◌≡◌, ℕ, zero, suc, ◌+◌, ◌<◌, Bool, true, false, cond, List, [], ◌∷◌, length, map, Option, Some, None, Ok, Err, arith, refl, sym, ap, subst, ◌∙◌}
use Rattle.std.proofs.lemmas.Bool.{ltb-false}
use Rattle.std.proofs.lemmas.Bool.Decides.{nat_tests}
use Rattle.std.proofs.lemmas.List.{length-map}
use Rattle.std.proofs.lemmas.List.Folds.{find_at}
use Rattle.std.proofs.lemmas.List.Quantifiers.{position-Some}
use Rattle.std.proofs.lemmas.Option.{slice_get_past}
use Rattle.std.specs.List.{AllByRecursion, AllZip, cons_option, enumerate_from, position, position_or_len}
use Rattle.std.specs.Option.{option_map, option_and_then}
use Rattle.std.specs.Prelude.{⊤, ◌==◌, filter_map, nat_lt, slice_get, unwrap_or, if◌then◌else◌}
use Rattle.std.specs.Result.{result_ok}
use Rattle.sq_lex.specs.declared.name.Name.{Name}
use Rattle.sq_value.specs.declared.domain.Domain.{Domain}
use Rattle.sq_value.specs.declared.domain.Kind.{Kind}
use Rattle.sq_tree.specs.declared.names.ColumnReference.{ColumnReference}
use Rattle.sq_meaning.proofs.AnswerLaws.{all_weaker}
use Rattle.sq_meaning.specs.Environment as meaning
use Rattle.sq_meaning.specs.Environment.{Place, TableReference, column_in, fitting, names_item, place_of, same_name}
use Rattle.sq_meaning.specs.Status as status
use Rattle.sq_meaning.specs.Tables.{ColumnDescriptor, Declared, TableDescriptor, Tables, column_kinds, column_names, descriptor_of, kind_at}
use Rattle.sq_meaning.specs.WellFormed.{HasValue}
use Rattle.sq_meaning.specs.Binding.{domain_named, is_ungrouped_at, item_here, items_here, nearest_fits, one_further}
use Rattle.sq_meaning.specs.Binding as rules
use Rattle.sq_meaning.specs.Site.{EnclosingQuery, Known}
use Rattle.sq_meaning.specs.Words.{is_some_and}
use Rattle.sq_meaning.specs.declared.fault.BindingFault.{BindingFault}
use Rattle.sq_meaning.specs.declared.fault.BindingFault.TheVariants as fault
use Rattle.sq_binding.specs.Expression.{parameter_named, place_of_found}
use Rattle.sq_binding.specs.From.{column_over}
use Rattle.sq_binding.specs.Outcome.{Outcome, or_fault}
use Rattle.sq_binding.specs.Scope.{FoundColumn, FromItem, ItemColumn, Scope, column_meant, column_numbered, fits, found_in, is_grouped, is_last, item_named, nearest}

-- ---- the items of FROM

abbrev pub columns_in : status.Outcome TableDescriptor → List ColumnDescriptor
columns_in (Ok d) = d.columns
columns_in (Err s) = []

-- the item of a table reference
abbrev pub item_known : Known → TableReference → FromItem
item_known k r = record { reference = r; columns = map column_over (enumerate_from 0 (columns_in (descriptor_of k.tables r.table))) }

-- A scope of a query around: its items are those of the tables, which are there.
pub record IsOver (k : Known) (scope : Scope) (query : EnclosingQuery) : Type 0 where
  pub items : scope.items ≡ map (item_known k) query.from
  pub known : AllByRecursion (λ r. HasValue (descriptor_of k.tables r.table)) query.from

names_over : (n : ℕ) (columns : List ColumnDescriptor) → map (λ c. c.name) (map column_over (enumerate_from n columns)) ≡ map (λ c. c.name) columns
names_over n [] = refl
names_over n (c ∷ columns) = ap (λ l. c.name ∷ l) (names_over (n + 1) columns)

item_named_is : (r : TableReference) (o : status.Outcome TableDescriptor)
    → item_named (record { reference = r; columns = map column_over (enumerate_from 0 (columns_in o)) })
    ≡ unwrap_or (result_ok (status.and_then o (λ d. Ok (record { reference = r; columns = column_names d })))) (record { reference = r; columns = [] })
item_named_is r (Ok d) = λ i. record { reference = r; columns = names_over 0 d.columns i }
item_named_is r (Err s) = refl

items_named : (k : Known) (from : List TableReference) → map item_named (map (item_known k) from) ≡ map (item_here k) from
items_named k [] = refl
items_named k (r ∷ from) = λ i. item_named_is r (descriptor_of k.tables r.table) i ∷ items_named k from i

fits_are : (k : Known) (scope : Scope) (query : EnclosingQuery) → IsOver k scope query → (c : ColumnReference) → fits c scope ≡ fitting c (items_here k query)
fits_are k scope query h c = ap (λ items. fitting c (map item_named items)) h.items ∙ ap (fitting c) (items_named k query.from)

-- ---- a column stands where a reference fits

pub record HasColumn (items : List FromItem) (at : ℕ × ℕ) : Type 0 where
  pub found : ItemColumn
  pub there : option_and_then (λ item. slice_get item.columns at.1) (slice_get items at.0) ≡ Some found

pub within : {A : Type 0} (xs : List A) (n : ℕ) → n < length xs → (x : A) × (slice_get xs n ≡ Some x)
within [] n h = absurd (never n h)
  where
    never : (m : ℕ) → m < 0 → ⊥
    never m less = omega arith
within (x ∷ xs) zero h = (x, refl)
within (x ∷ xs) (suc n) h = within xs n (omega arith)

named_there : (names : Bool) (name : Name) (columns : List ItemColumn) (n : ℕ) → (if names then position (λ m. same_name m name) (map (λ c. c.name) columns) else None) ≡ Some n
    → (c : ItemColumn) × (slice_get columns n ≡ Some c)
named_there true name columns n e =
    within columns n (subst (λ m. n < m) (length-map columns (λ (c : ItemColumn). c.name)) (position-Some (λ m. same_name m name) (map (λ (c : ItemColumn). c.name) columns) n [] e).0)
named_there false name columns n e = cc

-- counted from a number on
abbrev FitsFrom : List FromItem → ℕ → ℕ × ℕ → Type 0
FitsFrom items n at = (i : ℕ) × (at.0 ≡ n + i) × HasColumn items (i, at.1)

all_further : (item : FromItem) (items : List FromItem) (n : ℕ) (ats : List (ℕ × ℕ)) → AllByRecursion (FitsFrom items (n + 1)) ats → AllByRecursion (FitsFrom (item ∷ items) n) ats
all_further item items n ats h =
    all_weaker (FitsFrom items (n + 1)) (FitsFrom (item ∷ items) n) (λ at g. (suc g.0, omega (arith, g.1), record { found = g.2.found; there = g.2.there })) ats h

abbrev fitting_from : ColumnReference → List FromItem → ℕ → List (ℕ × ℕ)
fitting_from c items n = filter_map (λ i. option_map (λ column. (i.0, column)) (column_in c i.1)) (enumerate_from n (map item_named items))

fits_from : (c : ColumnReference) (items : List FromItem) (n : ℕ) → AllByRecursion (FitsFrom items n) (fitting_from c items n)
fits_from c [] n = tt
fits_from c (item ∷ items) n = first (column_in c (item_named item)) refl (all_further item items n (fitting_from c items (n + 1)) (fits_from c items (n + 1)))
  where
    first : (o : Option ℕ) → column_in c (item_named item) ≡ o → AllByRecursion (FitsFrom (item ∷ items) n) (fitting_from c items (n + 1))
        → AllByRecursion (FitsFrom (item ∷ items) n) (cons_option (option_map (λ column. (n, column)) o) (fitting_from c items (n + 1)))
    first None e further = further
    first (Some column) e further =
        let same : n ≡ n + 0 = omega arith in
        let there = named_there (names_item c.qualifier (item_named item)) c.column item.columns column e in
        ((0, same, record { found = there.0; there = there.1 }), further)

fits_there : (c : ColumnReference) (scope : Scope) → AllByRecursion (HasColumn scope.items) (fits c scope)
fits_there c scope =
    all_weaker (FitsFrom scope.items 0) (HasColumn scope.items)
    (λ at g. let same : g.0 ≡ at.0 = omega (arith, g.1) in subst (λ item. HasColumn scope.items (item, at.1)) same g.2) (fits c scope) (fits_from c scope.items 0)

-- ---- its position and its kind

position_over : (n : ℕ) (columns : List ColumnDescriptor) (m : ℕ) (c : ItemColumn) → slice_get (map column_over (enumerate_from n columns)) m ≡ Some c → c.position ≡ n + m
position_over n [] m c e = cc
position_over n (d ∷ columns) zero c e = let same : column_over (n, d) ≡ c = cc in let sum : n ≡ n + 0 = omega arith in sym (ap (λ c. c.position) same) ∙ sum
position_over n (d ∷ columns) (suc m) c e = let rest = position_over (n + 1) columns m c e in omega (arith, rest)

kind_over : (n : ℕ) (columns : List ColumnDescriptor) (m : ℕ) (c : ItemColumn) → slice_get (map column_over (enumerate_from n columns)) m ≡ Some c → slice_get (map (λ c. c.kind) columns) m ≡ Some c.kind
kind_over n [] m c e = cc
kind_over n (d ∷ columns) zero c e = let same : column_over (n, d) ≡ c = cc in ap (λ c. Some c.kind) same
kind_over n (d ∷ columns) (suc m) c e = kind_over (n + 1) columns m c e

abbrev kind_in : Tables → List TableReference → ℕ × ℕ → status.Outcome Kind
kind_in tables from at = status.and_then (status.well_formed (slice_get from at.0)) (λ r. status.and_then (descriptor_of tables r.table) (λ d. status.well_formed (slice_get (column_kinds d) at.1)))

-- a column of the tables of FROM
record IsColumn (k : Known) (from : List TableReference) (at : ℕ × ℕ) (c : ItemColumn) : Type 0 where
  pub position : c.position ≡ at.1
  pub kind : kind_in k.tables from at ≡ Ok c.kind

column_of : (o : status.Outcome TableDescriptor) (n : ℕ) (c : ItemColumn) → slice_get (map column_over (enumerate_from 0 (columns_in o))) n ≡ Some c
    → (c.position ≡ n) × (status.and_then o (λ d. status.well_formed (slice_get (column_kinds d) n)) ≡ Ok c.kind)
column_of (Ok d) n c e = let at = position_over 0 d.columns n c e in (omega (arith, at), ap status.well_formed (kind_over 0 d.columns n c e))
column_of (Err s) n c e = cc

is_column : (k : Known) (from : List TableReference) (item column : ℕ) (c : ItemColumn) → option_and_then (λ i. slice_get i.columns column) (slice_get (map (item_known k) from) item) ≡ Some c
    → IsColumn k from (item, column) c
is_column k [] item column c e = cc
is_column k (r ∷ from) zero column c e = let parts = column_of (descriptor_of k.tables r.table) column c e in record { position = parts.0; kind = parts.1 }
is_column k (r ∷ from) (suc item) column c e = let rest = is_column k from item column c e in record { position = rest.position; kind = rest.kind }

-- ---- column references

-- where a column is no grouping column, the rules find so
abbrev pub GroupFits : Known → Scope → EnclosingQuery → Type 0
GroupFits k scope query = (p : Place) → is_grouped scope.grouping p.item p.column ≡ false → is_ungrouped_at k p query ≡ true

-- where a column is no grouping column of the scope at this depth, the rules find so
abbrev pub GroupsAt : Known → List Scope → List EnclosingQuery → ℕ → Type 0
GroupsAt k [] queries depth = ⊤
GroupsAt k (scope ∷ scopes) [] depth = ⊤
GroupsAt k (scope ∷ scopes) (query ∷ queries) zero = GroupFits k scope query
GroupsAt k (scope ∷ scopes) (query ∷ queries) (suc depth) = GroupsAt k scopes queries depth

-- A column that a reference means: the only place that it fits, with its kind.
pub record Meant (k : Known) (c : ColumnReference) (scopes : List Scope) (queries : List EnclosingQuery) (found : FoundColumn) : Type 0 where
  pub fits : rules.fits k c queries ≡ place_of_found found ∷ []
  pub placed : place_of c (map (items_here k) queries) ≡ Ok (place_of_found found)
  pub kind : kind_at k.tables (map (λ query. query.from) queries) (place_of_found found) ≡ Ok found.column.kind
  pub ungrouped : GroupsAt k scopes queries found.depth → found.is_grouped ≡ false → is_some_and (is_ungrouped_at k (place_of_found found)) (slice_get queries found.depth) ≡ true

-- the fault of a reference that fits so many columns of the nearest scope
abbrev pub column_fault : BindingFault → ℕ → Bool
column_fault fault.UnknownColumn n = n == 0
column_fault fault.AmbiguousName n = nat_lt 1 n
column_fault _ n = false

abbrev pub IfMeant : Known → ColumnReference → List Scope → List EnclosingQuery → Outcome FoundColumn → Type 0
IfMeant k c scopes queries (Ok found) = Meant k c scopes queries found
IfMeant k c scopes queries (Err f) = column_fault f (length (rules.fits k c queries)) ≡ true

abbrev place_here : ℕ × ℕ → Place
place_here at = record { depth = 0; item = at.0; column = at.1 }

many : (n : ℕ) → nat_lt 1 (suc (suc n)) ≡ true
many n = grind (arith, nat_tests)

module _ (k : Known) (c : ColumnReference) (scope : Scope) (query : EnclosingQuery) (scopes : List Scope) (queries : List EnclosingQuery) (over : IsOver k scope query) where
  only_meant : (at : ℕ × ℕ) (last : Bool) → fitting c (items_here k query) ≡ at ∷ [] → HasColumn scope.items at
      → IfMeant k c (scope ∷ scopes) (query ∷ queries) (or_fault fault.UnknownColumn (option_map (found_in scope last at) (column_numbered scope at)))
  only_meant at last e here =
      let column = is_column k query.from at.0 at.1 here.found (subst (λ items. option_and_then (λ i. slice_get i.columns at.1) (slice_get items at.0) ≡ Some here.found) over.items here.there) in
      let same : place_here at ≡ place_of_found (found_in scope last at here.found) = λ i. record { depth = 0; item = at.0; column = sym column.position i } in
      subst (λ o. IfMeant k c (scope ∷ scopes) (query ∷ queries) (or_fault fault.UnknownColumn (option_map (found_in scope last at) o))) (sym here.there)
      (record {
        fits = ap (λ ats. nearest_fits (map place_here ats) (rules.fits k c queries)) e ∙ ap (λ p. p ∷ []) same;
        placed = ap (λ ats. meaning.nearest ats (place_of c (map (items_here k) queries))) e ∙ ap Ok same;
        kind = ap (λ n. kind_in k.tables query.from (at.0, n)) column.position ∙ column.kind;
        ungrouped = λ group free. group (place_of_found (found_in scope last at here.found)) free;
      })

  further_fits : fitting c (items_here k query) ≡ [] → rules.fits k c (query ∷ queries) ≡ map one_further (rules.fits k c queries)
  further_fits e = ap (λ ats. nearest_fits (map place_here ats) (rules.fits k c queries)) e

  nearest_meant : (ats : List (ℕ × ℕ)) (last : Bool) → fitting c (items_here k query) ≡ ats → AllByRecursion (HasColumn scope.items) ats → (o : Outcome FoundColumn) → IfMeant k c scopes queries o
      → IfMeant k c (scope ∷ scopes) (query ∷ queries) (nearest scope last ats o)
  nearest_meant [] last e all (Err f) h = subst (λ n. column_fault f n ≡ true) (sym (ap length (further_fits e) ∙ length-map (rules.fits k c queries) one_further)) h
  nearest_meant [] last e all (Ok found) h = record {
    fits = further_fits e ∙ ap (map one_further) h.fits;
    placed = ap (λ ats. meaning.nearest ats (place_of c (map (items_here k) queries))) e ∙ ap (λ o. meaning.nearest [] o) h.placed;
    kind = h.kind;
    ungrouped = h.ungrouped;
  }
  nearest_meant (at ∷ []) last e all o h = only_meant at last e all.0
  nearest_meant (at ∷ next ∷ others) last e all o h =
      subst (λ n. nat_lt 1 n ≡ true) (sym (ap (λ ats. length (nearest_fits (map place_here ats) (rules.fits k c queries))) e)) (many (length (map place_here others)))

-- what a column reference means in binding the rules find, and the fault that it has
pub column_found : (k : Known) (c : ColumnReference) (scopes : List Scope) (queries : List EnclosingQuery) → AllZip (IsOver k) scopes queries → IfMeant k c scopes queries (column_meant c scopes)
column_found k c [] [] h = refl
column_found k c [] (query ∷ queries) h = absurd h
column_found k c (scope ∷ scopes) [] h = absurd h
column_found k c (scope ∷ scopes) (query ∷ queries) h =
    let same = fits_are k scope query h.0 c in
    nearest_meant k c scope query scopes queries h.0 (fits c scope) (is_last scopes) (sym same) (fits_there c scope) (column_meant c scopes) (column_found k c scopes queries h.1)

-- ---- parameters

-- the parameter of a name, or there is none
abbrev pub IfNamed : Option Domain → Outcome (ℕ × Domain) → Type 0
IfNamed domain (Ok at) = domain ≡ Some at.1
IfNamed domain (Err f) = (f ≡ fault.UnknownParameter) × (domain ≡ None)

module _ (k : Known) (name : Name) where
  abbrev first : ℕ
  first = position_or_len (λ d. same_name d.name name) k.parameters

  named_at : (o : Option Declared) → IfNamed (option_map (λ d. d.domain) o) (or_fault fault.UnknownParameter (option_map (λ d. (first, d.domain)) o))
  named_at None = (refl, refl)
  named_at (Some d) = refl

  named_if : (there : Bool) → (there ≡ false → slice_get k.parameters first ≡ None)
      → IfNamed (option_map (λ d. d.domain) (slice_get k.parameters first))
      (or_fault fault.UnknownParameter (option_and_then (λ at. option_map (λ p. (at, p.domain)) (slice_get k.parameters at)) (cond there (Some first) None)))
  named_if true past = named_at (slice_get k.parameters first)
  named_if false past = (refl, ap (option_map (λ (d : Declared). d.domain)) (past refl))

  pub parameter_found : IfNamed (domain_named k name) (parameter_named k.parameters name)
  parameter_found =
      subst (λ o. IfNamed (option_map (λ d. d.domain) o) (parameter_named k.parameters name)) (sym (find_at (λ (d : Declared). same_name d.name name) k.parameters))
      (named_if (nat_lt first (length k.parameters)) (λ past. slice_get_past k.parameters first (ltb-false first (length k.parameters) past)))
