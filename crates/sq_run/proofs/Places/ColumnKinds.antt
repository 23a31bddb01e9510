-- What is known beforehand of the columns of a query expression is by places what it is by names (ISO/IEC 9075:1992, 6.11 to 6.13,
-- 7.9 and 7.10), so UNION brings its rows to the same kinds.
use Rattle.std.proofs.Common.{◌≡◌, ℕ, zero, suc, ◌+◌, cond, Bool, true, false, List, [], ◌∷◌, length, map, drop, Option, Some, None, refl, sym, ap, ◌∙◌, arith, Ok, Err}
use Rattle.std.proofs.lemmas.List.Folds.{find_at}
use Rattle.std.specs.Prelude.{⊤, nat_lt, find, slice_get, IfOk, IfSome}
use Rattle.std.specs.List.{AllZip, enumerate_from, flat_map, position_or_len}
use Rattle.std.specs.Option.{option_map, option_and_then}
use Rattle.sq_lex.specs.declared.name.Name.{Name}
use Rattle.sq_tree.specs.declared.names.ColumnReference.{ColumnReference}
use Rattle.sq_tree.specs.declared.names.Parameter.{Parameter}
use Rattle.sq_value.specs.Domain.{kind_of}
use Rattle.sq_value.specs.declared.domain.Domain.{Domain}
use Rattle.sq_value.specs.declared.domain.Kind.{Kind}
use Rattle.sq_meaning.specs.Status.{Outcome, and_then, each, well_formed}
use Rattle.sq_meaning.specs.Syntax.{Expr, literal, parameter, user, column, count_rows, set_function, signed, added, scaled, bracketed, SelectList, all_columns, expressions}
use Rattle.sq_meaning.specs.Environment.{Item, Place, TableName, TableReference, place_of, same_name}
use Rattle.sq_meaning.specs.Kind.{Kinds, function_kind, kind, list_kinds, product_kind, signed_kind, sum_kind}
use Rattle.sq_meaning.specs.Placed.{Placed}
use Rattle.sq_meaning.specs.Spelled.{Named}
use Rattle.sq_meaning.specs.Tables.{Declared, TableDescriptor, column_kinds, descriptor_of, item_of, kind_at, kinds_by_name}
use Rattle.sq_meaning.specs.WellFormed.{Has, kind_there, kinds_by_place}
use Rattle.sq_meaning.proofs.OutcomeLaws.{both_lists, each-append, each_map}
use Rattle.sq_bound.specs.Expression.{PlacedExpr}
use Rattle.sq_bound.specs.Known.{KnownTable}
use Rattle.sq_bound.specs.WellFormed.{TableKinds, kinds_of_columns, kinds_of_parameters}
use Rattle.sq_bound.specs.declared.condition.TablePlace.{TablePlace}
use Rattle.sq_bound.specs.declared.names.Column.{Column}
use Rattle.sq_bound.specs.declared.names.ParameterDesc.{ParameterDesc}
use Rattle.sq_binding.specs.From.{NamedItem, column_over, item_over, items_of, tables_of}
use Rattle.sq_binding.specs.Placed.{column_at, heads_of, indicator_named, placed, placed_column, placed_parameter, position_named}
use Rattle.sq_binding.specs.PlacedQuery.{columns_placed, expr_placed, item_placed, list_placed}
use Rattle.sq_binding.specs.Scope.{FromItem, ItemColumn}
use Rattle.sq_binding.specs.Names.{declared, descriptor_of as described, named_table}
use Rattle.sq_run.proofs.Places.Items.{AreInOrder}
use Rattle.sq_run.proofs.Places.Lists.{AreFrom, at_drop, from_order, shown_columns}
use Rattle.sq_run.proofs.Places.Outcomes.{each_zip, if_also, if_any, if_each, if_one, if_then, if_two}
use Rattle.sq_run.proofs.Places.Parameters.{get_map}
use Rattle.sq_run.proofs.Places.Seen.{column_of}
use Rattle.sq_run.proofs.Places.Setting.{Setting, around, items_named, known_item, names_in, scopes_with}

abbrev pub named_kinds : Setting → Kinds Named
named_kinds s = kinds_by_name s.tables (declared s.parameters)

abbrev pub kinds_at_places : Setting → TableKinds → Kinds (Placed TablePlace)
kinds_at_places s columns = kinds_by_place columns (kinds_of_parameters s.parameters)

-- a name's columns have these kinds, and so have those at its place
pub record HasKinds (s : Setting) (columns : TableKinds) (name : TableName) (t : KnownTable) : Type 0 where
  pub by_name : Has (λ d. column_kinds d ≡ kinds_of_columns t.columns) (descriptor_of s.tables name)
  pub by_place : columns t.place ≡ Ok (kinds_of_columns t.columns)

abbrev pub AreTyped : Setting → TableKinds → Type 0
AreTyped s columns = (name : TableName) → IfSome (s.known name.user name.name) (HasKinds s columns name)

-- ---- an item

abbrev pub kinds_of_item : FromItem → List Kind
kinds_of_item item = map (λ c. c.kind) item.columns

pub record TypedItem (s : Setting) (columns : TableKinds) (r : TableReference) (p : NamedItem) : Type 0 where
  pub by_name : and_then (descriptor_of s.tables r.table) (λ d. Ok (column_kinds d)) ≡ Ok (kinds_of_item p.item)
  pub by_place : columns p.table ≡ Ok (kinds_of_item p.item)

kinds_over : (n : ℕ) (columns : List Column)
    → kinds_of_columns columns ≡ map (λ c. c.kind) (map column_over (enumerate_from n (map described columns)))
kinds_over n [] = refl
kinds_over n (c ∷ cs) = ap (λ ks. c.kind ∷ ks) (kinds_over (n + 1) cs)

pub item_typed : (s : Setting) (columns : TableKinds) → AreTyped s columns → (r : TableReference)
    → IfOk (item_placed (names_in s) r) (TypedItem s columns r)
item_typed s columns typed r = by_known (s.known r.table.user r.table.name) (typed r.table)
  where
    by_descriptor : (t : KnownTable) (o : Outcome TableDescriptor) → Has (λ d. column_kinds d ≡ kinds_of_columns t.columns) o
        → and_then o (λ d. Ok (column_kinds d)) ≡ Ok (kinds_of_item (known_item r t).item)
    by_descriptor t (Ok d) h = ap (λ (ks : List Kind). Ok ks) (h ∙ kinds_over 0 t.columns)
    by_descriptor t (Err status) h = absurd h

    by_known : (found : Option KnownTable) → IfSome found (HasKinds s columns r.table)
        → IfOk (well_formed (option_map (item_over r) (option_map (named_table false false) found))) (TypedItem s columns r)
    by_known None h = tt
    by_known (Some t) h = record {
      by_name = by_descriptor t (descriptor_of s.tables r.table) h.by_name;
      by_place = h.by_place ∙ ap (λ (ks : List Kind). Ok ks) (kinds_over 0 t.columns);
    }

-- ---- columns of one query specification, outside of all others

-- the kind in a list, by the table's kinds
abbrev kind_in : Outcome (List Kind) → ℕ → Outcome Kind
kind_in o k = and_then o (λ kinds. well_formed (slice_get kinds k))

kind_of_column : (columns : List ItemColumn) (k : ℕ) (c : ItemColumn) → slice_get columns k ≡ Some c
    → slice_get (map (λ d. d.kind) columns) k ≡ Some c.kind
kind_of_column [] k c e = cc
kind_of_column (x ∷ xs) zero c e = let same : x ≡ c = cc in ap (λ (d : ItemColumn). Some d.kind) same
kind_of_column (x ∷ xs) (suc k) c e = kind_of_column xs k c e

descriptor_then : (o : Outcome TableDescriptor) (kinds : List Kind) (k : ℕ) → and_then o (λ d. Ok (column_kinds d)) ≡ Ok kinds
    → and_then o (λ d. well_formed (slice_get (column_kinds d) k)) ≡ well_formed (slice_get kinds k)
descriptor_then (Ok d) kinds k e = let same : column_kinds d ≡ kinds = cc in ap (λ ks. well_formed (slice_get ks k)) same
descriptor_then (Err status) kinds k e = cc

-- by name
abbrev named_at : Setting → List TableReference → ℕ → ℕ → Outcome Kind
named_at s from item k =
    and_then (well_formed (slice_get from item))
    (λ r. and_then (descriptor_of s.tables r.table) (λ d. well_formed (slice_get (column_kinds d) k)))

-- by place
abbrev placed_at : TableKinds → List TablePlace → ℕ → ℕ → Outcome Kind
placed_at columns tables item k = and_then (well_formed (slice_get tables item)) (λ t. kind_in (columns t) k)

named_kind : (s : Setting) (columns : TableKinds) (from : List TableReference) (ps : List NamedItem)
    → AllZip (TypedItem s columns) from ps
    → (item k : ℕ) (c : ItemColumn) → column_of (items_of ps) item k ≡ Some c → named_at s from item k ≡ Ok c.kind
named_kind s columns [] [] h item k c e = cc
named_kind s columns (r ∷ rs) (p ∷ ps) h zero k c e =
    descriptor_then (descriptor_of s.tables r.table) (kinds_of_item p.item) k h.0.by_name
    ∙ ap (λ (o : Option Kind). well_formed o) (kind_of_column p.item.columns k c e)
named_kind s columns (r ∷ rs) (p ∷ ps) h (suc item) k c e = named_kind s columns rs ps h.1 item k c e
named_kind s columns _ _ h item k c e = absurd h

placed_kind : (s : Setting) (columns : TableKinds) (from : List TableReference) (ps : List NamedItem)
    → AllZip (TypedItem s columns) from ps
    → (item k : ℕ) (c : ItemColumn) → column_of (items_of ps) item k ≡ Some c → placed_at columns (tables_of ps) item k
    ≡ Ok c.kind
placed_kind s columns [] [] h item k c e = cc
placed_kind s columns (r ∷ rs) (p ∷ ps) h zero k c e =
    ap (λ o. kind_in o k) h.0.by_place ∙ ap (λ (o : Option Kind). well_formed o) (kind_of_column p.item.columns k c e)
placed_kind s columns (r ∷ rs) (p ∷ ps) h (suc item) k c e = placed_kind s columns rs ps h.1 item k c e
placed_kind s columns _ _ h item k c e = absurd h

position_is : (items : List FromItem) → AreInOrder items → (item k : ℕ) (c : ItemColumn) → column_of items item k ≡ Some c
    → c.position ≡ k
position_is [] o item k c e = cc
position_is (i ∷ items) o zero k c e = o.0 k c e
position_is (i ∷ items) o (suc item) k c e = position_is items o.1 item k c e

-- what FROM has, and what it becomes
pub record SameTables (s : Setting) (columns : TableKinds) (from : List TableReference) (placed : List NamedItem) : Type 0 where
  pub items_are : each (item_of s.tables) from ≡ Ok (items_named (items_of placed))
  pub in_order : AreInOrder (items_of placed)
  pub typed : AllZip (TypedItem s columns) from placed

abbrev pub SameKind : Setting → TableKinds → List TableReference → List NamedItem → Expr Named → PlacedExpr → Type 0
SameKind s columns from placed e t =
    kind (named_kinds s) (from ∷ []) e ≡ kind (kinds_at_places s columns) (tables_of placed ∷ []) t

column_kind_same : (s : Setting) (columns : TableKinds) (from : List TableReference) (ps : List NamedItem)
    → SameTables s columns from ps → (r : ColumnReference)
    → IfOk (placed_column (scopes_with (items_of ps ∷ [])) r)
    (λ p. (named_kinds s).column r (from ∷ []) ≡ kind_there columns (tables_of ps ∷ []) p)
column_kind_same s columns from ps same r = by_place (place_of r (heads_of (scopes_with (items_of ps ∷ [])))) refl
  where
    Same : Place → Type 0
    Same p = (named_kinds s).column r (from ∷ []) ≡ kind_there columns (tables_of ps ∷ []) p

    heads : (named_kinds s).column r (from ∷ [])
        ≡ and_then (place_of r (heads_of (scopes_with (items_of ps ∷ [])))) (kind_at s.tables (from ∷ []))
    heads =
        ap (λ (o : Outcome (List Item)). and_then (and_then o (λ x. Ok (x ∷ []))) (λ items. and_then (place_of r items) (kind_at s.tables (from ∷ [])))) same.items_are

    at_depth : (depth item k : ℕ)
        → place_of r (heads_of (scopes_with (items_of ps ∷ []))) ≡ Ok (record { depth = depth; item = item; column = k }) → (c : ItemColumn)
        → column_at (scopes_with (items_of ps ∷ [])) (record { depth = depth; item = item; column = k }) ≡ Some c
        → Same (record { depth = depth; item = item; column = c.position })
    at_depth zero item k p c e =
        heads ∙ ap (λ (o : Outcome Place). and_then o (kind_at s.tables (from ∷ []))) p
        ∙ named_kind s columns from ps same.typed item k c e
        ∙ sym (placed_kind s columns from ps same.typed item k c e)
        ∙ sym (ap (λ n. placed_at columns (tables_of ps) item n) (position_is (items_of ps) same.in_order item k c e))
    at_depth (suc depth) item k p c e = cc

    by_column : (at : Place) → place_of r (heads_of (scopes_with (items_of ps ∷ []))) ≡ Ok at → (found : Option ItemColumn)
        → column_at (scopes_with (items_of ps ∷ [])) at ≡ found
        → IfOk (well_formed (option_map (λ c. record at { column = c.position }) found)) Same
    by_column at p None e = tt
    by_column at p (Some c) e = at_depth at.depth at.item at.column p c e

    by_place : (o : Outcome Place) → place_of r (heads_of (scopes_with (items_of ps ∷ []))) ≡ o
        → IfOk (and_then o (λ at. well_formed (option_map (λ c. record at { column = c.position }) (column_at (scopes_with (items_of ps ∷ [])) at)))) Same
    by_place (Err status) p = tt
    by_place (Ok at) p = by_column at p (column_at (scopes_with (items_of ps ∷ [])) at) refl

-- ---- parameters

kinds_declared : (parameters : List ParameterDesc) → map (λ d. kind_of d.domain) (declared parameters) ≡ kinds_of_parameters parameters
kinds_declared [] = refl
kinds_declared (p ∷ parameters) = ap (λ kinds. kind_of p.domain ∷ kinds) (kinds_declared parameters)

abbrev kind_named_by : List ParameterDesc → Name → Outcome Kind
kind_named_by parameters name =
    well_formed (option_map (λ d. kind_of d.domain) (find (λ d. same_name d.name name) (declared parameters)))

abbrev SamePosition : List ParameterDesc → Name → ℕ × Domain → Type 0
SamePosition parameters name at = kind_named_by parameters name ≡ well_formed (slice_get (kinds_of_parameters parameters) at.0)

position_same : (parameters : List ParameterDesc) (name : Name)
    → IfOk (position_named (declared parameters) name) (SamePosition parameters name)
position_same parameters name = where_there (nat_lt first (length (declared parameters)))
  where
    first : ℕ
    first = position_or_len (λ p. same_name p.name name) (declared parameters)

    found : kind_named_by parameters name ≡ well_formed (slice_get (kinds_of_parameters parameters) first)
    found =
        ap well_formed
        (ap (λ o. option_map (λ d. kind_of d.domain) o) (find_at (λ (d : Declared). same_name d.name name) (declared parameters))
        ∙ get_map (λ (d : Declared). kind_of d.domain) (declared parameters) first
        ∙ ap (λ kinds. slice_get kinds first) (kinds_declared parameters))

    there : (o : Option Declared) → IfOk (well_formed (option_map (λ p. (first, p.domain)) o)) (SamePosition parameters name)
    there None = tt
    there (Some p) = found

    where_there : (b : Bool)
        → IfOk (well_formed (option_and_then (λ at. option_map (λ p. (at, p.domain)) (slice_get (declared parameters) at)) (cond b (Some first) None))) (SamePosition parameters name)
    where_there false = tt
    where_there true = there (slice_get (declared parameters) first)

parameter_kind_same : (parameters : List ParameterDesc) (p : Parameter)
    → IfOk (placed_parameter (declared parameters) p)
    (λ q. kind_named_by parameters p.name ≡ well_formed (slice_get (kinds_of_parameters parameters) q.position))
parameter_kind_same parameters p =
    if_then (position_named (declared parameters) p.name)
    (λ at. and_then (indicator_named (declared parameters) p.indicator) (λ i. Ok (record { position = at.0; indicator = i })))
    (SamePosition parameters p.name)
    (λ q. kind_named_by parameters p.name ≡ well_formed (slice_get (kinds_of_parameters parameters) q.position))
    (position_same parameters p.name)
    (λ at same. if_one (indicator_named (declared parameters) p.indicator) (λ i. record { position = at.0; indicator = i }) (λ i. ⊤)
    (λ q. kind_named_by parameters p.name ≡ well_formed (slice_get (kinds_of_parameters parameters) q.position))
    (if_any (indicator_named (declared parameters) p.indicator)) (λ i any. same))

-- ---- expressions

pub kind_same : (s : Setting) (columns : TableKinds) (from : List TableReference) (ps : List NamedItem)
    → SameTables s columns from ps → (e : Expr Named)
    → IfOk (placed (scopes_with (items_of ps ∷ [])) (declared s.parameters) e) (SameKind s columns from ps e)
kind_same s columns from ps same (literal v) = refl
kind_same s columns from ps same (parameter p) =
    if_one (placed_parameter (declared s.parameters) p) (λ q. parameter q)
    (λ q. kind_named_by s.parameters p.name ≡ well_formed (slice_get (kinds_of_parameters s.parameters) q.position))
    (SameKind s columns from ps (parameter p))
    (parameter_kind_same s.parameters p) (λ q e. e)
kind_same s columns from ps same user = refl
kind_same s columns from ps same (column c) =
    if_one (placed_column (scopes_with (items_of ps ∷ [])) c) (λ p. column p)
    (λ p. (named_kinds s).column c (from ∷ []) ≡ kind_there columns (tables_of ps ∷ []) p) (SameKind s columns from ps (column c))
    (column_kind_same s columns from ps same c) (λ p e. e)
kind_same s columns from ps same count_rows = refl
kind_same s columns from ps same (set_function f distinct e) =
    if_one (placed (scopes_with (items_of ps ∷ [])) (declared s.parameters) e) (λ x. set_function f distinct x) (SameKind s columns from ps e)
    (SameKind s columns from ps (set_function f distinct e)) (kind_same s columns from ps same e)
    (λ x p. ap (λ (o : Outcome Kind). and_then o (function_kind f)) p)
kind_same s columns from ps same (signed sign e) =
    if_one (placed (scopes_with (items_of ps ∷ [])) (declared s.parameters) e) (λ x. signed sign x) (SameKind s columns from ps e)
    (SameKind s columns from ps (signed sign e)) (kind_same s columns from ps same e)
    (λ x p. ap (λ (o : Outcome Kind). and_then o signed_kind) p)
kind_same s columns from ps same (added sign a b) =
    if_two (placed (scopes_with (items_of ps ∷ [])) (declared s.parameters) a) (placed (scopes_with (items_of ps ∷ [])) (declared s.parameters) b) (λ x y. added sign x y)
    (SameKind s columns from ps a) (SameKind s columns from ps b) (SameKind s columns from ps (added sign a b))
    (kind_same s columns from ps same a) (kind_same s columns from ps same b)
    (λ x y p q. (λ i. and_then (p i) (λ k. and_then (q i) (sum_kind k))))
kind_same s columns from ps same (scaled sign a b) =
    if_two (placed (scopes_with (items_of ps ∷ [])) (declared s.parameters) a) (placed (scopes_with (items_of ps ∷ [])) (declared s.parameters) b) (λ x y. scaled sign x y)
    (SameKind s columns from ps a) (SameKind s columns from ps b) (SameKind s columns from ps (scaled sign a b))
    (kind_same s columns from ps same a) (kind_same s columns from ps same b)
    (λ x y p q. (λ i. and_then (p i) (λ k. and_then (q i) (product_kind sign k))))
kind_same s columns from ps same (bracketed e) = kind_same s columns from ps same e

-- ---- select lists

named_columns : (s : Setting) (columns : TableKinds) (from : List TableReference) (ps : List NamedItem)
    → AllZip (TypedItem s columns) from ps → each (named_kinds s).columns from ≡ Ok (map kinds_of_item (items_of ps))
named_columns s columns [] [] h = refl
named_columns s columns (r ∷ rs) (p ∷ ps) h =
    (λ i. and_then (h.0.by_name i) (λ kinds. and_then (named_columns s columns rs ps h.1 i) (λ others. Ok (kinds ∷ others))))
named_columns s columns _ _ h = absurd h

item_kinds : (f : ℕ → Outcome Kind) (all : List Kind) → ((k : ℕ) → f k ≡ well_formed (slice_get all k))
    → (k : ℕ) (rest : List ItemColumn) → drop k all ≡ map (λ c. c.kind) rest → AreFrom k rest
    → each (λ c. f c.position) rest ≡ Ok (map (λ c. c.kind) rest)
item_kinds f all h k [] e o = refl
item_kinds f all h k (c ∷ cs) e o =
    let at = at_drop k all c.kind (map (λ d. d.kind) cs) e in
    ap (λ (r : Outcome Kind). and_then r (λ x. and_then (each (λ d. f d.position) cs) (λ xs. Ok (x ∷ xs))))
    (ap f o.0 ∙ h k ∙ ap (λ (r : Option Kind). well_formed r) at.0)
    ∙ ap (λ (r : Outcome (List Kind)). and_then r (λ xs. Ok (c.kind ∷ xs))) (item_kinds f all h (suc k) cs at.1 o.1)

all_kinds : (s : Setting) (columns : TableKinds) (ps : List NamedItem) (item : ℕ) (from : List TableReference)
    (rest : List NamedItem)
    → drop item ps ≡ rest → AllZip (TypedItem s columns) from rest → AreInOrder (items_of rest)
    → each (kind (kinds_at_places s columns) (tables_of ps ∷ [])) (flat_map columns_placed (enumerate_from item (items_of rest)))
    ≡ Ok (flat_map (λ kinds. kinds) (map kinds_of_item (items_of rest)))
all_kinds s columns ps item [] [] e h o = refl
all_kinds s columns ps item (r ∷ rs) (p ∷ rest) e h o =
    each-append (kind (kinds_at_places s columns) (tables_of ps ∷ [])) (shown_columns item p.item.columns)
    (flat_map columns_placed (enumerate_from (item + 1) (items_of rest)))
    ∙ ap (λ (q : Outcome (List Kind)). both_lists q (each (kind (kinds_at_places s columns) (tables_of ps ∷ [])) (flat_map columns_placed (enumerate_from (item + 1) (items_of rest)))))
    (each_map (λ (c : ItemColumn). column (record { depth = 0; item = item; column = c.position })) (kind (kinds_at_places s columns) (tables_of ps ∷ [])) p.item.columns
    ∙ item_kinds (placed_at columns (tables_of ps) item) (kinds_of_item p.item) of_table 0 p.item.columns refl
    (from_order 0 p.item.columns (λ j c q. let none : j ≡ 0 + j = omega arith in o.0 j c q ∙ none)))
    ∙ ap (λ n. both_lists (Ok (kinds_of_item p.item)) (each (kind (kinds_at_places s columns) (tables_of ps ∷ [])) (flat_map columns_placed (enumerate_from n (items_of rest))))) one_more
    ∙ ap (λ (q : Outcome (List Kind)). both_lists (Ok (kinds_of_item p.item)) q)
    (all_kinds s columns ps (suc item) rs rest at.1 h.1 o.1)
  where
    at : (slice_get ps item ≡ Some p) × (drop (suc item) ps ≡ rest)
    at = at_drop item ps p rest e

    one_more : item + 1 ≡ suc item
    one_more = omega arith

    of_table : (k : ℕ) → placed_at columns (tables_of ps) item k ≡ well_formed (slice_get (kinds_of_item p.item) k)
    of_table k =
        ap (λ (t : Option TablePlace). and_then (well_formed t) (λ u. kind_in (columns u) k))
        (sym (get_map (λ (q : NamedItem). q.table) ps item) ∙ ap (λ q. option_map (λ x. x.table) q) at.0)
        ∙ ap (λ q. kind_in q k) h.0.by_place
all_kinds s columns ps item _ _ e h o = absurd h

pub list_kinds_same : (s : Setting) (columns : TableKinds) (from : List TableReference) (ps : List NamedItem)
    → SameTables s columns from ps → (list : SelectList Named)
    → IfOk (list_placed (around s (items_of ps ∷ [])) (items_of ps) list)
    (λ shown. list_kinds (named_kinds s) [] from list ≡ each (kind (kinds_at_places s columns) (tables_of ps ∷ [])) shown)
list_kinds_same s columns from ps same all_columns =
    ap (λ (o : Outcome (List (List Kind))). and_then o (λ kinds. Ok (flat_map (λ ks. ks) kinds)))
    (named_columns s columns from ps same.typed)
    ∙ sym (all_kinds s columns ps 0 from ps refl same.typed same.in_order)
list_kinds_same s columns from ps same (expressions es) =
    if_also (each (expr_placed (around s (items_of ps ∷ []))) es) (AllZip (SameKind s columns from ps) es)
    (λ shown. each (kind (named_kinds s) (from ∷ [])) es ≡ each (kind (kinds_at_places s columns) (tables_of ps ∷ [])) shown)
    (if_each (expr_placed (around s (items_of ps ∷ []))) (SameKind s columns from ps) (kind_same s columns from ps same) es)
    (λ shown h. each_zip (SameKind s columns from ps) (kind (named_kinds s) (from ∷ [])) (kind (kinds_at_places s columns) (tables_of ps ∷ [])) (λ e t p. p) es shown h)
