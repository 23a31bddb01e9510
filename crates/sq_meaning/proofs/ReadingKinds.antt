-- The kinds known of trees by place and by name are the kinds that their readings find: so the laws of kinds hold for either.
use Rattle.std.proofs.Common.{◌≡◌, ℕ, zero, suc, Bool, true, false, List, [], ◌∷◌, map, Option, Some, None, refl, sym, ap, subst, ◌∙◌, cond, Ok, Err}
use Rattle.std.specs.Prelude.{⊤, if◌then◌else◌, slice_get, find}
use Rattle.std.specs.List.{AllZip}
use Rattle.std.specs.Option.{option_map}
use Rattle.sq_lex.specs.declared.name.Name.{Name}
use Rattle.sq_value.specs.Domain.{IsOfKind, kind_of}
use Rattle.sq_value.specs.declared.domain.Kind.{Kind}
use Rattle.sq_value.specs.declared.value.Value.{Value}
use Rattle.sq_value.specs.declared.value.Value.TheVariants.{Null}
use Rattle.sq_store.specs.Content.{Content, table_at}
use Rattle.sq_tree.specs.declared.names.Parameter.{Parameter}
use Rattle.sq_meaning.specs.Status.{Outcome, and_then, each, well_formed}
use Rattle.sq_meaning.specs.Syntax.{Query}
use Rattle.sq_meaning.specs.Environment.{Row, Input, Place, TableName, TableReference, same_name, same_table, is_below_zero, with_indicator, input_named, input_value, fitting, nearest, place_of, Scope, outermost}
use Rattle.sq_meaning.specs.Kind.{select_kinds, query_kinds}
use Rattle.sq_meaning.specs.Placed.{Placed, PlacedParameter, input_at, placed_value, by_place}
use Rattle.sq_meaning.specs.Query.{rows}
use Rattle.sq_meaning.specs.QueryExpression.{ordered_rows}
use Rattle.sq_meaning.specs.Rows.{SortColumn}
use Rattle.sq_meaning.specs.Spelled.{Named}
use Rattle.sq_meaning.specs.Tables.{Tables, TableBody, base_table, viewed_table, Declared, descriptor_of, column_kinds, item_of, kind_at, kinds_by_name, reading_by_name, rows_in, table_rows, by_name}
use Rattle.sq_meaning.specs.WellFormed.{Answers, Has, Fits, AreRowsOf, Level, froms, HasRowsOf, kind_there, Agrees, WellFormedQuery, IsEnvOf, kinds_by_place, IsThere, IsDeclaredAt, AreInputsOf}
use Rattle.sq_meaning.specs.Database.{IsBodyOf, IsDatabaseOf, kind_named, IndicatorIsDeclared, IsDeclaredIn, AreInputsAs}
use Rattle.sq_meaning.proofs.AnswerLaws.{there, weaker, fits_any, then_answers}
use Rattle.sq_meaning.proofs.OutcomeLaws.{each_value, then_then}
use Rattle.sq_meaning.proofs.QueryKinds.{Ends, rows_of_kinds}
use Rattle.sq_meaning.proofs.UnionKinds.{ordered_of_kinds}

-- ---- parameters

null_if : (c : Kind) (b : Bool) (v : Value) → IsOfKind c v → IsOfKind c (if b then Null else v)
null_if c true v h = tt
null_if c false v h = h

fits_then : {A B : Type 0} (P : A → B → Type 0) (o : Outcome A) (r : Outcome B) (f : B → Outcome B) → Fits P o r → ((a : A) (b : B) → P a b → Answers (P a) (f b)) → Fits P o (and_then r f)
fits_then P (Ok a) r f h t = then_answers (P a) (P a) r f h (t a)
fits_then P (Err status) r f h t = tt

-- a value with its indicator
indicated : {I : Type 0} (read : I → Outcome Value) (i : Option I) (o : Outcome Kind) (r : Outcome Value) → ((j : I) → i ≡ Some j → Ends (read j)) → Fits IsOfKind o r → Fits IsOfKind o (and_then r (with_indicator read i))
indicated read None o r t h = fits_then IsOfKind o r (with_indicator read None) h (λ c v p. p)
indicated read (Some i) o r t h =
    fits_then IsOfKind o r (with_indicator read (Some i)) h
    (λ c v p. then_answers (λ w. ⊤) (IsOfKind c) (read i) (λ w. Ok (if is_below_zero w then Null else v)) (t i refl) (λ w q. null_if c (is_below_zero w) v p))

-- ---- by place

-- nothing is known of an item
abbrev item_there : {T : Type 0} → T → Outcome (Unit {0})
item_there t = Ok tt

abbrev items_there : {T : Type 0} → List T → List (Unit {0})
items_there from = map (λ t. tt) from

heads_there : {T : Type 0} (scopes : List (List T)) → each (each item_there) scopes ≡ Ok (map items_there scopes)
heads_there [] = refl
heads_there {T} (from ∷ scopes) =
    ap (λ (r : Outcome (List (Unit {0}))). and_then r (λ y. and_then (each (each item_there) scopes) (λ ys. Ok (y ∷ ys)))) (each_value (λ (t : T). tt) from)
    ∙ ap (λ (r : Outcome (List (List (Unit {0})))). and_then r (λ ys. Ok (items_there from ∷ ys))) (heads_there scopes)

-- where each table has rows of the kinds of its columns
pub places_agree : {T : Type 0} (rows_of : T → Outcome (List Row)) (columns : T → Outcome (List Kind)) (parameters : List Kind) → ((t : T) → Fits AreRowsOf (columns t) (rows_of t)) → Agrees (by_place rows_of) (kinds_by_place columns parameters)
places_agree rows_of columns parameters h = record {
  outer = λ p items xs ys e. refl;
  columns = λ p scopes. sym (ap (λ r. and_then r (λ items. kind_there columns scopes p)) (heads_there scopes));
  rows = h;
}

input_there : (parameters : List Kind) (inputs : List Input) (n : ℕ) → AreInputsOf parameters inputs → Fits IsOfKind (well_formed (slice_get parameters n)) (input_at inputs n)
input_there [] inputs n h = tt
input_there (c ∷ parameters) [] n h = absurd h
input_there (c ∷ parameters) (i ∷ inputs) zero h = h.0
input_there (c ∷ parameters) (i ∷ inputs) (suc n) h = input_there parameters inputs n h.1

-- parameters by place
pub inputs_by_place : (parameters : List Kind) (inputs : List Input) → AreInputsOf parameters inputs → (p : PlacedParameter) → IsDeclaredAt parameters p → Fits IsOfKind (well_formed (slice_get parameters p.position)) (placed_value p inputs)
inputs_by_place parameters inputs h p d =
    indicated (input_at inputs) p.indicator (well_formed (slice_get parameters p.position)) (input_at inputs p.position)
    (λ j e. fits_any IsOfKind (well_formed (slice_get parameters j)) (input_at inputs j) (subst (IsThere parameters) e d.1) (input_there parameters inputs j h))
    (input_there parameters inputs p.position h)

-- any scopes of rows are an environment by place, whatever is known of their items
pub env_by_place : {T : Type 0} (rows_of : T → Outcome (List Row)) (columns : T → Outcome (List Kind)) (parameters : List Kind) (levels : List (Level (Placed T))) (scopes : List (Scope (Unit {0}))) (inputs : List Input) (user : Name)
    → AllZip (HasRowsOf (by_place rows_of) (kinds_by_place columns parameters) (IsDeclaredAt parameters)) levels scopes → AreInputsOf parameters inputs
    → IsEnvOf (by_place rows_of) (kinds_by_place columns parameters) (IsDeclaredAt parameters) levels (record { scopes = scopes; inputs = inputs; user = user })
env_by_place rows_of columns parameters levels scopes inputs user s h = record {
  items = (map items_there (froms levels), heads_there (froms levels), λ p. refl);
  scopes = s;
  inputs = inputs_by_place parameters inputs h;
}

-- ---- by name

kind_same : (tables : Tables) (scopes : List (List TableReference)) (p : Place) → kind_at tables scopes p ≡ kind_there (λ r. and_then (descriptor_of tables r.table) (λ d. Ok (column_kinds d))) scopes p
kind_same tables scopes p =
    (λ i. and_then (well_formed (slice_get scopes p.depth)) (λ from. and_then (well_formed (slice_get from p.item)) (λ r. sym (then_then (descriptor_of tables r.table) (λ d. Ok (column_kinds d)) (λ kinds. well_formed (slice_get kinds p.column))) i)))

-- where each name has rows of the kinds of its columns
pub names_agree : (tables : Tables) (rows_of : TableName → Outcome (List Row)) (parameters : List Declared) → ((name : TableName) → Fits AreRowsOf (and_then (descriptor_of tables name) (λ d. Ok (column_kinds d))) (rows_of name))
    → Agrees (reading_by_name tables rows_of) (kinds_by_name tables parameters)
names_agree tables rows_of parameters h = record {
  outer = λ c items xs ys e. ap (nearest (fitting c items)) e;
  columns = λ c scopes. (λ i. and_then (each (each (item_of tables)) scopes) (λ items. and_then (place_of c items) (λ p. kind_same tables scopes p i)));
  rows = λ r. h r.table;
}

no_inputs : (tables : Tables) (content : Content) (caller : Name) → IsEnvOf (by_name tables content caller) (kinds_by_name tables []) (λ p. ⊥) [] (outermost [] caller)
no_inputs tables content caller = record { items = ([], refl, λ c. refl); scopes = tt; inputs = λ p d. absurd d }

body_fits : (earlier : Tables) (content : Content) (caller : Name) (kinds : List Kind) (body : TableBody) → Agrees (by_name earlier content caller) (kinds_by_name earlier []) → IsBodyOf earlier content caller kinds body
    → Answers (AreRowsOf kinds) (elim body as (λ _. Outcome (List Row)) [ base_table n ↦ Ok (rows_in (table_at content n)) | viewed_table q check_option ↦ rows (by_name earlier content caller) q (outermost [] caller) ])
body_fits earlier content caller kinds (base_table n) agrees h = h
body_fits earlier content caller kinds (viewed_table q check_option) agrees h =
    weaker (λ found. Has (λ ks. AreRowsOf ks found) (select_kinds (kinds_by_name earlier []) [] q)) (AreRowsOf kinds) (rows (by_name earlier content caller) q (outermost [] caller))
    (λ found p. there (λ ks. AreRowsOf ks found) (select_kinds (kinds_by_name earlier []) [] q) kinds h.1 p)
    (rows_of_kinds (by_name earlier content caller) (kinds_by_name earlier []) (λ p. ⊥) agrees q [] (outermost [] caller) h.0 (no_inputs earlier content caller))

-- the rows of each table and view are of the kinds of its columns
pub tables_of_kinds : (tables : Tables) (content : Content) (caller : Name) → IsDatabaseOf tables content caller → (name : TableName) → Fits AreRowsOf (and_then (descriptor_of tables name) (λ d. Ok (column_kinds d))) (table_rows tables content caller name)
tables_of_kinds [] content caller h name = tt
tables_of_kinds (d ∷ earlier) content caller h name = split (same_table d.table name) (tables_of_kinds earlier content caller h.1 name) (names_agree earlier (table_rows earlier content caller) [] (tables_of_kinds earlier content caller h.1))
  where
    split : (b : Bool) → Fits AreRowsOf (and_then (descriptor_of earlier name) (λ e. Ok (column_kinds e))) (table_rows earlier content caller name) → Agrees (by_name earlier content caller) (kinds_by_name earlier [])
        → Fits AreRowsOf (and_then (well_formed (cond b (Some d) (find (λ e. same_table e.table name) earlier))) (λ e. Ok (column_kinds e)))
        (elim b as (λ _. Outcome (List Row)) [
          | false ↦ table_rows earlier content caller name
          | true ↦ elim d.body as (λ _. Outcome (List Row)) [ base_table n ↦ Ok (rows_in (table_at content n)) | viewed_table q check_option ↦ rows (by_name earlier content caller) q (outermost [] caller) ]
        ])
    split false g agrees = g
    split true g agrees = body_fits earlier content caller (column_kinds d) d.body agrees h.0

-- a database as it is declared
pub database_agrees : (tables : Tables) (content : Content) (caller : Name) (parameters : List Declared) → IsDatabaseOf tables content caller → Agrees (by_name tables content caller) (kinds_by_name tables parameters)
database_agrees tables content caller parameters h = names_agree tables (table_rows tables content caller) parameters (tables_of_kinds tables content caller h)

abbrev FitsAt : List Declared → List Input → Name → Declared → Input → Bool → Bool → Type 0
FitsAt parameters inputs name d i a b =
    Fits IsOfKind (well_formed (option_map (λ e. kind_of e.domain) (cond a (Some d) (find (λ e. same_name e.name name) parameters))))
    (well_formed (option_map (λ j. j.value) (cond b (Some i) (find (λ j. same_name j.name name) inputs))))

named_first : (parameters : List Declared) (inputs : List Input) (name : Name) (d : Declared) (i : Input) → IsOfKind (kind_of d.domain) i.value → Fits IsOfKind (kind_named parameters name) (input_named inputs name) → (b : Bool) → FitsAt parameters inputs name d i b b
named_first parameters inputs name d i h g true = h
named_first parameters inputs name d i h g false = g

named_there : (parameters : List Declared) (inputs : List Input) (name : Name) → AreInputsAs parameters inputs → Fits IsOfKind (kind_named parameters name) (input_named inputs name)
named_there [] inputs name h = tt
named_there (d ∷ parameters) [] name h = absurd h
named_there (d ∷ parameters) (i ∷ inputs) name h =
    subst (λ n. FitsAt parameters inputs name d i (same_name d.name name) (same_name n name)) h.0.0 (named_first parameters inputs name d i h.0.1 (named_there parameters inputs name h.1) (same_name d.name name))

-- parameters by name
pub inputs_by_name : (parameters : List Declared) (inputs : List Input) → AreInputsAs parameters inputs → (p : Parameter) → IsDeclaredIn parameters p → Fits IsOfKind (kind_named parameters p.name) (input_value p inputs)
inputs_by_name parameters inputs h p d =
    indicated (λ i. input_named inputs i.name) p.indicator (kind_named parameters p.name) (input_named inputs p.name)
    (λ j e. fits_any IsOfKind (kind_named parameters j.name) (input_named inputs j.name) (subst (IndicatorIsDeclared parameters) e d.1) (named_there parameters inputs j.name h))
    (named_there parameters inputs p.name h)

pub env_by_name : (tables : Tables) (content : Content) (caller : Name) (parameters : List Declared) (inputs : List Input) (user : Name) → AreInputsAs parameters inputs
    → IsEnvOf (by_name tables content caller) (kinds_by_name tables parameters) (IsDeclaredIn parameters) [] (outermost inputs user)
env_by_name tables content caller parameters inputs user h = record { items = ([], refl, λ c. refl); scopes = tt; inputs = inputs_by_name parameters inputs h }

-- a well-formed query by name, in a database as it is declared
pub cursor_of_kinds : (tables : Tables) (content : Content) (caller : Name) (parameters : List Declared) (inputs : List Input) (q : Query Named) (order : List SortColumn) → IsDatabaseOf tables content caller → AreInputsAs parameters inputs
    → WellFormedQuery (by_name tables content caller) (kinds_by_name tables parameters) (IsDeclaredIn parameters) q
    → Answers (λ found. Has (λ kinds. AreRowsOf kinds found) (query_kinds (kinds_by_name tables parameters) q)) (ordered_rows (by_name tables content caller) (kinds_by_name tables parameters) q order (outermost inputs caller))
cursor_of_kinds tables content caller parameters inputs q order h i w =
    ordered_of_kinds (by_name tables content caller) (kinds_by_name tables parameters) (IsDeclaredIn parameters) (database_agrees tables content caller parameters h) q order (outermost inputs caller) w
    (env_by_name tables content caller parameters inputs caller i)
