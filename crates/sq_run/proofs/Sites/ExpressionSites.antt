-- A value expression at whose sites no rule is broken is well formed, and so has a value or ends otherwise than with 42000
-- (ISO/IEC 9075:1992, 6.2 to 6.5 and 6.11 to 6.13).
use Rattle.std.proofs.Common.{subst, sym}
use Rattle.std.specs.List.{AllByRecursion, cons_option, list_any}
use Rattle.std.specs.Prelude.{◌≡◌, ⊤, Bool, true, false, not, ◌||◌, List, [], ◌∷◌, is_err, is_none, filter_map, find, Option, option_map, option_to_list, Some, None, Ok, Err}
use Rattle.sq_lex.specs.declared.name.Name.{Name}
use Rattle.sq_value.specs.Domain.{kind_of}
use Rattle.sq_value.specs.declared.domain.Kind.{Kind}
use Rattle.sq_value.specs.declared.domain.Kind.TheVariants.{Chars, Num, Vary}
use Rattle.sq_value.specs.declared.value.Value.TheVariants as value
use Rattle.sq_tree.specs.declared.expr.SetFunction.{SetFunction}
use Rattle.sq_tree.specs.declared.expr.SetFunction.TheVariants.{Avg, Count, Max, Min, Sum}
use Rattle.sq_tree.specs.declared.expr.TimesSign.{TimesSign}
use Rattle.sq_tree.specs.declared.names.ColumnReference.{ColumnReference}
use Rattle.sq_tree.specs.declared.names.Indicator.{Indicator}
use Rattle.sq_tree.specs.declared.names.Parameter.{Parameter}
use Rattle.sq_meaning.specs.Database.{IndicatorIsDeclared, IsDeclaredIn, kind_named}
use Rattle.sq_meaning.specs.Environment.{Row, TableName, same_name}
use Rattle.sq_meaning.specs.Kind.{function_kind, kind, product_kind, signed_kind, sum_kind}
use Rattle.sq_meaning.specs.Spelled.{Named}
use Rattle.sq_meaning.specs.Status.{Outcome, and_then, well_formed}
use Rattle.sq_meaning.specs.Syntax.{Expr, added, bracketed, column, count_rows, literal, parameter, scaled, set_function, signed, user}
use Rattle.sq_meaning.specs.Tables.{Declared, kinds_by_name, reading_by_name}
use Rattle.sq_meaning.specs.WellFormed.{HasValue, IsInQuery, MayStand, OnlyIf, WellFormedExpr, inside_function}
use Rattle.sq_run.proofs.Sites.ColumnSites.{AreKnown, around, column_read, column_valued, froms_of, froms_same, lines_of, meant, operand, operand_read}
use Rattle.sq_run.proofs.Sites.SiteLaws.{AreSound, IsSound, all_parts, neither, never}
use Rattle.sq_meaning.specs.Binding.{column_of_site, indicator_name, is_of_text, is_outer, is_unknown_name, reads_outer, scale_exceeded}
use Rattle.sq_meaning.specs.Site.{Around, EnclosingQuery, Known, Site, expr_sites, kind_here, summed_sites}

-- no literal is the null value: a text spells none (5.3)
abbrev pub SpellsNoNull : Expr Named → Type 0
SpellsNoNull (literal value.Null) = ⊥
SpellsNoNull (literal (value.Num n)) = ⊤
SpellsNoNull (literal (value.Chars t)) = ⊤
SpellsNoNull (parameter p) = ⊤
SpellsNoNull user = ⊤
SpellsNoNull (column c) = ⊤
SpellsNoNull count_rows = ⊤
SpellsNoNull (set_function function distinct e) = SpellsNoNull e
SpellsNoNull (signed sign e) = SpellsNoNull e
SpellsNoNull (added sign a b) = SpellsNoNull a × SpellsNoNull b
SpellsNoNull (scaled sign a b) = SpellsNoNull a × SpellsNoNull b
SpellsNoNull (bracketed e) = SpellsNoNull e

-- a set function may be called in a query alone
abbrev pub MayCall : List EnclosingQuery → Bool → Type 0
MayCall queries allowed = OnlyIf allowed (IsInQuery (lines_of queries))

-- ---- kinds

valued_there : {A B C : Type 0} (f : A → B) (g : A → C) (o : Option A) → is_none (option_map f o) ≡ false → HasValue (well_formed (option_map g o))
valued_there f g None e = cc
valued_there f g (Some x) e = tt

-- a parameter that is declared has a kind
name_declared : (k : Known) (name : Name) → is_unknown_name k name ≡ false → HasValue (kind_named k.parameters name)
name_declared k name e = valued_there (λ (d : Declared). d.domain) (λ (d : Declared). kind_of d.domain) (find (λ d. same_name d.name name) k.parameters) e

signed_valued : (o : Outcome Kind) → HasValue o → is_of_text o ≡ false → HasValue (and_then o signed_kind)
signed_valued (Ok (Num s)) h e = tt
signed_valued (Ok (Chars n)) h e = cc
signed_valued (Ok (Vary n)) h e = cc
signed_valued (Err status) h e = absurd h

sum_valued : (o r : Outcome Kind) → HasValue o → HasValue r → is_of_text o ≡ false → is_of_text r ≡ false → HasValue (and_then o (λ x. and_then r (sum_kind x)))
sum_valued (Ok (Num s)) (Ok (Num t)) h g e f = tt
sum_valued (Ok (Num s)) (Ok (Chars n)) h g e f = cc
sum_valued (Ok (Num s)) (Ok (Vary n)) h g e f = cc
sum_valued (Ok (Num s)) (Err status) h g e f = absurd g
sum_valued (Ok (Chars n)) r h g e f = cc
sum_valued (Ok (Vary n)) r h g e f = cc
sum_valued (Err status) r h g e f = absurd h

pub not_err : {A : Type 0} (o : Outcome A) → is_err o ≡ false → HasValue o
not_err (Ok x) e = tt
not_err (Err status) e = cc

product_valued : (sign : TimesSign) (o r : Outcome Kind) → HasValue o → HasValue r → is_of_text o ≡ false → is_of_text r ≡ false → scale_exceeded sign o r ≡ false
    → HasValue (and_then o (λ x. and_then r (product_kind sign x)))
product_valued sign (Ok (Num s)) (Ok (Num t)) h g e f limit = not_err (product_kind sign (Num s) (Num t)) limit
product_valued sign (Ok (Num s)) (Ok (Chars n)) h g e f limit = cc
product_valued sign (Ok (Num s)) (Ok (Vary n)) h g e f limit = cc
product_valued sign (Ok (Num s)) (Err status) h g e f limit = absurd g
product_valued sign (Ok (Chars n)) r h g e f limit = cc
product_valued sign (Ok (Vary n)) r h g e f limit = cc
product_valued sign (Err status) r h g e f limit = absurd h

any_kind : (o : Outcome Kind) → HasValue o → HasValue (and_then o (λ x. Ok x))
any_kind (Ok x) h = tt
any_kind (Err status) h = absurd h

counted_kind : (o : Outcome Kind) → HasValue o → HasValue (and_then o (function_kind Count))
counted_kind (Ok x) h = tt
counted_kind (Err status) h = absurd h

function_valued : (k : Known) (function : SetFunction) (o : Outcome Kind) → HasValue o → AreSound k (summed_sites function o) → HasValue (and_then o (function_kind function))
function_valued k Count o h s = counted_kind o h
function_valued k Sum o h s = signed_valued o h s.0.kinds
function_valued k Avg o h s = signed_valued o h s.0.kinds
function_valued k Min o h s = any_kind o h
function_valued k Max o h s = any_kind o h

-- an expression has a kind, whatever stands around it
pub kind_valued : (k : Known) (a : Around) (e : Expr Named) → AreKnown k a.queries → SpellsNoNull e → AreSound k (expr_sites k a e) → HasValue (kind (kinds_by_name k.tables k.parameters) (froms_of a.queries) e)
kind_valued k a (literal value.Null) known n s = absurd n
kind_valued k a (literal (value.Num x)) known n s = tt
kind_valued k a (literal (value.Chars t)) known n s = tt
kind_valued k a (parameter p) known n s = name_declared k p.name (neither (is_unknown_name k p.name) (list_any (is_unknown_name k) (option_to_list (indicator_name p))) s.0.parameters).0
kind_valued k a user known n s = tt
kind_valued k a (column c) known n s = column_valued k c a.queries known (meant k c a.queries known s.0.columns)
kind_valued k a count_rows known n s = tt
kind_valued k a (set_function function distinct e) known n s =
    let parts = all_parts (IsSound k) (summed_sites function (kind_here k a e)) (expr_sites k (operand a.queries) e) s.1 in
    function_valued k function (kind_here k a e) (kind_valued k (operand a.queries) e known n parts.1) parts.0
kind_valued k a (signed sign e) known n s = signed_valued (kind_here k a e) (kind_valued k a e known n s.1) s.0.kinds
kind_valued k a (added sign e f) known n s =
    let parts = all_parts (IsSound k) (expr_sites k a e) (expr_sites k a f) s.1.1 in
    sum_valued (kind_here k a e) (kind_here k a f) (kind_valued k a e known n.0 parts.0) (kind_valued k a f known n.1 parts.1) s.0.kinds s.1.0.kinds
kind_valued k a (scaled sign e f) known n s =
    let parts = all_parts (IsSound k) (expr_sites k a e) (expr_sites k a f) s.1.1.1 in
    product_valued sign (kind_here k a e) (kind_here k a f) (kind_valued k a e known n.0 parts.0) (kind_valued k a f known n.1 parts.1) s.0.kinds s.1.0.kinds s.1.1.0.limits
kind_valued k a (bracketed e) known n s = kind_valued k a e known n s

-- ---- what may stand there

no_name_unknown : (k : Known) (i : Option Indicator) → list_any (is_unknown_name k) (option_to_list (option_map (λ (j : Indicator). j.name) i)) ≡ false → IndicatorIsDeclared k.parameters i
no_name_unknown k None e = tt
no_name_unknown k (Some i) e = name_declared k i.name (neither (is_unknown_name k i.name) false e).0

parameter_declared : (k : Known) (p : Parameter) → IsSound k (Site.parameter_read p) → IsDeclaredIn k.parameters p
parameter_declared k p s =
    let parts = neither (is_unknown_name k p.name) (list_any (is_unknown_name k) (option_to_list (indicator_name p))) s.parameters in
    (name_declared k p.name parts.0, no_name_unknown k p.indicator parts.1)

-- a set function is called where one is allowed, and its operand reads columns of the query's own FROM
called_here : {P : Type 0} (allowed : Bool) (outer : Bool) → OnlyIf allowed P → (not allowed || outer) ≡ false → P × (outer ≡ false)
called_here true outer p e = (p, e)
called_here false outer p e = cc

-- what the rule of set functions asks of a column in an operand: that the query's own FROM has it
abbrev IsOwnIf : Known → Around → Option ColumnReference → Type 0
IsOwnIf k a None = ⊤
IsOwnIf k a (Some c) = is_outer k a c ≡ false

abbrev AreOwn : Known → Around → List Site → Type 0
AreOwn k a sites = AllByRecursion (λ s. IsOwnIf k a (column_of_site s)) sites

own_first : (k : Known) (a : Around) (o : Option ColumnReference) (cs : List ColumnReference) → list_any (is_outer k a) (cons_option o cs) ≡ false
    → IsOwnIf k a o × (list_any (is_outer k a) cs ≡ false)
own_first k a None cs e = (tt, e)
own_first k a (Some c) cs e = neither (is_outer k a c) (list_any (is_outer k a) cs) e

own_sites : (k : Known) (a : Around) (sites : List Site) → list_any (is_outer k a) (filter_map column_of_site sites) ≡ false → AreOwn k a sites
own_sites k a [] e = tt
own_sites k a (s ∷ sites) e = let parts = own_first k a (column_of_site s) (filter_map column_of_site sites) e in (parts.0, own_sites k a sites parts.1)

module _ (k : Known) (rows_of : TableName → Outcome (List Row)) where
  -- no set function stands in the operand of another
  operand_stands : (queries : List EnclosingQuery) (allowed : Bool) → AreKnown k queries → (e : Expr Named) → AreSound k (expr_sites k (operand queries) e) → AreOwn k (around queries allowed) (expr_sites k (around queries allowed) e)
      → MayStand (reading_by_name k.tables rows_of) (kinds_by_name k.tables k.parameters) (IsDeclaredIn k.parameters) (inside_function (lines_of queries)) e
  operand_stands queries allowed known (literal v) s own = tt
  operand_stands queries allowed known (parameter p) s own = parameter_declared k p s.0
  operand_stands queries allowed known user s own = tt
  operand_stands queries allowed known (column c) s own = operand_read k rows_of c queries known s.0 own.0
  operand_stands queries allowed known count_rows s own = never s.0.functions
  operand_stands queries allowed known (set_function function distinct e) s own = never s.0.functions
  operand_stands queries allowed known (signed sign e) s own = operand_stands queries allowed known e s.1 own.1
  operand_stands queries allowed known (added sign e f) s own =
      let parts = all_parts (IsSound k) (expr_sites k (operand queries) e) (expr_sites k (operand queries) f) s.1.1 in
      let owned = all_parts (λ t. IsOwnIf k (around queries allowed) (column_of_site t)) (expr_sites k (around queries allowed) e) (expr_sites k (around queries allowed) f) own.1.1 in
      (operand_stands queries allowed known e parts.0 owned.0, operand_stands queries allowed known f parts.1 owned.1)
  operand_stands queries allowed known (scaled sign e f) s own =
      let parts = all_parts (IsSound k) (expr_sites k (operand queries) e) (expr_sites k (operand queries) f) s.1.1.1 in
      let owned = all_parts (λ t. IsOwnIf k (around queries allowed) (column_of_site t)) (expr_sites k (around queries allowed) e) (expr_sites k (around queries allowed) f) own.1.1.1 in
      (operand_stands queries allowed known e parts.0 owned.0, operand_stands queries allowed known f parts.1 owned.1)
  operand_stands queries allowed known (bracketed e) s own = operand_stands queries allowed known e s own

  expr_stands : (queries : List EnclosingQuery) (allowed : Bool) → AreKnown k queries → MayCall queries allowed → (e : Expr Named) → AreSound k (expr_sites k (around queries allowed) e)
      → MayStand (reading_by_name k.tables rows_of) (kinds_by_name k.tables k.parameters) (IsDeclaredIn k.parameters) (lines_of queries) e
  expr_stands queries allowed known call (literal v) s = tt
  expr_stands queries allowed known call (parameter p) s = parameter_declared k p s.0
  expr_stands queries allowed known call user s = tt
  expr_stands queries allowed known call (column c) s = column_read k rows_of c queries allowed known s.0
  expr_stands queries allowed known call count_rows s = (called_here {P = IsInQuery (lines_of queries)} allowed false call s.0.functions).0
  expr_stands queries allowed known call (set_function function distinct e) s =
      let called = called_here {P = IsInQuery (lines_of queries)} allowed (reads_outer k (around queries allowed) e) call s.0.functions in
      let parts = all_parts (IsSound k) (summed_sites function (kind_here k (around queries allowed) e)) (expr_sites k (operand queries) e) s.1 in
      (called.0, operand_stands queries allowed known e parts.1 (own_sites k (around queries allowed) (expr_sites k (around queries allowed) e) called.1))
  expr_stands queries allowed known call (signed sign e) s = expr_stands queries allowed known call e s.1
  expr_stands queries allowed known call (added sign e f) s =
      let parts = all_parts (IsSound k) (expr_sites k (around queries allowed) e) (expr_sites k (around queries allowed) f) s.1.1 in
      (expr_stands queries allowed known call e parts.0, expr_stands queries allowed known call f parts.1)
  expr_stands queries allowed known call (scaled sign e f) s =
      let parts = all_parts (IsSound k) (expr_sites k (around queries allowed) e) (expr_sites k (around queries allowed) f) s.1.1.1 in
      (expr_stands queries allowed known call e parts.0, expr_stands queries allowed known call f parts.1)
  expr_stands queries allowed known call (bracketed e) s = expr_stands queries allowed known call e s

  -- a value expression at whose sites no rule is broken is well formed
  pub expr_well_formed : (queries : List EnclosingQuery) (allowed : Bool) → AreKnown k queries → MayCall queries allowed → (e : Expr Named) → SpellsNoNull e → AreSound k (expr_sites k (around queries allowed) e)
      → WellFormedExpr (reading_by_name k.tables rows_of) (kinds_by_name k.tables k.parameters) (IsDeclaredIn k.parameters) (lines_of queries) e
  expr_well_formed queries allowed known call e n s = (
    subst (λ scopes. HasValue (kind (kinds_by_name k.tables k.parameters) scopes e)) (sym (froms_same queries)) (kind_valued k (around queries allowed) e known n s),
    expr_stands queries allowed known call e s,
  )
