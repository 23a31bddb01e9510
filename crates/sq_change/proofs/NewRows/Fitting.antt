-- The values that a column can store: values of a kind that may be stored there (ISO/IEC 9075:1992, 9.2, 13.8 to 13.10).
use Rattle.std.proofs.Common.{◌≡◌, List, [], ◌∷◌, map, refl, sym, ap, subst, ◌∙◌, Ok, Err, inl, inr}
use Rattle.std.specs.Prelude.{IsTrue}
use Rattle.std.specs.List.{AllZip}
use Rattle.sq_lex.specs.declared.name.Name.{Name}
use Rattle.sq_value.specs.Domain.{FitsKind, IsInDomain, IsOfKind, kind_of}
use Rattle.sq_value.specs.declared.domain.Domain.{Domain}
use Rattle.sq_value.specs.declared.domain.Domain.TheVariants.{Small, Int, Numeric, Char, VarChar}
use Rattle.sq_value.specs.declared.domain.Kind.{Kind}
use Rattle.sq_value.specs.declared.domain.Kind.TheVariants as kind_as
use Rattle.sq_value.specs.declared.value.Value.{Value}
use Rattle.sq_value.specs.declared.value.Value.TheVariants.{Null, Num, Chars}
use Rattle.sq_meaning.specs.Status.{Outcome, and_then}
use Rattle.sq_meaning.specs.Syntax.{literal, parameter, user, column, count_rows, set_function, signed, added, scaled, bracketed}
use Rattle.sq_meaning.specs.Environment.{Row, Input, Scope, Env, alone}
use Rattle.sq_meaning.specs.Expression.{value, with_sign, sum_of, product_of}
use Rattle.sq_meaning.specs.Placed.{by_place}
use Rattle.sq_meaning.specs.WellFormed.{Answers, Fits, Has, IsRowOf, AreRowsOf, AreInputsOf, HasRowsOf, IsDeclaredAt, MayStand, is_comparable, kinds_by_place}
use Rattle.sq_meaning.proofs.AnswerLaws.{weaker}
use Rattle.sq_meaning.proofs.ReadingKinds.{env_by_place, places_agree}
use Rattle.sq_meaning.proofs.ValueKinds.{value_of_kind}
use Rattle.sq_bound.specs.Expression.{PlacedExpr, expr_of}
use Rattle.sq_bound.specs.Fits.{IsRowIn}
use Rattle.sq_bound.specs.WellFormed.{TableKinds, Levels, IsExpr, IsNewValue, MayStore, base_kinds, of_base}
use Rattle.sq_bound.specs.declared.condition.TablePlace.{TablePlace}
use Rattle.sq_bound.specs.declared.condition.TablePlace.TheVariants.{Base}
use Rattle.sq_bound.specs.declared.expression.BoundExpr.{BoundExpr}
use Rattle.sq_bound.specs.declared.expression.BoundExpr.TheVariants as bound
use Rattle.sq_bound.specs.declared.names.BaseColumn.{BaseColumn}
use Rattle.sq_bound.specs.declared.names.BaseTable.{BaseTable}
use Rattle.sq_bound.specs.declared.names.ObjectColumn.{ObjectColumn}
use Rattle.sq_bound.proofs.ExpressionLaws.{expr_of-Literal}

-- ---- kinds and domains

-- a value of a kind that may be stored is a number where the domain is one of numbers, and else a text
pub kind_fits : (d : Domain) (k : Kind) (v : Value) → IsOfKind k v → IsTrue (is_comparable k (kind_of d)) → FitsKind d v
kind_fits d k Null is may = tt
kind_fits Small (kind_as.Num s) (Num n) is may = refl
kind_fits Int (kind_as.Num s) (Num n) is may = refl
kind_fits (Numeric p q) (kind_as.Num s) (Num n) is may = refl
kind_fits (Char m) (kind_as.Num s) (Num n) is may = cc
kind_fits (VarChar m) (kind_as.Num s) (Num n) is may = cc
kind_fits d (kind_as.Chars l) (Num n) is may = absurd is
kind_fits d (kind_as.Vary l) (Num n) is may = absurd is
kind_fits d (kind_as.Num s) (Chars t) is may = absurd is
kind_fits Small (kind_as.Chars l) (Chars t) is may = cc
kind_fits Int (kind_as.Chars l) (Chars t) is may = cc
kind_fits (Numeric p q) (kind_as.Chars l) (Chars t) is may = cc
kind_fits (Char m) (kind_as.Chars l) (Chars t) is may = refl
kind_fits (VarChar m) (kind_as.Chars l) (Chars t) is may = refl
kind_fits Small (kind_as.Vary l) (Chars t) is may = cc
kind_fits Int (kind_as.Vary l) (Chars t) is may = cc
kind_fits (Numeric p q) (kind_as.Vary l) (Chars t) is may = cc
kind_fits (Char m) (kind_as.Vary l) (Chars t) is may = refl
kind_fits (VarChar m) (kind_as.Vary l) (Chars t) is may = refl

-- a value in a domain is of the domain's kind
in_domain_of_kind : (d : Domain) (v : Value) → IsInDomain d v → IsOfKind (kind_of d) v
in_domain_of_kind d Null is = tt
in_domain_of_kind Small (Num n) is = is.0
in_domain_of_kind Int (Num n) is = is.0
in_domain_of_kind (Numeric p s) (Num n) is = is.0
in_domain_of_kind (Char m) (Num n) is = absurd is
in_domain_of_kind (VarChar m) (Num n) is = absurd is
in_domain_of_kind Small (Chars t) is = absurd is
in_domain_of_kind Int (Chars t) is = absurd is
in_domain_of_kind (Numeric p s) (Chars t) is = absurd is
in_domain_of_kind (Char m) (Chars t) is = is
in_domain_of_kind (VarChar m) (Chars t) is = is

-- a row of a base table is of the kinds of its columns
row_of_kinds : (columns : List BaseColumn) (row : Row) → IsRowIn columns row → IsRowOf (map (λ c. kind_of c.domain) columns) row
row_of_kinds [] [] is = tt
row_of_kinds [] (v ∷ row) is = absurd is
row_of_kinds (c ∷ columns) [] is = absurd is
row_of_kinds (c ∷ columns) (v ∷ row) is = (in_domain_of_kind c.domain v is.0, row_of_kinds columns row is.1)

pub row_fits : (columns : TableKinds) (b : BaseTable) (row : Row) → columns (Base b.place) ≡ Ok (base_kinds b) → IsRowIn b.columns row
    → Has (λ kinds. IsRowOf kinds row) (columns (Base b.place))
row_fits columns b row known is = subst (Has (λ kinds. IsRowOf kinds row)) (sym known) (row_of_kinds b.columns row is)

-- ---- values of expressions

-- any rows will do where none is read
abbrev pub no_rows : TablePlace → Outcome (List Row)
no_rows place = Ok []

none_fit : (o : Outcome (List Kind)) → Fits AreRowsOf o (Ok [])
none_fit (Ok kinds) = tt
none_fit (Err status) = tt

-- outside every query the lines have no bearing on a value
value_alone : (columns : TableKinds) (parameters : List Kind) (e : PlacedExpr) (scopes : List (Scope (Unit {0}))) (inputs : List Input) (name : Name)
    → MayStand (by_place no_rows) (kinds_by_place columns parameters) (IsDeclaredAt parameters) [] e
    → value (by_place no_rows) e (record { scopes = scopes; inputs = inputs; user = name }) ≡ value (by_place no_rows) e (record { scopes = []; inputs = inputs; user = name })
value_alone columns parameters (literal v) scopes inputs name stands = refl
value_alone columns parameters (parameter p) scopes inputs name stands = refl
value_alone columns parameters user scopes inputs name stands = refl
value_alone columns parameters (column p) scopes inputs name stands = absurd stands
value_alone columns parameters count_rows scopes inputs name stands = absurd stands
value_alone columns parameters (set_function function distinct e) scopes inputs name stands = absurd stands.0
value_alone columns parameters (signed sign e) scopes inputs name stands = ap (λ r. and_then r (with_sign sign)) (value_alone columns parameters e scopes inputs name stands)
value_alone columns parameters (added sign a b) scopes inputs name stands =
    λ i. and_then (value_alone columns parameters a scopes inputs name stands.0 i) (λ x. and_then (value_alone columns parameters b scopes inputs name stands.1 i) (sum_of sign x))
value_alone columns parameters (scaled sign a b) scopes inputs name stands =
    λ i. and_then (value_alone columns parameters a scopes inputs name stands.0 i) (λ x. and_then (value_alone columns parameters b scopes inputs name stands.1 i) (product_of sign x))
value_alone columns parameters (bracketed e) scopes inputs name stands = value_alone columns parameters e scopes inputs name stands

-- a value of a well-formed expression is of its kind, and else it ends with a status other than 42000
tree_answers : (columns : TableKinds) (parameters : List Kind) (levels : Levels) (k : Kind) (e : BoundExpr) (scopes : List (Scope (Unit {0}))) (inputs : List Input)
    (name : Name) (is : IsExpr columns parameters levels [] k e) → AreInputsOf parameters inputs
    → AllZip (HasRowsOf (by_place no_rows) (kinds_by_place columns parameters) (IsDeclaredAt parameters)) levels scopes
    → Answers (IsOfKind k) (value (by_place no_rows) is.tree (record { scopes = scopes; inputs = inputs; user = name }))
tree_answers columns parameters levels k e scopes inputs name is given lines =
    let m = by_place no_rows in
    let kinds = kinds_by_place columns parameters in
    let agrees = places_agree no_rows columns parameters (λ t. none_fit (columns t)) in
    let env = env_by_place no_rows columns parameters levels scopes inputs name lines given in
    value_of_kind m kinds (IsDeclaredAt parameters) agrees levels is.tree k (record { scopes = scopes; inputs = inputs; user = name })
    is.kind_is (is.stands no_rows) env

null_fits : (c : ObjectColumn) (e : BoundExpr) (env : Env (Unit {0})) → e ≡ bound.Literal Null
    → Answers (FitsKind c.domain) (value (by_place no_rows) (expr_of [] e) env)
null_fits c e env is =
    subst (λ (t : PlacedExpr). Answers (FitsKind c.domain) (value (by_place no_rows) t env))
    (sym (ap (expr_of []) is ∙ expr_of-Literal [] Null)) tt

tree_fits : (c : ObjectColumn) (k : Kind) (o : Outcome Value) → MayStore c k → Answers (IsOfKind k) o → Answers (FitsKind c.domain) o
tree_fits c k o may h = weaker (IsOfKind k) (FitsKind c.domain) o (λ v is. kind_fits c.domain k v is may) h

-- what VALUES gives for a column can be stored there, or ends with a status other than 42000 (13.8)
pub new_fits : (columns : TableKinds) (parameters : List Kind) (c : ObjectColumn) (e : BoundExpr) (scopes : List (Scope (Unit {0}))) (inputs : List Input) (name : Name)
    → IsNewValue columns parameters [] c e → AreInputsOf parameters inputs
    → Answers (FitsKind c.domain) (value (by_place no_rows) (expr_of [] e) (record { scopes = scopes; inputs = inputs; user = name }))
new_fits columns parameters c e scopes inputs name (inl null) given = null_fits c e _ null
new_fits columns parameters c e scopes inputs name (inr is) given =
    let x = is.1 in
    let of = λ (t : PlacedExpr). value (by_place no_rows) t (record { scopes = scopes; inputs = inputs; user = name }) in
    let same : value (by_place no_rows) x.tree (record { scopes = []; inputs = inputs; user = name }) ≡ of (expr_of [] e)
    = sym (value_alone columns parameters x.tree scopes inputs name (x.stands no_rows)) ∙ sym (ap of (x.is_tree [])) in
    subst (Answers (FitsKind c.domain)) same (tree_fits c is.0 _ is.2 (tree_answers columns parameters [] is.0 e [] inputs name x given tt))

-- what a set clause gives for a column on a row of the base table fits the column (13.9)
pub assigned_fits : (columns : TableKinds) (parameters : List Kind) (b : BaseTable) (c : ObjectColumn) (e : BoundExpr) (row : Row) (inputs : List Input) (name : Name)
    → IsNewValue columns parameters (of_base b) c e → columns (Base b.place) ≡ Ok (base_kinds b) → IsRowIn b.columns row → AreInputsOf parameters inputs
    → Answers (FitsKind c.domain) (value (by_place no_rows) (expr_of [] e) (record { scopes = alone [] (row ∷ []) ∷ []; inputs = inputs; user = name }))
assigned_fits columns parameters b c e row inputs name (inl null) known is given = null_fits c e _ null
assigned_fits columns parameters b c e row inputs name (inr are) known is given =
    let x = are.1 in
    let scopes : List (Scope (Unit {0})) = alone [] (row ∷ []) ∷ [] in
    subst (λ (t : PlacedExpr). Answers (FitsKind c.domain) (value (by_place no_rows) t (record { scopes = scopes; inputs = inputs; user = name }))) (sym (x.is_tree []))
    (tree_fits c are.0 _ are.2
    (tree_answers columns parameters (of_base b) are.0 e scopes inputs name x given (record { line = (row_fits columns b row known is, tt); group = tt }, tt)))
