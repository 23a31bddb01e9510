-- The values that well-formed insert and update statements give may be stored in their columns (ISO/IEC 9075:1992, 11.5, 13.8 to 13.10).
use Rattle.std.proofs.Common.{◌≡◌, ℕ, zero, suc, ◌<◌, List, [], ◌∷◌, length, get_or, false, sym, ap, subst, ◌∙◌, Ok, Err, arith}
use Rattle.std.specs.List.{AllByRecursion, AllZip}
use Rattle.sq_lex.specs.declared.name.Name.{Name}
use Rattle.sq_value.specs.Domain.{FitsKind, is_of_numbers}
use Rattle.sq_value.specs.declared.domain.Domain.{Domain}
use Rattle.sq_value.specs.declared.domain.Kind.{Kind}
use Rattle.sq_value.specs.declared.value.Value.{Value}
use Rattle.sq_store.specs.Content.{Content}
use Rattle.sq_meaning.specs.Status.{Outcome}
use Rattle.sq_meaning.specs.Environment.{Row, Line, alone}
use Rattle.sq_meaning.specs.Expression.{value, user_value}
use Rattle.sq_meaning.specs.Placed.{by_place}
use Rattle.sq_meaning.specs.WellFormed.{Answers, IsRowOf, AreRowsOf, AreInputsOf}
use Rattle.sq_meaning.proofs.AnswerLaws.{all_weaker}
use Rattle.sq_bound.specs.Default.{DefaultIsIn}
use Rattle.sq_bound.specs.Expression.{PlacedExpr, expr_of}
use Rattle.sq_bound.specs.Fits.{IsRowIn}
use Rattle.sq_bound.specs.WellFormed.{TableKinds, IsAssignment, IsNewValue, IsSelect, IsSource, MayStore, base_kinds, kinds_of_select}
use Rattle.sq_bound.specs.declared.condition.BoundSpecification.{BoundSpecification}
use Rattle.sq_bound.specs.declared.condition.TablePlace.{TablePlace}
use Rattle.sq_bound.specs.declared.condition.TablePlace.TheVariants.{Base}
use Rattle.sq_bound.specs.declared.expression.BoundExpr.{BoundExpr}
use Rattle.sq_bound.specs.declared.expression.BoundExpr.TheVariants as bound
use Rattle.sq_bound.specs.declared.names.BaseTable.{BaseTable}
use Rattle.sq_bound.specs.declared.names.ColumnDefault.{ColumnDefault}
use Rattle.sq_bound.specs.declared.names.ColumnDefault.TheVariants as default
use Rattle.sq_bound.specs.declared.names.ObjectColumn.{ObjectColumn}
use Rattle.sq_bound.specs.declared.statement.BoundAssignment.{BoundAssignment}
use Rattle.sq_bound.specs.declared.statement.InsertedRows.{InsertedRows}
use Rattle.sq_bound.specs.declared.statement.InsertedRows.TheVariants as inserted
use Rattle.sq_bound.proofs.ExpressionLaws.{expr_of-User}
use Rattle.sq_expression.specs.Frame.{inputs_of}
use Rattle.sq_query.specs.MayRead.{MayRead}
use Rattle.sq_query.specs.Row.{HasValueOn, outside}
use Rattle.sq_query.proofs.Needs.Fitting.{ends_right}
use Rattle.sq_query.proofs.Keys.KeyedRows.{inputs_are}
use Rattle.sq_change.specs.Given.{AreAssignable, AreStorable, FitColumns, IsStorable, MayAssign, MayGive}
use Rattle.sq_change.proofs.NewRows.Fitting.{assigned_fits, kind_fits, new_fits, no_rows}

-- ---- lists

-- what holds of two lists place by place holds of the elements at a place
pub zipped_at : {A B : Type 0} (P : A → B → Type 0) (xs : List A) (ys : List B) (i : ℕ) (x : A) (y : B) → AllZip P xs ys → i < length xs → x ≡ get_or xs i x → y ≡ get_or ys i y → P x y
zipped_at P [] ys i x y h lt e f = absurd (omega arith)
zipped_at P (a ∷ xs) [] i x y h lt e f = absurd h
zipped_at P (a ∷ xs) (b ∷ ys) zero x y h lt e f = subst (λ z. P z y) (sym e) (subst (P a) (sym f) h.0)
zipped_at P (a ∷ xs) (b ∷ ys) (suc i) x y h lt e f = zipped_at P xs ys i x y h.1 (omega arith) e f

-- ---- values

-- an answer of an expression whose value may be stored
may_store : (d : Domain) (e : BoundExpr) (line : Line) (values : List Value) (user : Name)
    → Answers (FitsKind d) (value (by_place no_rows) (expr_of [] e) (outside line values user)) → IsStorable d e line values user
may_store d e line values user h (Ok v) found = (subst (Answers (FitsKind d)) (found no_rows) h, tt)
may_store d e line values user h (Err f) found = (tt, ends_right {A = Value} (Err f) (FitsKind d) _ h (found no_rows))

-- ---- INSERT (13.8)

values_storable : (columns : TableKinds) (parameters : List Kind) (values : List Value) (user : Name) (objects : List ObjectColumn) (es : List BoundExpr) → AreInputsOf parameters (inputs_of values)
    → AllZip (IsNewValue columns parameters []) objects es → AreStorable objects es values user
values_storable columns parameters values user [] [] given h = tt
values_storable columns parameters values user [] (e ∷ es) given h = absurd h
values_storable columns parameters values user (c ∷ objects) [] given h = absurd h
values_storable columns parameters values user (c ∷ objects) (e ∷ es) given h = (
  may_store c.domain e [] values user (new_fits columns parameters c e (alone [] [] ∷ []) (inputs_of values) user h.0 given),
  values_storable columns parameters values user objects es given h.1,
)

pub gives_values : (bases : List BaseTable) (queries : List BoundSpecification) (columns : TableKinds) (content : Content) (user : Name) (values : List Value)
    (objects : List ObjectColumn) (source : InsertedRows) (es : List BoundExpr)
    → MayGive bases queries columns content user values objects source → source ≡ inserted.Values es → AreStorable objects es values user
gives_values bases queries columns content user values objects source es may is =
    values_storable columns may.parameters values user objects es (inputs_are may.parameters values may.reads.inputs)
    (subst (IsSource columns may.parameters objects) is may.given)

fit_columns : (objects : List ObjectColumn) (kinds : List Kind) (row : Row) → AllZip MayStore objects kinds → IsRowOf kinds row → FitColumns objects row
fit_columns [] [] [] may is = tt
fit_columns [] [] (v ∷ row) may is = absurd is
fit_columns [] (k ∷ kinds) row may is = absurd may
fit_columns (c ∷ objects) [] row may is = absurd may
fit_columns (c ∷ objects) (k ∷ kinds) [] may is = absurd is
fit_columns (c ∷ objects) (k ∷ kinds) (v ∷ row) may is = (kind_fits c.domain k v is.0 may.0, fit_columns objects kinds row may.1 is.1)

module _ (bases : List BaseTable) (queries : List BoundSpecification) (columns : TableKinds) (content : Content) (user : Name) (values : List Value)
    (objects : List ObjectColumn) (source : InsertedRows) (q : BoundSpecification)
    (may : MayGive bases queries columns content user values objects source) (is : source ≡ inserted.Query q) where
  given_so : IsSource columns may.parameters objects (inserted.Query q)
  given_so = subst (IsSource columns may.parameters objects) is may.given

  pub query_well : IsSelect columns may.parameters [] q
  query_well = given_so.0

  -- what holds where the query may read some tables holds
  pub query_so : (P : Type 0)
      → ((parameters : List Kind) (tables : TablePlace → Outcome (List Row)) → MayRead bases queries columns content user values parameters tables
      → IsSelect columns parameters [] q → P) → P
  query_so P h = h may.parameters may.tables may.reads given_so.0

  pub gives_rows : (rows : List Row)
      → ((parameters : List Kind) (tables : TablePlace → Outcome (List Row)) → MayRead bases queries columns content user values parameters tables
      → IsSelect columns parameters [] q → AreRowsOf (kinds_of_select q) rows)
      → AllByRecursion (FitColumns objects) rows
  gives_rows rows found =
      all_weaker (IsRowOf (kinds_of_select q)) (FitColumns objects) (λ row of_kinds. fit_columns objects (kinds_of_select q) row given_so.1 of_kinds) rows
      (query_so (AreRowsOf (kinds_of_select q) rows) found)

-- the default USER (11.5) is a text
pub user_fits : (d : Domain) (c : ColumnDefault) (v : Value) (parameters : List Value) (name : Name) → DefaultIsIn d c → c ≡ default.User → HasValueOn (Ok v) bound.User [] parameters name → FitsKind d v
user_fits d c v parameters name h is found =
    let texts : is_of_numbers d ≡ false = subst (DefaultIsIn d) is h in
    let at : Ok (user_value name) ≡ Ok v = sym (ap (λ (t : PlacedExpr). value (by_place no_rows) t (outside [] parameters name)) (expr_of-User [])) ∙ found no_rows in
    let same : user_value name ≡ v = cc in
    subst (FitsKind d) same texts

-- ---- UPDATE (13.9, 13.10)

pub assigns : (columns : TableKinds) (values : List Value) (user : Name) (table : BaseTable) (assignments : List BoundAssignment) (row : Row) → MayAssign columns values table assignments
    → columns (Base table.place) ≡ Ok (base_kinds table) → IsRowIn table.columns row → AreAssignable assignments row values user
assigns columns values user table assignments row may known is =
    all_weaker (IsAssignment columns may.parameters table) (λ a. IsStorable a.column.domain a.value (row ∷ []) values user)
    (λ a h. may_store a.column.domain a.value (row ∷ []) values user
    (assigned_fits columns may.parameters table a.column a.value row (inputs_of values) user h.1 known is (inputs_are may.parameters values may.inputs)))
    assignments may.assigned
