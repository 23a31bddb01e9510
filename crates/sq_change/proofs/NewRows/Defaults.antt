-- A column without a value gets its default (ISO/IEC 9075:1992, 11.5).
use Rattle.std.proofs.Common.{◌≡◌, List, [], Option, None, Result, Ok, Err, ap, sym, ◌∙◌}
use Rattle.std.specs.Borrow.{Bor}
use Rattle.std.specs.Option.{option_copied}
use Rattle.std.specs.Result.{IsErrAnd}
use Rattle.sq_lex.specs.declared.name.Name.{Name}
use Rattle.sq_value.specs.declared.value.Value.{Value}
use Rattle.sq_meaning.specs.Assignment.{assigned}
use Rattle.sq_meaning.specs.Expression.{user_value, value}
use Rattle.sq_meaning.specs.Placed.{by_place}
use Rattle.sq_bound.specs.Expression.{PlacedExpr, expr_of}
use Rattle.sq_bound.specs.declared.expression.BoundExpr.TheVariants as bound
use Rattle.sq_bound.specs.declared.names.BaseColumn.{BaseColumn}
use Rattle.sq_bound.specs.declared.names.ColumnDefault.TheVariants as default
use Rattle.sq_bound.proofs.ExpressionLaws.{expr_of-User}
use Rattle.sq_expression.specs.Fault.{Meets}
use Rattle.sq_expression.specs.declared.fault.Fault.{Fault}
use Rattle.sq_expression.proofs.Expressions.{handed_on, meets_by}
use Rattle.sq_query.specs.Row.{HasValueOn, outside}
use Rattle.sq_change.specs.Made.{default_stored, or_default}
use Rattle.sq_change.proofs.NewRows.Fitting.{no_rows}
use Rattle.sq_change.proofs.OneByOne.Outcomes.{refused}

-- the value of USER
user_is : (r : Result Value Fault) (parameters : List Value) (name : Name) → HasValueOn r bound.User [] parameters name → Meets r (Ok (user_value name))
user_is r parameters name found =
    meets_by r (Ok (user_value name)) (value (by_place no_rows) (expr_of [] bound.User) (outside [] parameters name))
    (sym (ap (λ (t : PlacedExpr). value (by_place no_rows) t (outside [] parameters name)) (expr_of-User []))) (found no_rows)

module _ (column : BaseColumn) (given : Option (Bor Value)) (none : given ≡ None) (is : column.default ≡ default.User) (parameters : List Value) (name : Name) where
  by_user : or_default name column (option_copied given) ≡ assigned column.domain (user_value name)
  by_user = ap (λ (g : Option (Bor Value)). or_default name column (option_copied g)) none ∙ ap (default_stored name column.domain) is

  pub user_stored : (r : Result Value Fault) (v : Value) → HasValueOn (Ok v) bound.User [] parameters name → Meets r (assigned column.domain v) → Meets r (or_default name column (option_copied given))
  user_stored r v found stored =
      let at : Ok (user_value name) ≡ Ok v = user_is (Ok v) parameters name found in
      let same : user_value name ≡ v = cc in
      meets_by r _ (assigned column.domain v) (by_user ∙ ap (assigned column.domain) same) stored

  pub user_refused : (r : Result Value Fault) (f : Fault) → IsErrAnd r (λ g. g ≡ f) → HasValueOn (Err f) bound.User [] parameters name → Meets r (or_default name column (option_copied given))
  user_refused r f handed found = handed_on r f _ handed (refused f (user_value name) _ (user_is (Err f) parameters name found))
