-- A query as a text spells it, computed by the definitions.
use Rattle.std.specs.Prelude.{◌≡◌, ℕ, pos, true, false, List, [], ◌∷◌, codes, refl, Some, None}
use Rattle.sq_value.specs.declared.value.Value.TheVariants as value
use Rattle.sq_tree.specs.declared.expr.Sign.TheVariants.{Plus, Minus}
use Rattle.sq_tree.specs.declared.expr.TimesSign.TheVariants.{Times}
use Rattle.sq_tree.specs.declared.expr.Expr.{Expr as SpelledExpr, roll-Expr}
use Rattle.sq_tree.specs.declared.expr.Term.{Term, roll-Term}
use Rattle.sq_tree.specs.declared.expr.Added.{roll-Added}
use Rattle.sq_tree.specs.declared.expr.Factor.{Factor}
use Rattle.sq_tree.specs.declared.expr.Primary.{Primary}
use Rattle.sq_tree.specs.declared.expr.Primary.TheVariants as primary
use Rattle.sq_tree.specs.declared.cond.Comparison.TheVariants.{Greater}
use Rattle.sq_tree.specs.declared.cond.SelectList.TheVariants.{Star}
use Rattle.sq_tree.specs.declared.cond.Cond.{Cond, roll-Cond}
use Rattle.sq_tree.specs.declared.cond.Conj.{roll-Conj}
use Rattle.sq_tree.specs.declared.cond.Body.TheVariants as body
use Rattle.sq_tree.specs.declared.cond.Tail.TheVariants as tail
use Rattle.sq_tree.specs.declared.cond.TableExpression.{roll-TableExpression}
use Rattle.sq_tree.specs.declared.cond.QuerySpecification.{QuerySpecification, roll-QuerySpecification}
use Rattle.sq_meaning.specs.Syntax.{literal, column, signed, added, scaled, bracketed, all_columns, compare, negated, conjunction, disjunction, present, absent, select, conds}
use Rattle.sq_meaning.specs.Spelled.{expr_of, cond_of, select_of}
use Rattle.sq_meaning.proofs.SpelledLevels.{spelled}

abbrev factor : Primary → Factor
factor p = record { sign = None; primary = p }

abbrev minus : Primary → Factor
minus p = record { sign = Some Minus; primary = p }

abbrev term : Factor → Term
term f = roll-Term (record { first = f; rest = [] })

abbrev alone : Primary → SpelledExpr
alone p = roll-Expr (record { first = term (factor p); rest = [] })

abbrev number : List ℕ → Primary
number spelling = primary.Number spelling

abbrev column_primary : List ℕ → Primary
column_primary name = primary.Column (record { qualifier = None; column = name })

-- -(A) + 12. * 0.5
abbrev spelled_sum : SpelledExpr
spelled_sum = roll-Expr (record {
  first = term (minus (primary.Bracketed (alone (column_primary (codes "A")))));
  rest = roll-Added (record { sign = Plus; term = roll-Term (record { first = factor (number (codes "12.")); rest = record { sign = Times; factor = factor (number (codes "0.5")) } ∷ [] }) }) ∷ [];
})

a_sum : expr_of spelled_sum ≡ added Plus (signed Minus (bracketed (column (record { qualifier = None; column = codes "A" })))) (scaled Times (literal (value.Num (record { unscaled = pos 12; scale = 0 }))) (literal (value.Num (record { unscaled = pos 5; scale = 1 }))))
a_sum = simp (spelled) refl

-- NOT A > 10
abbrev spelled_cond : Cond
spelled_cond = roll-Cond (record {
  first = roll-Conj (record { first = record { negated = true; body = body.Predicate (alone (column_primary (codes "A"))) (tail.Compare Greater (alone (number (codes "10")))) }; rest = [] });
  rest = [];
})

a_cond : cond_of (codes "U") spelled_cond ≡ disjunction (conds (conjunction (conds (negated (compare Greater (column (record { qualifier = None; column = codes "A" })) (literal (value.Num (record { unscaled = pos 10; scale = 0 })))) ∷ [])) ∷ []))
a_cond = simp (spelled) refl

-- SELECT * FROM T
abbrev spelled_query : QuerySpecification
spelled_query = roll-QuerySpecification (record {
  quantifier = None;
  list = Star;
  table = roll-TableExpression (record { from = record { first = record { table = record { schema = None; table = codes "T" }; correlation = None }; rest = [] }; where_clause = Some spelled_cond; group_by = None; having = None });
})

a_query : select_of (codes "U") spelled_query ≡ select false all_columns (record { table = record { user = codes "U"; name = codes "T" }; correlation = None } ∷ []) (present (disjunction (conds (conjunction (conds (negated (compare Greater (column (record { qualifier = None; column = codes "A" })) (literal (value.Num (record { unscaled = pos 10; scale = 0 })))) ∷ [])) ∷ [])))) [] absent
a_query = simp (spelled) refl
