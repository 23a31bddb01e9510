-- The levels of spelled trees, as what is evaluated: with them a spelled tree computes.
use denote.Hole.Carrier
use Rattle.std.proofs.Common.{◌≡◌, ℕ, Bool, List, ◌∷◌, Option, Some, None, refl, sym, ◌∙◌, ap, map}
use Rattle.std.specs.Prelude.{fold}
use Rattle.std.specs.Option.{option_map}
use Rattle.sq_lex.specs.declared.name.Name.{Name}
use Rattle.sq_lex.specs.declared.number.Number.{Number}
use Rattle.sq_value.specs.declared.value.Value.TheVariants as value
use Rattle.sq_tree.specs.declared.list.CommaList.{CommaList}
use Rattle.sq_tree.specs.declared.names.ColumnReference.{ColumnReference}
use Rattle.sq_tree.specs.declared.names.Parameter.{Parameter}
use Rattle.sq_tree.specs.declared.expr.Sign.{Sign}
use Rattle.sq_tree.specs.declared.expr.SetFunction.{SetFunction}
use Rattle.sq_tree.specs.declared.expr.SetQuantifier.{SetQuantifier}
use Rattle.sq_tree.specs.declared.expr.Expr.{Expr as SpelledExpr, roll-Expr}
use Rattle.sq_tree.specs.declared.expr.Term.{Term, roll-Term}
use Rattle.sq_tree.specs.declared.expr.Added.{Added, roll-Added}
use Rattle.sq_tree.specs.declared.expr.Scaled.{Scaled}
use Rattle.sq_tree.specs.declared.expr.Factor.{Factor}
use Rattle.sq_tree.specs.declared.expr.Primary.{roll-Primary}
use Rattle.sq_tree.specs.declared.expr.Primary.TheVariants as primary
use Rattle.sq_tree.specs.declared.expr.Primary.TheOpen as layer
use Rattle.sq_tree.specs.declared.cond.Comparison.{Comparison}
use Rattle.sq_tree.specs.declared.cond.Quantifier.{Quantifier}
use Rattle.sq_tree.specs.declared.cond.SelectList.{SelectList as SpelledList}
use Rattle.sq_tree.specs.declared.cond.TableReference.{TableReference as SpelledReference}
use Rattle.sq_tree.specs.declared.cond.Cond.{Cond as SpelledCond, roll-Cond}
use Rattle.sq_tree.specs.declared.cond.Conj.{Conj, roll-Conj}
use Rattle.sq_tree.specs.declared.cond.Test.{Test}
use Rattle.sq_tree.specs.declared.cond.Body.{roll-Body}
use Rattle.sq_tree.specs.declared.cond.Body.TheVariants as body
use Rattle.sq_tree.specs.declared.cond.Body.TheOpen as level
use Rattle.sq_tree.specs.declared.cond.Tail.{Tail}
use Rattle.sq_tree.specs.declared.cond.Tail.{roll-Tail}
use Rattle.sq_tree.specs.declared.cond.Tail.TheVariants as tail
use Rattle.sq_tree.specs.declared.cond.TableExpression.{TableExpression, roll-TableExpression}
use Rattle.sq_tree.specs.declared.cond.QuerySpecification.{QuerySpecification, roll-QuerySpecification}
use Rattle.sq_tree.specs.declared.query.Query.{Query as SpelledQuery, roll-Query}
use Rattle.sq_tree.specs.declared.query.QueryTerm.{QueryTerm}
use Rattle.sq_tree.specs.declared.query.QueryTerm.{roll-QueryTerm}
use Rattle.sq_tree.specs.declared.query.QueryTerm.TheVariants as term
use Rattle.sq_tree.specs.declared.query.QueryTerm.TheOpen as query_term
use Rattle.sq_tree.specs.declared.query.UnionTerm.{UnionTerm}
use Rattle.sq_tree.specs.declared.expr.Primary.TheBlock as expr
use Rattle.sq_tree.specs.declared.expr.Primary.TheBlock.{member-Primary, member-Added, member-Expr, member-Term}
use Rattle.sq_tree.specs.declared.cond.Body.TheBlock as cond
use Rattle.sq_tree.specs.declared.cond.Body.TheBlock.{member-Body, member-Tail, member-Cond, member-Conj, member-QuerySpecification, member-TableExpression}
use Rattle.sq_tree.specs.declared.query.QueryTerm.TheBlock as query
use Rattle.sq_tree.specs.declared.query.QueryTerm.TheBlock.{member-QueryTerm, member-Query}
use Rattle.sq_meaning.specs.Syntax.{Expr, SelectList, literal, parameter, user, column, count_rows, set_function, added, scaled, bracketed, Cond, Select, compare, between, in_subquery, in_list, like, is_null, exists, conjunction, disjunction, select, conds, union, specification}
use Rattle.sq_meaning.specs.Spelled.{Named, ExprSeen, expr_levels, CondSeen, cond_levels, QuerySeen, query_levels, spelled_number, is_distinct_word, with_sign_if, expr_of, term_of, factor_of, primary_of, added_of, scaled_of, reference_of, list_of, listed, listed_if_any, not_if, clause, compared_with, cond_of, conj_of, test_of, body_of, tail_of, select_of, table_expression_of, query_of, query_term_of, union_term_of}

-- ---- a tree that is put together, level by level

expr_law : (part : expr.the_members) (x : (expr.the_bodies part).Of expr.the_family)
    → expr.the_fold ExprSeen (expr_levels) part (Carrier.roll expr.the_members expr.the_sigs expr.the_carrier part x)
    ≡ expr_levels part ((expr.the_bodies part).map expr.the_family ExprSeen (expr.the_fold ExprSeen (expr_levels)) x)
unfolding Carrier.fold
expr_law = Carrier.fold-roll expr.the_members expr.the_sigs expr.the_carrier ExprSeen (expr_levels)

cond_law : (own : Name) (part : cond.the_members) (x : (cond.the_bodies part).Of cond.the_family)
    → cond.the_fold CondSeen (cond_levels own) part (Carrier.roll cond.the_members cond.the_sigs cond.the_carrier part x)
    ≡ cond_levels own part ((cond.the_bodies part).map cond.the_family CondSeen (cond.the_fold CondSeen (cond_levels own)) x)
unfolding Carrier.fold
cond_law own = Carrier.fold-roll cond.the_members cond.the_sigs cond.the_carrier CondSeen (cond_levels own)

query_law : (own : Name) (part : query.the_members) (x : (query.the_bodies part).Of query.the_family)
    → query.the_fold QuerySeen (query_levels own) part (Carrier.roll query.the_members query.the_sigs query.the_carrier part x)
    ≡ query_levels own part ((query.the_bodies part).map query.the_family QuerySeen (query.the_fold QuerySeen (query_levels own)) x)
unfolding Carrier.fold
query_law own = Carrier.fold-roll query.the_members query.the_sigs query.the_carrier QuerySeen (query_levels own)

-- ---- value expressions

pub expr_of-roll : (first : Term) (rest : List Added) → expr_of (roll-Expr (record { first = first; rest = rest })) ≡ fold (λ left s. added s.0 left s.1) (term_of first) (map added_of rest)
unfolding expr_of term_of added_of roll-Expr
expr_of-roll first rest = expr_law member-Expr (record { first = first; rest = rest })

pub term_of-roll : (first : Factor) (rest : List Scaled) → term_of (roll-Term (record { first = first; rest = rest })) ≡ fold (λ left s. scaled s.0 left s.1) (factor_of first) (map scaled_of rest)
unfolding term_of factor_of scaled_of roll-Term
term_of-roll first rest = expr_law member-Term (record { first = first; rest = rest })

pub added_of-roll : (sign : Sign) (t : Term) → added_of (roll-Added (record { sign = sign; term = t })) ≡ (sign, term_of t)
unfolding added_of term_of roll-Added
added_of-roll sign t = expr_law member-Added (record { sign = sign; term = t })

pub scaled_of-out : (s : Scaled) → scaled_of s ≡ (s.sign, factor_of s.factor)
unfolding scaled_of factor_of
scaled_of-out s = refl

pub factor_of-out : (f : Factor) → factor_of f ≡ with_sign_if f.sign (primary_of f.primary)
unfolding factor_of primary_of
factor_of-out f = refl

pub primary_of-Number : (n : Number) → primary_of (primary.Number n) ≡ literal (value.Num (spelled_number n))
unfolding primary_of roll-Primary
primary_of-Number n = ap primary_of (sym (primary.rolls-Number n)) ∙ expr_law member-Primary (layer.Number n)

pub primary_of-Text : (characters : List ℕ) → primary_of (primary.Text characters) ≡ literal (value.Chars characters)
unfolding primary_of roll-Primary
primary_of-Text characters = ap primary_of (sym (primary.rolls-Text characters)) ∙ expr_law member-Primary (layer.Text characters)

pub primary_of-Parameter : (p : Parameter) → primary_of (primary.Parameter p) ≡ parameter p
unfolding primary_of roll-Primary
primary_of-Parameter p = ap primary_of (sym (primary.rolls-Parameter p)) ∙ expr_law member-Primary (layer.Parameter p)

pub primary_of-User : primary_of primary.User ≡ user
unfolding primary_of roll-Primary
primary_of-User = ap primary_of (sym primary.rolls-User) ∙ expr_law member-Primary layer.User

pub primary_of-Column : (c : ColumnReference) → primary_of (primary.Column c) ≡ column c
unfolding primary_of roll-Primary
primary_of-Column c = ap primary_of (sym (primary.rolls-Column c)) ∙ expr_law member-Primary (layer.Column c)

pub primary_of-CountRows : primary_of primary.CountRows ≡ count_rows
unfolding primary_of roll-Primary
primary_of-CountRows = ap primary_of (sym primary.rolls-CountRows) ∙ expr_law member-Primary layer.CountRows

pub primary_of-SetFunction : (f : SetFunction) (q : Option SetQuantifier) (e : SpelledExpr) → primary_of (primary.SetFunction f q e) ≡ set_function f (is_distinct_word q) (expr_of e)
unfolding primary_of expr_of roll-Primary
primary_of-SetFunction f q e = ap primary_of (sym (primary.rolls-SetFunction f q e)) ∙ expr_law member-Primary (layer.SetFunction f q e)

pub primary_of-Bracketed : (e : SpelledExpr) → primary_of (primary.Bracketed e) ≡ bracketed (expr_of e)
unfolding primary_of expr_of roll-Primary
primary_of-Bracketed e = ap primary_of (sym (primary.rolls-Bracketed e)) ∙ expr_law member-Primary (layer.Bracketed e)

-- ---- search conditions and query specifications

pub cond_of-roll : (own : Name) (first : Conj) (rest : List Conj) → cond_of own (roll-Cond (record { first = first; rest = rest })) ≡ disjunction (conds (conj_of own first ∷ map (conj_of own) rest))
unfolding cond_of conj_of roll-Cond
cond_of-roll own first rest = cond_law own member-Cond (record { first = first; rest = rest })

pub conj_of-roll : (own : Name) (first : Test) (rest : List Test) → conj_of own (roll-Conj (record { first = first; rest = rest })) ≡ conjunction (conds (test_of own first ∷ map (test_of own) rest))
unfolding conj_of test_of roll-Conj
conj_of-roll own first rest = cond_law own member-Conj (record { first = first; rest = rest })

pub test_of-out : (own : Name) (t : Test) → test_of own t ≡ not_if t.negated (body_of own t.body)
unfolding test_of body_of
test_of-out own t = refl

pub body_of-Predicate : (own : Name) (e : SpelledExpr) (t : Tail) → body_of own (body.Predicate e t) ≡ tail_of own t (expr_of e)
unfolding body_of tail_of roll-Body
body_of-Predicate own e t = ap (body_of own) (sym (body.rolls-Predicate e t)) ∙ cond_law own member-Body (level.Predicate e t)

pub body_of-Exists : (own : Name) (q : QuerySpecification) → body_of own (body.Exists q) ≡ exists (select_of own q)
unfolding body_of select_of roll-Body
body_of-Exists own q = ap (body_of own) (sym (body.rolls-Exists q)) ∙ cond_law own member-Body (level.Exists q)

pub body_of-Bracketed : (own : Name) (c : SpelledCond) → body_of own (body.Bracketed c) ≡ cond_of own c
unfolding body_of cond_of roll-Body
body_of-Bracketed own c = ap (body_of own) (sym (body.rolls-Bracketed c)) ∙ cond_law own member-Body (level.Bracketed c)

pub tail_of-Compare : (own : Name) (op : Comparison) (right : SpelledExpr) (left : Expr Named) → tail_of own (tail.Compare op right) left ≡ compare op left (expr_of right)
unfolding tail_of roll-Tail
tail_of-Compare own op right left = ap (λ (f : Expr Named → Cond Named). f left) (ap (tail_of own) (sym (tail.rolls-Compare op right)) ∙ cond_law own member-Tail (level.Compare op right))

pub tail_of-CompareQuery : (own : Name) (op : Comparison) (k : Option Quantifier) (q : QuerySpecification) (left : Expr Named) → tail_of own (tail.CompareQuery op k q) left ≡ compared_with k op left (select_of own q)
unfolding tail_of select_of roll-Tail
tail_of-CompareQuery own op k q left = ap (λ (f : Expr Named → Cond Named). f left) (ap (tail_of own) (sym (tail.rolls-CompareQuery op k q)) ∙ cond_law own member-Tail (level.CompareQuery op k q))

pub tail_of-Between : (own : Name) (n : Bool) (low high : SpelledExpr) (left : Expr Named) → tail_of own (tail.Between n low high) left ≡ not_if n (between left (expr_of low) (expr_of high))
unfolding tail_of roll-Tail
tail_of-Between own n low high left = ap (λ (f : Expr Named → Cond Named). f left) (ap (tail_of own) (sym (tail.rolls-Between n low high)) ∙ cond_law own member-Tail (level.Between n low high))

pub tail_of-InQuery : (own : Name) (n : Bool) (q : QuerySpecification) (left : Expr Named) → tail_of own (tail.InQuery n q) left ≡ not_if n (in_subquery left (select_of own q))
unfolding tail_of select_of roll-Tail
tail_of-InQuery own n q left = ap (λ (f : Expr Named → Cond Named). f left) (ap (tail_of own) (sym (tail.rolls-InQuery n q)) ∙ cond_law own member-Tail (level.InQuery n q))

pub tail_of-InList : (own : Name) (n : Bool) (values : CommaList SpelledExpr) (left : Expr Named) → tail_of own (tail.InList n values) left ≡ not_if n (in_list left (map expr_of (listed values)))
unfolding tail_of roll-Tail
tail_of-InList own n values left = ap (λ (f : Expr Named → Cond Named). f left) (ap (tail_of own) (sym (tail.rolls-InList n values)) ∙ cond_law own member-Tail (level.InList n values))

pub tail_of-Like : (own : Name) (n : Bool) (pattern : SpelledExpr) (escape : Option SpelledExpr) (left : Expr Named) → tail_of own (tail.Like n pattern escape) left ≡ not_if n (like left (expr_of pattern) (option_map expr_of escape))
unfolding tail_of roll-Tail
tail_of-Like own n pattern escape left = ap (λ (f : Expr Named → Cond Named). f left) (ap (tail_of own) (sym (tail.rolls-Like n pattern escape)) ∙ cond_law own member-Tail (level.Like n pattern escape))

pub tail_of-Null : (own : Name) (n : Bool) (left : Expr Named) → tail_of own (tail.Null n) left ≡ not_if n (is_null left)
unfolding tail_of roll-Tail
tail_of-Null own n left = ap (λ (f : Expr Named → Cond Named). f left) (ap (tail_of own) (sym (tail.rolls-Null n)) ∙ cond_law own member-Tail (level.Null n))

pub table_expression_of-roll : (own : Name) (from : CommaList SpelledReference) (w : Option SpelledCond) (by : Option (CommaList ColumnReference)) (h : Option SpelledCond) (distinct : Bool) (list : SelectList Named)
    → table_expression_of own (roll-TableExpression (record { from = from; where_clause = w; group_by = by; having = h })) distinct list
    ≡ select distinct list (map (reference_of own) (listed from)) (clause (option_map (cond_of own) w)) (listed_if_any by) (clause (option_map (cond_of own) h))
unfolding table_expression_of cond_of roll-TableExpression
table_expression_of-roll own from None by None distinct list = ap (λ (f : Bool → SelectList Named → Select Named). f distinct list) (cond_law own member-TableExpression (record { from = from; where_clause = None; group_by = by; having = None }))
table_expression_of-roll own from None by (Some h) distinct list = ap (λ (f : Bool → SelectList Named → Select Named). f distinct list) (cond_law own member-TableExpression (record { from = from; where_clause = None; group_by = by; having = Some h }))
table_expression_of-roll own from (Some w) by None distinct list = ap (λ (f : Bool → SelectList Named → Select Named). f distinct list) (cond_law own member-TableExpression (record { from = from; where_clause = Some w; group_by = by; having = None }))
table_expression_of-roll own from (Some w) by (Some h) distinct list = ap (λ (f : Bool → SelectList Named → Select Named). f distinct list) (cond_law own member-TableExpression (record { from = from; where_clause = Some w; group_by = by; having = Some h }))

pub select_of-roll : (own : Name) (quantifier : Option SetQuantifier) (list : SpelledList) (table : TableExpression) → select_of own (roll-QuerySpecification (record { quantifier = quantifier; list = list; table = table })) ≡ table_expression_of own table (is_distinct_word quantifier) (list_of list)
unfolding select_of table_expression_of roll-QuerySpecification
select_of-roll own quantifier list table = cond_law own member-QuerySpecification (record { quantifier = quantifier; list = list; table = table })

-- ---- query expressions

pub query_of-roll : (own : Name) (first : QueryTerm) (rest : List UnionTerm) → query_of own (roll-Query (record { first = first; rest = rest })) ≡ fold (λ left u. union u.0 left u.1) (query_term_of own first) (map (union_term_of own) rest)
unfolding query_of query_term_of union_term_of roll-Query
query_of-roll own first rest = query_law own member-Query (record { first = first; rest = rest })

pub union_term_of-out : (own : Name) (u : UnionTerm) → union_term_of own u ≡ (u.all, query_term_of own u.term)
unfolding union_term_of query_term_of
union_term_of-out own u = refl

pub query_term_of-Specification : (own : Name) (q : QuerySpecification) → query_term_of own (term.Specification q) ≡ specification (select_of own q)
unfolding query_term_of roll-QueryTerm
query_term_of-Specification own q = ap (query_term_of own) (sym (term.rolls-Specification q)) ∙ query_law own member-QueryTerm (query_term.Specification q)

pub query_term_of-Bracketed : (own : Name) (q : SpelledQuery) → query_term_of own (term.Bracketed q) ≡ query_of own q
unfolding query_term_of query_of roll-QueryTerm
query_term_of-Bracketed own q = ap (query_term_of own) (sym (term.rolls-Bracketed q)) ∙ query_law own member-QueryTerm (query_term.Bracketed q)

pub ruleset spelled = (expr_of-roll, term_of-roll, added_of-roll, scaled_of-out, factor_of-out, primary_of-Number, primary_of-Text, primary_of-Parameter, primary_of-User, primary_of-Column, primary_of-CountRows, primary_of-SetFunction, primary_of-Bracketed, cond_of-roll, conj_of-roll, test_of-out, body_of-Predicate, body_of-Exists, body_of-Bracketed, tail_of-Compare, tail_of-CompareQuery, tail_of-Between, tail_of-InQuery, tail_of-InList, tail_of-Like, tail_of-Null, table_expression_of-roll, select_of-roll, query_of-roll, union_term_of-out, query_term_of-Specification, query_term_of-Bracketed)
