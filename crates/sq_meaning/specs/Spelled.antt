-- The trees that texts spell, in the form that is evaluated. An unqualified name of a table means the user's own
-- (ISO/IEC 9075:1992, 5.4).
use Rattle.std.specs.Prelude.{ℕ, pos, ◌&&◌, nat_le, Bool, true, false, if◌then◌else◌, unsigned_abs, List, [], ◌∷◌, fold, map, Option, Some, None, unwrap_or}
use Rattle.std.specs.List.{list_any}
use Rattle.std.specs.Option.{option_map}
use Rattle.std.specs.Result.{result_unwrap_or}
use Rattle.sq_lex.specs.declared.name.Name.{Name}
use Rattle.sq_value.specs.Arithmetic.{negated as negated_number}
use Rattle.sq_value.specs.Number.{Number}
use Rattle.sq_value.specs.Spelling.{read, is_point}
use Rattle.sq_value.specs.declared.domain.Domain.{Domain}
use Rattle.sq_value.specs.declared.domain.Domain.TheVariants as domain
use Rattle.sq_value.specs.declared.value.Value.TheVariants as value
use Rattle.sq_tree.specs.declared.list.CommaList.{CommaList}
use Rattle.sq_tree.specs.declared.names.TableName.{TableName as SpelledTable}
use Rattle.sq_tree.specs.declared.names.ColumnReference.{ColumnReference}
use Rattle.sq_tree.specs.declared.names.Parameter.{Parameter}
use Rattle.sq_tree.specs.declared.data_type.DataType.{DataType}
use Rattle.sq_tree.specs.declared.data_type.DataType.TheVariants as data_type
use Rattle.sq_tree.specs.declared.data_type.Precision.{Precision}
use Rattle.sq_tree.specs.declared.expr.Sign.{Sign}
use Rattle.sq_tree.specs.declared.expr.Sign.TheVariants.{Plus, Minus}
use Rattle.sq_tree.specs.declared.expr.SignedNumber.{SignedNumber}
use Rattle.sq_tree.specs.declared.expr.TimesSign.{TimesSign}
use Rattle.sq_tree.specs.declared.expr.SetQuantifier.{SetQuantifier}
use Rattle.sq_tree.specs.declared.expr.SetQuantifier.TheVariants.{All, Distinct}
use Rattle.sq_tree.specs.declared.expr.Primary.{Primary, Primary-F}
use Rattle.sq_tree.specs.declared.expr.Primary.TheOpen as layer
use Rattle.sq_tree.specs.declared.expr.Expr.{Expr as SpelledExpr, Expr-F}
use Rattle.sq_tree.specs.declared.expr.Term.{Term, Term-F}
use Rattle.sq_tree.specs.declared.expr.Factor.{Factor, Factor-F}
use Rattle.sq_tree.specs.declared.expr.Added.{Added, Added-F}
use Rattle.sq_tree.specs.declared.expr.Scaled.{Scaled, Scaled-F}
use Rattle.sq_tree.specs.declared.cond.Comparison.{Comparison}
use Rattle.sq_tree.specs.declared.cond.Quantifier.{Quantifier}
use Rattle.sq_tree.specs.declared.cond.TableReference.{TableReference as SpelledReference}
use Rattle.sq_tree.specs.declared.cond.SelectList.{SelectList as SpelledList}
use Rattle.sq_tree.specs.declared.cond.SelectList.TheVariants.{Star, Items}
use Rattle.sq_tree.specs.declared.cond.Body.{Body, Body-F}
use Rattle.sq_tree.specs.declared.cond.Body.TheOpen as level
use Rattle.sq_tree.specs.declared.cond.Tail.{Tail, Tail-F}
use Rattle.sq_tree.specs.declared.cond.Cond.{Cond as SpelledCond, Cond-F}
use Rattle.sq_tree.specs.declared.cond.Conj.{Conj, Conj-F}
use Rattle.sq_tree.specs.declared.cond.Test.{Test, Test-F}
use Rattle.sq_tree.specs.declared.cond.TableExpression.{TableExpression, TableExpression-F}
use Rattle.sq_tree.specs.declared.cond.QuerySpecification.{QuerySpecification, QuerySpecification-F}
use Rattle.sq_tree.specs.declared.query.QueryTerm.{QueryTerm, QueryTerm-F}
use Rattle.sq_tree.specs.declared.query.QueryTerm.TheOpen as query_term
use Rattle.sq_tree.specs.declared.query.Query.{Query as SpelledQuery, Query-F}
use Rattle.sq_tree.specs.declared.query.UnionTerm.{UnionTerm, UnionTerm-F}
use Rattle.sq_tree.specs.declared.expr.Primary.TheBlock.{the_members as ExprPart, the_bodies as expr_bodies, the_fold as expr_fold, member-Primary, member-Added, member-Expr, member-Factor, member-Scaled, member-Term}
use Rattle.sq_tree.specs.declared.expr.Primary.TheFolds.{family as expr_family, steps as expr_steps}
use Rattle.sq_tree.specs.declared.cond.Body.TheBlock.{the_members as CondPart, the_bodies as cond_bodies, the_fold as cond_fold, member-Body, member-Tail, member-Cond, member-Conj, member-QuerySpecification, member-TableExpression, member-Test}
use Rattle.sq_tree.specs.declared.cond.Body.TheFolds.{family as cond_family, steps as cond_steps}
use Rattle.sq_tree.specs.declared.query.QueryTerm.TheBlock.{the_members as QueryPart, the_bodies as query_bodies, the_fold as query_fold, member-QueryTerm, member-Query, member-UnionTerm}
use Rattle.sq_tree.specs.declared.query.QueryTerm.TheFolds.{family as query_family, steps as query_steps}
use Rattle.sq_meaning.specs.Syntax.{Naming, Expr, literal, parameter, user, column, count_rows, set_function, signed, added, scaled, bracketed, SelectList, all_columns, expressions, Cond, Clause, Select, compare, compare_subquery, compare_quantified, between, in_subquery, in_list, like, is_null, exists, negated, conjunction, disjunction, absent, present, select, conds, Query, specification, union}
use Rattle.sq_meaning.specs.Environment.{TableName, TableReference, Item}

-- columns and parameters by their names, as they are spelled; tables by their users and names
abbrev pub Named : Naming
Named = record { Column = ColumnReference; Parameter = Parameter; Table = TableReference; Item = Item }

abbrev pub listed : {A : Type 0} → CommaList A → List A
listed list = list.first ∷ list.rest

abbrev pub listed_if_any : {A : Type 0} → Option (CommaList A) → List A
listed_if_any None = []
listed_if_any (Some list) = listed list

-- the table that a name means to a user
abbrev pub table_of : Name → SpelledTable → TableName
table_of own t = record { user = unwrap_or t.schema own; name = t.table }

-- ---- numbers and types

abbrev pub zero_number : Number
zero_number = record { unscaled = pos 0; scale = 0 }

-- the number of a literal (5.3); the lexer reads only spellings of numbers
abbrev pub spelled_number : List ℕ → Number
spelled_number spelling = result_unwrap_or (read spelling) zero_number

abbrev pub has_point : List ℕ → Bool
has_point spelling = list_any is_point spelling

abbrev pub signed_by : Option Sign → Number → Number
signed_by None n = n
signed_by (Some Plus) n = n
signed_by (Some Minus) n = negated_number n

abbrev pub number_with_sign : SignedNumber → Number
number_with_sign n = signed_by n.sign (spelled_number n.number)

-- the whole number that a precision, a scale or a length is, if it is written without a point
abbrev pub spelled_whole : List ℕ → Option ℕ
spelled_whole spelling =
    if has_point spelling then None else Some (unsigned_abs (spelled_number spelling).unscaled)

-- a precision is from 1 to 18 and 18 if it is omitted, a scale at most that and 0 if it is omitted (own rule)
abbrev pub exact_domain : Option ℕ → Option ℕ → Option Domain
exact_domain (Some p) (Some s) =
    if nat_le 1 p && nat_le p 18 && nat_le s p then Some (domain.Numeric p s) else None
exact_domain _ _ = None

abbrev pub scale_of : Option (List ℕ) → Option ℕ
scale_of None = Some 0
scale_of (Some spelling) = spelled_whole spelling

abbrev pub domain_of_precision : Option Precision → Option Domain
domain_of_precision None = Some (domain.Numeric 18 0)
domain_of_precision (Some p) = exact_domain (spelled_whole p.precision) (scale_of p.scale)

-- a length is from 1 to 240 (own rule)
abbrev pub text_domain : (ℕ → Domain) → Option ℕ → Option Domain
text_domain texts None = None
text_domain texts (Some n) = if nat_le 1 n && nat_le n 240 then Some (texts n) else None

-- the length of CHAR is 1
abbrev pub length_of : Option (List ℕ) → Option ℕ
length_of None = Some 1
length_of (Some spelling) = spelled_whole spelling

-- the domain of a data type (6.1); none if its precision, scale or length is none
abbrev pub domain_of : DataType → Option Domain
domain_of data_type.Smallint = Some domain.Small
domain_of data_type.Integer = Some domain.Int
domain_of data_type.Int = Some domain.Int
domain_of (data_type.Exact word precision) = domain_of_precision precision
domain_of (data_type.Character word length) = text_domain domain.Char (length_of length)
domain_of (data_type.Varying word length) = text_domain domain.VarChar (spelled_whole length)

-- ---- value expressions

abbrev pub is_distinct_word : Option SetQuantifier → Bool
is_distinct_word (Some Distinct) = true
is_distinct_word (Some All) = false
is_distinct_word None = false

abbrev E : Type 0
E = Expr Named

-- One level of a tree, with each part seen already.

abbrev primary_level : Primary-F E (Sign × E) E E (TimesSign × E) E → E
primary_level (layer.Number n) = literal (value.Num (spelled_number n))
primary_level (layer.Text characters) = literal (value.Chars characters)
primary_level (layer.Parameter p) = parameter p
primary_level layer.User = user
primary_level (layer.Column c) = column c
primary_level layer.CountRows = count_rows
primary_level (layer.SetFunction function quantifier operand) =
    set_function function (is_distinct_word quantifier) operand
primary_level (layer.Bracketed e) = bracketed e

abbrev pub with_sign_if : Option Sign → Expr Named → Expr Named
with_sign_if None e = e
with_sign_if (Some sign) e = signed sign e

abbrev factor_level : Factor-F E (Sign × E) E E (TimesSign × E) E → E
factor_level f = with_sign_if f.sign f.primary

abbrev term_level : Term-F E (Sign × E) E E (TimesSign × E) E → E
term_level t = fold (λ left s. scaled s.0 left s.1) t.first t.rest

abbrev expr_level : Expr-F E (Sign × E) E E (TimesSign × E) E → E
expr_level e = fold (λ left s. added s.0 left s.1) e.first e.rest

abbrev added_level : Added-F E (Sign × E) E E (TimesSign × E) E → Sign × E
added_level a = (a.sign, a.term)

abbrev scaled_level : Scaled-F E (Sign × E) E E (TimesSign × E) E → TimesSign × E
scaled_level s = (s.sign, s.factor)

-- the form in which each part of an expression is seen, and all levels. The fold over them computes; the generated
-- `fold-Expr` is the same function, but shut.
abbrev pub ExprSeen : ExprPart → Type 0
ExprSeen = expr_family E (Sign × E) E E (TimesSign × E) E

abbrev pub expr_levels : (part : ExprPart) → (expr_bodies part).Of ExprSeen → ExprSeen part
expr_levels =
    expr_steps E (Sign × E) E E (TimesSign × E) E primary_level added_level expr_level factor_level
    scaled_level term_level

-- the value expression that a text spells, and its parts
unfoldable pub expr_of : SpelledExpr → Expr Named
expr_of = expr_fold ExprSeen expr_levels member-Expr

unfoldable pub term_of : Term → Expr Named
term_of = expr_fold ExprSeen expr_levels member-Term

unfoldable pub factor_of : Factor → Expr Named
factor_of = expr_fold ExprSeen expr_levels member-Factor

unfoldable pub primary_of : Primary → Expr Named
primary_of = expr_fold ExprSeen expr_levels member-Primary

unfoldable pub added_of : Added → Sign × Expr Named
added_of = expr_fold ExprSeen expr_levels member-Added

unfoldable pub scaled_of : Scaled → TimesSign × Expr Named
scaled_of = expr_fold ExprSeen expr_levels member-Scaled

-- ---- search conditions and query specifications

-- a table as FROM refers to it
abbrev pub reference_of : Name → SpelledReference → TableReference
reference_of own t = record {
  table = table_of own t.table;
  correlation = option_map (λ c. c.name) t.correlation;
}

abbrev pub list_of : SpelledList → SelectList Named
list_of Star = all_columns
list_of (Items list) = expressions (map expr_of (listed list))

abbrev C : Type 0
C = Cond Named

abbrev S : Type 0
S = Select Named

-- a table expression waits for the parts before it
abbrev T : Type 0
T = Bool → SelectList Named → S

abbrev pub not_if : Bool → C → C
not_if written c = if written then negated c else c

abbrev pub clause : Option C → Clause Named
clause None = absent
clause (Some c) = present c

abbrev pub compared_with : Option Quantifier → Comparison → E → S → C
compared_with None op left q = compare_subquery op left q
compared_with (Some k) op left q = compare_quantified op k left q

abbrev body_level : Body-F C (E → C) C C S T C → C
body_level (level.Predicate left predicate) = predicate (expr_of left)
body_level (level.Exists q) = exists q
body_level (level.Bracketed c) = c

-- a predicate waits for its left expression
abbrev tail_level : Tail-F C (E → C) C C S T C → E → C
tail_level (level.Compare op right) left = compare op left (expr_of right)
tail_level (level.CompareQuery op k q) left = compared_with k op left q
tail_level (level.Between written low high) left = not_if written (between left (expr_of low) (expr_of high))
tail_level (level.InQuery written q) left = not_if written (in_subquery left q)
tail_level (level.InList written values) left = not_if written (in_list left (map expr_of (listed values)))
tail_level (level.Like written pattern escape) left =
    not_if written (like left (expr_of pattern) (option_map expr_of escape))
tail_level (level.Null written) left = not_if written (is_null left)

abbrev test_level : Test-F C (E → C) C C S T C → C
test_level t = not_if t.negated t.body

abbrev conj_level : Conj-F C (E → C) C C S T C → C
conj_level c = conjunction (conds (c.first ∷ c.rest))

abbrev cond_level : Cond-F C (E → C) C C S T C → C
cond_level c = disjunction (conds (c.first ∷ c.rest))

abbrev table_expression_level : Name → TableExpression-F C (E → C) C C S T C → T
table_expression_level own t distinct list =
    select distinct list (map (reference_of own) (listed t.from)) (clause t.where_clause)
    (listed_if_any t.group_by) (clause t.having)

abbrev query_specification_level : QuerySpecification-F C (E → C) C C S T C → S
query_specification_level q = q.table (is_distinct_word q.quantifier) (list_of q.list)

abbrev pub CondSeen : CondPart → Type 0
CondSeen = cond_family C (E → C) C C S T C

abbrev pub cond_levels : Name → (part : CondPart) → (cond_bodies part).Of CondSeen → CondSeen part
cond_levels own =
    cond_steps C (E → C) C C S T C body_level tail_level cond_level conj_level query_specification_level
    (table_expression_level own) test_level

-- the search condition that a text of this user spells, and its parts
unfoldable pub cond_of : Name → SpelledCond → Cond Named
cond_of own = cond_fold CondSeen (cond_levels own) member-Cond

unfoldable pub conj_of : Name → Conj → Cond Named
conj_of own = cond_fold CondSeen (cond_levels own) member-Conj

unfoldable pub test_of : Name → Test → Cond Named
test_of own = cond_fold CondSeen (cond_levels own) member-Test

unfoldable pub body_of : Name → Body → Cond Named
body_of own = cond_fold CondSeen (cond_levels own) member-Body

unfoldable pub tail_of : Name → Tail → Expr Named → Cond Named
tail_of own = cond_fold CondSeen (cond_levels own) member-Tail

-- the query specification, and its table expression
unfoldable pub select_of : Name → QuerySpecification → Select Named
select_of own = cond_fold CondSeen (cond_levels own) member-QuerySpecification

unfoldable pub table_expression_of : Name → TableExpression → Bool → SelectList Named → Select Named
table_expression_of own = cond_fold CondSeen (cond_levels own) member-TableExpression

-- a query specification by its parts, as SELECT INTO has them
abbrev pub select_of_parts : Name → Option SetQuantifier → SpelledList → TableExpression → Select Named
select_of_parts own quantifier list table =
    table_expression_of own table (is_distinct_word quantifier) (list_of list)

-- ---- query expressions

abbrev Q : Type 0
Q = Query Named

abbrev query_term_level : Name → QueryTerm-F Q Q (Bool × Q) → Q
query_term_level own (query_term.Specification q) = specification (select_of own q)
query_term_level own (query_term.Bracketed q) = q

abbrev union_term_level : UnionTerm-F Q Q (Bool × Q) → Bool × Q
union_term_level u = (u.all, u.term)

abbrev query_level : Query-F Q Q (Bool × Q) → Q
query_level q = fold (λ left u. union u.0 left u.1) q.first q.rest

abbrev pub QuerySeen : QueryPart → Type 0
QuerySeen = query_family Q Q (Bool × Q)

abbrev pub query_levels : Name → (part : QueryPart) → (query_bodies part).Of QuerySeen → QuerySeen part
query_levels own = query_steps Q Q (Bool × Q) (query_term_level own) query_level union_term_level

-- the query expression that a text of this user spells, and its parts
unfoldable pub query_of : Name → SpelledQuery → Query Named
query_of own = query_fold QuerySeen (query_levels own) member-Query

unfoldable pub query_term_of : Name → QueryTerm → Query Named
query_term_of own = query_fold QuerySeen (query_levels own) member-QueryTerm

unfoldable pub union_term_of : Name → UnionTerm → Bool × Query Named
union_term_of own = query_fold QuerySeen (query_levels own) member-UnionTerm
