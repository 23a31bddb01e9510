-- The tokens and the depth of one level of a search condition or a query specification, from its parts.
use Rattle.std.proofs.Common.{◌≡◌, ◌+◌, max, Bool, List, [], ◌∷◌, ◌++◌, Option, Some, None, refl, sym, ◌∙◌, ap, map, subst}
use Rattle.std.specs.List.{flat_map}
use Rattle.std.proofs.lemmas.List.Folds.{flat_map-map}
use Rattle.sq_lex.specs.declared.lexeme.Lexeme.TheVariants as lexeme
use Rattle.sq_lex.specs.declared.word.Word.TheVariants as word
use Rattle.sq_tree.specs.Tree.{Tokens, optional, bracketed}
use Rattle.sq_tree.proofs.TreeDepth.{optional_depth, greatest}
use Rattle.sq_tree.specs.List.{comma_tokens}
use Rattle.sq_tree.proofs.ListDepth.{comma_depth}
use Rattle.sq_tree.specs.Expr.{expr_tokens, quantifier_tokens}
use Rattle.sq_tree.proofs.ExprDepth.{expr_depth}
use Rattle.sq_tree.specs.Cond.{cond_tokens, conj_tokens, test_tokens, body_tokens, tail_tokens, table_expression_tokens, query_specification_tokens, or_tokens, and_tokens, not_tokens, comparison_token, compared_tokens, escape_tokens, where_tokens, having_tokens, group_by_tokens, table_reference_tokens, select_list_tokens}
use Rattle.sq_tree.proofs.CondDepth.{cond_depth, conj_depth, test_depth, body_depth, tail_depth, table_expression_depth, query_specification_depth, select_list_depth}
use Rattle.sq_tree.specs.declared.list.CommaList.{CommaList}
use Rattle.sq_tree.specs.declared.names.ColumnReference.{ColumnReference}
use Rattle.sq_tree.specs.declared.cond.TableReference.{TableReference}
use Rattle.sq_tree.specs.declared.expr.SetQuantifier.{SetQuantifier}
use Rattle.sq_tree.specs.declared.cond.SelectList.{SelectList}
use Rattle.sq_tree.specs.declared.expr.Expr.{Expr}
use Rattle.sq_tree.specs.declared.cond.Comparison.{Comparison}
use Rattle.sq_tree.specs.declared.cond.Quantifier.{Quantifier}
use Rattle.sq_tree.specs.declared.cond.Cond.{Cond, out-Cond, fold_out-Cond, roll-Cond, out-roll-Cond}
use Rattle.sq_tree.specs.declared.cond.Conj.{Conj, out-Conj, fold_out-Conj, roll-Conj, out-roll-Conj}
use Rattle.sq_tree.specs.declared.cond.Test.{Test, fold_out-Test}
use Rattle.sq_tree.specs.declared.cond.TableExpression.{TableExpression, out-TableExpression, fold-roll-TableExpression, roll-TableExpression, roll-out-TableExpression}
use Rattle.sq_tree.specs.declared.cond.QuerySpecification.{QuerySpecification, out-QuerySpecification, fold_out-QuerySpecification, roll-QuerySpecification, out-roll-QuerySpecification}
use Rattle.sq_tree.specs.declared.cond.Body.{Body, Body-F, fold-roll-Body, out-Body, roll-Body, roll-out-Body}
use Rattle.sq_tree.specs.declared.cond.Body.TheVariants as body
use Rattle.sq_tree.specs.declared.cond.Body.TheOpen as layer
use Rattle.sq_tree.specs.declared.cond.Tail.{Tail, Tail-F, fold-roll-Tail, out-Tail, roll-Tail, roll-out-Tail}
use Rattle.sq_tree.specs.declared.cond.Tail.TheVariants as tail

-- a further term of a condition: OR conj
abbrev pub or_conj : Conj → Tokens
or_conj c = or_tokens (conj_tokens c)

-- a further test of a conjunction: AND test
abbrev pub and_test : Test → Tokens
and_test t = and_tokens (test_tokens t)

-- WHERE cond
abbrev pub where_cond : Cond → Tokens
where_cond c = where_tokens (cond_tokens c)

-- HAVING cond
abbrev pub having_cond : Cond → Tokens
having_cond c = having_tokens (cond_tokens c)

pub cond_tokens-out : (c : Cond) → cond_tokens c ≡ conj_tokens (out-Cond c).first ++ flat_map or_conj (out-Cond c).rest
unfolding cond_tokens conj_tokens
cond_tokens-out c = fold_out-Cond _ _ _ _ _ _ _ _ _ _ _ _ _ _ c ∙ ap (λ ts. conj_tokens (out-Cond c).first ++ ts) (flat_map-map or_tokens conj_tokens (out-Cond c).rest)

pub conj_tokens-out : (c : Conj) → conj_tokens c ≡ test_tokens (out-Conj c).first ++ flat_map and_test (out-Conj c).rest
unfolding conj_tokens test_tokens
conj_tokens-out c = fold_out-Conj _ _ _ _ _ _ _ _ _ _ _ _ _ _ c ∙ ap (λ ts. test_tokens (out-Conj c).first ++ ts) (flat_map-map and_tokens test_tokens (out-Conj c).rest)

pub test_tokens-out : (t : Test) → test_tokens t ≡ not_tokens t.negated ++ body_tokens t.body
unfolding test_tokens body_tokens
test_tokens-out t = fold_out-Test _ _ _ _ _ _ _ _ _ _ _ _ _ _ t

pub table_expression_tokens-roll : (f : CommaList TableReference) (w : Option Cond) (g : Option (CommaList ColumnReference)) (h : Option Cond) → table_expression_tokens (roll-TableExpression (record { from = f; where_clause = w; group_by = g; having = h })) ≡ lexeme.Word word.From ∷ comma_tokens table_reference_tokens f ++ optional where_cond w ++ optional group_by_tokens g ++ optional having_cond h
unfolding table_expression_tokens cond_tokens
table_expression_tokens-roll f None g None = fold-roll-TableExpression _ _ _ _ _ _ _ _ _ _ _ _ _ _ _
table_expression_tokens-roll f None g (Some h) = fold-roll-TableExpression _ _ _ _ _ _ _ _ _ _ _ _ _ _ _
table_expression_tokens-roll f (Some w) g None = fold-roll-TableExpression _ _ _ _ _ _ _ _ _ _ _ _ _ _ _
table_expression_tokens-roll f (Some w) g (Some h) = fold-roll-TableExpression _ _ _ _ _ _ _ _ _ _ _ _ _ _ _

pub table_expression_tokens-out : (t : TableExpression) → table_expression_tokens t ≡ lexeme.Word word.From ∷ comma_tokens table_reference_tokens (out-TableExpression t).from ++ optional where_cond (out-TableExpression t).where_clause ++ optional group_by_tokens (out-TableExpression t).group_by ++ optional having_cond (out-TableExpression t).having
table_expression_tokens-out t = ap table_expression_tokens (sym (roll-out-TableExpression t)) ∙ table_expression_tokens-roll (out-TableExpression t).from (out-TableExpression t).where_clause (out-TableExpression t).group_by (out-TableExpression t).having

pub query_specification_tokens-out : (s : QuerySpecification) → query_specification_tokens s ≡ lexeme.Word word.Select ∷ optional quantifier_tokens (out-QuerySpecification s).quantifier ++ select_list_tokens (out-QuerySpecification s).list ++ table_expression_tokens (out-QuerySpecification s).table
unfolding query_specification_tokens table_expression_tokens
query_specification_tokens-out s = fold_out-QuerySpecification _ _ _ _ _ _ _ _ _ _ _ _ _ _ s

pub body_tokens-Predicate : (e : Expr) (t : Tail) → body_tokens (body.Predicate e t) ≡ expr_tokens e ++ tail_tokens t
unfolding body_tokens tail_tokens
body_tokens-Predicate e t = ap body_tokens (sym (body.rolls-Predicate e t)) ∙ fold-roll-Body _ _ _ _ _ _ _ _ _ _ _ _ _ _ (layer.Predicate e t)

pub body_tokens-Exists : (q : QuerySpecification) → body_tokens (body.Exists q) ≡ lexeme.Word word.Exists ∷ bracketed (query_specification_tokens q)
unfolding body_tokens query_specification_tokens
body_tokens-Exists q = ap body_tokens (sym (body.rolls-Exists q)) ∙ fold-roll-Body _ _ _ _ _ _ _ _ _ _ _ _ _ _ (layer.Exists q)

pub body_tokens-Bracketed : (c : Cond) → body_tokens (body.Bracketed c) ≡ bracketed (cond_tokens c)
unfolding body_tokens cond_tokens
body_tokens-Bracketed c = ap body_tokens (sym (body.rolls-Bracketed c)) ∙ fold-roll-Body _ _ _ _ _ _ _ _ _ _ _ _ _ _ (layer.Bracketed c)

pub tail_tokens-Compare : (op : Comparison) (e : Expr) → tail_tokens (tail.Compare op e) ≡ comparison_token op ∷ expr_tokens e
unfolding tail_tokens
tail_tokens-Compare op e = ap tail_tokens (sym (tail.rolls-Compare op e)) ∙ fold-roll-Tail _ _ _ _ _ _ _ _ _ _ _ _ _ _ (layer.Compare op e)

pub tail_tokens-CompareQuery : (op : Comparison) (q : Option Quantifier) (s : QuerySpecification) → tail_tokens (tail.CompareQuery op q s) ≡ comparison_token op ∷ optional compared_tokens q ++ bracketed (query_specification_tokens s)
unfolding tail_tokens query_specification_tokens
tail_tokens-CompareQuery op q s = ap tail_tokens (sym (tail.rolls-CompareQuery op q s)) ∙ fold-roll-Tail _ _ _ _ _ _ _ _ _ _ _ _ _ _ (layer.CompareQuery op q s)

pub tail_tokens-Between : (n : Bool) (low high : Expr) → tail_tokens (tail.Between n low high) ≡ not_tokens n ++ lexeme.Word word.Between ∷ expr_tokens low ++ lexeme.Word word.And ∷ expr_tokens high
unfolding tail_tokens
tail_tokens-Between n low high = ap tail_tokens (sym (tail.rolls-Between n low high)) ∙ fold-roll-Tail _ _ _ _ _ _ _ _ _ _ _ _ _ _ (layer.Between n low high)

pub tail_tokens-InQuery : (n : Bool) (s : QuerySpecification) → tail_tokens (tail.InQuery n s) ≡ not_tokens n ++ lexeme.Word word.In ∷ bracketed (query_specification_tokens s)
unfolding tail_tokens query_specification_tokens
tail_tokens-InQuery n s = ap tail_tokens (sym (tail.rolls-InQuery n s)) ∙ fold-roll-Tail _ _ _ _ _ _ _ _ _ _ _ _ _ _ (layer.InQuery n s)

pub tail_tokens-InList : (n : Bool) (es : CommaList Expr) → tail_tokens (tail.InList n es) ≡ not_tokens n ++ lexeme.Word word.In ∷ bracketed (comma_tokens expr_tokens es)
unfolding tail_tokens
tail_tokens-InList n es = ap tail_tokens (sym (tail.rolls-InList n es)) ∙ fold-roll-Tail _ _ _ _ _ _ _ _ _ _ _ _ _ _ (layer.InList n es)

pub tail_tokens-Like : (n : Bool) (p : Expr) (e : Option Expr) → tail_tokens (tail.Like n p e) ≡ not_tokens n ++ lexeme.Word word.Like ∷ expr_tokens p ++ optional escape_tokens e
unfolding tail_tokens
tail_tokens-Like n p e = ap tail_tokens (sym (tail.rolls-Like n p e)) ∙ fold-roll-Tail _ _ _ _ _ _ _ _ _ _ _ _ _ _ (layer.Like n p e)

pub tail_tokens-Null : (n : Bool) → tail_tokens (tail.Null n) ≡ lexeme.Word word.Is ∷ not_tokens n ++ lexeme.Word word.Null ∷ []
unfolding tail_tokens
tail_tokens-Null n = ap tail_tokens (sym (tail.rolls-Null n)) ∙ fold-roll-Tail _ _ _ _ _ _ _ _ _ _ _ _ _ _ (layer.Null n)

pub cond_depth-out : (c : Cond) → cond_depth c ≡ max (conj_depth (out-Cond c).first) (greatest (map conj_depth (out-Cond c).rest))
unfolding cond_depth conj_depth
cond_depth-out c = fold_out-Cond _ _ _ _ _ _ _ _ _ _ _ _ _ _ c

pub conj_depth-out : (c : Conj) → conj_depth c ≡ max (test_depth (out-Conj c).first) (greatest (map test_depth (out-Conj c).rest))
unfolding conj_depth test_depth
conj_depth-out c = fold_out-Conj _ _ _ _ _ _ _ _ _ _ _ _ _ _ c

pub test_depth-out : (t : Test) → test_depth t ≡ body_depth t.body
unfolding test_depth body_depth
test_depth-out t = fold_out-Test _ _ _ _ _ _ _ _ _ _ _ _ _ _ t

pub table_expression_depth-roll : (f : CommaList TableReference) (w : Option Cond) (g : Option (CommaList ColumnReference)) (h : Option Cond) → table_expression_depth (roll-TableExpression (record { from = f; where_clause = w; group_by = g; having = h })) ≡ max (optional_depth cond_depth w) (optional_depth cond_depth h)
unfolding table_expression_depth cond_depth
table_expression_depth-roll f None g None = fold-roll-TableExpression _ _ _ _ _ _ _ _ _ _ _ _ _ _ _
table_expression_depth-roll f None g (Some h) = fold-roll-TableExpression _ _ _ _ _ _ _ _ _ _ _ _ _ _ _
table_expression_depth-roll f (Some w) g None = fold-roll-TableExpression _ _ _ _ _ _ _ _ _ _ _ _ _ _ _
table_expression_depth-roll f (Some w) g (Some h) = fold-roll-TableExpression _ _ _ _ _ _ _ _ _ _ _ _ _ _ _

pub table_expression_depth-out : (t : TableExpression) → table_expression_depth t ≡ max (optional_depth cond_depth (out-TableExpression t).where_clause) (optional_depth cond_depth (out-TableExpression t).having)
table_expression_depth-out t = ap table_expression_depth (sym (roll-out-TableExpression t)) ∙ table_expression_depth-roll (out-TableExpression t).from (out-TableExpression t).where_clause (out-TableExpression t).group_by (out-TableExpression t).having

pub query_specification_depth-out : (s : QuerySpecification) → query_specification_depth s ≡ max (select_list_depth (out-QuerySpecification s).list) (table_expression_depth (out-QuerySpecification s).table)
unfolding query_specification_depth table_expression_depth
query_specification_depth-out s = fold_out-QuerySpecification _ _ _ _ _ _ _ _ _ _ _ _ _ _ s

pub body_depth-Predicate : (e : Expr) (t : Tail) → body_depth (body.Predicate e t) ≡ max (expr_depth e) (tail_depth t)
unfolding body_depth tail_depth
body_depth-Predicate e t = ap body_depth (sym (body.rolls-Predicate e t)) ∙ fold-roll-Body _ _ _ _ _ _ _ _ _ _ _ _ _ _ (layer.Predicate e t)

pub body_depth-Exists : (q : QuerySpecification) → body_depth (body.Exists q) ≡ query_specification_depth q + 1
unfolding body_depth query_specification_depth
body_depth-Exists q = ap body_depth (sym (body.rolls-Exists q)) ∙ fold-roll-Body _ _ _ _ _ _ _ _ _ _ _ _ _ _ (layer.Exists q)

pub body_depth-Bracketed : (c : Cond) → body_depth (body.Bracketed c) ≡ cond_depth c + 1
unfolding body_depth cond_depth
body_depth-Bracketed c = ap body_depth (sym (body.rolls-Bracketed c)) ∙ fold-roll-Body _ _ _ _ _ _ _ _ _ _ _ _ _ _ (layer.Bracketed c)

pub tail_depth-Compare : (op : Comparison) (e : Expr) → tail_depth (tail.Compare op e) ≡ expr_depth e
unfolding tail_depth
tail_depth-Compare op e = ap tail_depth (sym (tail.rolls-Compare op e)) ∙ fold-roll-Tail _ _ _ _ _ _ _ _ _ _ _ _ _ _ (layer.Compare op e)

pub tail_depth-CompareQuery : (op : Comparison) (q : Option Quantifier) (s : QuerySpecification) → tail_depth (tail.CompareQuery op q s) ≡ query_specification_depth s + 1
unfolding tail_depth query_specification_depth
tail_depth-CompareQuery op q s = ap tail_depth (sym (tail.rolls-CompareQuery op q s)) ∙ fold-roll-Tail _ _ _ _ _ _ _ _ _ _ _ _ _ _ (layer.CompareQuery op q s)

pub tail_depth-Between : (n : Bool) (low high : Expr) → tail_depth (tail.Between n low high) ≡ max (expr_depth low) (expr_depth high)
unfolding tail_depth
tail_depth-Between n low high = ap tail_depth (sym (tail.rolls-Between n low high)) ∙ fold-roll-Tail _ _ _ _ _ _ _ _ _ _ _ _ _ _ (layer.Between n low high)

pub tail_depth-InQuery : (n : Bool) (s : QuerySpecification) → tail_depth (tail.InQuery n s) ≡ query_specification_depth s + 1
unfolding tail_depth query_specification_depth
tail_depth-InQuery n s = ap tail_depth (sym (tail.rolls-InQuery n s)) ∙ fold-roll-Tail _ _ _ _ _ _ _ _ _ _ _ _ _ _ (layer.InQuery n s)

pub tail_depth-InList : (n : Bool) (es : CommaList Expr) → tail_depth (tail.InList n es) ≡ comma_depth expr_depth es + 1
unfolding tail_depth
tail_depth-InList n es = ap tail_depth (sym (tail.rolls-InList n es)) ∙ fold-roll-Tail _ _ _ _ _ _ _ _ _ _ _ _ _ _ (layer.InList n es)

pub tail_depth-Like : (n : Bool) (p : Expr) (e : Option Expr) → tail_depth (tail.Like n p e) ≡ max (expr_depth p) (optional_depth expr_depth e)
unfolding tail_depth
tail_depth-Like n p e = ap tail_depth (sym (tail.rolls-Like n p e)) ∙ fold-roll-Tail _ _ _ _ _ _ _ _ _ _ _ _ _ _ (layer.Like n p e)

pub tail_depth-Null : (n : Bool) → tail_depth (tail.Null n) ≡ 0
unfolding tail_depth
tail_depth-Null n = ap tail_depth (sym (tail.rolls-Null n)) ∙ fold-roll-Tail _ _ _ _ _ _ _ _ _ _ _ _ _ _ (layer.Null n)

pub ruleset cond_tokens_levels = (cond_tokens-out, conj_tokens-out, test_tokens-out, table_expression_tokens-out, query_specification_tokens-out, body_tokens-Predicate, body_tokens-Exists, body_tokens-Bracketed, tail_tokens-Compare, tail_tokens-CompareQuery, tail_tokens-Between, tail_tokens-InQuery, tail_tokens-InList, tail_tokens-Like, tail_tokens-Null)

pub ruleset cond_depth_levels = (cond_depth-out, conj_depth-out, test_depth-out, table_expression_depth-out, query_specification_depth-out, body_depth-Predicate, body_depth-Exists, body_depth-Bracketed, tail_depth-Compare, tail_depth-CompareQuery, tail_depth-Between, tail_depth-InQuery, tail_depth-InList, tail_depth-Like, tail_depth-Null)

-- The tokens and depths of a tree that is put together from its parts.

pub cond_tokens-roll : (c : Conj) (rest : List Conj) → cond_tokens (roll-Cond (record { first = c; rest = rest })) ≡ conj_tokens c ++ flat_map or_conj rest
cond_tokens-roll c rest = cond_tokens-out _ ∙ rw out-roll-Cond refl

pub conj_tokens-roll : (t : Test) (rest : List Test) → conj_tokens (roll-Conj (record { first = t; rest = rest })) ≡ test_tokens t ++ flat_map and_test rest
conj_tokens-roll t rest = conj_tokens-out _ ∙ rw out-roll-Conj refl

pub query_specification_tokens-roll : (q : Option SetQuantifier) (list : SelectList) (t : TableExpression) → query_specification_tokens (roll-QuerySpecification (record { quantifier = q; list = list; table = t })) ≡ lexeme.Word word.Select ∷ optional quantifier_tokens q ++ select_list_tokens list ++ table_expression_tokens t
query_specification_tokens-roll q list t = query_specification_tokens-out _ ∙ rw out-roll-QuerySpecification refl

pub cond_depth-roll : (c : Conj) (rest : List Conj) → cond_depth (roll-Cond (record { first = c; rest = rest })) ≡ max (conj_depth c) (greatest (map conj_depth rest))
cond_depth-roll c rest = cond_depth-out _ ∙ rw out-roll-Cond refl

pub conj_depth-roll : (t : Test) (rest : List Test) → conj_depth (roll-Conj (record { first = t; rest = rest })) ≡ max (test_depth t) (greatest (map test_depth rest))
conj_depth-roll t rest = conj_depth-out _ ∙ rw out-roll-Conj refl

pub query_specification_depth-roll : (q : Option SetQuantifier) (list : SelectList) (t : TableExpression) → query_specification_depth (roll-QuerySpecification (record { quantifier = q; list = list; table = t })) ≡ max (select_list_depth list) (table_expression_depth t)
query_specification_depth-roll q list t = query_specification_depth-out _ ∙ rw out-roll-QuerySpecification refl

-- What holds of each kind holds of all.
pub body_cases : (P : Body → Type 0)
    → ((e : Expr) (t : Tail) → P (body.Predicate e t))
    → ((q : QuerySpecification) → P (body.Exists q))
    → ((c : Cond) → P (body.Bracketed c))
    → (b : Body) → P b
body_cases P predicate exist bracket b = subst P (roll-out-Body b) (go (out-Body b))
  where
    go : (x : Body-F Body Tail Cond Conj QuerySpecification TableExpression Test) → P (roll-Body x)
    go (layer.Predicate e t) = subst P (sym (body.rolls-Predicate e t)) (predicate e t)
    go (layer.Exists q) = subst P (sym (body.rolls-Exists q)) (exist q)
    go (layer.Bracketed c) = subst P (sym (body.rolls-Bracketed c)) (bracket c)

pub tail_cases : (P : Tail → Type 0)
    → ((op : Comparison) (e : Expr) → P (tail.Compare op e))
    → ((op : Comparison) (q : Option Quantifier) (s : QuerySpecification) → P (tail.CompareQuery op q s))
    → ((n : Bool) (low high : Expr) → P (tail.Between n low high))
    → ((n : Bool) (s : QuerySpecification) → P (tail.InQuery n s))
    → ((n : Bool) (es : CommaList Expr) → P (tail.InList n es))
    → ((n : Bool) (p : Expr) (e : Option Expr) → P (tail.Like n p e))
    → ((n : Bool) → P (tail.Null n))
    → (t : Tail) → P t
tail_cases P compare compare_query between in_query in_list like null t = subst P (roll-out-Tail t) (go (out-Tail t))
  where
    go : (x : Tail-F Body Tail Cond Conj QuerySpecification TableExpression Test) → P (roll-Tail x)
    go (layer.Compare op e) = subst P (sym (tail.rolls-Compare op e)) (compare op e)
    go (layer.CompareQuery op q s) = subst P (sym (tail.rolls-CompareQuery op q s)) (compare_query op q s)
    go (layer.Between n low high) = subst P (sym (tail.rolls-Between n low high)) (between n low high)
    go (layer.InQuery n s) = subst P (sym (tail.rolls-InQuery n s)) (in_query n s)
    go (layer.InList n es) = subst P (sym (tail.rolls-InList n es)) (in_list n es)
    go (layer.Like n p e) = subst P (sym (tail.rolls-Like n p e)) (like n p e)
    go (layer.Null n) = subst P (sym (tail.rolls-Null n)) (null n)
