-- The set functions of well-formed expressions, conditions and clauses are well formed in the same place (ISO/IEC
-- 9075:1992, 6.5).
use Rattle.std.proofs.Common.{ℕ, List, ◌++◌, Option, Some, None, Ok, Err}
use Rattle.std.specs.Prelude.{⊤, Bool, IfSome}
use Rattle.sq_meaning.specs.Status.{Outcome, and_then}
use Rattle.sq_meaning.specs.Syntax.{Naming, Expr, SelectList, all_columns, expressions, Cond, Clause, absent, present}
use Rattle.sq_meaning.specs.Expression.{Reading}
use Rattle.sq_meaning.specs.Kind.{Kinds, kind, signed_kind, sum_kind, product_kind}
use Rattle.sq_meaning.specs.Query.{list_functions, clause_functions}
use Rattle.sq_meaning.specs.WellFormed.{HasValue, Level, froms, WellFormedExpr, WellFormedExprs, WellFormedPair, WellFormedEscape, WellFormedList, WellFormedCond, WellFormedConds, WellFormedClause}
use Rattle.sq_meaning.proofs.AnswerLaws.{all_weaker}
use Rattle.sq_meaning.proofs.Parts.{ExprParts, CondParts, ListHas, ClauseHas, functions_have}

-- what is made of a value has one only where that is there
first_valued : {A B : Type 0} (r : Outcome A) (f : A → Outcome B) → HasValue (and_then r f) → HasValue r
first_valued (Ok x) f h = tt
first_valued (Err status) f h = absurd h

next_valued : {A B C : Type 0} (r : Outcome A) (q : Outcome B) (f : A → B → Outcome C) → HasValue (and_then r (λ x. and_then q (f x))) → HasValue q
next_valued (Ok x) q f h = first_valued q (f x) h
next_valued (Err status) q f h = absurd h

module _ {N : Naming} (m : Reading N) (k : Kinds N) (IsDeclared : N.Parameter → Type 0) (levels : List (Level N)) where
  -- at these levels, however deep
  abbrev Whole : ℕ → Expr N → Type 0
  Whole n e = WellFormedExpr m k IsDeclared levels e

  abbrev WholeCond : ℕ → Cond N → Type 0
  WholeCond n c = WellFormedCond m k IsDeclared levels c

  operands : ExprParts Whole
  operands = record {
    of_signed = λ n sign e w. (first_valued (kind k (froms levels) e) signed_kind w.0, w.1);
    of_added = λ n sign a b w. (
      (first_valued (kind k (froms levels) a) (λ x. and_then (kind k (froms levels) b) (sum_kind x)) w.0, w.1.0),
      (next_valued (kind k (froms levels) a) (kind k (froms levels) b) sum_kind w.0, w.1.1),
    );
    of_scaled = λ n sign a b w. (
      (first_valued (kind k (froms levels) a) (λ x. and_then (kind k (froms levels) b) (product_kind sign x)) w.0, w.1.0),
      (next_valued (kind k (froms levels) a) (kind k (froms levels) b) (product_kind sign) w.0, w.1.1),
    );
    of_bracketed = λ n e w. w;
  }

  escape_whole : (e : Option (Expr N)) → WellFormedEscape m k IsDeclared levels e → IfSome e (Whole 0)
  escape_whole None w = tt
  escape_whole (Some e) w = w.0

  parts : CondParts Whole WholeCond (λ n cs. WellFormedConds m k IsDeclared levels cs) (λ n q. ⊤)
  parts = record {
    of_compare = λ n op a b w. (w.0, w.1);
    of_scalar = λ n op a q w. (w.0, tt);
    of_quantified = λ n op every a q w. (w.0, tt);
    of_between = λ n a low high w. (w.0.0, w.0.1, w.1.1);
    of_among = λ n a q w. (w.0, tt);
    of_list = λ n a es w. (
      w.0,
      all_weaker (WellFormedPair m k IsDeclared levels a) (WellFormedExpr m k IsDeclared levels) (λ e h. h.1) es w.1,
    );
    of_like = λ n text pattern escape w. (w.0.0, w.1.0, escape_whole escape w.2);
    of_null = λ n a w. w;
    of_exists = λ n q w. tt;
    of_negated = λ n c w. w;
    of_conjunction = λ n cs w. w;
    of_disjunction = λ n cs w. w;
    of_first = λ n c cs w. (w.0, w.1);
  }

  list_whole : (g : Bool) (list : SelectList N) → WellFormedList m k IsDeclared levels g list → ListHas Whole 0 list
  list_whole g all_columns w = tt
  list_whole g (expressions es) w = w

  clause_whole : (c : Clause N) → WellFormedClause m k IsDeclared levels c → ClauseHas WholeCond 0 c
  clause_whole absent w = tt
  clause_whole (present c) w = w

  -- the set functions of a select list and of HAVING are well formed
  pub functions_well_formed : (g : Bool) (list : SelectList N) (having : Clause N) → WellFormedList m k IsDeclared levels g list → WellFormedClause m k IsDeclared levels having
      → WellFormedExprs m k IsDeclared levels (list_functions list ++ clause_functions having)
  functions_well_formed g list having w h =
      functions_have Whole operands WholeCond (λ n cs. WellFormedConds m k IsDeclared levels cs) (λ n q. ⊤) parts 0 list having
      (list_whole g list w) (clause_whole having h)
