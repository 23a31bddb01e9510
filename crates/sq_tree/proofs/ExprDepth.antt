-- Value expressions, signed numbers and set functions: the depth of each tree, from the depth of its parts.
use Rattle.std.specs.Prelude.{ℕ, ◌+◌, max}
use Rattle.sq_tree.proofs.TreeDepth.{greatest}
use Rattle.sq_tree.specs.declared.expr.Primary.{Primary, fold-Primary, Primary-F}
use Rattle.sq_tree.specs.declared.expr.Primary.TheOpen as layer
use Rattle.sq_tree.specs.declared.expr.Expr.{Expr, fold-Expr, Expr-F}
use Rattle.sq_tree.specs.declared.expr.Term.{Term, fold-Term, Term-F}
use Rattle.sq_tree.specs.declared.expr.Factor.{Factor, fold-Factor, Factor-F}
use Rattle.sq_tree.specs.declared.expr.Added.{Added, fold-Added, Added-F}
use Rattle.sq_tree.specs.declared.expr.Scaled.{Scaled, fold-Scaled, Scaled-F}

abbrev pub primary_height : Primary-F ℕ ℕ ℕ ℕ ℕ ℕ → ℕ
primary_height layer.CountRows = 1
primary_height (layer.SetFunction function quantifier expr) = expr + 1
primary_height (layer.Bracketed expr) = expr + 1
primary_height _ = 0

abbrev pub factor_height : Factor-F ℕ ℕ ℕ ℕ ℕ ℕ → ℕ
factor_height f = f.primary

abbrev pub scaled_height : Scaled-F ℕ ℕ ℕ ℕ ℕ ℕ → ℕ
scaled_height s = s.factor

abbrev pub term_height : Term-F ℕ ℕ ℕ ℕ ℕ ℕ → ℕ
term_height t = max t.first (greatest t.rest)

abbrev pub added_height : Added-F ℕ ℕ ℕ ℕ ℕ ℕ → ℕ
added_height a = a.term

abbrev pub expr_height : Expr-F ℕ ℕ ℕ ℕ ℕ ℕ → ℕ
expr_height e = max e.first (greatest e.rest)

unfoldable pub primary_depth : Primary → ℕ
primary_depth = fold-Primary ℕ ℕ ℕ ℕ ℕ ℕ primary_height added_height expr_height factor_height scaled_height term_height

unfoldable pub factor_depth : Factor → ℕ
factor_depth = fold-Factor ℕ ℕ ℕ ℕ ℕ ℕ primary_height added_height expr_height factor_height scaled_height term_height

unfoldable pub scaled_depth : Scaled → ℕ
scaled_depth = fold-Scaled ℕ ℕ ℕ ℕ ℕ ℕ primary_height added_height expr_height factor_height scaled_height term_height

unfoldable pub term_depth : Term → ℕ
term_depth = fold-Term ℕ ℕ ℕ ℕ ℕ ℕ primary_height added_height expr_height factor_height scaled_height term_height

unfoldable pub added_depth : Added → ℕ
added_depth = fold-Added ℕ ℕ ℕ ℕ ℕ ℕ primary_height added_height expr_height factor_height scaled_height term_height

unfoldable pub expr_depth : Expr → ℕ
expr_depth = fold-Expr ℕ ℕ ℕ ℕ ℕ ℕ primary_height added_height expr_height factor_height scaled_height term_height
