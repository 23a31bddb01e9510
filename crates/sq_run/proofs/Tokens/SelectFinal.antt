-- Query specifications: their readings are final, as those of their expressions and conditions are.
use Rattle.sq_run.proofs.Tokens.Final.{Final, bind, done, a_name, if_comes, if_one, then, must, commas}
use Rattle.sq_tree.specs.declared.expr.Expr.{Expr}
use Rattle.sq_tree.specs.declared.cond.Cond.{Cond}
use Rattle.sq_grammar.specs.Reading.{Parser, name_of}
use Rattle.sq_grammar.specs.Select.{by_name, by_as, correlation, table_reference, from_clause, by_columns, group_by, by_star, select_list, table_expression, specification}
use Rattle.sq_run.proofs.Tokens.NamesFinal.{table_names, column_references}
use Rattle.sq_run.proofs.Tokens.ExprFinal.{quantifiers}

correlations : Final correlation
unfolding correlation
correlations = if_comes _ by_as (bind a_name (λ n. done)) (if_one name_of by_name done (λ n. done))

table_references : Final table_reference
unfolding table_reference
table_references = bind table_names (λ t. bind correlations (λ c. done))

from_clauses : Final from_clause
unfolding from_clause
from_clauses = must _ (commas table_references)

group_columns : Final by_columns
unfolding by_columns
group_columns = must _ (commas column_references)

group_clauses : Final group_by
unfolding group_by
group_clauses = then _ group_columns

pub select_lists : {exprs : Parser Expr} → Final exprs → Final (select_list exprs)
unfolding select_list
select_lists {exprs = exprs} h = if_comes _ (by_star exprs) done (bind (commas h) (λ items. done))

pub table_expressions : {conds : Parser Cond} → Final conds → Final (table_expression conds)
unfolding table_expression
table_expressions h = bind from_clauses (λ f. bind (then _ h) (λ w. bind group_clauses (λ g. bind (then _ h) (λ v. done))))

pub specifications : {exprs : Parser Expr} {conds : Parser Cond} → Final exprs → Final conds → Final (specification exprs conds)
unfolding specification
specifications h k = must _ (bind quantifiers (λ q. bind (select_lists h) (λ l. bind (table_expressions k) (λ t. done))))
