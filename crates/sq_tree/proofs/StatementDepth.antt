-- The statements of a procedure: the depth of each tree, from the depth of its parts.
use Rattle.std.specs.Prelude.{ℕ, ◌+◌, max}
use Rattle.sq_tree.proofs.TreeDepth.{optional_depth}
use Rattle.sq_tree.proofs.ListDepth.{comma_depth}
use Rattle.sq_tree.proofs.ExprDepth.{expr_depth}
use Rattle.sq_tree.proofs.CondDepth.{cond_depth, select_list_depth, table_expression_depth, query_specification_depth}
use Rattle.sq_tree.proofs.DataTypeDepth.{bracket_depth}
use Rattle.sq_tree.specs.declared.statement.Statement.{Statement}
use Rattle.sq_tree.specs.declared.statement.Statement.TheVariants as statement
use Rattle.sq_tree.specs.declared.statement.Select.{Select}
use Rattle.sq_tree.specs.declared.statement.Insert.{Insert}
use Rattle.sq_tree.specs.declared.statement.InsertSource.{InsertSource}
use Rattle.sq_tree.specs.declared.statement.InsertSource.TheVariants as source
use Rattle.sq_tree.specs.declared.statement.NewValue.{NewValue}
use Rattle.sq_tree.specs.declared.statement.NewValue.TheVariants as value
use Rattle.sq_tree.specs.declared.statement.Update.{Update}
use Rattle.sq_tree.specs.declared.statement.Assignment.{Assignment}
use Rattle.sq_tree.specs.declared.statement.Delete.{Delete}
use Rattle.sq_tree.specs.declared.statement.Where.{Where}
use Rattle.sq_tree.specs.declared.statement.Where.TheVariants.{Condition, CurrentOf}

abbrev pub select_depth : Select → ℕ
select_depth s = max (select_list_depth s.list) (table_expression_depth s.table)

abbrev pub new_value_depth : NewValue → ℕ
new_value_depth (value.Expr e) = expr_depth e
new_value_depth value.Null = 0

abbrev pub insert_source_depth : InsertSource → ℕ
insert_source_depth (source.Values values) = comma_depth new_value_depth values + 1
insert_source_depth (source.Query spec) = query_specification_depth spec

abbrev pub insert_depth : Insert → ℕ
insert_depth i = max (bracket_depth i.columns) (insert_source_depth i.source)

abbrev pub target_depth : Where → ℕ
target_depth (Condition cond) = cond_depth cond
target_depth (CurrentOf cursor) = 0

abbrev pub assignment_depth : Assignment → ℕ
assignment_depth a = new_value_depth a.value

abbrev pub update_depth : Update → ℕ
update_depth u = max (comma_depth assignment_depth u.assignments) (optional_depth target_depth u.target)

abbrev pub delete_depth : Delete → ℕ
delete_depth d = optional_depth target_depth d.target

abbrev pub statement_depth : Statement → ℕ
statement_depth (statement.Select select) = select_depth select
statement_depth (statement.Insert insert) = insert_depth insert
statement_depth (statement.Update update) = update_depth update
statement_depth (statement.Delete delete) = delete_depth delete
statement_depth _ = 0
