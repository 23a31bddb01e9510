-- Two statements with one list of tokens are one, and so for their parts.
use Rattle.std.proofs.Common.{◌≡◌, ℕ, suc, max, [], Some, refl, arith, codes}
use Rattle.sq_tree.specs.declared.statement.Statement.{Statement}
use Rattle.sq_tree.specs.declared.statement.Fetch.{Fetch}
use Rattle.sq_tree.specs.declared.statement.FetchFrom.{FetchFrom}
use Rattle.sq_tree.specs.declared.statement.Orientation.{Orientation}
use Rattle.sq_tree.specs.declared.statement.Position.{Position}
use Rattle.sq_tree.specs.declared.statement.Select.{Select}
use Rattle.sq_tree.specs.declared.statement.Insert.{Insert}
use Rattle.sq_tree.specs.declared.statement.InsertSource.{InsertSource}
use Rattle.sq_tree.specs.declared.statement.NewValue.{NewValue}
use Rattle.sq_tree.specs.declared.statement.Update.{Update}
use Rattle.sq_tree.specs.declared.statement.Assignment.{Assignment}
use Rattle.sq_tree.specs.declared.statement.Delete.{Delete}
use Rattle.sq_tree.specs.declared.statement.Where.{Where}
use Rattle.sq_tree.specs.Statement.{position_tokens, orientation_tokens, fetch_from_tokens, fetch_tokens, select_tokens, new_value_tokens, insert_source_tokens, insert_tokens, target_tokens, assignment_tokens, update_tokens, delete_tokens, statement_tokens}
use Rattle.sq_tree.proofs.StatementDepth.{select_depth, new_value_depth, insert_source_depth, insert_depth, target_depth, assignment_depth, update_depth, delete_depth, statement_depth}
use Rattle.sq_grammar.specs.Expr.{expr}
use Rattle.sq_grammar.proofs.Sound.Spells.{some_is}
use Rattle.sq_grammar.proofs.Ends.Follows.{EndsExpr, EndsTable}
use Rattle.sq_grammar.proofs.Taken.ExprTakes.{expr_takes}
use Rattle.sq_grammar.proofs.Taken.CondTakes.{cond_takes}
use Rattle.sq_grammar.proofs.Taken.QueryTakes.{specification_takes, table_expression_takes, select_list_takes}
use Rattle.sq_grammar.proofs.Taken.StatementTakes.{position_takes, orientation_takes, fetch_from_takes, fetch_takes, new_value_takes, assignment_takes, target_takes, insert_source_takes, select_takes, insert_takes, update_takes, delete_takes}
use Rattle.sq_grammar.proofs.Taken.TextTakes.{statement_taken, end_of_query}
use Rattle.sq_grammar.proofs.Unique.OneTree.{one_tree, behind_first}

end_of_table : EndsTable []
end_of_table = end_of_query.table

end_of_expr : EndsExpr []
end_of_expr = end_of_table.cond.conj.test.expr

-- ---- FETCH

pub one_position : (a b : Position) → position_tokens a ≡ position_tokens b → a ≡ b
one_position a b same = one_tree (position_takes a {a = 0} {left = 0} {rest = []}) (position_takes b) (omega arith) (omega arith) same

pub one_orientation : (a b : Orientation) → orientation_tokens a ≡ orientation_tokens b → a ≡ b
one_orientation a b same = some_is a b (one_tree (orientation_takes (Some a) {a = 0} {left = 0} {rest = []} refl refl refl) (orientation_takes (Some b) refl refl refl) (omega arith) (omega arith) same)

-- before any cursor
pub one_fetch_from : (a b : FetchFrom) → fetch_from_tokens a ≡ fetch_from_tokens b → a ≡ b
one_fetch_from a b same = some_is a b (one_tree (fetch_from_takes (Some a) (codes "C") {a = 0} {left = 0} {rest = []}) (fetch_from_takes (Some b) (codes "C")) (omega arith) (omega arith) same)

pub one_fetch : (a b : Fetch) → fetch_tokens a ≡ fetch_tokens b → a ≡ b
one_fetch a b same = one_tree (fetch_takes a {a = 0} {left = 0} end_of_expr.term.factor refl) (fetch_takes b end_of_expr.term.factor refl) (omega arith) (omega arith) (behind_first same)

-- ---- parts of statements

pub one_new_value : (a b : NewValue) → new_value_tokens a ≡ new_value_tokens b → a ≡ b
one_new_value a b same =
    let left : ℕ = max (new_value_depth a) (new_value_depth b) in
    one_tree (new_value_takes (expr left) (λ n. n) {a = 0} {left = left} (omega arith) (expr_takes left) a [] end_of_expr) (new_value_takes (expr left) (λ n. n) (omega arith) (expr_takes left) b [] end_of_expr) (omega arith) (omega arith) same

pub one_assignment : (a b : Assignment) → assignment_tokens a ≡ assignment_tokens b → a ≡ b
one_assignment a b same =
    let left : ℕ = max (assignment_depth a) (assignment_depth b) in
    one_tree (assignment_takes left a [] end_of_expr) (assignment_takes left b [] end_of_expr) (omega arith) (omega arith) same

pub one_where : (a b : Where) → target_tokens a ≡ target_tokens b → a ≡ b
one_where a b same =
    let left : ℕ = max (target_depth a) (target_depth b) in
    let takes = target_takes cond_takes specification_takes table_expression_takes select_list_takes left in
    some_is a b (one_tree (takes (Some a) [] end_of_table.cond refl) (takes (Some b) [] end_of_table.cond refl) (omega arith) (omega arith) same)

pub one_insert_source : (a b : InsertSource) → insert_source_tokens a ≡ insert_source_tokens b → a ≡ b
one_insert_source a b same =
    let left : ℕ = suc (max (insert_source_depth a) (insert_source_depth b)) in
    let takes = insert_source_takes cond_takes specification_takes table_expression_takes select_list_takes left (omega arith) in
    one_tree (takes a [] end_of_table) (takes b [] end_of_table) (omega arith) (omega arith) same

-- ---- statements

pub one_select : (a b : Select) → select_tokens a ≡ select_tokens b → a ≡ b
one_select a b same =
    let left : ℕ = max (select_depth a) (select_depth b) in
    let takes = select_takes cond_takes specification_takes table_expression_takes select_list_takes left in
    one_tree (takes a [] end_of_table) (takes b [] end_of_table) (omega arith) (omega arith) (behind_first same)

pub one_insert : (a b : Insert) → insert_tokens a ≡ insert_tokens b → a ≡ b
one_insert a b same =
    let left : ℕ = suc (max (insert_depth a) (insert_depth b)) in
    let takes = insert_takes cond_takes specification_takes table_expression_takes select_list_takes left (omega arith) in
    one_tree (takes a [] end_of_table) (takes b [] end_of_table) (omega arith) (omega arith) (behind_first same)

pub one_update : (a b : Update) → update_tokens a ≡ update_tokens b → a ≡ b
one_update a b same =
    let left : ℕ = max (update_depth a) (update_depth b) in
    let takes = update_takes cond_takes specification_takes table_expression_takes select_list_takes left in
    one_tree (takes a [] end_of_table) (takes b [] end_of_table) (omega arith) (omega arith) (behind_first same)

pub one_delete : (a b : Delete) → delete_tokens a ≡ delete_tokens b → a ≡ b
one_delete a b same =
    let left : ℕ = max (delete_depth a) (delete_depth b) in
    let takes = delete_takes cond_takes specification_takes table_expression_takes select_list_takes left in
    one_tree (takes a [] end_of_table) (takes b [] end_of_table) (omega arith) (omega arith) (behind_first same)

-- before the semicolon that ends it
pub one_statement : (a b : Statement) → statement_tokens a ≡ statement_tokens b → a ≡ b
one_statement a b same =
    let left : ℕ = suc (max (statement_depth a) (statement_depth b)) in
    one_tree (statement_taken left (omega arith) a []) (statement_taken left (omega arith) b []) (omega arith) (omega arith) same
