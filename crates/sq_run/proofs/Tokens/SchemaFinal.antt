-- The elements of a schema: their readings are final.
use Rattle.std.proofs.Common.{ℕ}
use Rattle.sq_lex.specs.declared.name.Name.{Name}
use Rattle.sq_grammar.specs.Reading.{text_of, name_of}
use Rattle.sq_grammar.specs.Schema.{references_from, references, by_text, by_null, by_user, default_value, default_clause, check, constraint_check, constraint_references, constraint_primary, constraint_unique, constraint_not, column_constraint, column_definition, foreign_key, element_foreign, element_primary, element_unique, table_constraint, element_name, table_element, table_definition, by_with_check, check_option, view_definition, action_update, action_delete, action_insert, action_select, action, by_all, privileges, by_public, grantee, by_with_grant, grant_option, grant}
use Rattle.sq_run.proofs.Tokens.Final.{Final, bind, done, eaten, a_name, if_comes, if_one, then, must, rows, commas}
use Rattle.sq_run.proofs.Tokens.NamesFinal.{table_names, signed_numbers, bracketed_columns, columns_or_none}
use Rattle.sq_run.proofs.Tokens.DataTypeFinal.{data_types}
use Rattle.sq_run.proofs.Tokens.CondFinal.{only_conds, inner_conds, query_specifications}

all_references_from : Final references_from
unfolding references_from
all_references_from = bind table_names (λ t. bind columns_or_none (λ cs. done))

all_references : Final references
unfolding references
all_references = must _ all_references_from

default_values : Final default_value
unfolding default_value
default_values = if_comes _ by_user done (if_comes _ by_null done (if_one text_of by_text (bind signed_numbers (λ n. done)) (λ characters. done)))

default_clauses : Final default_clause
unfolding default_clause
default_clauses = then _ default_values

checks : (left : ℕ) → Final (check left)
unfolding check
checks left = must _ (bind (only_conds (inner_conds left)) (λ c. must _ done))

column_constraints : (left : ℕ) → Final (column_constraint left)
unfolding column_constraint
column_constraints left =
    if_comes _ (constraint_not left) (must _ done)
    (if_comes _ (constraint_unique left) done
    (if_comes _ (constraint_primary left) (must _ done)
    (if_comes _ (constraint_references left) (bind all_references_from (λ r. done))
    (if_comes _ (constraint_check left) (bind (checks left) (λ c. done)) done))))

column_definitions : (left : ℕ) (n : Name) → Final (column_definition left n)
unfolding column_definition
column_definitions left n = bind data_types (λ t. bind default_clauses (λ d. bind (rows _ (column_constraints left)) (λ cs. done)))

foreign_keys : Final foreign_key
unfolding foreign_key
foreign_keys = must _ (bind bracketed_columns (λ cs. bind all_references (λ r. done)))

table_constraints : (left : ℕ) → Final (table_constraint left)
unfolding table_constraint
table_constraints left =
    if_comes _ (element_unique left) (bind bracketed_columns (λ cs. done))
    (if_comes _ (element_primary left) (must _ (bind bracketed_columns (λ cs. done)))
    (if_comes _ (element_foreign left) (bind foreign_keys (λ k. done)) (must _ (bind (checks left) (λ c. done)))))

table_elements : (left : ℕ) → Final (table_element left)
unfolding table_element
table_elements left = if_one name_of (element_name left) (table_constraints left) (λ n. bind (column_definitions left n) (λ c. done))

pub table_definitions : (left : ℕ) → Final (table_definition left)
unfolding table_definition
table_definitions left = bind table_names (λ n. must _ (bind (commas (table_elements left)) (λ es. must _ done)))

check_options : Final check_option
unfolding check_option
check_options = if_comes _ by_with_check (must _ (must _ done)) done

pub view_definitions : (left : ℕ) → Final (view_definition left)
unfolding view_definition
view_definitions left = bind table_names (λ n. bind columns_or_none (λ cs. must _ (bind (query_specifications left) (λ q. bind check_options (λ o. done)))))

actions : Final action
unfolding action
actions =
    if_comes _ action_select done
    (if_comes _ action_insert done
    (if_comes _ action_delete done
    (if_comes _ action_update (bind columns_or_none (λ cs. done)) (must _ (bind columns_or_none (λ cs. done))))))

all_privileges : Final privileges
unfolding privileges
all_privileges = if_comes _ by_all (must _ done) (bind (commas actions) (λ xs. done))

grantees : Final grantee
unfolding grantee
grantees = if_comes _ by_public done (bind a_name (λ n. done))

grant_options : Final grant_option
unfolding grant_option
grant_options = if_comes _ by_with_grant (must _ (must _ done)) done

pub grants : Final grant
unfolding grant
grants = bind all_privileges (λ ps. must _ (bind (eaten _) (λ w. bind table_names (λ t. must _ (bind (commas grantees) (λ gs. bind grant_options (λ o. done)))))))
