-- The statements of a procedure: their readings are final.
use Rattle.std.proofs.Common.{ℕ, Some}
use Rattle.sq_tree.specs.declared.expr.Expr.{Expr}
use Rattle.sq_grammar.specs.declared.verb.Verb.{Verb}
use Rattle.sq_grammar.specs.declared.verb.Verb.TheVariants as verb
use Rattle.sq_grammar.specs.Reading.{Parser}
use Rattle.sq_grammar.specs.Statement.{by_colon, position, orientation_of, by_relative, by_absolute, by_orientation_word, orientation, by_from, by_orientation, fetch_from, fetch, by_null, new_value, by_current, by_where, target, select, by_values, insert_source, insert, assignment, update, delete, verb_of, by_verb, statement}
use Rattle.sq_run.proofs.Tokens.Final.{Final, bind, done, never, by_option, eaten, a_name, if_comes, if_one, must, commas}
use Rattle.sq_run.proofs.Tokens.NamesFinal.{table_names, parameters, signed_numbers, columns_or_none}
use Rattle.sq_run.proofs.Tokens.ExprFinal.{quantifiers, inner_exprs, exprs}
use Rattle.sq_run.proofs.Tokens.SelectFinal.{select_lists, table_expressions}
use Rattle.sq_run.proofs.Tokens.CondFinal.{conds, query_specifications}

positions : Final position
unfolding position
positions = if_comes _ by_colon (bind a_name (λ n. done)) (bind signed_numbers (λ n. done))

orientations : Final orientation
unfolding orientation
orientations = if_one orientation_of by_orientation_word
    (if_comes _ by_absolute (bind positions (λ p. done)) (if_comes _ by_relative (bind positions (λ p. done)) done))
    (λ o. done)

fetch_froms : Final fetch_from
unfolding fetch_from
fetch_froms = bind orientations (by_option by_orientation (if_comes _ by_from done done) (λ o. must _ done))

fetches : Final fetch
unfolding fetch
fetches = bind fetch_froms (λ f. bind a_name (λ c. must _ (bind (commas parameters) (λ targets. done))))

new_values : {exprs : Parser Expr} → Final exprs → Final (new_value exprs)
unfolding new_value
new_values {exprs = exprs} h = if_comes _ (by_null exprs) done (bind h (λ e. done))

targets : (left : ℕ) → Final (target left)
unfolding target
targets left = if_comes _ (by_where left) (if_comes _ (by_current left) (must _ (bind a_name (λ c. done))) (bind (conds left) (λ c. done))) done

selects : (left : ℕ) → Final (select left)
unfolding select
selects left = bind quantifiers (λ q. bind (select_lists (exprs left)) (λ l. must _ (bind (commas parameters) (λ targets. bind (table_expressions (conds left)) (λ t. done)))))

sources : (left : ℕ) → Final (insert_source left)
unfolding insert_source
sources left = if_comes _ (by_values left)
    (must _ (bind (commas (new_values (inner_exprs left))) (λ vs. must _ done)))
    (bind (query_specifications left) (λ s. done))

inserts : (left : ℕ) → Final (insert left)
unfolding insert
inserts left = must _ (bind table_names (λ t. bind columns_or_none (λ cs. bind (sources left) (λ s. done))))

assignments : (left : ℕ) → Final (assignment left)
unfolding assignment
assignments left = bind a_name (λ c. must _ (bind (new_values (exprs left)) (λ v. done)))

updates : (left : ℕ) → Final (update left)
unfolding update
updates left = bind table_names (λ t. must _ (bind (commas (assignments left)) (λ sets. bind (targets left) (λ w. done))))

deletes : (left : ℕ) → Final (delete left)
unfolding delete
deletes left = must _ (bind table_names (λ t. bind (targets left) (λ w. done)))

by_verbs : (left : ℕ) (v : Verb) → Final (by_verb left (Some v))
by_verbs left verb.Open = bind a_name (λ c. done)
by_verbs left verb.Fetch = bind fetches (λ f. done)
by_verbs left verb.Close = bind a_name (λ c. done)
by_verbs left verb.Select = bind (selects left) (λ s. done)
by_verbs left verb.Insert = bind (inserts left) (λ i. done)
by_verbs left verb.Update = bind (updates left) (λ u. done)
by_verbs left verb.Delete = bind (deletes left) (λ d. done)
by_verbs left verb.Commit = bind (eaten _) (λ w. done)
by_verbs left verb.Rollback = bind (eaten _) (λ w. done)

pub statements : (left : ℕ) → Final (statement left)
unfolding statement
statements left = if_one verb_of (by_verb left) never (by_verbs left)
