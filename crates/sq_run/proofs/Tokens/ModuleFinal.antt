-- Module texts: their readings are final.
use Rattle.std.proofs.Common.{ℕ}
use Rattle.sq_grammar.specs.Reading.{number_of}
use Rattle.sq_grammar.specs.Module.{by_sqlstate, by_sqlcode, by_colon, declaration_if_any, declared, declaration, uncommaed, by_comma, bare_declaration, by_open, declarations, procedure, by_number, sort_key, direction_if_any, sort_specification, by_sorts, order_by, ordered_query, cursor, by_procedure, by_declare, item, module_text}
use Rattle.sq_run.proofs.Tokens.Final.{Final, bind, done, never, by_option, eaten, or_token, a_name, if_comes, if_one, then, must, rows, commas}
use Rattle.sq_run.proofs.Tokens.DataTypeFinal.{data_types}
use Rattle.sq_run.proofs.Tokens.QueryFinal.{queries}
use Rattle.sq_run.proofs.Tokens.StatementFinal.{statements}

declarations_or_none : Final declaration_if_any
unfolding declaration_if_any
declarations_or_none = if_comes _ by_colon (bind a_name (λ n. bind data_types (λ t. done))) (if_comes _ by_sqlcode done (if_comes _ by_sqlstate done done))

one_declaration : Final declaration
unfolding declaration
one_declaration = bind declarations_or_none (by_option declared never (λ d. done))

bare_declarations : Final bare_declaration
unfolding bare_declaration
bare_declarations = if_comes _ by_comma (bind one_declaration (λ d. done)) (bind declarations_or_none (by_option uncommaed done (λ d. done)))

all_declarations : Final declarations
unfolding declarations
all_declarations = if_comes _ by_open (bind (commas one_declaration) (λ ds. must _ done)) (bind one_declaration (λ first. bind (rows _ bare_declarations) (λ others. done)))

procedures : (left : ℕ) → Final (procedure left)
unfolding procedure
procedures left = bind a_name (λ n. bind all_declarations (λ ds. must _ (bind (statements left) (λ s. must _ done))))

sort_keys : Final sort_key
unfolding sort_key
sort_keys = if_one number_of by_number (bind a_name (λ n. done)) (λ n. done)

directions : Final direction_if_any
directions = or_token _ _ (or_token _ _ done)

sorts : Final sort_specification
unfolding sort_specification
sorts = bind sort_keys (λ k. bind directions (λ d. done))

sort_lists : Final by_sorts
unfolding by_sorts
sort_lists = must _ (commas sorts)

orders : Final order_by
unfolding order_by
orders = then _ sort_lists

ordered_queries : (left : ℕ) → Final (ordered_query left)
unfolding ordered_query
ordered_queries left = bind (queries left) (λ q. bind orders (λ o. done))

cursors : (left : ℕ) → Final (cursor left)
unfolding cursor
cursors left = bind a_name (λ n. bind (eaten _) (λ i. bind (eaten _) (λ s. must _ (must _ (bind (ordered_queries left) (λ q. bind (eaten _) (λ e. done)))))))

items : (left : ℕ) → Final (item left)
unfolding item
items left = if_comes _ (by_declare left) (bind (cursors left) (λ c. done)) (if_comes _ (by_procedure left) (bind (procedures left) (λ p. done)) done)

pub modules : (left : ℕ) → Final (module_text left)
unfolding module_text
modules left = must _ (bind a_name (λ n. must _ (bind a_name (λ l. must _ (bind a_name (λ a. bind (rows _ (items left)) (λ is. done)))))))
