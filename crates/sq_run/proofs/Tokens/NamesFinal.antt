-- Names, parameters and signed numbers: their readings are final.
use Rattle.sq_run.proofs.Tokens.Final.{Final, bind, done, by_option, or_token, a_name, a_number, if_comes, then, must, commas}
use Rattle.sq_lex.specs.declared.name.Name.{Name}
use Rattle.sq_grammar.specs.Names.{dot, name_behind_dot, table_name, column_by, column_from, column_reference, indicator, parameter_from, parameter, sign_if_any, signed_number, columns_from, columns, columns_if_any, by_colon, by_word}

pub second_name : Final name_behind_dot
second_name = then dot a_name

pub table_names : Final table_name
unfolding table_name
table_names = bind a_name (λ first. bind second_name (λ second. done))

pub column_tails : (n : Name) → Final (column_from n)
unfolding column_from
column_tails n = bind second_name (by_option (column_by n) done (λ second. bind second_name (λ third. done)))

pub column_references : Final column_reference
unfolding column_reference
column_references = bind a_name column_tails

pub indicators : Final indicator
unfolding indicator
indicators = if_comes _ by_word (must _ (bind a_name (λ n. done))) (if_comes _ by_colon (bind a_name (λ n. done)) done)

pub parameter_tails : Final parameter_from
unfolding parameter_from
parameter_tails = bind a_name (λ n. bind indicators (λ i. done))

pub parameters : Final parameter
unfolding parameter
parameters = must _ parameter_tails

pub signs : Final sign_if_any
signs = or_token _ _ (or_token _ _ done)

pub signed_numbers : Final signed_number
unfolding signed_number
signed_numbers = bind signs (λ sign. bind a_number (λ n. done))

pub column_lists : Final columns_from
unfolding columns_from
column_lists = bind (commas a_name) (λ names. must _ done)

pub bracketed_columns : Final columns
unfolding columns
bracketed_columns = must _ column_lists

pub columns_or_none : Final columns_if_any
unfolding columns_if_any
columns_or_none = then _ column_lists
