-- Script texts: their readings are final.
use Rattle.sq_grammar.specs.Reading.{text_of}
use Rattle.sq_grammar.specs.Script.{by_text, by_star, argument, by_close, by_open, arguments, two_names, call_word, by_call, by_table, item, script_text}
use Rattle.sq_run.proofs.Tokens.Final.{Final, bind, done, a_name, if_comes, if_one, must, rows, commas}
use Rattle.sq_run.proofs.Tokens.NamesFinal.{signed_numbers}

one_argument : Final argument
unfolding argument
one_argument = if_comes _ by_star done (if_one text_of by_text (bind signed_numbers (λ n. done)) (λ characters. done))

all_arguments : Final arguments
unfolding arguments
all_arguments = if_comes _ by_open (if_comes _ by_close done (bind (commas one_argument) (λ xs. must _ done))) done

names : Final two_names
unfolding two_names
names = bind a_name (λ first. must _ (bind a_name (λ second. done)))

items : Final item
unfolding item
items = if_comes _ by_table (bind names (λ ns. must _ done)) (if_one call_word by_call done (λ u. bind names (λ ns. bind all_arguments (λ xs. must _ done))))

pub scripts : Final script_text
unfolding script_text
scripts = bind (rows _ items) (λ is. done)
