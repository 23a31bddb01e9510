-- Left open: the call of task_of, and the clauses refused and asked; answered by Given and Read.
use Rattle.std.proofs.Common.{List, map, string_bytes, subst, sym}
use Rattle.clap.specs.Words.{Row, Text, app_of, fault_of, found_of, rows_of}
use Rattle.sq_words.specs.Command.{sqmod}
use Rattle.sq_words.specs.Reading.{IsGiven, MakesTask}
use Rattle.sq_words.proofs.Given.{given_for}
use Rattle.sq_words.proofs.Read.{fails_by, kind_found, name_found, one_found, rows_found}
use Rattle.sq_words.proofs.reading.task_of_words.Goals as goal

pub task_of-requires : goal.task_of-requires
task_of-requires c =
    let words : List Text = map string_bytes c.args.words.now in
    let parse = c.in_ok-matches.ensures in
    let found = one_found (app_of c.in_ok-command.command) words c.in_ok-matches.matches
    c.in_ok-command.ensures.app parse.kinds parse.matches in
    let rows = rows_found words c.in_ok-matches.matches found (λ p. rows_of (found_of p.1.now))
    c.subcommand.result c.unwrap.result c.subcommand.ensures.rows c.unwrap.ensures in
    let name = name_found words c.in_ok-matches.matches found (λ p. p.0.now)
    c.subcommand.result c.unwrap.result c.subcommand.ensures.name c.unwrap.ensures in
    let met = found.met in
    subst (λ n. IsGiven n (rows_of (found_of c.unwrap.result.1.now))) name
    (subst (IsGiven met.name) rows (given_for met.name met.rows met.known met.sound))

pub returns-clause-refused : goal.returns-clause-refused
returns-clause-refused c =
    let words : List Text = map string_bytes c.args.words.now in
    let parse = c.in_ok-matches.ensures in
    let found = one_found (app_of c.in_ok-command.command) words c.in_ok-matches.matches
    c.in_ok-command.ensures.app parse.kinds parse.matches in
    found.no_fault

pub returns-clause-asked : goal.returns-clause-asked
returns-clause-asked c =
    let words : List Text = map string_bytes c.args.words.now in
    let parse = c.in_ok-matches.ensures in
    let found = one_found (app_of c.in_ok-command.command) words c.in_ok-matches.matches
    c.in_ok-command.ensures.app parse.kinds parse.matches in
    let rows = rows_found words c.in_ok-matches.matches found (λ p. rows_of (found_of p.1.now))
    c.subcommand.result c.unwrap.result c.subcommand.ensures.rows c.unwrap.ensures in
    let name = name_found words c.in_ok-matches.matches found (λ p. p.0.now)
    c.subcommand.result c.unwrap.result c.subcommand.ensures.name c.unwrap.ensures in
    let met = found.met in
    let task = c.in_ok-task_of.field-0 in
    let made = subst (λ n. MakesTask n met.rows task) (sym name) (subst (λ (given : List Row). MakesTask c.unwrap.result.0.now given task) (sym rows) c.in_ok-task_of.ensures.made) in
    (met.name, met.rows, met.is, made)

pub returns-in_err-matches-clause-refused : goal.returns-in_err-matches-clause-refused
returns-in_err-matches-clause-refused c =
    let words : List Text = map string_bytes c.args.words.now in
    let kind = kind_found (app_of c.in_ok-command.command) words c.in_err-matches.field-0.0 c.in_ok-command.ensures.app c.in_err-matches.ensures.kinds in
    fails_by (fault_of sqmod words) c.from_residual-in_err-matches.result c.in_err-matches.field-0.0 c.from_residual-in_err-matches.ensures.1 kind
