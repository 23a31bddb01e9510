-- The command `sqmod` and its subcommands: what a command line may be.
use Rattle.std.specs.Prelude.{codes, Some, true}
use Rattle.clap.specs.Simple.{on_top}
use Rattle.clap.specs.Words.{App, Rule, Text, new_app, new_rule, with_rule, with_subcommand}
use Rattle.clap.specs.declared.builder.action.ArgAction.TheVariants.{Append, Set, SetTrue}
use Rattle.clap.specs.declared.builder.value_parser.ValueParser.TheVariants.{Unsigned}
use Rattle.sq_store.specs.declared.store.TheConstants.{MOST_ROW_NUMBERS}

-- an option `--NAME VALUE`
abbrev pub value_rule : Text → Rule
value_rule name = record (new_rule name) { long = Some name; value_names = 1; action = Some Set }

-- An option `--NAME VALUE` that may be given again and again.
abbrev pub files_rule : Text → Rule
files_rule name = record (value_rule name) { action = Some Append }

abbrev pub script_rule : Rule
script_rule = record (value_rule (codes "script")) { required = true }

abbrev pub rows_rule : Rule
rows_rule = record (value_rule (codes "rows")) { parser = Some (Unsigned 1 MOST_ROW_NUMBERS) }

-- `run [--schema F]... [--module F]... --script F [--rows N]`
abbrev pub run : App
run =
    let with_schemas = with_rule (new_app (codes "run")) (files_rule (codes "schema")) in
    let with_modules = with_rule with_schemas (files_rule (codes "module")) in
    with_rule (with_rule with_modules script_rule) rows_rule

-- A word without an option.
abbrev pub name_rule : Rule
name_rule = record (new_rule (codes "name")) { value_names = 1; action = Some Set }

-- `explain [NAME]`
abbrev pub explain : App
explain = with_rule (new_app (codes "explain")) name_rule

-- an option `--NAME`
abbrev pub flag_rule : Text → Rule
flag_rule name = record (new_rule name) { long = Some name; action = Some SetTrue }

-- `check [--schema F]... [--module F]... [--script F]`
abbrev pub checking : App
checking =
    let with_schemas = with_rule (new_app (codes "check")) (files_rule (codes "schema")) in
    with_rule (with_rule with_schemas (files_rule (codes "module"))) (value_rule (codes "script"))

-- `check [--schema F]... [--module F]... [--script F] [--quiet] [--json] [--ways]`
abbrev pub check : App
check =
    with_rule (with_rule (with_rule checking (flag_rule (codes "quiet"))) (flag_rule (codes "json")))
    (flag_rule (codes "ways"))

-- `trace [--schema F]... [--module F]... --script F [--rows N]`
abbrev pub tracing : App
tracing =
    let with_schemas = with_rule (new_app (codes "trace")) (files_rule (codes "schema")) in
    let with_modules = with_rule with_schemas (files_rule (codes "module")) in
    with_rule (with_rule with_modules script_rule) rows_rule

-- `trace [--schema F]... [--module F]... --script F [--rows N] [--tables] [--stop] [--html F]`
abbrev pub trace : App
trace =
    with_rule (with_rule (with_rule tracing (flag_rule (codes "tables"))) (flag_rule (codes "stop")))
    (value_rule (codes "html"))

-- `shell [--schema F]... [--module F]... [--rows N]`
abbrev pub shell : App
shell =
    let with_schemas = with_rule (new_app (codes "shell")) (files_rule (codes "schema")) in
    with_rule (with_rule with_schemas (files_rule (codes "module"))) rows_rule

-- A word without an option that must be given.
abbrev pub folder_rule : Rule
folder_rule = record (new_rule (codes "folder")) { value_names = 1; action = Some Set; required = true }

-- `new FOLDER`
abbrev pub new : App
new = with_rule (new_app (codes "new")) folder_rule

-- Words without an option.
abbrev pub folders_rule : Rule
folders_rule = record (new_rule (codes "folder")) { value_names = 1; action = Some Append; required = true }

-- `test FOLDER... [--filter GLOB]... [--shard K/N]`
abbrev pub selecting : App
selecting =
    let with_filters = with_rule (with_rule (new_app (codes "test")) folders_rule)
    (files_rule (codes "filter")) in
    with_rule with_filters (value_rule (codes "shard"))

-- `test FOLDER... [--filter GLOB]... [--shard K/N] [--junit F] [--list] [--update]`
abbrev pub test : App
test =
    with_rule (with_rule (with_rule selecting (value_rule (codes "junit"))) (flag_rule (codes "list")))
    (flag_rule (codes "update"))

-- `sqmod` with `run` and `check`, of which one must be given
abbrev pub of_files : App
of_files =
    let without = on_top (λ shape. record shape { has_version = true; subcommand_required = true })
    (new_app (codes "sqmod")) in
    with_subcommand (with_subcommand without run.top) check.top

-- `sqmod` with those, `trace` and `shell`
abbrev pub shown : App
shown = with_subcommand (with_subcommand of_files trace.top) shell.top

-- `sqmod` with those, `explain` and `test`
abbrev pub told : App
told = with_subcommand (with_subcommand shown explain.top) test.top

abbrev pub modules_rule : Rule
modules_rule = record (files_rule (codes "module")) { required = true }

-- `bind-c --module F...` or `bind-cobol --module F...`
abbrev pub bind : Text → App
bind name = with_rule (new_app name) modules_rule

-- `sqmod` with all its subcommands.
abbrev pub sqmod : App
sqmod =
    let with_header = with_subcommand told (bind (codes "bind-c")).top in
    with_subcommand (with_subcommand with_header (bind (codes "bind-cobol")).top) new.top
