-- Command lines, by the definitions: the kinds of those that are refused, and the values read of those that
-- are taken.
use Rattle.std.proofs.Common.{◌≡◌, ℕ, refl, List, [], ◌∷◌, Option, Some, None}
use Rattle.std.specs.Prelude.{codes, option_map}
use Rattle.clap.specs.Words.{Text, fault_of, first_of, one_of, subcommand_of}
use Rattle.clap.specs.declared.error.kind.ErrorKind.TheVariants.{ArgumentConflict, DisplayHelp, DisplayVersion, MissingRequiredArgument}
use Rattle.clap.specs.declared.error.kind.ErrorKind.TheVariants.{MissingSubcommand, UnknownArgument, ValueValidation}
use Rattle.clap.proofs.OnLiterals.{clap_on_literals}
use Rattle.sq_words.specs.Command.{sqmod}
use Rattle.sq_words.specs.Reading.{files_of, row_numbers_of}

abbrev call : List Text → List Text
call words = codes "sqmod" ∷ codes "run" ∷ words

abbrev with_rows : Text → List Text
with_rows number = call (codes "--script" ∷ codes "c" ∷ codes "--rows" ∷ number ∷ [])

-- the values read of the words
abbrev read : List Text → Option (List Text × List Text × Option Text × ℕ)
read words =
    option_map (λ run. (
      files_of (codes "schema") run.1,
      files_of (codes "module") run.1,
      first_of (codes "script") run.1,
      row_numbers_of run.1,
    )) (subcommand_of sqmod words)

all_given : List Text
all_given =
    call
    (codes "--schema" ∷ codes "a" ∷ codes "--script=c" ∷ codes "--module" ∷ codes "m"
    ∷ codes "--schema" ∷ codes "b" ∷ codes "--rows" ∷ codes "007" ∷ [])

takes_all : fault_of sqmod all_given ≡ []
unfolding clap_on_literals all_given
takes_all = refl

reads_all : read all_given ≡ Some (codes "a" ∷ codes "b" ∷ [], codes "m" ∷ [], Some (codes "c"), 7)
unfolding clap_on_literals all_given
reads_all = refl

usual_rows : read (call (codes "--script" ∷ codes "c" ∷ [])) ≡ Some ([], [], Some (codes "c"), 1000000)
unfolding clap_on_literals
usual_rows = refl

wants_subcommand : fault_of sqmod (codes "sqmod" ∷ []) ≡ MissingSubcommand ∷ []
unfolding clap_on_literals
wants_subcommand = refl

wants_script : fault_of sqmod (call []) ≡ MissingRequiredArgument ∷ []
unfolding clap_on_literals
wants_script = refl

script_once : fault_of sqmod (call (codes "--script" ∷ codes "c" ∷ codes "--script" ∷ codes "d" ∷ [])) ≡ ArgumentConflict ∷ []
unfolding clap_on_literals
script_once = refl

no_rows : fault_of sqmod (with_rows (codes "0")) ≡ ValueValidation ∷ []
unfolding clap_on_literals
no_rows = refl

most_rows : fault_of sqmod (with_rows (codes "1000000000")) ≡ []
unfolding clap_on_literals
most_rows = refl

too_many_rows : fault_of sqmod (with_rows (codes "1000000001")) ≡ ValueValidation ∷ []
unfolding clap_on_literals
too_many_rows = refl

help : fault_of sqmod (codes "sqmod" ∷ codes "--help" ∷ []) ≡ DisplayHelp ∷ []
unfolding clap_on_literals
help = refl

other_option : fault_of sqmod (call (codes "--file" ∷ [])) ≡ UnknownArgument ∷ []
unfolding clap_on_literals
other_option = refl

-- ---- the other subcommands

checked : List Text → Option (Text × List Text × List Text)
checked words = option_map (λ s. (s.0, files_of (codes "schema") s.1, files_of (codes "module") s.1)) (subcommand_of sqmod words)

checks : checked (codes "sqmod" ∷ codes "check" ∷ codes "--schema" ∷ codes "a" ∷ codes "--module=m" ∷ codes "--schema=b" ∷ [])
    ≡ Some (codes "check", codes "a" ∷ codes "b" ∷ [], codes "m" ∷ [])
unfolding clap_on_literals checked
checks = refl

checked_without_rows : fault_of sqmod (codes "sqmod" ∷ codes "check" ∷ codes "--rows" ∷ codes "3" ∷ []) ≡ UnknownArgument ∷ []
unfolding clap_on_literals
checked_without_rows = refl

traced_without_script : fault_of sqmod (codes "sqmod" ∷ codes "trace" ∷ codes "--tables" ∷ []) ≡ MissingRequiredArgument ∷ []
unfolding clap_on_literals
traced_without_script = refl

shell_without_files : fault_of sqmod (codes "sqmod" ∷ codes "shell" ∷ []) ≡ []
unfolding clap_on_literals
shell_without_files = refl

explained : List Text → Option (Text × Option Text)
explained words = option_map (λ s. (s.0, first_of (codes "name") s.1)) (subcommand_of sqmod words)

explains : explained (codes "sqmod" ∷ codes "explain" ∷ codes "22001" ∷ []) ≡ Some (codes "explain", Some (codes "22001"))
unfolding clap_on_literals explained
explains = refl

lists : explained (codes "sqmod" ∷ codes "explain" ∷ []) ≡ Some (codes "explain", None)
unfolding clap_on_literals explained
lists = refl

one_name : fault_of sqmod (codes "sqmod" ∷ codes "explain" ∷ codes "a" ∷ codes "b" ∷ []) ≡ UnknownArgument ∷ []
unfolding clap_on_literals
one_name = refl

tested : List Text → Option (Text × List Text × List Text × Option Text)
tested words =
    option_map (λ s. (s.0, files_of (codes "folder") s.1, files_of (codes "filter") s.1, one_of (codes "list") s.1)) (subcommand_of sqmod words)

tests : tested (codes "sqmod" ∷ codes "test" ∷ codes "a" ∷ codes "--filter" ∷ codes "x*" ∷ codes "b" ∷ codes "--list" ∷ [])
    ≡ Some (codes "test", codes "a" ∷ codes "b" ∷ [], codes "x*" ∷ [], Some (codes "true"))
unfolding clap_on_literals tested
tests = refl

no_folder : fault_of sqmod (codes "sqmod" ∷ codes "test" ∷ []) ≡ MissingRequiredArgument ∷ []
unfolding clap_on_literals
no_folder = refl

version : fault_of sqmod (codes "sqmod" ∷ codes "--version" ∷ []) ≡ DisplayVersion ∷ []
unfolding clap_on_literals
version = refl

binds_c : checked (codes "sqmod" ∷ codes "bind-c" ∷ codes "--module" ∷ codes "m" ∷ codes "--module=n" ∷ [])
    ≡ Some (codes "bind-c", [], codes "m" ∷ codes "n" ∷ [])
unfolding clap_on_literals checked
binds_c = refl

binds_cobol : checked (codes "sqmod" ∷ codes "bind-cobol" ∷ codes "--module" ∷ codes "m" ∷ [])
    ≡ Some (codes "bind-cobol", [], codes "m" ∷ [])
unfolding clap_on_literals checked
binds_cobol = refl

no_module : fault_of sqmod (codes "sqmod" ∷ codes "bind-c" ∷ []) ≡ MissingRequiredArgument ∷ []
unfolding clap_on_literals
no_module = refl
