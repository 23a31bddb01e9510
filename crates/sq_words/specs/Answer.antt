-- What is said in place of a task.
use Rattle.std.specs.Prelude.{Bool, List, codes, slice_get, true, false}
use Rattle.std.specs.Option.{option_map_or}
use Rattle.std.specs.Str.{bytes_eq}
use Rattle.clap.specs.Words.{Text}
use Rattle.clap.specs.declared.error.kind.ErrorKind.{ErrorKind}
use Rattle.clap.specs.declared.error.kind.ErrorKind.TheVariants.{DisplayHelp, DisplayVersion}

-- The words ask for an answer of this kind: for the version, or by `sqmod help` for help.
abbrev pub is_asked_for : List Text → ErrorKind → Bool
is_asked_for words DisplayVersion = true
is_asked_for words DisplayHelp = option_map_or (λ word. bytes_eq word (codes "help")) (slice_get words 1) false
is_asked_for words _ = false
