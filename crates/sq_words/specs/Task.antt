-- The tasks of a command line, and the files that they name.
use Rattle.std.specs.Prelude.{ℕ, ◌<◌, ◌≤◌, List, [], length, slice_get, Option, Some, ⊤, unwrap_or}
use Rattle.std.specs.Borrow.{Bor}
use Rattle.std.specs.Option.{option_map}
use Rattle.clap.specs.Words.{Text}
use Rattle.sq_store.specs.declared.store.TheConstants.{MOST_ROW_NUMBERS}
use Rattle.sq_words.specs.declared.task.Request.{Request}
use Rattle.sq_words.specs.declared.task.Source.{Source}
use Rattle.sq_words.specs.declared.task.Source.TheVariants.{Schema, Module, Script}
use Rattle.sq_words.specs.declared.task.Task.{Task}
use Rattle.sq_words.specs.declared.task.Task.TheVariants.{Run, Check, Trace, Shell, Explain, Test, BindC, BindCobol, New}
use Rattle.sq_words.specs.declared.task.TextsRequest.{TextsRequest}

-- A text is one of this many schemas and modules, or the script.
abbrev pub IsAmong : ℕ → ℕ → Source → Type 0
IsAmong schemas modules (Schema index) = index < schemas
IsAmong schemas modules (Module index) = index < modules
IsAmong schemas modules Script = ⊤

-- A text is one of the request's.
abbrev pub HasFile : Request → Source → Type 0
HasFile request source = IsAmong (length request.schemas.items) (length request.modules.items) source

-- the name at an index
abbrev pub name_at : List (Bor (List ℕ)) → ℕ → Option (List ℕ)
name_at files index = option_map (λ file. file.now) (slice_get files index)

-- the name of the file of a text
abbrev pub file_of : Request → Source → Option (List ℕ)
file_of request (Schema index) = name_at request.schemas.items index
file_of request (Module index) = name_at request.modules.items index
file_of request Script = Some request.script.now

-- A text is one of these, of which none is a script.
abbrev pub HasCheckedFile : TextsRequest → Source → Type 0
HasCheckedFile request source = IsAmong (length request.schemas.items) (length request.modules.items) source

abbrev pub checked_file_of : TextsRequest → Source → Text
checked_file_of request (Schema index) = unwrap_or (name_at request.schemas.items index) []
checked_file_of request (Module index) = unwrap_or (name_at request.modules.items index) []
checked_file_of request Script = []

-- A run is not asked to have more row numbers than a store can have.
abbrev pub IsLimited : Task → Type 0
IsLimited (Run request) = request.row_numbers ≤ MOST_ROW_NUMBERS
IsLimited (Check request) = ⊤
IsLimited (Trace request) = request.run.row_numbers ≤ MOST_ROW_NUMBERS
IsLimited (Shell request) = request.row_numbers ≤ MOST_ROW_NUMBERS
IsLimited (Explain request) = ⊤
IsLimited (Test request) = ⊤
IsLimited (BindC request) = ⊤
IsLimited (BindCobol request) = ⊤
IsLimited (New request) = ⊤
