-- The task that the words of a command line ask for.
use Rattle.std.specs.Prelude.{ℕ, ◌≡◌, ◌||◌, Bool, List, [], map, codes, None, Some, true, false, IfSome, IsSome, unwrap_or}
use Rattle.std.specs.Option.{option_map, option_map_or}
use Rattle.std.specs.Str.{bytes_eq}
use Rattle.std.specs.Str.Parse.{digits_value, without_leading_plus}
use Rattle.clap.specs.Words.{IsUnsignedIn, Row, Text, all_of, first_of, one_of, subcommand_of}
use Rattle.sq_store.specs.declared.store.TheConstants.{MOST_ROW_NUMBERS}
use Rattle.sq_words.specs.Command.{sqmod}
use Rattle.sq_words.specs.declared.task.TheConstants.{USUAL_ROW_NUMBERS}
use Rattle.sq_words.specs.declared.task.CheckRequest.{CheckRequest}
use Rattle.sq_words.specs.declared.task.ExplainRequest.{ExplainRequest}
use Rattle.sq_words.specs.declared.task.NewRequest.{NewRequest}
use Rattle.sq_words.specs.declared.task.Request.{Request}
use Rattle.sq_words.specs.declared.task.ShellRequest.{ShellRequest}
use Rattle.sq_words.specs.declared.task.Task.{Task}
use Rattle.sq_words.specs.declared.task.Task.TheVariants.{Run, Check, Trace, Shell, Explain, Test, BindC, BindCobol, New}
use Rattle.sq_words.specs.declared.task.TestRequest.{TestRequest}
use Rattle.sq_words.specs.declared.task.TextsRequest.{TextsRequest}
use Rattle.sq_words.specs.declared.task.TraceRequest.{TraceRequest}

-- ---- the values that `run` was given

-- the files that an option gave, in the order of the words
abbrev pub files_of : Text → List Row → List Text
files_of option rows = unwrap_or (all_of option rows) []

-- the number that a text reads as
abbrev pub number_of : Text → ℕ
number_of text = digits_value 10 (without_leading_plus text)

abbrev pub row_numbers_of : List Row → ℕ
row_numbers_of rows = option_map_or number_of (one_of (codes "rows") rows) USUAL_ROW_NUMBERS

-- a number of rows that is in its range, if there is one
abbrev pub HasRowNumbers : List Row → Type 0
HasRowNumbers rows = IfSome (one_of (codes "rows") rows) (IsUnsignedIn 1 MOST_ROW_NUMBERS)

-- a script, and a number of rows
abbrev pub IsRun : List Row → Type 0
IsRun rows = IsSome (first_of (codes "script") rows) × HasRowNumbers rows

-- The request that `run` makes of what it was given.
pub record Makes (rows : List Row) (request : Request) : Type 0 where
  pub schemas : map (λ file. file.now) request.schemas.items ≡ files_of (codes "schema") rows
  pub modules : map (λ file. file.now) request.modules.items ≡ files_of (codes "module") rows
  pub script : Some request.script.now ≡ first_of (codes "script") rows
  pub row_numbers : request.row_numbers ≡ row_numbers_of rows

-- A flag is set if it was given.
pub record IsFlag (rows : List Row) (name : Text) (flag : Bool) : Type 0 where
  pub none : one_of name rows ≡ None → flag ≡ false
  pub given : one_of name rows ≡ Some (codes "true") → flag ≡ true
  pub other : one_of name rows ≡ Some (codes "false") → flag ≡ false

-- ---- the values that `check`, `trace`, `shell` and the commands that bind modules were given

-- The schemas and modules of what was given; what binds modules is given no schemas.
pub record MakesTexts (rows : List Row) (request : TextsRequest) : Type 0 where
  pub schemas : map (λ file. file.now) request.schemas.items ≡ files_of (codes "schema") rows
  pub modules : map (λ file. file.now) request.modules.items ≡ files_of (codes "module") rows

-- The request that `check` makes of what it was given.
pub record MakesCheck (rows : List Row) (request : CheckRequest) : Type 0 where
  pub texts : MakesTexts rows request.texts
  pub script : option_map (λ file. file.now) request.script ≡ first_of (codes "script") rows
  pub quiet : IsFlag rows (codes "quiet") request.quiet
  pub json : IsFlag rows (codes "json") request.json
  pub ways : IsFlag rows (codes "ways") request.ways

-- The request that `trace` makes of what it was given.
pub record MakesTrace (rows : List Row) (request : TraceRequest) : Type 0 where
  pub run : Makes rows request.run
  pub tables : IsFlag rows (codes "tables") request.tables
  pub stop : IsFlag rows (codes "stop") request.stop
  pub html : option_map (λ file. file.now) request.html ≡ first_of (codes "html") rows

-- The request that `shell` makes of what it was given.
pub record MakesShell (rows : List Row) (request : ShellRequest) : Type 0 where
  pub texts : MakesTexts rows request.texts
  pub row_numbers : request.row_numbers ≡ row_numbers_of rows

-- ---- the values that `new` was given

abbrev pub HasFolder : List Row → Type 0
HasFolder rows = IsSome (first_of (codes "folder") rows)

-- The request that `new` makes of what it was given.
abbrev pub MakesNew : List Row → NewRequest → Type 0
MakesNew rows request = Some request.folder.now ≡ first_of (codes "folder") rows

-- ---- the values that `explain` was given

-- The request that `explain` makes of what it was given.
abbrev pub MakesExplain : List Row → ExplainRequest → Type 0
MakesExplain rows request = option_map (λ name. name.now) request.name ≡ first_of (codes "name") rows

-- ---- the values that `test` was given

-- The request that `test` makes of what it was given.
pub record MakesTest (rows : List Row) (request : TestRequest) : Type 0 where
  pub folders : map (λ folder. folder.now) request.folders.items ≡ files_of (codes "folder") rows
  pub filters : map (λ filter. filter.now) request.filters.items ≡ files_of (codes "filter") rows
  pub shard : option_map (λ shard. shard.now) request.shard ≡ first_of (codes "shard") rows
  pub junit : option_map (λ file. file.now) request.junit ≡ first_of (codes "junit") rows
  pub list : IsFlag rows (codes "list") request.list
  pub update : IsFlag rows (codes "update") request.update

-- ---- the task that the words ask for

-- a subcommand that runs no script
abbrev pub is_other : Text → Bool
is_other name = bytes_eq name (codes "explain") || bytes_eq name (codes "test")
    || bytes_eq name (codes "bind-c") || bytes_eq name (codes "bind-cobol")
    || bytes_eq name (codes "new")

abbrev pub is_subcommand : Text → Bool
is_subcommand name = bytes_eq name (codes "run") || bytes_eq name (codes "check")
    || bytes_eq name (codes "trace") || bytes_eq name (codes "shell") || is_other name

-- a subcommand that the program has, with what it may be given
pub record IsGiven (name : Text) (rows : List Row) : Type 0 where
  pub is : is_subcommand name ≡ true
  pub run : bytes_eq name (codes "run") ≡ true → IsRun rows
  pub trace : bytes_eq name (codes "trace") ≡ true → IsRun rows
  pub shell : bytes_eq name (codes "shell") ≡ true → HasRowNumbers rows
  pub new : bytes_eq name (codes "new") ≡ true → HasFolder rows

-- one that runs no script, with what it may be given
pub record IsOther (name : Text) (rows : List Row) : Type 0 where
  pub is : is_other name ≡ true
  pub new : bytes_eq name (codes "new") ≡ true → HasFolder rows

-- the task that the subcommand of this name makes of what it was given
abbrev pub MakesTask : Text → List Row → Task → Type 0
MakesTask name rows (Run request) = (name ≡ codes "run") × Makes rows request
MakesTask name rows (Check request) = (name ≡ codes "check") × MakesCheck rows request
MakesTask name rows (Trace request) = (name ≡ codes "trace") × MakesTrace rows request
MakesTask name rows (Shell request) = (name ≡ codes "shell") × MakesShell rows request
MakesTask name rows (Explain request) = (name ≡ codes "explain") × MakesExplain rows request
MakesTask name rows (Test request) = (name ≡ codes "test") × MakesTest rows request
MakesTask name rows (BindC request) = (name ≡ codes "bind-c") × MakesTexts rows request
MakesTask name rows (BindCobol request) = (name ≡ codes "bind-cobol") × MakesTexts rows request
MakesTask name rows (New request) = (name ≡ codes "new") × MakesNew rows request

-- The words name a subcommand, and ask for this task.
abbrev pub AskFor : List Text → Task → Type 0
AskFor words task =
    (name : Text) × (rows : List Row) × (subcommand_of sqmod words ≡ Some (name, rows))
    × MakesTask name rows task
