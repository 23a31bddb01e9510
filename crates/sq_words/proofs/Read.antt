-- The values that the getters read of the rows that a parse left.
use Rattle.std.proofs.Common.{◌≡◌, ◌∙◌, ◌≤◌, ℕ, refl, sym, ap, arith, List, [], map, Option, Some, None, Result, Ok}
use Rattle.std.proofs.Common.{Err, subst, true}
use Rattle.std.specs.Prelude.{IfSome, codes, option_map, unwrap_or}
use Rattle.std.specs.Option.{option_map_or}
use Rattle.std.specs.Result.{IsErrAnd}
use Rattle.std.specs.Borrow.{Bor}
use Rattle.std.specs.Str.Parse.{ParsesUnsigned}
use Rattle.clap.specs.Matches.{ReadsOne, first_value, matched_of, one_text, raw_values, subcommand_name_of}
use Rattle.clap.specs.Kinds.{FailsBy, HasKind, Kinds}
use Rattle.clap.specs.Words.{App, HasMatchesOf, IsUnsignedIn, Row, Text, fault_of, first_of, is_simple, is_simple_and_free, one_of, rows_of}
use Rattle.clap.specs.Words.{subcommand_of, subcommand_rows_of}
use Rattle.clap.specs.declared.error.Error.{Error}
use Rattle.clap.specs.declared.parser.matches.ArgMatches.{ArgMatches, out-ArgMatches}
use Rattle.clap.specs.declared.parser.matches.Found.{Found as Entries}
use Rattle.clap.proofs.WalkLemmas.{first_value-rows, one_text-rows, raw_values-rows}
use Rattle.sq_store.specs.declared.store.TheConstants.{MOST_ROW_NUMBERS}
use Rattle.sq_words.specs.declared.task.TheConstants.{USUAL_ROW_NUMBERS}
use Rattle.sq_words.specs.Command.{sqmod}
use Rattle.sq_words.specs.Reading.{HasRowNumbers, files_of, number_of, row_numbers_of}
use Rattle.sq_words.proofs.Given.{MeetsOne, is_free_command, is_simple_command, meets_one}

-- the texts of an option, or none
pub files_read : (f : Entries) (option : Text) (given : Option (Bor (List (Bor Text))))
    → option_map (λ s. map (λ v. v.now) s.now) given ≡ option_map raw_values (matched_of f option)
    → unwrap_or (option_map (λ s. map (λ v. v.now) s.now) given) [] ≡ files_of option (rows_of f)
files_read f option given is = ap (λ o. unwrap_or o []) (is ∙ raw_values-rows f option)

-- the number of rows, which is in its range, or the usual one, by what `u64` reads of a text
module _ {E : Type 0} (gives : List ℕ → Result ℕ E → Type 0)
    (reads : (text : List ℕ) (r : Result ℕ E) → gives text r → ParsesUnsigned 64 10 text r) where
  number_read : (o : Option Text) (given : Option ℕ) → (o ≡ None → given ≡ None) → ((t : Text) → o ≡ Some t → ReadsOne gives t given)
      → IfSome o (IsUnsignedIn 1 MOST_ROW_NUMBERS)
      → (unwrap_or given USUAL_ROW_NUMBERS ≡ option_map_or number_of o USUAL_ROW_NUMBERS)
      × (unwrap_or given USUAL_ROW_NUMBERS ≤ MOST_ROW_NUMBERS)
  number_read None given none value fits =
      let usual : unwrap_or given USUAL_ROW_NUMBERS ≡ USUAL_ROW_NUMBERS = ap (λ o. unwrap_or o USUAL_ROW_NUMBERS) (none refl) in
      (usual, rw usual (omega arith))
  number_read (Some t) (Some n) none value fits =
      let is : n ≡ number_of t = (reads t (Ok n) (value t refl)).1 in
      (is, rw is fits.3)
  number_read (Some t) None none value fits =
      let failed = value t refl in
      absurd (reads t (Err failed.0) failed.1 (fits.0, fits.1))

  pub row_numbers_read : (f : Entries) (given : Option ℕ) → (one_text f (codes "rows") ≡ None → given ≡ None)
      → ((t : Text) → one_text f (codes "rows") ≡ Some t → ReadsOne gives t given) → HasRowNumbers (rows_of f)
      → (unwrap_or given USUAL_ROW_NUMBERS ≡ row_numbers_of (rows_of f)) × (unwrap_or given USUAL_ROW_NUMBERS ≤ MOST_ROW_NUMBERS)
  row_numbers_read f given none value run =
      let same = one_text-rows f (codes "rows") in
      number_read (one_of (codes "rows") (rows_of f)) given (λ e. none (same ∙ e)) (λ t e. value t (same ∙ e)) run

-- the first value of an argument
pub first_read : (f : Entries) (id : Text) (given : Option (Bor Text)) → option_map (λ s. s.now) given ≡ first_value f id
    → option_map (λ s. s.now) given ≡ first_of id (rows_of f)
first_read f id given is = is ∙ first_value-rows f id

-- the name of the script
pub script_read : (f : Entries) (given : Option (Bor Text)) → option_map (λ s. s.now) given ≡ first_value f (codes "script")
    → option_map (λ s. s.now) given ≡ first_of (codes "script") (rows_of f)
script_read f = first_read f (codes "script")

-- a parse that ended well found words with no fault, which name a subcommand
pub record Found (words : List Text) (m : ArgMatches) : Type 0 where
  pub no_fault : fault_of sqmod words ≡ []
  pub met : MeetsOne (subcommand_of sqmod words)
  pub entered : subcommand_rows_of m ≡ Some (met.name, met.rows)

pub one_found : (a : App) (words : List Text) (m : ArgMatches) → a ≡ sqmod → (is_simple_and_free a ≡ true → fault_of a words ≡ [])
    → HasMatchesOf a words m
    → Found words m
one_found a words m app none matches =
    let no_fault : fault_of sqmod words ≡ [] = ap (λ x. fault_of x words) (sym app) ∙ none (ap is_simple_and_free app ∙ is_free_command) in
    let met = meets_one words no_fault in
    record {
      no_fault = no_fault;
      met = met;
      entered = (matches (ap is_simple app ∙ is_simple_command)).1 ∙ (ap (λ x. subcommand_of x words) app ∙ met.is);
    }

-- An error of the parse is of a kind that the words' fault has.
pub kind_found : (a : App) (words : List Text) (e : Error) → a ≡ sqmod
    → (is_simple_and_free a ≡ true → HasKind (fault_of a words) e) → HasKind (fault_of sqmod words) e
kind_found a words e app kinds = subst (λ x. HasKind (fault_of x words) e) app (kinds (ap is_simple_and_free app ∙ is_free_command))

pub fails_by : {T : Type 0} (kinds : Kinds) (r : Result T Error) (e : Error) → IsErrAnd r (λ x. x ≡ e) → HasKind kinds e → FailsBy kinds r
fails_by kinds (Ok x) e is kind = absurd is
fails_by kinds (Err x) e is kind = subst (HasKind kinds) (sym is) kind

-- the getter of the subcommand gives its rows
pub rows_found : {P : Type 0} (words : List Text) (m : ArgMatches) (found : Found words m) (rows_at : P → List Row) (o : Option P) (p : P)
    → option_map rows_at o ≡ option_map (λ s. s.1) (subcommand_rows_of m) → o ≡ Some p → found.met.rows ≡ rows_at p
rows_found words m found rows_at o p is some =
    let given : Some found.met.rows ≡ option_map rows_at o = sym (ap (option_map (λ s. s.1)) found.entered) ∙ sym is in
    ap (λ x. unwrap_or x found.met.rows) (given ∙ ap (option_map rows_at) some)

mapped_twice : {A B C : Type 0} (f : A → B) (g : B → C) (o : Option A) → option_map (λ a. g (f a)) o ≡ option_map g (option_map f o)
mapped_twice f g None = refl
mapped_twice f g (Some a) = refl

named_alike : (m : ArgMatches) → subcommand_name_of m ≡ option_map (λ s. s.0) (subcommand_rows_of m)
named_alike m = mapped_twice _ (λ s. s.0) (out-ArgMatches m).subcommand

-- and its name
pub name_found : {P : Type 0} (words : List Text) (m : ArgMatches) (found : Found words m) (name_at : P → Text) (o : Option P) (p : P)
    → option_map name_at o ≡ subcommand_name_of m → o ≡ Some p → found.met.name ≡ name_at p
name_found words m found name_at o p is some =
    let given : Some found.met.name ≡ option_map name_at o = sym (named_alike m ∙ ap (option_map (λ s. s.0)) found.entered) ∙ sym is in
    ap (λ x. unwrap_or x found.met.name) (given ∙ ap (option_map name_at) some)
