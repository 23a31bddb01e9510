-- The values that a subcommand was given, if a parse had no fault.
use Rattle.std.proofs.Common.{◌≡◌, ◌∙◌, ◌<◌, ◌||◌, Bool, cond, true, false, not, refl, sym, ap, ap₂, subst, arith, true≢false}
use Rattle.std.proofs.Common.{List, [], ◌∷◌, length, Option, Some, None, is_some}
use Rattle.std.specs.Prelude.{IfSome, codes, find, option_and_then, option_map, slice_get, unwrap_or}
use Rattle.std.specs.Option.{option_map_or}
use Rattle.std.specs.Str.{bytes_eq}
use Rattle.std.proofs.lemmas.Slice.Eq.{bytes_eq-Decides}
use Rattle.clap.specs.Facts.{explicit_source, parser_of_value}
use Rattle.clap.specs.Walk.{Row, Rule, Text, answers_to, arg_by_id, first_of, nothing_held, row_text, rows_after, stop_after}
use Rattle.clap.specs.Simple.{App, Shape, argument_words, built, entered, is_simple, label_of, names_of, new_shape, rows_at, subcommand_of}
use Rattle.clap.specs.Takes.{is_given}
use Rattle.clap.specs.Values.{IsUnsignedIn, read_as, reading_of, refused_kind}
use Rattle.clap.specs.ValueTests.{accepts}
use Rattle.clap.specs.declared.builder.value_parser.Reading.{Reading}
use Rattle.clap.specs.declared.builder.value_parser.ValueParser.{ValueParser}
use Rattle.clap.specs.declared.builder.value_parser.ValueParser.TheVariants.{Unsigned}
use Rattle.clap.specs.Kinds.{value_kinds, values_kinds}
use Rattle.clap.specs.Faults.{check_fault, entered_fault, fault_of, is_simple_and_free, level_fault}
use Rattle.clap.specs.declared.error.kind.ErrorKind.TheVariants.{MissingRequiredArgument}
use Rattle.clap.proofs.OnLiterals.{clap_on_literals}
use Rattle.clap.proofs.ValueTestLemmas.{accepts-Accepts}
use Rattle.sq_words.specs.Command.{sqmod}
use Rattle.sq_words.specs.Reading.{HasRowNumbers, IsGiven, is_subcommand}
use Rattle.sq_store.specs.declared.store.TheConstants.{MOST_ROW_NUMBERS}
use Rattle.sq_words.proofs.Level.{IsPastHelp, level_passed}
use Rattle.sq_words.proofs.Uses.{AllPassed, Each, IsOption, Passed, neither, some_kind}

-- the command as it is built
abbrev whole : App
whole = built sqmod

abbrev run_level : Shape
run_level = unwrap_or (slice_get whole.subs 0) (new_shape [])

abbrev check_level : Shape
check_level = unwrap_or (slice_get whole.subs 1) (new_shape [])

abbrev trace_level : Shape
trace_level = unwrap_or (slice_get whole.subs 2) (new_shape [])

abbrev shell_level : Shape
shell_level = unwrap_or (slice_get whole.subs 3) (new_shape [])

abbrev explain_level : Shape
explain_level = unwrap_or (slice_get whole.subs 4) (new_shape [])

abbrev test_level : Shape
test_level = unwrap_or (slice_get whole.subs 5) (new_shape [])

abbrev bind_c_level : Shape
bind_c_level = unwrap_or (slice_get whole.subs 6) (new_shape [])

abbrev bind_cobol_level : Shape
bind_cobol_level = unwrap_or (slice_get whole.subs 7) (new_shape [])

abbrev new_level : Shape
new_level = unwrap_or (slice_get whole.subs 8) (new_shape [])

abbrev help_level : Shape
help_level = unwrap_or (slice_get whole.subs 9) (new_shape [])

pub is_simple_command : is_simple sqmod ≡ true
is_simple_command = refl

pub is_free_command : is_simple_and_free sqmod ≡ true
is_free_command = refl

run_options : Each (IsOption run_level.rules) run_level.rules
unfolding clap_on_literals
run_options = ((refl, refl), ((refl, refl), ((refl, refl), ((refl, refl), ((refl, refl), tt)))))

trace_options : Each (IsOption trace_level.rules) trace_level.rules
unfolding clap_on_literals
trace_options = ((refl, refl), ((refl, refl), ((refl, refl), ((refl, refl), ((refl, refl), ((refl, refl), ((refl, refl), ((refl, refl), tt))))))))

shell_options : Each (IsOption shell_level.rules) shell_level.rules
unfolding clap_on_literals
shell_options = ((refl, refl), ((refl, refl), ((refl, refl), ((refl, refl), tt))))

new_options : Each (IsOption new_level.rules) new_level.rules
unfolding clap_on_literals
new_options = ((refl, refl), ((refl, refl), tt))

top_options : Each (IsOption whole.top.rules) whole.top.rules
unfolding clap_on_literals
top_options = ((refl, refl), ((refl, refl), tt))

-- ---- the subcommand

-- the values that a subcommand was given passed, and an argument that must be given was
abbrev pub IsSound : List Rule → Text → List Row → Type 0
IsSound c required rows = AllPassed c rows × (is_given required rows ≡ true)

abbrev pub IsSoundRun : List Row → Type 0
IsSoundRun = IsSound run_level.rules (codes "script")

abbrev pub IsSoundTrace : List Row → Type 0
IsSoundTrace = IsSound trace_level.rules (codes "script")

abbrev pub IsSoundShell : List Row → Type 0
IsSoundShell = AllPassed shell_level.rules

abbrev pub IsSoundNew : List Row → Type 0
IsSoundNew = IsSound new_level.rules (codes "folder")

-- if one argument must be given, a level without a fault was given it
is_required : (b : Bool) → cond (not b || false) (MissingRequiredArgument ∷ []) [] ≡ [] → b ≡ true
is_required true e = refl
is_required false e = some_kind _ _ e

sound_run : (words : List Text) → level_fault run_level [] nothing_held words false [] ≡ [] → IsSoundRun (rows_at run_level words).1
sound_run words none =
    let level = level_passed run_level [] words false [] run_options none in
    (level.rows, is_required (is_given (codes "script") (rows_at run_level words).1) level.checked)

sound_trace : (words : List Text) → level_fault trace_level [] nothing_held words false [] ≡ [] → IsSoundTrace (rows_at trace_level words).1
sound_trace words none =
    let level = level_passed trace_level [] words false [] trace_options none in
    (level.rows, is_required (is_given (codes "script") (rows_at trace_level words).1) level.checked)

sound_shell : (words : List Text) → level_fault shell_level [] nothing_held words false [] ≡ [] → IsSoundShell (rows_at shell_level words).1
sound_shell words none = (level_passed shell_level [] words false [] shell_options none).rows

sound_new : (words : List Text) → level_fault new_level [] nothing_held words false [] ≡ [] → IsSoundNew (rows_at new_level words).1
sound_new words none =
    let level = level_passed new_level [] words false [] new_options none in
    (level.rows, is_required (is_given (codes "folder") (rows_at new_level words).1) level.checked)

-- a name other than `help` is not the name of the subcommand `help`
no_help : (name : Text) → bytes_eq name (codes "help") ≡ false → answers_to name (label_of help_level) ≡ true → ⊥
no_help name other named = go (bytes_eq (codes "help") name) refl named
  where
    go : (b : Bool) → bytes_eq (codes "help") name ≡ b → (b || false) ≡ true → ⊥
    go true e h =
        let same : codes "help" ≡ name = (bytes_eq-Decides (codes "help") name).0 e in
        let bad : bytes_eq (codes "help") (codes "help") ≡ false = ap (λ n. bytes_eq n (codes "help")) same ∙ other in
        true≢false bad
    go false e h = true≢false (sym h)

-- the values that a subcommand of this name was given passed
pub record IsSoundFor (name : Text) (rows : List Row) : Type 0 where
  pub run : bytes_eq name (codes "run") ≡ true → IsSoundRun rows
  pub trace : bytes_eq name (codes "trace") ≡ true → IsSoundTrace rows
  pub shell : bytes_eq name (codes "shell") ≡ true → IsSoundShell rows
  pub new : bytes_eq name (codes "new") ≡ true → IsSoundNew rows

-- the subcommand that was met is one of the program's, with what it was given
pub record MeetsOne (met : Option (Text × List Row)) : Type 0 where
  pub name : Text
  pub rows : List Row
  pub is : met ≡ Some (name, rows)
  pub known : is_subcommand name ≡ true
  pub sound : IsSoundFor name rows

abbrev level_by : Bool → Bool → Bool → Bool → Bool → Bool → Bool → Bool → Bool → Bool → Option Shape
level_by is_run is_check is_trace is_shell is_explain is_test is_bind_c is_bind_cobol is_new is_help =
    cond is_run (Some run_level) (cond is_check (Some check_level) (cond is_trace (Some trace_level) (cond is_shell (Some shell_level) (cond is_explain (Some explain_level) (cond is_test (Some test_level) (cond is_bind_c (Some bind_c_level) (cond is_bind_cobol (Some bind_cobol_level) (cond is_new (Some new_level) (cond is_help (Some help_level) None)))))))))

no_truth : {A : Type 0} → false ≡ true → A
no_truth e = absurd (true≢false (sym e))

run_is_one : is_subcommand (codes "run") ≡ true
unfolding clap_on_literals
run_is_one = refl

run_is_sound : (rows : List Row) → IsSoundRun rows → IsSoundFor (codes "run") rows
unfolding clap_on_literals
run_is_sound rows sound = record {
  run = λ _. sound;
  trace = no_truth;
  shell = no_truth;
  new = no_truth;
}

check_is_one : is_subcommand (codes "check") ≡ true
unfolding clap_on_literals
check_is_one = refl

check_is_sound : (rows : List Row) → IsSoundFor (codes "check") rows
unfolding clap_on_literals
check_is_sound rows = record {
  run = no_truth;
  trace = no_truth;
  shell = no_truth;
  new = no_truth;
}

trace_is_one : is_subcommand (codes "trace") ≡ true
unfolding clap_on_literals
trace_is_one = refl

trace_is_sound : (rows : List Row) → IsSoundTrace rows → IsSoundFor (codes "trace") rows
unfolding clap_on_literals
trace_is_sound rows sound = record {
  run = no_truth;
  trace = λ _. sound;
  shell = no_truth;
  new = no_truth;
}

shell_is_one : is_subcommand (codes "shell") ≡ true
unfolding clap_on_literals
shell_is_one = refl

shell_is_sound : (rows : List Row) → IsSoundShell rows → IsSoundFor (codes "shell") rows
unfolding clap_on_literals
shell_is_sound rows sound = record {
  run = no_truth;
  trace = no_truth;
  shell = λ _. sound;
  new = no_truth;
}

explain_is_one : is_subcommand (codes "explain") ≡ true
unfolding clap_on_literals
explain_is_one = refl

explain_is_sound : (rows : List Row) → IsSoundFor (codes "explain") rows
unfolding clap_on_literals
explain_is_sound rows = record {
  run = no_truth;
  trace = no_truth;
  shell = no_truth;
  new = no_truth;
}

test_is_one : is_subcommand (codes "test") ≡ true
unfolding clap_on_literals
test_is_one = refl

test_is_sound : (rows : List Row) → IsSoundFor (codes "test") rows
unfolding clap_on_literals
test_is_sound rows = record {
  run = no_truth;
  trace = no_truth;
  shell = no_truth;
  new = no_truth;
}

bind_c_is_one : is_subcommand (codes "bind-c") ≡ true
unfolding clap_on_literals
bind_c_is_one = refl

bind_c_is_sound : (rows : List Row) → IsSoundFor (codes "bind-c") rows
unfolding clap_on_literals
bind_c_is_sound rows = record {
  run = no_truth;
  trace = no_truth;
  shell = no_truth;
  new = no_truth;
}

bind_cobol_is_one : is_subcommand (codes "bind-cobol") ≡ true
unfolding clap_on_literals
bind_cobol_is_one = refl

bind_cobol_is_sound : (rows : List Row) → IsSoundFor (codes "bind-cobol") rows
unfolding clap_on_literals
bind_cobol_is_sound rows = record {
  run = no_truth;
  trace = no_truth;
  shell = no_truth;
  new = no_truth;
}

new_is_one : is_subcommand (codes "new") ≡ true
unfolding clap_on_literals
new_is_one = refl

new_is_sound : (rows : List Row) → IsSoundNew rows → IsSoundFor (codes "new") rows
unfolding clap_on_literals
new_is_sound rows sound = record {
  run = no_truth;
  trace = no_truth;
  shell = no_truth;
  new = λ _. sound;
}

met_one : (own : List Row) (stop : Option (Text × List Text)) → IsPastHelp whole.top stop → entered_fault whole stop ≡ []
    → check_fault whole.top own (is_some (entered whole stop)) ≡ [] → MeetsOne (entered whole stop)
met_one own None past under checked = some_kind _ _ checked
met_one own (Some p) past under checked =
    go (answers_to p.0 (label_of run_level))
    (answers_to p.0 (label_of check_level))
    (answers_to p.0 (label_of trace_level))
    (answers_to p.0 (label_of shell_level))
    (answers_to p.0 (label_of explain_level))
    (answers_to p.0 (label_of test_level))
    (answers_to p.0 (label_of bind_c_level))
    (answers_to p.0 (label_of bind_cobol_level))
    (answers_to p.0 (label_of new_level))
    (answers_to p.0 (label_of help_level))
    (no_help p.0 (past refl)) under checked
  where
    go : (is_run is_check is_trace is_shell is_explain is_test is_bind_c is_bind_cobol is_new is_help : Bool) → (is_help ≡ true → ⊥)
        → option_map_or (λ s. level_fault s [] nothing_held p.1 false []) (level_by is_run is_check is_trace is_shell is_explain is_test is_bind_c is_bind_cobol is_new is_help) [] ≡ []
        → check_fault whole.top own (is_some (option_map (λ s. rows_at s p.1) (level_by is_run is_check is_trace is_shell is_explain is_test is_bind_c is_bind_cobol is_new is_help))) ≡ []
        → MeetsOne (option_map (λ s. rows_at s p.1) (level_by is_run is_check is_trace is_shell is_explain is_test is_bind_c is_bind_cobol is_new is_help))
    go true is_check is_trace is_shell is_explain is_test is_bind_c is_bind_cobol is_new is_help other e checked =
        record { name = codes "run"; rows = (rows_at run_level p.1).1; is = refl; known = run_is_one; sound = run_is_sound (rows_at run_level p.1).1 (sound_run p.1 e) }
    go false true is_trace is_shell is_explain is_test is_bind_c is_bind_cobol is_new is_help other e checked =
        record { name = codes "check"; rows = (rows_at check_level p.1).1; is = refl; known = check_is_one; sound = check_is_sound (rows_at check_level p.1).1 }
    go false false true is_shell is_explain is_test is_bind_c is_bind_cobol is_new is_help other e checked =
        record { name = codes "trace"; rows = (rows_at trace_level p.1).1; is = refl; known = trace_is_one; sound = trace_is_sound (rows_at trace_level p.1).1 (sound_trace p.1 e) }
    go false false false true is_explain is_test is_bind_c is_bind_cobol is_new is_help other e checked =
        record { name = codes "shell"; rows = (rows_at shell_level p.1).1; is = refl; known = shell_is_one; sound = shell_is_sound (rows_at shell_level p.1).1 (sound_shell p.1 e) }
    go false false false false true is_test is_bind_c is_bind_cobol is_new is_help other e checked =
        record { name = codes "explain"; rows = (rows_at explain_level p.1).1; is = refl; known = explain_is_one; sound = explain_is_sound (rows_at explain_level p.1).1 }
    go false false false false false true is_bind_c is_bind_cobol is_new is_help other e checked =
        record { name = codes "test"; rows = (rows_at test_level p.1).1; is = refl; known = test_is_one; sound = test_is_sound (rows_at test_level p.1).1 }
    go false false false false false false true is_bind_cobol is_new is_help other e checked =
        record { name = codes "bind-c"; rows = (rows_at bind_c_level p.1).1; is = refl; known = bind_c_is_one; sound = bind_c_is_sound (rows_at bind_c_level p.1).1 }
    go false false false false false false false true is_new is_help other e checked =
        record { name = codes "bind-cobol"; rows = (rows_at bind_cobol_level p.1).1; is = refl; known = bind_cobol_is_one; sound = bind_cobol_is_sound (rows_at bind_cobol_level p.1).1 }
    go false false false false false false false false true is_help other e checked =
        record { name = codes "new"; rows = (rows_at new_level p.1).1; is = refl; known = new_is_one; sound = new_is_sound (rows_at new_level p.1).1 (sound_new p.1 e) }
    go false false false false false false false false false true other e checked = absurd (other refl)
    go false false false false false false false false false false other e checked = some_kind _ _ checked

-- words with no fault name a subcommand
pub meets_one : (words : List Text) → fault_of sqmod words ≡ [] → MeetsOne (subcommand_of sqmod words)
meets_one words none =
    let given = argument_words sqmod words in
    let stop = stop_after whole.top.rules (names_of whole) given in
    let level = level_passed whole.top (names_of whole) given (is_some (entered whole stop)) (entered_fault whole stop) top_options none in
    met_one (rows_after whole.top.rules (names_of whole) given) stop level.stop level.under level.checked

-- ---- the values that `run` was given

abbrev row_numbers : ValueParser
row_numbers = Unsigned 1 MOST_ROW_NUMBERS

-- the row of an argument holds values of it that passed
passed_row : (c : List Rule) (id : Text) (rows : List Row) (r : Row) → AllPassed c rows → find (λ x. bytes_eq x.id id) rows ≡ Some r
    → (a : Rule) → arg_by_id c id ≡ Some a → Passed a r
passed_row c id [] r all found a is = absurd (true≢false (sym (ap is_some found)))
passed_row c id (x ∷ rest) r all found a is = go (bytes_eq x.id id) refl found (λ later. passed_row c id rest r all.1 later a is)
  where
    go : (b : Bool) → bytes_eq x.id id ≡ b → cond b (Some x) (find (λ x. bytes_eq x.id id) rest) ≡ Some r
        → (find (λ x. bytes_eq x.id id) rest ≡ Some r → Passed a r) → Passed a r
    go true e here later =
        let same : x.id ≡ id = (bytes_eq-Decides x.id id).0 e in
        subst (Passed a) (ap (λ o. unwrap_or o r) here) (all.0 a (ap (arg_by_id c) same ∙ is))
    go false e there later = later there

first_there : (vs : List Text) → 0 < length vs → is_some (slice_get vs 0) ≡ true
first_there [] lt = absurd (omega arith)
first_there (v ∷ vs) lt = refl

first_given : (c : List Rule) (id : Text) (a : Rule) → arg_by_id c id ≡ Some a → (rows : List Row) → IsSound c id rows
    → is_some (first_of id rows) ≡ true
first_given c id a at rows sound = go (find (λ r. bytes_eq r.id id) rows) refl sound.1
  where
    go : (o : Option Row) → find (λ r. bytes_eq r.id id) rows ≡ o → option_map_or (λ r. explicit_source r.source) o false ≡ true
        → is_some (option_and_then (λ r. slice_get r.values 0) o) ≡ true
    go None e given = absurd (true≢false (sym given))
    go (Some r) e given = first_there r.values (passed_row c id rows r sound.0 e a at).given

pub script_there : (rows : List Row) → IsSoundRun rows → is_some (first_of (codes "script") rows) ≡ true
script_there = first_given run_level.rules (codes "script") _ refl

pub traced_script_there : (rows : List Row) → IsSoundTrace rows → is_some (first_of (codes "script") rows) ≡ true
traced_script_there = first_given trace_level.rules (codes "script") _ refl

pub folder_there : (rows : List Row) → IsSoundNew rows → is_some (first_of (codes "folder") rows) ≡ true
folder_there = first_given new_level.rules (codes "folder") _ refl

-- the first number of rows passed its range
accepted : (v : Text) (rest : List Text) → values_kinds false row_numbers (v ∷ rest) ≡ [] → IsUnsignedIn 1 MOST_ROW_NUMBERS v
accepted v rest none =
    accepts-Accepts false row_numbers v (go (accepts false row_numbers v) (neither (value_kinds false row_numbers v) _ none).0)
  where
    go : (b : Bool) → cond b [] (refused_kind row_numbers ∷ []) ≡ [] → b ≡ true
    go true e = refl
    go false e = some_kind _ _ e

-- the argument whose values are numbers of rows
pub record IsOfRows (a : Rule) : Type 0 where
  pub ignore_case : a.ignore_case ≡ false
  pub parser : parser_of_value a.parser ≡ row_numbers

in_range : (c : List Rule) (a : Rule) → arg_by_id c (codes "rows") ≡ Some a → IsOfRows a → (rows : List Row) → AllPassed c rows → HasRowNumbers rows
in_range c a at of rows sound = go (find (λ r. bytes_eq r.id (codes "rows")) rows) refl
  where
    first : (vs : List Text) (how : Reading) → how ≡ reading_of row_numbers → values_kinds false row_numbers vs ≡ []
        → IfSome (option_map (read_as how) (slice_get vs 0)) (IsUnsignedIn 1 MOST_ROW_NUMBERS)
    first [] how is none = tt
    first (v ∷ vs) how is none = subst (λ h. IsUnsignedIn 1 MOST_ROW_NUMBERS (read_as h v)) (sym is) (accepted v vs none)

    go : (o : Option Row) → find (λ r. bytes_eq r.id (codes "rows")) rows ≡ o
        → IfSome (option_and_then row_text o) (IsUnsignedIn 1 MOST_ROW_NUMBERS)
    go None e = tt
    go (Some r) e =
        let passed = passed_row c (codes "rows") rows r sound e a at in
        first r.values r.reading (passed.reading ∙ ap reading_of of.parser)
        (sym (ap₂ (λ i p. values_kinds i p r.values) of.ignore_case of.parser) ∙ passed.values)

pub rows_in_range : (rows : List Row) → IsSoundRun rows → HasRowNumbers rows
rows_in_range rows sound = in_range run_level.rules _ refl (record { ignore_case = refl; parser = refl }) rows sound.0

pub traced_rows_in_range : (rows : List Row) → IsSoundTrace rows → HasRowNumbers rows
traced_rows_in_range rows sound = in_range trace_level.rules _ refl (record { ignore_case = refl; parser = refl }) rows sound.0

pub shell_rows_in_range : (rows : List Row) → IsSoundShell rows → HasRowNumbers rows
shell_rows_in_range = in_range shell_level.rules _ refl (record { ignore_case = refl; parser = refl })

-- the request of a subcommand is made of the values that it was given
pub given_for : (name : Text) (rows : List Row) → is_subcommand name ≡ true → IsSoundFor name rows → IsGiven name rows
given_for name rows known sound = record {
  is = known;
  run = λ e. (script_there rows (sound.run e), rows_in_range rows (sound.run e));
  trace = λ e. (traced_script_there rows (sound.trace e), traced_rows_in_range rows (sound.trace e));
  shell = λ e. shell_rows_in_range rows (sound.shell e);
  new = λ e. folder_there rows (sound.new e);
}
