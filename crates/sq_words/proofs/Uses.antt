-- One use of an option, with no fault, keeps every row's values passed.
use Rattle.std.proofs.Common.{◌≡◌, ◌∙◌, ◌<◌, ◌||◌, ℕ, Bool, cond, true, false, not, refl, sym, ap, arith, true≢false}
use Rattle.std.proofs.Common.{List, [], ◌∷◌, ◌++◌, length, nat_lt, Some, None}
use Rattle.std.specs.Prelude.{unwrap_or, ⊤}
use Rattle.std.specs.Str.{bytes_eq}
use Rattle.std.proofs.lemmas.Slice.Eq.{bytes_eq-Decides}
use Rattle.clap.specs.Values.{is_request}
use Rattle.clap.specs.Facts.{parser_of_value, unwrap_or_range}
use Rattle.clap.specs.Walk.{Row, Rule, Text, action_of, arg_by_id, at_row, is_empty, more_values, most_values, reading_by}
use Rattle.clap.specs.Walk.{used, used_as, values_or_missing, with_values, without}
use Rattle.clap.specs.Kinds.{Kinds, or_else, range_kinds, value_kinds, values_kinds}
use Rattle.clap.specs.Faults.{action_fault, repeat_fault, use_fault, values_fault}
use Rattle.clap.specs.declared.builder.action.ArgAction.{ArgAction}
use Rattle.clap.specs.declared.builder.action.ArgAction.TheVariants as action
use Rattle.clap.specs.declared.builder.value_parser.ValueParser.{ValueParser}
use Rattle.clap.specs.declared.error.kind.ErrorKind.{ErrorKind}
use Rattle.clap.specs.declared.error.kind.ErrorKind.TheVariants.{InvalidValue}
use Rattle.clap.specs.declared.parser.matches.ValueSource.{ValueSource}
use Rattle.clap.specs.declared.parser.matches.ValueSource.TheVariants.{CommandLine}

-- ---- definitions

-- a use leaves a value: at least one is given, or the argument has one for none
abbrev pub leaves_value : Rule → Bool
leaves_value a = nat_lt 0 (unwrap_or_range a.range).start_inclusive || not (is_empty a.missing)

-- a use of the argument leaves a value, or ends the parse
abbrev pub is_option_as : ArgAction → Rule → Bool
is_option_as action.Set a = leaves_value a
is_option_as action.SetTrue a = leaves_value a
is_option_as action.Append a = leaves_value a
is_option_as other a = is_request other

abbrev pub is_option : Rule → Bool
is_option a = is_option_as (action_of a) a

-- values of the argument, that passed its parser
pub record Passed (a : Rule) (r : Row) : Type 0 where
  pub given : 0 < length r.values
  pub values : values_fault a r.values ≡ []
  pub reading : r.reading ≡ reading_by a

abbrev pub HasPassed : List Rule → Row → Type 0
HasPassed c r = (a : Rule) → arg_by_id c r.id ≡ Some a → Passed a r

abbrev pub AllPassed : List Rule → List Row → Type 0
AllPassed c [] = ⊤
AllPassed c (r ∷ rs) = HasPassed c r × AllPassed c rs

-- the argument is an option, and the first of its id
abbrev pub IsOption : List Rule → Rule → Type 0
IsOption c a = (is_option a ≡ true) × (arg_by_id c a.id ≡ Some a)

abbrev pub Each : (Rule → Type 0) → List Rule → Type 0
Each P [] = ⊤
Each P (a ∷ rest) = P a × Each P rest

-- ---- faults

has_kind : Kinds → Bool
has_kind [] = false
has_kind (k ∷ ks) = true

pub some_kind : {A : Type 0} (k : ErrorKind) (ks : Kinds) → k ∷ ks ≡ [] → A
unfolding has_kind
some_kind k ks e = absurd (true≢false (ap has_kind e))

pub neither : (a b : Kinds) → or_else a b ≡ [] → (a ≡ []) × (b ≡ [])
neither [] b e = (refl, e)
neither (k ∷ ks) b e = some_kind k ks e

no_values : (least most : ℕ) → nat_lt 0 least ≡ true → range_kinds least most 0 ≡ [] → ⊥
no_values least most some e =
    let bad : InvalidValue ∷ [] ≡ [] = rw some at e in
    some_kind _ _ bad

missing_some : (least most : ℕ) (missing : List Text) → nat_lt 0 least || not (is_empty missing) ≡ true → range_kinds least most 0 ≡ [] → 0 < length missing
missing_some least most missing some e = go (nat_lt 0 least) refl missing some
  where
    go : (b : Bool) → nat_lt 0 least ≡ b → (m : List Text) → b || not (is_empty m) ≡ true → 0 < length m
    go true at m h = absurd (no_values least most at e)
    go false at [] h = absurd (true≢false (sym h))
    go false at (v ∷ vs) h = omega arith

values_both : (i : Bool) (p : ValueParser) (xs ys : List Text) → values_kinds i p xs ≡ [] → values_kinds i p ys ≡ []
    → values_kinds i p (xs ++ ys) ≡ []
values_both i p [] ys e f = f
values_both i p (x ∷ xs) ys e f =
    let parts = neither (value_kinds i p x) (values_kinds i p xs) e in
    ap (λ k. or_else k (values_kinds i p (xs ++ ys))) parts.0 ∙ values_both i p xs ys parts.1 f

-- ---- rows

abbrev new_row : Rule → ValueSource → List Text → Row
new_row a s values = record { id = a.id; values = values; count = None; source = Some s; reading = reading_by a }

module _ (c : List Rule) where
  at_row_kept : (id : Text) (change : Row → List Row) (missing : List Row) (rows : List Row)
      → ((r : Row) → bytes_eq r.id id ≡ true → HasPassed c r → AllPassed c (change r)) → AllPassed c missing → AllPassed c rows
      → AllPassed c (at_row id change missing rows)
  at_row_kept id change missing [] changed last all = last
  at_row_kept id change missing (r ∷ rs) changed last all = go (bytes_eq r.id id) refl (at_row_kept id change missing rs changed last all.1)
    where
      join : (xs : List Row) → AllPassed c xs → AllPassed c rs → AllPassed c (xs ++ rs)
      join [] h rest = rest
      join (x ∷ xs) h rest = (h.0, join xs h.1 rest)

      go : (b : Bool) → bytes_eq r.id id ≡ b → AllPassed c (at_row id change missing rs)
          → AllPassed c (cond b (change r ++ rs) (r ∷ at_row id change missing rs))
      go true e rest = join (change r) (changed r e all.0) all.1
      go false e rest = (all.0, rest)

  without_kept : (id : Text) (rows : List Row) → AllPassed c rows → AllPassed c (without id rows)
  without_kept id rows all = at_row_kept id (λ _. []) [] rows (λ r e h. tt) tt all

  same_rule : (a b : Rule) → Some a ≡ Some b → b ≡ a
  same_rule a b e = sym (ap (λ o. unwrap_or o a) e)

  pub values_kept : (a : Rule) (s : ValueSource) (values : List Text) (rows : List Row) → arg_by_id c a.id ≡ Some a → 0 < length values
      → values_fault a values ≡ [] → AllPassed c rows → AllPassed c (with_values a.id (reading_by a) s values rows)
  values_kept a s values rows first given pass all =
      at_row_kept a.id (more_values s values) (new_row a s values ∷ []) rows more (one, tt) all
    where
      one : (b : Rule) → arg_by_id c a.id ≡ Some b → Passed b (new_row a s values)
      one b e =
          let same : b ≡ a = same_rule a b (sym first ∙ e) in
          record {
            given = given;
            values = ap (λ (x : Rule). values_fault x values) same ∙ pass;
            reading = ap reading_by (sym same);
          }

      more : (r : Row) → bytes_eq r.id a.id ≡ true → HasPassed c r → AllPassed c (more_values s values r)
      more r e h = (
        λ b found.
            let id : r.id ≡ a.id = (bytes_eq-Decides r.id a.id).0 e in
            let same : b ≡ a = same_rule a b (sym first ∙ (ap (arg_by_id c) (sym id) ∙ found)) in
            let old = h b found in
            record {
              given = longer r.values old.given;
              values =
                  values_both b.ignore_case (parser_of_value b.parser) r.values values old.values
                  (ap (λ (x : Rule). values_fault x values) same ∙ pass);
              reading = old.reading;
            },
        tt,
      )
        where
          longer : (xs : List Text) → 0 < length xs → 0 < length (xs ++ values)
          longer [] h = absurd (omega arith)
          longer (x ∷ xs) h = omega arith

  -- ---- one use

  pub use_kept : (again : Bool) (a : Rule) (values : List Text) (rows : List Row) → IsOption c a → use_fault again a values rows ≡ []
      → AllPassed c rows → AllPassed c (used a values rows)
  use_kept again a values rows of none all =
      let parts = neither _ _ none in
      go (action_of a) of.0 values parts.0 parts.1
    where
      by_values : (kept : List Row) → leaves_value a ≡ true → (vs : List Text)
          → range_kinds (unwrap_or_range a.range).start_inclusive (most_values a) (length vs) ≡ []
          → values_fault a (values_or_missing a vs) ≡ [] → AllPassed c kept
          → AllPassed c (with_values a.id (reading_by a) CommandLine (values_or_missing a vs) kept)
      by_values kept some [] range pass h =
          values_kept a CommandLine a.missing kept of.1 (missing_some _ _ a.missing some range) pass h
      by_values kept some (v ∷ vs) range pass h = values_kept a CommandLine (v ∷ vs) kept of.1 (omega arith) pass h

      go : (x : ArgAction) → is_option_as x a ≡ true → (vs : List Text)
          → range_kinds (unwrap_or_range a.range).start_inclusive (most_values a) (length vs) ≡ []
          → action_fault x again a (values_or_missing a vs) rows ≡ []
          → AllPassed c (used_as x a.id (reading_by a) (values_or_missing a vs) rows)
      go action.Set some vs range fault =
          by_values (without a.id rows) some vs range (neither (repeat_fault again a.id rows) _ fault).1 (without_kept a.id rows all)
      go action.Append some vs range fault = by_values rows some vs range fault all
      go action.SetTrue some vs range fault =
          by_values (without a.id rows) some vs range (neither (repeat_fault again a.id rows) _ fault).1 (without_kept a.id rows all)
      go action.SetFalse some vs range fault = absurd (true≢false (sym some))
      go action.Count some vs range fault = absurd (true≢false (sym some))
      go action.Help some vs range fault = all
      go action.HelpShort some vs range fault = all
      go action.HelpLong some vs range fault = all
      go action.Version some vs range fault = all
