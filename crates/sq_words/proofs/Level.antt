-- A level of a parse with no fault leaves rows whose values passed, and no call for help.
use Rattle.std.proofs.Common.{◌≡◌, ◌&&◌, ◌||◌, ℕ, Bool, cond, true, false, not, zero, suc, refl, sym, ap, subst, arith, true≢false}
use Rattle.std.proofs.Common.{List, [], ◌∷◌, length, drop, Option, Some, None, is_some}
use Rattle.std.specs.Prelude.{codes, encode_utf8, slice_get, unwrap_or, find, fold, ⊤}
use Rattle.std.specs.Option.{option_map_or}
use Rattle.std.specs.Str.{bytes_eq, chars}
use Rattle.std.proofs.lemmas.Bool.{eqb-true}
use Rattle.clap.specs.Lexer.{long_of, short_of}
use Rattle.clap.specs.Walk.{Held, Names, Outcome, Row, Rule, Step, Text, Waiting, Walk, action_of, after_flag, after_step}
use Rattle.clap.specs.Walk.{arg_by_id, arg_by_index, arg_by_long, arg_by_short, attached_value, bundle, bundle_met, bundle_step}
use Rattle.clap.specs.Walk.{default_rows, done, flag_met, has_row, idle, is_empty, is_pending, long_met, long_or_other, next}
use Rattle.clap.specs.Walk.{nothing_held, option, option_met, option_word, plain, plain_word, positional, reacted, reading_by}
use Rattle.clap.specs.Walk.{refused, rows_after, settled, settled_rows, short_met, short_or_plain, stop_after, subcommand}
use Rattle.clap.specs.Walk.{subcommand_met, subcommand_or_other, takes_several, takes_values, to_positional, trailing, used_by_id}
use Rattle.clap.specs.Walk.{value, waits, walk, walk_from, walked, walked_from, with_default, word_met}
use Rattle.clap.specs.Simple.{Shape}
use Rattle.clap.specs.Kinds.{Kinds, or_else, request_kinds}
use Rattle.clap.specs.Faults.{bundle_fault, bundle_step_fault, check_fault, defaults_fault, flag_word_fault, flags_fault, level_fault}
use Rattle.clap.specs.Faults.{long_fault, option_fault, other_fault, positional_fault, react_fault, settle_fault, short_fault}
use Rattle.clap.specs.Faults.{default_fault, given_default_fault, step_fault, stray_fault, turn_fault, use_fault, walk_fault, word_fault}
use Rattle.clap.specs.declared.error.kind.ErrorKind.TheVariants.{DisplayHelp, InvalidSubcommand, TooManyValues}
use Rattle.clap.specs.declared.parser.matches.ValueSource.TheVariants.{DefaultValue}
use Rattle.sq_words.proofs.Uses.{AllPassed, Each, IsOption, neither, some_kind, use_kept, values_kept}

-- a found element is of the list
found_each : (P : Rule → Type 0) (p : Rule → Bool) (xs : List Rule) (a : Rule) → Each P xs → find p xs ≡ Some a → P a
found_each P p [] a each e = absurd (true≢false (sym (ap is_some e)))
found_each P p (x ∷ xs) a each e = go (p x) e (found_each P p xs a each.1)
  where
    go : (b : Bool) → cond b (Some x) (find p xs) ≡ Some a → (find p xs ≡ Some a → P a) → P a
    go true here rest = subst P (ap (λ o. unwrap_or o a) here) each.0
    go false there rest = rest there

module _ (c : List Rule) (again : Bool) (options : Each (IsOption c) c) where
  abbrev Kept : Held → Type 0
  Kept h = AllPassed c h.rows

  -- ---- a flag

  settle_kept : (h : Held) → settle_fault c again h ≡ [] → Kept h → Kept (settled c h)
  settle_kept h none all = go h.pending none
    where
      found : (p : Text × List Text) (o : Option Rule) → arg_by_id c p.0 ≡ o → option_map_or (λ a. use_fault again a p.1 h.rows) o [] ≡ []
          → AllPassed c (used_by_id o p.1 h.rows)
      found p None at e = all
      found p (Some a) at e = use_kept c again a p.1 h.rows (found_each (IsOption c) _ c a options at) e all

      go : (p : Option (Text × List Text))
          → option_map_or (λ p. option_map_or (λ a. use_fault again a p.1 h.rows) (arg_by_id c p.0) []) p [] ≡ []
          → AllPassed c (settled_rows c p h.rows)
      go None e = all
      go (Some p) e = found p (arg_by_id c p.0) refl e

  react_kept : (a : Rule) (values : List Text) (h : Held) → IsOption c a → react_fault c again a values h ≡ [] → Kept h
      → Kept (reacted c a values h)
  react_kept a values h of none all =
      let parts = neither (settle_fault c again h) _ none in
      use_kept c again a values (settled c h).rows of parts.1 (settle_kept h parts.0 all)

  option_kept : (a : Rule) (v : Option Text) (h : Held) → IsOption c a → option_fault c again a v h ≡ [] → Kept h
      → Kept (option_met c a v h).0
  option_kept a (Some v) h of none all = react_kept a (v ∷ []) h of none all
  option_kept a None h of none all = settle_kept h none all

  long_kept : (name : Text) (v : Option Text) (h : Held) → long_fault c again (arg_by_long c name) v h ≡ [] → Kept h
      → Kept (long_met c (arg_by_long c name) v h).0
  long_kept name v h none all = go (arg_by_long c name) refl none
    where
      flag : (a : Rule) (o : Option Text) → IsOption c a → cond (is_some o) (TooManyValues ∷ []) (react_fault c again a [] h) ≡ []
          → Kept (flag_met c a o h).0
      flag a (Some t) of e = all
      flag a None of e = react_kept a [] h of e all

      by_kind : (a : Rule) (b : Bool) → IsOption c a
          → cond b (option_fault c again a v h) (cond (is_some v) (TooManyValues ∷ []) (react_fault c again a [] h)) ≡ []
          → Kept (cond b (option_met c a v h) (flag_met c a v h)).0
      by_kind a true of e = option_kept a v h of e all
      by_kind a false of e = flag a v of e

      go : (o : Option Rule) → arg_by_long c name ≡ o → long_fault c again o v h ≡ [] → Kept (long_met c o v h).0
      go None at e = all
      go (Some a) at e = by_kind a (takes_values a) (found_each (IsOption c) _ c a options at) e

  -- ---- a bundle of flags

  short_kept : (x : ℕ) (rest : Text) (h : Held) (next_fault : Held → Kinds) (after : Held → Held × Outcome)
      → ((g : Held) → next_fault g ≡ [] → Kept g → Kept (after g).0)
      → short_fault c again (arg_by_short c x) rest h next_fault ≡ [] → Kept h → Kept (short_met c (arg_by_short c x) rest h after).0
  short_kept x rest h next_fault after goes none all = go (arg_by_short c x) refl none
    where
      by_kind : (a : Rule) (b : Bool) → IsOption c a
          → cond b (option_fault c again a (attached_value rest) h)
          (or_else (react_fault c again a [] h) (next_fault (reacted c a [] h))) ≡ []
          → Kept (cond b (option_met c a (attached_value rest) h) (after (reacted c a [] h))).0
      by_kind a true of e = option_kept a (attached_value rest) h of e all
      by_kind a false of e =
          let parts = neither (react_fault c again a [] h) _ e in
          goes (reacted c a [] h) parts.1 (react_kept a [] h of parts.0 all)

      go : (o : Option Rule) → arg_by_short c x ≡ o → short_fault c again o rest h next_fault ≡ [] → Kept (short_met c o rest h after).0
      go None at e = all
      go (Some a) at e = by_kind a (takes_values a) (found_each (IsOption c) _ c a options at) e

  character_kept : (o : Option ℕ) (flags : Text) (skip : ℕ) (so_far : Outcome) (h : Held) (next_fault : Text → ℕ → Held → Kinds)
      (after : Text → ℕ → Outcome → Held → Held × Outcome)
      → ((t : Text) (n : ℕ) (out : Outcome) (g : Held) → next_fault t n g ≡ [] → Kept g → Kept (after t n out g).0)
      → bundle_step_fault c again o flags skip h next_fault ≡ [] → Kept h → Kept (bundle_step c o flags skip so_far h after).0
  character_kept None flags skip so_far h next_fault after goes none all = all
  character_kept (Some x) flags zero so_far h next_fault after goes none all =
      let rest = drop (length (encode_utf8 x)) flags in
      short_kept x rest h (next_fault rest 0) (after rest 0 done) (goes rest 0 done) none all
  character_kept (Some x) flags (suc skip) so_far h next_fault after goes none all =
      goes (drop (length (encode_utf8 x)) flags) skip so_far h none all

  flags_kept : (k : ℕ) (flags : Text) (skip : ℕ) (so_far : Outcome) (h : Held) → flags_fault c again k flags skip h ≡ [] → Kept h
      → Kept (bundle_met c k flags skip so_far h).0
  unfolding flags_fault bundle_met
  flags_kept zero flags skip so_far h none all = all
  flags_kept (suc k) flags skip so_far h none all =
      character_kept (slice_get (chars flags) 0) flags skip so_far h (flags_fault c again k) (bundle_met c k) (flags_kept k) none all

  -- ---- a word

  plain_kept : (waiting : Waiting) (word : Text) (h : Held) → Kept h → Kept (plain_word c waiting word h).0
  plain_kept idle word h all = all
  plain_kept (option id) word h all = go (arg_by_id c id)
    where
      go : (o : Option Rule) → Kept (option_word o id word h).0
      go None = all
      go (Some a) = all
  plain_kept positional word h all = all

  after_kept : (waiting : Waiting) (word : Text) (h : Held) (met : Outcome) → Kept h → Kept (after_flag c waiting word h met).0
  after_kept waiting word h done all = all
  after_kept waiting word h (waits id) all = all
  after_kept waiting word h plain all = plain_kept waiting word h all
  after_kept waiting word h refused all = plain_kept waiting word h all

  flag_word_kept : (waiting : Waiting) (word : Text) (h : Held) → flag_word_fault c again (long_of word) word h ≡ [] → Kept h
      → Kept (long_or_other c waiting word (long_of word) h).0
  flag_word_kept waiting word h none all = go (long_of word) none
    where
      other : (o : Option Text) → option_map_or (λ flags. bundle_fault c again flags h) o [] ≡ []
          → Kept (short_or_plain c waiting word o h).0
      other None e = plain_kept waiting word h all
      other (Some flags) e =
          let met = bundle c flags h in
          after_kept waiting word met.0 met.1 (flags_kept (length flags) flags h.skip plain (record h { skip = 0 }) e all)

      go : (o : Option (Text × Option Text)) → flag_word_fault c again o word h ≡ [] → Kept (long_or_other c waiting word o h).0
      go None e = other (short_of word) e
      go (Some p) e =
          let met = long_met c (arg_by_long c p.0) p.1 h in
          after_kept waiting word met.0 met.1 (long_kept p.0 p.1 h e all)

-- the subcommand is not the call for help that the level offers
abbrev IsNoHelp : Shape → Text → Type 0
IsNoHelp s name = s.disable_help_subcommand ≡ false → bytes_eq name (codes "help") ≡ false

abbrev StepsPastHelp : Shape → Step → Type 0
StepsPastHelp s (subcommand name) = IsNoHelp s name
StepsPastHelp s _ = ⊤

abbrev pub IsPastHelp : Shape → Option (Text × List Text) → Type 0
IsPastHelp s None = ⊤
IsPastHelp s (Some p) = IsNoHelp s p.0

module _ (s : Shape) (c : List Rule) where
  plain_past : (waiting : Waiting) (word : Text) (h : Held) → StepsPastHelp s (plain_word c waiting word h).1
  plain_past idle word h = tt
  plain_past (option id) word h = tt
  plain_past positional word h = tt

  after_past : (waiting : Waiting) (word : Text) (h : Held) (met : Outcome) → StepsPastHelp s (after_flag c waiting word h met).1
  after_past waiting word h done = tt
  after_past waiting word h (waits id) = tt
  after_past waiting word h plain = plain_past waiting word h
  after_past waiting word h refused = plain_past waiting word h

  flag_word_past : (waiting : Waiting) (word : Text) (h : Held) → StepsPastHelp s (long_or_other c waiting word (long_of word) h).1
  flag_word_past waiting word h = go (long_of word)
    where
      other : (o : Option Text) → StepsPastHelp s (short_or_plain c waiting word o h).1
      other None = plain_past waiting word h
      other (Some flags) = after_past waiting word (bundle c flags h).0 (bundle c flags h).1

      go : (o : Option (Text × Option Text)) → StepsPastHelp s (long_or_other c waiting word o h).1
      go None = other (short_of word)
      go (Some p) = after_past waiting word (long_met c (arg_by_long c p.0) p.1 h).0 (long_met c (arg_by_long c p.0) p.1 h).1

module _ (s : Shape) (names : Names) (options : Each (IsOption s.rules) s.rules) where
  -- the rows passed, and the subcommand is not `help`
  abbrev IsSound : Walk → Type 0
  IsSound w = AllPassed s.rules w.held.rows × IsPastHelp s w.stopped

  abbrev IsSoundStep : Held × Step → Type 0
  IsSoundStep met = AllPassed s.rules met.0.rows × StepsPastHelp s met.1

  word_kept : (trails : Bool) (waiting : Waiting) (position : ℕ) (word : Text) (h : Held) → word_fault s names trails waiting word h ≡ []
      → AllPassed s.rules h.rows → IsSoundStep (word_met s.rules names trails waiting position word h)
  word_kept true waiting position word h none all = (all, tt)
  word_kept false waiting position word h none all = go (subcommand_met names waiting word) none
    where
      flag : (b : Bool) → cond b [] (flag_word_fault s.rules s.args_override_self (long_of word) word h) ≡ []
          → IsSoundStep (cond b (h, trailing position) (long_or_other s.rules waiting word (long_of word) h))
      flag true e = (all, tt)
      flag false e = (flag_word_kept s.rules s.args_override_self options waiting word h e all, flag_word_past s s.rules waiting word h)

      named : (is_help off : Bool) → cond (is_help && not off) (DisplayHelp ∷ InvalidSubcommand ∷ []) [] ≡ [] → off ≡ false
          → is_help ≡ false
      named true true e on = absurd (true≢false on)
      named true false e on = some_kind _ _ e
      named false off e on = refl

      go : (o : Option Text) → other_fault s o word h ≡ [] → IsSoundStep (subcommand_or_other s.rules o waiting position word h)
      go None e = flag (bytes_eq word (45 ∷ 45 ∷ [])) e
      go (Some name) e = (all, named (bytes_eq name (codes "help")) s.disable_help_subcommand e)

  value_kept : (w : Walk) (word : Text) (h : Held) → step_fault s w.position h value ≡ [] → AllPassed s.rules h.rows
      → IsPastHelp s w.stopped
      → IsSound (to_positional s.rules (arg_by_index s.rules w.position) word w h)
  value_kept w word h none all past = go (arg_by_index s.rules w.position) none
    where
      held : (a : Rule) (b : Bool) → cond b [] (settle_fault s.rules s.args_override_self h) ≡ []
          → AllPassed s.rules (cond b h (settled s.rules h)).rows
      held a true e = all
      held a false e = settle_kept s.rules s.args_override_self options h e all

      go : (o : Option Rule) → option_map_or (λ a. positional_fault s.rules s.args_override_self a h) o (stray_fault s) ≡ []
          → IsSound (to_positional s.rules o word w h)
      go None e = (all, past)
      go (Some a) e = (held a (is_pending a h.pending && takes_several a) e, tt)

  step_kept : (w : Walk) (word : Text) (h : Held) (step : Step) → step_fault s w.position h step ≡ [] → AllPassed s.rules h.rows
      → StepsPastHelp s step → IsPastHelp s w.stopped
      → IsSound (after_step s.rules word w h step)
  step_kept w word h (next waiting) none all steps past = (all, past)
  step_kept w word h (trailing position) none all steps past = (all, past)
  step_kept w word h (subcommand name) none all steps past = (all, steps)
  step_kept w word h value none all steps past = value_kept w word h none all past

  abbrev met_by : Walk → Text → Held × Step
  met_by w word = word_met s.rules names w.is_trailing w.waiting w.position word w.held

  walked_kept : (w : Walk) (word : Text) → turn_fault s names w word ≡ [] → IsSound w → IsSound (walked s.rules names w word)
  unfolding walked
  walked_kept w word none sound = go w.stopped sound.1 none
    where
      go : (o : Option (Text × List Text)) → IsPastHelp s o
          → cond (is_some o) [] (or_else (word_fault s names w.is_trailing w.waiting word w.held)
          (step_fault s w.position (met_by w word).0 (met_by w word).1)) ≡ []
          → IsSound (walked_from s.rules names o w word)
      go None past e =
          let parts = neither (word_fault s names w.is_trailing w.waiting word w.held) _ e in
          let kept = word_kept w.is_trailing w.waiting w.position word w.held parts.0 sound.0 in
          step_kept w word _ _ parts.1 kept.0 kept.1 sound.1
      go (Some p) past e = (sound.0, past)

  walk_kept : (words : List Text) (w : Walk) → walk_fault s names w words ≡ [] → IsSound w → IsSound (fold (walked s.rules names) w words)
  unfolding walk_fault
  walk_kept [] w none sound = sound
  walk_kept (word ∷ rest) w none sound =
      let parts = neither (turn_fault s names w word) _ none in
      walk_kept rest (walked s.rules names w word) parts.1 (walked_kept w word parts.0 sound)

-- ---- after the walk

module _ (c : List Rule) where
  default_kept : (a : Rule) (rows : List Row) → IsOption c a → default_fault rows a ≡ [] → AllPassed c rows → AllPassed c (with_default rows a)
  default_kept a rows of none all = go (has_row a.id rows) none
    where
      values : (vs : List Text) (b : Bool) → is_empty vs ≡ b → cond (false || b) [] (given_default_fault a vs) ≡ []
          → AllPassed c (default_rows a.id (reading_by a) vs rows)
      values [] b at e = all
      values (v ∷ vs) true at e =
          let bad : length (v ∷ vs) ≡ 0 = eqb-true _ _ at in
          absurd (omega arith)
      values (v ∷ vs) false at e =
          values_kept c a DefaultValue (v ∷ vs) rows of.1 (omega arith) (neither (request_kinds (action_of a)) _ e).1 all

      go : (b : Bool) → cond (b || is_empty a.defaults) [] (given_default_fault a a.defaults) ≡ []
          → AllPassed c (cond b rows (default_rows a.id (reading_by a) a.defaults rows))
      go true e = all
      go false e = values a.defaults (is_empty a.defaults) refl e

  defaults_kept : (d : List Rule) (rows : List Row) → Each (IsOption c) d → defaults_fault rows d ≡ [] → AllPassed c rows
      → AllPassed c (fold with_default rows d)
  unfolding defaults_fault
  defaults_kept [] rows each none all = all
  defaults_kept (a ∷ rest) rows each none all =
      let parts = neither (default_fault rows a) _ none in
      defaults_kept rest (with_default rows a) each.1 parts.1 (default_kept a rows each.0 parts.0 all)

-- a level with no fault leaves this
pub record IsLevel (s : Shape) (names : Names) (words : List Text) (has_subcommand : Bool) (below : Kinds) : Type 0 where
  pub rows : AllPassed s.rules (rows_after s.rules names words)
  pub stop : IsPastHelp s (stop_after s.rules names words)
  pub under : below ≡ []
  pub checked : check_fault s (rows_after s.rules names words) has_subcommand ≡ []

pub level_passed : (s : Shape) (names : Names) (words : List Text) (has_subcommand : Bool) (below : Kinds)
    → Each (IsOption s.rules) s.rules → level_fault s names nothing_held words has_subcommand below ≡ []
    → IsLevel s names words has_subcommand below
level_passed s names words has_subcommand below options none =
    let end = (walk s.rules names nothing_held words).held in
    let walked = neither (walk_fault s names (walk_from nothing_held) words) _ none in
    let subcommands = neither below _ walked.1 in
    let settles = neither (settle_fault s.rules s.args_override_self end) _ subcommands.1 in
    let defaults = neither (defaults_fault (settled s.rules end).rows s.rules) _ settles.1 in
    let sound = walk_kept s names options words (walk_from nothing_held) walked.0 (tt, tt) in
    let kept = settle_kept s.rules s.args_override_self options end settles.0 sound.0 in
    record {
      rows = defaults_kept s.rules s.rules (settled s.rules end).rows options defaults.0 kept;
      stop = sound.1;
      under = subcommands.0;
      checked = defaults.1;
    }
