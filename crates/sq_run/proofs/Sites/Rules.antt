-- What the rules say of a statement in which they find no fault (ISO/IEC 9075:1992, 7.9, 13.1 to 13.10):
-- what is changed may be changed, a cursor that is named has a query without a fault, a positioned
-- statement is over the table of its cursor, and `*` stands in no grouped query.
use Rattle.std.proofs.Common.{◌≡◌, Bool, true, false, cond, not, ◌&&◌, ◌||◌, List, [], ◌∷◌, ◌++◌, length, map, Option, Some, None, refl, sym, ap, ◌∙◌, Ok, Err, arith}
use Rattle.std.specs.List.{AllByRecursion, flat_map, list_any, zip}
use Rattle.std.specs.Prelude.{find, if◌then◌else◌, is_err, is_ok, option_and_then, option_map}
use Rattle.std.specs.Result.{result_ok}
use Rattle.std.proofs.lemmas.Bool.{not-false}
use Rattle.sq_lex.specs.declared.name.Name.{Name}
use Rattle.sq_value.specs.declared.domain.Kind.{Kind}
use Rattle.sq_tree.specs.declared.«module».Cursor.{Cursor}
use Rattle.sq_tree.specs.declared.statement.InsertSource.{InsertSource}
use Rattle.sq_tree.specs.declared.statement.InsertSource.TheVariants as source
use Rattle.sq_tree.specs.declared.statement.NewValue.{NewValue}
use Rattle.sq_tree.specs.declared.statement.NewValue.TheVariants as new_value
use Rattle.sq_tree.specs.declared.statement.Select.{Select as SelectStatement}
use Rattle.sq_tree.specs.declared.statement.Where.{Where}
use Rattle.sq_tree.specs.declared.statement.Where.TheVariants as rows_where
use Rattle.sq_meaning.specs.Database.{IsDeclaredIn}
use Rattle.sq_meaning.specs.Environment.{Row, TableName, same_name}
use Rattle.sq_meaning.specs.Expression.{set_functions}
use Rattle.sq_meaning.specs.Spelled.{Named, cond_of, expr_of, is_distinct_word, list_of, listed, listed_if_any, select_of}
use Rattle.sq_meaning.specs.Status.{Outcome, and_then, not_well_formed}
use Rattle.sq_meaning.specs.Syntax.{Clause, Expr, Select, absent, added, bracketed, column, count_rows, literal, parameter, present, scaled, set_function, signed, user}
use Rattle.sq_meaning.specs.Tables.{TableDescriptor, descriptor_of, kinds_by_name, reading_by_name}
use Rattle.sq_meaning.specs.Target.{Source, Target, cursor_target, seen_through, target_of, updatable_source}
use Rattle.sq_meaning.specs.WellFormed.{HasValue}
use Rattle.sq_meaning.specs.Binding.{Judged, cursor_known, has_fault, has_syntax_fault, is_known_table, is_over, is_well_formed, lacks_privilege, not_updatable, syntax_faults, unknown_cursor}
use Rattle.sq_meaning.specs.Catalog.{tables_of}
use Rattle.sq_meaning.specs.Module.{cursor_named, cursors}
use Rattle.sq_meaning.specs.Privilege.{Privilege}
use Rattle.sq_meaning.specs.Privileges.{updatable_here}
use Rattle.sq_meaning.specs.Site.{Known, KnownCursor, Site, expr_sites, outside, query_sites, select_sites}
use Rattle.sq_meaning.specs.WellFormedStatement.{Surroundings, beside_table, cursor_names, cursor_query, cursor_sites, is_sound, judged_by, known_cursor, known_in, known_in_query, means_own_column, opener_surroundings, own, select_into_sites, select_of_statement, sort_sites, source_sites, updatable_cursor, updatable_query, value_sites, where_sites, with_select}
use Rattle.sq_meaning.specs.Words.{is_some_and}
use Rattle.sq_run.proofs.Sites.ColumnSites.{lines_of}
use Rattle.sq_run.proofs.Sites.CondLiterals.{cond_spells, list_spells, select_spells, table_spells}
use Rattle.sq_run.proofs.Sites.ConditionSites.{SelectSpellsNoNull, cond_well_formed, same_count, select_well_formed}
use Rattle.sq_run.proofs.Sites.QueryLiterals.{query_spells}
use Rattle.sq_run.proofs.Sites.QuerySites.{query_well_formed}
use Rattle.sq_run.proofs.Sites.SiteLaws.{AreSound, IsSound, all_parts, never, none_passes, sound_sites}
use Rattle.sq_run.proofs.Places.Databases.{table_is}
use Rattle.sq_run.proofs.Changed.Inserts.{IsSourceRight}
use Rattle.sq_run.proofs.Changed.NewValues.{HasNoFunction}
use Rattle.sq_run.proofs.Sites.StarRules.{cond_stars, query_stars, select_stars}
use Rattle.sq_run.proofs.Sites.Stars.{ClauseStars, QueryStars, SelectStars}

-- ---- sites at which no rule is broken

no_fault : (fault lacks : Bool) → not (fault || lacks) ≡ true → fault ≡ false
no_fault true lacks e = cc
no_fault false lacks e = refl

module _ (j : Judged) (sites : List Site) (e : is_well_formed j sites ≡ true) where
  sound_here : has_syntax_fault j sites ≡ false
  sound_here = no_fault (has_syntax_fault j sites) (lacks_privilege j sites) e

  pub are_sound : AreSound j.known sites
  are_sound = sound_sites j sites sound_here

  none_there : AllByRecursion (λ f. has_fault j sites f ≡ false) syntax_faults
  none_there = none_passes (has_fault j sites) syntax_faults sound_here

  pub all_updatable : AllByRecursion (λ s. not_updatable j.known s ≡ false) sites
  all_updatable = none_passes (not_updatable j.known) sites none_there.1.1.1.1.1.1.1.1.1.1.1.1.0

  pub all_cursors : AllByRecursion (λ s. unknown_cursor j.known s ≡ false) sites
  all_cursors = none_passes (unknown_cursor j.known) sites none_there.1.1.1.1.1.1.1.1.1.1.1.1.1.1.0

-- ---- a table that is changed

known_there : (k : Known) (t : TableName) → IsSound k (Site.table_changed t) → is_known_table k t ≡ true
known_there k t h = not-false (is_known_table k t) h.tables

not_failed : (b : Bool) (o : Outcome Target) → b ≡ true → (b && is_err o) ≡ false → (target : Target) × (o ≡ Ok target)
not_failed true (Ok target) is e = (target, refl)
not_failed true (Err s) is e = cc
not_failed false o is e = cc

-- A table that a statement changes has a target.
pub target_there : (k : Known) (t : TableName) → IsSound k (Site.table_changed t) → not_updatable k (Site.table_changed t) ≡ false
    → (target : Target) × (target_of k.tables t ≡ Ok target)
target_there k t h e = not_failed (is_known_table k t) (target_of k.tables t) (known_there k t h) e

-- ---- a cursor that is named

found_mapped : {A B : Type 0} (f : A → B) (test : B → Bool) (xs : List A) → find test (map f xs) ≡ option_map f (find (λ x. test (f x)) xs)
found_mapped f test [] = refl
found_mapped {A} {B} f test (x ∷ xs) = by_test (test (f x)) (found_mapped f test xs)
  where
    by_test : (b : Bool) → find test (map f xs) ≡ option_map f (find (λ y. test (f y)) xs)
        → cond b (Some (f x)) (find test (map f xs)) ≡ option_map f (cond b (Some x) (find (λ y. test (f y)) xs))
    by_test true others = refl
    by_test false others = others

module _ (u : Surroundings) (name : Name) (c : Cursor) (named : cursor_named u.in_module name ≡ Some c) where
  known_as : cursor_known (known_in u) name ≡ Some (known_cursor u c)
  known_as =
      found_mapped (known_cursor u) (λ k. same_name k.name name) (cursors u.in_module)
      ∙ ap (λ (o : Option Cursor). option_map (known_cursor u) o) named

  -- The query of a cursor that a statement names has no fault.
  pub cursor_sound : unknown_cursor (known_in u) (Site.cursor_used name) ≡ false → is_sound u c ≡ true
  cursor_sound e = not-false (is_sound u c) (sym (ap (λ (o : Option KnownCursor). not (is_some_and (λ k. k.sound) o)) known_as) ∙ e)

  -- What a positioned statement changes is the table that the cursor is over.
  pub record IsOverTable (t : TableName) : Type 0 where
    pub target : Target
    pub is : updatable_cursor u c ≡ Some target
    pub place : (under : Target) → target_of (tables_of u.elements) t ≡ Ok under → target.place ≡ under.place

  pub over_table : (t : TableName) → IsSound (known_in u) (Site.table_changed t) → not_updatable (known_in u) (Site.positioned t name) ≡ false
      → IsOverTable t
  over_table t h e = by_query (updatable_query u c) refl (over (is_known_table (known_in u) t) (known_there (known_in u) t h) e)
    where
      over : (b : Bool) → b ≡ true → (b && is_some_and (λ k. not (is_over t k)) (cursor_known (known_in u) name)) ≡ false
          → is_over t (known_cursor u c) ≡ true
      over false is e = cc
      over true is e = not-false (is_over t (known_cursor u c)) (sym (ap (λ (o : Option KnownCursor). is_some_and (λ k. not (is_over t k)) o) known_as) ∙ e)

      by_under : (q : Select Named) → updatable_query u c ≡ Some q → (s : Source) → updatable_source (tables_of u.elements) q ≡ Ok s
          → (o : Outcome Target) → target_of (tables_of u.elements) s.item.reference.table ≡ o
          → is_some_and (λ x. is_over t (record { name = c.name; sound = true; table = Some x })) (option_map (λ (y : Source). y.item.reference.table) (result_ok (and_then o (λ _. Ok s)))) ≡ true
          → IsOverTable t
      by_under q is s found (Err st) under e = cc
      by_under q is s found (Ok below) under e = record {
        target = seen_through s below;
        is =
            ap (λ (o : Option (Select Named)). option_and_then (λ x. result_ok (cursor_target (tables_of u.elements) x)) o) is
            ∙ ap (λ (o : Outcome Source). result_ok (and_then o (λ y. and_then (target_of (tables_of u.elements) y.item.reference.table) (λ w. Ok (seen_through y w))))) found
            ∙ ap (λ (o : Outcome Target). result_ok (and_then o (λ w. Ok (seen_through s w)))) under;
        place = λ w there. same below w (sym under ∙ ap (target_of (tables_of u.elements)) (sym (table_is t s.item.reference.table e)) ∙ there);
      }
        where
          same : (x y : Target) → (let found : Outcome Target = Ok x in found ≡ Ok y) → x.place ≡ y.place
          same x y e = cc

      by_source : (q : Select Named) → updatable_query u c ≡ Some q → (o : Outcome Source) → updatable_source (tables_of u.elements) q ≡ o
          → is_some_and (λ x. is_over t (record { name = c.name; sound = true; table = Some x })) (option_map (λ (y : Source). y.item.reference.table) (result_ok (and_then o (λ s. and_then (target_of (tables_of u.elements) s.item.reference.table) (λ _. Ok s))))) ≡ true
          → IsOverTable t
      by_source q is (Err st) found e = cc
      by_source q is (Ok s) found e = by_under q is s found (target_of (tables_of u.elements) s.item.reference.table) refl e

      table_of_query : (o : Option (Select Named)) → is_some_and (λ x. is_over t (record { name = c.name; sound = true; table = Some x })) (option_map (λ (y : Source). y.item.reference.table) (option_and_then (updatable_here (tables_of u.elements)) o))
          ≡ is_over t (record { name = c.name; sound = true; table = option_map (λ (y : Source). y.item.reference.table) (option_and_then (updatable_here (tables_of u.elements)) o) })
      table_of_query o = by_table (option_map (λ (y : Source). y.item.reference.table) (option_and_then (updatable_here (tables_of u.elements)) o))
        where
          by_table : (x : Option TableName) → is_some_and (λ y. is_over t (record { name = c.name; sound = true; table = Some y })) x ≡ is_over t (record { name = c.name; sound = true; table = x })
          by_table None = refl
          by_table (Some y) = refl

      by_query : (o : Option (Select Named)) → updatable_query u c ≡ o → is_over t (known_cursor u c) ≡ true → IsOverTable t
      by_query None is e =
          let none : is_over t (known_cursor u c) ≡ false = ap (λ (o : Option (Select Named)). is_over t (record { name = c.name; sound = true; table = option_map (λ (y : Source). y.item.reference.table) (option_and_then (updatable_here (tables_of u.elements)) o) })) is in cc
      by_query (Some q) is e =
          by_source q is (updatable_source (tables_of u.elements) q) refl
          (table_of_query (Some q) ∙ sym (ap (λ (o : Option (Select Named)). is_over t (record { name = c.name; sound = true; table = option_map (λ (y : Source). y.item.reference.table) (option_and_then (updatable_here (tables_of u.elements)) o) })) is) ∙ e)

-- ---- `*`

-- rows are of no account to these rules
abbrev no_rows_of : TableName → Outcome (List Row)
no_rows_of name = not_well_formed

module _ (u : Surroundings) where
  sound_select_stars : (q : Select Named) → SelectSpellsNoNull q → AreSound (known_in u) (select_sites (known_in u) outside q) → SelectStars q
  sound_select_stars q null s =
      select_stars (reading_by_name (known_in u).tables no_rows_of) (kinds_by_name (known_in u).tables (known_in u).parameters) (IsDeclaredIn (known_in u).parameters) (lines_of []) q
      (select_well_formed (known_in u) no_rows_of q [] false tt null s)

  -- in SELECT INTO
  pub select_into_stars : (s : SelectStatement) → AreSound (known_in u) (select_into_sites u s) → SelectStars (select_of_statement (own u) s)
  select_into_stars s h =
      sound_select_stars (select_of_statement (own u) s)
      (table_spells (own u) s.table (is_distinct_word s.quantifier) (list_of s.list) (list_spells s.list))
      (all_parts (IsSound (known_in u)) (select_sites (known_in u) outside (select_of_statement (own u) s)) _ h).0

  -- in a cursor
  pub cursor_stars : (c : Cursor) → is_sound u c ≡ true → QueryStars (cursor_query u c)
  cursor_stars c e =
      let k = known_in_query (opener_surroundings u c) in
      let parts = all_parts (IsSound k) (query_sites k (cursor_query u c)) (sort_sites (cursor_names u c) (listed_if_any c.order_by)) (are_sound (judged_by u k) (cursor_sites u c) e) in
      query_stars (reading_by_name k.tables no_rows_of) (kinds_by_name k.tables k.parameters) (IsDeclaredIn k.parameters) (cursor_query u c)
      (query_well_formed k no_rows_of (cursor_query u c) (query_spells (own u) c.query) parts.0)

  -- in WHERE of UPDATE and DELETE
  abbrev pub written : Option Where → Clause Named
  written None = absent
  written (Some (rows_where.Condition c)) = present (cond_of (own u) c)
  written (Some (rows_where.CurrentOf cursor)) = absent

  table_there : (o : Outcome TableDescriptor) → is_ok o ≡ true → HasValue o
  table_there (Ok d) e = tt
  table_there (Err s) e = cc

  pub where_stars : (name : TableName) (w : Option Where) → IsSound (known_in u) (Site.table_changed name) → AreSound (known_in u) (where_sites u name w)
      → ClauseStars (written w)
  where_stars name None there s = tt
  where_stars name (Some (rows_where.Condition c)) there s =
      cond_stars (reading_by_name (known_in u).tables no_rows_of) (kinds_by_name (known_in u).tables (known_in u).parameters) (IsDeclaredIn (known_in u).parameters)
      (lines_of (beside_table name).queries) (cond_of (own u) c)
      (cond_well_formed (known_in u) no_rows_of (cond_of (own u) c) (beside_table name).queries false
      ((table_there (descriptor_of (known_in u).tables name) (known_there (known_in u) name there), tt), tt) tt (cond_spells (own u) c) s)
  where_stars name (Some (rows_where.CurrentOf cursor)) there s = tt

  -- SELECT on the table may be asked for before
  pub all_behind : (k : Known) (P : Site → Type 0) (name : TableName) (sites : List Site) → AllByRecursion P (with_select k name sites)
      → AllByRecursion P sites
  all_behind k P name sites h = by_test (list_any (means_own_column k) sites) h
    where
      by_test : (b : Bool) → AllByRecursion P (if b then Site.privilege_used name Privilege.select ∷ sites else sites) → AllByRecursion P sites
      by_test true h = h.1
      by_test false h = h

  -- ---- INSERT

  no_functions : (e : Expr Named) → AreSound (known_in u) (expr_sites (known_in u) outside e) → set_functions e ≡ []
  no_functions (literal v) s = refl
  no_functions (parameter p) s = refl
  no_functions user s = refl
  no_functions (column c) s = refl
  no_functions count_rows s = never s.0.functions
  no_functions (set_function function distinct e) s = never s.0.functions
  no_functions (signed sign e) s = no_functions e s.1
  no_functions (added sign e f) s =
      let parts = all_parts (IsSound (known_in u)) (expr_sites (known_in u) outside e) (expr_sites (known_in u) outside f) s.1.1 in
      (λ i. no_functions e parts.0 i ++ no_functions f parts.1 i)
  no_functions (scaled sign e f) s =
      let parts = all_parts (IsSound (known_in u)) (expr_sites (known_in u) outside e) (expr_sites (known_in u) outside f) s.1.1.1 in
      (λ i. no_functions e parts.0 i ++ no_functions f parts.1 i)
  no_functions (bracketed e) s = no_functions e s

  value_right : (d : Outcome Kind) (v : NewValue) → AreSound (known_in u) (value_sites (known_in u) outside d v) → HasNoFunction v
  value_right d (new_value.Expr e) s = no_functions (expr_of e) s.1
  value_right d new_value.Null s = tt

  values_right : (ks : List (Outcome Kind)) (vs : List NewValue) → length ks ≡ length vs
      → AreSound (known_in u) (flat_map (λ p. value_sites (known_in u) outside p.0 p.1) (zip ks vs)) → AllByRecursion HasNoFunction vs
  values_right ks [] e s = tt
  values_right [] (v ∷ vs) e s = absurd (omega arith)
  values_right (k ∷ ks) (v ∷ vs) e s =
      let parts = all_parts (IsSound (known_in u)) (value_sites (known_in u) outside k v) (flat_map (λ p. value_sites (known_in u) outside p.0 p.1) (zip ks vs)) s in
      let fewer : length ks ≡ length vs = omega arith in
      (value_right k v parts.0, values_right ks vs fewer parts.1)

  -- no set function stands in VALUES, and `*` in no grouped query
  pub source_right : (kinds : List (Outcome Kind)) (s : InsertSource) → AreSound (known_in u) (source_sites u kinds s) → IsSourceRight (own u) s
  source_right kinds (source.Values values) h =
      values_right kinds (listed values) (same_count (length kinds) (length (listed values)) h.0.counts) h.1
  source_right kinds (source.Query q) h =
      sound_select_stars (select_of (own u) q) (select_spells (own u) q)
      (all_parts (IsSound (known_in u)) _ (select_sites (known_in u) outside (select_of (own u) q)) h.1).1
