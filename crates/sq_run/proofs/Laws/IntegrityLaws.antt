-- A call changes one table at most, for which its module's user holds the privilege (ISO/IEC 9075:1992, 4.26, 13.6 to 13.10
-- and 14.4).
use Rattle.std.proofs.Common.{ap, arith, sym, subst, ◌∙◌}
use Rattle.std.proofs.lemmas.Bool.{eq-eqb, not-false, not-true}
use Rattle.std.specs.List.{AllByRecursion, IsAmong, cons_option, list_any}
use Rattle.std.specs.Prelude.{◌≡◌, ◌≢◌, ℕ, zero, suc, Bool, true, false, not, ◌||◌, List, [], ◌∷◌, ◌++◌, map, if◌then◌else◌, nat_eq, slice_get, slice_set, filter, filter_map, flat_map, Option, unwrap_or, option_map, option_and_then, refl, Some, None, Ok, Err}
use Rattle.sq_lex.specs.declared.name.Name.{Name}
use Rattle.sq_value.specs.declared.value.Value.{Value}
use Rattle.sq_store.specs.Content.{Content, table_at, with_table}
use Rattle.sq_store.specs.declared.table.Numbered.{Numbered}
use Rattle.sq_store.specs.declared.table.Table.{Table}
use Rattle.sq_tree.specs.declared.module.Cursor.{Cursor}
use Rattle.sq_tree.specs.declared.module.ModuleText.{ModuleText}
use Rattle.sq_tree.specs.declared.module.Procedure.{Procedure}
use Rattle.sq_tree.specs.declared.statement.Assignment.{Assignment as SetClause}
use Rattle.sq_tree.specs.declared.statement.Delete.{Delete}
use Rattle.sq_tree.specs.declared.statement.Insert.{Insert}
use Rattle.sq_tree.specs.declared.statement.Statement.{Statement}
use Rattle.sq_tree.specs.declared.statement.Statement.TheVariants as statement
use Rattle.sq_tree.specs.declared.statement.Update.{Update}
use Rattle.sq_meaning.specs.Environment.{Row, TableName}
use Rattle.sq_meaning.specs.Spelled.{Named, listed, table_of}
use Rattle.sq_meaning.specs.Status.{Outcome, and_then, each}
use Rattle.sq_meaning.specs.Syntax.{Clause, absent}
use Rattle.sq_meaning.specs.Tables.{TableDescriptor, Tables, descriptor_of, item_of}
use Rattle.sq_meaning.specs.Target.{Target, places_of, searched_target, seen_through, target_of}
use Rattle.sq_meaning.specs.declared.status.Status.TheVariants as status
use Rattle.sq_meaning.proofs.AnswerLaws.{all_filtered, all_mapped, all_weaker}
use Rattle.sq_meaning.proofs.Bind.{bind_ok}
use Rattle.sq_meaning.specs.Binding.{Judged, has_syntax_fault, is_well_formed, lacks_privilege, privilege_missing}
use Rattle.sq_meaning.specs.Change.{Setting, Which, base_at, delete_outcome, given_rows, has_numbers, insert_outcome, insert_places, is_numbered, new_row, numbers_changed, place_under, domain_at, row_env, set_places, stored_value, stored_values, tables_in, update_outcome, updated_row, which_target, with_replaced, with_rows, with_values, without}
use Rattle.sq_meaning.specs.Constraints.{demanded}
use Rattle.sq_meaning.specs.Cursor.{CursorState, fetched, is_open}
use Rattle.sq_meaning.specs.Machine.{Call, Outcomes, Program, Running, State, behind_delete, change_by, cursor_now, delete_rows, ends_with, fetch_cursor, fetch_to, move_of, moved, open_by, open_cursor, opened, outcome, performed, performed_if, running, setting, shown_now, surroundings, update_rows, which_rows}
use Rattle.sq_meaning.specs.Module.{cursor_named, module_named, procedure_named}
use Rattle.sq_meaning.specs.Parameter.{replied_with}
use Rattle.sq_meaning.specs.Privilege.{Privilege}
use Rattle.sq_meaning.specs.Privileges.{holds}
use Rattle.sq_meaning.specs.Schema.{BaseTable}
use Rattle.sq_meaning.specs.Site.{Known, Site}
use Rattle.sq_meaning.specs.WellFormedStatement.{is_well_formed_procedure, judged_by, known_in, orientation_of, set_sites, statement_sites, updatable_cursor, where_sites, with_select, means_own_column}
use Rattle.sq_meaning.specs.Words.{is_some_and}
use Rattle.sq_run.specs.Integrity.{Changes, IsAllowed, IsRowWith, OnlyAllowedChanges, base_places, is_rollback, rolls_back}
use Rattle.sq_run.proofs.Laws.CalledAs.{called_as, no_module, no_procedure, unknown}
use Rattle.sq_run.proofs.Changed.Completed.{completed_is}
use Rattle.sq_run.proofs.Sites.SiteLaws.{all_of_flat_mapped, all_parts, neither, none_passes}

-- ---- privileges that well-formed statements need

second_false : (a b : Bool) → not (a || b) ≡ true → b ≡ false
second_false true b e = cc
second_false false b e = not-true b e

-- no site of a well-formed statement lacks a privilege
pub none_missing : (j : Judged) (sites : List Site) → is_well_formed j sites ≡ true
    → AllByRecursion (λ x. privilege_missing j.holds x ≡ false) sites
none_missing j sites e =
    none_passes (privilege_missing j.holds) sites (second_false (has_syntax_fault j sites) (lacks_privilege j sites) e)

all_selected : (P : Site → Type 0) (b : Bool) (x : Site) (sites : List Site) → AllByRecursion P (if b then x ∷ sites else sites)
    → AllByRecursion P sites
all_selected P true x sites h = h.1
all_selected P false x sites h = h

-- ---- rows with other values at some places

set_elsewhere : {A : Type 0} (xs : List A) (k n : ℕ) (x : A) → n ≢ k → slice_get (slice_set xs k x) n ≡ slice_get xs n
set_elsewhere [] k n x h = refl
set_elsewhere (y ∷ ys) zero zero x h = absurd (h refl)
set_elsewhere (y ∷ ys) zero (suc n) x h = refl
set_elsewhere (y ∷ ys) (suc k) zero x h = refl
set_elsewhere (y ∷ ys) (suc k) (suc n) x h = set_elsewhere ys k n x (λ e. h (ap suc e))

unlike : (n k : ℕ) → nat_eq n k ≡ false → n ≢ k
unlike n k e = λ same. let never : true ≡ false = sym (eq-eqb n k same) ∙ e in cc

values_elsewhere : (given : List (ℕ × Value)) (row : Row) (place : ℕ) → list_any (nat_eq place) (map (λ g. g.0) given) ≡ false
    → slice_get (with_values given row) place ≡ slice_get row place
values_elsewhere [] row place e = refl
values_elsewhere (g ∷ gs) row place e =
    let parts = neither (nat_eq place g.0) (list_any (nat_eq place) (map (λ x. x.0) gs)) e in
    values_elsewhere gs (slice_set row g.0 g.1) place parts.1 ∙ set_elsewhere row g.0 place g.1 (unlike place g.0 parts.0)

-- the values that are given stand at the places that are set
places_kept : {A : Type 0} (f : ℕ × A → Outcome Value) (news : List (ℕ × A)) (given : List (ℕ × Value))
    → each (λ n. and_then (f n) (λ v. Ok (n.0, v))) news ≡ Ok given → map (λ g. g.0) given ≡ map (λ n. n.0) news
places_kept f [] given e = let none : [] ≡ given = cc in ap (map (λ g. g.0)) (sym none)
places_kept f (n ∷ news) given e =
    let first = bind_ok (and_then (f n) (λ v. Ok (n.0, v))) _ given e in
    let value = bind_ok (f n) (λ v. Ok (n.0, v)) first.0 first.1 in
    let others = bind_ok (each (λ m. and_then (f m) (λ v. Ok (m.0, v))) news) (λ gs. Ok (first.0 ∷ gs)) given first.2 in
    let head : (n.0, value.0) ≡ first.0 = cc in
    let all : first.0 ∷ others.0 ≡ given = cc in
    ap (map (λ g. g.0)) (sym all) ∙ (λ i. (sym head i).0 ∷ places_kept f news others.0 others.1 i)

places_set : {A B C : Type 0} (g : C → Option ℕ) (c : A → C) (v : A → B) (xs : List A)
    → map {A = ℕ × B} (λ n. n.0) (filter_map (λ a. option_map (λ place. (place, v a)) (g (c a))) xs) ≡ filter_map g (map c xs)
places_set g c v [] = refl
places_set {A} {B} {C} g c v (a ∷ xs) = by_place (g (c a)) (places_set g c v xs)
  where
    by_place : (o : Option ℕ) → map {A = ℕ × B} (λ n. n.0) (filter_map (λ b. option_map (λ place. (place, v b)) (g (c b))) xs) ≡ filter_map g (map c xs)
        → map {A = ℕ × B} (λ n. n.0) (cons_option (option_map (λ place. (place, v a)) o) (filter_map (λ b. option_map (λ place. (place, v b)) (g (c b))) xs))
        ≡ cons_option o (filter_map g (map c xs))
    by_place None h = h
    by_place (Some place) h = ap (λ ps. place ∷ ps) h

-- ---- rows that are among the rows before

among_later : {A : Type 0} (y : A) (xs : List A) (x : A) → IsAmong xs x → IsAmong (y ∷ xs) x
among_later y xs x h = let within = h.1.0 in (suc h.0, (omega (arith, within), h.1.1))

pub all_among : {A : Type 0} (xs : List A) → AllByRecursion (IsAmong xs) xs
all_among [] = tt
all_among (x ∷ xs) = ((zero, (omega arith, refl)), all_weaker (IsAmong xs) (IsAmong (x ∷ xs)) (among_later x xs) xs (all_among xs))

each_made : {A B : Type 0} (f : A → Outcome B) (P : A → Type 0) (Q : B → Type 0) → ((x : A) (y : B) → P x → f x ≡ Ok y → Q y)
    → (xs : List A) (ys : List B) → AllByRecursion P xs → each f xs ≡ Ok ys → AllByRecursion Q ys
each_made f P Q h [] ys p e = let none : [] ≡ ys = cc in subst (AllByRecursion Q) none tt
each_made f P Q h (x ∷ xs) ys p e =
    let first = bind_ok (f x) _ ys e in
    let others = bind_ok (each f xs) (λ zs. Ok (first.0 ∷ zs)) ys first.2 in
    let all : first.0 ∷ others.0 ≡ ys = cc in
    subst (AllByRecursion Q) all (h x first.0 p.0 first.1, each_made f P Q h xs others.0 p.1 others.1)

-- ---- the table that a statement changes

-- what a searched statement changes is under the name
pub record IsUnder (tables : Tables) (name : TableName) (target : Target) : Type 0 where
  pub under : Target
  pub means : target_of tables name ≡ Ok under
  pub place : target.place ≡ under.place
  pub columns : (d : TableDescriptor) → descriptor_of tables name ≡ Ok d → (names : List Name)
      → base_places tables name names ≡ Ok (filter_map (place_under d target) names)

searched_under : (tables : Tables) (name : TableName) (clause : Clause Named) (target : Target)
    → searched_target tables name clause ≡ Ok target → IsUnder tables name target
searched_under tables name clause target e =
    let item = bind_ok (item_of tables (record { table = name; correlation = None })) _ target e in
    let under = bind_ok (target_of tables name) _ target item.2 in
    let source : Clause Named → Target = λ w. seen_through (record { item = item.0; columns = places_of (item.0).columns; condition = w }) under.0 in
    let same : source clause ≡ target = cc in
    let without : searched_target tables name absent ≡ Ok (source absent) =
    ap (λ (o : Outcome _). and_then o (λ i. and_then (target_of tables name) (λ u. Ok (seen_through (record { item = i; columns = places_of i.columns; condition = absent }) u)))) item.1
    ∙ ap (λ (o : Outcome Target). and_then o (λ u. Ok (seen_through (record { item = item.0; columns = places_of (item.0).columns; condition = absent }) u))) under.1 in
    record {
      under = under.0;
      means = under.1;
      place = ap (λ (t : Target). t.place) (sym same);
      columns = λ d there names.
          ap (λ (o : Outcome TableDescriptor). and_then o (λ x. and_then (searched_target tables name absent) (λ t. Ok (filter_map (place_under x t) names)))) there
          ∙ ap (λ (o : Outcome Target). and_then o (λ t. Ok (filter_map (place_under d t) names))) without
          ∙ ap (λ (t : Target). Ok (filter_map (place_under d t) names)) same;
    }

which_under : (s : Setting) (name : TableName) (which : Which) (target : Target) → which_target s name which ≡ Ok target
    → IsUnder (tables_in s) name target
which_under s name (Which.searched clause) target e = searched_under (tables_in s) name clause target e
which_under s name (Which.numbered n) target e = searched_under (tables_in s) name absent target e

-- one table is changed, as the user may
record One (s : Setting) (name : TableName) (after : Content) : Type 0 where
  target : Target
  means : target_of (tables_in s) name ≡ Ok target
  changed : Table
  is : after ≡ with_table s.content target.place changed
  allowed : IsAllowed s.elements s.user name (table_at s.content target.place) changed

one_under : (s : Setting) (name : TableName) (target : Target) (after : Content) (changed : Table) → IsUnder (tables_in s) name target
    → after ≡ with_table s.content target.place changed
    → IsAllowed s.elements s.user name (table_at s.content target.place) changed → One s name after
one_under s name target after changed u is allowed = record {
  target = u.under;
  means = u.means;
  changed = changed;
  is = is ∙ ap (λ (n : ℕ). with_table s.content n changed) u.place;
  allowed = subst (λ (n : ℕ). IsAllowed s.elements s.user name (table_at s.content n) changed) u.place allowed;
}

insert_one : (s : Setting) (i : Insert) (after : Content) → holds s.elements s.user (table_of s.user i.table) Privilege.insert ≡ true
    → insert_outcome s i ≡ Ok after → One s (table_of s.user i.table) after
insert_one s i after held e =
    let d = bind_ok (descriptor_of (tables_in s) (table_of s.user i.table)) _ after e in
    let target = bind_ok (target_of (tables_in s) (table_of s.user i.table)) _ after d.2 in
    let t = bind_ok (base_at s (target.0).place) _ after target.2 in
    let given = bind_ok (given_rows s t.0 (insert_places d.0 target.0 i.columns) i.source) _ after t.2 in
    let rows = bind_ok (each (new_row s t.0) given.0) _ after given.2 in
    let numbers = bind_ok (demanded (has_numbers s (target.0).place rows.0) status.NoRowNumberLeft) _ after rows.2 in
    record {
      target = target.0;
      means = target.1;
      changed = with_rows (table_at s.content (target.0).place) rows.0;
      is = completed_is s target.0 t.0 rows.0 (with_rows (table_at s.content (target.0).place) rows.0) after numbers.2;
      allowed = IsAllowed.inserts held rows.0 refl;
    }

-- a row after the set clauses has its other values
row_with : (s : Setting) (d : TableDescriptor) (target : Target) (t : BaseTable) (u : Update) (before : Table) (r new : Numbered)
    → IsAmong before.rows r → updated_row s d target t u r ≡ Ok new
    → IsRowWith (filter_map (place_under d target) (map (λ a. a.column) (listed u.assignments))) before new
row_with s d target t u before r new among e =
    let given = bind_ok (stored_values s (row_env s d target r.row) t (set_places d target u)) _ new e in
    let made : Numbered = record { number = r.number; row = with_values given.0 r.row } in
    let same : made ≡ new = cc in
    let places : map (λ g. g.0) given.0 ≡ filter_map (place_under d target) (map (λ a. a.column) (listed u.assignments))
    = places_kept (λ n. stored_value s (row_env s d target r.row) (domain_at t n.0) n.1) (set_places d target u) given.0 given.1
    ∙ places_set (place_under d target) (λ (a : SetClause). a.column) (λ a. a.value) (listed u.assignments) in
    record {
      old = r;
      was_there = among;
      number = ap (λ (x : Numbered). x.number) (sym same);
      others = λ place out.
          ap (λ (x : Numbered). slice_get x.row place) (sym same)
          ∙ values_elsewhere given.0 r.row place (ap (λ ps. list_any (nat_eq place) ps) places ∙ out);
    }

update_one : (s : Setting) (u : Update) (which : Which) (after : Content)
    → AllByRecursion (λ c. holds s.elements s.user (table_of s.user u.table) (Privilege.update c) ≡ true) (map (λ a. a.column) (listed u.assignments))
    → update_outcome s u which ≡ Ok after → One s (table_of s.user u.table) after
update_one s u which after held e =
    let d = bind_ok (descriptor_of (tables_in s) (table_of s.user u.table)) _ after e in
    let target = bind_ok (which_target s (table_of s.user u.table) which) _ after d.2 in
    let t = bind_ok (base_at s (target.0).place) _ after target.2 in
    let numbers = bind_ok (numbers_changed s target.0 which) _ after t.2 in
    let before : Table = table_at s.content (target.0).place in
    let changed = bind_ok (each (updated_row s d.0 target.0 t.0 u) (filter (is_numbered numbers.0) before.rows)) _ after numbers.2 in
    let under = which_under s (table_of s.user u.table) which target.0 target.1 in
    let columns : List Name = map (λ a. a.column) (listed u.assignments) in
    one_under s (table_of s.user u.table) target.0 after (with_replaced before changed.0) under
    (completed_is s target.0 t.0 (map (λ r. r.row) changed.0) (with_replaced before changed.0) after changed.2)
    (IsAllowed.updates columns held (filter_map (place_under d.0 target.0) columns) (under.columns d.0 d.1 columns) changed.0 refl
    (each_made (updated_row s d.0 target.0 t.0 u) (IsAmong before.rows) (IsRowWith (filter_map (place_under d.0 target.0) columns) before)
    (row_with s d.0 target.0 t.0 u before) (filter (is_numbered numbers.0) before.rows) changed.0
    (all_filtered (IsAmong before.rows) (is_numbered numbers.0) before.rows (all_among before.rows)) changed.1))

delete_one : (s : Setting) (x : Delete) (which : Which) (after : Content) → holds s.elements s.user (table_of s.user x.table) Privilege.delete ≡ true
    → delete_outcome s x which ≡ Ok after → One s (table_of s.user x.table) after
delete_one s x which after held e =
    let target = bind_ok (which_target s (table_of s.user x.table) which) _ after e in
    let t = bind_ok (base_at s (target.0).place) _ after target.2 in
    let numbers = bind_ok (numbers_changed s target.0 which) _ after t.2 in
    one_under s (table_of s.user x.table) target.0 after (without (table_at s.content (target.0).place) numbers.0)
    (which_under s (table_of s.user x.table) which target.0 target.1)
    (completed_is s target.0 t.0 [] (without (table_at s.content (target.0).place) numbers.0) after numbers.2)
    (IsAllowed.deletes held numbers.0 refl)

-- ---- a statement

data Course (r : Running) (x : Statement) (o : Outcomes) : Type 0 where
  stays : (o.0).tables ≡ r.state.tables → Course r x o
  back : is_rollback x ≡ true → (o.0).tables ≡ r.state.committed → Course r x o
  one : (name : TableName) → One (setting r) name (o.0).tables → Course r x o

goes_if : (r : Running) (x : Statement) (b : Bool) (o p : Outcomes) → Course r x o → Course r x p → Course r x (if b then o else p)
goes_if r x true o p g h = g
goes_if r x false o p g h = h

goes_named : (r : Running) (x : Statement) (c : Option Cursor) (f : Cursor → Outcomes) → ((d : Cursor) → Course r x (f d))
    → Course r x (unwrap_or (option_map f c) (ends_with r status.SyntaxErrorOrAccessRuleViolation))
goes_named r x None f h = Course.stays refl
goes_named r x (Some d) f h = h d

goes_open : (r : Running) (x : Statement) (name : Name) (o : Outcome CursorState) → Course r x (open_by r name o)
goes_open r x name (Ok c) = Course.stays refl
goes_open r x name (Err s) = Course.stays refl

goes_change : (r : Running) (x : Statement) (behind : State) (name : TableName) (o : Outcome Content)
    → ((after : Content) → o ≡ Ok after → One (setting r) name after) → Course r x (change_by r behind o)
goes_change r x behind name (Ok content) h = Course.one name (h content refl)
goes_change r x behind name (Err s) h = Course.stays refl

abbrev pub WellFormed : Running → Statement → Type 0
WellFormed r x =
    is_well_formed (judged_by (surroundings r) (known_in (surroundings r))) (statement_sites (surroundings r) x) ≡ true

abbrev pub NotMissing : Running → Site → Type 0
NotMissing r x = privilege_missing (holds r.program.elements r.in_module.authorization) x ≡ false

pub not_missing : (r : Running) (x : Statement) → WellFormed r x → AllByRecursion (NotMissing r) (statement_sites (surroundings r) x)
not_missing r x well = none_missing (judged_by (surroundings r) (known_in (surroundings r))) (statement_sites (surroundings r) x) well

abbrev name_in : Running → Name
name_in r = r.in_module.authorization

update_held : (r : Running) (u : Update) → WellFormed r (statement.Update u)
    → AllByRecursion (λ c. holds r.program.elements (name_in r) (table_of (name_in r) u.table) (Privilege.update c) ≡ true) (map (λ a. a.column) (listed u.assignments))
update_held r u well =
    let name : TableName = table_of (name_in r) u.table in
    let k : Known = known_in (surroundings r) in
    let sites : List Site = flat_map (set_sites (surroundings r) name) (listed u.assignments) ++ where_sites (surroundings r) name u.target in
    let some : AllByRecursion (NotMissing r) (with_select k name sites) = (not_missing r (statement.Update u) well).1.1 in
    let all = all_selected (NotMissing r) (list_any (means_own_column k) sites) (Site.privilege_used name Privilege.select) sites some in
    let sets = all_of_flat_mapped (NotMissing r) (set_sites (surroundings r) name) (listed u.assignments)
    (all_parts (NotMissing r) (flat_map (set_sites (surroundings r) name) (listed u.assignments)) (where_sites (surroundings r) name u.target) all).0 in
    all_mapped (λ (a : SetClause). AllByRecursion (NotMissing r) (set_sites (surroundings r) name a))
    (λ c. holds r.program.elements (name_in r) name (Privilege.update c) ≡ true) (λ a. a.column)
    (λ a h. not-false (holds r.program.elements (name_in r) name (Privilege.update a.column)) h.1.0) (listed u.assignments) sets

update_course : (r : Running) (u : Update) → WellFormed r (statement.Update u) → Course r (statement.Update u) (performed r (statement.Update u))
update_course r u well =
    goes_change r (statement.Update u) r.state (table_of (name_in r) u.table) (update_rows r u)
    (λ after e. let b = bind_ok (which_rows r u.target) (λ which. update_outcome (setting r) u which) after e in
    update_one (setting r) u b.0 after (update_held r u well) b.2)

delete_course : (r : Running) (x : Delete) → WellFormed r (statement.Delete x) → Course r (statement.Delete x) (performed r (statement.Delete x))
delete_course r x well =
    goes_change r (statement.Delete x) (behind_delete r x.target) (table_of (name_in r) x.table) (delete_rows r x)
    (λ after e. let b = bind_ok (which_rows r x.target) (λ which. delete_outcome (setting r) x which) after e in
    delete_one (setting r) x b.0 after
    (not-false (holds r.program.elements (name_in r) (table_of (name_in r) x.table) Privilege.delete) (not_missing r (statement.Delete x) well).1.0) b.2)

course : (r : Running) (x : Statement) → WellFormed r x → Course r x (performed r x)
course r (statement.Open name) well =
    goes_named r (statement.Open name) (cursor_named r.in_module name) (open_cursor r name)
    (λ c. goes_if r (statement.Open name) (is_open (cursor_now r name)) (ends_with r status.InvalidCursorState) (open_by r name (opened r c)) (Course.stays refl) (goes_open r (statement.Open name) name (opened r c)))
course r (statement.Fetch f) well =
    goes_named r (statement.Fetch f) (cursor_named r.in_module f.cursor) (fetch_cursor r f)
    (λ c. goes_if r (statement.Fetch f) (is_open (cursor_now r f.cursor))
    (fetch_to r f (fetched (shown_now r (updatable_cursor (surroundings r) c)) (move_of r.parameters (orientation_of f)) (cursor_now r f.cursor)))
    (ends_with r status.InvalidCursorState) (Course.stays refl) (Course.stays refl))
course r (statement.Close name) well =
    goes_if r (statement.Close name) (is_open (cursor_now r name)) (moved r name CursorState.closed, replied_with status.SuccessfulCompletion) (ends_with r status.InvalidCursorState) (Course.stays refl) (Course.stays refl)
course r (statement.Select s) well = Course.stays refl
course r (statement.Insert i) well =
    goes_change r (statement.Insert i) r.state (table_of (name_in r) i.table) (insert_outcome (setting r) i)
    (λ after e. insert_one (setting r) i after
    (not-false (holds r.program.elements (name_in r) (table_of (name_in r) i.table) Privilege.insert) (not_missing r (statement.Insert i) well).1.0) e)
course r (statement.Update u) well = update_course r u well
course r (statement.Delete x) well = delete_course r x well
course r (statement.Commit work) well = Course.stays refl
course r (statement.Rollback work) well = Course.back refl refl

-- ---- a call

module _ (p : Program) (s : State) (c : Call) where
  of_state : (o : Outcomes) → outcome p s c ≡ o → (o.0).tables ≡ s.tables → Changes p s c
  of_state o e t = Changes.nothing (ap (λ (x : Outcomes). (x.0).tables) e ∙ t)

  module _ (m : ModuleText) (is_m : module_named p.modules c.in_module ≡ Some m) (q : Procedure) (is_q : procedure_named m c.procedure ≡ Some q) where
    abbrev run : Running
    run = running p s c.values m q

    is_rolled_back : is_rollback q.statement ≡ true → rolls_back p c ≡ true
    is_rolled_back is =
        ap (λ (y : Option ModuleText). is_some_and (λ x. is_rollback x.statement) (option_and_then (λ x. procedure_named x c.procedure) y)) is_m
        ∙ ap (λ (y : Option Procedure). is_some_and (λ x. is_rollback x.statement) y) is_q ∙ is

    of_course : (o : Outcomes) → outcome p s c ≡ o → Course run q.statement o → Changes p s c
    of_course o e (Course.stays t) = of_state o e t
    of_course o e (Course.back is t) = Changes.to_committed (is_rolled_back is) (ap (λ (x : Outcomes). (x.0).tables) e ∙ t)
    of_course o e (Course.one name h) =
        Changes.one_table (record {
          in_module = m;
          is_in_module = is_m;
          name = name;
          target = h.target;
          means = h.means;
          after = h.changed;
          is_after = ap (λ (x : Outcomes). (x.0).tables) e ∙ h.is;
          allowed = h.allowed;
        })

    by_rules : (b : Bool) → is_well_formed_procedure p.elements m q ≡ b → Changes p s c
    by_rules true e =
        of_course (performed run q.statement) (called_as p s c m is_m q is_q ∙ ap (λ b. performed_if b run) e) (course run q.statement e)
    by_rules false e =
        of_state (s, replied_with status.SyntaxErrorOrAccessRuleViolation) (called_as p s c m is_m q is_q ∙ ap (λ b. performed_if b run) e) refl

  by_procedure : (m : ModuleText) → module_named p.modules c.in_module ≡ Some m → (o : Option Procedure) → procedure_named m c.procedure ≡ o
      → Changes p s c
  by_procedure m is_m None e = of_state (unknown p s c) (no_procedure p s c m is_m e) refl
  by_procedure m is_m (Some q) e = by_rules m is_m q e (is_well_formed_procedure p.elements m q) refl

  by_module : (o : Option ModuleText) → module_named p.modules c.in_module ≡ o → Changes p s c
  by_module None e = of_state (unknown p s c) (no_module p s c e) refl
  by_module (Some m) e = by_procedure m e (procedure_named m c.procedure) refl

pub only_allowed_changes : (p : Program) → OnlyAllowedChanges p
unfolding OnlyAllowedChanges
only_allowed_changes p = λ s c. by_module p s c (module_named p.modules c.in_module) refl
