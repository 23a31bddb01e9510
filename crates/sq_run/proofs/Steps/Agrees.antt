-- What a session's state and the machine's are to each other between calls (ISO/IEC 9075:1992,
-- 4.21 and 4.28), and what that is to a call's statement: the same parameters, and each cursor
-- that it names under its number.
use Rattle.std.proofs.Common.{◌≡◌, ℕ, zero, suc, Bool, true, false, ◌&&◌, ◌||◌, List, [], ◌∷◌, ◌++◌, length, map, Some, None, refl, sym, ap, subst, ◌∙◌}
use Rattle.std.proofs.lemmas.List.Folds.{list_any-append}
use Rattle.std.specs.Cmp.Lexicographic.{same_text}
use Rattle.std.specs.List.{IsAmong, list_any}
use Rattle.std.specs.Prelude.{Option, slice_get}
use Rattle.std.proofs.lemmas.Bool.{and_parts}
use Rattle.sq_lex.specs.declared.name.Name.{Name}
use Rattle.sq_tree.specs.declared.«module».ModuleItem.TheVariants as item
use Rattle.sq_tree.specs.declared.«module».ModuleText.{ModuleText}
use Rattle.sq_tree.specs.declared.«module».Procedure.{Procedure}
use Rattle.sq_tree.specs.declared.schema.SchemaText.{SchemaText}
use Rattle.sq_value.specs.declared.value.Value.{Value}
use Rattle.sq_store.specs.Content.{Content}
use Rattle.sq_meaning.specs.Environment.{same_name}
use Rattle.sq_meaning.specs.Status.{well_formed}
use Rattle.sq_meaning.specs.WellFormed.{Has}
use Rattle.sq_meaning.specs.Module.{cursor_named, declarations_of}
use Rattle.sq_meaning.specs.ModuleRefusal.{first_module_refusal}
use Rattle.sq_meaning.specs.SchemaRefusal.{elements_of}
use Rattle.sq_run.proofs.Laws.CallLaws.{StateHolds}
use Rattle.sq_meaning.specs.Constraints.{ConstraintsHold}
use Rattle.sq_meaning.specs.Machine as by_name
use Rattle.sq_meaning.specs.Machine.{CursorEntry, Running, running}
use Rattle.sq_meaning.specs.Parameter.{inputs_of, started_parameters}
use Rattle.sq_meaning.specs.Run.{program_of}
use Rattle.sq_bound.specs.Fits.{keys_of_bases}
use Rattle.sq_bound.specs.Known.{KnownTables}
use Rattle.sq_bound.specs.declared.names.ParameterDesc.{ParameterDesc}
use Rattle.sq_module.specs.Written.{AreApart, Declare, IsDeclaredFrom, IsNumberOf, is_cursor}
use Rattle.sq_module.specs.declared.program.DeclaredCursor.{DeclaredCursor}
use Rattle.sq_module.proofs.Named.{bound_declared}
use Rattle.sq_session.specs.Kind.{caller_of}
use Rattle.sq_session.specs.Parameter.{started_values}
use Rattle.sq_session.specs.Schemas.{Schemas}
use Rattle.sq_session.specs.State.{State}
use Rattle.sq_session.specs.Step.{HasTables}
use Rattle.sq_run.proofs.Steps.Calls.{call_named}
use Rattle.sq_run.proofs.Steps.InSession.{AreKept, AreOf, IsCalledAs}
use Rattle.sq_run.proofs.Places.Parameters.{AreNamed}
use Rattle.sq_run.proofs.Steps.SameStates.{SameStates}
use Rattle.sq_run.proofs.Steps.SessionKeeps.{IsCursorHere}
use Rattle.sq_run.proofs.Changed.TargetsSet.{AreParameters}
use Rattle.sq_run.proofs.Steps.Found.{at_mapped, cursor_found, itself, never_both}
use Rattle.sq_run.proofs.OpenCursors.GoesOver.{GoesOver}
use Rattle.sq_run.proofs.Schemas.InDomains.{in_domains}
use Rattle.sq_run.proofs.Steps.Moves.{AllRise, HaveCount}
use Rattle.sq_run.proofs.Steps.Projected.{IsOver, entry_of, projected, running_projected}
use Rattle.sq_run.proofs.Steps.Started.{are_parameters, started_same}

abbrev pub module_of : DeclaredCursor → Name
module_of d = d.«module»

abbrev pub name_of : DeclaredCursor → Name
name_of d = d.name

-- The tables are the same, now and as committed, and so is each cursor that the session has; every other
-- cursor of the machine is closed. There is a table for each base table, with rising numbers of rows, in
-- which all constraints hold.
pub record Agrees (texts : List SchemaText) (row_numbers : ℕ) (schemas : Schemas) (declared : List DeclaredCursor) (s : State)
    (x : by_name.State) : Type 0 where
  pub same : SameStates declared s (projected module_of name_of declared x)
  pub over : IsOver module_of name_of declared x
  pub counts : HaveCount (length schemas.bases) x.tables × HaveCount (length schemas.bases) x.committed
  pub rising : AllRise x.tables × AllRise x.committed
  pub hold : StateHolds (elements_of texts) x
  pub goes_over : GoesOver declared row_numbers (keys_of_bases schemas.bases) s

-- ---- cursors by their names

both_names : (c : DeclaredCursor) (m name : Name) → c.«module» ≡ m → c.name ≡ name → is_cursor m name c ≡ true
both_names c m name e f = (λ i. same_name m (e i) && same_name name (f i)) ∙ (λ i. itself m i && itself name i)

-- Two places under one name are one place.
module _ (m name : Name) where
  none_behind : (before ds : List DeclaredCursor) → AreApart before ds → list_any (is_cursor m name) before ≡ true → (j : ℕ) (e : DeclaredCursor)
      → slice_get ds j ≡ Some e → e.«module» ≡ m → e.name ≡ name → ⊥
  none_behind before [] apart there j e at of_module named = cc
  none_behind before (d ∷ ds) apart there zero e at of_module named =
      let same : d ≡ e = cc in
      let is : list_any (is_cursor d.«module» d.name) before ≡ true
      = (λ i. list_any (is_cursor ((ap (λ (x : DeclaredCursor). x.«module») same ∙ of_module) i) ((ap (λ (x : DeclaredCursor). x.name) same ∙ named) i)) before) ∙ there in
      never_both (list_any (is_cursor d.«module» d.name) before) is apart.0
  none_behind before (d ∷ ds) apart there (suc j) e at of_module named =
      none_behind (before ++ d ∷ []) ds apart.1 (list_any-append (is_cursor m name) before (d ∷ []) ∙ ap (λ b. b || list_any (is_cursor m name) (d ∷ [])) there) j e at of_module named

  last_there : (before : List DeclaredCursor) (d : DeclaredCursor) → d.«module» ≡ m → d.name ≡ name → list_any (is_cursor m name) (before ++ d ∷ []) ≡ true
  last_there [] d of_module named = ap (λ b. b || false) (both_names d m name of_module named)
  last_there (c ∷ before) d of_module named = ap (λ b. is_cursor m name c || b) (last_there before d of_module named) ∙ or_true (is_cursor m name c)
    where
      or_true : (b : Bool) → (b || true) ≡ true
      or_true true = refl
      or_true false = refl

  one_place : (before ds : List DeclaredCursor) → AreApart before ds → (i j : ℕ) (d e : DeclaredCursor) → slice_get ds i ≡ Some d → slice_get ds j ≡ Some e
      → d.«module» ≡ m → d.name ≡ name → e.«module» ≡ m → e.name ≡ name → i ≡ j
  one_place before [] apart i j d e here there a b f g = cc
  one_place before (x ∷ ds) apart zero zero d e here there a b f g = refl
  one_place before (x ∷ ds) apart zero (suc j) d e here there a b f g =
      let same : x ≡ d = cc in
      absurd (none_behind (before ++ x ∷ []) ds apart.1 (last_there before x (ap (λ (y : DeclaredCursor). y.«module») same ∙ a) (ap (λ (y : DeclaredCursor). y.name) same ∙ b)) j e there f g)
  one_place before (x ∷ ds) apart (suc i) zero d e here there a b f g =
      let same : x ≡ e = cc in
      absurd (none_behind (before ++ x ∷ []) ds apart.1 (last_there before x (ap (λ (y : DeclaredCursor). y.«module») same ∙ f) (ap (λ (y : DeclaredCursor). y.name) same ∙ g)) i d here a b)
  one_place before (x ∷ ds) apart (suc i) (suc j) d e here there a b f g = ap suc (one_place (before ++ x ∷ []) ds apart.1 i j d e here there a b f g)

pub unmapped_at : {A B : Type 0} (f : A → B) (xs : List A) (i : ℕ) (y : B) → slice_get (map f xs) i ≡ Some y
    → (x : A) × (slice_get xs i ≡ Some x) × (f x ≡ y)
unmapped_at f [] i y e = cc
unmapped_at f (x ∷ xs) zero y e = let same : f x ≡ y = cc in (x, refl, same)
unmapped_at f (x ∷ xs) (suc i) y e = unmapped_at f xs i y e

pub has_one : {A : Type 0} (P : A → Type 0) (o : Option A) → Has P (well_formed o) → (x : A) × (o ≡ Some x) × P x
has_one P None h = absurd h
has_one P (Some x) h = (x, refl, h)

-- ---- a call

module _ (texts : List SchemaText) (modules : List ModuleText) (row_numbers : ℕ) (known : KnownTables) (schemas : Schemas)
    (of : AreOf texts known schemas) (declared : List DeclaredCursor) (s : State) (x : by_name.State)
    (agrees : Agrees texts row_numbers schemas declared s x) where
  -- what the tables keep
  pub kept : HasTables schemas s.tables → AreKept texts schemas s
  kept shown =
      let count : length s.tables ≡ length schemas.bases = subst (λ (c : Content). length c ≡ length schemas.bases) agrees.same.tables agrees.counts.0 in
      let hold = subst (λ (c : Content). ConstraintsHold (elements_of texts) c) agrees.same.tables agrees.hold.0 in
      record {
        count = count;
        hold = hold;
        in_domains = in_domains texts known schemas of s.tables count hold;
        rising = subst AllRise agrees.same.tables agrees.rising.0;
        shown = shown;
      }

  module _ (m : ModuleText) (p : Procedure) (ps : List ParameterDesc) (declares : Declare (declarations_of p.declarations) ps) (values : List Value)
      (many : length values ≡ length ps) where
    -- the machine with the session's cursors alone
    abbrev pub few : Running
    few = running_projected module_of name_of declared (running (program_of texts modules row_numbers) x values m p)

    -- It is called alike.
    pub called : IsCalledAs texts declared (caller_of m.authorization ps) (started_values ps values) s few
    called = record {
      same = agrees.same;
      elements = refl;
      row_numbers = sym agrees.goes_over.1.0;
      user = refl;
      names = subst (λ l. AreNamed ps (inputs_of (started_parameters l values))) (bound_declared p ps declares) (call_named ps values many);
      given = started_same ps values ∙ ap (λ l. map (λ i. i.value) (inputs_of (started_parameters l values))) (bound_declared p ps declares);
      parameters = subst (λ l. AreParameters ps (started_parameters l values)) (bound_declared p ps declares) (are_parameters ps values many);
      declared_as = sym (bound_declared p ps declares);
    }

    -- a cursor that its module declares, with the session's number
    pub record IsNumbered (name : Name) (n : ℕ) : Type 0 where
      pub here : IsCursorHere declared s few name n
      pub among : IsAmong m.items (item.Cursor here.cursor)
      pub named : here.cursor.name ≡ name
      pub declared_from : IsDeclaredFrom known m here.cursor here.declared_as

    -- Each cursor that it names is so.
    pub cursor_here : first_module_refusal modules ≡ None → IsAmong modules m → AreApart [] declared → (name : Name) (n : ℕ)
        → IsNumberOf known m declared name n → IsNumbered name n
    cursor_here admitted among apart name n h =
        let found = has_one (IsDeclaredFrom known m h.cursor) (slice_get declared n) h.bound in
        let d : DeclaredCursor = found.0 in
        let named : d.name ≡ name = found.2.named ∙ h.named in
        record {
          here = record {
            only = record {
              entry = entry_of module_of name_of x d;
              at = at_mapped (entry_of module_of name_of x) declared n d found.1;
              is = (λ i. same_name (found.2.of_module i) m.name && same_name (named i) name) ∙ (λ i. itself m.name i && itself name i);
              only = λ i e at is.
                  let other = unmapped_at (entry_of module_of name_of x) declared i e at in
                  let e_is : entry_of module_of name_of x other.0 ≡ e = other.2 in
                  let parts = and_parts (same_name e.in_module m.name) (same_name e.name name) is in
                  one_place m.name name [] declared apart i n other.0 d other.1 found.1
                  (ap (λ (y : CursorEntry). y.in_module) e_is ∙ same_text e.in_module m.name (sym parts.0))
                  (ap (λ (y : CursorEntry). y.name) e_is ∙ same_text e.name name (sym parts.1)) found.2.of_module named;
            };
            declared_as = d;
            there = found.1;
            cursor = h.cursor;
            is_named = subst (λ k. cursor_named m k ≡ Some h.cursor) h.named (cursor_found modules admitted m among h.cursor h.among);
          };
          among = h.among;
          named = h.named;
          declared_from = found.2;
        }
