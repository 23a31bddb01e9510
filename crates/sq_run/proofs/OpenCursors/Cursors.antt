-- The cursor that a session has under a number, in a session of accepted texts that stands for the machine:
-- it is on the number of a row that the machine's cursor is on (ISO/IEC 9075:1992, 4.21).
use Rattle.std.proofs.Common.{◌≡◌, ℕ, zero, suc, List, [], ◌∷◌, map, Some, sym, ap, subst, ◌∙◌}
use Rattle.std.specs.Prelude.{slice_get, slice_index_or}
use Rattle.sq_tree.specs.declared.«module».Cursor.{Cursor}
use Rattle.sq_tree.specs.declared.«module».ModuleText.{ModuleText}
use Rattle.sq_tree.specs.declared.schema.SchemaText.{SchemaText}
use Rattle.sq_store.specs.Content.{Content}
use Rattle.sq_meaning.specs.Cursor as machine
use Rattle.sq_meaning.specs.Machine as by_name
use Rattle.sq_bound.specs.Known.{KnownTables}
use Rattle.sq_module.specs.declared.program.DeclaredCursor.{DeclaredCursor}
use Rattle.sq_module.specs.declared.program.Program.{Program}
use Rattle.sq_session.specs.Schemas.{Schemas}
use Rattle.sq_session.specs.Session.{Session}
use Rattle.sq_session.specs.State.{cursor_at, number_on}
use Rattle.sq_session.specs.declared.cursor.CursorState.{CursorState}
use Rattle.sq_session.specs.declared.cursor.CursorState.TheVariants as cursor
use Rattle.sq_session.specs.declared.walk.WalkingCursor.{WalkingCursor}
use Rattle.sq_run.proofs.Steps.DeleteAtSame.{on_same}
use Rattle.sq_run.proofs.OpenCursors.SameCursors.{AreSame}
use Rattle.sq_run.proofs.Steps.SameStates.{SameCursor}
use Rattle.sq_run.proofs.Steps.Agrees.{module_of, name_of}
use Rattle.sq_run.proofs.Steps.Exact.{IsBoundExactly, IsOpenedFrom}
use Rattle.sq_run.proofs.Steps.Projected.{entry_of}
use Rattle.sq_run.proofs.Texts.Reports.{IsSession}

-- a session of this program has this cursor of the module under this number
pub record IsCursorAt (program : Program) (m : ModuleText) (c : Cursor) (n : ℕ) : Type 0 where
  pub declared_as : DeclaredCursor
  pub there : slice_get program.cursors.items n ≡ Some declared_as
  pub of_module : declared_as.«module» ≡ m.name
  pub named : declared_as.name ≡ c.name

same_at : (tables : Content) (x : by_name.State) (ds : List DeclaredCursor) (cs : List CursorState) (n : ℕ) (d : DeclaredCursor)
    → AreSame (SameCursor tables) ds cs (map (entry_of module_of name_of x) ds) → slice_get ds n ≡ Some d
    → SameCursor tables d (slice_index_or cs n cursor.Closed) (by_name.cursor_at x d.«module» d.name)
same_at tables x [] cs n d h at = cc
same_at tables x (e ∷ ds) [] n d h at = absurd h
same_at tables x (e ∷ ds) (k ∷ cs) zero d h at =
    let same : e ≡ d = cc in subst (λ (y : DeclaredCursor). SameCursor tables y k (by_name.cursor_at x y.«module» y.name)) same h.0
same_at tables x (e ∷ ds) (k ∷ cs) (suc n) d h at = same_at tables x ds cs n d h.1 at

module _ (texts : List SchemaText) (modules : List ModuleText) (row_numbers : ℕ) (known : KnownTables) (schemas : Schemas) (program : Program)
    (o : IsOpenedFrom texts modules known schemas program) (exact : IsBoundExactly texts modules program) where
  -- It is on the number that the machine's cursor of that module and name is on.
  pub number_is_on : (s : Session) (x : by_name.State) → IsSession texts modules row_numbers known schemas program o exact s x
      → (m : ModuleText) (c : Cursor) (n : ℕ) → IsCursorAt program m c n
      → machine.number_on (by_name.cursor_at x m.name c.name) ≡ number_on (cursor_at s.state n)
  number_is_on s x stands m c n at =
      let d : DeclaredCursor = at.declared_as in
      let same = same_at s.state.tables x program.cursors.items s.state.cursors n d stands.agrees.same.cursors at.there in
      (λ i. machine.number_on (by_name.cursor_at x (sym at.of_module i) (sym at.named i)))
      ∙ on_same s.state.tables d (cursor_at s.state n) (by_name.cursor_at x d.«module» d.name) same

  -- Where it walks it is on the number that the machine's cursor of that module and name is on.
  pub walk_is_on : (s : Session) (x : by_name.State) → IsSession texts modules row_numbers known schemas program o exact s x
      → (m : ModuleText) (c : Cursor) (n : ℕ) → IsCursorAt program m c n → (w : WalkingCursor) → cursor_at s.state n ≡ cursor.Walking w
      → machine.number_on (by_name.cursor_at x m.name c.name) ≡ w.on
  walk_is_on s x stands m c n at w walking =
      let d : DeclaredCursor = at.declared_as in
      let same = same_at s.state.tables x program.cursors.items s.state.cursors n d stands.agrees.same.cursors at.there in
      let walk = subst (λ z. SameCursor s.state.tables d z (by_name.cursor_at x d.«module» d.name)) walking same in
      (λ i. machine.number_on (by_name.cursor_at x (sym at.of_module i) (sym at.named i))) ∙ ap machine.number_on walk.is
