-- A program keeps its order, and what is bound of a module stays what the text says, where the cursor that the next of its procedures opens is
-- added (ISO/IEC 9075:1992, 13.1 and 13.2).
use Rattle.std.proofs.Common.{◌≡◌, ◌∙◌, ◌+◌, ℕ, List, [], ◌∷◌, ◌++◌, length, take, Option, Some, None, Result, IfOk, ap, refl, subst, sym}
use Rattle.std.proofs.lemmas.List.{take_more}
use Rattle.std.specs.Borrow.{Bor}
use Rattle.std.specs.Map.{lookup}
use Rattle.indexmap.specs.IndexMap.{IndexMap}
use Rattle.sq_lex.specs.declared.name.Name.{Name}
use Rattle.sq_value.specs.declared.domain.Kind.{Kind}
use Rattle.sq_tree.specs.declared.module.Cursor.{Cursor}
use Rattle.sq_tree.specs.declared.module.ModuleText.{ModuleText}
use Rattle.sq_tree.specs.declared.statement.Statement.TheVariants as tree
use Rattle.sq_meaning.specs.Environment.{same_name}
use Rattle.sq_binding.specs.Cursor.{cursor_bound}
use Rattle.sq_binder.specs.Binds.{Binds}
use Rattle.sq_binder.specs.declared.stop.Stop.{Stop}
use Rattle.sq_bound.specs.Fits.{FitsCursor}
use Rattle.sq_bound.specs.WellFormed.{IsCursor, kinds_of_parameters}
use Rattle.sq_bound.specs.declared.query.BoundCursor.{BoundCursor}
use Rattle.sq_catalog.specs.Catalog.{Catalog, column_kinds, known}
use Rattle.sq_catalog.specs.UserTables.{names_in}
use Rattle.sq_binding.specs.Names.{declared}
use Rattle.sq_binding.specs.SeenQuery.{cursor_seen}
use Rattle.sq_binding.specs.Written.{IsCursorOf}
use Rattle.sq_module.specs.Added.{AddsCursor, HasCursors, IsInOrder, IsProcedureAt, declared_as, with_cursor, with_number}
use Rattle.sq_module.specs.Admitted.{OpensEachOnce}
use Rattle.sq_module.specs.Computed.{AreComputedCursors, IsPart}
use Rattle.sq_module.specs.Named.{AreNamed}
use Rattle.sq_module.specs.Opened.{AreOfOthers, AreOpenable, AreThere, Grow, OpenedBy}
use Rattle.sq_module.specs.Program.{CursorsAreWellFormed, CursorsFit, ProceduresAreWellFormed, ProceduresFit, ProceduresOpen, kinds_of_cursors}
use Rattle.sq_module.specs.Refusal.{opened_by}
use Rattle.sq_module.specs.Written.{AreApart, AreNumbers, IsOfText, IsOpenedIn, IsProcedureOf}
use Rattle.sq_module.specs.declared.admission.AdmittedModule.{AdmittedModule}
use Rattle.sq_module.specs.declared.admission.AdmittedProcedure.{AdmittedProcedure}
use Rattle.sq_module.specs.declared.program.BoundProcedure.{BoundProcedure}
use Rattle.sq_module.specs.declared.program.DeclaredCursor.{DeclaredCursor}
use Rattle.sq_module.specs.declared.program.ProcedureName.{ProcedureName}
use Rattle.sq_module.specs.declared.program.Program.{Program}
use Rattle.sq_module.proofs.Apart.{IsNew, apart_next, kinds_found, new_found, only_opener, opened_by_more, opened_by_next, opens_last, opens_new, others_next}
use Rattle.sq_module.proofs.Computed.{cursors_computed, next_is}
use Rattle.sq_module.proofs.Fitting.{cursor_added, cursor_stands}
use Rattle.sq_module.proofs.Named.{IsNext, named_fault, named_next, only_in}
use Rattle.sq_module.proofs.Opening.{grow_on, numbers_there, openable_next}
use Rattle.sq_module.proofs.Written.{IsCursorNamed, all_at, cursor_found, number_last, numbers_next}

-- ---- a program with the same procedures

module _ (c : Catalog) (old new : Program) (procedures : new.procedures ≡ old.procedures) where
  entries : new.procedures.entries ≡ old.procedures.entries
  entries = ap (λ (ps : IndexMap ProcedureName BoundProcedure _). ps.entries) procedures

  abbrev FitHere : List DeclaredCursor → List (ProcedureName × BoundProcedure) → Type 0
  FitHere cs es = CursorsFit c.bases cs × ProceduresFit c.bases (length cs) es

  abbrev StandHere : List DeclaredCursor → List (ProcedureName × BoundProcedure) → Type 0
  StandHere cs es =
      CursorsAreWellFormed (column_kinds c) cs × ProceduresAreWellFormed (column_kinds c) (kinds_of_cursors cs) es × ProceduresOpen (column_kinds c) cs es

  in_order_same : new.cursors.items ≡ old.cursors.items → IsInOrder c old → IsInOrder c new
  in_order_same same h = record {
    fits = subst (FitHere new.cursors.items) (sym entries) (subst (λ cs. FitHere cs old.procedures.entries) (sym same) h.fits);
    well_formed = subst (StandHere new.cursors.items) (sym entries) (subst (λ cs. StandHere cs old.procedures.entries) (sym same) h.well_formed);
    apart = subst (AreApart []) (sym same) h.apart;
  }

  in_order_more : (d : DeclaredCursor) (kinds : List Kind) → new.cursors.items ≡ old.cursors.items ++ d ∷ [] → FitsCursor c.bases d.cursor → IsCursor (column_kinds c) kinds d.cursor
      → IsNew d.«module» old.cursors.items d.name → IsInOrder c old → IsInOrder c new
  in_order_more d kinds more fits well_formed is_new h =
      let cs = new.cursors.items in
      let fit : FitHere cs old.procedures.entries
      = cursor_added c.bases old.cursors.items cs old.procedures.entries d more h.fits.0 h.fits.1 fits in
      let stand : StandHere cs old.procedures.entries
      = cursor_stands (column_kinds c) kinds old.cursors.items cs old.procedures.entries d more h.well_formed.0 h.well_formed.1 h.well_formed.2 well_formed in
      record {
        fits = subst (FitHere cs) (sym entries) fit;
        well_formed = subst (StandHere cs) (sym entries) stand;
        apart = apart_next old.cursors.items cs d.«module» d.name d more refl refl is_new h.apart;
      }

-- ---- the next procedure of a module

module _ (c : Catalog) (m : AdmittedModule) (others : List DeclaredCursor) (place : ℕ) (p : AdmittedProcedure) (at : IsProcedureAt m place p)
    (old new : Program) (numbers after : List (Name × ℕ)) (procedures : new.procedures ≡ old.procedures)
    (h : HasCursors c m others (take place m.procedures.items) old numbers) where
  abbrev before : List AdmittedProcedure
  before = take place m.procedures.items

  turn : before ++ p ∷ [] ≡ take (place + 1) m.procedures.items
  turn = ap (λ q. before ++ q ∷ []) at.1 ∙ sym (take_more m.procedures.items place p at.0)

  abbrev NamedBefore : ModuleText → Type 0
  NamedBefore t = AreNamed (names_in c t.authorization) t before old.cursors.items numbers

  -- no cursor is added
  pub opened_same : new.cursors.items ≡ old.cursors.items → after ≡ numbers
      → ((t : ModuleText) → IsOfText t m → NamedBefore t → AreNamed (names_in c t.authorization) t (before ++ p ∷ []) old.cursors.items numbers)
      → HasCursors c m others (take (place + 1) m.procedures.items) new after
  opened_same cursors entered named = record {
    in_order = in_order_same c old new procedures cursors h.in_order;
    grows = subst (Grow others) (sym cursors) h.grows;
    there = both (λ cs ns. AreThere (length cs) ns) h.there;
    apart = λ name other of. subst (λ cs. AreOfOthers name cs) (sym cursors) (h.apart name other of);
    opened_by = subst (λ qs. OpenedBy m.name qs new.cursors.items) turn
        (opened_by_more m.name before p new.cursors.items (subst (OpenedBy m.name before) (sym cursors) h.opened_by));
    openable = both (λ cs ns. AreOpenable (column_kinds c) cs ns m.procedures.items) h.openable;
    written = λ t of. both (AreNumbers (known c) t) (h.written t of);
    named = λ t of. subst (λ qs. AreNamed (names_in c t.authorization) t qs new.cursors.items after) turn
        (both (AreNamed (names_in c t.authorization) t (before ++ p ∷ [])) (named t of (h.named t of)));
    computed = λ texts t among of all. subst (AreComputedCursors (names_in c) texts) (sym cursors) (h.computed texts t among of all);
  }
    where
      both : (P : List DeclaredCursor → List (Name × ℕ) → Type 0) → P old.cursors.items numbers → P new.cursors.items after
      both P x = subst (P new.cursors.items) (sym entered) (subst (λ cs. P cs numbers) (sym cursors) x)

  module _ (once : OpensEachOnce m) (name : Name) (cursor : Bor Cursor) (opens : p.procedure.now.statement ≡ tree.Open name)
      (found : lookup (same_name name) m.cursors.entries ≡ Some cursor) (bound : Result BoundCursor Stop)
      (fits : IfOk bound (FitsCursor c.bases)) (well_formed : IfOk bound (IsCursor (column_kinds c) (kinds_of_parameters p.parameters)))
      (written : IfOk bound (IsCursorOf (known c) m.user p.parameters cursor.now))
      (binds : Binds cursor_seen (cursor_bound (names_in c m.user) (declared p.parameters) cursor.now) bound) where
    next : (t : ModuleText) → IsOfText t m → IsNext (names_in c t.authorization) t before p name bound
    next t of =
        next_is (names_in c) t m before p name cursor bound of (only_in t m of once place p at.0 at.1) opens found
        (cursor_found t.items m.cursors.entries name cursor of.cursors found) binds

    named_cursor : (t : ModuleText) → IsOfText t m → IsCursorNamed (known c) t name bound
    named_cursor t of =
        let is_item = cursor_found t.items m.cursors.entries name cursor of.cursors found in
        let procedure : IsProcedureOf t.items p = all_at (IsProcedureOf t.items) m.procedures.items place p at.0 at.1 of.procedures in
        let opened : IsOpenedIn t name p.parameters = record { procedure = p.procedure.now; is_item = procedure.0; opens = opens; declares = procedure.1 } in
        record {
          cursor = cursor.now;
          among = is_item.0;
          named = is_item.1;
          parameters = p.parameters;
          opened = opened;
          bound_is = subst (λ u. IfOk bound (IsCursorOf (known c) u p.parameters cursor.now)) of.user written;
        }

    -- the cursor that it opens is added
    pub opened_next : AddsCursor m name bound old.cursors.items numbers new.cursors.items after
        → HasCursors c m others (take (place + 1) m.procedures.items) new after
    opened_next adds = by adds.part adds.is_part adds.cursors adds.entered
      where
        by : (part : Option BoundCursor) → IsPart bound part → new.cursors.items ≡ with_cursor m name old.cursors.items part
            → after ≡ with_number name (length old.cursors.items) numbers part → HasCursors c m others (take (place + 1) m.procedures.items) new after
        by None fault cursors entered =
            opened_same cursors entered
            (λ t of are. named_fault (names_in c t.authorization) t before p old.cursors.items numbers name bound fault.0 (next t of) fault.1 are)
        by (Some b) is cursors entered =
            let cs = old.cursors.items in
            let all = new.cursors.items in
            let n = length cs in
            let d : DeclaredCursor = declared_as m name b in
            let kinds = kinds_of_parameters p.parameters in
            let fit : FitsCursor c.bases b = subst (λ r. IfOk r (FitsCursor c.bases)) is fits in
            let stands : IsCursor (column_kinds c) kinds b = subst (λ r. IfOk r (IsCursor (column_kinds c) kinds)) is well_formed in
            record {
              in_order = in_order_more c old new procedures d kinds cursors fit stands
                  (new_found m cs p name cursor opens found (opens_new m place p cs at.0 at.1 once h.opened_by)) h.in_order;
              grows = grow_on others cs all h.grows (d ∷ [], cursors);
              there = numbers_there cs all numbers after name n d cursors entered refl h.there;
              apart = λ q other of. others_next q cs all m.name d cursors refl other (h.apart q other of);
              opened_by = subst (λ qs. OpenedBy m.name qs all) turn
                  (opened_by_next m.name (before ++ p ∷ []) cs all name d cursors refl (opens_last before p name (ap opened_by opens)) (opened_by_more m.name before p cs h.opened_by));
              openable = openable_next (column_kinds c) kinds cs all numbers after name n d m.procedures.items cursors entered refl stands
                  (kinds_found m m.procedures.items p name cursor opens found (only_opener m place p at.0 at.1 once)) h.openable;
              written = λ t of. numbers_next (known c) t cs all numbers after name n d cursors entered
                  (number_last (known c) t m cs all name bound b d is refl refl refl refl cursors of (named_cursor t of)) (h.written t of);
              named = λ t of. subst (λ qs. AreNamed (names_in c t.authorization) t qs all after) turn
                  (named_next (names_in c t.authorization) t before p cs all numbers after name n bound b d (next t of) is refl cursors entered refl h.there (h.named t of));
              computed = λ texts t among of computed.
                  cursors_computed (names_in c) texts t m before p cs all name bound b d among of (next t of) is refl refl refl cursors (h.computed texts t among of computed);
            }
