-- What is bound, one after the other, is what the definitions compute (ISO/IEC 9075:1992, 12.1, 12.3 and 13.1).
use Rattle.std.proofs.Common.{◌≡◌, ◌∙◌, ℕ, true, false, List, [], ◌∷◌, ◌++◌, Option, Some, Result, Ok, Err, sym, ap, subst}
use Rattle.std.specs.List.{IsAmong, list_any}
use Rattle.std.specs.Map.{lookup}
use Rattle.std.specs.Option.{option_map}
use Rattle.std.specs.Borrow.{Bor}
use Rattle.std.specs.Prelude.{IfSome}
use Rattle.std.proofs.lemmas.Bool.{and_parts}
use Rattle.indexmap.specs.IndexMap.{insert_entry}
use Rattle.sq_lex.specs.declared.name.Name.{Name}
use Rattle.sq_tree.specs.declared.module.Cursor.{Cursor}
use Rattle.sq_tree.specs.declared.module.ModuleItem.TheVariants as item
use Rattle.sq_tree.specs.declared.module.ModuleText.{ModuleText}
use Rattle.sq_tree.specs.declared.module.Procedure.{Procedure}
use Rattle.sq_tree.specs.declared.statement.Statement.TheVariants as tree
use Rattle.sq_meaning.specs.Environment.{same_name}
use Rattle.sq_meaning.specs.Module.{cursor_named, declared_parameters}
use Rattle.sq_meaning.specs.WellFormedStatement.{opener_parameters}
use Rattle.sq_bound.specs.declared.query.BoundCursor.{BoundCursor}
use Rattle.sq_bound.specs.declared.statement.BoundStatement.{BoundStatement}
use Rattle.sq_binding.specs.Change.{NamedCursors}
use Rattle.sq_binding.specs.Changeable.{UserNames}
use Rattle.sq_binding.specs.Cursor.{cursor_bound}
use Rattle.sq_binding.specs.Outcome.{Outcome}
use Rattle.sq_binding.specs.Procedure.{module_cursors, procedure_bound}
use Rattle.sq_binding.specs.Statement.{NumberedStatement, statement_bound}
use Rattle.sq_binding.proofs.Placing.SameParameters.{names_equal}
use Rattle.sq_binder.specs.Binds.{Binds}
use Rattle.sq_binder.specs.declared.stop.Fault.{Fault}
use Rattle.sq_binder.specs.declared.stop.Stop.{Stop}
use Rattle.sq_binding.specs.Names.{declared}
use Rattle.sq_binding.specs.SeenQuery.{cursor_seen, statement_seen}
use Rattle.sq_module.specs.Admitted.{opened_of}
use Rattle.sq_module.specs.Computed.{AreComputedCursors, AreComputedProcedures, IsComputed, IsComputedCursor, IsComputedProcedure, as_bound}
use Rattle.sq_module.specs.Program.{same_procedure}
use Rattle.sq_module.specs.Refusal.{is_some_name, opened_by}
use Rattle.sq_module.specs.Written.{IsOfText, IsProcedureOf}
use Rattle.sq_module.specs.Admitted.{openings}
use Rattle.sq_module.specs.declared.admission.AdmittedModule.{AdmittedModule}
use Rattle.sq_module.specs.declared.admission.AdmittedProcedure.{AdmittedProcedure}
use Rattle.sq_module.specs.declared.program.BoundProcedure.{BoundProcedure}
use Rattle.sq_module.specs.declared.program.DeclaredCursor.{DeclaredCursor}
use Rattle.sq_module.specs.declared.program.ProcedureName.{ProcedureName}
use Rattle.sq_module.proofs.Fitting.{all_last}
use Rattle.sq_module.proofs.Named.{IsNext, IsOnlyIn, bound_declared, named_in_text}
use Rattle.sq_module.proofs.Written.{all_entries}

-- ---- statements

-- what is kept of a bound statement
pub kept_computed : (outcome : Outcome NumberedStatement) (bound : Result BoundStatement Stop) (kept : Result BoundStatement Fault) → bound ≡ as_bound kept → Binds statement_seen outcome bound
    → IsComputed outcome kept
kept_computed outcome bound (Ok s) is h = subst (Binds statement_seen outcome) is h
kept_computed outcome bound (Err f) is h = subst (Binds statement_seen outcome) is h

-- the statement of a procedure of the module
pub procedure_computed : (names : Name → UserNames) (m : ModuleText) (a : AdmittedModule) (p : AdmittedProcedure) (cursors : NamedCursors) (number : Name → ℕ) (kept : Result BoundStatement Fault) → IsOfText m a
    → IsProcedureOf m.items p → cursors ≡ module_cursors (names m.authorization) number m
    → IsComputed (statement_bound (names a.user) (declared p.parameters) cursors p.procedure.now.statement) kept
    → IsComputed (procedure_bound (names m.authorization) number m p.procedure.now) kept
procedure_computed names m a p cursors number kept of procedure are h =
    let params : declared p.parameters ≡ declared_parameters p.procedure.now = bound_declared p.procedure.now p.parameters procedure.1 in
    subst (λ o. IsComputed o kept) (λ i. statement_bound (names (of.user i)) (params i) (are i) p.procedure.now.statement) h

-- a procedure more, or another of that name
pub procedures_computed : (names : Name → UserNames) (texts : List ModuleText) (m : ModuleText) (procedures more : List (ProcedureName × BoundProcedure)) (name : ProcedureName) (p : Procedure) (number : Name → ℕ) (b : BoundProcedure)
    → more ≡ insert_entry same_procedure procedures name b → IsAmong texts m → name.«module» ≡ m.name → IsAmong m.items (item.Procedure p) → name.name ≡ p.name
    → IsComputed (procedure_bound (names m.authorization) number m p) b.statement → AreComputedProcedures names texts procedures → AreComputedProcedures names texts more
procedures_computed names texts m procedures more name p number b is among named is_item is_named computed all =
    subst (AreComputedProcedures names texts) (sym is) (all_entries same_procedure (IsComputedProcedure names texts) procedures name b same one all)
  where
    one : IsComputedProcedure names texts (name, b)
    one = record { text = m; among = among; named = named; procedure = p; is_item = is_item; is_named = is_named; number = number; computed = computed }

    same : (q : ProcedureName) → same_procedure name q ≡ true → IsComputedProcedure names texts (q, b)
    same q h =
        let both = and_parts (same_name name.«module» q.«module») (same_name name.name q.name) h in record {
          text = m;
          among = among;
          named = sym (names_equal name.«module» q.«module» both.0) ∙ named;
          procedure = p;
          is_item = is_item;
          is_named = sym (names_equal name.name q.name both.1) ∙ is_named;
          number = number;
          computed = computed;
        }

-- ---- cursors

-- the cursor that a procedure opens is the next
pub next_is : (names : Name → UserNames) (m : ModuleText) (a : AdmittedModule) (before : List AdmittedProcedure) (p : AdmittedProcedure) (name : Name) (c : Bor Cursor) (bound : Result BoundCursor Stop) → IsOfText m a
    → IsOnlyIn m before p → p.procedure.now.statement ≡ tree.Open name → lookup (same_name name) a.cursors.entries ≡ Some c → IsAmong m.items (item.Cursor c.now) × (c.now.name ≡ name)
    → Binds cursor_seen (cursor_bound (names a.user) (declared p.parameters) c.now) bound → IsNext (names m.authorization) m before p name bound
next_is names m a before p name c bound of only opens found is_item binds =
    let named : cursor_named m name ≡ Some c.now = sym (named_in_text m a of name) ∙ ap (option_map (λ (c : Bor Cursor). c.now)) found in
    let opened : opened_of p ≡ Some name = ap opened_by opens in
    let facts : IfSome (cursor_named m name) (λ k. (list_any (is_some_name name) (openings before) ≡ false) × (opener_parameters m k.name ≡ declared p.parameters))
    = subst (λ (o : Option Name). IfSome o (λ n. IfSome (cursor_named m n) (λ k. (list_any (is_some_name n) (openings before) ≡ false) × (opener_parameters m k.name ≡ declared p.parameters)))) opened only in
    let its : (list_any (is_some_name name) (openings before) ≡ false) × (opener_parameters m c.now.name ≡ declared p.parameters)
    = subst (λ (o : Option Cursor). IfSome o (λ k. (list_any (is_some_name name) (openings before) ≡ false) × (opener_parameters m k.name ≡ declared p.parameters))) named facts in
    record {
      opens = opened;
      new = its.0;
      cursor = c.now;
      is_cursor = named;
      is_item = is_item.0;
      is_named = is_item.1;
      binds = subst (λ o. Binds cursor_seen o bound) (λ i. cursor_bound (names (of.user i)) (sym its.1 i) c.now) binds;
    }

-- the last cursor
pub cursors_computed : (names : Name → UserNames) (texts : List ModuleText) (m : ModuleText) (a : AdmittedModule) (before : List AdmittedProcedure) (p : AdmittedProcedure) (cursors new : List DeclaredCursor) (name : Name)
    (bound : Result BoundCursor Stop) (b : BoundCursor) (d : DeclaredCursor) → IsAmong texts m → IsOfText m a → IsNext (names m.authorization) m before p name bound → bound ≡ Ok b → d.«module» ≡ a.name → d.name ≡ name
    → d.cursor ≡ b → new ≡ cursors ++ d ∷ [] → AreComputedCursors names texts cursors → AreComputedCursors names texts new
cursors_computed names texts m a before p cursors new name bound b d among of h is of_module of_name of_cursor added all =
    let outcome : cursor_bound (names m.authorization) (opener_parameters m h.cursor.name) h.cursor ≡ Ok (cursor_seen b)
    = subst (λ (r : Result BoundCursor Stop). Binds cursor_seen (cursor_bound (names m.authorization) (opener_parameters m h.cursor.name) h.cursor) r) is h.binds in
    let one : IsComputedCursor names texts d = record {
      text = m;
      among = among;
      named = of_module ∙ of.name;
      cursor = h.cursor;
      is_item = h.is_item;
      is_named = of_name ∙ sym h.is_named;
      computed = outcome ∙ ap (λ (c : BoundCursor). Ok (cursor_seen c)) (sym of_cursor);
    } in
    subst (AreComputedCursors names texts) (sym added) (all_last (IsComputedCursor names texts) cursors d all one)
