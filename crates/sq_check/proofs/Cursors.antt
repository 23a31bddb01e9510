-- The remarks on cursors.
use Rattle.std.proofs.Common.{◌≡◌, List, [], ◌∷◌, Some, None, Result, Ok, Err, IfOk, Bool, true, false, if◌then◌else◌, refl, sym, subst}
use Rattle.std.specs.Prelude.{OnOk}
use Rattle.std.specs.Borrow.{Bor}
use Rattle.std.specs.Map.{lookup}
use Rattle.indexmap.specs.IndexMap.{insert_entry}
use Rattle.sq_lex.specs.declared.name.Name.{Name}
use Rattle.sq_tree.specs.declared.module.Cursor.{Cursor}
use Rattle.sq_tree.specs.declared.module.ModuleText.{ModuleText}
use Rattle.sq_meaning.specs.Environment.{same_name}
use Rattle.sq_bound.specs.WellFormed.{IsCursor, kinds_of_parameters}
use Rattle.sq_bound.specs.declared.names.ParameterDesc.{ParameterDesc}
use Rattle.sq_bound.specs.declared.query.BoundCursor.{BoundCursor}
use Rattle.sq_bound.specs.declared.query.BoundQuery.{BoundQuery}
use Rattle.sq_bound.specs.declared.query.CursorBody.TheVariants as body
use Rattle.sq_bound.specs.declared.query.SortColumn.{SortColumn}
use Rattle.sq_binding.specs.Cursor.{cursor_bound}
use Rattle.sq_binding.proofs.Placing.SameParameters.{names_equal}
use Rattle.sq_binder.specs.declared.stop.Fault.{Fault as Broken}
use Rattle.sq_binding.specs.Names.{declared}
use Rattle.sq_binding.specs.Written.{IsCursorOf}
use Rattle.sq_catalog.specs.Catalog.{Catalog, column_kinds, known}
use Rattle.sq_catalog.specs.UserTables.{names_in}
use Rattle.sq_module.specs.declared.program.BoundProcedure.{BoundProcedure}
use Rattle.sq_module.specs.declared.program.Program.{Program}
use Rattle.sq_module.proofs.Written.{all_entries}
use Rattle.sq_check.specs.Modules.{AreOpeners}
use Rattle.sq_check.specs.Remark.{AreParametersFor, IsCursorRemark, IsOfBody, IsOpener, IsRemarkWith}
use Rattle.sq_check.specs.Rule.{IsRuleOf}
use Rattle.sq_check.specs.declared.remark.Remark.{Remark}
use Rattle.sq_check.specs.declared.remark.Remark.TheVariants.{Fault, NotUpdatable}
use Rattle.sq_check.specs.declared.rule.Rule.{Rule}

pub with_fault : (catalog : Catalog) (user : Name) (parameters : List ParameterDesc) (c : Cursor) (fault : Broken)
    → cursor_bound (names_in catalog user) (declared parameters) c ≡ Err fault.rule → IsRemarkWith catalog user parameters c (Fault fault)
with_fault catalog user parameters c fault found = (Err fault, (refl, found))

pub with_body : {E : Type 0} (catalog : Catalog) (user : Name) (parameters : List ParameterDesc) (c : Cursor) (bound : BoundCursor) (answer : Result Remark E)
    → IsCursorOf (known catalog) user parameters c bound → IsCursor (column_kinds catalog) (kinds_of_parameters parameters) bound → IfOk answer (IsOfBody c bound.body)
    → IfOk answer (IsRemarkWith catalog user parameters c)
with_body catalog user parameters c bound (Ok remark) written stands is = (Ok bound, (written, stands, is))
with_body catalog user parameters c bound (Err e) written stands is = tt

pub of_rows : (c : Cursor) (query : BoundQuery) (order : List SortColumn) (rule : Rule) → IsRuleOf c rule → IsOfBody c (body.Rows query order) (NotUpdatable rule)
of_rows c query order rule is = (rule, is, refl)

pub where_opened : (catalog : Catalog) (p : Program) (m : ModuleText) (c : Cursor) (parameters : List ParameterDesc) (remark : Remark) → AreParametersFor p m c.name parameters
    → IsRemarkWith catalog m.authorization parameters c remark → IsCursorRemark catalog p m c remark
where_opened catalog p m c parameters remark opened is = record { parameters = parameters; opened = opened; is = is }

-- the procedure under a cursor's name opens it
pub opener_found : (p : Program) (m : ModuleText) (openers : List (Name × Bor BoundProcedure)) (cursor : Name) (found : Bor BoundProcedure) → AreOpeners p m openers
    → lookup (same_name cursor) openers ≡ Some found → IsOpener p m cursor found.now
opener_found p m [] cursor found are is = cc
opener_found p m (e ∷ openers) cursor found are is = by (same_name cursor e.0) refl is (opener_found p m openers cursor found are.1)
  where
    by : (b : Bool) → same_name cursor e.0 ≡ b → (if b then Some e.1 else lookup (same_name cursor) openers) ≡ Some found
        → (lookup (same_name cursor) openers ≡ Some found → IsOpener p m cursor found.now) → IsOpener p m cursor found.now
    by true same is rest =
        let value : e.1 ≡ found = cc in
        subst (λ (b : Bor BoundProcedure). IsOpener p m cursor b.now) value (subst (λ n. IsOpener p m n e.1.now) (sym (names_equal cursor e.0 same)) are.0)
    by false same is rest = rest is

pub no_parameters : (p : Program) (m : ModuleText) (cursor : Name) (parameters : List ParameterDesc) → parameters ≡ [] → AreParametersFor p m cursor parameters
no_parameters p m cursor parameters none = record { opener = None; opens = tt; are = none }

pub its_parameters : (p : Program) (m : ModuleText) (cursor : Name) (parameters : List ParameterDesc) (bound : BoundProcedure) → IsOpener p m cursor bound → parameters ≡ bound.parameters
    → AreParametersFor p m cursor parameters
its_parameters p m cursor parameters bound opens are = record { opener = Some bound; opens = opens; are = are }

-- a procedure that opens a cursor is entered under its name
pub opener_added : (p : Program) (m : ModuleText) (openers new : List (Name × Bor BoundProcedure)) (cursor : Name) (bound : Bor BoundProcedure) → new ≡ insert_entry same_name openers cursor bound
    → IsOpener p m cursor bound.now → AreOpeners p m openers → AreOpeners p m new
opener_added p m openers new cursor bound entered opens are =
    subst (AreOpeners p m) (sym entered)
    (all_entries same_name (λ e. IsOpener p m e.0 e.1.now) openers cursor bound (λ q same. subst (λ n. IsOpener p m n bound.now) (names_equal cursor q same) opens) opens are)

pub on_ok_weaker : {A E : Type 0} (r : Result A E) (P Q : Type 0) → (P → Q) → OnOk r P → OnOk r Q
on_ok_weaker (Ok x) P Q f h = f h
on_ok_weaker (Err e) P Q f h = h
