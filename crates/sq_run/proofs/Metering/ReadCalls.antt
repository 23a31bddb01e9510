-- A call that is made of a session of accepted texts, of a procedure in whose statement the rules find no
-- fault: its statement is bound as it is written, and is well formed over the tables and cursors that are
-- there (ISO/IEC 9075:1992, 12.1 to 12.3).
use Rattle.std.proofs.Common.{◌≡◌, ℕ, true, false, List, length, map, Some, Result, Ok, Err, refl, sym, ap, subst, ◌∙◌}
use Rattle.std.specs.Cmp.Lexicographic.{same_text}
use Rattle.std.specs.List.{IsAmong}
use Rattle.std.specs.Option.{option_and_then, option_map_or}
use Rattle.std.specs.Prelude.{IfOk, is_ok, slice_get}
use Rattle.std.specs.Result.{result_map_both, result_ok}
use Rattle.std.proofs.lemmas.Bool.{and_parts}
use Rattle.sq_lex.specs.declared.name.Name.{Name}
use Rattle.sq_tree.specs.declared.«module».ModuleItem.TheVariants as item
use Rattle.sq_tree.specs.declared.«module».ModuleText.{ModuleText}
use Rattle.sq_tree.specs.declared.«module».Procedure.{Procedure}
use Rattle.sq_tree.specs.declared.schema.SchemaText.{SchemaText}
use Rattle.sq_value.specs.declared.value.Value.{Value}
use Rattle.sq_meaning.specs.Environment.{Input}
use Rattle.sq_meaning.specs.Module.{declarations_of, declared_parameters, module_named, procedure_named}
use Rattle.sq_meaning.specs.SchemaRefusal.{elements_of}
use Rattle.sq_meaning.specs.Script.{fit}
use Rattle.sq_meaning.specs.WellFormedStatement.{is_well_formed_procedure}
use Rattle.sq_meaning.specs.Parameter.{inputs_of as inputs_in, started_parameters}
use Rattle.sq_bound.specs.Fits.{FitsStatement}
use Rattle.sq_bound.specs.Known.{KnownTables}
use Rattle.sq_bound.specs.WellFormed.{IsStatement, kinds_of_parameters}
use Rattle.sq_binder.specs.declared.stop.Fault.{Fault}
use Rattle.sq_bound.specs.declared.names.ParameterDesc.{ParameterDesc}
use Rattle.sq_bound.specs.declared.statement.BoundStatement.{BoundStatement}
use Rattle.sq_module.specs.Program.{FitsProcedure, OpensWellFormed, ProcedureIsWellFormed, ProcedureOpens, kinds_of_cursors}
use Rattle.sq_module.specs.Written.{Declare, IsFromTexts, IsStatementIn}
use Rattle.sq_module.specs.declared.program.BoundProcedure.{BoundProcedure}
use Rattle.sq_module.specs.declared.program.DeclaredCursor.{DeclaredCursor}
use Rattle.sq_module.specs.declared.program.ProcedureName.{ProcedureName}
use Rattle.sq_module.specs.declared.program.Program.{Program}
use Rattle.sq_module.proofs.Named.{bound_declared}
use Rattle.sq_expression.specs.Frame.{inputs_of}
use Rattle.sq_session.specs.Kind as session
use Rattle.sq_session.specs.Kind.{fits_at, kind_at, kind_of}
use Rattle.sq_session.specs.Metered.{CallReads}
use Rattle.sq_session.specs.Parameter.{started_values}
use Rattle.sq_session.specs.Schemas.{Schemas, columns_of}
use Rattle.sq_session.specs.Session.{Session, is_procedure, procedure_of, procedures_of}
use Rattle.sq_session.specs.State.{State}
use Rattle.sq_session.specs.Step.{MayCall}
use Rattle.sq_session.specs.declared.reply.Done.{Done}
use Rattle.sq_session.specs.declared.reply.Reply.{Reply}
use Rattle.sq_run.proofs.Places.Bound.{outside_seen}
use Rattle.sq_run.proofs.Places.Parameters.{AreNamed, SameInputs}
use Rattle.sq_run.proofs.Steps.Calls.{call_named}
use Rattle.sq_run.proofs.Steps.Agrees.{unmapped_at}
use Rattle.sq_run.proofs.Steps.Exact.{IsBoundExactly, IsOpenedFrom, IsProcedureExactly}
use Rattle.sq_run.proofs.Steps.Found.{each_of_all, module_found, procedure_found}
use Rattle.sq_run.proofs.Steps.Started.{as_many, started_same}
use Rattle.sq_run.proofs.Steps.PerformedStatements.{some_same}

-- how it ends
abbrev pub done : Reply → Done
done r = record { status = r.status; outputs = r.outputs }

-- The procedure of this name in a module of the texts is called with values that it takes, the rules find
-- no fault in it, and what the session answers, the state behind it and the rows that it reads are what the
-- contract of a call says.
pub record IsCall (texts : List SchemaText) (modules : List ModuleText) (s : Session) (m : ModuleText) (p : Procedure) (values : List Value)
    (reply : Reply) (after : State) : Type 0 where
  pub «module» : Name
  pub name : Name
  pub text : module_named modules «module» ≡ Some m
  pub procedure : procedure_named m name ≡ Some p
  pub sound : is_well_formed_procedure (elements_of texts) m p ≡ true
  pub number : ℕ
  pub called : session.Procedure
  pub numbered : slice_get s.procedures number ≡ Some called
  pub named : is_procedure «module» name called ≡ true
  pub fits : fits_at s.procedures number values ≡ true
  pub may : MayCall s.schemas (kind_at s.procedures number) values s.state (done reply) after
  pub reads : CallReads (kind_at s.procedures number) values s.state reply.reads

-- ---- the inputs of its statement

abbrev pub called_with : Procedure → List Value → List Input
called_with p values = inputs_in (started_parameters (declared_parameters p) values)

-- the inputs of a call have the names and the values of the procedure's parameters
module _ (p : Procedure) (ps : List ParameterDesc) (declares : Declare (declarations_of p.declarations) ps) (values : List Value) where
  pub called_values : started_values ps values ≡ map (λ i. i.value) (called_with p values)
  called_values =
      started_same ps values ∙ ap (λ l. map (λ i. i.value) (inputs_in (started_parameters l values))) (bound_declared p ps declares)

  pub called_same : length values ≡ length ps → (user : Name) → SameInputs ps (called_with p values) (inputs_of (started_values ps values))
  called_same many user =
      (outside_seen ps (called_with p values) (started_values ps values) user
      (subst (λ l. AreNamed ps (inputs_in (started_parameters l values))) (bound_declared p ps declares) (call_named ps values many))
      (sym called_values)).inputs_are

-- ---- its statement

ok_is : (r : Result BoundStatement Fault) → is_ok r ≡ true → (b : BoundStatement) × (r ≡ Ok b)
ok_is (Ok b) e = (b, refl)
ok_is (Err fault) e = cc

module _ (texts : List SchemaText) (modules : List ModuleText) (known : KnownTables) (schemas : Schemas) (program : Program)
    (o : IsOpenedFrom texts modules known schemas program) (exact : IsBoundExactly texts modules program) where
  abbrev declared : List DeclaredCursor
  declared = program.cursors.items

  -- the statement of the procedure with this number is bound from that of this one of the module
  pub record IsBoundCall (s : Session) (m : ModuleText) (p : Procedure) (values : List Value) (number : ℕ) : Type 0 where
    pub among : IsAmong modules m
    pub is_item : IsAmong m.items (item.Procedure p)
    pub parameters : List ParameterDesc
    pub declares : Declare (declarations_of p.declarations) parameters
    pub many : length values ≡ length parameters
    pub statement : BoundStatement
    pub is : IsStatementIn known m declared parameters p.statement statement
    pub kind : kind_at s.procedures number ≡ Some (kind_of declared m.authorization parameters statement)
    pub fits : FitsStatement schemas.bases (length declared) (length parameters) statement
    pub stands : IsStatement (columns_of schemas) (kinds_of_cursors declared) (kinds_of_parameters parameters) statement
    pub opens : OpensWellFormed (columns_of schemas) declared (kinds_of_parameters parameters) statement

  -- the statement of each procedure fits tables, cursors and parameters, and is well formed
  record IsSound (e : ProcedureName × BoundProcedure) : Type 0 where
    pub fits : FitsProcedure schemas.bases (length declared) e.1
    pub stands : ProcedureIsWellFormed (columns_of schemas) (kinds_of_cursors declared) e.1
    pub opens : ProcedureOpens (columns_of schemas) declared e.1

  is_sound : (i : ℕ) (e : ProcedureName × BoundProcedure) → slice_get program.procedures.entries i ≡ Some e → IsSound e
  is_sound i e at = record {
    fits = each_of_all (λ g. FitsProcedure schemas.bases (length declared) g.1) program.procedures.entries o.fits.1 i e at;
    stands = each_of_all (λ g. ProcedureIsWellFormed (columns_of schemas) (kinds_of_cursors declared) g.1) program.procedures.entries (o.well_formed).1 i e at;
    opens = each_of_all (λ g. ProcedureOpens (columns_of schemas) declared g.1) program.procedures.entries (o.well_formed).2 i e at;
  }

  of_entry : (s : Session) (e : ProcedureName × BoundProcedure) (number : ℕ) → slice_get s.procedures number ≡ Some (procedure_of declared e)
      → (f : IsFromTexts known modules declared e) (values : List Value) → fits_at s.procedures number values ≡ true
      → is_ok e.1.statement ≡ true → IsSound e → IsBoundCall s f.text f.procedure values number
  of_entry s e number here f values fits ok sound =
      let b = ok_is e.1.statement ok in
      record {
        among = f.among;
        is_item = f.is_item;
        parameters = e.1.parameters;
        declares = f.bound.parameters;
        many = as_many e.1.parameters values (subst (λ z. option_map_or (λ (q : session.Procedure). fit q.parameters values) z false ≡ true) here fits);
        statement = b.0;
        is = subst (λ r. IfOk r (IsStatementIn known f.text declared e.1.parameters f.procedure.statement)) b.1 f.bound.statement;
        kind =
            ap (λ z. option_and_then (λ (q : session.Procedure). result_ok q.statement) z) here
            ∙ (λ i. result_ok (result_map_both (kind_of declared (f.bound.user i) e.1.parameters) (λ z. z) (b.1 i)));
        fits = subst (λ r. IfOk r (λ st. FitsStatement schemas.bases (length declared) (length e.1.parameters) st)) b.1 sound.fits;
        stands = subst (λ r. IfOk r (IsStatement (columns_of schemas) (kinds_of_cursors declared) (kinds_of_parameters e.1.parameters))) b.1 sound.stands;
        opens = subst (λ r. IfOk r (OpensWellFormed (columns_of schemas) declared (kinds_of_parameters e.1.parameters))) b.1 sound.opens;
      }

  -- a procedure of the program is bound from the one of its name
  module _ (e : ProcedureName × BoundProcedure) (m : ModuleText) (p : Procedure) (text : module_named modules e.0.«module» ≡ Some m)
      (procedure : procedure_named m e.0.name ≡ Some p) where
    accepted_too : IsProcedureExactly texts modules e → is_well_formed_procedure (elements_of texts) m p ≡ true → is_ok e.1.statement ≡ true
    accepted_too h sound =
        let is_text : h.text ≡ m = some_same h.text m (sym h.is_text ∙ text) in
        let is_procedure : h.procedure ≡ p
        = some_same h.procedure p (sym h.is_procedure ∙ (λ i. procedure_named (is_text i) e.0.name) ∙ procedure) in
        h.accepted ∙ (λ i. is_well_formed_procedure (elements_of texts) (is_text i) (is_procedure i)) ∙ sound

    of_text : (s : Session) (number : ℕ) → slice_get s.procedures number ≡ Some (procedure_of declared e) → (f : IsFromTexts known modules declared e)
        → (values : List Value) → fits_at s.procedures number values ≡ true → is_ok e.1.statement ≡ true → IsSound e → IsBoundCall s m p values number
    of_text s number here f values fits ok sound =
        let is_text : f.text ≡ m
        = some_same f.text m (sym (module_found modules o.admitted f.text f.among) ∙ ap (module_named modules) (sym f.named) ∙ text) in
        let found : procedure_named f.text f.procedure.name ≡ Some f.procedure = procedure_found modules o.admitted f.text f.among f.procedure f.is_item in
        let is_procedure : f.procedure ≡ p
        = some_same f.procedure p (sym found ∙ (λ i. procedure_named (is_text i) (sym f.is_named i)) ∙ procedure) in
        subst (λ q. IsBoundCall s m q values number) is_procedure
        (subst (λ t. IsBoundCall s t f.procedure values number) is_text (of_entry s e number here f values fits ok sound))

  -- The statement of a call is bound as it is written.
  pub bound_call : (s : Session) → s.procedures ≡ procedures_of declared program.procedures.entries → (m : ModuleText) (p : Procedure)
      → (values : List Value) (reply : Reply) (after : State) → (c : IsCall texts modules s m p values reply after) → IsBoundCall s m p values c.number
  bound_call s are m p values reply after c =
      let found = unmapped_at (procedure_of declared) program.procedures.entries c.number c.called (ap (λ ps. slice_get ps c.number) (sym are) ∙ c.numbered) in
      let e : ProcedureName × BoundProcedure = found.0 in
      let here : slice_get s.procedures c.number ≡ Some (procedure_of declared e) = c.numbered ∙ ap (λ q. Some q) (sym found.2) in
      let names = and_parts _ _ (subst (λ q. is_procedure c.«module» c.name q ≡ true) (sym found.2) c.named) in
      let text : module_named modules e.0.«module» ≡ Some m
      = subst (λ n. module_named modules n ≡ Some m) (same_text c.«module» e.0.«module» (sym names.0)) c.text in
      let procedure : procedure_named m e.0.name ≡ Some p = subst (λ n. procedure_named m n ≡ Some p) (same_text c.name e.0.name (sym names.1)) c.procedure in
      let f : IsFromTexts known modules declared e = each_of_all (IsFromTexts known modules declared) program.procedures.entries o.is_of.procedures c.number e found.1 in
      of_text e m p text procedure s c.number here f values c.fits (accepted_too e m p text procedure (exact.procedures c.number e found.1) c.sound)
      (is_sound c.number e found.1)
