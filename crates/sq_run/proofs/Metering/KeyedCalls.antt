-- A call whose statement, as its module's text has it, is a searched UPDATE or DELETE by a key, in a
-- session of accepted texts (own rule; ISO/IEC 9075:1992, 13.7 and 13.10): it reads one row at most to
-- choose the row that it changes.
use Rattle.std.proofs.Common.{◌≡◌, ℕ, ◌≤◌, true, List, length, subst}
use Rattle.sq_tree.specs.declared.«module».ModuleText.{ModuleText}
use Rattle.sq_tree.specs.declared.«module».Procedure.{Procedure}
use Rattle.sq_tree.specs.declared.schema.SchemaText.{SchemaText}
use Rattle.sq_value.specs.declared.value.Value.{Value}
use Rattle.sq_meaning.specs.Keyed.{is_keyed_statement}
use Rattle.sq_meaning.specs.SchemaRefusal.{elements_of}
use Rattle.sq_meaning.specs.Machine as by_name
use Rattle.sq_bound.specs.Fits.{FitsStatement, FitsTarget}
use Rattle.sq_bound.specs.Known.{KnownTables}
use Rattle.sq_bound.specs.WellFormed.{IsChangeTarget, IsStatement, kinds_of_parameters}
use Rattle.sq_bound.specs.declared.statement.BoundStatement.{BoundStatement}
use Rattle.sq_bound.specs.declared.statement.BoundStatement.TheVariants as statement
use Rattle.sq_bound.specs.declared.statement.ChangeTarget.{ChangeTarget}
use Rattle.sq_bound.specs.declared.statement.ChangeTarget.TheVariants as change
use Rattle.sq_module.specs.Program.{kinds_of_cursors}
use Rattle.sq_module.specs.Written.{IsNumberOf}
use Rattle.sq_module.specs.declared.program.DeclaredCursor.{DeclaredCursor}
use Rattle.sq_module.specs.declared.program.Program.{Program}
use Rattle.sq_expression.specs.Frame.{inputs_of}
use Rattle.sq_session.specs.Metered.{CallReads}
use Rattle.sq_session.specs.Parameter.{started_values}
use Rattle.sq_session.specs.Schemas.{Schemas, columns_of}
use Rattle.sq_session.specs.Session.{Session}
use Rattle.sq_session.specs.State.{State}
use Rattle.sq_session.specs.declared.reply.Reply.{Reply}
use Rattle.sq_run.proofs.Places.Parameters.{SameInputs}
use Rattle.sq_run.proofs.Metering.KeyedReads as of_statement
use Rattle.sq_run.proofs.Steps.Exact.{IsBoundExactly, IsOpenedFrom}
use Rattle.sq_run.proofs.Texts.Reports.{IsSession}
use Rattle.sq_run.proofs.Steps.PerformedStatements.{given_values}
use Rattle.sq_run.proofs.Metering.ReadCalls.{IsBoundCall, IsCall, bound_call, called_same, called_with}

module _ (texts : List SchemaText) (modules : List ModuleText) (row_numbers : ℕ) (known : KnownTables) (schemas : Schemas) (program : Program)
    (o : IsOpenedFrom texts modules known schemas program) (exact : IsBoundExactly texts modules program) where
  abbrev declared : List DeclaredCursor
  declared = program.cursors.items

  module _ (s : Session) (x : by_name.State) (stands : IsSession texts modules row_numbers known schemas program o exact s x)
      (m : ModuleText) (p : Procedure) (values : List Value) (reply : Reply) (after : State)
      (call : IsCall texts modules s m p values reply after) where
    b : IsBoundCall texts modules known schemas program o exact s m p values call.number
    b = bound_call texts modules known schemas program o exact s stands.procedures m p values reply after call

    abbrev handed : List Value
    handed = started_values b.parameters values

    same : SameInputs b.parameters (called_with p values) (inputs_of handed)
    same = called_same p b.parameters b.declares values b.many m.authorization

    abbrev IsBoundChange : ChangeTarget → Type 0
    IsBoundChange t =
        of_statement.IsBoundChange texts known schemas o.declares exact.accepted declared m.authorization b.parameters values (called_with p values) same
        (kinds_of_parameters b.parameters) (given_values b.parameters values b.many) (IsNumberOf known m declared) t

    abbrev IsBoundSo : BoundStatement → Type 0
    IsBoundSo st =
        of_statement.IsBoundSo texts known schemas o.declares exact.accepted declared m.authorization b.parameters values (called_with p values) same
        (kinds_of_parameters b.parameters) (given_values b.parameters values b.many) (IsNumberOf known m declared) st

    target_so : (t : ChangeTarget) → FitsTarget schemas.bases (length declared) t
        → IsChangeTarget (columns_of schemas) (kinds_of_parameters b.parameters) t → IsBoundChange t
    target_so (change.Searched t) fits well = record { is_base = fits.0; well = well }
    target_so (change.Positioned t) fits well = tt

    bound_so : (st : BoundStatement) → FitsStatement schemas.bases (length declared) (length b.parameters) st
        → IsStatement (columns_of schemas) (kinds_of_cursors declared) (kinds_of_parameters b.parameters) st → IsBoundSo st
    bound_so (statement.Update y) fits well = target_so y.target fits.0 well.0
    bound_so (statement.Delete t) fits well = target_so t fits well
    bound_so (statement.Open n) fits well = tt
    bound_so (statement.Fetch f) fits well = tt
    bound_so (statement.Close n) fits well = tt
    bound_so (statement.Select y) fits well = tt
    bound_so (statement.Insert y) fits well = tt
    bound_so statement.Commit fits well = tt
    bound_so statement.Rollback fits well = tt

    -- A keyed UPDATE or DELETE reads one row at most.
    pub keyed_call_reads_one : is_keyed_statement (elements_of texts) m.authorization (called_with p values) p.statement ≡ true → reply.reads ≤ 1
    keyed_call_reads_one keyed =
        of_statement.keyed_call_reads_one texts known schemas o.declares exact.accepted declared m.authorization b.parameters values (called_with p values) same
        (kinds_of_parameters b.parameters) (given_values b.parameters values b.many) (IsNumberOf known m declared) s.state reply.reads
        p.statement b.statement b.is (bound_so b.statement b.fits b.stands) keyed
        (subst (λ k. CallReads k values s.state reply.reads) b.kind call.reads)
