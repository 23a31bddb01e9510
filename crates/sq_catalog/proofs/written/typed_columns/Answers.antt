-- Left open: the clause exact, and that the loop keeps its invariant; answered by Listed and Turns.
use Rattle.std.proofs.Common.{◌≡◌, ◌+◌, ◌∷◌, ◌++◌, [], List, if◌then◌else◌, ap, length, length-append, map, sym, ◌∙◌}
use Rattle.std.specs.Borrow.{Bor}
use Rattle.sq_tree.specs.declared.schema.ColumnDefinition.{ColumnDefinition}
use Rattle.sq_binding.specs.Column.{typed_column}
use Rattle.sq_binding.specs.ElementOutcome.{each}
use Rattle.sq_catalog.specs.Table.{typed_seen}
use Rattle.sq_catalog.specs.Written.{definitions_lent}
use Rattle.sq_catalog.specs.declared.typed.TypedColumn.{TypedColumn}
use Rattle.sq_catalog.proofs.OneByOne.Listed.{copied_next}
use Rattle.sq_catalog.proofs.OneByOne.Turns.{handed_on, made_stops, no_memory, seen_next}
use Rattle.sq_catalog.proofs.written.typed_columns.Goals as goal

pub returns-in_err-column-clause-exact : goal.returns-in_err-column-clause-exact
returns-in_err-column-clause-exact c =
    let fault = c.in_err-column.field-0.0 in
    handed_on (λ typed. map typed_seen typed.items) (each typed_column (definitions_lent c.args.definitions.now)) c.from_residual.result fault c.from_residual.ensures.1
    (made_stops typed_column (λ (w : Bor ColumnDefinition). w.now) c.args.definitions.now c.loop-definition.definition-index c.definition-item.result (map typed_seen c.loop-definition.typed.items) fault
    c.loop-definition-test.true c.definition-item.is c.loop-definition.invariant.exact c.in_err-column.ensures.exact)

pub returns-in_err-require_room-clause-exact : goal.returns-in_err-require_room-clause-exact
returns-in_err-require_room-clause-exact c =
    handed_on (λ typed. map typed_seen typed.items) (each typed_column (definitions_lent c.args.definitions.now)) c.from_residual-in_err-require_room.result c.in_err-require_room.field-0.0 c.from_residual-in_err-require_room.ensures.1
    (no_memory (each typed_column (definitions_lent c.args.definitions.now)) c.in_err-require_room.field-0.0 c.in_err-require_room.ensures.memory)

pub loop-definition-preserved : goal.loop-definition-preserved
loop-definition-preserved c =
    let before : List TypedColumn = c.loop-definition.typed.items in
    let column = c.in_ok-column.column in
    let here = c.definition-item.result in
    let i = c.loop-definition.definition-index in
    let added : c.push.new.self.items ≡ before ++ column ∷ [] =
    c.push.ensures.items ∙ ap (λ b. if b then before ++ column ∷ [] else before) (sym c.is_ok.ensures.value ∙ c.in_ok-require_room.ensures.room) in
    record {
      count = ap length added ∙ length-append before (column ∷ []) ∙ ap (λ n. n + 1) c.loop-definition.invariant.count;
      definitions =
          ap (map (λ (t : TypedColumn). t.definition.now)) added
          ∙ copied_next (λ (t : TypedColumn). t.definition.now) (λ (w : Bor ColumnDefinition). w.now) before column c.args.definitions.now i here c.loop-definition-test.true c.definition-item.is c.loop-definition.invariant.definitions
          c.in_ok-column.ensures.definition;
      exact =
          seen_next typed_column (λ (w : Bor ColumnDefinition). w.now) typed_seen c.args.definitions.now i here before c.push.new.self.items column c.loop-definition-test.true c.definition-item.is added
          c.loop-definition.invariant.exact c.in_ok-column.ensures.exact;
    }
