-- Left open: the clause exact, and that the loop keeps its invariant; answered by Listed, Turns and others.
use Rattle.std.proofs.Common.{◌≡◌, ◌+◌, [], ◌∷◌, List, length, length-append, ap, subst, ◌∙◌}
use Rattle.std.specs.List.{list_all}
use Rattle.std.specs.Prelude.{Ok}
use Rattle.sq_lex.specs.declared.name.Name.{Name}
use Rattle.sq_bound.specs.Names.{are_positions}
use Rattle.sq_binding.specs.Position.{positions_of}
use Rattle.sq_catalog.specs.Fault.{Stops}
use Rattle.sq_catalog.specs.Keys.{StandAt}
use Rattle.sq_catalog.specs.Written.{column_count, names_at}
use Rattle.sq_catalog.specs.declared.written.WrittenKey.{WrittenKey}
use Rattle.sq_catalog.proofs.OneByOne.Listed.{all_push}
use Rattle.sq_catalog.proofs.OneByOne.Turns.{handed_on, made_next, made_stops, no_memory}
use Rattle.sq_catalog.proofs.CreateTable.WrittenParts.{primary_read, two_read, zip_read}
use Rattle.sq_catalog.proofs.key.Keys.add_all.Goals as goal

pub returns-in_err-columns-clause-exact : goal.returns-in_err-columns-clause-exact
returns-in_err-columns-clause-exact c =
    let names = names_at c.args.named.now in
    let fault = c.in_err-columns.field-0.0 in
    handed_on _ _ c.from_residual.result fault c.from_residual.ensures.1
    (made_stops (positions_of names) (λ (key : WrittenKey). key.columns) c.args.written.now c.loop-key.key-index c.key-item.result c.loop-key.self.columns fault c.loop-key-test.true c.key-item.is c.loop-key.invariant.exact
    (subst (λ (wanted : List Name). Stops (positions_of names wanted) fault) c.as_slice.ensures c.in_err-columns.ensures.exact))

pub returns-in_err-add-clause-exact : goal.returns-in_err-add-clause-exact
returns-in_err-add-clause-exact c = handed_on _ _ c.from_residual-in_err-add.result c.in_err-add.field-0.0 c.from_residual-in_err-add.ensures.1 (no_memory _ c.in_err-add.field-0.0 c.in_err-add.ensures.memory)

pub loop-key-preserved : goal.loop-key-preserved
loop-key-preserved c =
    let names = names_at c.args.named.now in
    let columns = c.loop-key.self.columns in
    let added = c.in_ok-add.ensures.columns in
    let before = c.loop-key.invariant in
    let found = subst (λ (wanted : List Name). StandAt names wanted c.in_ok-columns.columns) c.as_slice.ensures c.in_ok-columns.ensures.named in
    let exact = subst (λ (wanted : List Name). positions_of names wanted ≡ Ok c.in_ok-columns.columns) c.as_slice.ensures c.in_ok-columns.ensures.exact in
    record {
      count = ap length added ∙ length-append columns (c.in_ok-columns.columns ∷ []) ∙ ap (λ n. n + 1) before.count;
      within =
          ap (list_all (are_positions (column_count c.args.named.now))) added
          ∙ all_push (are_positions (column_count c.args.named.now)) columns c.in_ok-columns.columns before.within c.in_ok-columns.ensures.within;
      named =
          zip_read (λ key places. StandAt names key.columns places) c.args.written.now c.loop-key.key-index c.key-item.result columns c.add.new.self.columns c.in_ok-columns.columns
          c.loop-key-test.true c.key-item.is added before.named found;
      primary =
          primary_read c.args.written.now c.loop-key.key-index c.key-item.result (length columns) c.loop-key.self.primary c.add.new.self.primary
          c.loop-key-test.true c.key-item.is before.count c.in_ok-add.ensures.primary before.primary;
      two =
          two_read c.args.written.now c.loop-key.key-index c.key-item.result c.loop-key.self.primary c.loop-key.self.has_two_primary c.add.new.self.has_two_primary
          c.loop-key-test.true c.key-item.is c.in_ok-add.ensures.two before.two before.primary;
      exact =
          made_next (positions_of names) (λ (key : WrittenKey). key.columns) c.args.written.now c.loop-key.key-index c.key-item.result columns c.add.new.self.columns c.in_ok-columns.columns
          c.loop-key-test.true c.key-item.is added before.exact exact;
    }
