-- SELECT INTO: a query, and the targets after it.
use Rattle.std.proofs.Common.{◌≡◌, List, map, Ok, Err, ap, ◌∙◌}
use Rattle.std.specs.Prelude.{Result}
use Rattle.sq_lex.specs.declared.name.Name.{Name}
use Rattle.sq_tree.specs.declared.statement.Select.{Select as SelectStatement}
use Rattle.sq_meaning.specs.Placed.{PlacedParameter}
use Rattle.sq_meaning.specs.Spelled.{listed}
use Rattle.sq_meaning.specs.WellFormedStatement.{select_of_statement}
use Rattle.sq_bound.specs.declared.condition.BoundSpecification.{BoundSpecification}
use Rattle.sq_bound.specs.declared.statement.Output.{Output}
use Rattle.sq_binding.specs.Condition.{select_bound}
use Rattle.sq_binding.specs.Found.{Binding}
use Rattle.sq_binding.specs.NumberedCondition.{NumberedSelect, columns_of}
use Rattle.sq_binding.specs.Outcome.{Outcome, and_then}
use Rattle.sq_binding.specs.Row.{NumberedRow}
use Rattle.sq_binding.specs.Seen.{select_seen}
use Rattle.sq_binding.specs.Select.{Surroundings}
use Rattle.sq_binding.specs.Targets.{targets_bound}
use Rattle.sq_binder.specs.Binds.{Binds}
use Rattle.sq_binder.specs.Found.{Finds, counts_of, found_of}
use Rattle.sq_binder.specs.declared.found.Counts.{Counts}
use Rattle.sq_binder.specs.declared.found.Found.{Found}
use Rattle.sq_binder.specs.declared.stop.Stop.{Stop}
use Rattle.sq_binder.specs.declared.stop.Stop.TheVariants.{Fault, NoMemory}
use Rattle.sq_binder.proofs.OneByOne.Behind.{with_part}
use Rattle.sq_binder.specs.Row.{row_in, with_outputs}
use Rattle.sq_binding.specs.SeenQuery.{output_seen, row_seen}
use Rattle.sq_binder.proofs.OneByOne.Turned.{outcome_last}

module _ (own : Name) (a : Surroundings) (s : SelectStatement) (before : Counts) where
  abbrev query_bound : Binding NumberedSelect
  query_bound = select_bound a (select_of_statement own s)

  abbrev pub into : NumberedSelect → Outcome (List PlacedParameter)
  into x = targets_bound a.parameters (listed s.targets) (map (λ c. c.kind) (columns_of x))

  abbrev row : NumberedSelect → List PlacedParameter → NumberedRow
  row x targets = record { query = x; targets = targets }

  module _ (query : Found BoundSpecification) (found : Finds select_seen query_bound before (Ok query)) where
    row_is : (o : Outcome (List PlacedParameter)) → into (select_seen query.part) ≡ o → row_in own a s (counts_of before) ≡ and_then o (λ targets. Ok (with_part (row (select_seen query.part) targets) (found_of select_seen query)))
    row_is o is =
        outcome_last query_bound into row (counts_of before)
        ∙ ap (λ p. and_then p (λ x. and_then (into x.part) (λ targets. Ok (with_part (row x.part targets) x)))) found.0
        ∙ ap (λ p. and_then p (λ targets. Ok (with_part (row (select_seen query.part) targets) (found_of select_seen query)))) is

    pub row_found : (outputs : Result (List Output) Stop) → Binds (map output_seen) (into (select_seen query.part)) outputs → Finds row_seen (row_in own a s) before (with_outputs query outputs)
    row_found (Ok outputs) is = (row_is (Ok (map output_seen outputs)) is, found.1)
    row_found (Err NoMemory) is = tt
    row_found (Err (Fault f)) is = row_is (Err f.rule) is
