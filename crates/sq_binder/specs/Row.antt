-- SELECT INTO, as the definitions see it (ISO/IEC 9075:1992, 13.5).
use Rattle.std.specs.Prelude.{List, map, Result, Ok, Err}
use Rattle.sq_lex.specs.declared.name.Name.{Name}
use Rattle.sq_tree.specs.declared.statement.Select.{Select as SelectStatement}
use Rattle.sq_meaning.specs.Spelled.{listed}
use Rattle.sq_meaning.specs.WellFormedStatement.{select_of_statement}
use Rattle.sq_bound.specs.declared.condition.BoundSpecification.{BoundSpecification}
use Rattle.sq_bound.specs.declared.statement.BoundSelect.{BoundSelect}
use Rattle.sq_bound.specs.declared.statement.Output.{Output}
use Rattle.sq_binding.specs.Condition.{select_bound}
use Rattle.sq_binding.specs.Found.{Binding, ◌>>=◌, outcome, pure}
use Rattle.sq_binding.specs.NumberedCondition.{columns_of}
use Rattle.sq_binding.specs.Row.{NumberedRow}
use Rattle.sq_binding.specs.Select.{Surroundings}
use Rattle.sq_binding.specs.Targets.{targets_bound}
use Rattle.sq_binder.specs.declared.found.Found.{Found}
use Rattle.sq_binder.specs.declared.stop.Stop.{Stop}

-- a SELECT INTO in these surroundings, in the text of a user
abbrev pub row_in : Name → Surroundings → SelectStatement → Binding NumberedRow
row_in own a s = do
  x ← select_bound a (select_of_statement own s)
  targets ← outcome (targets_bound a.parameters (listed s.targets) (map (λ c. c.kind) (columns_of x)))
  pure (record { query = x; targets = targets })

abbrev pub with_outputs : Found BoundSpecification → Result (List Output) Stop
    → Result (Found BoundSelect) Stop
with_outputs query (Ok outputs) =
    Ok (record { part = record { query = query.part; outputs = outputs }; brought = query.brought })
with_outputs query (Err stop) = Err stop
