-- Left open: the call of key_values, and the clauses memory, found and known; answered by KeyNames, KeyTests, KeyValues and KnownKeys.
use Rattle.std.proofs.Common.{List, refl}
use Rattle.std.specs.List.{AllZip}
use Rattle.sq_value.specs.declared.value.Value.{Value}
use Rattle.sq_query.specs.Key.{IsComparedWith}
use Rattle.sq_query.proofs.Keys.KeyNames.{first_tests_name, named_by}
use Rattle.sq_query.proofs.Keys.KeyTests.{if_some}
use Rattle.sq_query.proofs.Keys.KeyValues.{handed_memory}
use Rattle.sq_query.proofs.Keys.KnownKeys.{not_none}
use Rattle.sq_query.proofs.key.key_by_columns.Goals as goal

pub key_values-requires : goal.key_values-requires
key_values-requires c = record { named = first_tests_name c.args.condition.now c.args.columns.now c.first_tests-tests.result.now c.requires.named c.first_tests-tests.ensures }

pub returns-in_err-values-clause-memory : goal.returns-in_err-values-clause-memory
returns-in_err-values-clause-memory c = λ valued.
    handed_memory c.from_residual.result c.in_err-values.field-0.0 c.from_residual.ensures.1 (c.in_err-values.ensures.memory (valued c.first_tests-tests.result.now c.first_tests-tests.ensures))

pub returns-in-None-clause-found : goal.returns-in-None-clause-found
returns-in-None-clause-found c = λ known. absurd (not_none c.in_ok-values.field-0 c.in-None.is (c.in_ok-values.ensures.found (known c.first_tests-tests.result.now c.first_tests-tests.ensures)))

pub returns-in-Some-clause-known : goal.returns-in-Some-clause-known
returns-in-Some-clause-known c =
    let tests = c.first_tests-tests.result.now in
    let columns = c.args.columns.now in
    let values = c.args.call.now.parameters.now in
    let user = c.args.call.now.user in (
      refl,
      named_by c.args.condition.now values user columns tests c.in-Some.values c.in-Some.values c.requires.named c.first_tests-tests.ensures
          (if_some (λ (vs : List Value). AllZip (IsComparedWith tests values user) columns vs) c.in_ok-values.field-0 c.in-Some.values c.in_ok-values.ensures.values c.in-Some.is) refl,
    )
