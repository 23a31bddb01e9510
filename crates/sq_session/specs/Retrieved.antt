-- The values of a row that is retrieved.
use Rattle.std.specs.Prelude.{List}
use Rattle.sq_value.specs.declared.value.Value.{Value}
use Rattle.sq_session.specs.Columns.{values_in}
use Rattle.sq_session.specs.declared.retrieved.RetrievedRow.{RetrievedRow}

abbrev pub values_of : RetrievedRow → List Value
values_of r = values_in r.values.now r.columns
