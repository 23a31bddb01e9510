-- What a well-formed statement is given to read.
use Rattle.std.specs.Prelude.{◌≢◌, List}
use Rattle.sq_lex.specs.declared.name.Name.{Name}
use Rattle.sq_value.specs.declared.domain.Kind.{Kind}
use Rattle.sq_value.specs.declared.value.Value.{Value}
use Rattle.sq_store.specs.Content.{Content}
use Rattle.sq_meaning.specs.Status.{Outcome}
use Rattle.sq_meaning.specs.Environment.{Row}
use Rattle.sq_meaning.specs.WellFormed.{IsRowOf}
use Rattle.sq_bound.specs.Fits.{AreInDomains}
use Rattle.sq_bound.specs.WellFormed.{TableKinds, BasesAreThere}
use Rattle.sq_bound.specs.declared.condition.BoundSpecification.{BoundSpecification}
use Rattle.sq_bound.specs.declared.condition.TablePlace.{TablePlace}
use Rattle.sq_bound.specs.declared.names.BaseTable.{BaseTable}
use Rattle.sq_query.specs.Table.{AreMeant}
use Rattle.sq_expression.specs.declared.fault.Failure.TheVariants as failure
use Rattle.sq_expression.specs.declared.fault.Fault.{Fault}
use Rattle.sq_expression.specs.declared.fault.Fault.TheVariants as fault

-- The parameters have values of their kinds, the base tables that are known are in the store, whose rows are in the domains of
-- their columns, and these are the tables that the store's rows and the views' queries make for the user.
pub record MayRead (bases : List BaseTable) (queries : List BoundSpecification) (columns : TableKinds)
    (content : Content) (user : Name) (values : List Value) (parameters : List Kind)
    (tables : TablePlace → Outcome (List Row)) : Type 0 where
  pub inputs : IsRowOf parameters values
  pub there : BasesAreThere bases columns
  pub in_domains : AreInDomains bases content
  pub meant : AreMeant queries content user tables

-- a fault with which something well formed may end: not 42000
abbrev pub MayEnd : Fault → Type 0
MayEnd f = f ≢ fault.Status failure.SyntaxErrorOrAccessRuleViolation
