-- The declarations of schema texts: a catalog, or their first refusal (ISO/IEC 9075:1992, 11.1).
use Rattle.std.specs.Prelude.{List, [], ◌∷◌, ◌++◌, Option, Some, None, Result, Ok, Err}
use Rattle.sq_lex.specs.declared.name.Name.{Name}
use Rattle.sq_tree.specs.declared.schema.SchemaElement.{SchemaElement}
use Rattle.sq_tree.specs.declared.schema.SchemaElement.TheVariants as element
use Rattle.sq_tree.specs.declared.schema.SchemaText.{SchemaText}
use Rattle.sq_meaning.specs.Schema.{is_among}
use Rattle.sq_meaning.specs.SchemaRefusal.{Part, SchemaRefusal, part_refusal, schema_parts}
use Rattle.sq_meaning.specs.declared.refusal.SchemaFault.TheVariants as fault
use Rattle.sq_binding.specs.Catalog.{Catalog, empty}
use Rattle.sq_binding.specs.Grant.{grant}
use Rattle.sq_binding.specs.ElementOutcome.{Outcome, ◌>>◌, refused_if}
use Rattle.sq_binding.specs.Table.{create_table}
use Rattle.sq_binding.specs.CreateView.{create_view}

-- a schema element of a user
abbrev pub with_element : Catalog → Name → SchemaElement → Outcome Catalog
with_element c user (element.Table t) = create_table c user t
with_element c user (element.View v) = create_view c user v
with_element c user (element.Grant g) = grant c user g

-- a user has one schema
abbrev pub with_user : Catalog → Name → Outcome Catalog
with_user c user =
    refused_if fault.NameTwice (is_among c.users user) >> Ok (record c { users = c.users ++ user ∷ [] })

abbrev pub with_part : Catalog → Name → Option SchemaElement → Outcome Catalog
with_part c user None = with_user c user
with_part c user (Some e) = with_element c user e

-- a refusal says the place of the part
abbrev pub Declared : Type 0
Declared = Result Catalog SchemaRefusal

abbrev pub then_parts : (Catalog → Declared) → Part → Outcome Catalog → Declared
then_parts rest p (Ok c) = rest c
then_parts rest p (Err f) = Err (part_refusal p f)

-- the parts of schema texts one after the other
abbrev pub with_parts : List Part → Catalog → Declared
with_parts [] c = Ok c
with_parts (p ∷ ps) c = then_parts (with_parts ps) p (with_part c p.user p.element)

abbrev pub catalog_of : List SchemaText → Declared
catalog_of texts = with_parts (schema_parts texts) empty
