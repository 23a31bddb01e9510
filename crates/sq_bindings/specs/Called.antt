-- Names in a host's language.
use Rattle.sq_lex.specs.declared.name.Name.{Name}
use Rattle.sq_bindings.specs.Names.{c_function, c_parameter, cobol_name, listed}
use Rattle.sq_bindings.specs.Template.{Text}
use Rattle.sq_bindings.specs.declared.language.Host.{Host}
use Rattle.sq_bindings.specs.declared.language.Host.TheVariants as variant
use Rattle.sq_bindings.specs.declared.language.Naming.{Naming}

abbrev name_by : Host → Naming → Name → Text
name_by variant.C n name = c_parameter (listed n.words.now) name
name_by variant.Cobol n name = cobol_name (listed n.words.now) name

abbrev pub name_in : Naming → Name → Text
name_in n name = name_by n.host n name

abbrev procedure_by : Host → Naming → Name → Name → Text
procedure_by variant.C n owner procedure = c_function (listed n.words.now) owner procedure
procedure_by variant.Cobol n owner procedure = cobol_name (listed n.words.now) procedure

abbrev pub procedure_in : Naming → Name → Name → Text
procedure_in n owner procedure = procedure_by n.host n owner procedure
