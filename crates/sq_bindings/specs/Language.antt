-- The templates of a part, by what is declared and how it is used.
use Rattle.std.specs.Prelude.{List, [], if◌then◌else◌}
use Rattle.std.specs.List.{list_any}
use Rattle.sq_tree.specs.declared.module.Declaration.{Declaration}
use Rattle.sq_bindings.specs.Declaring.{is_sqlcode, is_sqlstate}
use Rattle.sq_bindings.specs.Template.{Text}
use Rattle.sq_bindings.specs.declared.language.Part.{Part}
use Rattle.sq_bindings.specs.declared.language.Uses.{Uses}
use Rattle.sq_bindings.specs.declared.parameter.Kind.{Kind}
use Rattle.sq_bindings.specs.declared.parameter.Kind.TheVariants as kind
use Rattle.sq_bindings.specs.declared.parameter.Role.{Role}
use Rattle.sq_bindings.specs.declared.parameter.Role.TheVariants.{Reads, Sets, Both}

abbrev pub uses_of : Part → Kind → Uses
uses_of p kind.Small = p.small
uses_of p kind.Integer = p.integer
uses_of p (kind.Numeric digits scale) = p.numeric
uses_of p (kind.Decimal digits scale) = p.decimal
uses_of p (kind.Fixed length) = p.fixed
uses_of p (kind.Varying length) = p.varying

abbrev pub used : Uses → Role → Text
used u Reads = u.reads.now
used u Sets = u.sets.now
used u Both = u.both.now

abbrev pub template_of : Part → Kind → Role → Text
template_of p k role = used (uses_of p k) role

abbrev pub missing_sqlstate : Part → List Declaration → Text
missing_sqlstate p ds = if list_any is_sqlstate ds then [] else p.no_sqlstate.now

abbrev pub missing_sqlcode : Part → List Declaration → Text
missing_sqlcode p ds = if list_any is_sqlcode ds then [] else p.no_sqlcode.now
