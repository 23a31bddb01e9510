-- Privileges that statements need (ISO/IEC 9075:1992, 13.6 to 13.10).
use Rattle.std.specs.Prelude.{◌≡◌, Bool, not, ◌||◌, Result, Ok, Err, if◌then◌else◌}
use Rattle.sq_meaning.specs.declared.fault.BindingFault.TheVariants.{PrivilegeMissing}
use Rattle.sq_binding.specs.Found as binding
use Rattle.sq_binding.specs.QueryFindings.{both}
use Rattle.sq_binding.specs.Whole.{needed}
use Rattle.sq_binder.specs.Binds.{broken}
use Rattle.sq_binder.specs.declared.found.Found.{Found}
use Rattle.sq_binder.specs.declared.stop.Stop.{Stop}

-- a privilege is needed
abbrev pub requiring : {A : Type 0} → (is_held : Bool) → binding.Found A → binding.Found A
requiring is_held x = record x { findings = both x.findings (needed is_held) }

-- SELECT is needed if a column of the table that is changed is read
abbrev pub reading : {A : Type 0} → (may_select : Bool) → binding.Found A → binding.Found A
reading may_select x = requiring (not x.findings.values.reads_outermost || may_select) x

-- the part, if no privilege is missing
abbrev pub Permits : {A : Type 0} → Result (Found A) Stop → Result A Stop → Type 0
Permits (Ok x) part =
    part ≡ (if x.brought.findings.lacks_privilege then Err (broken PrivilegeMissing) else Ok x.part)
Permits (Err stop) part = part ≡ Err stop
