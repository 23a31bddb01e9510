-- The modules that are refused, and the places (ISO/IEC 9075:1992, 12.1 to 12.3 and 13.1). The greatest number of
-- parameters, and that exactly one procedure opens a cursor, are own rules.
use Rattle.std.specs.List.{enumerate_from, list_any}
use Rattle.std.specs.Prelude.{ℕ, ◌+◌, Bool, false, not, ◌||◌, List, [], ◌∷◌, map, length, is_none, if◌then◌else◌, nat_lt, ◌==◌, count_by, position, take, filter_map, Option, option_map, Some, None}
use Rattle.sq_lex.specs.declared.name.Name.{Name}
use Rattle.sq_tree.specs.declared.data_type.DataType.{DataType}
use Rattle.sq_tree.specs.declared.module.Declaration.{Declaration}
use Rattle.sq_tree.specs.declared.module.ModuleItem.{ModuleItem}
use Rattle.sq_tree.specs.declared.module.ModuleItem.TheVariants as item
use Rattle.sq_tree.specs.declared.module.ModuleText.{ModuleText}
use Rattle.sq_meaning.specs.Spelled.{domain_of}
use Rattle.sq_meaning.specs.Module.{ParameterDeclaration, cursor_in, declarations_of, is_sqlcode, is_sqlstate, opener_count, parameter_declarations, procedure_in}
use Rattle.sq_meaning.specs.Schema.{has_name_twice, is_among}
use Rattle.sq_meaning.specs.Words.{first_some, is_some_and}
use Rattle.sq_meaning.specs.declared.refusal.ModuleFault.{ModuleFault}
use Rattle.sq_meaning.specs.declared.refusal.ModuleFault.TheVariants as module_fault

-- the module's number among the module texts, the number of the cursor or procedure in it (none: the module itself),
-- and why
pub record ModuleRefusal : Type 0 where
  pub text : ℕ
  pub item : Option ℕ
  pub fault : ModuleFault

-- ---- names used again

-- the names before a place
abbrev pub names_before : List (Option Name) → ℕ → List Name
names_before names place = filter_map (λ name. name) (take place names)

-- the place of the first name that was used before
abbrev pub first_repeated : List (Option Name) → Option ℕ
first_repeated names =
    position (λ n. is_some_and (is_among (names_before names n.0)) n.1) (enumerate_from 0 names)

abbrev pub procedure_name : ModuleItem → Option Name
procedure_name i = option_map (λ p. p.name) (procedure_in i)

abbrev pub cursor_name : ModuleItem → Option Name
cursor_name i = option_map (λ c. c.name) (cursor_in i)

-- ---- one item

-- exactly one procedure opens each cursor
abbrev pub has_open_count : ModuleText → ModuleItem → Bool
has_open_count m (item.Cursor c) = not (opener_count m c.name == 1)
has_open_count m (item.Procedure p) = false

-- SQLCODE, SQLSTATE or both, each once at most (12.3)
abbrev pub has_bad_status : List Declaration → Bool
has_bad_status ds =
    let codes = count_by is_sqlcode ds in
    let states = count_by is_sqlstate ds in
    codes + states == 0 || nat_lt 1 codes || nat_lt 1 states

abbrev pub has_status_fault : ModuleItem → Bool
has_status_fault (item.Cursor c) = false
has_status_fault (item.Procedure p) = has_bad_status (declarations_of p.declarations)

abbrev pub is_bad_type : DataType → Bool
is_bad_type t = is_none (domain_of t)

abbrev pub has_bad_declared : List ParameterDeclaration → Bool
has_bad_declared ds =
    has_name_twice (map (λ d. d.name) ds) || list_any (λ d. is_bad_type d.data_type) ds
    || nat_lt 64 (length ds)

abbrev pub has_bad_parameter : ModuleItem → Bool
has_bad_parameter (item.Cursor c) = false
has_bad_parameter (item.Procedure p) = has_bad_declared (parameter_declarations p)

-- ---- one module, and all

abbrev pub at_item : ℕ → ModuleFault → Option ℕ → Option ModuleRefusal
at_item text fault place = option_map (λ i. record { text = text; item = Some i; fault = fault }) place

abbrev pub name_refusal : List Name → ℕ → ModuleText → Option ModuleRefusal
name_refusal earlier text m =
    if is_among earlier m.name
    then Some (record { text = text; item = None; fault = module_fault.TwoModules })
    else None

-- each refusal is looked for over the whole module before the next
abbrev pub module_refusal : List Name → ℕ → ModuleText → Option ModuleRefusal
module_refusal earlier text m = first_some (
    name_refusal earlier text m
    ∷ at_item text module_fault.TwoProcedures (first_repeated (map procedure_name m.items))
    ∷ at_item text module_fault.TwoCursors (first_repeated (map cursor_name m.items))
    ∷ at_item text module_fault.OpenCount (position (has_open_count m) m.items)
    ∷ at_item text module_fault.StatusParameter (position has_status_fault m.items)
    ∷ at_item text module_fault.BadParameter (position has_bad_parameter m.items) ∷ [])

-- the names of the modules before a place
abbrev pub modules_before : List ModuleText → ℕ → List Name
modules_before modules place = map (λ m. m.name) (take place modules)

-- the first refusal, module by module
abbrev pub first_module_refusal : List ModuleText → Option ModuleRefusal
first_module_refusal modules =
    first_some (map (λ m. module_refusal (modules_before modules m.0) m.0 m.1) (enumerate_from 0 modules))
