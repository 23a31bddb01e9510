-- The parameters with which a procedure is bound are those that it declares, under different names,
-- and a call starts them at the same values by their names and by their positions (ISO/IEC
-- 9075:1992, 6.2, 12.3 and 12.4).
use Rattle.std.proofs.Common.{◌≡◌, ℕ, zero, suc, true, false, ◌||◌, List, [], ◌∷◌, length, map, Some, refl, sym, ap, ◌∙◌, arith}
use Rattle.std.specs.List.{flat_map, list_any}
use Rattle.std.specs.Prelude.{filter_map, nat_lt, slice_get}
use Rattle.std.proofs.lemmas.Bool.{and_parts, or_parts}
use Rattle.sq_lex.specs.declared.name.Name.{Name}
use Rattle.sq_value.specs.declared.value.Value.{Value}
use Rattle.sq_tree.specs.declared.«module».Declaration.{Declaration}
use Rattle.sq_tree.specs.declared.«module».Declaration.TheVariants as declaration
use Rattle.sq_tree.specs.declared.«module».Procedure.{Procedure}
use Rattle.sq_meaning.specs.Environment.{same_name}
use Rattle.sq_meaning.specs.Spelled.{domain_of}
use Rattle.sq_meaning.specs.Module.{declarations_of, declared_in, parameter_declarations}
use Rattle.sq_meaning.specs.ModuleRefusal.{has_bad_declared, is_bad_type}
use Rattle.sq_meaning.specs.Schema.{has_name_twice}
use Rattle.sq_meaning.specs.Script.{fit, fits_in}
use Rattle.sq_meaning.specs.Parameter.{inputs_of, started, started_parameters}
use Rattle.sq_bound.specs.declared.names.ParameterDesc.{ParameterDesc}
use Rattle.sq_module.specs.Written.{Declare, named_as, named_in}
use Rattle.sq_session.specs.Parameter.{started_values}
use Rattle.sq_binding.specs.Names.{declared}
use Rattle.sq_run.proofs.Changed.TargetsSet.{AreApart, AreParameters}
use Rattle.sq_run.proofs.Steps.Found.{itself, never_both}

-- ---- what is declared

names_same : (ds : List Declaration) (ps : List ParameterDesc) → map named_as ps ≡ flat_map named_in ds
    → map (λ p. p.name) ps ≡ map (λ d. d.name) (filter_map declared_in ds)
names_same [] [] e = refl
names_same [] (p ∷ ps) e = cc
names_same (declaration.Parameter name data_type ∷ ds) [] e = cc
names_same (declaration.Parameter name data_type ∷ ds) (p ∷ ps) e =
    let head : named_as p ≡ (name, domain_of data_type) = cc in
    let rest : map named_as ps ≡ flat_map named_in ds = cc in (λ i. (head i).0 ∷ names_same ds ps rest i)
names_same (declaration.Sqlcode ∷ ds) ps e = names_same ds ps e
names_same (declaration.Sqlstate ∷ ds) ps e = names_same ds ps e

-- ---- no two have one name

not_later : (name : Name) (ps : List ParameterDesc) → list_any (same_name name) (map (λ p. p.name) ps) ≡ false → (j : ℕ) (q : ParameterDesc)
    → slice_get ps j ≡ Some q → name ≡ q.name → ⊥
not_later name [] h j q at e = cc
not_later name (x ∷ ps) h zero q at e =
    let same : x ≡ q = cc in
    let it : same_name name x.name ≡ true = ap (same_name name) (ap (λ (p : ParameterDesc). p.name) same ∙ sym e) ∙ itself name in
    let other = (or_parts (same_name name x.name) (list_any (same_name name) (map (λ p. p.name) ps)) h).0 in
    never_both (same_name name x.name) it other
not_later name (x ∷ ps) h (suc j) q at e =
    not_later name ps (or_parts (same_name name x.name) (list_any (same_name name) (map (λ p. p.name) ps)) h).1 j q at e

apart_of : (ps : List ParameterDesc) → has_name_twice (map (λ p. p.name) ps) ≡ false → AreApart ps
apart_of [] h i j p q here there e = cc
apart_of (x ∷ ps) h zero zero p q here there e = refl
apart_of (x ∷ ps) h zero (suc j) p q here there e =
    let same : x ≡ p = cc in
    absurd (not_later x.name ps (or_parts (list_any (same_name x.name) (map (λ r. r.name) ps)) (has_name_twice (map (λ r. r.name) ps)) h).0 j q there (ap (λ (r : ParameterDesc). r.name) same ∙ e))
apart_of (x ∷ ps) h (suc i) zero p q here there e =
    let same : x ≡ q = cc in
    absurd (not_later x.name ps (or_parts (list_any (same_name x.name) (map (λ r. r.name) ps)) (has_name_twice (map (λ r. r.name) ps)) h).0 i p here (ap (λ (r : ParameterDesc). r.name) same ∙ sym e))
apart_of (x ∷ ps) h (suc i) (suc j) p q here there e =
    ap suc (apart_of ps (or_parts (list_any (same_name x.name) (map (λ r. r.name) ps)) (has_name_twice (map (λ r. r.name) ps)) h).1 i j p q here there e)

pub bound_apart : (p : Procedure) (ps : List ParameterDesc) → Declare (declarations_of p.declarations) ps
    → has_bad_declared (parameter_declarations p) ≡ false → AreApart ps
bound_apart p ps e good =
    apart_of ps (ap has_name_twice (names_same (declarations_of p.declarations) ps e)
    ∙ (or_parts (has_name_twice (map (λ d. d.name) (parameter_declarations p))) (list_any (λ d. is_bad_type d.data_type) (parameter_declarations p))
    (or_parts (has_name_twice (map (λ d. d.name) (parameter_declarations p)) || list_any (λ d. is_bad_type d.data_type) (parameter_declarations p)) (nat_lt 64 (length (parameter_declarations p))) good).0).0)

-- ---- the values of a call

-- There are as many values as parameters.
pub as_many : (ps : List ParameterDesc) (values : List Value) → fit (declared ps) values ≡ true → length values ≡ length ps
as_many [] [] h = refl
as_many [] (v ∷ values) h = cc
as_many (p ∷ ps) [] h = cc
as_many (p ∷ ps) (v ∷ values) h = ap suc (as_many ps values (and_parts (fits_in p.domain v) (fit (declared ps) values) h).1)

pub are_parameters : (ps : List ParameterDesc) (values : List Value) → length values ≡ length ps
    → AreParameters ps (started_parameters (declared ps) values)
are_parameters [] values e = tt
are_parameters (p ∷ ps) [] e = absurd (omega arith)
are_parameters (p ∷ ps) (v ∷ values) e = let fewer : length values ≡ length ps = omega arith in ((refl, refl), are_parameters ps values fewer)

-- They start at the same values.
pub started_same : (ps : List ParameterDesc) (values : List Value)
    → started_values ps values ≡ map (λ i. i.value) (inputs_of (started_parameters (declared ps) values))
started_same [] values = refl
started_same (p ∷ ps) [] = refl
started_same (p ∷ ps) (v ∷ values) = ap (λ l. started p.domain v ∷ l) (started_same ps values)
