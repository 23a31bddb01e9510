-- The target of an updatable cursor is the one that is bound, whatever procedure's parameters are seen
-- (ISO/IEC 9075:1992, 7.9 and 13.1): its base table, and the columns of it that the cursor shows.
use Rattle.std.proofs.Common.{◌≡◌, Bool, true, false, List, [], ◌∷◌, map, Some, None, refl, sym, ap, subst, ◌∙◌, Ok, Err}
use Rattle.std.specs.Prelude.{if◌then◌else◌}
use Rattle.std.specs.Option.{option_and_then}
use Rattle.std.specs.Result.{result_ok}
use Rattle.sq_tree.specs.declared.«module».Cursor.{Cursor}
use Rattle.sq_value.specs.declared.value.Value.TheVariants.{Null}
use Rattle.sq_meaning.specs.Environment.{Input, Row}
use Rattle.sq_meaning.specs.Spelled.{Named}
use Rattle.sq_meaning.specs.Status.{Outcome}
use Rattle.sq_meaning.specs.Syntax.{Query, Select, specification, union}
use Rattle.sq_meaning.specs.Target.{Target as Meant, cursor_target}
use Rattle.sq_meaning.specs.WellFormedStatement.{cursor_query, is_plain, only_specification, updatable_cursor}
use Rattle.sq_meaning.specs.Change as by_name
use Rattle.sq_meaning.specs.Change.{tables_in}
use Rattle.sq_meaning.specs.Machine.{Running, setting, surroundings}
use Rattle.sq_bound.specs.Known.{KnownTables}
use Rattle.sq_bound.specs.declared.condition.TablePlace.{TablePlace}
use Rattle.sq_bound.specs.declared.names.ParameterDesc.{ParameterDesc}
use Rattle.sq_bound.specs.declared.query.CursorBody.TheVariants as body
use Rattle.sq_bound.specs.declared.query.UpdatableQuery.{UpdatableQuery}
use Rattle.sq_binding.specs.Written.{HasRowsOf}
use Rattle.sq_session.specs.Schemas.{Schemas, columns_of}
use Rattle.sq_run.proofs.Places.Databases.{IsDatabase}
use Rattle.sq_run.proofs.Places.Parameters.{AreNamed}
use Rattle.sq_run.proofs.Changed.Retrieved.{cursor_target_same}
use Rattle.sq_run.proofs.Sites.Stars.{QueryStars}
use Rattle.sq_run.proofs.Schemas.ViewTargets.{AreUnder}

-- inputs of these names
abbrev any_inputs : List ParameterDesc → List Input
any_inputs ps = map (λ p. record { name = p.name; value = Null }) ps

names_any : (ps : List ParameterDesc) → map (λ p. p.name) ps ≡ map (λ i. i.name) (any_inputs ps)
names_any [] = refl
names_any (p ∷ ps) = ap (λ ns. p.name ∷ ns) (names_any ps)

any_named : (ps : List ParameterDesc) → AreNamed ps (any_inputs ps)
any_named [] = tt
any_named (p ∷ ps) = names_any (p ∷ ps)

-- the query of an updatable cursor is a query specification, and has the cursor's target
pub target_of_query : (plain : Bool) (f : Select Named → Outcome Meant) (s : Select Named) (target : Meant)
    → option_and_then (λ q. result_ok (f q)) (if plain then Some s else None) ≡ Some target → f s ≡ Ok target
target_of_query false f s target e = cc
target_of_query true f s target e = by_target (f s) e
  where
    by_target : (o : Outcome Meant) → result_ok o ≡ Some target → o ≡ Ok target
    by_target (Ok found) e = let same : found ≡ target = cc in ap (λ (x : Meant). Ok x) same
    by_target (Err status) e = cc

module _ (r : Running) (known : KnownTables) (schemas : Schemas) (shown : TablePlace → Outcome (List Row))
    (database : IsDatabase (tables_in (setting r)) r.state.tables r.in_module.authorization known (columns_of schemas) schemas.views shown)
    (under : AreUnder known schemas.bases (tables_in (setting r))) (c : Cursor) (stars : QueryStars (cursor_query (surroundings r) c))
    (ps : List ParameterDesc) (over : UpdatableQuery) (target : Meant) (updatable : updatable_cursor (surroundings r) c ≡ Some target) where
  by_query : (q : Query Named) → cursor_query (surroundings r) c ≡ q → HasRowsOf known ps q (body.Updatable over)
      → (target.place ≡ over.target.base) × (target.columns ≡ over.columns)
  by_query (specification s) is rows =
      let means = target_of_query (is_plain c) (cursor_target (tables_in (setting r))) s target
      (sym (λ i. option_and_then (λ x. result_ok (cursor_target (tables_in (setting r)) x)) (if is_plain c then only_specification (is i) else None)) ∙ updatable) in
      let m : by_name.Setting = record (setting r) { inputs = any_inputs ps } in
      let bound = cursor_target_same m known (columns_of schemas) schemas.views shown database schemas.bases under ps (any_named ps) s over rows
      (subst QueryStars is stars) target means in
      (bound.place ∙ sym over.target.is_under, bound.columns_are)
  by_query (union all left right) is rows = absurd rows

  pub target_bound : HasRowsOf known ps (cursor_query (surroundings r) c) (body.Updatable over)
      → (target.place ≡ over.target.base) × (target.columns ≡ over.columns)
  target_bound rows = by_query (cursor_query (surroundings r) c) refl rows
