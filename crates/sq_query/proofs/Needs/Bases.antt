-- The base tables that a statement reads.
use Rattle.std.proofs.Common.{◌≡◌, ℕ, List, [], ◌∷◌, ◌++◌, map, refl, ap, ◌∙◌, Ok, Err}
use Rattle.std.proofs.lemmas.List.{map_push}
use Rattle.sq_store.specs.declared.table.Table.{Table}
use Rattle.sq_meaning.specs.Environment.{Row}
use Rattle.sq_meaning.specs.Status.{Outcome, and_then}
use Rattle.sq_meaning.specs.Tables.{rows_in}
use Rattle.sq_expression.specs.Fault.{Meets}
use Rattle.sq_query.specs.Table.{base_seen}
use Rattle.sq_expression.specs.declared.fault.Fault.{Fault}
use Rattle.sq_expression.specs.declared.fault.Fault.TheVariants as fault
use Rattle.sq_expression.specs.declared.table.BaseRows.{BaseRows}
use Rattle.sq_expression.proofs.Kept.{ok_same}

pub all_same : {A : Type 0} (xs : List A) → map (λ x. x) xs ≡ xs
all_same [] = refl
all_same (x ∷ xs) = ap (λ ys. x ∷ ys) (all_same xs)

-- ---- a base table and its place

abbrev pub stored_by : ℕ → Outcome Table → Outcome (ℕ × List Row)
stored_by place o = and_then o (λ t. Ok (place, rows_in t))

pub with_its_place : (o : Outcome Table) (place : ℕ) (rows : List Row) → and_then o (λ t. Ok (rows_in t)) ≡ Ok rows → stored_by place o ≡ Ok (place, rows)
with_its_place (Ok t) place rows h = ap (λ (rs : List Row). let found : Outcome (ℕ × List Row) = Ok (place, rs) in found) (ok_same (rows_in t) rows h)
with_its_place (Err s) place rows h = absurd cc

pub no_place : (e : Fault) (o : Outcome Table) (place : ℕ) → Meets {A = List Row} (Err e) (and_then o (λ t. Ok (rows_in t))) → Meets {A = ℕ × List Row} (Err e) (stored_by place o)
no_place fault.NoMemory o place h = tt
no_place (fault.Status s) (Ok t) place h = absurd cc
no_place (fault.Status s) (Err t) place h = cc

pub base_more : (done next : List BaseRows) (base : BaseRows) → next ≡ done ++ base ∷ [] → map base_seen next ≡ map base_seen done ++ base_seen base ∷ []
base_more done next base grown = ap (map base_seen) grown ∙ map_push base_seen done base
