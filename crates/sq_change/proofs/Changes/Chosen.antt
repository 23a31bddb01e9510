-- Which rows UPDATE and DELETE change (ISO/IEC 9075:1992, 13.6, 13.7, 13.9 and 13.10).
use Rattle.std.proofs.Common.{◌≡◌, ◌<◌, ℕ, List, [], ◌∷◌, length, Some, Result, Ok, Err, refl, sym, ap, subst, arith}
use Rattle.std.specs.Prelude.{IfErr, IfOk, Vec}
use Rattle.std.specs.declared.alloc.Global.{Global}
use Rattle.sq_lex.specs.declared.name.Name.{Name}
use Rattle.sq_value.specs.declared.domain.Kind.{Kind}
use Rattle.sq_value.specs.declared.value.Value.{Value}
use Rattle.sq_store.specs.Content.{Content}
use Rattle.sq_meaning.specs.Status.{Outcome, and_then}
use Rattle.sq_meaning.specs.Change.{if_some}
use Rattle.sq_bound.specs.WellFormed.{TableKinds}
use Rattle.sq_bound.specs.declared.condition.BoundSpecification.{BoundSpecification}
use Rattle.sq_bound.specs.declared.names.BaseTable.{BaseTable}
use Rattle.sq_expression.specs.Fault.{Meets, MeetsAs}
use Rattle.sq_expression.specs.declared.fault.Fault.{Fault}
use Rattle.sq_expression.specs.declared.fault.Fault.TheVariants as fault
use Rattle.sq_expression.specs.declared.fault.Failure.TheVariants as failure
use Rattle.sq_query.specs.MayRead.{MayRead}
use Rattle.sq_query.specs.Table.{AreMeant}
use Rattle.sq_query.specs.Target.{numbers_in}
use Rattle.sq_change.specs.Made.{Shown, number_given}

-- ---- what a search finds

-- a statement may read the tables as they are shown to it
pub reads_shown : {bases : List BaseTable} {views : List BoundSpecification} {columns : TableKinds} {content : Content} {user : Name} {values : List Value} {parameters : List Kind}
    {tables shown : Shown} → MayRead bases views columns content user values parameters tables → AreMeant views content user shown
    → MayRead bases views columns content user values parameters shown
reads_shown may shown = record { inputs = may.inputs; there = may.there; in_domains = may.in_domains; meant = shown }

-- a search that finds no row ends so
pub none_found : (o : Outcome (List ℕ)) (numbers : Vec ℕ Global) → length numbers.items ≡ 0 → o ≡ Ok numbers.items
    → Meets {A = List ℕ} (Err (fault.Status failure.NoData)) (and_then o if_some)
none_found o numbers none is = rw (is, is_empty numbers.items none) refl
  where
    is_empty : (xs : List ℕ) → length xs ≡ 0 → xs ≡ []
    is_empty [] h = refl
    is_empty (x ∷ xs) h = absurd (omega arith)

pub some_found : (o : Outcome (List ℕ)) (numbers : List ℕ) → 0 < length numbers → o ≡ Ok numbers → and_then o if_some ≡ Ok numbers
some_found o [] some is = absurd (omega arith)
some_found o (n ∷ numbers) some is = rw is refl

-- the row that a cursor is on
pub only_number : (n : ℕ) (r : Result (Vec ℕ Global) Fault) → IfOk r (λ numbers. numbers.items ≡ n ∷ []) → IfErr r (λ f. f ≡ fault.NoMemory) → MeetsAs numbers_in r (number_given (Some n))
only_number n (Ok numbers) only memory = ap Ok (sym only)
only_number n (Err f) only memory = subst (λ (x : Fault). MeetsAs {A = Vec ℕ Global} numbers_in (Err x) (number_given (Some n))) (sym memory) tt
