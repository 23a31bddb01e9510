-- What a program names is there and its parts are well formed with a cursor or a procedure more.
use Rattle.std.proofs.Common.{◌≡◌, ℕ, ◌≤◌, Bool, true, false, List, [], ◌∷◌, ◌++◌, length, length-append, Option, None, Some, slice_get, Result, Ok, Err, IfOk, nat_lt, zero, suc, refl, sym, ap, ◌∙◌, subst, arith}
use Rattle.std.proofs.lemmas.Bool.{lt-ltb, ltb-true}
use Rattle.std.proofs.lemmas.List.{map-append}
use Rattle.std.specs.List.{AllByRecursion}
use Rattle.indexmap.specs.IndexMap.{insert_entry}
use Rattle.sq_value.specs.declared.domain.Kind.{Kind}
use Rattle.sq_meaning.specs.Status.{well_formed}
use Rattle.sq_meaning.specs.WellFormed.{Has}
use Rattle.sq_meaning.proofs.AnswerLaws.{all_weaker}
use Rattle.sq_bound.specs.declared.names.BaseTable.{BaseTable}
use Rattle.sq_binder.specs.declared.stop.Fault.{Fault}
use Rattle.sq_binder.specs.declared.stop.Stop.{Stop}
use Rattle.sq_binder.specs.declared.stop.Stop.TheVariants as stop
use Rattle.sq_bound.specs.declared.query.BoundCursor.{BoundCursor}
use Rattle.sq_bound.specs.declared.statement.BoundStatement.{BoundStatement}
use Rattle.sq_bound.specs.declared.statement.BoundStatement.TheVariants as statement
use Rattle.sq_bound.specs.declared.statement.ChangeTarget.{ChangeTarget}
use Rattle.sq_bound.specs.declared.statement.ChangeTarget.TheVariants as target
use Rattle.sq_bound.specs.Fits.{FitsCursor, FitsStatement, FitsTarget}
use Rattle.sq_bound.specs.WellFormed.{IsCursor, IsStatement, TableKinds, TakeKinds, kinds_of_parameters, kinds_of_results}
use Rattle.sq_catalog.specs.Catalog.{Catalog, column_kinds}
use Rattle.sq_module.specs.Added.{IsInOrder}
use Rattle.sq_module.specs.Computed.{IsPart}
use Rattle.sq_module.specs.declared.program.BoundProcedure.{BoundProcedure}
use Rattle.sq_module.specs.declared.program.DeclaredCursor.{DeclaredCursor}
use Rattle.sq_module.specs.declared.program.ProcedureName.{ProcedureName}
use Rattle.sq_module.specs.declared.program.Program.{Program}
use Rattle.sq_module.specs.Program.{CursorsAreWellFormed, CursorsFit, FitsProcedure, ProcedureIsWellFormed, ProceduresAreWellFormed, ProceduresFit, ProceduresOpen, kinds_of_cursors, same_procedure}
use Rattle.sq_module.specs.Written.{AreApart}
use Rattle.sq_module.proofs.Opening.{procedures_open_more}

-- ---- elements of a list

pub all_last : {X : Type 0} (P : X → Type 0) (xs : List X) (x : X) → AllByRecursion P xs → P x → AllByRecursion P (xs ++ x ∷ [])
all_last P [] x all one = (one, tt)
all_last P (y ∷ xs) x all one = (all.0, all_last P xs x all.1 one)

all_inserted : {K V : Type 0} (eq : K → K → Bool) (P : V → Type 0) (es : List (K × V)) (k : K) (v : V) → AllByRecursion (λ e. P e.1) es → P v
    → AllByRecursion (λ e. P e.1) (insert_entry eq es k v)
all_inserted eq P [] k v all one = (one, tt)
all_inserted eq P (e ∷ es) k v all one = by (eq k e.0) refl (all_inserted eq P es k v all.1 one)
  where
    by : (b : Bool) → eq k e.0 ≡ b → AllByRecursion (λ x. P x.1) (insert_entry eq es k v) → AllByRecursion (λ x. P x.1) (insert_entry eq (e ∷ es) k v)
    by true h rest = rw h (one, all.1)
    by false h rest = rw h (all.0, rest)

-- ---- more cursors

less_more : (c n m : ℕ) → n ≤ m → nat_lt c n ≡ true → nat_lt c m ≡ true
less_more c n m le h = lt-ltb c m (omega (arith, ltb-true c n h))

target_more : (bases : List BaseTable) (n m : ℕ) (t : ChangeTarget) → n ≤ m → FitsTarget bases n t → FitsTarget bases m t
target_more bases n m (target.Searched t) le fits = fits
target_more bases n m (target.Positioned p) le fits = (fits.0, less_more p.cursor n m le fits.1)

statement_more : (bases : List BaseTable) (n m k : ℕ) (s : BoundStatement) → n ≤ m → FitsStatement bases n k s → FitsStatement bases m k s
statement_more bases n m k (statement.Open c) le fits = omega arith
statement_more bases n m k (statement.Fetch f) le fits = (omega arith, fits.1)
statement_more bases n m k (statement.Close c) le fits = omega arith
statement_more bases n m k (statement.Select s) le fits = fits
statement_more bases n m k (statement.Insert i) le fits = fits
statement_more bases n m k (statement.Update u) le fits = (target_more bases n m u.target le fits.0, fits.1, fits.2)
statement_more bases n m k (statement.Delete t) le fits = target_more bases n m t le fits
statement_more bases n m k statement.Commit le fits = tt
statement_more bases n m k statement.Rollback le fits = tt

procedure_more : (bases : List BaseTable) (n m : ℕ) (p : BoundProcedure) → n ≤ m → FitsProcedure bases n p → FitsProcedure bases m p
procedure_more bases n m p le fits = by p.statement fits
  where
    by : (r : Result BoundStatement Fault) → IfOk r (FitsStatement bases n (length p.parameters)) → IfOk r (FitsStatement bases m (length p.parameters))
    by (Ok s) h = statement_more bases n m (length p.parameters) s le h
    by (Err e) h = tt

-- the columns of a cursor are known beside more cursors, too
kinds_known : (P : List Kind → Type 0) (cursors more : List (List Kind)) (i : ℕ) → Has P (well_formed (slice_get cursors i)) → Has P (well_formed (slice_get (cursors ++ more) i))
kinds_known P [] more i known = absurd known
kinds_known P (k ∷ ks) more zero known = known
kinds_known P (k ∷ ks) more (suc i) known = kinds_known P ks more i known

statement_stands : (columns : TableKinds) (cursors more : List (List Kind)) (parameters : List Kind) (s : BoundStatement) → IsStatement columns cursors parameters s
    → IsStatement columns (cursors ++ more) parameters s
statement_stands columns cursors more parameters (statement.Open c) stands = tt
statement_stands columns cursors more parameters (statement.Fetch f) stands = (stands.0, kinds_known (TakeKinds parameters f.outputs) cursors more f.cursor stands.1)
statement_stands columns cursors more parameters (statement.Close c) stands = tt
statement_stands columns cursors more parameters (statement.Select s) stands = stands
statement_stands columns cursors more parameters (statement.Insert i) stands = stands
statement_stands columns cursors more parameters (statement.Update u) stands = stands
statement_stands columns cursors more parameters (statement.Delete t) stands = stands
statement_stands columns cursors more parameters statement.Commit stands = tt
statement_stands columns cursors more parameters statement.Rollback stands = tt

procedure_stands : (columns : TableKinds) (cursors more : List (List Kind)) (p : BoundProcedure) → ProcedureIsWellFormed columns cursors p → ProcedureIsWellFormed columns (cursors ++ more) p
procedure_stands columns cursors more p stands = by p.statement stands
  where
    ps : List Kind
    ps = kinds_of_parameters p.parameters

    by : (r : Result BoundStatement Fault) → IfOk r (IsStatement columns cursors ps) → IfOk r (IsStatement columns (cursors ++ more) ps)
    by (Ok s) h = statement_stands columns cursors more ps s h
    by (Err e) h = tt

-- ---- a program

-- with a cursor more
pub cursor_added : (bases : List BaseTable) (cursors more : List DeclaredCursor) (procedures : List (ProcedureName × BoundProcedure)) (c : DeclaredCursor)
    → more ≡ cursors ++ c ∷ [] → CursorsFit bases cursors → ProceduresFit bases (length cursors) procedures → FitsCursor bases c.cursor
    → CursorsFit bases more × ProceduresFit bases (length more) procedures
cursor_added bases cursors more procedures c is fit all one =
    let le : length cursors ≤ length more = omega (arith, ap length is, length-append cursors (c ∷ [])) in (
      rw is (all_last (λ c. FitsCursor bases c.cursor) cursors c fit one),
      all_weaker (λ e. FitsProcedure bases (length cursors) e.1) (λ e. FitsProcedure bases (length more) e.1) (λ e h. procedure_more bases (length cursors) (length more) e.1 le h)
          procedures all,
    )

kinds_added : (cursors more : List DeclaredCursor) (c : DeclaredCursor) → more ≡ cursors ++ c ∷ [] → kinds_of_cursors more ≡ kinds_of_cursors cursors ++ kinds_of_cursors (c ∷ [])
kinds_added cursors more c is = ap kinds_of_cursors is ∙ map-append (λ c. kinds_of_results c.cursor.columns) cursors (c ∷ [])

pub cursor_stands : (columns : TableKinds) (parameters : List Kind) (cursors more : List DeclaredCursor) (procedures : List (ProcedureName × BoundProcedure)) (c : DeclaredCursor)
    → more ≡ cursors ++ c ∷ [] → CursorsAreWellFormed columns cursors → ProceduresAreWellFormed columns (kinds_of_cursors cursors) procedures → ProceduresOpen columns cursors procedures
    → IsCursor columns parameters c.cursor → CursorsAreWellFormed columns more × ProceduresAreWellFormed columns (kinds_of_cursors more) procedures × ProceduresOpen columns more procedures
cursor_stands columns parameters cursors more procedures c is stand all opens one =
    let before : List (List Kind) = kinds_of_cursors cursors in
    let last : List (List Kind) = kinds_of_cursors (c ∷ []) in (
      rw is (all_last (λ c. (ps : List Kind) × IsCursor columns ps c.cursor) cursors c stand (parameters, one)),
      subst (λ ks. ProceduresAreWellFormed columns ks procedures) (sym (kinds_added cursors more c is)) (all_weaker (λ e. ProcedureIsWellFormed columns before e.1)
          (λ e. ProcedureIsWellFormed columns (before ++ last) e.1) (λ e h. procedure_stands columns before last e.1 h) procedures all),
      subst (λ cs. ProceduresOpen columns cs procedures) (sym is) (procedures_open_more columns cursors (c ∷ []) procedures opens),
    )

-- with a procedure more, or another of that name
pub procedure_added : (P : BoundProcedure → Type 0) (procedures more : List (ProcedureName × BoundProcedure)) (name : ProcedureName) (p : BoundProcedure)
    → more ≡ insert_entry same_procedure procedures name p → AllByRecursion (λ e. P e.1) procedures → P p → AllByRecursion (λ e. P e.1) more
procedure_added P procedures more name p is all one = rw is (all_inserted same_procedure P procedures name p all one)

-- a cursor that has no fault, and what holds of it
pub is_bound : (bound : Result BoundCursor Stop) (part : Option BoundCursor) (c : BoundCursor) → IsPart bound part → part ≡ Some c → bound ≡ Ok c
is_bound bound part c of some = rw some at of

pub none_part : (bound : Result BoundCursor Stop) (part : Option BoundCursor) → IsPart bound part → part ≡ None → (f : Fault) × (bound ≡ Err (stop.Fault f))
none_part bound part of none = subst (IsPart bound) none of

pub of_bound : (P : BoundCursor → Type 0) (bound : Result BoundCursor Stop) (part : Option BoundCursor) (c : BoundCursor) → IsPart bound part → part ≡ Some c → IfOk bound P → P c
of_bound P bound part c of some one = rw (is_bound bound part c of some) at one

-- ---- a program without cursors and procedures

pub begun : (c : Catalog) (p : Program) → p.cursors.items ≡ [] → p.procedures.entries ≡ [] → IsInOrder c p
begun c p no_cursors no_procedures =
    let columns = column_kinds c in
    let cursors = p.cursors.items in
    record {
      fits = (subst (CursorsFit c.bases) (sym no_cursors) tt, subst (ProceduresFit c.bases (length cursors)) (sym no_procedures) tt);
      well_formed = (
        subst (CursorsAreWellFormed columns) (sym no_cursors) tt,
        subst (ProceduresAreWellFormed columns (kinds_of_cursors cursors)) (sym no_procedures) tt,
        subst (ProceduresOpen columns cursors) (sym no_procedures) tt,
      );
      apart = subst (AreApart []) (sym no_cursors) tt;
    }
