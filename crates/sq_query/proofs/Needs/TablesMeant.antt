-- The base tables and views that a statement reads have rows of the kinds of their columns (ISO/IEC 9075:1992, 7.9 and 11.19).
use Rattle.std.proofs.Common.{◌≡◌, arith, ℕ, zero, suc, ◌<◌, nat_lt, Bool, true, false, List, [], ◌∷◌, length, Option, Some, None, refl, sym, ap, subst, ◌∙◌, Ok, Err, slice_get}
use Rattle.std.proofs.lemmas.Bool.{ltb-true}
use Rattle.std.proofs.lemmas.Bool.Decides.{nat_tests}
use Rattle.std.proofs.Math.Logic.{∥∥₁_elim}
use Rattle.std.specs.Coded.{×_prop, Unit-prop, le_prop, Coded-set, coded_ℕ}
use Rattle.std.specs.Prelude.{if◌then◌else◌}
use Rattle.sq_lex.specs.declared.name.Name.{Name}
use Rattle.sq_value.specs.Domain.{IsOfKind}
use Rattle.sq_value.specs.declared.domain.Kind.{Kind}
use Rattle.sq_value.specs.declared.domain.Kind.TheVariants as kind
use Rattle.sq_value.specs.declared.value.Value.{Value}
use Rattle.sq_value.specs.declared.value.Value.TheVariants.{Null, Num, Chars}
use Rattle.sq_store.specs.Content.{Content, table_at}
use Rattle.sq_meaning.specs.Status.{Outcome, and_then, well_formed, not_well_formed}
use Rattle.sq_meaning.specs.declared.status.Status.{Status}
use Rattle.sq_meaning.specs.declared.status.Status.TheVariants.{SyntaxErrorOrAccessRuleViolation}
use Rattle.sq_meaning.specs.Environment.{Row, Input, outermost}
use Rattle.sq_meaning.specs.Kind.{select_kinds}
use Rattle.sq_meaning.specs.Placed.{by_place}
use Rattle.sq_meaning.specs.Query.{rows}
use Rattle.sq_meaning.specs.Tables.{rows_in}
use Rattle.sq_meaning.specs.WellFormed.{Answers, AreInputsOf, AreRowsOf, Fits, Has, HasValue, IsDeclaredAt, IsNoSyntaxError, IsRowOf, kinds_by_place}
use Rattle.sq_meaning.proofs.AnswerLaws.{there, weaker}
use Rattle.sq_meaning.proofs.QueryKinds.{rows_of_kinds}
use Rattle.sq_meaning.proofs.ReadingKinds.{env_by_place, places_agree}
use Rattle.sq_bound.specs.Condition.{select_of}
use Rattle.sq_bound.specs.Fits.{AreInDomains}
use Rattle.sq_bound.specs.WellFormed.{BasesAreThere, IsSelect, IsViewQuery, TableKinds, before_view, kinds_of_select}
use Rattle.sq_bound.specs.declared.condition.BoundSpecification.{BoundSpecification}
use Rattle.sq_bound.specs.declared.condition.TablePlace.{TablePlace}
use Rattle.sq_bound.specs.declared.condition.TablePlace.TheVariants.{Base, View}
use Rattle.sq_bound.specs.declared.names.BaseTable.{BaseTable}
use Rattle.sq_expression.specs.Fault.{IsRight}
use Rattle.sq_query.specs.Table.{AreMeant, table_there}
use Rattle.sq_query.proofs.Needs.KindsOfTables.{KindsAreOf, stored_kinds}

-- ---- what has one proof at most

of_kind_prop : (k : Kind) (v : Value) → IsProp (IsOfKind k v)
of_kind_prop k Null = Unit-prop
of_kind_prop (kind.Num s) (Num n) = Coded-set coded_ℕ n.scale s
of_kind_prop (kind.Num s) (Chars t) = λ x y. absurd x
of_kind_prop (kind.Chars n) (Num x) = λ x y. absurd x
of_kind_prop (kind.Chars n) (Chars t) = Coded-set coded_ℕ (length t) n
of_kind_prop (kind.Vary n) (Num x) = λ x y. absurd x
of_kind_prop (kind.Vary n) (Chars t) = le_prop

row_prop : (kinds : List Kind) (row : Row) → IsProp (IsRowOf kinds row)
row_prop [] [] = Unit-prop
row_prop [] (v ∷ row) = λ x y. absurd x
row_prop (k ∷ kinds) [] = λ x y. absurd x
row_prop (k ∷ kinds) (v ∷ row) = ×_prop (of_kind_prop k v) (row_prop kinds row)

rows_prop : (kinds : List Kind) (found : List Row) → IsProp (AreRowsOf kinds found)
rows_prop kinds [] = Unit-prop
rows_prop kinds (row ∷ found) = ×_prop (row_prop kinds row) (rows_prop kinds found)

status_prop : (s : Status) → IsProp (IsNoSyntaxError s)
status_prop SyntaxErrorOrAccessRuleViolation = λ x y. absurd x
status_prop _ = Unit-prop

answers_prop : (kinds : List Kind) (o : Outcome (List Row)) → IsProp (Answers (AreRowsOf kinds) o)
answers_prop kinds (Ok found) = rows_prop kinds found
answers_prop kinds (Err s) = status_prop s

-- ---- what is answered is no 42000

status_same : (s t : Status) → (let failed : Outcome (List Row) = Err s in failed ≡ Err t) → s ≡ t
status_same s t e = cc

pub answers_right : (P : List Row → Type 0) (o : Outcome (List Row)) → Answers P o → IsRight o
answers_right P (Ok found) h = λ e. absurd cc
answers_right P (Err s) h = λ e. subst IsNoSyntaxError (status_same s SyntaxErrorOrAccessRuleViolation e) h

-- ---- queries outside every query

-- the rows of a well-formed query specification, over tables that have rows of their kinds
pub select_fits : (columns : TableKinds) (tables : TablePlace → Outcome (List Row)) → ((t : TablePlace) → Fits AreRowsOf (columns t) (tables t)) → (parameters : List Kind) (inputs : List Input) → AreInputsOf parameters inputs
    → (user : Name) (q : BoundSpecification) → IsSelect columns parameters [] q → Answers (AreRowsOf (kinds_of_select q)) (rows (by_place tables) (select_of q) (outermost inputs user))
select_fits columns tables fits parameters inputs given user q w =
    weaker (λ found. Has (λ ks. AreRowsOf ks found) (select_kinds (kinds_by_place columns parameters) [] (select_of q))) (AreRowsOf (kinds_of_select q)) (rows (by_place tables) (select_of q) (outermost inputs user))
    (λ found p. there (λ ks. AreRowsOf ks found) (select_kinds (kinds_by_place columns parameters) [] (select_of q)) (kinds_of_select q) w.kinds_are p)
    (rows_of_kinds (by_place tables) (kinds_by_place columns parameters) (IsDeclaredAt parameters) (places_agree tables columns parameters fits) (select_of q) [] (outermost inputs user) (w.stands tables)
    (env_by_place tables columns parameters [] [] inputs user tt given))

-- ---- base tables and views

as_many : (bases : List BaseTable) (content : Content) → AreInDomains bases content → length bases ≡ length content
as_many [] [] h = refl
as_many [] (t ∷ ts) h = absurd h
as_many (b ∷ bs) [] h = absurd h
as_many (b ∷ bs) (t ∷ ts) h = ap suc (as_many bs ts h.1)

module _ (bases : List BaseTable) (queries : List BoundSpecification) (columns : TableKinds) (content : Content) (user : Name) (tables : TablePlace → Outcome (List Row)) (kinds_of_bases : KindsAreOf columns bases)
    (are_there : BasesAreThere bases columns) (stored : AreInDomains bases content) (meant : AreMeant queries content user tables) where
  -- a base table whose columns are known is in the store
  pub known_stored : (n : ℕ) → HasValue (columns (Base n)) → n < length content
  known_stored n known = subst (λ count. n < count) (as_many bases content stored) (are_there n known)

  pub stored_there : (n : ℕ) → n < length content → table_there content n ≡ Ok (table_at content n)
  stored_there n within = let lt : nat_lt n (length content) ≡ true = grind (arith, nat_tests) in rw lt

  base_known : (n : ℕ) (o : Outcome (List Kind)) → columns (Base n) ≡ o → Fits AreRowsOf o (tables (Base n))
  base_known n (Err s) e = tt
  base_known n (Ok kinds) e =
      let within : n < length content = known_stored n (subst HasValue (sym e) tt) in
      subst (Answers (AreRowsOf kinds)) (sym (meant.bases n ∙ ap (λ o. and_then o (λ found. Ok (rows_in found))) (stored_there n within))) (stored_kinds columns bases content kinds_of_bases stored n within kinds e)

  -- over a view's query are the base tables, and the views before it
  before_fits : (n : ℕ) → ((m : ℕ) → m < n → Fits AreRowsOf (columns (View m)) (tables (View m))) → (t : TablePlace) → Fits AreRowsOf (before_view n columns t) (tables t)
  before_fits n earlier (Base m) = base_known m (columns (Base m)) refl
  before_fits n earlier (View m) = if_before (nat_lt m n) refl
    where
      if_before : (b : Bool) → nat_lt m n ≡ b → Fits AreRowsOf (if b then columns (View m) else not_well_formed) (tables (View m))
      if_before true e = earlier m (ltb-true m n e)
      if_before false e = tt

  of_query : (n : ℕ) (kinds : List Kind) → ((t : TablePlace) → Fits AreRowsOf (before_view n columns t) (tables t)) → (found : Option BoundSpecification) → Has (λ q. IsSelect (before_view n columns) [] [] q × (kinds ≡ kinds_of_select q)) (well_formed found)
      → Answers (AreRowsOf kinds) (and_then (well_formed found) (λ q. rows (by_place tables) (select_of q) (outermost [] user)))
  of_query n kinds fits None h = absurd h
  of_query n kinds fits (Some q) h =
      subst (λ ks. Answers (AreRowsOf ks) (rows (by_place tables) (select_of q) (outermost [] user))) (sym h.1) (select_fits (before_view n columns) tables fits [] [] tt user q h.0)

  module _ (kinds_of_views : (place : ℕ) (kinds : List Kind) → columns (View place) ≡ Ok kinds → IsViewQuery columns queries place kinds) where
    view_known : (n : ℕ) → ((t : TablePlace) → Fits AreRowsOf (before_view n columns t) (tables t)) → (o : Outcome (List Kind)) → columns (View n) ≡ o → Fits AreRowsOf o (tables (View n))
    view_known n fits (Err s) e = tt
    view_known n fits (Ok kinds) e =
        ∥∥₁_elim (kinds_of_views n kinds e) (answers_prop kinds (tables (View n))) (λ h. subst (Answers (AreRowsOf kinds)) (sym (meant.views n)) (of_query n kinds fits (slice_get queries n) h))

    view_fits : (bound n : ℕ) → n < bound → Fits AreRowsOf (columns (View n)) (tables (View n))
    view_fits zero n lt = absurd (omega arith)
    view_fits (suc bound) n lt = view_known n (before_fits n (λ m earlier. view_fits bound m (omega arith))) (columns (View n)) refl

    pub tables_fit : (t : TablePlace) → Fits AreRowsOf (columns t) (tables t)
    tables_fit (Base n) = base_known n (columns (Base n)) refl
    tables_fit (View n) = view_fits (suc n) n (omega arith)

    -- where the columns of a table are known, reading it does not end with 42000
    pub known_right : (t : TablePlace) → HasValue (columns t) → IsRight (tables t)
    known_right t known = of_known (columns t) refl
      where
        of_known : (o : Outcome (List Kind)) → columns t ≡ o → IsRight (tables t)
        of_known (Ok kinds) e = answers_right (AreRowsOf kinds) (tables t) (subst (λ o. Fits AreRowsOf o (tables t)) e (tables_fit t))
        of_known (Err s) e = absurd (subst HasValue e known)
