-- The rows of the tables that a statement reads have values of the kinds of their columns.
use Rattle.std.proofs.Common.{◌≡◌, arith, ℕ, zero, suc, ◌<◌, nat_eq, nat_lt, Bool, true, false, List, [], ◌∷◌, length, map, find, cond, slice_get, Option, Some, None, IfOk, refl, sym, ap, subst, ◌∙◌, Ok, Err}
use Rattle.std.specs.Option.{option_map}
use Rattle.std.proofs.lemmas.Bool.{eqb-true, ltb-true}
use Rattle.sq_value.specs.Domain.{IsInDomain, IsOfKind, kind_of}
use Rattle.sq_value.specs.declared.domain.Domain.{Domain}
use Rattle.sq_value.specs.declared.domain.Domain.TheVariants.{Small, Int, Numeric, Char, VarChar}
use Rattle.sq_value.specs.declared.domain.Kind.{Kind}
use Rattle.sq_value.specs.declared.value.Value.{Value}
use Rattle.sq_value.specs.declared.value.Value.TheVariants.{Null, Num, Chars}
use Rattle.sq_store.specs.Content.{Content, table_at}
use Rattle.sq_store.specs.declared.table.Numbered.{Numbered}
use Rattle.sq_store.specs.declared.table.Table.{Table}
use Rattle.sq_meaning.specs.Environment.{Row}
use Rattle.sq_meaning.specs.Status.{Outcome, and_then, each, well_formed}
use Rattle.sq_meaning.specs.Tables.{rows_in}
use Rattle.sq_meaning.specs.WellFormed.{IsRowOf, AreRowsOf}
use Rattle.sq_bound.specs.Fits.{IsRowIn, AreRowsIn, AreInDomains}
use Rattle.sq_bound.specs.WellFormed.{TableKinds, base_kinds}
use Rattle.sq_bound.specs.declared.condition.TablePlace.TheVariants.{Base, View}
use Rattle.sq_bound.specs.declared.names.BaseColumn.{BaseColumn}
use Rattle.sq_bound.specs.declared.names.BaseTable.{BaseTable}
use Rattle.sq_expression.specs.Frame.{lent, view_outcome}
use Rattle.sq_query.specs.Table.{table_there, stored_base, base_seen, AreRowsAt, IsBaseOf, IsViewOf, AreBasesOf, AreViewsOf}
use Rattle.sq_expression.specs.declared.fault.Failure.{Failure}
use Rattle.sq_expression.specs.declared.table.BaseRows.{BaseRows}
use Rattle.sq_expression.specs.declared.table.ViewRows.{ViewRows}
use Rattle.sq_query.proofs.Needs.Bases.{stored_by}
use Rattle.sq_expression.proofs.Kept.{ok_same}

-- ---- rows in the domains of their columns

-- a value in a domain is of its kind
pub of_kind : (d : Domain) (v : Value) → IsInDomain d v → IsOfKind (kind_of d) v
of_kind d Null h = tt
of_kind Small (Num n) h = h.0
of_kind Int (Num n) h = h.0
of_kind (Numeric p s) (Num n) h = h.0
of_kind (Char l) (Num n) h = absurd h
of_kind (VarChar l) (Num n) h = absurd h
of_kind Small (Chars t) h = absurd h
of_kind Int (Chars t) h = absurd h
of_kind (Numeric p s) (Chars t) h = absurd h
of_kind (Char l) (Chars t) h = h
of_kind (VarChar l) (Chars t) h = h

row_of_kinds : (columns : List BaseColumn) (row : Row) → IsRowIn columns row → IsRowOf (map (λ c. kind_of c.domain) columns) row
row_of_kinds [] [] h = tt
row_of_kinds [] (v ∷ row) h = absurd h
row_of_kinds (c ∷ columns) [] h = absurd h
row_of_kinds (c ∷ columns) (v ∷ row) h = (of_kind c.domain v h.0, row_of_kinds columns row h.1)

rows_of_kinds : (columns : List BaseColumn) (rows : List Numbered) → AreRowsIn columns rows → AreRowsOf (map (λ c. kind_of c.domain) columns) (map (λ (r : Numbered). r.row) rows)
rows_of_kinds columns [] h = tt
rows_of_kinds columns (r ∷ rows) h = (row_of_kinds columns r.row h.0, rows_of_kinds columns rows h.1)

-- ---- base tables

heads_same : {A : Type 0} (x y : A) (xs ys : List A) → x ∷ xs ≡ y ∷ ys → x ≡ y
heads_same x y xs ys h = cc

tails_same : {A : Type 0} (x y : A) (xs ys : List A) → x ∷ xs ≡ y ∷ ys → xs ≡ ys
tails_same x y xs ys h = cc

-- the base tables have the kinds of their columns
abbrev pub KindsAreOf : TableKinds → List BaseTable → Type 0
KindsAreOf columns bases = (place : ℕ) (b : BaseTable) → slice_get bases place ≡ Some b → columns (Base place) ≡ Ok (base_kinds b)

-- a table of the store, the base table at its place
abbrev IsStored : List BaseTable → Content → ℕ → Type 0
IsStored bases content place = (b : BaseTable) × (slice_get bases place ≡ Some b) × AreRowsIn b.columns (table_at content place).rows

stored_at : (bases : List BaseTable) (content : Content) (place : ℕ) → AreInDomains bases content → place < length content → IsStored bases content place
stored_at [] [] place h lt = absurd (omega arith)
stored_at [] (t ∷ ts) place h lt = absurd h
stored_at (b ∷ bs) [] place h lt = absurd h
stored_at (b ∷ bs) (t ∷ ts) zero h lt = (b, refl, h.0)
stored_at (b ∷ bs) (t ∷ ts) (suc place) h lt = stored_at bs ts place h.1 (omega arith)

module _ (columns : TableKinds) (bases : List BaseTable) (content : Content) (kinds_of : KindsAreOf columns bases) (h : AreInDomains bases content) where
  rows_at : (place : ℕ) → IsStored bases content place → AreRowsAt columns (Base place) (rows_in (table_at content place))
  rows_at place s = λ kinds e.
      subst (λ (ks : List Kind). AreRowsOf ks (rows_in (table_at content place))) (ok_same (base_kinds s.0) kinds (sym (kinds_of place s.0 s.1) ∙ e))
      (rows_of_kinds s.0.columns (table_at content place).rows s.2)

  there_at : (place : ℕ) (t : Table) (within : Bool) → nat_lt place (length content) ≡ within → table_there content place ≡ Ok t → AreRowsAt columns (Base place) (rows_in t)
  there_at place t true lt e =
      let is : table_at content place ≡ t = ok_same (table_at content place) t (rw lt at e) in
      subst (λ (x : Table). AreRowsAt columns (Base place) (rows_in x)) is (rows_at place (stored_at bases content place h (ltb-true place (length content) lt)))
  there_at place t false lt e = let no = rw lt at e in absurd cc

  -- the rows of a table that is there
  pub stored_kinds : (place : ℕ) → place < length content → AreRowsAt columns (Base place) (rows_in (table_at content place))
  stored_kinds place within = rows_at place (stored_at bases content place h within)

  one_base : (q : ℕ) (t : Table) (b : BaseRows) → table_there content q ≡ Ok t → base_seen b ≡ (q, rows_in t) → IsBaseOf columns b
  one_base q t b is same =
      subst (λ (x : ℕ × List Row). AreRowsAt columns (Base x.0) x.1) (sym same) (there_at q t (nat_lt q (length content)) refl is)

  more_bases : (q : ℕ) (qs : List ℕ) → ((bs : List BaseRows) → each (stored_base content) qs ≡ Ok (map base_seen bs) → AreBasesOf columns bs)
      → (o : Outcome Table) → table_there content q ≡ o → (rest : Outcome (List (ℕ × List Row))) → each (stored_base content) qs ≡ rest
      → (read : List BaseRows) → and_then (stored_by q o) (λ y. and_then rest (λ ys. Ok (y ∷ ys))) ≡ Ok (map base_seen read) → AreBasesOf columns read
  more_bases q qs others (Err s) is rest later read e = absurd cc
  more_bases q qs others (Ok t) is (Err s) later read e = absurd cc
  more_bases q qs others (Ok t) is (Ok ys) later [] e = tt
  more_bases q qs others (Ok t) is (Ok ys) later (b ∷ bs) e =
      let same = ok_same ((q, rows_in t) ∷ ys) (base_seen b ∷ map base_seen bs) e in (
        one_base q t b is (sym (heads_same (q, rows_in t) (base_seen b) ys (map base_seen bs) same)),
        others bs (later ∙ ap Ok (tails_same (q, rows_in t) (base_seen b) ys (map base_seen bs) same)),
      )

  pub bases_of_kinds : (places : List ℕ) (read : List BaseRows) → each (stored_base content) places ≡ Ok (map base_seen read) → AreBasesOf columns read
  bases_of_kinds [] [] e = tt
  bases_of_kinds [] (b ∷ bs) e = absurd cc
  bases_of_kinds (q ∷ qs) read e = more_bases q qs (bases_of_kinds qs) (table_there content q) refl (each (stored_base content) qs) refl read e

-- ---- what is read from them

module _ (columns : TableKinds) where
  base_first : (p : ℕ) (kinds : List Kind) → columns (Base p) ≡ Ok kinds → (b : BaseRows) (bs : List BaseRows) → IsBaseOf columns b
      → IfOk (well_formed (option_map (λ (t : BaseRows). lent t.rows.items) (find (λ (t : BaseRows). nat_eq t.place p) bs))) (AreRowsOf kinds)
      → (here : Bool) → nat_eq b.place p ≡ here
      → IfOk (well_formed (option_map (λ (t : BaseRows). lent t.rows.items) (cond here (Some b) (find (λ (t : BaseRows). nat_eq t.place p) bs)))) (AreRowsOf kinds)
  base_first p kinds e b bs h later true is = h kinds (ap (λ n. columns (Base n)) (eqb-true b.place p is) ∙ e)
  base_first p kinds e b bs h later false is = later

  base_found : (p : ℕ) (kinds : List Kind) → columns (Base p) ≡ Ok kinds → (bases : List BaseRows) → AreBasesOf columns bases
      → IfOk (well_formed (option_map (λ (t : BaseRows). lent t.rows.items) (find (λ (t : BaseRows). nat_eq t.place p) bases))) (AreRowsOf kinds)
  base_found p kinds e [] h = tt
  base_found p kinds e (b ∷ bs) h = base_first p kinds e b bs h.0 (base_found p kinds e bs h.1) (nat_eq b.place p) refl

  outcome_of : (kinds : List Kind) (rows : List Row) (failure : Option Failure) → AreRowsOf kinds rows → IfOk (view_outcome rows failure) (AreRowsOf kinds)
  outcome_of kinds rows None h = h
  outcome_of kinds rows (Some f) h = tt

  view_first : (p : ℕ) (kinds : List Kind) → columns (View p) ≡ Ok kinds → (v : ViewRows) (vs : List ViewRows) → IsViewOf columns v
      → IfOk (and_then (well_formed (find (λ (t : ViewRows). nat_eq t.place p) vs)) (λ t. view_outcome t.rows.items t.failure)) (AreRowsOf kinds)
      → (here : Bool) → nat_eq v.place p ≡ here
      → IfOk (and_then (well_formed (cond here (Some v) (find (λ (t : ViewRows). nat_eq t.place p) vs))) (λ t. view_outcome t.rows.items t.failure)) (AreRowsOf kinds)
  view_first p kinds e v vs h later true is = outcome_of kinds v.rows.items v.failure (h kinds (ap (λ n. columns (View n)) (eqb-true v.place p is) ∙ e))
  view_first p kinds e v vs h later false is = later

  view_found : (p : ℕ) (kinds : List Kind) → columns (View p) ≡ Ok kinds → (views : List ViewRows) → AreViewsOf columns views
      → IfOk (and_then (well_formed (find (λ (t : ViewRows). nat_eq t.place p) views)) (λ t. view_outcome t.rows.items t.failure)) (AreRowsOf kinds)
  view_found p kinds e [] h = tt
  view_found p kinds e (v ∷ vs) h = view_first p kinds e v vs h.0 (view_found p kinds e vs h.1) (nat_eq v.place p) refl

-- ---- views
