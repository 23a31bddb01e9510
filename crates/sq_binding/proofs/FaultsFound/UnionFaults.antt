-- The fault that is answered of a query expression is one that the rules find there, and its columns are those that the rules know
-- (ISO/IEC 9075:1992, 7.10).
use Rattle.std.proofs.Common.{◌≡◌, ℕ, suc, Bool, true, false, List, [], ◌∷◌, ◌++◌, length, map, Ok, Err, arith, refl, sym, ap, subst, ◌∙◌}
use Rattle.std.proofs.lemmas.Bool.Decides.{nat_tests}
use Rattle.std.specs.List.{AllZip, flat_map, zip}
use Rattle.std.specs.Prelude.{⊤, ◌==◌}
use Rattle.std.specs.Result.{result_ok}
use Rattle.std.proofs.lemmas.Bool.{not_from_false}
use Rattle.sq_value.specs.declared.domain.Kind.{Kind}
use Rattle.sq_value.specs.declared.domain.Kind.TheVariants.{Chars, Num, Vary}
use Rattle.sq_meaning.specs.Kind.{common_kind, common_kinds}
use Rattle.sq_meaning.specs.SortKeys.{common_name}
use Rattle.sq_meaning.specs.Spelled.{Named}
use Rattle.sq_meaning.specs.Status as status
use Rattle.sq_meaning.specs.Syntax.{Query, specification, union}
use Rattle.sq_meaning.specs.Binding.{Judged, breaks, kind_mismatch}
use Rattle.sq_meaning.specs.Site.{Site, alike_pairs, query_count, query_kinds_of, query_sites}
use Rattle.sq_meaning.specs.declared.fault.BindingFault.TheVariants as fault
use Rattle.sq_binding.specs.Condition.{select_bound}
use Rattle.sq_binding.specs.Found.{◌>>=◌, each, must, outcome, pure}
use Rattle.sq_binding.specs.From.{NamedTables}
use Rattle.sq_binding.specs.NumberedCondition.{ResultColumn}
use Rattle.sq_binding.specs.Outcome.{Outcome, or_fault}
use Rattle.sq_binding.specs.QueryExpression.{NumberedQuery, columns_of_query, common_column, common_columns, query_bound}
use Rattle.sq_binding.specs.Select.{Surroundings}
use Rattle.sq_binding.proofs.FaultsFound.CondFaults.{SelectSpellsNoNull, select_faults}
use Rattle.sq_binding.proofs.FaultsFound.FromFaults.{NamesFit, every}
use Rattle.sq_binding.proofs.FaultsFound.Judged.{Judges, each_judges, more_judges, must_judges, outcome_judges, pure_judges, then_judges, wider_judges}
use Rattle.sq_binding.proofs.FaultsFound.PredicateFaults.{IsShown, surrounded}
use Rattle.sq_binding.proofs.FaultsFound.Sites.{fault_here, fault_left, fault_right}

-- no literal is the null value (5.3)
abbrev pub QuerySpellsNoNull : Query Named → Type 0
QuerySpellsNoNull (specification q) = SelectSpellsNoNull q
QuerySpellsNoNull (union all left right) = QuerySpellsNoNull left × QuerySpellsNoNull right

-- ---- columns that are brought to a common kind

abbrev pub alike : ResultColumn × ResultColumn → Site
alike p = Site.alike_wanted (Ok p.0.kind) (Ok p.1.kind)

abbrev pub kinds_of : List ResultColumn → List Kind
kinds_of columns = map (λ c. c.kind) columns

abbrev pub CommonOrNot : (k l : Kind) → Outcome Kind → Type 0
CommonOrNot k l (Ok m) = (common_kind k l ≡ Ok m) × (kind_mismatch (Site.alike_wanted (Ok k) (Ok l)) ≡ false)
CommonOrNot k l (Err f) = (f ≡ fault.KindMismatch) × (kind_mismatch (Site.alike_wanted (Ok k) (Ok l)) ≡ true)

pub common_or_not : (k l : Kind) → CommonOrNot k l (or_fault fault.KindMismatch (result_ok (common_kind k l)))
common_or_not (Num s) (Num t) = (refl, refl)
common_or_not (Num s) (Chars n) = (refl, refl)
common_or_not (Num s) (Vary n) = (refl, refl)
common_or_not (Chars m) (Num t) = (refl, refl)
common_or_not (Chars m) (Chars n) = (refl, refl)
common_or_not (Chars m) (Vary n) = (refl, refl)
common_or_not (Vary m) (Num t) = (refl, refl)
common_or_not (Vary m) (Chars n) = (refl, refl)
common_or_not (Vary m) (Vary n) = (refl, refl)

-- a column has the common kind of the columns of both sides
abbrev pub IsCommon : ResultColumn × ResultColumn → ResultColumn → Type 0
IsCommon p c = common_kind p.0.kind p.1.kind ≡ Ok c.kind

pub pairs_are : (left right : List ResultColumn) → flat_map (λ p. alike p ∷ []) (zip left right) ≡ alike_pairs (Ok (kinds_of left)) (Ok (kinds_of right))
pairs_are [] right = refl
pairs_are (c ∷ left) [] = refl
pairs_are (c ∷ left) (d ∷ right) = ap (λ sites. alike (c, d) ∷ sites) (pairs_are left right)

pub lengths_equal : (m n : ℕ) → (m == n) ≡ true → m ≡ n
lengths_equal m n e = grind (arith, nat_tests, e)

common_all : (left right columns : List ResultColumn) → length left ≡ length right → AllZip IsCommon (zip left right) columns → (common_kinds (kinds_of left) (kinds_of right) ≡ Ok (kinds_of columns)) × (length left ≡ length columns)
common_all [] [] [] e h = (refl, refl)
common_all [] [] (k ∷ columns) e h = absurd h
common_all [] (d ∷ right) columns e h = cc
common_all (c ∷ left) [] columns e h = cc
common_all (c ∷ left) (d ∷ right) [] e h = absurd h
common_all (c ∷ left) (d ∷ right) (k ∷ columns) e h =
    let shorter : length left ≡ length right = omega (arith, e) in
    let rest = common_all left right columns shorter h.1 in (
      ap (λ (o : status.Outcome Kind). status.and_then o (λ first. status.and_then (common_kinds (kinds_of left) (kinds_of right)) (λ rest. Ok (first ∷ rest)))) h.0
          ∙ ap (λ (o : status.Outcome (List Kind)). status.and_then o (λ rest. Ok (k.kind ∷ rest))) rest.0,
      ap suc rest.1,
    )

-- both sides have as many columns, of kinds that have a common one
pub record AreCommon (left right columns : List ResultColumn) : Type 0 where
  pub kinds : common_kinds (kinds_of left) (kinds_of right) ≡ Ok (kinds_of columns)
  pub count : length left ≡ length columns

module _ (j : Judged) (G C : Type 0) where
  common_judges : (p : ResultColumn × ResultColumn) → Judges j (alike p ∷ []) G C (IsCommon p) (common_column p)
  common_judges p =
      then_judges j (alike p ∷ []) G C (λ k. common_kind p.0.kind p.1.kind ≡ Ok k) (IsCommon p) (outcome common) (λ k. pure (column k))
      (outcome_judges j (alike p ∷ []) G C (λ k. common_kind p.0.kind p.1.kind ≡ Ok k) common (λ k is. (subst (CommonOrNot p.0.kind p.1.kind) is (common_or_not p.0.kind p.1.kind)).0)
      (λ f is.
      let told = subst (CommonOrNot p.0.kind p.1.kind) is (common_or_not p.0.kind p.1.kind) in
      fault_here j f (alike p) [] (subst (λ f. breaks j f (alike p) ≡ true) (sym told.0) told.1)))
      (λ k is. pure_judges j (alike p ∷ []) G C (IsCommon p) (column k) is)
    where
      common : Outcome Kind
      common = or_fault fault.KindMismatch (result_ok (common_kind p.0.kind p.1.kind))

      column : Kind → ResultColumn
      column k = record { name = common_name p.0.name p.1.name; kind = k }

  module _ (left right : List ResultColumn) where
    abbrev pub column_sites : List Site
    column_sites = Site.counts (length left) (length right) ∷ flat_map (λ p. alike p ∷ []) (zip left right)

    pub columns_judge : Judges j column_sites G C (AreCommon left right) (common_columns left right)
    columns_judge =
        then_judges j column_sites G C (λ u. (length left == length right) ≡ true) (AreCommon left right) (must (length left == length right) fault.CountMismatch) (λ _. each common_column (zip left right))
        (must_judges j column_sites G C (length left == length right) fault.CountMismatch
        (λ differ. fault_here j fault.CountMismatch (Site.counts (length left) (length right)) (flat_map (λ p. alike p ∷ []) (zip left right)) (not_from_false (length left == length right) differ)))
        (λ u same. more_judges j pairs column_sites (λ f h. fault_right j f (Site.counts (length left) (length right) ∷ []) pairs h) G G C C (AllZip IsCommon (zip left right)) (AreCommon left right) (each common_column (zip left right)) (λ g. g) (λ c. c)
        (λ columns h. let all = common_all left right columns (lengths_equal (length left) (length right) same) h in record { kinds = all.0; count = all.1 })
        (each_judges j G C (λ p. ⊤) (λ p. alike p ∷ []) IsCommon common_column (λ p w. common_judges p) (zip left right) (every (zip left right))))
      where
        pairs : List Site
        pairs = flat_map (λ p. alike p ∷ []) (zip left right)

-- ---- query expressions

-- the rules know the columns
pub record IsQuery (j : Judged) (q : Query Named) (n : NumberedQuery) : Type 0 where
  pub kinds : query_kinds_of j.known q ≡ Ok (kinds_of (columns_of_query n))
  pub count : query_count j.known.tables q ≡ length (columns_of_query n)

module _ (names : NamedTables) (j : Judged) (fit : NamesFit names j) where
  abbrev nowhere : Surroundings
  nowhere = surrounded names j [] false

  abbrev pub QueryHasFaults : Query Named → Type 0
  QueryHasFaults q = Judges j (query_sites j.known q) ⊥ (false ≡ true) (IsQuery j q) (query_bound nowhere q)

  -- the sites of the columns are those that the rules ask
  pub sites_are : (left right : Query Named) (x y : NumberedQuery) → IsQuery j left x → IsQuery j right y
      → column_sites j ⊥ (false ≡ true) (columns_of_query x) (columns_of_query y)
      ≡ Site.counts (query_count j.known.tables left) (query_count j.known.tables right) ∷ alike_pairs (query_kinds_of j.known left) (query_kinds_of j.known right)
  sites_are left right x y h g =
      (λ i. Site.counts (length (columns_of_query x)) (length (columns_of_query y)) ∷ pairs_are (columns_of_query x) (columns_of_query y) i)
      ∙ (λ i. Site.counts (sym h.count i) (sym g.count i) ∷ alike_pairs (sym h.kinds i) (sym g.kinds i))

  joined_kinds : (all : Bool) (left right : Query Named) (x y : NumberedQuery) (columns : List ResultColumn) → IsQuery j left x → IsQuery j right y → AreCommon (columns_of_query x) (columns_of_query y) columns
      → IsQuery j (union all left right) (NumberedQuery.joined all x y columns)
  joined_kinds all left right x y columns h g common = record {
    kinds =
        ap (λ (o : status.Outcome (List Kind)). status.and_then o (λ ls. status.and_then (query_kinds_of j.known right) (common_kinds ls))) h.kinds
        ∙ ap (λ (o : status.Outcome (List Kind)). status.and_then o (common_kinds (kinds_of (columns_of_query x)))) g.kinds ∙ common.kinds;
    count = h.count ∙ common.count;
  }

  pub query_faults : (q : Query Named) → QuerySpellsNoNull q → QueryHasFaults q
  query_faults (specification q) null =
      then_judges j (query_sites j.known (specification q)) ⊥ (false ≡ true) (IsShown names j [] [] tt (λ depth far. tt) false q) (IsQuery j (specification q)) (select_bound nowhere q) (λ x. pure (NumberedQuery.select x))
      (select_faults names j fit q null [] [] tt (λ depth. tt) false)
      (λ x h. pure_judges j (query_sites j.known (specification q)) ⊥ (false ≡ true) (IsQuery j (specification q)) (NumberedQuery.select x) (record { kinds = h.kinds; count = h.count }))
  query_faults (union all left right) null =
      then_judges j S ⊥ (false ≡ true) (IsQuery j left) (IsQuery j (union all left right)) (query_bound nowhere left)
      (λ x. query_bound nowhere right >>= λ y. common_columns (columns_of_query x) (columns_of_query y) >>= λ columns. pure (NumberedQuery.joined all x y columns))
      (wider_judges j (query_sites j.known left) S (λ f h. fault_left j f (asked ++ query_sites j.known left) (query_sites j.known right) (fault_right j f asked (query_sites j.known left) h)) ⊥ (false ≡ true) (IsQuery j left) (query_bound nowhere left)
      (query_faults left null.0))
      (λ x h. then_judges j S ⊥ (false ≡ true) (IsQuery j right) (IsQuery j (union all left right)) (query_bound nowhere right)
      (λ y. common_columns (columns_of_query x) (columns_of_query y) >>= λ columns. pure (NumberedQuery.joined all x y columns))
      (wider_judges j (query_sites j.known right) S (λ f h. fault_right j f (asked ++ query_sites j.known left) (query_sites j.known right) h) ⊥ (false ≡ true) (IsQuery j right) (query_bound nowhere right) (query_faults right null.1))
      (λ y g. then_judges j S ⊥ (false ≡ true) (AreCommon (columns_of_query x) (columns_of_query y)) (IsQuery j (union all left right)) (common_columns (columns_of_query x) (columns_of_query y))
      (λ columns. pure (NumberedQuery.joined all x y columns))
      (wider_judges j asked S (λ f h. fault_left j f (asked ++ query_sites j.known left) (query_sites j.known right) (fault_left j f asked (query_sites j.known left) h)) ⊥ (false ≡ true) (AreCommon (columns_of_query x) (columns_of_query y))
      (common_columns (columns_of_query x) (columns_of_query y))
      (subst (λ sites. Judges j sites ⊥ (false ≡ true) (AreCommon (columns_of_query x) (columns_of_query y)) (common_columns (columns_of_query x) (columns_of_query y))) (sites_are left right x y h g)
      (columns_judge j ⊥ (false ≡ true) (columns_of_query x) (columns_of_query y))))
      (λ columns common. pure_judges j S ⊥ (false ≡ true) (IsQuery j (union all left right)) (NumberedQuery.joined all x y columns) (joined_kinds all left right x y columns h g common))))
    where
      asked : List Site
      asked = Site.counts (query_count j.known.tables left) (query_count j.known.tables right) ∷ alike_pairs (query_kinds_of j.known left) (query_kinds_of j.known right)

      S : List Site
      S = (asked ++ query_sites j.known left) ++ query_sites j.known right
