-- A query expression that is bound as the definitions compute it is well formed. Its subqueries have numbers of their own, and its columns
-- have the names of the text (ISO/IEC 9075:1992, 7.10).
use Rattle.std.proofs.Common.{◌≡◌, ℕ, Bool, true, false, ◌&&◌, List, [], ◌∷◌, ◌++◌, length, map, Option, Ok, Err, refl, sym, ap, subst, arith, ◌∙◌, eq-eqb}
use Rattle.std.proofs.lemmas.Simd.{map-map}
use Rattle.std.specs.Cmp.Lexicographic.{pointwise}
use Rattle.std.specs.List.{AllByRecursion, zip}
use Rattle.std.specs.Prelude.{◌==◌, flat_map, fold, if◌then◌else◌}
use Rattle.std.specs.Result.{result_ok}
use Rattle.sq_lex.specs.declared.name.Name.{Name}
use Rattle.sq_value.specs.declared.domain.Kind.{Kind}
use Rattle.sq_value.specs.declared.domain.Kind.TheVariants.{Num, Chars, Vary}
use Rattle.sq_meaning.proofs.AnswerLaws.{all_appended, all_weaker}
use Rattle.sq_meaning.specs.Environment.{TableName}
use Rattle.sq_meaning.specs.Kind.{common_kind, common_kinds}
use Rattle.sq_meaning.specs.SortKeys.{common_name}
use Rattle.sq_meaning.specs.Spelled.{Named}
use Rattle.sq_meaning.specs.Status as status
use Rattle.sq_meaning.specs.Syntax.{Query, Select, specification, union}
use Rattle.sq_meaning.specs.Privilege.{Privilege}
use Rattle.sq_meaning.specs.declared.fault.BindingFault.{BindingFault}
use Rattle.sq_meaning.specs.declared.fault.BindingFault.TheVariants as fault
use Rattle.sq_bound.proofs.JoinedLaws.{joined_kinds-out, specifications_of-out, term_kinds-Bracketed, term_kinds-Specification, term_specifications-Bracketed, term_specifications-Specification, union_kinds-out, union_specifications-out}
use Rattle.sq_bound.proofs.Nested.{select_more}
use Rattle.sq_bound.proofs.Numbered.{both_numbered, none_numbered, part_numbered}
use Rattle.sq_bound.specs.Joined.{Kinds, are_bounded, brought_kinds, kept_kinds, joined_kinds, specifications_of, term_kinds, term_specifications, union_kinds, union_specifications}
use Rattle.sq_bound.specs.Known.{KnownTables}
use Rattle.sq_bound.specs.Names.{same_kind}
use Rattle.sq_bound.specs.Numbered.{AreNumbered, EachWith, IsNumbered, SelectWith}
use Rattle.sq_bound.specs.NumberedQuery.{QueryWith}
use Rattle.sq_bound.specs.WellFormed.{IsQuery, IsSelect, TableKinds, kinds_of_parameters, kinds_of_query, kinds_of_results}
use Rattle.sq_bound.specs.declared.condition.BoundSpecification.{BoundSpecification, out-BoundSpecification}
use Rattle.sq_bound.specs.declared.condition.ResultColumn.{ResultColumn as BoundColumn}
use Rattle.sq_bound.specs.declared.names.BaseTable.{BaseTable}
use Rattle.sq_bound.specs.declared.names.ParameterDesc.{ParameterDesc}
use Rattle.sq_bound.specs.declared.query.BoundQuery.{BoundQuery, out-BoundQuery}
use Rattle.sq_bound.specs.declared.query.BoundTerm.{BoundTerm}
use Rattle.sq_bound.specs.declared.query.BoundTerm.TheVariants as bound
use Rattle.sq_bound.specs.declared.query.BoundUnion.{BoundUnion}
use Rattle.sq_binding.specs.Condition.{select_bound}
use Rattle.sq_binding.specs.Found as found
use Rattle.sq_binding.specs.Found.{Counts, Found, ◌>>=◌, ◌>>◌, after, each, must, outcome, pure}
use Rattle.sq_binding.specs.NumberedCondition.{NumberedSelect, ResultColumn}
use Rattle.sq_binding.specs.Outcome.{Outcome, or_fault}
use Rattle.sq_binding.specs.QueryExpression.{NumberedQuery, columns_of_query, common_column, common_columns, query_bound}
use Rattle.sq_binding.specs.QueryFindings as query_findings
use Rattle.sq_binding.specs.Seen.{column_of, select_seen}
use Rattle.sq_binding.specs.Select.{Surroundings}
use Rattle.sq_binding.proofs.Inductions.AnyDepth.{AreCounted, SelectHas, select_numbers}
use Rattle.sq_binding.proofs.Standing.BoundLaws.{select_is_so}
use Rattle.sq_binding.proofs.Faultless.CleanConds.{After, after_of}
use Rattle.sq_binding.proofs.Notes.ColumnNames.{names_are}
use Rattle.sq_binding.proofs.Standing.Levels.{NamesKnow}
use Rattle.sq_binding.proofs.Standing.SeenLevels.{columns_seen}
use Rattle.sq_binding.proofs.Standing.SeenNumbers.{select_is_numbered}
use Rattle.sq_binding.proofs.Notes.SubqueryNumbers.{select_counted}
use Rattle.sq_binding.proofs.Notes.TestsNoted.{IsNotedSelect, IsNotedTest, select_notes}
use Rattle.sq_binding.proofs.FaultsFound.UnionFaults.{lengths_equal}
use Rattle.sq_binding.specs.Names.{NamesMean}
use Rattle.sq_binding.specs.SeenQuery.{HaveTheirColumns, TermHasColumns, UnionHasColumns, query_seen, term_seen, union_seen}
use Rattle.sq_binding.specs.Written.{common_names, query_names_placed}
use Rattle.sq_binding.proofs.WellFormed.Named as named
use Rattle.sq_binding.proofs.WellFormed.Named.{names_know}
use Rattle.sq_binding.proofs.WellFormed.NewValues.{passed}
use Rattle.sq_binding.proofs.WellFormed.Over as over_spec
use Rattle.sq_binding.proofs.WellFormed.Rows.{outcome_is, part_of, pure_part}
use Rattle.sq_binding.proofs.Standing.SeenQueries.{QueryCases, bracketed_has, query_all, query_itself, query_parts, query_seen-out, term_seen-Bracketed, term_seen-Specification, union_has, union_seen-out}

abbrev pub kinds_in : List ResultColumn → List Kind
kinds_in columns = map (λ (c : ResultColumn). c.kind) columns

abbrev pub names_in : List ResultColumn → List (Option Name)
names_in columns = map (λ (c : ResultColumn). c.name) columns

pub kinds_of_seen : (columns : List BoundColumn) → kinds_in (map column_of columns) ≡ kinds_of_results columns
kinds_of_seen columns = map-map (λ (c : ResultColumn). c.kind) column_of columns

-- ---- the columns of UNION

common_of : (f : BindingFault) (o : status.Outcome Kind) (k : Kind) → or_fault f (result_ok o) ≡ Ok k → o ≡ Ok k
common_of f (Ok l) k e = let same : l ≡ k = cc in ap Ok same
common_of f (Err s) k e = cc

pub record AreCommon (counts : Counts) (left right : List ResultColumn) (x : Found (List ResultColumn)) : Type 0 where
  pub kinds : common_kinds (kinds_in left) (kinds_in right) ≡ Ok (kinds_in x.part)
  pub names : common_names (names_in left) (names_in right) ≡ names_in x.part
  pub count : x.subqueries ≡ counts.subqueries

subqueries_of : {A B : Type 0} {b : found.Binding A} {f : A → found.Binding B} {counts : Counts} {z : Found B} (s : After b f counts z) → z.subqueries ≡ s.second.subqueries
subqueries_of {A} {B} s = sym (ap (λ (z : Found B). z.subqueries) s.is_joined)

pure_count : {A : Type 0} (x : A) (counts : Counts) (z : Found A) → pure x counts ≡ Ok z → z.subqueries ≡ counts.subqueries
pure_count {A} x counts z e =
    let only : Found A = record { part = x; calls = []; calls_can_fail = false; findings = query_findings.nothing; subqueries = counts.subqueries } in
    let same : only ≡ z = cc in sym (ap (λ (z : Found A). z.subqueries) same)

outcome_count : {A : Type 0} (o : Outcome A) (counts : Counts) (z : Found A) → outcome o counts ≡ Ok z → z.subqueries ≡ counts.subqueries
outcome_count (Ok x) counts z e = pure_count x counts z e
outcome_count (Err f) counts z e = cc

must_count : (test : Bool) (f : BindingFault) (counts : Counts) (z : Found (Unit {0})) → must test f counts ≡ Ok z → z.subqueries ≡ counts.subqueries
must_count true f counts z e = pure_count tt counts z e
must_count false f counts z e = cc

each_common : (left right : List ResultColumn) (counts : Counts) (x : Found (List ResultColumn)) → length left ≡ length right → each common_column (zip left right) counts ≡ Ok x → AreCommon counts left right x
each_common [] [] counts x e is =
    let none : x.part ≡ [] = pure_part [] counts x is in
    record { kinds = ap (λ cs. Ok (kinds_in cs)) (sym none); names = ap names_in (sym none); count = pure_count [] counts x is }
each_common [] (d ∷ right) counts x e is = cc
each_common (c ∷ left) [] counts x e is = cc
each_common (c ∷ left) (d ∷ right) counts x e is =
    let s = after_of (common_column (c, d)) (λ y. each common_column (zip left right) >>= λ ys. pure (y ∷ ys)) counts x is in
    let t = after_of (each common_column (zip left right)) (λ ys. pure (s.first.part ∷ ys)) (after counts s.first) s.second s.is_second in
    let common : Outcome Kind = or_fault fault.KindMismatch (result_ok (common_kind c.kind d.kind)) in
    let k = after_of (outcome common) (λ kind. pure (record { name = common_name c.name d.name; kind = kind })) counts s.first s.is_first in
    let column : ResultColumn = record { name = common_name c.name d.name; kind = k.first.part } in
    let first : s.first.part ≡ column = part_of k ∙ pure_part column (after counts k.first) k.second k.is_second in
    let kind : common_kind c.kind d.kind ≡ Ok k.first.part = common_of fault.KindMismatch (common_kind c.kind d.kind) k.first.part (outcome_is common counts k.first k.is_first).0 in
    let shorter : length left ≡ length right = omega (arith, e) in
    let rest = each_common left right (after counts s.first) t.first shorter t.is_first in
    let part : x.part ≡ column ∷ t.first.part = part_of s ∙ part_of t ∙ pure_part (s.first.part ∷ t.first.part) (after (after counts s.first) t.first) t.second t.is_second ∙ ap (λ y. y ∷ t.first.part) first in
    record {
      kinds =
          ap (λ (o : status.Outcome Kind). status.and_then o (λ first. status.and_then (common_kinds (kinds_in left) (kinds_in right)) (λ rest. Ok (first ∷ rest)))) kind
          ∙ ap (λ (o : status.Outcome (List Kind)). status.and_then o (λ rest. Ok (k.first.part ∷ rest))) rest.kinds ∙ ap (λ cs. Ok (kinds_in cs)) (sym part);
      names = ap (λ ns. common_name c.name d.name ∷ ns) rest.names ∙ ap names_in (sym part);
      count =
          subqueries_of s ∙ subqueries_of t ∙ pure_count (s.first.part ∷ t.first.part) (after (after counts s.first) t.first) t.second t.is_second ∙ rest.count
          ∙ subqueries_of k ∙ pure_count column (after counts k.first) k.second k.is_second ∙ outcome_count common counts k.first k.is_first;
    }

common_are : (left right : List ResultColumn) (counts : Counts) (x : Found (List ResultColumn)) → common_columns left right counts ≡ Ok x → AreCommon counts left right x
common_are left right counts x is =
    let m = after_of (must (length left == length right) fault.CountMismatch) (λ u. each common_column (zip left right)) counts x is in
    let test = passed (length left == length right) fault.CountMismatch counts m.first m.is_first in
    let h = each_common left right (after counts m.first) m.second (lengths_equal (length left) (length right) test) m.is_second in
    record {
      kinds = h.kinds ∙ ap (λ cs. Ok (kinds_in cs)) (sym (part_of m));
      names = h.names ∙ ap names_in (sym (part_of m));
      count = subqueries_of m ∙ h.count ∙ must_count (length left == length right) fault.CountMismatch counts m.first m.is_first;
    }

-- ---- what is bound, by its query specifications

module _ (a : Surroundings) where
  -- a query specification that is bound, with numbers of subqueries between these
  pub record IsSelectBound (s : NumberedSelect) (m n : ℕ) : Type 0 where
    pub text : Select Named
    pub counts : Counts
    pub found : Found NumberedSelect
    pub is_found : select_bound a text counts ≡ Ok found
    pub part : found.part ≡ s
    pub first : counts.subqueries ≡ m
    pub last : found.subqueries ≡ n

  abbrev pub Good : NumberedQuery → ℕ → ℕ → Type 0
  Good (NumberedQuery.select s) m n = IsSelectBound s m n
  Good (NumberedQuery.joined all l r columns) m n = (k : ℕ) × (Good l m k × (Good r k n × (common_kinds (kinds_in (columns_of_query l)) (kinds_in (columns_of_query r)) ≡ Ok (kinds_in columns))))

  -- a query expression that is bound
  pub record IsBound (text : Query Named) (q : NumberedQuery) (m n : ℕ) : Type 0 where
    pub good : Good q m n
    pub names : query_names_placed a.names text ≡ Ok (names_in (columns_of_query q))

  pub query_is_good : (text : Query Named) (counts : Counts) (x : Found NumberedQuery) → query_bound a text counts ≡ Ok x → IsBound text x.part counts.subqueries x.subqueries
  query_is_good (specification q) counts x is =
      let s = after_of (select_bound a q) (λ y. pure (NumberedQuery.select y)) counts x is in
      let part : x.part ≡ NumberedQuery.select s.first.part = part_of s ∙ pure_part (NumberedQuery.select s.first.part) (after counts s.first) s.second s.is_second in
      let last : s.first.subqueries ≡ x.subqueries = sym (subqueries_of s ∙ pure_count (NumberedQuery.select s.first.part) (after counts s.first) s.second s.is_second) in
      subst (λ (q' : NumberedQuery). IsBound (specification q) q' counts.subqueries x.subqueries) (sym part)
      (record { good = record { text = q; counts = counts; found = s.first; is_found = s.is_first; part = refl; first = refl; last = last }; names = names_are q a counts s.first s.is_first })
  query_is_good (union all left right) counts x is =
      let l = after_of (query_bound a left) (λ x. query_bound a right >>= λ y. common_columns (columns_of_query x) (columns_of_query y) >>= λ columns. pure (NumberedQuery.joined all x y columns)) counts x is in
      let r = after_of (query_bound a right) (λ y. common_columns (columns_of_query l.first.part) (columns_of_query y) >>= λ columns. pure (NumberedQuery.joined all l.first.part y columns)) (after counts l.first) l.second l.is_second in
      let c = after_of (common_columns (columns_of_query l.first.part) (columns_of_query r.first.part)) (λ columns. pure (NumberedQuery.joined all l.first.part r.first.part columns)) (after (after counts l.first) r.first) r.second r.is_second in
      let made : NumberedQuery = NumberedQuery.joined all l.first.part r.first.part c.first.part in
      let part : x.part ≡ made = part_of l ∙ part_of r ∙ part_of c ∙ pure_part made (after (after (after counts l.first) r.first) c.first) c.second c.is_second in
      let h = query_is_good left counts l.first l.is_first in
      let g = query_is_good right (after counts l.first) r.first r.is_first in
      let common = common_are (columns_of_query l.first.part) (columns_of_query r.first.part) (after (after counts l.first) r.first) c.first c.is_first in
      let last : r.first.subqueries ≡ x.subqueries =
      sym (subqueries_of l ∙ subqueries_of r ∙ subqueries_of c ∙ pure_count made (after (after (after counts l.first) r.first) c.first) c.second c.is_second ∙ common.count) in
      subst (λ (q : NumberedQuery). IsBound (union all left right) q counts.subqueries x.subqueries) (sym part)
      (record {
        good = (l.first.subqueries, (h.good, (subst (λ n. Good r.first.part l.first.subqueries n) last g.good, common.kinds)));
        names =
            ap (λ (o : status.Outcome (List (Option Name))). status.and_then o (λ ls. status.and_then (query_names_placed a.names right) (λ rs. Ok (common_names ls rs)))) h.names
            ∙ ap (λ (o : status.Outcome (List (Option Name))). status.and_then o (λ rs. Ok (common_names (names_in (columns_of_query l.first.part)) rs))) g.names
            ∙ ap Ok common.names;
      })

-- ---- kinds that are noted with the columns

same_itself : (k : Kind) → same_kind k k ≡ true
same_itself (Num s) = eq-eqb s s refl
same_itself (Chars n) = eq-eqb n n refl
same_itself (Vary n) = eq-eqb n n refl

all_same : (kinds : List Kind) → pointwise same_kind kinds kinds ≡ true
all_same [] = refl
all_same (k ∷ ks) = (λ i. same_itself k i && all_same ks i)

kept_same : (columns : List BoundColumn) → kept_kinds columns (kinds_of_results columns) ≡ Ok (kinds_of_results columns)
kept_same columns =
    let noted : Kinds = Ok (kinds_of_results columns) in
    ap (λ b. if b then noted else status.not_well_formed) (all_same (kinds_of_results columns))

bounded_all : (columns : List BoundColumn) → are_bounded (kinds_of_results columns) ≡ true
bounded_all [] = refl
bounded_all (c ∷ columns) = λ i. c.bounded i && bounded_all columns i

-- ---- a bound query expression

each_carries : (P Q : BoundSpecification → Type 0) → ((q : BoundSpecification) → P q → Q q) → (ss : List BoundSpecification) → EachWith SelectWith P ss → EachWith SelectWith Q ss
each_carries P Q more ss h = all_weaker (SelectWith P) (SelectWith Q) (select_more P Q more) ss h

joined_lists : (a b c : ℕ) (ss ts : List BoundSpecification) → AreNumbered (EachWith SelectWith) a b ss → AreNumbered (EachWith SelectWith) b c ts → AreNumbered (EachWith SelectWith) a c (ss ++ ts)
joined_lists a b c ss ts h k =
    let both = both_numbered (EachWith SelectWith) (EachWith SelectWith) each_carries each_carries a b c ss ts h k in
    (both.0, (both.1.0, all_appended (SelectWith (IsNumbered a c both.1.0)) ss ts both.1.1.0 both.1.1.1))

module _ (bases : List BaseTable) (kinds : TableKinds) (known : KnownTables) (mean : NamesMean bases kinds known) (user : Name) (selects grants : TableName → Bool) (holds : TableName → Privilege → Bool) (parameters : List ParameterDesc) where
  abbrev a : Surroundings
  a = over_spec.here known user selects grants holds parameters

  know : NamesKnow kinds a.names
  know = names_know bases kinds known mean selects grants

  abbrev Stands : BoundSpecification → Type 0
  Stands = IsSelect kinds (kinds_of_parameters parameters) []

  record IsOf (specifications : List BoundSpecification) (noted : Kinds) (columns : List ResultColumn) (m n : ℕ) : Type 0 where
    pub stand : AllByRecursion Stands specifications
    pub kinds_are : noted ≡ Ok (kinds_in columns)
    pub numbered : AreNumbered (EachWith SelectWith) m n specifications

  abbrev TermIs : BoundTerm → Type 0
  TermIs t = (m n : ℕ) → Good a (term_seen t) m n → TermHasColumns t → IsOf (term_specifications t) (term_kinds t) (columns_of_query (term_seen t)) m n

  abbrev QueryIs : BoundQuery → Type 0
  QueryIs q = (m n : ℕ) → Good a (query_seen q) m n → HaveTheirColumns q → IsOf (specifications_of q) (joined_kinds q) (columns_of_query (query_seen q)) m n

  select_is : (q : BoundSpecification) (m n : ℕ) → IsSelectBound a (select_seen q) m n → Stands q × AreNumbered SelectWith m n q
  select_is q m n h =
      let notes = subst (SelectHas IsNotedTest IsNotedSelect) h.part (select_notes h.text a h.counts h.found h.is_found tt) in
      let counted = subst (λ s. AreCounted h.counts.subqueries h.found.subqueries (select_numbers s)) h.part (select_counted h.text a h.counts h.found h.is_found).counted in (
        subst (λ ks. IsSelect kinds ks [] q) (named.kinds_of_declared parameters) (select_is_so kinds a h.counts h.text h.found h.is_found q (sym h.part) know tt [] tt),
        subst (λ k. AreNumbered SelectWith k n q) h.first (subst (λ k. AreNumbered SelectWith h.counts.subqueries k q) h.last (select_is_numbered q h.counts.subqueries h.found.subqueries counted notes)),
      )

  of_specification : (s : BoundSpecification) → TermIs (bound.Specification s)
  of_specification s m n good has =
      let h = select_is s m n (subst (λ (q : NumberedQuery). Good a q m n) (term_seen-Specification s) good) in
      let shown : kinds_in (columns_of_query (term_seen (bound.Specification s))) ≡ kinds_of_results (out-BoundSpecification s).columns
      = ap (λ (q : NumberedQuery). kinds_in (columns_of_query q)) (term_seen-Specification s) ∙ ap kinds_in (columns_seen s) ∙ kinds_of_seen (out-BoundSpecification s).columns in
      record {
        stand = subst (AllByRecursion Stands) (sym (term_specifications-Specification s)) (h.0, tt);
        kinds_are = term_kinds-Specification s ∙ ap (λ (ks : List Kind). Ok ks) (sym shown);
        numbered = subst (AreNumbered (EachWith SelectWith) m n) (sym (term_specifications-Specification s)) (part_numbered SelectWith (EachWith SelectWith) s (s ∷ []) (λ P one. (one, tt)) m n h.1);
      }

  of_bracketed : (q : BoundQuery) → QueryIs q → TermIs (bound.Bracketed q)
  of_bracketed q is m n good has =
      let h = is m n (subst (λ (q : NumberedQuery). Good a q m n) (term_seen-Bracketed q) good) (bracketed_has q has) in
      record {
        stand = subst (AllByRecursion Stands) (sym (term_specifications-Bracketed q)) h.stand;
        kinds_are = term_kinds-Bracketed q ∙ h.kinds_are ∙ ap (λ (q : NumberedQuery). Ok (kinds_in (columns_of_query q))) (sym (term_seen-Bracketed q));
        numbered = subst (AreNumbered (EachWith SelectWith) m n) (sym (term_specifications-Bracketed q)) h.numbered;
      }

  abbrev seen_from : NumberedQuery → List BoundUnion → NumberedQuery
  seen_from left rest = fold (λ (l : NumberedQuery) (u : BoundUnion). union_seen u l) left rest

  abbrev kinds_from : Kinds → List BoundUnion → Kinds
  kinds_from left rest = fold (λ (l : Kinds) (u : BoundUnion). union_kinds u l) left rest

  -- the terms behind the first
  record AreBehind (left : NumberedQuery) (rest : List BoundUnion) (m n : ℕ) : Type 0 where
    pub next : ℕ
    pub good : Good a left m next
    pub stand : AllByRecursion Stands (flat_map union_specifications rest)
    pub kinds_are : kinds_from (Ok (kinds_in (columns_of_query left))) rest ≡ Ok (kinds_in (columns_of_query (seen_from left rest)))
    pub numbered : AreNumbered (EachWith SelectWith) next n (flat_map union_specifications rest)

  -- the kinds of a UNION
  of_sides : (u : BoundUnion) (left right : List Kind) → term_kinds u.term ≡ Ok right → common_kinds left right ≡ Ok (kinds_in (map column_of u.columns)) → union_kinds u (Ok left) ≡ Ok (kinds_in (map column_of u.columns))
  of_sides u left right terms common =
      union_kinds-out u (Ok left) ∙ ap (λ (ks : Kinds). status.and_then ks (λ rs. status.and_then (common_kinds left rs) (brought_kinds u.columns))) terms
      ∙ ap (λ (ks : Kinds). status.and_then ks (brought_kinds u.columns)) (common ∙ ap (λ (ks : List Kind). Ok ks) (kinds_of_seen u.columns))
      ∙ ap (λ b. if b then kept_kinds u.columns (kinds_of_results u.columns) else status.not_well_formed) (bounded_all u.columns) ∙ kept_same u.columns ∙ ap (λ (ks : List Kind). Ok ks) (sym (kinds_of_seen u.columns))

  behind : (rest : List BoundUnion) → AllByRecursion (λ (u : BoundUnion). TermIs u.term) rest → AllByRecursion UnionHasColumns rest → (left : NumberedQuery) (m n : ℕ) → Good a (seen_from left rest) m n → AreBehind left rest m n
  behind [] is has left m n good = record { next = n; good = good; stand = tt; kinds_are = refl; numbered = none_numbered (EachWith SelectWith) [] (λ P. tt) n }
  behind (u ∷ rest) is has left m n good =
      let h = behind rest is.1 has.1 (union_seen u left) m n good in
      let sides = subst (λ (q : NumberedQuery). Good a q m h.next) (union_seen-out u left) h.good in
      let term = is.0 sides.0 h.next sides.1.1.0 (union_has u has.0) in
      let columns : columns_of_query (union_seen u left) ≡ map column_of u.columns = ap columns_of_query (union_seen-out u left) in
      let own : union_kinds u (Ok (kinds_in (columns_of_query left))) ≡ Ok (kinds_in (columns_of_query (union_seen u left)))
      = of_sides u (kinds_in (columns_of_query left)) (kinds_in (columns_of_query (term_seen u.term))) term.kinds_are sides.1.1.1 ∙ ap (λ (cs : List ResultColumn). Ok (kinds_in cs)) (sym columns) in
      record {
        next = sides.0;
        good = sides.1.0;
        stand = all_appended Stands (union_specifications u) (flat_map union_specifications rest) (subst (AllByRecursion Stands) (sym (union_specifications-out u)) term.stand) h.stand;
        kinds_are = ap (λ (ks : Kinds). kinds_from ks rest) own ∙ h.kinds_are;
        numbered =
            joined_lists sides.0 h.next n (union_specifications u) (flat_map union_specifications rest)
            (subst (AreNumbered (EachWith SelectWith) sides.0 h.next) (sym (union_specifications-out u)) term.numbered) h.numbered;
      }

  of_query : (q : BoundQuery) → TermIs (out-BoundQuery q).first → AllByRecursion (λ (u : BoundUnion). TermIs u.term) (out-BoundQuery q).rest → QueryIs q
  of_query q first rest m n good has =
      let o = out-BoundQuery q in
      let parts = query_parts q has in
      let h = behind o.rest rest parts.1 (term_seen o.first) m n (subst (λ (q : NumberedQuery). Good a q m n) (query_seen-out q) good) in
      let t = first m h.next h.good parts.0 in
      let columns : kinds_in (columns_of_query (seen_from (term_seen o.first) o.rest)) ≡ kinds_of_results o.columns
      = ap (λ (q : NumberedQuery). kinds_in (columns_of_query q)) (sym (query_seen-out q)) ∙ ap kinds_in (sym (query_itself q has)) ∙ kinds_of_seen o.columns in
      let joined : kinds_from (term_kinds o.first) o.rest ≡ Ok (kinds_of_results o.columns)
      = ap (λ (ks : Kinds). kinds_from ks o.rest) t.kinds_are ∙ h.kinds_are ∙ ap (λ (ks : List Kind). Ok ks) columns in
      let whole : specifications_of q ≡ term_specifications o.first ++ flat_map union_specifications o.rest = specifications_of-out q in
      record {
        stand = subst (AllByRecursion Stands) (sym whole) (all_appended Stands (term_specifications o.first) (flat_map union_specifications o.rest) t.stand h.stand);
        kinds_are =
            joined_kinds-out q ∙ ap (λ (ks : Kinds). status.and_then ks (kept_kinds o.columns)) joined ∙ kept_same o.columns
            ∙ ap (λ (ks : List Kind). Ok ks) (sym (ap (λ (q : NumberedQuery). kinds_in (columns_of_query q)) (query_seen-out q) ∙ columns));
        numbered = subst (AreNumbered (EachWith SelectWith) m n) (sym whole) (joined_lists m h.next n (term_specifications o.first) (flat_map union_specifications o.rest) t.numbered h.numbered);
      }

  cases : QueryCases TermIs QueryIs
  cases = record { of_specification = of_specification; of_bracketed = of_bracketed; of_query = of_query }

  -- the kinds of its columns
  pub kinds_of_columns : (q : BoundQuery) → HaveTheirColumns q → kinds_in (columns_of_query (query_seen q)) ≡ kinds_of_query q
  kinds_of_columns q has = ap kinds_in (sym (query_itself q has)) ∙ kinds_of_seen (out-BoundQuery q).columns

  -- a query expression that is seen as what is bound
  pub query_stands : (q : BoundQuery) (m n : ℕ) → Good a (query_seen q) m n → HaveTheirColumns q → IsQuery kinds (kinds_of_parameters parameters) q × AreNumbered QueryWith m n q
  query_stands q m n good has =
      let h = query_all TermIs QueryIs cases q m n good has in
      (record { specifications = h.stand; kinds_are = h.kinds_are ∙ ap (λ (ks : List Kind). Ok ks) (kinds_of_columns q has) }, h.numbered)
