-- A search condition at whose sites no rule is broken is well formed, and so is a query specification: each by the other,
-- for conditions have subqueries (ISO/IEC 9075:1992, 7.3 to 7.9, 7.11 and clause 8).
use Rattle.std.proofs.Common.{ap, arith, subst, sym, ◌∙◌}
use Rattle.std.proofs.lemmas.Bool.{eqb-true}
use Rattle.std.proofs.lemmas.List.{length-append, length-map}
use Rattle.std.proofs.lemmas.List.Sums.{sum_by-cons}
use Rattle.std.specs.List.{AllByRecursion, sum}
use Rattle.std.specs.Prelude.{◌≡◌, ℕ, suc, ◌+◌, ⊤, Bool, true, false, not, ◌||◌, IsTrue, if◌then◌else◌, List, [], ◌∷◌, ◌++◌, map, length, is_ok, ◌==◌, flat_map, Option, unwrap_or, option_map, Some, None, refl, Ok, Err}
use Rattle.std.specs.Result.{result_ok}
use Rattle.sq_value.specs.declared.domain.Kind.{Kind}
use Rattle.sq_value.specs.declared.domain.Kind.TheVariants.{Chars, Num, Vary}
use Rattle.sq_tree.specs.declared.names.ColumnReference.{ColumnReference}
use Rattle.sq_meaning.specs.Database.{IsDeclaredIn}
use Rattle.sq_meaning.specs.Environment.{Row, TableName, TableReference}
use Rattle.sq_meaning.specs.Kind.{kind, list_kinds, select_kinds}
use Rattle.sq_meaning.specs.Query.{is_grouped, is_some_of}
use Rattle.sq_meaning.specs.Spelled.{Named}
use Rattle.sq_meaning.specs.Status.{Outcome, and_then, each}
use Rattle.sq_meaning.specs.Syntax.{Clause, Cond, Conds, Expr, Select, SelectList}
use Rattle.sq_meaning.specs.Syntax.{a_cond, absent, all_columns, between, column, compare, compare_quantified, compare_subquery, conjunction, disjunction, exists, expressions, in_list, in_subquery, is_null, like, negated, no_cond, present, select}
use Rattle.sq_meaning.specs.Tables.{ColumnDescriptor, TableDescriptor, column_kinds, descriptor_of, kinds_by_name, reading_by_name}
use Rattle.sq_meaning.specs.WellFormed.{Has, HasValue, IsBeside, IsOnlyKind, is_comparable, is_text}
use Rattle.sq_meaning.specs.WellFormed.{WellFormedClause, WellFormedColumn, WellFormedCond, WellFormedConds, WellFormedEscape, WellFormedExpr, WellFormedExprs, WellFormedList, WellFormedPair, WellFormedSelect, WellFormedTable, WellFormedText}
use Rattle.sq_run.proofs.Sites.ColumnSites.{AreKnown, IsKnown, around, froms_of, froms_same, has_line_of, item_with, lines_of}
use Rattle.sq_run.proofs.Sites.ExpressionSites.{MayCall, SpellsNoNull, expr_well_formed, kind_valued}
use Rattle.sq_run.proofs.Sites.SiteLaws.{AreSound, IsSound, all_of_flat_mapped, all_parts}
use Rattle.sq_meaning.specs.Binding.{kind_mismatch}
use Rattle.sq_meaning.specs.Site.{EnclosingQuery, Known, Site, beside_subquery, count_in, first_kind, kind_here, kinds_here, list_count, plain_query, select_count, shown_query}
use Rattle.sq_meaning.specs.Site.{compared_sites, clause_sites, cond_sites, conds_sites, escape_sites, expr_sites, list_sites, select_sites, text_sites}

-- ---- no literal is the null value

abbrev pub SpellNoNull : List (Expr Named) → Type 0
SpellNoNull es = AllByRecursion SpellsNoNull es

abbrev pub EscapeSpellsNoNull : Option (Expr Named) → Type 0
EscapeSpellsNoNull None = ⊤
EscapeSpellsNoNull (Some e) = SpellsNoNull e

abbrev pub ListSpellsNoNull : SelectList Named → Type 0
ListSpellsNoNull all_columns = ⊤
ListSpellsNoNull (expressions es) = SpellNoNull es

abbrev mutual
  pub CondSpellsNoNull : Cond Named → Type 0
  CondSpellsNoNull (compare op a b) = SpellsNoNull a × SpellsNoNull b
  CondSpellsNoNull (compare_subquery op a q) = SpellsNoNull a × SelectSpellsNoNull q
  CondSpellsNoNull (compare_quantified op quantifier a q) = SpellsNoNull a × SelectSpellsNoNull q
  CondSpellsNoNull (between a low high) = SpellsNoNull a × SpellsNoNull low × SpellsNoNull high
  CondSpellsNoNull (in_subquery a q) = SpellsNoNull a × SelectSpellsNoNull q
  CondSpellsNoNull (in_list a es) = SpellsNoNull a × SpellNoNull es
  CondSpellsNoNull (like text pattern escape) = SpellsNoNull text × SpellsNoNull pattern × EscapeSpellsNoNull escape
  CondSpellsNoNull (is_null a) = SpellsNoNull a
  CondSpellsNoNull (exists q) = SelectSpellsNoNull q
  CondSpellsNoNull (negated c) = CondSpellsNoNull c
  CondSpellsNoNull (conjunction cs) = CondsSpellNoNull cs
  CondSpellsNoNull (disjunction cs) = CondsSpellNoNull cs

  pub CondsSpellNoNull : Conds Named → Type 0
  CondsSpellNoNull no_cond = ⊤
  CondsSpellNoNull (a_cond c cs) = CondSpellsNoNull c × CondsSpellNoNull cs

  pub ClauseSpellsNoNull : Clause Named → Type 0
  ClauseSpellsNoNull absent = ⊤
  ClauseSpellsNoNull (present c) = CondSpellsNoNull c

  pub SelectSpellsNoNull : Select Named → Type 0
  SelectSpellsNoNull (select distinct list from filter by having) = ListSpellsNoNull list × ClauseSpellsNoNull filter × ClauseSpellsNoNull having

-- ---- kinds that go together

alike : (o r : Outcome Kind) → HasValue o → HasValue r → kind_mismatch (Site.alike_wanted o r) ≡ false → Has (λ x. Has (λ y. IsTrue (is_comparable x y)) r) o
alike (Ok (Num s)) (Ok (Num t)) h g e = refl
alike (Ok (Num s)) (Ok (Chars n)) h g e = cc
alike (Ok (Num s)) (Ok (Vary n)) h g e = cc
alike (Ok (Chars m)) (Ok (Num t)) h g e = cc
alike (Ok (Chars m)) (Ok (Chars n)) h g e = refl
alike (Ok (Chars m)) (Ok (Vary n)) h g e = refl
alike (Ok (Vary m)) (Ok (Num t)) h g e = cc
alike (Ok (Vary m)) (Ok (Chars n)) h g e = refl
alike (Ok (Vary m)) (Ok (Vary n)) h g e = refl
alike (Ok x) (Err status) h g e = absurd g
alike (Err status) r h g e = absurd h

a_text : (o : Outcome Kind) → HasValue o → kind_mismatch (Site.text_wanted o) ≡ false → Has (λ x. IsTrue (is_text x)) o
a_text (Ok (Num s)) h e = cc
a_text (Ok (Chars n)) h e = refl
a_text (Ok (Vary n)) h e = refl
a_text (Err status) h e = absurd h

-- There are as many kinds as columns.
abbrev pub HasCount : ℕ → Outcome (List Kind) → Type 0
HasCount count o = Has (λ kinds. length kinds ≡ count) o

pub same_count : (m n : ℕ) → not (m == n) ≡ false → m ≡ n
same_count m n e = told (m == n) e (eqb-true m n)
  where
    told : (b : Bool) → not b ≡ false → (b ≡ true → m ≡ n) → m ≡ n
    told true f h = h refl
    told false f h = cc

only_beside : (o : Outcome Kind) (r : Outcome (List Kind)) (count : ℕ) → HasValue o → HasCount count r → count ≡ 1 → kind_mismatch (Site.alike_wanted o (first_kind r)) ≡ false
    → Has (λ x. Has (IsOnlyKind x) r) o
only_beside (Ok x) (Ok []) count h g one e = absurd (none count g one)
  where
    none : (n : ℕ) → 0 ≡ n → n ≡ 1 → ⊥
    none n p q = omega arith
only_beside (Ok x) (Ok (l ∷ [])) count h g one e = alike (Ok x) (Ok l) tt tt e
only_beside (Ok x) (Ok (l ∷ next ∷ others)) count h g one e = absurd (more (length others) (g ∙ one))
  where
    more : (n : ℕ) → suc (suc n) ≡ 1 → ⊥
    more n two = omega arith
only_beside (Ok x) (Err status) count h g one e = absurd g
only_beside (Err status) r count h g one e = absurd h

-- ---- the kinds of a select list are as many as its columns

star_first : (o : Outcome TableDescriptor) (rest : Outcome (List (List Kind))) (n : ℕ) → HasValue o → HasCount n (and_then rest (λ tables. Ok (flat_map (λ (kinds : List Kind). kinds) tables)))
    → HasCount (unwrap_or (option_map (λ (d : TableDescriptor). length d.columns) (result_ok o)) 0 + n)
    (and_then (and_then (and_then o (λ d. Ok (column_kinds d))) (λ kinds. and_then rest (λ others. Ok (kinds ∷ others)))) (λ tables. Ok (flat_map (λ (kinds : List Kind). kinds) tables)))
star_first (Ok d) (Ok tables) n h g =
    length-append (column_kinds d) (flat_map (λ (kinds : List Kind). kinds) tables) ∙ (λ i. length-map d.columns (λ (c : ColumnDescriptor). c.kind) i + g i)
star_first (Ok d) (Err status) n h g = absurd g
star_first (Err status) rest n h g = absurd h

star_count : (k : Known) (from : List TableReference) → AllByRecursion (IsKnown k) from
    → HasCount (sum (map (count_in k.tables) from)) (and_then (each (kinds_by_name k.tables k.parameters).columns from) (λ tables. Ok (flat_map (λ (kinds : List Kind). kinds) tables)))
star_count k [] h = refl
star_count k (r ∷ from) h =
    subst (λ n. HasCount n (and_then (each (kinds_by_name k.tables k.parameters).columns (r ∷ from)) (λ tables. Ok (flat_map (λ (kinds : List Kind). kinds) tables))))
    (sym (sum_by-cons (λ n. n) (count_in k.tables r) (map (count_in k.tables) from)))
    (star_first (descriptor_of k.tables r.table) (each (kinds_by_name k.tables k.parameters).columns from) (sum (map (count_in k.tables) from)) h.0 (star_count k from h.1))

one_more : (o : Outcome Kind) (rest : Outcome (List Kind)) (n : ℕ) → HasValue o → HasCount n rest → HasCount (suc n) (and_then o (λ x. and_then rest (λ others. Ok (x ∷ others))))
one_more (Ok x) (Ok others) n h g = ap suc g
one_more (Ok x) (Err status) n h g = absurd g
one_more (Err status) rest n h g = absurd h

expressions_count : (k : Known) (queries : List EnclosingQuery) (allowed : Bool) → AreKnown k queries → (es : List (Expr Named)) → SpellNoNull es → AllByRecursion (λ e. AreSound k (expr_sites k (around queries allowed) e)) es
    → HasCount (length es) (each (kind (kinds_by_name k.tables k.parameters) (froms_of queries)) es)
expressions_count k queries allowed known [] n s = refl
expressions_count k queries allowed known (e ∷ es) n s =
    one_more (kind (kinds_by_name k.tables k.parameters) (froms_of queries) e) (each (kind (kinds_by_name k.tables k.parameters) (froms_of queries)) es) (length es)
    (kind_valued k (around queries allowed) e known n.0 s.0) (expressions_count k queries allowed known es n.1 s.1)

list_kinds_count : (k : Known) (queries : List EnclosingQuery) (query : EnclosingQuery) → AreKnown k (query ∷ queries) → (list : SelectList Named) (grouped : Bool) → ListSpellsNoNull list
    → AreSound k (list_sites k (around (query ∷ queries) true) list grouped)
    → HasCount (list_count k.tables query.from list) (list_kinds (kinds_by_name k.tables k.parameters) (froms_of queries) query.from list)
list_kinds_count k queries query known all_columns grouped n s = star_count k query.from known.0
list_kinds_count k queries query known (expressions es) grouped n s = expressions_count k (query ∷ queries) true known es n (all_of_flat_mapped (IsSound k) (expr_sites k (around (query ∷ queries) true)) es s)

-- ---- the sites of a query specification

tables_known : (k : Known) (from : List TableReference) → AreSound k (map Site.table_read from) → AllByRecursion (IsKnown k) from
tables_known k [] s = tt
tables_known k (r ∷ from) s = (there (descriptor_of k.tables r.table) s.0.tables, tables_known k from s.1)
  where
    there : (o : Outcome TableDescriptor) → not (is_ok o) ≡ false → HasValue o
    there (Ok d) e = tt
    there (Err status) e = cc

-- what a query specification's sites are, part by part
pub record Parts (k : Known) (queries : List EnclosingQuery) (list : SelectList Named) (from : List TableReference) (filter : Clause Named) (by : List ColumnReference) (having : Clause Named) : Type 0 where
  pub known : AllByRecursion (IsKnown k) from
  pub shown : AreSound k (list_sites k (around (shown_query from list by having ∷ queries) true) list (is_grouped list by having))
  pub tested : AreSound k (clause_sites k (around (plain_query from ∷ queries) false) filter)
  pub grouped : AreSound k (map (Site.column_read (around (plain_query from ∷ queries) false)) by)
  pub kept : AreSound k (clause_sites k (around (shown_query from list by having ∷ queries) true) having)

-- the sites of FROM and of the select list
abbrev listed_sites : Known → List EnclosingQuery → SelectList Named → List TableReference → List ColumnReference → Clause Named → List Site
listed_sites k queries list from by having =
    Site.from_whole from ∷ Site.column_count (list_count k.tables from list) ∷ list_sites k (around (shown_query from list by having ∷ queries) true) list (is_grouped list by having)

abbrev head_sites : Known → List EnclosingQuery → SelectList Named → List TableReference → List ColumnReference → Clause Named → List Site
head_sites k queries list from by having = map Site.table_read from ++ listed_sites k queries list from by having

pub parts_of : (k : Known) (queries : List EnclosingQuery) (allowed distinct : Bool) (list : SelectList Named) (from : List TableReference) (filter : Clause Named) (by : List ColumnReference) (having : Clause Named)
    → AreSound k (select_sites k (around queries allowed) (select distinct list from filter by having)) → Parts k queries list from filter by having
parts_of k queries allowed distinct list from filter by having s =
    let kept = all_parts (IsSound k) (head_sites k queries list from by having ++ clause_sites k (around (plain_query from ∷ queries) false) filter ++ map (Site.column_read (around (plain_query from ∷ queries) false)) by)
    (clause_sites k (around (shown_query from list by having ∷ queries) true) having) s in
    let grouped = all_parts (IsSound k) (head_sites k queries list from by having ++ clause_sites k (around (plain_query from ∷ queries) false) filter) (map (Site.column_read (around (plain_query from ∷ queries) false)) by) kept.0 in
    let tested = all_parts (IsSound k) (head_sites k queries list from by having) (clause_sites k (around (plain_query from ∷ queries) false) filter) grouped.0 in
    let tables = all_parts (IsSound k) (map Site.table_read from) (listed_sites k queries list from by having) tested.0 in
    record { known = tables_known k from tables.0; shown = tables.1.1.1; tested = tested.1; grouped = grouped.1; kept = kept.1 }

-- a query specification has as many kinds as columns are counted
pub select_count_there : (k : Known) (queries : List EnclosingQuery) (allowed : Bool) → AreKnown k queries → (q : Select Named) → SelectSpellsNoNull q → AreSound k (select_sites k (around queries allowed) q)
    → HasCount (select_count k.tables q) (select_kinds (kinds_by_name k.tables k.parameters) (froms_of queries) q)
select_count_there k queries allowed known (select distinct list from filter by having) n s =
    let parts = parts_of k queries allowed distinct list from filter by having s in
    list_kinds_count k queries (shown_query from list by having) (parts.known, known) list (is_grouped list by having) n.0 parts.shown

-- A query specification has a line as evaluation sees it exactly where the rules say so.
line_same : (grouped : Bool) (by : List ColumnReference) → has_line_of (if grouped then Some by else None) ≡ (not grouped || is_some_of by)
line_same true [] = refl
line_same true (c ∷ cs) = refl
line_same false by = refl

item_there : (k : Known) (r : TableReference) (o : Outcome TableDescriptor) → HasValue o → HasValue (and_then o (λ d. Ok (column_kinds d))) × HasValue (and_then o (λ d. Ok (item_with r d)))
item_there k r (Ok d) h = (tt, tt)
item_there k r (Err status) h = absurd h

module _ (k : Known) (rows_of : TableName → Outcome (List Row)) where
  pair_well_formed : (queries : List EnclosingQuery) (allowed : Bool) → AreKnown k queries → MayCall queries allowed → (e f : Expr Named) → SpellsNoNull e → SpellsNoNull f → AreSound k (compared_sites k (around queries allowed) e f)
      → WellFormedPair (reading_by_name k.tables rows_of) (kinds_by_name k.tables k.parameters) (IsDeclaredIn k.parameters) (lines_of queries) e f
  pair_well_formed queries allowed known call e f n o s =
      let parts = all_parts (IsSound k) (expr_sites k (around queries allowed) e) (expr_sites k (around queries allowed) f) s.1 in (
        expr_well_formed k rows_of queries allowed known call e n parts.0,
        expr_well_formed k rows_of queries allowed known call f o parts.1,
        subst (λ scopes. Has (λ x. Has (λ y. IsTrue (is_comparable x y)) (kind (kinds_by_name k.tables k.parameters) scopes f)) (kind (kinds_by_name k.tables k.parameters) scopes e)) (sym (froms_same queries))
            (alike (kind_here k (around queries allowed) e) (kind_here k (around queries allowed) f) (kind_valued k (around queries allowed) e known n parts.0) (kind_valued k (around queries allowed) f known o parts.1) s.0.kinds),
      )

  text_well_formed : (queries : List EnclosingQuery) (allowed : Bool) → AreKnown k queries → MayCall queries allowed → (e : Expr Named) → SpellsNoNull e → AreSound k (text_sites k (around queries allowed) e)
      → WellFormedText (reading_by_name k.tables rows_of) (kinds_by_name k.tables k.parameters) (IsDeclaredIn k.parameters) (lines_of queries) e
  text_well_formed queries allowed known call e n s = (
    expr_well_formed k rows_of queries allowed known call e n s.1,
    subst (λ scopes. Has (λ x. IsTrue (is_text x)) (kind (kinds_by_name k.tables k.parameters) scopes e)) (sym (froms_same queries))
        (a_text (kind_here k (around queries allowed) e) (kind_valued k (around queries allowed) e known n s.1) s.0.kinds),
  )

  escape_well_formed : (queries : List EnclosingQuery) (allowed : Bool) → AreKnown k queries → MayCall queries allowed → (e : Option (Expr Named)) → EscapeSpellsNoNull e → AreSound k (escape_sites k (around queries allowed) e)
      → WellFormedEscape (reading_by_name k.tables rows_of) (kinds_by_name k.tables k.parameters) (IsDeclaredIn k.parameters) (lines_of queries) e
  escape_well_formed queries allowed known call None n s = tt
  escape_well_formed queries allowed known call (Some e) n s = text_well_formed queries allowed known call e n s

  pairs_well_formed : (queries : List EnclosingQuery) (allowed : Bool) → AreKnown k queries → MayCall queries allowed → (e : Expr Named) → SpellsNoNull e → (fs : List (Expr Named)) → SpellNoNull fs
      → AllByRecursion (λ f. AreSound k (compared_sites k (around queries allowed) e f)) fs
      → AllByRecursion (WellFormedPair (reading_by_name k.tables rows_of) (kinds_by_name k.tables k.parameters) (IsDeclaredIn k.parameters) (lines_of queries) e) fs
  pairs_well_formed queries allowed known call e n [] o s = tt
  pairs_well_formed queries allowed known call e n (f ∷ fs) o s = (pair_well_formed queries allowed known call e f n o.0 s.0, pairs_well_formed queries allowed known call e n fs o.1 s.1)

  exprs_well_formed : (queries : List EnclosingQuery) (allowed : Bool) → AreKnown k queries → MayCall queries allowed → (es : List (Expr Named)) → SpellNoNull es
      → AllByRecursion (λ e. AreSound k (expr_sites k (around queries allowed) e)) es
      → WellFormedExprs (reading_by_name k.tables rows_of) (kinds_by_name k.tables k.parameters) (IsDeclaredIn k.parameters) (lines_of queries) es
  exprs_well_formed queries allowed known call [] n s = tt
  exprs_well_formed queries allowed known call (e ∷ es) n s = (expr_well_formed k rows_of queries allowed known call e n.0 s.0, exprs_well_formed queries allowed known call es n.1 s.1)

  -- a value beside a subquery of one column
  record Beside (queries : List EnclosingQuery) (e : Expr Named) (q : Select Named) : Type 0 where
    pub value : WellFormedExpr (reading_by_name k.tables rows_of) (kinds_by_name k.tables k.parameters) (IsDeclaredIn k.parameters) (lines_of queries) e
    pub compares : IsBeside (reading_by_name k.tables rows_of) (kinds_by_name k.tables k.parameters) (IsDeclaredIn k.parameters) (lines_of queries) e q

  beside_well_formed : (queries : List EnclosingQuery) (allowed : Bool) → AreKnown k queries → MayCall queries allowed → (e : Expr Named) (q : Select Named) → SpellsNoNull e → SelectSpellsNoNull q
      → AreSound k (beside_subquery k (around queries allowed) e q) → AreSound k (select_sites k (around queries allowed) q) → Beside queries e q
  beside_well_formed queries allowed known call e q n o s t = record {
    value = expr_well_formed k rows_of queries allowed known call e n s.1.1.1;
    compares = subst (λ scopes. Has (λ x. Has (IsOnlyKind x) (select_kinds (kinds_by_name k.tables k.parameters) scopes q)) (kind (kinds_by_name k.tables k.parameters) scopes e)) (sym (froms_same queries))
        (only_beside (kind_here k (around queries allowed) e) (kinds_here k (around queries allowed) q) (select_count k.tables q) (kind_valued k (around queries allowed) e known n s.1.1.1)
        (select_count_there k queries allowed known q o t) (same_count (select_count k.tables q) 1 s.1.0.counts) s.0.kinds);
  }

  -- ---- the parts of a query specification

  from_well_formed : (from : List TableReference) → AllByRecursion (IsKnown k) from → AllByRecursion (WellFormedTable (reading_by_name k.tables rows_of) (kinds_by_name k.tables k.parameters) (IsDeclaredIn k.parameters)) from
  from_well_formed [] h = tt
  from_well_formed (r ∷ from) h = (item_there k r (descriptor_of k.tables r.table) h.0, from_well_formed from h.1)

  by_well_formed : (queries : List EnclosingQuery) (allowed : Bool) → AreKnown k queries → MayCall queries allowed → (by : List ColumnReference) → AreSound k (map (Site.column_read (around queries allowed)) by)
      → AllByRecursion (WellFormedColumn (reading_by_name k.tables rows_of) (kinds_by_name k.tables k.parameters) (IsDeclaredIn k.parameters) (lines_of queries)) by
  by_well_formed queries allowed known call [] s = tt
  by_well_formed queries allowed known call (c ∷ by) s = (expr_well_formed k rows_of queries allowed known call (column c) tt (s.0, tt), by_well_formed queries allowed known call by s.1)

  list_well_formed : (queries : List EnclosingQuery) → AreKnown k queries → MayCall queries true → (list : SelectList Named) (grouped : Bool) → ListSpellsNoNull list → AreSound k (list_sites k (around queries true) list grouped)
      → WellFormedList (reading_by_name k.tables rows_of) (kinds_by_name k.tables k.parameters) (IsDeclaredIn k.parameters) (lines_of queries) grouped list
  list_well_formed queries known call all_columns true n s = s.0.counts
  list_well_formed queries known call all_columns false n s = refl
  list_well_formed queries known call (expressions es) grouped n s = exprs_well_formed queries true known call es n (all_of_flat_mapped (IsSound k) (expr_sites k (around queries true)) es s)

  mutual
    -- a search condition at whose sites no rule is broken is well formed
    pub cond_well_formed : (c : Cond Named) (queries : List EnclosingQuery) (allowed : Bool) → AreKnown k queries → MayCall queries allowed → CondSpellsNoNull c → AreSound k (cond_sites k (around queries allowed) c)
        → WellFormedCond (reading_by_name k.tables rows_of) (kinds_by_name k.tables k.parameters) (IsDeclaredIn k.parameters) (lines_of queries) c
    cond_well_formed (compare op e f) queries allowed known call n s = pair_well_formed queries allowed known call e f n.0 n.1 s
    cond_well_formed (compare_subquery op e q) queries allowed known call n s =
        let parts = all_parts (IsSound k) (beside_subquery k (around queries allowed) e q) (select_sites k (around queries allowed) q) s in
        let both = beside_well_formed queries allowed known call e q n.0 n.1 parts.0 parts.1 in
        (both.value, both.compares, select_well_formed q queries allowed known n.1 parts.1)
    cond_well_formed (compare_quantified op quantifier e q) queries allowed known call n s =
        let parts = all_parts (IsSound k) (beside_subquery k (around queries allowed) e q) (select_sites k (around queries allowed) q) s in
        let both = beside_well_formed queries allowed known call e q n.0 n.1 parts.0 parts.1 in
        (both.value, both.compares, select_well_formed q queries allowed known n.1 parts.1)
    cond_well_formed (between e low high) queries allowed known call n s =
        let parts = all_parts (IsSound k) (compared_sites k (around queries allowed) e low) (compared_sites k (around queries allowed) e high) s in
        (pair_well_formed queries allowed known call e low n.0 n.1 parts.0, pair_well_formed queries allowed known call e high n.0 n.2 parts.1)
    cond_well_formed (in_subquery e q) queries allowed known call n s =
        let parts = all_parts (IsSound k) (beside_subquery k (around queries allowed) e q) (select_sites k (around queries allowed) q) s in
        let both = beside_well_formed queries allowed known call e q n.0 n.1 parts.0 parts.1 in
        (both.value, both.compares, select_well_formed q queries allowed known n.1 parts.1)
    cond_well_formed (in_list e fs) queries allowed known call n s =
        let parts = all_parts (IsSound k) (expr_sites k (around queries allowed) e) (flat_map (compared_sites k (around queries allowed) e) fs) s in
        (expr_well_formed k rows_of queries allowed known call e n.0 parts.0, pairs_well_formed queries allowed known call e n.0 fs n.1 (all_of_flat_mapped (IsSound k) (compared_sites k (around queries allowed) e) fs parts.1))
    cond_well_formed (like text pattern escape) queries allowed known call n s =
        let parts = all_parts (IsSound k) (text_sites k (around queries allowed) text ++ text_sites k (around queries allowed) pattern) (escape_sites k (around queries allowed) escape) s in
        let texts = all_parts (IsSound k) (text_sites k (around queries allowed) text) (text_sites k (around queries allowed) pattern) parts.0 in
        (text_well_formed queries allowed known call text n.0 texts.0, text_well_formed queries allowed known call pattern n.1 texts.1, escape_well_formed queries allowed known call escape n.2 parts.1)
    cond_well_formed (is_null e) queries allowed known call n s = expr_well_formed k rows_of queries allowed known call e n s
    cond_well_formed (exists q) queries allowed known call n s = select_well_formed q queries allowed known n s.1
    cond_well_formed (negated c) queries allowed known call n s = cond_well_formed c queries allowed known call n s
    cond_well_formed (conjunction cs) queries allowed known call n s = conds_well_formed cs queries allowed known call n s
    cond_well_formed (disjunction cs) queries allowed known call n s = conds_well_formed cs queries allowed known call n s

    conds_well_formed : (cs : Conds Named) (queries : List EnclosingQuery) (allowed : Bool) → AreKnown k queries → MayCall queries allowed → CondsSpellNoNull cs → AreSound k (conds_sites k (around queries allowed) cs)
        → WellFormedConds (reading_by_name k.tables rows_of) (kinds_by_name k.tables k.parameters) (IsDeclaredIn k.parameters) (lines_of queries) cs
    conds_well_formed no_cond queries allowed known call n s = tt
    conds_well_formed (a_cond c cs) queries allowed known call n s =
        let parts = all_parts (IsSound k) (cond_sites k (around queries allowed) c) (conds_sites k (around queries allowed) cs) s in
        (cond_well_formed c queries allowed known call n.0 parts.0, conds_well_formed cs queries allowed known call n.1 parts.1)

    pub clause_well_formed : (c : Clause Named) (queries : List EnclosingQuery) (allowed : Bool) → AreKnown k queries → MayCall queries allowed → ClauseSpellsNoNull c → AreSound k (clause_sites k (around queries allowed) c)
        → WellFormedClause (reading_by_name k.tables rows_of) (kinds_by_name k.tables k.parameters) (IsDeclaredIn k.parameters) (lines_of queries) c
    clause_well_formed absent queries allowed known call n s = tt
    clause_well_formed (present c) queries allowed known call n s = cond_well_formed c queries allowed known call n s

    -- a query specification at whose sites no rule is broken is well formed
    pub select_well_formed : (q : Select Named) (queries : List EnclosingQuery) (allowed : Bool) → AreKnown k queries → SelectSpellsNoNull q → AreSound k (select_sites k (around queries allowed) q)
        → WellFormedSelect (reading_by_name k.tables rows_of) (kinds_by_name k.tables k.parameters) (IsDeclaredIn k.parameters) (lines_of queries) q
    select_well_formed (select distinct list from filter by having) queries allowed known n s =
        let parts = parts_of k queries allowed distinct list from filter by having s in (
          from_well_formed from parts.known,
          subst (λ line. WellFormedList (reading_by_name k.tables rows_of) (kinds_by_name k.tables k.parameters) (IsDeclaredIn k.parameters) (record { from = from; has_line = line } ∷ lines_of queries) (is_grouped list by having) list)
              (line_same (is_grouped list by having) by)
              (list_well_formed (shown_query from list by having ∷ queries) (parts.known, known) tt list (is_grouped list by having) n.0 parts.shown),
          clause_well_formed filter (plain_query from ∷ queries) false (parts.known, known) tt n.1 parts.tested,
          by_well_formed (plain_query from ∷ queries) false (parts.known, known) tt by parts.grouped,
          subst (λ line. WellFormedClause (reading_by_name k.tables rows_of) (kinds_by_name k.tables k.parameters) (IsDeclaredIn k.parameters) (record { from = from; has_line = line } ∷ lines_of queries) having)
              (line_same (is_grouped list by having) by)
              (clause_well_formed having (shown_query from list by having ∷ queries) true (parts.known, known) tt n.2 parts.kept),
        )
