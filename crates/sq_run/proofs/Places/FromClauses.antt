-- What a text becomes is decided by what the tables mean that stand in its FROM clauses, subqueries included (ISO/IEC 9075:1992,
-- 6.3). In a well-formed text each of them is there.
use Rattle.std.proofs.Common.{◌≡◌, false, List, ◌∷◌, Option, Some, None, refl, ap, Ok}
use Rattle.std.specs.Prelude.{⊤}
use Rattle.std.specs.List.{AllByRecursion}
use Rattle.std.specs.Option.{option_map}
use Rattle.sq_meaning.specs.Status.{and_then, each, well_formed}
use Rattle.sq_meaning.specs.Syntax.{Naming, Expr, SelectList, all_columns, expressions, Cond, Conds, Clause, Select, compare, compare_subquery, compare_quantified, between, in_subquery, in_list, like, is_null, exists, negated, conjunction, disjunction, no_cond, a_cond, absent, present, select}
use Rattle.sq_meaning.specs.Environment.{TableReference}
use Rattle.sq_meaning.specs.Expression.{Reading}
use Rattle.sq_meaning.specs.Kind.{Kinds}
use Rattle.sq_meaning.specs.Spelled.{Named}
use Rattle.sq_meaning.specs.WellFormed.{HasValue, Level, WellFormedClause, WellFormedCond, WellFormedConds, WellFormedSelect, of_lines, shown_level}
use Rattle.sq_meaning.proofs.AnswerLaws.{all_weaker}
use Rattle.sq_bound.specs.Condition.{compared_with}
use Rattle.sq_bound.specs.Known.{KnownTables}
use Rattle.sq_bound.specs.declared.condition.Compared.TheVariants.{Scalar}
use Rattle.sq_bound.specs.declared.names.ParameterDesc.{ParameterDesc}
use Rattle.sq_binding.specs.ColumnNames.{list_names, names_placed}
use Rattle.sq_binding.specs.Condition.{compared_as}
use Rattle.sq_binding.specs.From.{item_over, items_of, tables_of}
use Rattle.sq_binding.specs.Placed.{placed_column}
use Rattle.sq_binding.specs.PlacedQuery.{clause_placed, cond_placed, conds_placed, escape_placed, expr_placed, item_placed, list_placed, select_placed}
use Rattle.sq_binding.specs.Scope.{FromItem}
use Rattle.sq_binding.specs.Select.{Surroundings}
use Rattle.sq_binding.specs.Names as names
use Rattle.sq_binding.specs.Names.{declared, named_table}
use Rattle.sq_run.proofs.Places.Outcomes.{each_of}
use Rattle.sq_run.proofs.Places.Setting.{scopes_with}

-- P holds of each table that stands in a FROM clause.
abbrev mutual
  pub CondReads : {N : Naming} → (N.Table → Type 0) → Cond N → Type 0
  CondReads P (compare op a b) = ⊤
  CondReads P (compare_subquery op a q) = SelectReads P q
  CondReads P (compare_quantified op k a q) = SelectReads P q
  CondReads P (between a low high) = ⊤
  CondReads P (in_subquery a q) = SelectReads P q
  CondReads P (in_list a es) = ⊤
  CondReads P (like text pattern escape) = ⊤
  CondReads P (is_null a) = ⊤
  CondReads P (exists q) = SelectReads P q
  CondReads P (negated c) = CondReads P c
  CondReads P (conjunction cs) = CondsRead P cs
  CondReads P (disjunction cs) = CondsRead P cs

  pub CondsRead : {N : Naming} → (N.Table → Type 0) → Conds N → Type 0
  CondsRead P no_cond = ⊤
  CondsRead P (a_cond c cs) = CondReads P c × CondsRead P cs

  pub ClauseReads : {N : Naming} → (N.Table → Type 0) → Clause N → Type 0
  ClauseReads P absent = ⊤
  ClauseReads P (present c) = CondReads P c

  pub SelectReads : {N : Naming} → (N.Table → Type 0) → Select N → Type 0
  SelectReads P (select distinct list from filter by having) = AllByRecursion P from × ClauseReads P filter × ClauseReads P having

-- ---- well-formed texts

module _ {N : Naming} (m : Reading N) (k : Kinds N) (IsDeclared : N.Parameter → Type 0) (P : N.Table → Type 0)
    (there : (t : N.Table) → HasValue (m.item t) → P t) where
  mutual
    pub cond_reads : (levels : List (Level N)) (c : Cond N) → WellFormedCond m k IsDeclared levels c → CondReads P c
    cond_reads levels (compare op a b) h = tt
    cond_reads levels (compare_subquery op a q) h = select_reads levels q h.2
    cond_reads levels (compare_quantified op quantifier a q) h = select_reads levels q h.2
    cond_reads levels (between a low high) h = tt
    cond_reads levels (in_subquery a q) h = select_reads levels q h.2
    cond_reads levels (in_list a es) h = tt
    cond_reads levels (like text pattern escape) h = tt
    cond_reads levels (is_null a) h = tt
    cond_reads levels (exists q) h = select_reads levels q h
    cond_reads levels (negated c) h = cond_reads levels c h
    cond_reads levels (conjunction cs) h = conds_read levels cs h
    cond_reads levels (disjunction cs) h = conds_read levels cs h

    conds_read : (levels : List (Level N)) (cs : Conds N) → WellFormedConds m k IsDeclared levels cs → CondsRead P cs
    conds_read levels no_cond h = tt
    conds_read levels (a_cond c cs) h = (cond_reads levels c h.0, conds_read levels cs h.1)

    pub clause_reads : (levels : List (Level N)) (c : Clause N) → WellFormedClause m k IsDeclared levels c → ClauseReads P c
    clause_reads levels absent h = tt
    clause_reads levels (present c) h = cond_reads levels c h

    pub select_reads : (levels : List (Level N)) (q : Select N) → WellFormedSelect m k IsDeclared levels q → SelectReads P q
    select_reads levels (select distinct list from filter by having) h = (
      all_weaker (λ t. HasValue (k.columns t) × HasValue (m.item t)) P (λ t w. there t w.1) from h.0,
      clause_reads (of_lines from ∷ levels) filter h.2,
      clause_reads (shown_level list from by having ∷ levels) having h.4,
    )

-- ---- what a text becomes

-- a table means the same
abbrev pub MeansSame : KnownTables → KnownTables → TableReference → Type 0
MeansSame known other r = known r.table.user r.table.name ≡ other r.table.user r.table.name

module _ (known other : KnownTables) (parameters : List ParameterDesc) where
  abbrev by_one : List (List FromItem) → Surroundings
  by_one scopes = record { names = names.tables_of known; parameters = declared parameters; scopes = scopes_with scopes; functions_allowed = false }

  abbrev by_other : List (List FromItem) → Surroundings
  by_other scopes = record { names = names.tables_of other; parameters = declared parameters; scopes = scopes_with scopes; functions_allowed = false }

  -- expressions name no table
  escape_becomes : (scopes : List (List FromItem)) (escape : Option (Expr Named))
      → escape_placed (by_one scopes) escape ≡ escape_placed (by_other scopes) escape
  escape_becomes scopes None = refl
  escape_becomes scopes (Some e) = refl

  list_becomes : (scopes : List (List FromItem)) (items : List FromItem) (list : SelectList Named)
      → list_placed (by_one scopes) items list ≡ list_placed (by_other scopes) items list
  list_becomes scopes items all_columns = refl
  list_becomes scopes items (expressions es) = refl

  pub item_becomes : (r : TableReference) → MeansSame known other r → item_placed (names.tables_of known) r ≡ item_placed (names.tables_of other) r
  item_becomes r same = ap (λ o. well_formed (option_map (item_over r) (option_map (named_table false false) o))) same

  mutual
    pub cond_becomes : (scopes : List (List FromItem)) (c : Cond Named) → CondReads (MeansSame known other) c
        → cond_placed (by_one scopes) c ≡ cond_placed (by_other scopes) c
    cond_becomes scopes (compare op a b) h = refl
    cond_becomes scopes (compare_subquery op a q) h =
        (λ i. and_then (expr_placed (by_one scopes) a) (λ x. and_then (select_becomes scopes q h i) (λ y. Ok (compared_with Scalar op x y))))
    cond_becomes scopes (compare_quantified op k a q) h =
        (λ i. and_then (expr_placed (by_one scopes) a) (λ x. and_then (select_becomes scopes q h i) (λ y. Ok (compared_with (compared_as k) op x y))))
    cond_becomes scopes (between a low high) h = refl
    cond_becomes scopes (in_subquery a q) h =
        (λ i. and_then (expr_placed (by_one scopes) a) (λ x. and_then (select_becomes scopes q h i) (λ y. Ok (in_subquery x y))))
    cond_becomes scopes (in_list a es) h = refl
    cond_becomes scopes (like text pattern escape) h =
        (λ i. and_then (expr_placed (by_one scopes) text) (λ x. and_then (expr_placed (by_one scopes) pattern) (λ y. and_then (escape_becomes scopes escape i) (λ z. Ok (like x y z)))))
    cond_becomes scopes (is_null a) h = refl
    cond_becomes scopes (exists q) h = (λ i. and_then (select_becomes scopes q h i) (λ y. Ok (exists y)))
    cond_becomes scopes (negated c) h = (λ i. and_then (cond_becomes scopes c h i) (λ x. Ok (negated x)))
    cond_becomes scopes (conjunction cs) h = (λ i. and_then (conds_become scopes cs h i) (λ xs. Ok (conjunction xs)))
    cond_becomes scopes (disjunction cs) h = (λ i. and_then (conds_become scopes cs h i) (λ xs. Ok (disjunction xs)))

    conds_become : (scopes : List (List FromItem)) (cs : Conds Named) → CondsRead (MeansSame known other) cs
        → conds_placed (by_one scopes) cs ≡ conds_placed (by_other scopes) cs
    conds_become scopes no_cond h = refl
    conds_become scopes (a_cond c cs) h =
        (λ i. and_then (cond_becomes scopes c h.0 i) (λ x. and_then (conds_become scopes cs h.1 i) (λ xs. Ok (a_cond x xs))))

    pub clause_becomes : (scopes : List (List FromItem)) (c : Clause Named) → ClauseReads (MeansSame known other) c
        → clause_placed (by_one scopes) c ≡ clause_placed (by_other scopes) c
    clause_becomes scopes absent h = refl
    clause_becomes scopes (present c) h = (λ i. and_then (cond_becomes scopes c h i) (λ x. Ok (present x)))

    -- A text becomes the same query where each table in its FROM clauses means the same.
    pub select_becomes : (scopes : List (List FromItem)) (q : Select Named) → SelectReads (MeansSame known other) q
        → select_placed (by_one scopes) q ≡ select_placed (by_other scopes) q
    select_becomes scopes (select distinct list from filter by having) h =
        (λ i. and_then (each_of (MeansSame known other) (item_placed (names.tables_of known)) (item_placed (names.tables_of other)) item_becomes from h.0 i) (λ tables.
        and_then (clause_becomes (items_of tables ∷ scopes) filter h.1 i)
        (λ kept. and_then (each (placed_column (scopes_with (items_of tables ∷ scopes))) by) (λ columns.
        and_then (list_becomes (items_of tables ∷ scopes) (items_of tables) list i)
        (λ shown. and_then (clause_becomes (items_of tables ∷ scopes) having h.2 i) (λ groups.
        Ok (select distinct (expressions shown) (tables_of tables) kept columns groups)))))))

  -- The columns of a query specification have the same names by names and by places.
  pub names_become : (q : Select Named) → SelectReads (MeansSame known other) q → names_placed (names.tables_of known) q ≡ names_placed (names.tables_of other) q
  names_become (select distinct list from filter by having) h =
      ap (λ o. and_then o (λ tables. Ok (list_names (items_of tables) list)))
      (each_of (MeansSame known other) (item_placed (names.tables_of known)) (item_placed (names.tables_of other)) item_becomes from h.0)
