-- A missing privilege on a table that is read is found exactly if the rules find it at a site. It is SELECT, or SELECT with the
-- grant option (ISO/IEC 9075:1992, 4.26, 7.4 and 11.19).
use Rattle.std.proofs.Common.{◌≡◌, Bool, true, false, not, ◌||◌, List, [], ◌∷◌, ◌++◌, map, Option, Some, None, Ok, refl, sym, ap, subst, ◌∙◌}
use Rattle.std.specs.List.{flat_map, list_any}
use Rattle.std.proofs.lemmas.Bool.{or_from}
use Rattle.sq_value.proofs.Truths.{or_false, or_assoc}
use Rattle.sq_value.specs.declared.domain.Kind.{Kind}
use Rattle.sq_tree.specs.declared.expr.SetFunction.{SetFunction}
use Rattle.sq_tree.specs.declared.expr.SetFunction.TheVariants as set_function_word
use Rattle.sq_tree.specs.declared.names.ColumnReference.{ColumnReference}
use Rattle.sq_meaning.specs.Environment.{Place, TableName, TableReference}
use Rattle.sq_meaning.specs.Query.{is_grouped}
use Rattle.sq_meaning.specs.Spelled.{Named}
use Rattle.sq_meaning.specs.Status as status
use Rattle.sq_meaning.specs.Syntax.{Expr, literal, parameter, user, column, count_rows, set_function, signed, added, scaled, bracketed, SelectList, all_columns, expressions, Cond, Conds, Clause, Select, select}
use Rattle.sq_meaning.specs.Binding.{Judged, has_fault, privilege_missing}
use Rattle.sq_meaning.specs.Privilege.{Privilege}
use Rattle.sq_meaning.specs.Site.{Around, Known as Tables, Site, beside_subquery, clause_sites, compared_sites, cond_sites, conds_sites, escape_sites, expr_sites, inside_query, kind_here, list_count, list_sites, operand_of, plain_query, select_sites, shown_query, summed_sites, text_sites}
use Rattle.sq_meaning.specs.declared.fault.BindingFault.TheVariants as fault
use Rattle.sq_binding.specs.Condition.{agreeing, as_subquery, cond_bound, escape_bound, select_bound}
use Rattle.sq_binding.specs.Expression.{column_findings}
use Rattle.sq_binding.specs.Findings.{Findings}
use Rattle.sq_binding.specs.Findings as findings
use Rattle.sq_binding.specs.Found.{Binding, Counts, Found, after, each}
use Rattle.sq_binding.specs.From.{NamedItem, NamedTable, NamedTables, from_bound, item_bound, items_of, table_findings}
use Rattle.sq_binding.specs.Numbered.{Numbered}
use Rattle.sq_binding.specs.NumberedCondition.{NumberedClause, NumberedCond, NumberedConds, NumberedSelect}
use Rattle.sq_binding.specs.QueryFindings.{QueryFindings, a_status, both, of_subquery, of_values}
use Rattle.sq_binding.specs.Scope.{FromItem}
use Rattle.sq_binding.specs.Select.{ShownColumn, Surroundings, Typed, grouping_column, list_bound, of_groups, of_lines, select_found, shown_column, value}
use Rattle.sq_binding.proofs.Notes.Outward.{findings_same}
use Rattle.sq_binding.proofs.Inductions.Parts.{IfFound}
use Rattle.sq_binding.proofs.Inductions.Pieces.{agreeing_holds, escape_holds, from_holds, grouping_holds, item_holds, list_holds, shown_holds, star_holds, value_holds}
use Rattle.sq_binding.proofs.Inductions.QueryCases.{AreParts, QueryCases, at_first, cond_is, select_is, whole_of}
use Rattle.sq_binding.proofs.Inductions.Turns.{each_holds, it_is}

any_append : (test : Site → Bool) (xs ys : List Site) → list_any test (xs ++ ys) ≡ (list_any test xs || list_any test ys)
any_append test [] ys = refl
any_append test (x ∷ xs) ys = ap (λ b. test x || b) (any_append test xs ys) ∙ sym (or_assoc (test x) (list_any test xs) (list_any test ys))

module _ (holds : TableName → Privilege → Bool) (k : Tables) where
  abbrev missing : List Site → Bool
  missing sites = list_any (privilege_missing holds) sites

  none_both : (xs ys : List Site) → missing xs ≡ false → missing ys ≡ false → missing (xs ++ ys) ≡ false
  none_both xs ys h g = any_append (privilege_missing holds) xs ys ∙ or_from (missing xs) (missing ys) h g

  none_summed : (f : SetFunction) (o : status.Outcome Kind) → missing (summed_sites f o) ≡ false
  none_summed set_function_word.Sum o = refl
  none_summed set_function_word.Avg o = refl
  none_summed set_function_word.Count o = refl
  none_summed set_function_word.Min o = refl
  none_summed set_function_word.Max o = refl

  -- value expressions need no privilege
  none_in_expr : (e : Expr Named) (b : Around) → missing (expr_sites k b e) ≡ false
  none_in_expr (literal v) b = refl
  none_in_expr (parameter p) b = refl
  none_in_expr user b = refl
  none_in_expr (column c) b = refl
  none_in_expr count_rows b = refl
  none_in_expr (set_function f distinct e) b = none_both (summed_sites f (kind_here k b e)) (expr_sites k (operand_of b) e) (none_summed f (kind_here k b e)) (none_in_expr e (operand_of b))
  none_in_expr (signed sign e) b = none_in_expr e b
  none_in_expr (added sign e g) b = none_both (expr_sites k b e) (expr_sites k b g) (none_in_expr e b) (none_in_expr g b)
  none_in_expr (scaled sign e g) b = none_both (expr_sites k b e) (expr_sites k b g) (none_in_expr e b) (none_in_expr g b)
  none_in_expr (bracketed e) b = none_in_expr e b

  none_compared : (b : Around) (e f : Expr Named) → missing (compared_sites k b e f) ≡ false
  none_compared b e f = none_both (expr_sites k b e) (expr_sites k b f) (none_in_expr e b) (none_in_expr f b)

  none_each : {A : Type 0} (sites : A → List Site) → ((x : A) → missing (sites x) ≡ false) → (xs : List A) → missing (flat_map sites xs) ≡ false
  none_each sites h [] = refl
  none_each sites h (x ∷ xs) = none_both (sites x) (flat_map sites xs) (h x) (none_each sites h xs)

  none_escape : (b : Around) (escape : Option (Expr Named)) → missing (escape_sites k b escape) ≡ false
  none_escape b None = refl
  none_escape b (Some e) = none_in_expr e b

  none_list : (b : Around) (list : SelectList Named) (grouped : Bool) → missing (list_sites k b list grouped) ≡ false
  none_list b all_columns true = refl
  none_list b all_columns false = refl
  none_list b (expressions es) grouped = none_each (expr_sites k b) (λ e. none_in_expr e b) es

  none_columns : (b : Around) (by : List ColumnReference) → missing (map (Site.column_read b) by) ≡ false
  none_columns b [] = refl
  none_columns b (c ∷ by) = none_columns b by

  -- a part of which it is found whether a privilege is missing, as the privileges of each table say
  module _ (lacks : QueryFindings → Bool) (may : NamedTable → Bool) (names : NamedTables)
      (lacks_both : (f g : QueryFindings) → lacks (both f g) ≡ (lacks f || lacks g)) (lacks_nothing : (f : Findings) → lacks (of_values f) ≡ false) (lacks_inside : (f : QueryFindings) → lacks (of_subquery f) ≡ lacks f)
      (lacks_beside : (f : QueryFindings) (v : Findings) → lacks (record f { values = v }) ≡ lacks f)
      (lacks_table : (t : NamedTable) → lacks (table_findings t) ≡ not (may t)) (fit : (name : TableName) (t : NamedTable) → names name ≡ Some t → may t ≡ holds name Privilege.select) where
    abbrev Lacks : {A : Type 0} → Found A → Bool → Type 0
    Lacks x b = lacks x.findings ≡ b

    both_lack : {A B : Type 0} (x : Found A) (y : Found B) (a b : Bool) → Lacks x a → Lacks y b → lacks (both x.findings y.findings) ≡ (a || b)
    both_lack x y a b h g = lacks_both x.findings y.findings ∙ (λ i. h i || g i)

    each_lacks : {A B : Type 0} (f : A → Binding B) → ((counts : Counts) (x : A) → IfFound (λ y. Lacks y false) (f x counts)) → (xs : List A) (counts : Counts) (ys : Found (List B)) → each f xs counts ≡ Ok ys → Lacks ys false
    each_lacks f h xs counts ys is =
        it_is (λ ys. Lacks ys false) (each f xs counts) ys is
        (each_holds (λ counts x y. Lacks y false) (λ counts xs ys. Lacks ys false) f h (λ counts. lacks_nothing findings.none) (λ counts x xs y ys p q. both_lack y ys false false p q) xs counts)

    value_lacks : (a : Surroundings) (counts : Counts) (e : Expr Named) (x : Found Typed) → value a e counts ≡ Ok x → Lacks x false
    value_lacks a counts e x is = it_is (λ x. Lacks x false) (value a e counts) x is (value_holds a counts (λ x. Lacks x false) e (λ b so. lacks_nothing b.findings))

    agreeing_lacks : (a : Surroundings) (l : Kind) (es : List (Expr Named)) (counts : Counts) (ys : Found (List Numbered)) → each (agreeing a l) es counts ≡ Ok ys → Lacks ys false
    agreeing_lacks a l es counts ys is = each_lacks (agreeing a l) (λ counts e. agreeing_holds a counts (λ y. Lacks y false) l e (λ x so alike. value_lacks a counts e x so)) es counts ys is

    status_lacks : {A : Type 0} (x : Found A) (b : Bool) → Lacks x b → lacks (both x.findings a_status) ≡ b
    status_lacks x b h = lacks_both x.findings a_status ∙ (λ i. h i || lacks_nothing a_status.values i) ∙ or_false b

    escape_lacks : (a : Surroundings) (escape : Option (Expr Named)) (counts : Counts) (z : Found (Option Numbered)) → escape_bound a escape counts ≡ Ok z → Lacks z false
    escape_lacks a None counts z is = it_is (λ z. Lacks z false) (escape_bound a None counts) z is (lacks_nothing findings.none)
    escape_lacks a (Some e) counts z is =
        it_is (λ z. Lacks z false) (escape_bound a (Some e) counts) z is
        (escape_holds a counts (λ z. Lacks z false) e (λ x so text. status_lacks x false (value_lacks a counts e x so)))

    list_lacks : (a : Surroundings) (items : List FromItem) (list : SelectList Named) (counts : Counts) (x : Found (List ShownColumn)) → list_bound a items list counts ≡ Ok x → Lacks x false
    list_lacks a items all_columns counts x is =
        it_is (λ x. Lacks x false) (list_bound a items all_columns counts) x is (star_holds a counts (λ x. Lacks x false) items (lacks_nothing findings.none))
    list_lacks a items (expressions es) counts x is =
        it_is (λ x. Lacks x false) (list_bound a items (expressions es) counts) x is
        (list_holds a counts (λ x. Lacks x false) items es
        (λ y so. each_lacks (shown_column a) (λ counts e. shown_holds a counts (λ y. Lacks y false) e (λ x also. value_lacks a counts e x also)) es counts y so))

    grouping_lacks : (a : Surroundings) (by : List ColumnReference) (counts : Counts) (x : Found (List Place)) → each (grouping_column a) by counts ≡ Ok x → Lacks x false
    grouping_lacks a by counts x is =
        each_lacks (grouping_column a) (λ counts c. grouping_holds a counts (λ y. Lacks y false) c (λ found so grouped. lacks_nothing (column_findings found))) by counts x is

    from_lacks : (from : List TableReference) (counts : Counts) (x : Found (List NamedItem)) → from_bound names from counts ≡ Ok x → Lacks x (missing (map Site.table_read from))
    from_lacks from counts x is =
        it_is (λ x. Lacks x (missing (map Site.table_read from))) (from_bound names from counts) x is
        (from_holds names counts (λ x. Lacks x (missing (map Site.table_read from))) from
        (λ x so few. it_is (λ x. Lacks x (missing (map Site.table_read from))) (each (item_bound names) from counts) x so
        (each_holds (λ counts r y. Lacks y (not (holds r.table Privilege.select))) (λ counts from ys. Lacks ys (missing (map Site.table_read from))) (item_bound names)
        (λ counts r. item_holds names counts (λ y. Lacks y (not (holds r.table Privilege.select))) r (λ t there. lacks_table t ∙ ap not (fit r.table t there)))
        (λ counts. lacks_nothing findings.none)
        (λ counts r from y ys p q. both_lack y ys (not (holds r.table Privilege.select)) (missing (map Site.table_read from)) p q) from counts)))

    subquery_lacks : (q : Found NumberedSelect) (b : Bool) → Lacks q b → Lacks (as_subquery q) b
    subquery_lacks q b h = ap lacks (findings_same q) ∙ lacks_inside q.findings ∙ h

    -- ---- search conditions and query specifications

    abbrev IsNamed : Surroundings → Type 0
    IsNamed a = a.names ≡ names

    abbrev CondLacks : Surroundings → Counts → Cond Named → Found NumberedCond → Type 0
    CondLacks a counts c x = IsNamed a → (b : Around) → Lacks x (missing (cond_sites k b c))

    abbrev CondsLack : Surroundings → Counts → Conds Named → Found NumberedConds → Type 0
    CondsLack a counts cs x = IsNamed a → (b : Around) → Lacks x (missing (conds_sites k b cs))

    abbrev ClauseLacks : Surroundings → Counts → Clause Named → Found NumberedClause → Type 0
    ClauseLacks a counts c x = IsNamed a → (b : Around) → Lacks x (missing (clause_sites k b c))

    abbrev SelectLacks : Surroundings → Counts → Select Named → Found NumberedSelect → Type 0
    SelectLacks a counts s x = IsNamed a → (b : Around) → Lacks x (missing (select_sites k b s))

    -- beside a value
    beside_lacks : (a : Surroundings) (counts : Counts) (e : Expr Named) (s : Select Named) (x : Found Typed) (q : Found NumberedSelect) → value a e counts ≡ Ok x → SelectLacks a (after counts x) s q → IsNamed a → (b : Around)
        → lacks (both x.findings (as_subquery q).findings) ≡ missing (beside_subquery k b e s ++ select_sites k b s)
    beside_lacks a counts e s x q is h named b =
        both_lack x (as_subquery q) false (missing (select_sites k b s)) (value_lacks a counts e x is) (subquery_lacks q (missing (select_sites k b s)) (h named b))
        ∙ sym (any_append (privilege_missing holds) (beside_subquery k b e s) (select_sites k b s) ∙ ap (λ t. t || missing (select_sites k b s)) (none_in_expr e b))

    scalar_lacks : (x : Found Typed) (q : Found NumberedSelect) (t : Bool) → lacks (both x.findings (as_subquery q).findings) ≡ t → lacks (both x.findings (both (as_subquery q).findings a_status)) ≡ t
    scalar_lacks x q t h =
        lacks_both x.findings (both (as_subquery q).findings a_status)
        ∙ ap (λ u. lacks x.findings || u) (status_lacks (as_subquery q) (lacks (as_subquery q).findings) refl) ∙ sym (lacks_both x.findings (as_subquery q).findings) ∙ h

    conds_lack : (c : Cond Named) (cs : Conds Named) (x : Found NumberedCond) (xs : Found NumberedConds) (b : Around) → Lacks x (missing (cond_sites k b c)) → Lacks xs (missing (conds_sites k b cs))
        → lacks (both x.findings xs.findings) ≡ missing (cond_sites k b c ++ conds_sites k b cs)
    conds_lack c cs x xs b h g = both_lack x xs (missing (cond_sites k b c)) (missing (conds_sites k b cs)) h g ∙ sym (any_append (privilege_missing holds) (cond_sites k b c) (conds_sites k b cs))

    parts_turn : (a f g : Bool) → (a || (f || (false || (false || g)))) ≡ ((((a || false) || f) || false) || g)
    parts_turn true f g = refl
    parts_turn false true g = refl
    parts_turn false false g = refl

    module _ (b : Around) (list : SelectList Named) (from : List TableReference) (filter : Clause Named) (by : List ColumnReference) (having : Clause Named) where
      abbrev lines : Around
      lines = inside_query b (plain_query from) false

      abbrev shown_in : Around
      shown_in = inside_query b (shown_query from list by having) true

      abbrev before_filter : List Site
      before_filter = map Site.table_read from ++ Site.from_whole from ∷ Site.column_count (list_count k.tables from list) ∷ list_sites k shown_in list (is_grouped list by having)

      before_missing : missing before_filter ≡ (missing (map Site.table_read from) || false)
      before_missing =
          any_append (privilege_missing holds) (map Site.table_read from) (Site.from_whole from ∷ Site.column_count (list_count k.tables from list) ∷ list_sites k shown_in list (is_grouped list by having))
          ∙ ap (λ t. missing (map Site.table_read from) || t) (none_list shown_in list (is_grouped list by having))

      sites_missing : (distinct : Bool) → missing (select_sites k b (select distinct list from filter by having))
          ≡ ((((missing (map Site.table_read from) || false) || missing (clause_sites k lines filter)) || false) || missing (clause_sites k shown_in having))
      sites_missing distinct =
          any_append (privilege_missing holds) ((before_filter ++ clause_sites k lines filter) ++ map (Site.column_read lines) by) (clause_sites k shown_in having)
          ∙ ap (λ t. t || missing (clause_sites k shown_in having))
          (any_append (privilege_missing holds) (before_filter ++ clause_sites k lines filter) (map (Site.column_read lines) by)
          ∙ (λ i.
          (any_append (privilege_missing holds) before_filter (clause_sites k lines filter) ∙ ap (λ t. t || missing (clause_sites k lines filter)) before_missing) i
          || none_columns lines by i))

    parts_lack : (i f p s g : QueryFindings) (a c d : Bool) → lacks i ≡ a → lacks f ≡ c → lacks p ≡ false → lacks s ≡ false → lacks g ≡ d → lacks (both i (both f (both p (both s g)))) ≡ ((((a || false) || c) || false) || d)
    parts_lack i f p s g a c d hi hf hp hs hg =
        lacks_both i (both f (both p (both s g)))
        ∙ (λ j. hi j || (lacks_both f (both p (both s g)) ∙ (λ j. hf j || (lacks_both p (both s g) ∙ (λ j. hp j || (lacks_both s g ∙ (λ j. hs j || hg j)) j)) j)) j)
        ∙ parts_turn a c d

    select_lacks : (a : Surroundings) (counts : Counts) (distinct : Bool) (list : SelectList Named) (from : List TableReference) (filter : Clause Named) (by : List ColumnReference) (having : Clause Named)
        (items : Found (List NamedItem)) (kept : Found NumberedClause) (places : Found (List Place)) (shown : Found (List ShownColumn)) (groups : Found NumberedClause)
        → AreParts ClauseLacks a counts list from filter by having items kept places shown groups → SelectLacks a counts (select distinct list from filter by having) (select_found (whole_of distinct items kept places shown groups))
    select_lacks a counts distinct list from filter by having items kept places shown groups parts named b =
        lacks_beside (whole_of distinct items kept places shown groups).findings (select_found (whole_of distinct items kept places shown groups)).findings.values
        ∙ parts_lack items.findings kept.findings places.findings shown.findings groups.findings
        (missing (map Site.table_read from)) (missing (clause_sites k (inside_query b (plain_query from) false) filter)) (missing (clause_sites k (inside_query b (shown_query from list by having) true) having))
        (from_lacks from (at_first counts.subqueries) items (subst (λ n. from_bound n from (at_first counts.subqueries) ≡ Ok items) named parts.from_is))
        (parts.filter_is.1 named (inside_query b (plain_query from) false))
        (grouping_lacks (of_lines (items_of items.part) a) by (at_first kept.subqueries) places parts.by_is)
        (list_lacks (of_groups (items_of items.part) places.part a) (items_of items.part) list (at_first kept.subqueries) shown parts.list_is)
        (parts.having_is.1 named (inside_query b (shown_query from list by having) true))
        ∙ sym (sites_missing b list from filter by having distinct)

    cases : QueryCases CondLacks CondsLack ClauseLacks SelectLacks
    cases = record {
      of_compare = λ a counts op e f x y is so alike named b. both_lack x y false false (value_lacks a counts e x is) (value_lacks a (after counts x) f y so) ∙ sym (none_compared b e f);
      of_scalar = λ a counts op e s x q is h one named b. scalar_lacks x q (missing (beside_subquery k b e s ++ select_sites k b s)) (beside_lacks a counts e s x q is h.1 named b);
      of_quantified = λ a counts op l e s x q is h one named b. beside_lacks a counts e s x q is h.1 named b;
      of_between = λ a counts e low high x y z is so also alike same named b.
          lacks_both x.findings (both y.findings z.findings)
          ∙ (λ i. value_lacks a counts e x is i || both_lack y z false false (value_lacks a (after counts x) low y so) (value_lacks a (after (after counts x) y) high z also) i)
          ∙ sym (none_both (compared_sites k b e low) (compared_sites k b e high) (none_compared b e low) (none_compared b e high));
      of_among = λ a counts e s x q is h one named b. beside_lacks a counts e s x q is h.1 named b;
      of_list = λ a counts e es x ys is so named b.
          both_lack x ys false false (value_lacks a counts e x is) (agreeing_lacks a x.part.kind es (after counts x) ys so)
          ∙ sym (none_both (expr_sites k b e) (flat_map (compared_sites k b e) es) (none_in_expr e b) (none_each (compared_sites k b e) (none_compared b e) es));
      of_like = λ a counts e pattern escape x y z is so one two also named b.
          lacks_both x.findings (both y.findings z.findings)
          ∙ (λ i. value_lacks a counts e x is i || both_lack y z false false (value_lacks a (after counts x) pattern y so) (escape_lacks a escape (after (after counts x) y) z also) i)
          ∙ sym (none_both (text_sites k b e ++ text_sites k b pattern) (escape_sites k b escape) (none_both (text_sites k b e) (text_sites k b pattern) (none_in_expr e b) (none_in_expr pattern b)) (none_escape b escape));
      of_null = λ a counts e x is named b. value_lacks a counts e x is ∙ sym (none_in_expr e b);
      of_exists = λ a counts s q h named b. subquery_lacks q (missing (select_sites k b s)) (h.1 named b);
      of_negated = λ a counts c x h named b. h.1 named b;
      of_conjunction = λ a counts cs xs h named b. h named b;
      of_disjunction = λ a counts cs xs h named b. h named b;
      of_none = λ a counts named b. lacks_nothing findings.none;
      of_test = λ a counts c cs x xs h g named b. conds_lack c cs x xs b (h.1 named b) (g named b);
      of_term = λ a counts c cs x xs h g named b. conds_lack c cs x xs b (h.1 named b) (g named b);
      of_absent = λ a counts named b. lacks_nothing findings.none;
      of_present = λ a counts c x h named b. h.1 named b;
      of_select = λ a counts distinct list from filter by having items kept places shown groups parts right.
          select_lacks a counts distinct list from filter by having items kept places shown groups parts;
    }

    pub cond_lacks : (c : Cond Named) (a : Surroundings) (counts : Counts) (x : Found NumberedCond) → cond_bound a c counts ≡ Ok x → a.names ≡ names → (b : Around) → lacks x.findings ≡ missing (cond_sites k b c)
    cond_lacks = cond_is CondLacks CondsLack ClauseLacks SelectLacks cases

    pub select_lacks_found : (s : Select Named) (a : Surroundings) (counts : Counts) (x : Found NumberedSelect) → select_bound a s counts ≡ Ok x → a.names ≡ names → (b : Around) → lacks x.findings ≡ missing (select_sites k b s)
    select_lacks_found = select_is CondLacks CondsLack ClauseLacks SelectLacks cases

-- ---- SELECT, and SELECT with the grant option

abbrev pub SelectFits : NamedTables → (TableName → Privilege → Bool) → Type 0
SelectFits names holds = (name : TableName) (t : NamedTable) → names name ≡ Some t → t.may_select ≡ holds name Privilege.select

abbrev pub GrantFits : NamedTables → (TableName → Privilege → Bool) → Type 0
GrantFits names grants = (name : TableName) (t : NamedTable) → names name ≡ Some t → t.may_grant ≡ grants name Privilege.select

-- a privilege is missing where the rules say so of the sites
pub cond_privilege : (j : Judged) (c : Cond Named) (a : Surroundings) (counts : Counts) (x : Found NumberedCond) → SelectFits a.names j.holds → cond_bound a c counts ≡ Ok x → (b : Around)
    → x.findings.lacks_privilege ≡ has_fault j (cond_sites j.known b c) fault.PrivilegeMissing
cond_privilege j c a counts x fit is =
    cond_lacks j.holds j.known (λ f. f.lacks_privilege) (λ t. t.may_select) a.names (λ f g. refl) (λ f. refl) (λ f. refl) (λ f v. refl) (λ t. refl) fit c a counts x is refl

pub select_privilege : (j : Judged) (s : Select Named) (a : Surroundings) (counts : Counts) (x : Found NumberedSelect) → SelectFits a.names j.holds → select_bound a s counts ≡ Ok x → (b : Around)
    → x.findings.lacks_privilege ≡ has_fault j (select_sites j.known b s) fault.PrivilegeMissing
select_privilege j s a counts x fit is =
    select_lacks_found j.holds j.known (λ f. f.lacks_privilege) (λ t. t.may_select) a.names (λ f g. refl) (λ f. refl) (λ f. refl) (λ f v. refl) (λ t. refl) fit s a counts x is refl

-- the grant option is found missing where one of these tables may not be granted on
pub select_grant_option : (grants : TableName → Privilege → Bool) (k : Tables) (s : Select Named) (a : Surroundings) (counts : Counts) (x : Found NumberedSelect) → GrantFits a.names grants → select_bound a s counts ≡ Ok x → (b : Around)
    → x.findings.lacks_grant_option ≡ list_any (privilege_missing grants) (select_sites k b s)
select_grant_option grants k s a counts x fit is =
    select_lacks_found grants k (λ f. f.lacks_grant_option) (λ t. t.may_grant) a.names (λ f g. refl) (λ f. refl) (λ f. refl) (λ f v. refl) (λ t. refl) fit s a counts x is refl
