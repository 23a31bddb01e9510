-- The fault that is answered of the values and subqueries of a predicate is one that the rules find there (ISO/IEC 9075:1992, 7.11 and
-- 8.2 to 8.7).
use Rattle.std.proofs.Common.{◌≡◌, ℕ, suc, ◌+◌, Bool, true, false, not, List, [], ◌∷◌, ◌++◌, length, map, Option, Some, None, Ok, Err, arith, refl, sym, ap, ◌∙◌}
use Rattle.std.proofs.lemmas.Bool.Decides.{nat_tests}
use Rattle.std.specs.List.{AllZip}
use Rattle.std.specs.Prelude.{⊤, ◌==◌, nat_eq, nat_lt, if◌then◌else◌}
use Rattle.std.proofs.lemmas.Bool.{false≢true}
use Rattle.sq_value.specs.declared.domain.Kind.{Kind}
use Rattle.sq_value.specs.declared.domain.Kind.TheVariants.{Chars, Num, Vary}
use Rattle.sq_meaning.specs.Expression.{set_functions}
use Rattle.sq_meaning.specs.Query.{is_some_of}
use Rattle.sq_meaning.specs.SortKeys.{item_name}
use Rattle.sq_meaning.specs.Spelled.{Named}
use Rattle.sq_meaning.specs.Status as status
use Rattle.sq_meaning.specs.Syntax.{Expr, Select}
use Rattle.sq_meaning.specs.WellFormed.{is_comparable, is_text}
use Rattle.sq_meaning.specs.Binding.{Judged, has_fault, is_of_number, kind_mismatch}
use Rattle.sq_meaning.specs.Site.{Around, EnclosingQuery, Site, beside_subquery, compared_sites, escape_sites, expr_sites, first_kind, kind_here, kinds_here, select_count, select_sites, text_sites}
use Rattle.sq_meaning.specs.declared.fault.BindingFault.TheVariants as fault
use Rattle.sq_bound.specs.Expression.{PlacedExpr}
use Rattle.sq_binding.specs.Condition.{agreeing, as_subquery, beside, escape_bound, must_be_beside, scalar, subquery, text}
use Rattle.sq_binding.specs.Expression.{Bound, bound}
use Rattle.sq_binding.specs.Found.{Binding, Counts, Found, ◌>>◌, has_found, must, pure}
use Rattle.sq_binding.specs.From.{NamedTables}
use Rattle.sq_binding.specs.NumberedCondition.{NumberedSelect, ResultColumn, columns_of, with_number}
use Rattle.sq_binding.specs.Outcome.{Outcome, and_then}
use Rattle.sq_binding.specs.QueryFindings.{a_status, of_subquery}
use Rattle.sq_binding.specs.Scope.{Scope}
use Rattle.sq_binding.specs.Select.{Surroundings, Typed, shown_column, value, value_found}
use Rattle.sq_binding.proofs.FaultsFound.Faults.{called_found, expr_faults, free_found}
use Rattle.sq_binding.proofs.FaultsFound.FoundKinds.{SpellsNoNull, kind_found, standing}
use Rattle.sq_binding.proofs.FaultsFound.Judged.{IfJudged, IsJudged, Judges, has_found_judges, more_judges, must_judges, pure_judges, then_judges, wider_judges}
use Rattle.sq_binding.proofs.FaultsFound.Known.{GroupsAt, IsOver}
use Rattle.sq_binding.proofs.Placing.Placed.{bound_placed}
use Rattle.sq_binding.proofs.FaultsFound.Sites.{IfFault, fault_here, fault_later, fault_left, fault_right}

abbrev pub Anything : {A : Type 0} → A → Type 0
Anything x = ⊤

-- set functions stand where they are allowed
allowed_if : (allowed : Bool) (calls : List PlacedExpr) → (allowed ≡ false → calls ≡ []) → is_some_of calls ≡ true → allowed ≡ true
allowed_if true calls none some = refl
allowed_if false calls none some = absurd (false≢true (sym (ap is_some_of (none refl)) ∙ some))

pub alike_breaks : (k l : Kind) (o r : status.Outcome Kind) → o ≡ Ok k → r ≡ Ok l → is_comparable k l ≡ false → kind_mismatch (Site.alike_wanted o r) ≡ true
alike_breaks (Num s) (Num t) o r e f differ = cc
alike_breaks (Num s) (Chars n) o r e f differ = λ i. kind_mismatch (Site.alike_wanted (e i) (f i))
alike_breaks (Num s) (Vary n) o r e f differ = λ i. kind_mismatch (Site.alike_wanted (e i) (f i))
alike_breaks (Chars m) (Num t) o r e f differ = λ i. kind_mismatch (Site.alike_wanted (e i) (f i))
alike_breaks (Chars m) (Chars n) o r e f differ = cc
alike_breaks (Chars m) (Vary n) o r e f differ = cc
alike_breaks (Vary m) (Num t) o r e f differ = λ i. kind_mismatch (Site.alike_wanted (e i) (f i))
alike_breaks (Vary m) (Chars n) o r e f differ = cc
alike_breaks (Vary m) (Vary n) o r e f differ = cc

text_breaks : (k : Kind) (o : status.Outcome Kind) → o ≡ Ok k → is_text k ≡ false → kind_mismatch (Site.text_wanted o) ≡ true
text_breaks (Num s) o e differ = ap is_of_number e
text_breaks (Chars n) o e differ = cc
text_breaks (Vary n) o e differ = cc

abbrev pub EscapeSpellsNoNull : Option (Expr Named) → Type 0
EscapeSpellsNoNull None = ⊤
EscapeSpellsNoNull (Some e) = SpellsNoNull e

-- what surrounds a part, for these tables and parameters
abbrev pub surrounded : NamedTables → Judged → List Scope → Bool → Surroundings
surrounded names j scopes allowed = record { names = names; parameters = j.known.parameters; scopes = scopes; functions_allowed = allowed }

module _ (names : NamedTables) (j : Judged) (scopes : List Scope) (queries : List EnclosingQuery) (over : AllZip (IsOver j.known) scopes queries)
    (groups : (depth : ℕ) → nat_lt 0 depth ≡ true → GroupsAt j.known scopes queries depth) (allowed : Bool) where
  abbrev pub here : Around
  here = standing queries allowed false

  abbrev pub Free : Type 0
  Free = GroupsAt j.known scopes queries 0

  -- ---- value expressions

  abbrev pub KindOf : Expr Named → Typed → Type 0
  KindOf e x = kind_here j.known here e ≡ Ok x.kind

  -- with what follows from a set function in it
  value_judged : (C : Type 0) (e : Expr Named) (counts : Counts) → ((x : Bound) → bound scopes j.known.parameters allowed false e counts.functions ≡ Ok x → is_some_of x.calls ≡ true → C)
      → (o : Outcome Bound) → bound scopes j.known.parameters allowed false e counts.functions ≡ o → IfFault j (expr_sites j.known here e) o
      → IfJudged j (expr_sites j.known here e) Free C (KindOf e) (and_then o (λ b. Ok (value_found counts b)))
  value_judged C e counts called (Err f) is h = h
  value_judged C e counts called (Ok x) is h = record {
    part = kind_found j scopes queries over allowed false e counts.functions x is;
    free = free_found j scopes queries over allowed false e counts.functions x is;
    called = called x is;
  }

  pub value_judges : (e : Expr Named) → SpellsNoNull e → Judges j (expr_sites j.known here e) Free (allowed ≡ true) (KindOf e) (value (surrounded names j scopes allowed) e)
  value_judges e null counts =
      value_judged (allowed ≡ true) e counts (λ x is. allowed_if allowed x.calls (bound_placed scopes j.known.parameters allowed false e counts.functions x is).none_forbidden)
      (bound scopes j.known.parameters allowed false e counts.functions) refl (expr_faults j scopes queries over groups e null allowed false counts.functions)

  -- a column of a select list
  pub shown_judges : (C : Type 0) (e : Expr Named) → SpellsNoNull e → (is_some_of (set_functions e) ≡ true → C)
      → Judges j (expr_sites j.known here e) Free C (λ c. kind_here j.known here e ≡ Ok c.column.kind) (shown_column (surrounded names j scopes allowed) e)
  shown_judges C e null call =
      then_judges j (expr_sites j.known here e) Free C (KindOf e) (λ c. kind_here j.known here e ≡ Ok c.column.kind) (value (surrounded names j scopes allowed) e)
      (λ x. pure (record { tree = x.tree; column = record { name = item_name e; kind = x.kind } }))
      (λ counts. value_judged C e counts (λ x is some. call (called_found scopes j.known.parameters allowed false e counts.functions x is some))
      (bound scopes j.known.parameters allowed false e counts.functions) refl (expr_faults j scopes queries over groups e null allowed false counts.functions))
      (λ x is. pure_judges j (expr_sites j.known here e) Free C (λ c. kind_here j.known here e ≡ Ok c.column.kind) (record { tree = x.tree; column = record { name = item_name e; kind = x.kind } }) is)

  -- a value that is compared with one before it
  pub agreeing_judges : (e f : Expr Named) (k : Kind) → kind_here j.known here e ≡ Ok k → SpellsNoNull f → Judges j (compared_sites j.known here e f) Free (allowed ≡ true) Anything (agreeing (surrounded names j scopes allowed) k f)
  agreeing_judges e f k is null =
      then_judges j (compared_sites j.known here e f) Free (allowed ≡ true) (KindOf f) Anything (value (surrounded names j scopes allowed) f) (λ y. must (is_comparable k y.kind) fault.KindMismatch >> pure y.tree)
      (wider_judges j (expr_sites j.known here f) (compared_sites j.known here e f)
      (λ g h. fault_later j g alike (expr_sites j.known here e ++ expr_sites j.known here f) (fault_right j g (expr_sites j.known here e) (expr_sites j.known here f) h))
      Free (allowed ≡ true) (KindOf f) (value (surrounded names j scopes allowed) f) (value_judges f null))
      (λ y so. then_judges j (compared_sites j.known here e f) Free (allowed ≡ true) (λ u. is_comparable k y.kind ≡ true) Anything (must (is_comparable k y.kind) fault.KindMismatch) (λ _. pure y.tree)
      (must_judges j (compared_sites j.known here e f) Free (allowed ≡ true) (is_comparable k y.kind) fault.KindMismatch
      (λ differ. fault_here j fault.KindMismatch alike (expr_sites j.known here e ++ expr_sites j.known here f) (alike_breaks k y.kind (kind_here j.known here e) (kind_here j.known here f) is so differ)))
      (λ u t. pure_judges j (compared_sites j.known here e f) Free (allowed ≡ true) Anything y.tree tt))
    where
      alike : Site
      alike = Site.alike_wanted (kind_here j.known here e) (kind_here j.known here f)

  pub text_judges : (e : Expr Named) → SpellsNoNull e → Judges j (text_sites j.known here e) Free (allowed ≡ true) Anything (text (surrounded names j scopes allowed) e)
  text_judges e null =
      then_judges j (text_sites j.known here e) Free (allowed ≡ true) (KindOf e) Anything (value (surrounded names j scopes allowed) e) (λ x. must (is_text x.kind) fault.KindMismatch >> pure x.tree)
      (wider_judges j (expr_sites j.known here e) (text_sites j.known here e) (λ g h. fault_later j g (Site.text_wanted (kind_here j.known here e)) (expr_sites j.known here e) h)
      Free (allowed ≡ true) (KindOf e) (value (surrounded names j scopes allowed) e) (value_judges e null))
      (λ x is. then_judges j (text_sites j.known here e) Free (allowed ≡ true) (λ u. is_text x.kind ≡ true) Anything (must (is_text x.kind) fault.KindMismatch) (λ _. pure x.tree)
      (must_judges j (text_sites j.known here e) Free (allowed ≡ true) (is_text x.kind) fault.KindMismatch
      (λ differ. fault_here j fault.KindMismatch (Site.text_wanted (kind_here j.known here e)) (expr_sites j.known here e) (text_breaks x.kind (kind_here j.known here e) is differ)))
      (λ u t. pure_judges j (text_sites j.known here e) Free (allowed ≡ true) Anything x.tree tt))

  pub escape_judges : (escape : Option (Expr Named)) → EscapeSpellsNoNull escape → Judges j (escape_sites j.known here escape) Free (allowed ≡ true) Anything (escape_bound (surrounded names j scopes allowed) escape)
  escape_judges None null = pure_judges j [] Free (allowed ≡ true) Anything None tt
  escape_judges (Some e) null =
      then_judges j (text_sites j.known here e) Free (allowed ≡ true) Anything Anything (text (surrounded names j scopes allowed) e) (λ x. has_found a_status >> pure (Some x)) (text_judges e null)
      (λ x u. then_judges j (text_sites j.known here e) Free (allowed ≡ true) (λ u. ⊤) Anything (has_found a_status) (λ _. pure (Some x)) (has_found_judges j (text_sites j.known here e) Free (allowed ≡ true) a_status refl)
      (λ v w. pure_judges j (text_sites j.known here e) Free (allowed ≡ true) Anything (Some x) tt))

  -- ---- subqueries

  -- the rules know its columns
  pub record IsShown (q : Select Named) (s : NumberedSelect) : Type 0 where
    pub kinds : kinds_here j.known here q ≡ Ok (map (λ c. c.kind) (columns_of s))
    pub count : select_count j.known.tables q ≡ length (columns_of s)

  same_columns : (number : Option ℕ) (s : NumberedSelect) → columns_of (with_number number s) ≡ columns_of s
  same_columns number (NumberedSelect.select distinct list from filter groups columns can_fail unnumbered) = refl

  numbered_shown : (q : Select Named) (number : Option ℕ) (s : NumberedSelect) → IsShown q s → IsShown q (with_number number s)
  numbered_shown q number s h = record {
    kinds = h.kinds ∙ ap (λ cs. Ok (map (λ c. c.kind) cs)) (sym (same_columns number s));
    count = h.count ∙ ap length (sym (same_columns number s));
  }

  -- a subquery has no column of the query around it that stands free there
  subquery_judged : (sites : List Site) (G : Type 0) (q : Select Named) (x : Found NumberedSelect) (closed : Bool) → IsJudged j sites G (allowed ≡ true) (IsShown q) x
      → IsJudged j sites Free (allowed ≡ true) (IsShown q)
      (if closed then record x { part = with_number (Some x.subqueries) x.part; findings = of_subquery x.findings; subqueries = x.subqueries + 1 } else record x { findings = of_subquery x.findings })
  subquery_judged sites G q x true h = record { part = numbered_shown q (Some x.subqueries) x.part h.part; free = λ t grouped. cc; called = h.called }
  subquery_judged sites G q x false h = record { part = h.part; free = λ t grouped. cc; called = h.called }

  subquery_found : (sites : List Site) (q : Select Named) (o : Outcome (Found NumberedSelect)) → IfJudged j sites ⊥ (allowed ≡ true) (IsShown q) o → IfJudged j sites Free (allowed ≡ true) (IsShown q) (and_then o (λ x. Ok (as_subquery x)))
  subquery_found sites q (Ok x) h = subquery_judged sites ⊥ q x (nat_eq x.findings.values.reach 0) h
  subquery_found sites q (Err f) h = h

  module _ (sites : List Site) (q : Select Named) (s : Binding NumberedSelect) (is : Judges j sites ⊥ (allowed ≡ true) (IsShown q) s) where
    pub subquery_judges : Judges j sites Free (allowed ≡ true) (IsShown q) (subquery s)
    subquery_judges counts = subquery_found sites q (s counts) (is counts)

  two_or_more : (n : ℕ) → not (suc (suc n) == 1) ≡ true
  two_or_more n = grind (arith, nat_tests)

  module _ (e : Expr Named) (q : Select Named) where
    abbrev alike_column : Site
    alike_column = Site.alike_wanted (kind_here j.known here e) (first_kind (kinds_here j.known here q))

    abbrev one_column : Site
    one_column = Site.counts (select_count j.known.tables q) 1

    -- a value beside a subquery
    abbrev pub beside_sites : List Site
    beside_sites = beside_subquery j.known here e q ++ select_sites j.known here q

    one_column_judges : (k : Kind) → kind_here j.known here e ≡ Ok k → (columns : List ResultColumn) → kinds_here j.known here q ≡ Ok (map (λ c. c.kind) columns) → select_count j.known.tables q ≡ length columns
        → Judges j beside_sites Free (allowed ≡ true) Anything (must_be_beside k columns)
    one_column_judges k is [] kinds count counts = counted (ap (λ n. not (n == 1)) count)
      where
        counted : not (select_count j.known.tables q == 1) ≡ true → has_fault j beside_sites fault.CountMismatch ≡ true
        counted differ =
            fault_later j fault.CountMismatch alike_column (one_column ∷ Site.subquery_read ∷ expr_sites j.known here e ++ select_sites j.known here q)
            (fault_here j fault.CountMismatch one_column (Site.subquery_read ∷ expr_sites j.known here e ++ select_sites j.known here q) differ)
    one_column_judges k is (c ∷ []) kinds count counts =
        must_kept (must_judges j beside_sites Free (allowed ≡ true) (is_comparable k c.kind) fault.KindMismatch
        (λ differ. fault_here j fault.KindMismatch alike_column (one_column ∷ Site.subquery_read ∷ expr_sites j.known here e ++ select_sites j.known here q)
        (alike_breaks k c.kind (kind_here j.known here e) (first_kind (kinds_here j.known here q)) is (ap first_kind kinds) differ))) counts
      where
        must_kept : Judges j beside_sites Free (allowed ≡ true) (λ u. is_comparable k c.kind ≡ true) (must (is_comparable k c.kind) fault.KindMismatch)
            → Judges j beside_sites Free (allowed ≡ true) Anything (must (is_comparable k c.kind) fault.KindMismatch)
        must_kept h = more_judges j beside_sites beside_sites (λ g w. w) Free Free (allowed ≡ true) (allowed ≡ true) (λ u. is_comparable k c.kind ≡ true) Anything (must (is_comparable k c.kind) fault.KindMismatch) (λ g. g) (λ c. c) (λ u t. tt) h
    one_column_judges k is (c ∷ d ∷ others) kinds count counts =
        fault_later j fault.CountMismatch alike_column (one_column ∷ Site.subquery_read ∷ expr_sites j.known here e ++ select_sites j.known here q)
        (fault_here j fault.CountMismatch one_column (Site.subquery_read ∷ expr_sites j.known here e ++ select_sites j.known here q) (ap (λ n. not (n == 1)) count ∙ two_or_more (length others)))

    module _ (s : Binding NumberedSelect) (selected : Judges j (select_sites j.known here q) ⊥ (allowed ≡ true) (IsShown q) s) (k : Kind) (is : kind_here j.known here e ≡ Ok k) where
      pub beside_judges : Judges j beside_sites Free (allowed ≡ true) Anything (beside k s)
      beside_judges =
          then_judges j beside_sites Free (allowed ≡ true) (IsShown q) Anything (subquery s) (λ x. must_be_beside k (columns_of x) >> pure x)
          (wider_judges j (select_sites j.known here q) beside_sites (λ g h. fault_right j g (beside_subquery j.known here e q) (select_sites j.known here q) h) Free (allowed ≡ true) (IsShown q) (subquery s)
          (subquery_judges (select_sites j.known here q) q s selected))
          (λ x shown. then_judges j beside_sites Free (allowed ≡ true) Anything Anything (must_be_beside k (columns_of x)) (λ _. pure x) (one_column_judges k is (columns_of x) shown.kinds shown.count)
          (λ u t. pure_judges j beside_sites Free (allowed ≡ true) Anything x tt))

      pub scalar_judges : Judges j beside_sites Free (allowed ≡ true) Anything (scalar k s)
      scalar_judges =
          then_judges j beside_sites Free (allowed ≡ true) Anything Anything (beside k s) (λ x. has_found a_status >> pure x) beside_judges
          (λ x u. then_judges j beside_sites Free (allowed ≡ true) (λ u. ⊤) Anything (has_found a_status) (λ _. pure x) (has_found_judges j beside_sites Free (allowed ≡ true) a_status refl)
          (λ v w. pure_judges j beside_sites Free (allowed ≡ true) Anything x tt))

    -- the value before it
    pub before_judges : SpellsNoNull e → Judges j beside_sites Free (allowed ≡ true) (KindOf e) (value (surrounded names j scopes allowed) e)
    before_judges null =
        wider_judges j (expr_sites j.known here e) beside_sites
        (λ g h. fault_left j g (beside_subquery j.known here e q) (select_sites j.known here q)
        (fault_later j g alike_column (one_column ∷ Site.subquery_read ∷ expr_sites j.known here e) (fault_later j g one_column (Site.subquery_read ∷ expr_sites j.known here e) (fault_later j g Site.subquery_read (expr_sites j.known here e) h))))
        Free (allowed ≡ true) (KindOf e) (value (surrounded names j scopes allowed) e) (value_judges e null)
