-- The values and subqueries of a predicate that is bound break no rule at its sites (ISO/IEC 9075:1992, 7.11 and 8.2 to 8.7).
use Rattle.std.proofs.Common.{◌≡◌, ℕ, Bool, true, false, not, ◌||◌, List, [], ◌∷◌, ◌++◌, length, map, Option, Some, None, Ok, refl, sym, ap, subst, ◌∙◌}
use Rattle.std.specs.List.{AllZip}
use Rattle.std.specs.Prelude.{⊤, ◌==◌, nat_lt}
use Rattle.sq_value.specs.declared.domain.Kind.{Kind}
use Rattle.sq_value.specs.declared.domain.Kind.TheVariants.{Chars, Num, Vary}
use Rattle.sq_meaning.specs.Spelled.{Named}
use Rattle.sq_meaning.specs.Status as status
use Rattle.sq_meaning.specs.Syntax.{Expr, Select}
use Rattle.sq_meaning.specs.WellFormed.{is_comparable, is_text}
use Rattle.sq_meaning.specs.Binding.{Judged, is_of_number, kind_mismatch}
use Rattle.sq_meaning.specs.Site.{Around, EnclosingQuery, Site, beside_subquery, compared_sites, escape_sites, expr_sites, first_kind, kind_here, kinds_here, select_count, select_sites, text_sites}
use Rattle.sq_meaning.specs.declared.fault.BindingFault.{BindingFault}
use Rattle.sq_meaning.specs.declared.fault.BindingFault.TheVariants as fault
use Rattle.sq_binding.specs.Condition.{agreeing, as_subquery, beside, escape_bound, must_be_beside, scalar, subquery, text}
use Rattle.sq_binding.specs.Expression.{bound}
use Rattle.sq_binding.specs.Found.{Binding, Counts, Found, ◌>>=◌, ◌>>◌, after, has_found, joined, must, pure, then_joined}
use Rattle.sq_binding.specs.From.{NamedTables}
use Rattle.sq_binding.specs.NumberedCondition.{NumberedSelect, ResultColumn, columns_of}
use Rattle.sq_binding.specs.QueryFindings.{a_status}
use Rattle.sq_binding.specs.Scope.{Scope}
use Rattle.sq_binding.specs.Select.{Surroundings, Typed, value, value_found}
use Rattle.sq_binding.proofs.Faultless.Clean.{Clean, alike_clean, clean_both, clean_first, clean_more, clean_rest, counts_clean, no_site, steps_of, subquery_clean, text_clean}
use Rattle.sq_binding.proofs.Faultless.CleanExprs.{Loose, TightAt, expr_clean, found_left, found_right}
use Rattle.sq_binding.proofs.FaultsFound.FoundKinds.{kind_found, standing}
use Rattle.sq_binding.proofs.FaultsFound.Judged.{IfJudged, Judges}
use Rattle.sq_binding.proofs.FaultsFound.Known.{GroupsAt, IsOver}
use Rattle.sq_binding.proofs.FaultsFound.PredicateFaults.{IsShown, KindOf, surrounded}

-- ---- parts that are bound one after the other

pub record After {A B : Type 0} (b : Binding A) (f : A → Binding B) (counts : Counts) (z : Found B) : Type 0 where
  pub first : Found A
  pub second : Found B
  pub is_first : b counts ≡ Ok first
  pub is_second : f first.part (after counts first) ≡ Ok second
  pub is_joined : joined first second ≡ z

pub after_of : {A B : Type 0} (b : Binding A) (f : A → Binding B) (counts : Counts) (z : Found B) → (b >>= f) counts ≡ Ok z → After b f counts z
after_of b f counts z e =
    let steps = steps_of (b counts) (λ x. then_joined x (f x.part (after counts x))) z e in
    let more = steps_of (f steps.step.part (after counts steps.step)) (λ y. Ok (joined steps.step y)) z steps.second in
    let made = more.second in
    let same : joined steps.step more.step ≡ z = cc in
    record { first = steps.step; second = more.step; is_first = steps.first; is_second = more.first; is_joined = same }

-- something is known of what is bound
abbrev pub KnownIf : {A : Type 0} → (A → Type 0) → Binding A → Type 0
KnownIf {A} P b = (counts : Counts) (z : Found A) → b counts ≡ Ok z → P z.part

-- what is bound breaks no rule at these sites, if Free holds where a column stands free
abbrev pub CleanIf : {A : Type 0} → Judged → (Free : Type 0) → List Site → Binding A → Type 0
CleanIf {A} j Free sites b = (counts : Counts) (z : Found A) → b counts ≡ Ok z → (z.findings.values.has_ungrouped ≡ true → Free) → Clean j sites

pub known_of : {A : Type 0} (j : Judged) (sites : List Site) (G C : Type 0) (P : A → Type 0) (b : Binding A) → Judges j sites G C P b → KnownIf P b
known_of j sites G C P b h counts z is = (subst (IfJudged j sites G C P) is (h counts)).part

module _ (j : Judged) (Free : Type 0) where
  pub then_clean : {A B : Type 0} (S T U : List Site) (P : A → Type 0) (b : Binding A) (f : A → Binding B) → KnownIf P b → CleanIf j Free S b → ((x : A) → P x → CleanIf j Free T (f x)) → (Clean j S → Clean j T → Clean j U)
      → CleanIf j Free U (b >>= f)
  then_clean {A} {B} S T U P b f known h g join counts z is loose =
      let s = after_of b f counts z is in
      let free : (s.first.findings.values.has_ungrouped || s.second.findings.values.has_ungrouped) ≡ true → Free = λ t. loose (ap (λ (x : Found B). x.findings.values.has_ungrouped) (sym s.is_joined) ∙ t) in
      join (h counts s.first s.is_first (found_left s.first.findings.values.has_ungrouped s.second.findings.values.has_ungrouped free))
      (g s.first.part (known counts s.first s.is_first) (after counts s.first) s.second s.is_second (found_right s.first.findings.values.has_ungrouped s.second.findings.values.has_ungrouped free))

  -- nothing is asked at no site
  pub nothing_asked : {A : Type 0} (b : Binding A) → CleanIf j Free [] b
  nothing_asked b counts z is loose = no_site j

  -- a part of which nothing is asked behind it
  pub only_first : {A B : Type 0} (S : List Site) (b : Binding A) (f : A → Binding B) → CleanIf j Free S b → CleanIf j Free S (b >>= f)
  only_first S b f h = then_clean S [] S (λ x. ⊤) b f (λ counts z is. tt) h (λ x u. nothing_asked (f x)) (λ c d. c)

  pub must_true : (test : Bool) (f : BindingFault) (counts : Counts) (z : Found (Unit {0})) → must test f counts ≡ Ok z → test ≡ true
  must_true true f counts z e = refl
  must_true false f counts z e = cc

  -- a test that passed
  pub must_clean : {B : Type 0} (S : List Site) (test : Bool) (f : BindingFault) (rest : Binding B) → (test ≡ true → Clean j S) → CleanIf j Free S (must test f >> rest)
  must_clean S test f rest h counts z is loose = let s = after_of (must test f) (λ _. rest) counts z is in h (must_true test f counts s.first s.is_first)

pub alike_kept : (k l : Kind) (o r : status.Outcome Kind) → o ≡ Ok k → r ≡ Ok l → is_comparable k l ≡ true → kind_mismatch (Site.alike_wanted o r) ≡ false
alike_kept (Num s) (Num t) o r e f so = λ i. kind_mismatch (Site.alike_wanted (e i) (f i))
alike_kept (Num s) (Chars n) o r e f so = cc
alike_kept (Num s) (Vary n) o r e f so = cc
alike_kept (Chars m) (Num t) o r e f so = cc
alike_kept (Chars m) (Chars n) o r e f so = λ i. kind_mismatch (Site.alike_wanted (e i) (f i))
alike_kept (Chars m) (Vary n) o r e f so = λ i. kind_mismatch (Site.alike_wanted (e i) (f i))
alike_kept (Vary m) (Num t) o r e f so = cc
alike_kept (Vary m) (Chars n) o r e f so = λ i. kind_mismatch (Site.alike_wanted (e i) (f i))
alike_kept (Vary m) (Vary n) o r e f so = λ i. kind_mismatch (Site.alike_wanted (e i) (f i))

text_kept : (k : Kind) (o : status.Outcome Kind) → o ≡ Ok k → is_text k ≡ true → is_of_number o ≡ false
text_kept (Num s) o e so = cc
text_kept (Chars n) o e so = ap is_of_number e
text_kept (Vary n) o e so = ap is_of_number e

module _ (names : NamedTables) (j : Judged) (scopes : List Scope) (queries : List EnclosingQuery) (over : AllZip (IsOver j.known) scopes queries)
    (groups : (depth : ℕ) → nat_lt 0 depth ≡ true → GroupsAt j.known scopes queries depth) (tight : (depth : ℕ) → TightAt j.known scopes queries depth) (allowed : Bool) where
  abbrev here : Around
  here = standing queries allowed false

  abbrev a : Surroundings
  a = surrounded names j scopes allowed

  abbrev Free : Type 0
  Free = Loose j.known queries

  abbrev KindIs : Expr Named → Typed → Type 0
  KindIs e = KindOf names j scopes queries over groups allowed e

  pub value_known : (e : Expr Named) → KnownIf (KindIs e) (value a e)
  value_known e counts z is =
      let steps = steps_of (bound scopes j.known.parameters allowed false e counts.functions) (λ b. Ok (value_found counts b)) z is in
      let made = steps.second in
      let same : value_found counts steps.step ≡ z = cc in
      kind_found j scopes queries over allowed false e counts.functions steps.step steps.first ∙ ap (λ (z : Found Typed). Ok z.part.kind) same

  pub value_clean : (e : Expr Named) → CleanIf j Free (expr_sites j.known here e) (value a e)
  value_clean e counts z is loose =
      let steps = steps_of (bound scopes j.known.parameters allowed false e counts.functions) (λ b. Ok (value_found counts b)) z is in
      let made = steps.second in
      let same : value_found counts steps.step ≡ z = cc in
      expr_clean j scopes queries over tight e allowed false counts.functions steps.step steps.first (λ t u. loose (ap (λ (z : Found Typed). z.findings.values.has_ungrouped) (sym same) ∙ u))

  -- a value that is compared with one before it
  pub agreeing_clean : (e f : Expr Named) (k : Kind) → kind_here j.known here e ≡ Ok k → CleanIf j Free (Site.alike_wanted (kind_here j.known here e) (kind_here j.known here f) ∷ expr_sites j.known here f) (agreeing a k f)
  agreeing_clean e f k is =
      then_clean j Free (expr_sites j.known here f) (alike ∷ []) (alike ∷ expr_sites j.known here f) (KindIs f) (value a f) (λ y. must (is_comparable k y.kind) fault.KindMismatch >> pure y.tree) (value_known f) (value_clean f)
      (λ y so. must_clean j Free (alike ∷ []) (is_comparable k y.kind) fault.KindMismatch (pure y.tree)
      (λ t. clean_more j alike [] (alike_clean j (kind_here j.known here e) (kind_here j.known here f) (alike_kept k y.kind (kind_here j.known here e) (kind_here j.known here f) is so t)) (no_site j)))
      (λ c d. clean_more j alike (expr_sites j.known here f) (clean_first j alike [] d) c)
    where
      alike : Site
      alike = Site.alike_wanted (kind_here j.known here e) (kind_here j.known here f)

  -- the sites of both
  pub compared_clean : (e f : Expr Named) → Clean j (expr_sites j.known here e) → Clean j (Site.alike_wanted (kind_here j.known here e) (kind_here j.known here f) ∷ expr_sites j.known here f) → Clean j (compared_sites j.known here e f)
  compared_clean e f c d =
      clean_more j alike (expr_sites j.known here e ++ expr_sites j.known here f) (clean_first j alike (expr_sites j.known here f) d)
      (clean_both j (expr_sites j.known here e) (expr_sites j.known here f) c (clean_rest j alike (expr_sites j.known here f) d))
    where
      alike : Site
      alike = Site.alike_wanted (kind_here j.known here e) (kind_here j.known here f)

  pub text_is_clean : (e : Expr Named) → CleanIf j Free (text_sites j.known here e) (text a e)
  text_is_clean e =
      then_clean j Free (expr_sites j.known here e) (wanted ∷ []) (text_sites j.known here e) (KindIs e) (value a e) (λ x. must (is_text x.kind) fault.KindMismatch >> pure x.tree) (value_known e) (value_clean e)
      (λ x is. must_clean j Free (wanted ∷ []) (is_text x.kind) fault.KindMismatch (pure x.tree) (λ t. clean_more j wanted [] (text_clean j (kind_here j.known here e) (text_kept x.kind (kind_here j.known here e) is t)) (no_site j)))
      (λ c d. clean_more j wanted (expr_sites j.known here e) (clean_first j wanted [] d) c)
    where
      wanted : Site
      wanted = Site.text_wanted (kind_here j.known here e)

  pub escape_is_clean : (escape : Option (Expr Named)) → CleanIf j Free (escape_sites j.known here escape) (escape_bound a escape)
  escape_is_clean None = nothing_asked j Free (escape_bound a None)
  escape_is_clean (Some e) = only_first j Free (text_sites j.known here e) (text a e) (λ x. has_found a_status >> pure (Some x)) (text_is_clean e)

  -- ---- subqueries

  module _ (e : Expr Named) (q : Select Named) (s : Binding NumberedSelect) (clean : (counts : Counts) (z : Found NumberedSelect) → s counts ≡ Ok z → Clean j (select_sites j.known here q))
      (shown : KnownIf (IsShown names j scopes queries over groups allowed q) (subquery s)) where
    pub subquery_is_clean : CleanIf j Free (select_sites j.known here q) (subquery s)
    subquery_is_clean counts z is loose = let steps = steps_of (s counts) (λ x. Ok (as_subquery x)) z is in clean counts steps.step steps.first

    abbrev alike_column : Site
    alike_column = Site.alike_wanted (kind_here j.known here e) (first_kind (kinds_here j.known here q))

    abbrev one_column : Site
    one_column = Site.counts (select_count j.known.tables q) 1

    column_clean : (k : Kind) → kind_here j.known here e ≡ Ok k → (columns : List ResultColumn) → kinds_here j.known here q ≡ Ok (map (λ c. c.kind) columns) → select_count j.known.tables q ≡ length columns
        → (rest : Binding NumberedSelect) → CleanIf j Free (alike_column ∷ one_column ∷ Site.subquery_read ∷ []) (must_be_beside k columns >> rest)
    column_clean k is [] kinds count rest counts z so loose = cc
    column_clean k is (c ∷ []) kinds count rest counts z so loose =
        must_clean j Free (alike_column ∷ one_column ∷ Site.subquery_read ∷ []) (is_comparable k c.kind) fault.KindMismatch rest
        (λ t. clean_more j alike_column (one_column ∷ Site.subquery_read ∷ [])
        (alike_clean j (kind_here j.known here e) (first_kind (kinds_here j.known here q)) (alike_kept k c.kind (kind_here j.known here e) (first_kind (kinds_here j.known here q)) is (ap first_kind kinds) t))
        (clean_more j one_column (Site.subquery_read ∷ []) (counts_clean j (select_count j.known.tables q) 1 (ap (λ n. not (n == 1)) count)) (clean_more j Site.subquery_read [] (subquery_clean j) (no_site j))))
        counts z so loose
    column_clean k is (c ∷ d ∷ others) kinds count rest counts z so loose = cc

    -- the sites of a value and a subquery that is compared with it, but for those of the value
    abbrev pub beside_sites : List Site
    beside_sites = (alike_column ∷ one_column ∷ Site.subquery_read ∷ []) ++ select_sites j.known here q

    pub beside_is_clean : (k : Kind) → kind_here j.known here e ≡ Ok k → CleanIf j Free beside_sites (beside k s)
    beside_is_clean k is =
        then_clean j Free (select_sites j.known here q) (alike_column ∷ one_column ∷ Site.subquery_read ∷ []) beside_sites (IsShown names j scopes queries over groups allowed q) (subquery s) (λ x. must_be_beside k (columns_of x) >> pure x)
        shown subquery_is_clean (λ x are. column_clean k is (columns_of x) are.kinds are.count (pure x)) (λ c d. clean_both j (alike_column ∷ one_column ∷ Site.subquery_read ∷ []) (select_sites j.known here q) d c)

    pub scalar_is_clean : (k : Kind) → kind_here j.known here e ≡ Ok k → CleanIf j Free beside_sites (scalar k s)
    scalar_is_clean k is = only_first j Free beside_sites (beside k s) (λ x. has_found a_status >> pure x) (beside_is_clean k is)

    -- with those of the value
    pub with_value : Clean j (expr_sites j.known here e) → Clean j beside_sites → Clean j (beside_subquery j.known here e q ++ select_sites j.known here q)
    with_value c d =
        clean_more j alike_column (one_column ∷ Site.subquery_read ∷ expr_sites j.known here e ++ select_sites j.known here q) (clean_first j alike_column (one_column ∷ Site.subquery_read ∷ select_sites j.known here q) d)
        (clean_more j one_column (Site.subquery_read ∷ expr_sites j.known here e ++ select_sites j.known here q)
        (clean_first j one_column (Site.subquery_read ∷ select_sites j.known here q) (clean_rest j alike_column (one_column ∷ Site.subquery_read ∷ select_sites j.known here q) d))
        (clean_more j Site.subquery_read (expr_sites j.known here e ++ select_sites j.known here q) (subquery_clean j)
        (clean_both j (expr_sites j.known here e) (select_sites j.known here q) c
        (clean_rest j Site.subquery_read (select_sites j.known here q) (clean_rest j one_column (Site.subquery_read ∷ select_sites j.known here q) (clean_rest j alike_column (one_column ∷ Site.subquery_read ∷ select_sites j.known here q) d))))))
