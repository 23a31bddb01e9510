-- Parts of a query that are bound alike over scopes that differ in the positions of columns alone (ISO/IEC 9075:1992, 7.3 to 7.9).
use Rattle.std.proofs.Common.{◌≡◌, ℕ, suc, ◌+◌, Bool, true, false, ◌&&◌, ◌||◌, List, [], ◌∷◌, length, map, Option, Some, None, Ok, arith, refl, sym, ap, subst, ◌∙◌}
use Rattle.std.proofs.lemmas.Bool.Decides.{nat_tests}
use Rattle.std.proofs.lemmas.List.{length-append}
use Rattle.std.specs.List.{AllZip, list_any}
use Rattle.std.specs.Option.{option_map}
use Rattle.std.specs.Prelude.{⊤, ◌==◌, if◌then◌else◌, nat_lt}
use Rattle.sq_value.specs.declared.domain.Kind.{Kind}
use Rattle.sq_tree.specs.declared.names.ColumnReference.{ColumnReference}
use Rattle.sq_meaning.specs.Environment.{Place}
use Rattle.sq_meaning.specs.SortKeys.{item_name}
use Rattle.sq_meaning.specs.Spelled.{Named}
use Rattle.sq_meaning.specs.Syntax.{Expr, SelectList, all_columns, expressions}
use Rattle.sq_meaning.specs.Tables.{Declared}
use Rattle.sq_meaning.specs.WellFormed.{is_comparable, is_text}
use Rattle.sq_meaning.specs.declared.fault.BindingFault.{BindingFault}
use Rattle.sq_meaning.specs.declared.fault.BindingFault.TheVariants as fault
use Rattle.sq_binding.specs.Condition.{agreeing, escape_bound, must_agree, text}
use Rattle.sq_binding.specs.Expression.{bound, column_findings, place_findings, place_of_found}
use Rattle.sq_binding.specs.Found.{Binding, Counts, Found, ◌>>=◌, ◌>>◌, after, each, has_found, joined, must, outcome, pure, refused, then_joined}
use Rattle.sq_binding.specs.From.{NamedTables}
use Rattle.sq_binding.specs.Outcome.{Outcome, or_fault}
use Rattle.sq_binding.specs.QueryFindings.{QueryFindings, a_status, both, of_values}
use Rattle.sq_binding.specs.Scope.{FoundColumn, FromItem, ItemColumn, Scope, column_meant, column_numbered, fits, found_in, further_out, is_grouped, is_here, is_last, nearest}
use Rattle.sq_binding.specs.Select.{ShownColumn, Surroundings, Typed, columns_of_items, grouping_column, grouping_place, list_bound, most_columns, shown_column, value, value_found}
use Rattle.sq_binding.proofs.OneTable.Alike.{Both, Like, LikeBound, LikeColumns, LikeFound, both_same, both_then, expr_alike, last_alike, meant_alike}

abbrev pub Anything : {A B : Type 0} → A → B → Type 0
Anything x y = ⊤

-- ---- parts one after the other

-- R holds of both parts, and the same is found in both.
pub record LikePart {A B : Type 0} (R : A → B → Type 0) (x : Found A) (y : Found B) : Type 0 where
  pub part : R x.part y.part
  pub count : length x.calls ≡ length y.calls
  pub can_fail : x.calls_can_fail ≡ y.calls_can_fail
  pub findings : x.findings ≡ y.findings
  pub subqueries : x.subqueries ≡ y.subqueries

abbrev pub Alike : {A B : Type 0} → (A → B → Type 0) → Binding A → Binding B → Type 0
Alike R b c = (counts : Counts) → Both (LikePart R) (b counts) (c counts)

joined_alike : {A B C D : Type 0} (R : A → B → Type 0) (S : C → D → Type 0) (x : Found A) (y : Found B) → LikePart R x y → (o : Outcome (Found C)) (p : Outcome (Found D)) → Both (LikePart S) o p
    → Both (LikePart S) (then_joined x o) (then_joined y p)
joined_alike R S x y l o p h =
    both_then (LikePart S) (LikePart S) o p (λ z. Ok (joined x z)) (λ w. Ok (joined y w)) h
    (λ z w m. record {
      part = m.part;
      count = length-append x.calls z.calls ∙ (λ i. l.count i + m.count i) ∙ sym (length-append y.calls w.calls);
      can_fail = λ i. l.can_fail i || m.can_fail i;
      findings = λ i. both (l.findings i) (m.findings i);
      subqueries = m.subqueries;
    })

pub then_alike : {A B C D : Type 0} (R : A → B → Type 0) (S : C → D → Type 0) (b : Binding A) (c : Binding B) (f : A → Binding C) (g : B → Binding D) → Alike R b c → ((x : A) (y : B) → R x y → Alike S (f x) (g y)) → Alike S (b >>= f) (c >>= g)
then_alike R S b c f g h k counts =
    both_then (LikePart R) (LikePart S) (b counts) (c counts) (λ x. then_joined x (f x.part (after counts x))) (λ y. then_joined y (g y.part (after counts y))) (h counts)
    (λ x y l. joined_alike R S x y l (f x.part (after counts x)) (g y.part (after counts y))
    (subst (λ n. Both (LikePart S) (f x.part (after counts x)) (g y.part n)) (λ i. record { functions = counts.functions + l.count i; subqueries = l.subqueries i }) (k x.part y.part l.part (after counts x))))

pub pure_alike : {A B : Type 0} (R : A → B → Type 0) (x : A) (y : B) → R x y → Alike R (pure x) (pure y)
pure_alike R x y h counts = record { part = h; count = refl; can_fail = refl; findings = refl; subqueries = refl }

-- what is bound the same is bound alike
pub same_alike : {A : Type 0} (R : A → A → Type 0) → ((x : A) → R x x) → (b : Binding A) → Alike R b b
same_alike R same b counts = both_same (LikePart R) (λ x. record { part = same x.part; count = refl; can_fail = refl; findings = refl; subqueries = refl }) (b counts)

pub one_alike : {A B C D : Type 0} (R : A → B → Type 0) (b : Binding A) (c : Binding B) (f : A → C) (g : B → D) → Alike R b c → Alike Anything (b >>= λ x. pure (f x)) (c >>= λ x. pure (g x))
one_alike R b c f g h = then_alike R Anything b c (λ x. pure (f x)) (λ x. pure (g x)) h (λ x y l. pure_alike Anything (f x) (g y) tt)

pub each_alike : {A B C : Type 0} (R : B → C → Type 0) (f : A → Binding B) (g : A → Binding C) → ((x : A) → Alike R (f x) (g x)) → (xs : List A) → Alike (AllZip R) (each f xs) (each g xs)
each_alike R f g h [] = pure_alike (AllZip R) [] [] tt
each_alike R f g h (x ∷ xs) =
    then_alike R (AllZip R) (f x) (g x) (λ y. each f xs >>= λ ys. pure (y ∷ ys)) (λ y. each g xs >>= λ ys. pure (y ∷ ys)) (h x)
    (λ y z r. then_alike (AllZip R) (AllZip R) (each f xs) (each g xs) (λ ys. pure (y ∷ ys)) (λ ys. pure (z ∷ ys)) (each_alike R f g h xs) (λ ys zs rs. pure_alike (AllZip R) (y ∷ ys) (z ∷ zs) (r, rs)))

pub outcome_alike : {A B : Type 0} (R : A → B → Type 0) (o : Outcome A) (p : Outcome B) → Both R o p → Alike R (outcome o) (outcome p)
outcome_alike R o p h counts = both_then R (LikePart R) o p (λ x. pure x counts) (λ y. pure y counts) h (λ x y r. record { part = r; count = refl; can_fail = refl; findings = refl; subqueries = refl })

pub must_alike : (t u : Bool) → t ≡ u → (f : BindingFault) → Alike Anything (must t f) (must u f)
must_alike t u e f = subst (λ u. Alike Anything (must t f) (must u f)) e (same_alike Anything (λ x. tt) (must t f))

found_alike : (x y : QueryFindings) → x ≡ y → Alike Anything (has_found x) (has_found y)
found_alike x y e counts = record { part = tt; count = refl; can_fail = refl; findings = e; subqueries = refl }

scope_columns : (g : Option (List Place)) (item : ℕ) (c : Option ItemColumn) → LikeColumns g g item c c
scope_columns g item None = tt
scope_columns g item (Some c) = (refl, refl)

pub scope_same : (s : Scope) → Like s s
scope_same s = record { named = refl; columns = λ at. scope_columns s.grouping at.0 (column_numbered s at) }

-- ---- values

abbrev pub SameKind : Typed → Typed → Type 0
SameKind x y = x.kind ≡ y.kind

module _ (names others : NamedTables) (parameters : List Declared) (scopes more : List Scope) (like : AllZip Like scopes more) (allowed : Bool) where
  abbrev pub here : Surroundings
  here = record { names = names; parameters = parameters; scopes = scopes; functions_allowed = allowed }

  abbrev pub there : Surroundings
  there = record { names = others; parameters = parameters; scopes = more; functions_allowed = allowed }

  pub value_alike : (e : Expr Named) → Alike SameKind (value here e) (value there e)
  value_alike e counts =
      both_then LikeBound (LikePart SameKind) (bound scopes parameters allowed false e counts.functions) (bound more parameters allowed false e counts.functions) (λ b. Ok (value_found counts b)) (λ b. Ok (value_found counts b))
      (expr_alike scopes more like parameters e allowed false counts.functions)
      (λ x y l. record { part = l.kind; count = l.count; can_fail = l.can_fail; findings = ap of_values l.findings; subqueries = refl })

  pub agreeing_alike : (k l : Kind) → k ≡ l → (e : Expr Named) → Alike Anything (agreeing here k e) (agreeing there l e)
  agreeing_alike k l same e =
      then_alike SameKind Anything (value here e) (value there e) (λ x. must_agree k x.kind >> pure x.tree) (λ x. must_agree l x.kind >> pure x.tree) (value_alike e)
      (λ x y h. one_alike Anything (must_agree k x.kind) (must_agree l y.kind) (λ _. x.tree) (λ _. y.tree) (must_alike (is_comparable k x.kind) (is_comparable l y.kind) (λ i. is_comparable (same i) (h i)) fault.KindMismatch))

  pub text_alike : (e : Expr Named) → Alike Anything (text here e) (text there e)
  text_alike e =
      then_alike SameKind Anything (value here e) (value there e) (λ x. must (is_text x.kind) fault.KindMismatch >> pure x.tree) (λ x. must (is_text x.kind) fault.KindMismatch >> pure x.tree) (value_alike e)
      (λ x y h. one_alike Anything (must (is_text x.kind) fault.KindMismatch) (must (is_text y.kind) fault.KindMismatch) (λ _. x.tree) (λ _. y.tree) (must_alike (is_text x.kind) (is_text y.kind) (ap is_text h) fault.KindMismatch))

  pub escape_alike : (e : Option (Expr Named)) → Alike Anything (escape_bound here e) (escape_bound there e)
  escape_alike None = same_alike Anything (λ x. tt) (escape_bound here None)
  escape_alike (Some e) =
      then_alike Anything Anything (text here e) (text there e) (λ x. has_found a_status >> pure (Some x)) (λ x. has_found a_status >> pure (Some x)) (text_alike e)
      (λ x y h. one_alike Anything (has_found a_status) (has_found a_status) (λ _. Some x) (λ _. Some y) (same_alike Anything (λ x. tt) (has_found a_status)))

-- ---- GROUP BY

-- two places are alike: the same place here, or one further out in both
abbrev pub LikePlace : Place → Place → Type 0
LikePlace p q = (item column : ℕ) → is_here item column p ≡ is_here item column q

abbrev GroupFound : FoundColumn → FoundColumn → Type 0
GroupFound f g = LikeFound f g × LikePlace (place_of_found f) (place_of_found g)

found_same : (f : FoundColumn) → GroupFound f f
found_same f = (record { depth = refl; item = refl; kind = refl; grouped = refl; outermost = refl }, λ item column. refl)

not_here : (n : ℕ) (b c : Bool) → (suc n == 0 && b && c) ≡ false
not_here n b c = let far : (suc n == 0) ≡ false = grind (arith, nat_tests) in ap (λ t. t && b && c) far

further_alike : (f g : FoundColumn) → LikeFound f g → GroupFound (further_out f) (further_out g)
further_alike f g l = (
  record { depth = λ i. suc (l.depth i); item = l.item; kind = l.kind; grouped = l.grouped; outermost = l.outermost },
  λ item column. not_here f.depth (f.item == item) (f.column.position == column) ∙ sym (not_here g.depth (g.item == item) (g.column.position == column)),
)

nearest_group : (s : Scope) (outermost : Bool) (ats : List (ℕ × ℕ)) (o p : Outcome FoundColumn) → Both LikeFound o p → Both GroupFound (nearest s outermost ats o) (nearest s outermost ats p)
nearest_group s outermost [] o p h = both_then LikeFound GroupFound o p (λ found. Ok (further_out found)) (λ found. Ok (further_out found)) h further_alike
nearest_group s outermost (at ∷ []) o p h = both_same GroupFound found_same (or_fault fault.UnknownColumn (option_map (found_in s outermost at) (column_numbered s at)))
nearest_group s outermost (at ∷ next ∷ others) o p h = refl

module _ (s : Scope) (scopes more : List Scope) (like : AllZip Like scopes more) where
  group_meant : (r : ColumnReference) → Both GroupFound (column_meant r (s ∷ scopes)) (column_meant r (s ∷ more))
  group_meant r =
      subst (λ last. Both GroupFound (column_meant r (s ∷ scopes)) (nearest s last (fits r s) (column_meant r more))) (last_alike scopes more like)
      (nearest_group s (is_last scopes) (fits r s) (column_meant r scopes) (column_meant r more) (meant_alike r scopes more like))

  pub grouping_alike : (names others : NamedTables) (parameters : List Declared) (allowed : Bool) (r : ColumnReference)
      → Alike LikePlace (grouping_column (here names others parameters (s ∷ scopes) (s ∷ more) (scope_same s, like) allowed) r) (grouping_column (there names others parameters (s ∷ scopes) (s ∷ more) (scope_same s, like) allowed) r)
  grouping_alike names others parameters allowed r =
      then_alike GroupFound LikePlace (outcome (column_meant r (s ∷ scopes))) (outcome (column_meant r (s ∷ more))) grouping_place grouping_place
      (outcome_alike GroupFound (column_meant r (s ∷ scopes)) (column_meant r (s ∷ more)) (group_meant r))
      (λ f g l. then_alike Anything LikePlace (must f.is_grouped fault.UngroupedColumn) (must g.is_grouped fault.UngroupedColumn) (λ _. has_found (of_values (column_findings f)) >> pure (place_of_found f)) (λ _. has_found (of_values (column_findings g)) >> pure (place_of_found g))
      (must_alike f.is_grouped g.is_grouped l.0.grouped fault.UngroupedColumn)
      (λ u v w. then_alike Anything LikePlace (has_found (of_values (column_findings f))) (has_found (of_values (column_findings g))) (λ _. pure (place_of_found f)) (λ _. pure (place_of_found g))
      (found_alike (of_values (column_findings f)) (of_values (column_findings g)) (λ i. of_values (place_findings (l.0.depth i) (l.0.item i) (l.0.grouped i) (l.0.outermost i))))
      (λ u v w. pure_alike LikePlace (place_of_found f) (place_of_found g) l.1)))

any_alike : (ps qs : List Place) → AllZip LikePlace ps qs → (item column : ℕ) → list_any (is_here item column) ps ≡ list_any (is_here item column) qs
any_alike [] [] h item column = refl
any_alike [] (q ∷ qs) h item column = absurd h
any_alike (p ∷ ps) [] h item column = absurd h
any_alike (p ∷ ps) (q ∷ qs) h item column = λ i. h.0 item column i || any_alike ps qs h.1 item column i

columns_same : (g h : Option (List Place)) (item : ℕ) → ((column : ℕ) → is_grouped g item column ≡ is_grouped h item column) → (c : Option ItemColumn) → LikeColumns g h item c c
columns_same g h item same None = tt
columns_same g h item same (Some c) = (refl, same c.position)

-- grouping columns that are alike
pub groups_alike : (items : List FromItem) (ps qs : List Place) → AllZip LikePlace ps qs → Like (record { items = items; grouping = Some ps }) (record { items = items; grouping = Some qs })
groups_alike items ps qs h = record {
  named = refl;
  columns = λ at. columns_same (Some ps) (Some qs) at.0 (any_alike ps qs h at.0) (column_numbered (record { items = items; grouping = Some ps }) at);
}

-- ---- select lists

abbrev pub SameColumn : ShownColumn → ShownColumn → Type 0
SameColumn c d = c.column ≡ d.column

abbrev pub SameColumns : List ShownColumn → List ShownColumn → Type 0
SameColumns = AllZip SameColumn

pub columns_are_same : (xs ys : List ShownColumn) → SameColumns xs ys → map (λ c. c.column) xs ≡ map (λ c. c.column) ys
columns_are_same [] [] h = refl
columns_are_same [] (y ∷ ys) h = absurd h
columns_are_same (x ∷ xs) [] h = absurd h
columns_are_same (x ∷ xs) (y ∷ ys) h = λ i. h.0 i ∷ columns_are_same xs ys h.1 i

each_same : (xs : List ShownColumn) → SameColumns xs xs
each_same [] = tt
each_same (x ∷ xs) = (refl, each_same xs)

at_most_alike : {A B : Type 0} (R : A → B → Type 0) (t : Bool) (b : Binding A) (c : Binding B) → Alike R b c → Alike R (if t then refused fault.LimitExceeded else b) (if t then refused fault.LimitExceeded else c)
at_most_alike R true b c h counts = refl
at_most_alike R false b c h counts = h counts

module _ (names others : NamedTables) (parameters : List Declared) (scopes more : List Scope) (like : AllZip Like scopes more) (allowed : Bool) where
  abbrev a : Surroundings
  a = here names others parameters scopes more like allowed

  abbrev b : Surroundings
  b = there names others parameters scopes more like allowed

  pub list_alike : (items : List FromItem) (list : SelectList Named) → Alike SameColumns (list_bound a items list) (list_bound b items list)
  list_alike items all_columns =
      at_most_alike SameColumns (nat_lt most_columns (length (columns_of_items items))) (pure (columns_of_items items)) (pure (columns_of_items items)) (same_alike SameColumns each_same (pure (columns_of_items items)))
  list_alike items (expressions es) =
      at_most_alike SameColumns (nat_lt most_columns (length es)) (each (shown_column a) es) (each (shown_column b) es)
      (each_alike SameColumn (shown_column a) (shown_column b)
      (λ e. then_alike SameKind SameColumn (value a e) (value b e) (λ x. pure (record { tree = x.tree; column = record { name = item_name e; kind = x.kind } })) (λ x. pure (record { tree = x.tree; column = record { name = item_name e; kind = x.kind } }))
      (value_alike names others parameters scopes more like allowed e)
      (λ x y h. pure_alike SameColumn (record { tree = x.tree; column = record { name = item_name e; kind = x.kind } }) (record { tree = y.tree; column = record { name = item_name e; kind = y.kind } }) (λ i. record { name = item_name e; kind = h i }))) es)
