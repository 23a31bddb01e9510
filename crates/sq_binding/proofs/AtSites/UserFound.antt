-- USER is found in a search condition without subqueries and set functions exactly if it is written (ISO/IEC 9075:1992, 6.2 and 11.9).
use Rattle.std.proofs.Common.{◌≡◌, Bool, true, false, ◌||◌, List, [], ◌∷◌, ◌++◌, Option, Some, None, Ok, Err, refl, sym, ap, ◌∙◌}
use Rattle.std.specs.List.{flat_map, list_any}
use Rattle.std.proofs.lemmas.Bool.{or_parts, or_right}
use Rattle.sq_value.proofs.Truths.{or_false, or_assoc_left}
use Rattle.sq_value.specs.declared.domain.Kind.{Kind}
use Rattle.sq_meaning.specs.Spelled.{Named}
use Rattle.sq_meaning.specs.Syntax.{Expr, Cond, Conds, compare, compare_subquery, compare_quantified, between, in_subquery, in_list, like, is_null, exists, negated, conjunction, disjunction, no_cond, a_cond}
use Rattle.sq_meaning.specs.Target.{has_subquery, have_subquery}
use Rattle.sq_meaning.specs.WellFormed.{is_comparable, is_text}
use Rattle.sq_meaning.specs.SchemaRefusal.{is_refused_in_check}
use Rattle.sq_meaning.specs.Site.{Around, Known, Site, compared_sites, cond_sites, conds_sites, escape_sites, expr_sites, kind_here, text_sites}
use Rattle.sq_meaning.specs.declared.fault.BindingFault.{BindingFault}
use Rattle.sq_meaning.specs.declared.fault.BindingFault.TheVariants as fault
use Rattle.sq_binding.specs.Condition.{agreeing, cond_bound, escape_bound, must_agree, noted, terms_bound, test, tests_bound, text}
use Rattle.sq_binding.specs.Expression.{Bound, bound}
use Rattle.sq_binding.specs.Found.{Binding, Counts, Found, ◌>>=◌, ◌>>◌, each, has_found, must, pure}
use Rattle.sq_binding.specs.NumberedCondition.{NumberedCond, NumberedConds}
use Rattle.sq_binding.specs.Outcome.{Outcome}
use Rattle.sq_binding.specs.QueryFindings.{a_status}
use Rattle.sq_binding.specs.Scope.{Scope}
use Rattle.sq_binding.specs.Select.{Surroundings, Typed, value, value_found}
use Rattle.sq_meaning.specs.Tables.{Declared}
use Rattle.sq_binding.proofs.Inductions.Cases.{Cases, it_holds}
use Rattle.sq_binding.proofs.Faultless.Clean.{steps_of}
use Rattle.sq_binding.proofs.Faultless.CleanConds.{after_of}
use Rattle.sq_binding.proofs.AtSites.Seen.{any_both}
use Rattle.sq_binding.proofs.Exactly.Told.{okay}

abbrev any : List Site → Bool
any sites = list_any is_refused_in_check sites

-- USER is found in whatever is bound exactly where it is asked of these sites
abbrev pub UserIf : {A : Type 0} → List Site → Binding A → Type 0
UserIf {A} sites b = (counts : Counts) (z : Found A) → b counts ≡ Ok z → z.findings.values.has_user ≡ any sites

-- ---- parts one after the other

then_user : {A B : Type 0} (xs ys zs : List Site) (b : Binding A) (f : A → Binding B) → UserIf xs b → ((x : A) → UserIf ys (f x)) → (any xs || any ys) ≡ any zs → UserIf zs (b >>= f)
then_user {A} {B} xs ys zs b f h g join counts z is =
    let a = after_of b f counts z is in
    sym (ap (λ (x : Found B). x.findings.values.has_user) a.is_joined) ∙ (λ i. h counts a.first a.is_first i || g a.first.part _ a.second a.is_second i) ∙ join

user_in : {A : Type 0} → Outcome (Found A) → Bool
user_in (Ok x) = x.findings.values.has_user
user_in (Err f) = false

is_user : {A : Type 0} (x z : Found A) → okay x ≡ okay z → (b : Bool) → x.findings.values.has_user ≡ b → z.findings.values.has_user ≡ b
unfolding user_in
is_user x z is b h = sym (ap user_in is) ∙ h

pure_user : {A : Type 0} (x : A) → UserIf [] (pure x)
pure_user x counts z is = is_user _ z is false refl

must_user : (t : Bool) (f : BindingFault) → UserIf [] (must t f)
must_user true f counts z is = is_user _ z is false refl
must_user false f counts z is = cc

status_user : UserIf [] (has_found a_status)
status_user counts z is = is_user _ z is false refl

last_user : {A B : Type 0} (xs : List Site) (b : Binding A) (make : A → B) → UserIf xs b → UserIf xs (b >>= λ x. pure (make x))
last_user xs b make h = then_user xs [] xs b (λ x. pure (make x)) h (λ x. pure_user (make x)) (or_false (any xs))

each_user : {A B : Type 0} (sites_of : A → List Site) (f : A → Binding B) → ((x : A) → UserIf (sites_of x) (f x)) → (xs : List A) → UserIf (flat_map sites_of xs) (each f xs)
each_user {A} {B} sites_of f h [] = pure_user {A = List B} []
each_user {A} {B} sites_of f h (x ∷ xs) =
    then_user (sites_of x) (flat_map sites_of xs) (sites_of x ++ flat_map sites_of xs) (f x) (λ y. each f xs >>= λ ys. pure (y ∷ ys)) (h x)
    (λ y. last_user (flat_map sites_of xs) (each f xs) (λ ys. y ∷ ys) (each_user sites_of f h xs)) (sym (any_both is_refused_in_check (sites_of x) (flat_map sites_of xs)))

once_more : (a b c : Bool) → (a || (b || c)) ≡ ((a || b) || (a || c))
once_more true b c = refl
once_more false b c = refl

-- ---- value expressions without set functions

module _ (k : Known) (around : Around) (scopes : List Scope) (parameters : List Declared) where
  abbrev IsUser : Bool → Expr Named → Bound → Type 0
  IsUser allowed e x = allowed ≡ false → x.findings.has_user ≡ any (expr_sites k around e)

  user_cases : Cases scopes parameters (λ allowed n e x. IsUser allowed e x)
  user_cases = record {
    of_literal = λ allowed n v l is f. refl;
    of_parameter = λ allowed n p at i is so f. refl;
    of_user = λ allowed n f. refl;
    of_column = λ allowed n c found is f. refl;
    of_count = λ n f. cc;
    of_function = λ n f distinct e x l h none is g. cc;
    of_signed = λ allowed n sign e x h number f. h f;
    of_added = λ allowed n sign a b x y l h g is f.
        (λ i. h f i || g f i) ∙ sym (any_both is_refused_in_check (Site.number_wanted (kind_here k around a) ∷ Site.number_wanted (kind_here k around b) ∷ expr_sites k around a) (expr_sites k around b));
    of_scaled = λ allowed n sign a b x y l h g is f.
        (λ i. h f i || g f i)
        ∙ sym (any_both is_refused_in_check (Site.number_wanted (kind_here k around a) ∷ Site.number_wanted (kind_here k around b) ∷ Site.product_scale sign (kind_here k around a) (kind_here k around b) ∷ expr_sites k around a) (expr_sites k around b));
    of_bracketed = λ allowed n e x h. h;
  }

module _ (k : Known) (around : Around) (a : Surroundings) (plain : a.functions_allowed ≡ false) where
  value_user : (e : Expr Named) → UserIf (expr_sites k around e) (value a e)
  value_user e counts z is =
      let s = steps_of (bound a.scopes a.parameters a.functions_allowed false e counts.functions) (λ b. Ok (value_found counts b)) z is in
      is_user (value_found counts s.step) z s.second (any (expr_sites k around e))
      (it_holds a.scopes a.parameters (λ allowed n e x. IsUser k around a.scopes a.parameters allowed e x) (user_cases k around a.scopes a.parameters) a.functions_allowed false e counts.functions s.step s.first plain)

  agreeing_user : (l : Kind) (e : Expr Named) → UserIf (expr_sites k around e) (agreeing a l e)
  agreeing_user l e =
      then_user (expr_sites k around e) [] (expr_sites k around e) (value a e) (λ x. must_agree l x.kind >> pure x.tree) (value_user e)
      (λ x. last_user [] (must_agree l x.kind) (λ _. x.tree) (must_user (is_comparable l x.kind) fault.KindMismatch)) (or_false (any (expr_sites k around e)))

  text_user : (e : Expr Named) → UserIf (text_sites k around e) (text a e)
  text_user e =
      then_user (expr_sites k around e) [] (text_sites k around e) (value a e) (λ x. must (is_text x.kind) fault.KindMismatch >> pure x.tree) (value_user e)
      (λ x. last_user [] (must (is_text x.kind) fault.KindMismatch) (λ _. x.tree) (must_user (is_text x.kind) fault.KindMismatch)) (or_false (any (expr_sites k around e)))

  escape_user : (e : Option (Expr Named)) → UserIf (escape_sites k around e) (escape_bound a e)
  escape_user None = pure_user None
  escape_user (Some e) =
      then_user (text_sites k around e) [] (text_sites k around e) (text a e) (λ x. has_found a_status >> pure (Some x)) (text_user e) (λ x. last_user [] (has_found a_status) (λ _. Some x) status_user) (or_false (any (text_sites k around e)))

  -- two values that are compared
  both_any : (e f : Expr Named) → (any (expr_sites k around e) || any (expr_sites k around f)) ≡ any (compared_sites k around e f)
  both_any e f = sym (any_both is_refused_in_check (Site.alike_wanted (kind_here k around e) (kind_here k around f) ∷ expr_sites k around e) (expr_sites k around f))

  behind : (e : Expr Named) (ys zs : List Site) (f : Typed → Binding NumberedCond) → ((x : Typed) → UserIf ys (f x)) → (any (expr_sites k around e) || any ys) ≡ any zs → UserIf zs (value a e >>= f)
  behind e ys zs f h join = then_user (expr_sites k around e) ys zs (value a e) f (value_user e) h join

  pairs_any : (e : Expr Named) (es : List (Expr Named)) → (any (expr_sites k around e) || any (flat_map (expr_sites k around) es)) ≡ (any (expr_sites k around e) || any (flat_map (compared_sites k around e) es))
  pairs_any e [] = refl
  pairs_any e (f ∷ es) =
      ap (λ b. first || b) (any_both is_refused_in_check (expr_sites k around f) (flat_map (expr_sites k around) es)) ∙ once_more first (any (expr_sites k around f)) (any (flat_map (expr_sites k around) es))
      ∙ ap (λ b. (first || any (expr_sites k around f)) || b) (pairs_any e es) ∙ together first (any (expr_sites k around f)) (any (flat_map (compared_sites k around e) es))
      ∙ ap (λ b. first || b) (ap (λ b. b || any (flat_map (compared_sites k around e) es)) (both_any e f) ∙ sym (any_both is_refused_in_check (compared_sites k around e f) (flat_map (compared_sites k around e) es)))
    where
      first : Bool
      first = any (expr_sites k around e)

      together : (x y z : Bool) → ((x || y) || (x || z)) ≡ (x || ((x || y) || z))
      together true y z = refl
      together false y z = refl

  test_user : (sites : List Site) (c : Binding NumberedCond) → UserIf sites c → UserIf sites (test c)
  test_user sites c h counts z is = let s = steps_of (c counts) (λ x. Ok (noted x)) z is in is_user (noted s.step) z s.second (any sites) (h counts s.step s.first)

  mutual
    pub cond_user : (c : Cond Named) → has_subquery c ≡ false → UserIf (cond_sites k around c) (cond_bound a c)
    cond_user (compare op e f) none =
        behind e (expr_sites k around f) (compared_sites k around e f) (λ x. agreeing a x.kind f >>= λ y. pure (NumberedCond.compare op x.tree y))
        (λ x. last_user (expr_sites k around f) (agreeing a x.kind f) (λ y. NumberedCond.compare op x.tree y) (agreeing_user x.kind f)) (both_any e f)
    cond_user (compare_subquery op e q) none = λ counts z is. cc
    cond_user (compare_quantified op l e q) none = λ counts z is. cc
    cond_user (between e low high) none =
        behind e (expr_sites k around low ++ expr_sites k around high) (compared_sites k around e low ++ compared_sites k around e high) (λ x. agreeing a x.kind low >>= λ y. agreeing a x.kind high >>= λ z. pure (NumberedCond.between x.tree y z))
        (λ x. then_user (expr_sites k around low) (expr_sites k around high) (expr_sites k around low ++ expr_sites k around high) (agreeing a x.kind low) (λ y. agreeing a x.kind high >>= λ z. pure (NumberedCond.between x.tree y z)) (agreeing_user x.kind low)
        (λ y. last_user (expr_sites k around high) (agreeing a x.kind high) (λ z. NumberedCond.between x.tree y z) (agreeing_user x.kind high)) (sym (any_both is_refused_in_check (expr_sites k around low) (expr_sites k around high))))
        (ap (λ b. any (expr_sites k around e) || b) (any_both is_refused_in_check (expr_sites k around low) (expr_sites k around high))
        ∙ once_more (any (expr_sites k around e)) (any (expr_sites k around low)) (any (expr_sites k around high)) ∙ (λ i. both_any e low i || both_any e high i)
        ∙ sym (any_both is_refused_in_check (compared_sites k around e low) (compared_sites k around e high)))
    cond_user (in_subquery e q) none = λ counts z is. cc
    cond_user (in_list e es) none =
        behind e (flat_map (expr_sites k around) es) (expr_sites k around e ++ flat_map (compared_sites k around e) es) (λ x. each (agreeing a x.kind) es >>= λ ys. pure (NumberedCond.in_list x.tree ys))
        (λ x. last_user (flat_map (expr_sites k around) es) (each (agreeing a x.kind) es) (λ ys. NumberedCond.in_list x.tree ys) (each_user (expr_sites k around) (agreeing a x.kind) (agreeing_user x.kind) es))
        (pairs_any e es ∙ sym (any_both is_refused_in_check (expr_sites k around e) (flat_map (compared_sites k around e) es)))
    cond_user (like e pattern escape) none =
        then_user (text_sites k around e) (text_sites k around pattern ++ escape_sites k around escape) ((text_sites k around e ++ text_sites k around pattern) ++ escape_sites k around escape) (text a e)
        (λ x. text a pattern >>= λ y. escape_bound a escape >>= λ z. pure (NumberedCond.like x y z)) (text_user e)
        (λ x. then_user (text_sites k around pattern) (escape_sites k around escape) (text_sites k around pattern ++ escape_sites k around escape) (text a pattern) (λ y. escape_bound a escape >>= λ z. pure (NumberedCond.like x y z)) (text_user pattern)
        (λ y. last_user (escape_sites k around escape) (escape_bound a escape) (λ z. NumberedCond.like x y z) (escape_user escape)) (sym (any_both is_refused_in_check (text_sites k around pattern) (escape_sites k around escape))))
        (ap (λ b. any (text_sites k around e) || b) (any_both is_refused_in_check (text_sites k around pattern) (escape_sites k around escape))
        ∙ or_assoc_left (any (text_sites k around e)) (any (text_sites k around pattern)) (any (escape_sites k around escape))
        ∙ ap (λ b. b || any (escape_sites k around escape)) (sym (any_both is_refused_in_check (text_sites k around e) (text_sites k around pattern)))
        ∙ sym (any_both is_refused_in_check (text_sites k around e ++ text_sites k around pattern) (escape_sites k around escape)))
    cond_user (is_null e) none = last_user (expr_sites k around e) (value a e) (λ x. NumberedCond.is_null x.tree) (value_user e)
    cond_user (exists q) none = λ counts z is. cc
    cond_user (negated c) none = last_user (cond_sites k around c) (cond_bound a c) (λ x. NumberedCond.negated x) (cond_user c none)
    cond_user (conjunction cs) none = last_user (conds_sites k around cs) (tests_bound a cs) (λ x. NumberedCond.conjunction x) (tests_user cs none)
    cond_user (disjunction cs) none = last_user (conds_sites k around cs) (terms_bound a cs) (λ x. NumberedCond.disjunction x) (terms_user cs none)

    tests_user : (cs : Conds Named) → have_subquery cs ≡ false → UserIf (conds_sites k around cs) (tests_bound a cs)
    tests_user no_cond none = pure_user NumberedConds.no_cond
    tests_user (a_cond c cs) none =
        then_user (cond_sites k around c) (conds_sites k around cs) (cond_sites k around c ++ conds_sites k around cs) (test (cond_bound a c)) (λ x. tests_bound a cs >>= λ xs. pure (NumberedConds.a_cond x xs))
        (test_user (cond_sites k around c) (cond_bound a c) (cond_user c (or_parts (has_subquery c) (have_subquery cs) none).0))
        (λ x. last_user (conds_sites k around cs) (tests_bound a cs) (λ xs. NumberedConds.a_cond x xs) (tests_user cs (or_parts (has_subquery c) (have_subquery cs) none).1)) (sym (any_both is_refused_in_check (cond_sites k around c) (conds_sites k around cs)))

    terms_user : (cs : Conds Named) → have_subquery cs ≡ false → UserIf (conds_sites k around cs) (terms_bound a cs)
    terms_user no_cond none = pure_user NumberedConds.no_cond
    terms_user (a_cond c cs) none =
        then_user (cond_sites k around c) (conds_sites k around cs) (cond_sites k around c ++ conds_sites k around cs) (cond_bound a c) (λ x. terms_bound a cs >>= λ xs. pure (NumberedConds.a_cond x xs)) (cond_user c (or_parts (has_subquery c) (have_subquery cs) none).0)
        (λ x. last_user (conds_sites k around cs) (terms_bound a cs) (λ xs. NumberedConds.a_cond x xs) (terms_user cs (or_parts (has_subquery c) (have_subquery cs) none).1)) (sym (any_both is_refused_in_check (cond_sites k around c) (conds_sites k around cs)))

-- ---- a subquery is refused wherever one is written

mutual
  pub cond_refused : (k : Known) (around : Around) (c : Cond Named) → has_subquery c ≡ true → any (cond_sites k around c) ≡ true
  cond_refused k around (compare op e f) some = cc
  cond_refused k around (compare_subquery op e q) some = refl
  cond_refused k around (compare_quantified op l e q) some = refl
  cond_refused k around (between e low high) some = cc
  cond_refused k around (in_subquery e q) some = refl
  cond_refused k around (in_list e es) some = cc
  cond_refused k around (like e pattern escape) some = cc
  cond_refused k around (is_null e) some = cc
  cond_refused k around (exists q) some = refl
  cond_refused k around (negated c) some = cond_refused k around c some
  cond_refused k around (conjunction cs) some = conds_refused k around cs some
  cond_refused k around (disjunction cs) some = conds_refused k around cs some

  conds_refused : (k : Known) (around : Around) (cs : Conds Named) → have_subquery cs ≡ true → any (conds_sites k around cs) ≡ true
  conds_refused k around no_cond some = cc
  conds_refused k around (a_cond c cs) some = any_both is_refused_in_check (cond_sites k around c) (conds_sites k around cs) ∙ by (has_subquery c) refl (conds_refused k around cs) (cond_refused k around c)
    where
      by : (b : Bool) → has_subquery c ≡ b → (have_subquery cs ≡ true → any (conds_sites k around cs) ≡ true) → (has_subquery c ≡ true → any (cond_sites k around c) ≡ true) → (any (cond_sites k around c) || any (conds_sites k around cs)) ≡ true
      by true e rest first = ap (λ b. b || any (conds_sites k around cs)) (first e)
      by false e rest first = or_right (any (cond_sites k around c)) (any (conds_sites k around cs)) (rest (ap (λ b. b || have_subquery cs) (sym e) ∙ some))
