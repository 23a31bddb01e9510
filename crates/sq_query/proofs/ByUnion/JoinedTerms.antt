-- The kinds of a query expression, term by term (ISO/IEC 9075:1992, 7.10).
use Rattle.std.proofs.Common.{◌≡◌, ℕ, zero, suc, ◌<◌, Bool, true, false, List, [], ◌∷◌, ◌++◌, length, take, get_or, arith, refl, sym, subst, ap, ◌∙◌, Ok, Err}
use Rattle.std.proofs.lemmas.Bool.{eqb-true, and_parts}
use Rattle.std.specs.Prelude.{if◌then◌else◌, fold, flat_map}
use Rattle.std.specs.Cmp.Lexicographic.{pointwise}
use Rattle.std.specs.List.{AllByRecursion}
use Rattle.sq_value.specs.declared.domain.Kind.{Kind}
use Rattle.sq_value.specs.declared.domain.Kind.TheVariants as kind
use Rattle.sq_meaning.specs.Status.{Outcome, and_then, not_well_formed}
use Rattle.sq_meaning.specs.Kind.{common_kinds}
use Rattle.sq_bound.specs.Joined.{Kinds, are_bounded, brought_kinds, kept_kinds, term_specifications, joined_kinds, term_kinds, union_kinds}
use Rattle.sq_bound.specs.Names.{same_kind}
use Rattle.sq_bound.specs.WellFormed.{TableKinds, IsSelect, IsQuery, kinds_of_results, kinds_of_query}
use Rattle.sq_bound.specs.declared.condition.ResultColumn.{ResultColumn}
use Rattle.sq_bound.specs.declared.query.BoundQuery.{BoundQuery, out-BoundQuery}
use Rattle.sq_bound.specs.declared.query.BoundTerm.TheVariants.{Bracketed}
use Rattle.sq_bound.specs.declared.query.BoundUnion.{BoundUnion}
use Rattle.sq_bound.proofs.JoinedLaws.{term_specifications-Bracketed, joined_kinds-out, union_kinds-out, term_kinds-Bracketed}
use Rattle.sq_expression.proofs.Kept.{ok_same}

-- what was made of something that is there
pub opened : {A B : Type 0} (o : Outcome A) (f : A → Outcome B) (y : B) → and_then o f ≡ Ok y → (x : A) × (o ≡ Ok x) × (f x ≡ Ok y)
opened (Ok x) f y h = (x, refl, h)
opened (Err s) f y h = absurd cc

-- ---- the kinds that were noted

one_kind : (k l : Kind) → same_kind k l ≡ true → k ≡ l
one_kind (kind.Num s) (kind.Num t) h = ap kind.Num (eqb-true s t h)
one_kind (kind.Num s) (kind.Chars n) h = absurd cc
one_kind (kind.Num s) (kind.Vary n) h = absurd cc
one_kind (kind.Chars m) (kind.Num t) h = absurd cc
one_kind (kind.Chars m) (kind.Chars n) h = ap kind.Chars (eqb-true m n h)
one_kind (kind.Chars m) (kind.Vary n) h = absurd cc
one_kind (kind.Vary m) (kind.Num t) h = absurd cc
one_kind (kind.Vary m) (kind.Chars n) h = absurd cc
one_kind (kind.Vary m) (kind.Vary n) h = ap kind.Vary (eqb-true m n h)

all_kinds : (ks ls : List Kind) → pointwise same_kind ks ls ≡ true → ks ≡ ls
all_kinds [] [] h = refl
all_kinds [] (l ∷ ls) h = absurd cc
all_kinds (k ∷ ks) [] h = absurd cc
all_kinds (k ∷ ks) (l ∷ ls) h = let b = and_parts (same_kind k l) (pointwise same_kind ks ls) h in (λ i. one_kind k l b.0 i ∷ all_kinds ks ls b.1 i)

abbrev kept_if : Bool → List Kind → Kinds
kept_if b ks = if b then Ok ks else not_well_formed

pub kept_are : (columns : List ResultColumn) (ks kinds : List Kind) → kept_kinds columns ks ≡ Ok kinds → (ks ≡ kinds) × (kinds ≡ kinds_of_results columns)
kept_are columns ks kinds h = by (pointwise same_kind ks (kinds_of_results columns)) refl h
  where
    by : (b : Bool) → pointwise same_kind ks (kinds_of_results columns) ≡ b → kept_if b ks ≡ Ok kinds → (ks ≡ kinds) × (kinds ≡ kinds_of_results columns)
    by true e h = let same = ok_same ks kinds h in (same, sym same ∙ all_kinds ks (kinds_of_results columns) e)
    by false e h = absurd cc

abbrev brought_if : Bool → List ResultColumn → List Kind → Kinds
brought_if b columns ks = if b then kept_kinds columns ks else not_well_formed

brought_are : (columns : List ResultColumn) (ks kinds : List Kind) → brought_kinds columns ks ≡ Ok kinds → (are_bounded ks ≡ true) × (ks ≡ kinds) × (kinds ≡ kinds_of_results columns)
brought_are columns ks kinds h = by (are_bounded ks) refl h
  where
    by : (b : Bool) → are_bounded ks ≡ b → brought_if b columns ks ≡ Ok kinds → (are_bounded ks ≡ true) × (ks ≡ kinds) × (kinds ≡ kinds_of_results columns)
    by true e h = let kept = kept_are columns ks kinds h in (e, kept.0, kept.1)
    by false e h = absurd cc

-- ---- terms

-- a query expression in brackets has the kinds that were noted
bracketed_are : (q : BoundQuery) (kinds : List Kind) → term_kinds (Bracketed q) ≡ Ok kinds → (joined_kinds q ≡ Ok kinds) × (kinds ≡ kinds_of_query q)
bracketed_are q kinds is =
    let of_query : joined_kinds q ≡ Ok kinds = sym (term_kinds-Bracketed q) ∙ is in
    let o = out-BoundQuery q in
    let found = opened (fold (λ left union. union_kinds union left) (term_kinds o.first) o.rest) (kept_kinds o.columns) kinds (sym (joined_kinds-out q) ∙ of_query) in
    (of_query, (kept_are o.columns found.0 kinds found.2).1)

pub query_of_term : (columns : TableKinds) (parameters : List Kind) (q : BoundQuery) → AllByRecursion (IsSelect columns parameters []) (term_specifications (Bracketed q)) → (kinds : List Kind) → term_kinds (Bracketed q) ≡ Ok kinds → IsQuery columns parameters q
query_of_term columns parameters q all kinds is =
    let noted = bracketed_are q kinds is in
    record {
      specifications = subst (AllByRecursion (IsSelect columns parameters [])) (term_specifications-Bracketed q) all;
      kinds_are = noted.0 ∙ ap Ok noted.1;
    }

-- ---- both sides of UNION

pub record IsJoined (u : BoundUnion) (left : Kinds) (kinds : List Kind) : Type 0 where
  pub ls : List Kind
  pub rs : List Kind
  pub lefts : left ≡ Ok ls
  pub rights : term_kinds u.term ≡ Ok rs
  pub common : common_kinds ls rs ≡ Ok kinds
  pub noted : kinds ≡ kinds_of_results u.columns
  pub bounded : are_bounded kinds ≡ true

pub sides : (u : BoundUnion) (left : Kinds) (kinds : List Kind) → union_kinds u left ≡ Ok kinds → IsJoined u left kinds
sides u left kinds h =
    let a = opened left (λ ls. and_then (term_kinds u.term) (λ rs. and_then (common_kinds ls rs) (brought_kinds u.columns))) kinds (sym (union_kinds-out u left) ∙ h) in
    let b = opened (term_kinds u.term) (λ rs. and_then (common_kinds a.0 rs) (brought_kinds u.columns)) kinds a.2 in
    let d = opened (common_kinds a.0 b.0) (brought_kinds u.columns) kinds b.2 in
    let brought = brought_are u.columns d.0 kinds d.2 in
    record {
      ls = a.0;
      rs = b.0;
      lefts = a.1;
      rights = b.1;
      common = d.1 ∙ ap Ok brought.1;
      noted = brought.2;
      bounded = subst (λ ks. are_bounded ks ≡ true) brought.1 brought.0;
    }

-- ---- the terms so far

abbrev pub kinds_so_far : BoundQuery → ℕ → Kinds
kinds_so_far q i = fold (λ left union. union_kinds union left) (term_kinds (out-BoundQuery q).first) (take i (out-BoundQuery q).rest)

pub all_left : {A : Type 0} (P : A → Type 0) (xs ys : List A) → AllByRecursion P (xs ++ ys) → AllByRecursion P xs
all_left P [] ys h = tt
all_left P (x ∷ xs) ys h = (h.0, all_left P xs ys h.1)

pub all_right : {A : Type 0} (P : A → Type 0) (xs ys : List A) → AllByRecursion P (xs ++ ys) → AllByRecursion P ys
all_right P [] ys h = h
all_right P (x ∷ xs) ys h = all_right P xs ys h.1

pub all_within : {A B : Type 0} (P : B → Type 0) (f : A → List B) (xs : List A) (i : ℕ) (x : A) → AllByRecursion P (flat_map f xs) → i < length xs → x ≡ get_or xs i x → AllByRecursion P (f x)
all_within P f [] i x h lt is = absurd (omega arith)
all_within P f (y ∷ ys) zero x h lt is = subst (λ z. AllByRecursion P (f z)) (sym is) (all_left P (f y) (flat_map f ys) h)
all_within P f (y ∷ ys) (suc i) x h lt is = all_within P f ys i x (all_right P (f y) (flat_map f ys) h) (omega arith) is
