-- Values of both sides may be brought to the common kinds of UNION (ISO/IEC 9075:1992, 7.10).
use Rattle.std.proofs.Common.{◌≡◌, ◌≤◌, ℕ, max, List, [], ◌∷◌, ◌++◌, arith, refl, subst, sym, ap, ◌∙◌, Ok, Err}
use Rattle.std.proofs.lemmas.Bool.{leb-true}
use Rattle.std.specs.Prelude.{IfOk}
use Rattle.sq_value.specs.Domain.{IsOfKind}
use Rattle.sq_value.specs.declared.domain.Kind.{Kind}
use Rattle.sq_value.specs.declared.domain.Kind.TheVariants as kind
use Rattle.sq_value.specs.declared.value.Value.{Value}
use Rattle.sq_value.specs.declared.value.Value.TheVariants.{Null, Num, Chars}
use Rattle.sq_meaning.specs.Status.{Outcome, and_then}
use Rattle.sq_meaning.specs.Environment.{Row}
use Rattle.sq_meaning.specs.Kind.{common_kind, common_kinds}
use Rattle.sq_meaning.specs.WellFormed.{IsRowOf, AreRowsOf}
use Rattle.sq_meaning.proofs.AnswerLaws.{all_weaker, all_appended}
use Rattle.sq_bound.specs.Names.{is_bounded}
use Rattle.sq_bound.specs.declared.condition.ResultColumn.{ResultColumn}
use Rattle.sq_query.specs.Union.{MayBeBrought, IsBringable, AreBringable}

-- ---- the kinds of columns

pub bounded_scale : (c : ResultColumn) (s : ℕ) → c.kind ≡ kind.Num s → s ≤ 18
bounded_scale c s is = leb-true s 18 (sym (ap is_bounded is) ∙ c.bounded)

pub bounded_length : (c : ResultColumn) (n : ℕ) → c.kind ≡ kind.Chars n → n ≤ 240
bounded_length c n is = leb-true n 240 (sym (ap is_bounded is) ∙ c.bounded)

-- ---- the sides of UNION are alike

one_turned : (x y : Kind) → common_kind x y ≡ common_kind y x
one_turned (kind.Num s) (kind.Num t) = let e : max s t ≡ max t s = omega arith in ap (λ n. Ok (kind.Num n)) e
one_turned (kind.Num s) (kind.Chars l) = refl
one_turned (kind.Num s) (kind.Vary l) = refl
one_turned (kind.Chars m) (kind.Num t) = refl
one_turned (kind.Chars m) (kind.Chars l) = let e : max m l ≡ max l m = omega arith in ap (λ n. Ok (kind.Chars n)) e
one_turned (kind.Chars m) (kind.Vary l) = let e : max m l ≡ max l m = omega arith in ap (λ n. Ok (kind.Vary n)) e
one_turned (kind.Vary m) (kind.Num t) = refl
one_turned (kind.Vary m) (kind.Chars l) = let e : max m l ≡ max l m = omega arith in ap (λ n. Ok (kind.Vary n)) e
one_turned (kind.Vary m) (kind.Vary l) = let e : max m l ≡ max l m = omega arith in ap (λ n. Ok (kind.Vary n)) e

turned : (ks ls : List Kind) → common_kinds ks ls ≡ common_kinds ls ks
turned [] [] = refl
turned [] (l ∷ ls) = refl
turned (k ∷ ks) [] = refl
turned (k ∷ ks) (l ∷ ls) = λ i. and_then (one_turned k l i) (λ c. and_then (turned ks ls i) (λ cs. Ok (c ∷ cs)))

-- ---- outcomes

-- what is there, with its equation
if_there : {A : Type 0} (P : A → Type 0) (o : Outcome A) (x : A) → o ≡ Ok x → IfOk o P → P x
if_there P o x e h = subst (λ r. IfOk r P) e h

-- one and the others
paired : {A : Type 0} (P : A → Type 0) (Q R : List A → Type 0) → ((x : A) (xs : List A) → P x → Q xs → R (x ∷ xs)) → (o : Outcome A) (p : Outcome (List A)) → IfOk o P → IfOk p Q
    → IfOk (and_then o (λ x. and_then p (λ xs. Ok (x ∷ xs)))) R
paired P Q R f (Err s) p h k = tt
paired P Q R f (Ok x) (Err s) h k = tt
paired P Q R f (Ok x) (Ok xs) h k = f x xs h k

-- ---- values of a side

null_may : (o : Outcome Kind) → IfOk o (λ c. MayBeBrought c Null)
null_may (Ok (kind.Num s)) = tt
null_may (Ok (kind.Chars n)) = tt
null_may (Ok (kind.Vary n)) = tt
null_may (Err s) = tt

value_may : (x y : Kind) (v : Value) → IsOfKind x v → IfOk (common_kind x y) (λ c. MayBeBrought c v)
value_may x y Null h = null_may (common_kind x y)
value_may (kind.Num s) (kind.Num t) (Num n) h = omega (arith, h)
value_may (kind.Num s) (kind.Chars l) (Num n) h = tt
value_may (kind.Num s) (kind.Vary l) (Num n) h = tt
value_may (kind.Chars k) y (Num n) h = absurd h
value_may (kind.Vary k) y (Num n) h = absurd h
value_may (kind.Num s) y (Chars t) h = absurd h
value_may (kind.Chars k) (kind.Num s) (Chars t) h = tt
value_may (kind.Chars k) (kind.Chars l) (Chars t) h = tt
value_may (kind.Chars k) (kind.Vary l) (Chars t) h = tt
value_may (kind.Vary k) (kind.Num s) (Chars t) h = tt
value_may (kind.Vary k) (kind.Chars l) (Chars t) h = tt
value_may (kind.Vary k) (kind.Vary l) (Chars t) h = tt

abbrev MayAll : Row → List Kind → Type 0
MayAll row cs = IsBringable cs row

row_may : (ks ls : List Kind) (row : Row) → IsRowOf ks row → IfOk (common_kinds ks ls) (MayAll row)
row_may [] [] [] h = tt
row_may [] [] (v ∷ row) h = absurd h
row_may [] (l ∷ ls) row h = tt
row_may (k ∷ ks) [] row h = tt
row_may (k ∷ ks) (l ∷ ls) [] h = absurd h
row_may (k ∷ ks) (l ∷ ls) (v ∷ row) h =
    paired (λ c. MayBeBrought c v) (MayAll row) (MayAll (v ∷ row)) (λ c cs p q. (p, q)) (common_kind k l) (common_kinds ks ls) (value_may k l v h.0) (row_may ks ls row h.1)

rows_may : (ks ls cs : List Kind) (rows : List Row) → AreRowsOf ks rows → common_kinds ks ls ≡ Ok cs → AreBringable cs rows
rows_may ks ls cs rows h is =
    all_weaker (IsRowOf ks) (IsBringable cs) (λ row p. if_there (MayAll row) (common_kinds ks ls) cs is (row_may ks ls row p)) rows h

-- the rows of both sides
pub both_bringable : (ls rs cs : List Kind) (left right : List Row) → AreRowsOf ls left → AreRowsOf rs right → common_kinds ls rs ≡ Ok cs → AreBringable cs (left ++ right)
both_bringable ls rs cs left right h k is =
    all_appended (IsBringable cs) left right (rows_may ls rs cs left h is) (rows_may rs ls cs right k (turned rs ls ∙ is))
