-- A bound query specification shows columns of a base table, each once, exactly if the rules say so (ISO/IEC 9075:1992, 7.9; own rule).
use Rattle.std.proofs.Common.{◌≡◌, ℕ, zero, suc, ◌+◌, Bool, true, false, not, ◌&&◌, ◌||◌, List, [], ◌∷◌, ◌++◌, length, map, Option, Some, None, Ok, Err, arith, refl, sym, ap, append_assoc, ◌∙◌}
use Rattle.std.proofs.lemmas.Bool.{eq-eqb, eqb-true, false≢true, or_right}
use Rattle.std.proofs.lemmas.List.{length-append}
use Rattle.std.specs.List.{AllZip, cons_option, enumerate_from, list_all, list_any}
use Rattle.std.specs.Option.{option_and_then, option_map}
use Rattle.std.specs.Prelude.{⊤, if◌then◌else◌, is_ok, is_some, nat_eq, slice_get}
use Rattle.sq_tree.specs.declared.names.ColumnReference.{ColumnReference}
use Rattle.sq_meaning.specs.Environment.{Item, Place, column_in}
use Rattle.sq_meaning.specs.Spelled.{Named}
use Rattle.sq_meaning.specs.Status as status
use Rattle.sq_meaning.specs.Syntax.{Expr, added, all_columns, bracketed, column, count_rows, expressions, literal, parameter, scaled, set_function, signed, user}
use Rattle.sq_meaning.specs.Tables.{ColumnDescriptor}
use Rattle.sq_meaning.specs.Target.{are_distinct, shown_column, shown_columns}
use Rattle.sq_meaning.specs.Binding.{nearest_fits}
use Rattle.sq_binding.specs.Changeable.{UnderTable, columns_shown, if_distinct, is_reference, leaf_column, leaf_columns}
use Rattle.sq_binding.specs.From.{column_over}
use Rattle.sq_binding.specs.Numbered.{Numbered}
use Rattle.sq_binding.specs.Select.{column_of_item}

-- ---- columns that are distinct

at_end : (before : List ℕ) (x : ℕ) (later : List ℕ) → slice_get (before ++ x ∷ later) (length before) ≡ Some x
at_end [] x later = refl
at_end (b ∷ before) x later = at_end before x later

any_at : (xs : List ℕ) (n x : ℕ) → slice_get xs n ≡ Some x → list_any (nat_eq x) xs ≡ true
any_at [] n x e = cc
any_at (y ∷ xs) zero x e = let same : y ≡ x = cc in ap (λ b. b || list_any (nat_eq x) xs) (eq-eqb x y (sym same))
any_at (y ∷ xs) (suc n) x e = or_right (nat_eq x y) (list_any (nat_eq x) xs) (any_at xs n x e)

first_apart : (a b : Bool) → (not a && b) ≡ true → (a ≡ false) × (b ≡ true)
first_apart true b e = cc
first_apart false b e = (refl, e)

-- a number stands at one position alone
one_place : (xs : List ℕ) → are_distinct xs ≡ true → (m n x : ℕ) → slice_get xs m ≡ Some x → slice_get xs n ≡ Some x → m ≡ n
one_place [] once m n x e f = cc
one_place (y ∷ xs) once zero zero x e f = refl
one_place (y ∷ xs) once zero (suc n) x e f =
    let same : y ≡ x = cc in absurd (false≢true (sym (first_apart (list_any (nat_eq y) xs) (are_distinct xs) once).0 ∙ ap (λ y. list_any (nat_eq y) xs) same ∙ any_at xs n x f))
one_place (y ∷ xs) once (suc m) zero x e f =
    let same : y ≡ x = cc in absurd (false≢true (sym (first_apart (list_any (nat_eq y) xs) (are_distinct xs) once).0 ∙ ap (λ y. list_any (nat_eq y) xs) same ∙ any_at xs m x e))
one_place (y ∷ xs) once (suc m) (suc n) x e f = ap suc (one_place xs (first_apart (list_any (nat_eq y) xs) (are_distinct xs) once).1 m n x e f)

module _ (us : List ℕ) (once : are_distinct us ≡ true) where
  abbrev At : ℕ → ℕ → Type 0
  At k v = slice_get us k ≡ Some v

  same_place : (k l v w : ℕ) → At k v → At l w → nat_eq k l ≡ nat_eq v w
  same_place k l v w e f = by (nat_eq k l) (nat_eq v w) refl refl
    where
      by : (b c : Bool) → nat_eq k l ≡ b → nat_eq v w ≡ c → b ≡ c
      by true true h g = refl
      by false false h g = refl
      by true false h g = let one : Some v ≡ Some w = sym e ∙ ap (slice_get us) (eqb-true k l h) ∙ f in let same : v ≡ w = cc in sym (eq-eqb v w same) ∙ g
      by false true h g = sym h ∙ eq-eqb k l (one_place us once k l w (e ∙ ap Some (eqb-true v w g)) f)

  any_places : (k v : ℕ) → At k v → (ks vs : List ℕ) → AllZip At ks vs → list_any (nat_eq k) ks ≡ list_any (nat_eq v) vs
  any_places k v e [] [] h = refl
  any_places k v e [] (w ∷ vs) h = absurd h
  any_places k v e (l ∷ ks) [] h = absurd h
  any_places k v e (l ∷ ks) (w ∷ vs) h = λ i. same_place k l v w e h.0 i || any_places k v e ks vs h.1 i

  distinct_places : (ks vs : List ℕ) → AllZip At ks vs → are_distinct ks ≡ are_distinct vs
  distinct_places [] [] h = refl
  distinct_places [] (w ∷ vs) h = absurd h
  distinct_places (l ∷ ks) [] h = absurd h
  distinct_places (l ∷ ks) (w ∷ vs) h = λ i. not (any_places l w h.0 ks vs h.1 i) && distinct_places ks vs h.1 i

-- ---- `*`

abbrev trees_from : ℕ → List ColumnDescriptor → List Numbered
trees_from n cs = map (λ c. c.tree) (map (column_of_item 0) (map column_over (enumerate_from n cs)))

all_leaves : (u : UnderTable) (before later : List ℕ) (cs : List ColumnDescriptor) → u.columns ≡ before ++ later → length later ≡ length cs → leaf_columns u (trees_from (length before) cs) ≡ Some later
all_leaves u before [] [] e same = refl
all_leaves u before [] (c ∷ cs) e same = cc
all_leaves u before (v ∷ later) [] e same = cc
all_leaves u before (v ∷ later) (c ∷ cs) e same =
    let rest : length later ≡ length cs = omega (arith, same) in
    let next : length (before ++ v ∷ []) ≡ length before + 1 = length-append before (v ∷ []) in
    ap (λ o. option_and_then (λ n. option_map (λ ns. n ∷ ns) (leaf_columns u (trees_from (length before + 1) cs))) o) (ap (λ l. slice_get l (length before)) e ∙ at_end before v later)
    ∙ ap (λ o. option_map (λ ns. v ∷ ns) o) (ap (λ n. leaf_columns u (trees_from n cs)) (sym next) ∙ all_leaves u (before ++ v ∷ []) later cs (e ∙ sym (append_assoc before (v ∷ []) later)) rest)

-- ---- select items

-- a select item that is a column reference is the column that it means
abbrev pub IsShownAs : Item → Expr Named → Numbered → Type 0
IsShownAs item (column c) tree = (p : Place) × (tree ≡ Numbered.column p) × (column_in c item ≡ Some p.column)
IsShownAs item _ tree = ⊤

-- the only item that a reference fits has the column
pub fit_column : (o : Option ℕ) (p : Place) → nearest_fits (map (λ (f : ℕ × ℕ). record { depth = 0; item = f.0; column = f.1 }) (cons_option (option_map (λ n. (0, n)) o) [])) [] ≡ p ∷ [] → o ≡ Some p.column
fit_column None p e = cc
fit_column (Some k) p e = let same : record { depth = 0; item = 0; column = k } ≡ p = cc in ap (λ (p : Place). Some p.column) same

module _ (item : Item) (u : UnderTable) (within : (n : ℕ) (c : ColumnReference) → column_in c item ≡ Some n → (v : ℕ) × (slice_get u.columns n ≡ Some v)) where
  -- What is shown where all select items are column references.
  record AreShown (es : List (Expr Named)) (trees : List Numbered) : Type 0 where
    places : List ℕ
    leaves : List ℕ
    found : status.each (shown_column item) es ≡ Ok places
    shown : leaf_columns u trees ≡ Some leaves
    at : AllZip (λ k v. slice_get u.columns k ≡ Some v) places leaves

  abbrev IfReferences : Bool → List (Expr Named) → List Numbered → Type 0
  IfReferences true es trees = AreShown es trees
  IfReferences false es trees = is_ok (status.each (shown_column item) es) ≡ false

  one_more : (c : ColumnReference) (es : List (Expr Named)) (tree : Numbered) (trees : List Numbered) → IsShownAs item (column c) tree → (all : Bool) → IfReferences all es trees → IfReferences all (column c ∷ es) (tree ∷ trees)
  one_more c es tree trees h true g =
      let v = within h.0.column c h.2 in record {
        places = h.0.column ∷ g.places;
        leaves = v.0 ∷ g.leaves;
        found =
            ap (λ o. status.and_then (status.well_formed o) (λ k. status.and_then (status.each (shown_column item) es) (λ ks. Ok (k ∷ ks)))) h.2
            ∙ ap (λ (o : status.Outcome (List ℕ)). status.and_then o (λ ks. Ok (h.0.column ∷ ks))) g.found;
        shown =
            ap (λ t. option_and_then (λ n. option_map (λ ns. n ∷ ns) (leaf_columns u trees)) (leaf_column u t)) h.1
            ∙ ap (λ o. option_and_then (λ n. option_map (λ ns. n ∷ ns) (leaf_columns u trees)) o) v.1 ∙ ap (λ o. option_map (λ ns. v.0 ∷ ns) o) g.shown;
        at = (v.1, g.at);
      }
  one_more c es tree trees h false g =
      ap (λ o. is_ok (status.and_then (status.well_formed o) (λ k. status.and_then (status.each (shown_column item) es) (λ ks. Ok (k ∷ ks))))) h.2 ∙ none (status.each (shown_column item) es) g
    where
      none : (o : status.Outcome (List ℕ)) → is_ok o ≡ false → is_ok (status.and_then o (λ ks. Ok (h.0.column ∷ ks))) ≡ false
      none (Ok ks) e = cc
      none (Err s) e = refl

  all_shown : (es : List (Expr Named)) (trees : List Numbered) → AllZip (IsShownAs item) es trees → IfReferences (list_all is_reference es) es trees
  all_shown [] [] h = record { places = []; leaves = []; found = refl; shown = refl; at = tt }
  all_shown [] (t ∷ trees) h = absurd h
  all_shown (e ∷ es) [] h = absurd h
  all_shown (column c ∷ es) (t ∷ trees) h = one_more c es t trees h.0 (list_all is_reference es) (all_shown es trees h.1)
  all_shown (literal v ∷ es) (t ∷ trees) h = refl
  all_shown (parameter p ∷ es) (t ∷ trees) h = refl
  all_shown (user ∷ es) (t ∷ trees) h = refl
  all_shown (count_rows ∷ es) (t ∷ trees) h = refl
  all_shown (set_function f distinct e ∷ es) (t ∷ trees) h = refl
  all_shown (signed sign e ∷ es) (t ∷ trees) h = refl
  all_shown (added sign e f ∷ es) (t ∷ trees) h = refl
  all_shown (scaled sign e f ∷ es) (t ∷ trees) h = refl
  all_shown (bracketed e ∷ es) (t ∷ trees) h = refl

  if_there : (xs : List ℕ) → is_some (if_distinct xs) ≡ are_distinct xs
  if_there xs = by (are_distinct xs)
    where
      by : (b : Bool) → is_some (if b then Some xs else None) ≡ b
      by true = refl
      by false = refl

  if_well : (ks : List ℕ) → is_ok (status.and_then (status.well_formed_if (are_distinct ks)) (λ _. Ok ks)) ≡ are_distinct ks
  if_well ks = by (are_distinct ks)
    where
      by : (b : Bool) → is_ok (status.and_then (status.well_formed_if b) (λ _. Ok ks)) ≡ b
      by true = refl
      by false = refl

  pub expressions_shown : are_distinct u.columns ≡ true → (es : List (Expr Named)) (trees : List Numbered) → AllZip (IsShownAs item) es trees → is_some (columns_shown u (expressions es) trees) ≡ is_ok (shown_columns item (expressions es))
  expressions_shown once es trees h = by (list_all is_reference es) (all_shown es trees h)
    where
      by : (all : Bool) → IfReferences all es trees → is_some (if all then option_and_then if_distinct (leaf_columns u trees) else None) ≡ is_ok (shown_columns item (expressions es))
      by true g =
          ap (λ o. is_some (option_and_then if_distinct o)) g.shown ∙ if_there g.leaves ∙ sym (distinct_places u.columns once g.places g.leaves g.at) ∙ sym (if_well g.places)
          ∙ ap (λ (o : status.Outcome (List ℕ)). is_ok (status.and_then o (λ ks. status.and_then (status.well_formed_if (are_distinct ks)) (λ _. Ok ks)))) (sym g.found)
      by false g = sym (none (status.each (shown_column item) es) g)
        where
          none : (o : status.Outcome (List ℕ)) → is_ok o ≡ false → is_ok (status.and_then o (λ ks. status.and_then (status.well_formed_if (are_distinct ks)) (λ _. Ok ks))) ≡ false
          none (Ok ks) e = cc
          none (Err s) e = refl

-- `*` shows all of them
pub star_shown : (item : Item) (u : UnderTable) (cs : List ColumnDescriptor) → are_distinct u.columns ≡ true → length u.columns ≡ length cs → is_some (columns_shown u all_columns (trees_from 0 cs)) ≡ is_ok (shown_columns item all_columns)
star_shown item u cs once wide = ap (λ o. is_some (option_and_then if_distinct o)) (all_leaves u [] u.columns cs refl wide) ∙ ap (λ b. is_some (if b then Some u.columns else None)) once
