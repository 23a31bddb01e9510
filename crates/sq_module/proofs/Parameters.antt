-- The first declaration of a parameter that is declared twice or of a bad type.
use Rattle.std.proofs.Common.{◌≡◌, ℕ, ◌+◌, ◌<◌, ◌≤◌, Bool, true, false, ◌||◌, List, [], ◌∷◌, ◌++◌, Option, Some, None, length, get_or, map, take, drop, flat_map, refl, ap, ap₂, sym, ◌∙◌, arith}
use Rattle.std.specs.Prelude.{filter_map, nat_lt, option_to_list}
use Rattle.std.specs.Cmp.Lexicographic.{nat_list_eq_equiv}
use Rattle.std.proofs.lemmas.Bool.Decides.{nat_tests}
use Rattle.std.proofs.lemmas.List.{append-nil, length-map, map-append, take-append-drop, take_more}
use Rattle.std.proofs.lemmas.List.Elements.{filter_map-append}
use Rattle.std.proofs.lemmas.List.Folds.{list_any-append}
use Rattle.std.specs.List.{list_any}
use Rattle.sq_value.proofs.Truths.{or_false, or_true}
use Rattle.sq_lex.specs.declared.name.Name.{Name}
use Rattle.sq_tree.specs.declared.module.Declaration.{Declaration}
use Rattle.sq_tree.specs.declared.module.Declaration.TheVariants as declaration
use Rattle.sq_meaning.specs.Environment.{same_name}
use Rattle.sq_meaning.specs.Module.{ParameterDeclaration, declared_in}
use Rattle.sq_meaning.specs.ModuleRefusal.{has_bad_declared, is_bad_type}
use Rattle.sq_meaning.specs.Schema.{has_name_twice, is_among}
use Rattle.sq_meaning.specs.Words.{is_some_and}
use Rattle.sq_bound.specs.declared.names.ParameterDesc.{ParameterDesc}
use Rattle.sq_module.specs.Written.{named_as, named_in}

-- ---- names used twice

middle : (a b c d : Bool) → ((a || b) || (c || d)) ≡ ((a || c) || (b || d))
middle true b c d = refl
middle false true true d = refl
middle false true false d = refl
middle false false true d = refl
middle false false false d = refl

-- with one name more
pub twice_last : (names : List Name) (name : Name) → has_name_twice (names ++ name ∷ []) ≡ (has_name_twice names || is_among names name)
twice_last [] name = refl
twice_last (n ∷ names) name =
    ap₂ (λ a b. a || b) (list_any-append (same_name n) names (name ∷ []) ∙ ap (λ b. list_any (same_name n) names || b) (or_false (same_name n name))) (twice_last names name)
    ∙ middle (list_any (same_name n) names) (same_name n name) (has_name_twice names) (is_among names name)
    ∙ ap (λ b. has_name_twice (n ∷ names) || (b || is_among names name)) (nat_list_eq_equiv.symm n name)

more_among : (names more : List Name) (name : Name) → list_any (same_name name) names ≡ true → list_any (same_name name) (names ++ more) ≡ true
more_among names more name h = list_any-append (same_name name) names more ∙ ap (λ b. b || list_any (same_name name) more) h

twice_more : (names more : List Name) → has_name_twice names ≡ true → has_name_twice (names ++ more) ≡ true
twice_more [] more h = cc
twice_more (n ∷ names) more h = by (list_any (same_name n) names) refl h (twice_more names more)
  where
    by : (b : Bool) → list_any (same_name n) names ≡ b → (b || has_name_twice names) ≡ true → (has_name_twice names ≡ true → has_name_twice (names ++ more) ≡ true) → has_name_twice ((n ∷ names) ++ more) ≡ true
    by true e two rest = ap (λ b. b || has_name_twice (names ++ more)) (more_among names more n e)
    by false e two rest = ap (λ b. list_any (same_name n) (names ++ more) || b) (rest two) ∙ or_true (list_any (same_name n) (names ++ more))

-- ---- declarations

abbrev name_of : ParameterDeclaration → Name
name_of d = d.name

abbrev has_bad_type : ParameterDeclaration → Bool
has_bad_type d = is_bad_type d.data_type

-- one is declared twice, or has a bad type
abbrev pub are_bad : List ParameterDeclaration → Bool
are_bad ds = has_name_twice (map (λ d. d.name) ds) || list_any (λ d. is_bad_type d.data_type) ds

-- a parameter is declared before, or has a bad type
abbrev pub is_bad_behind : List Name → ParameterDeclaration → Bool
is_bad_behind names d = is_among names d.name || is_bad_type d.data_type

-- with one declaration more
bad_last : (ds : List ParameterDeclaration) (d : ParameterDeclaration) → are_bad (ds ++ d ∷ []) ≡ (are_bad ds || is_bad_behind (map (λ x. x.name) ds) d)
bad_last ds d =
    ap₂ (λ a b. a || b)
    (ap has_name_twice (map-append (λ (x : ParameterDeclaration). x.name) ds (d ∷ [])) ∙ twice_last (map (λ (x : ParameterDeclaration). x.name) ds) d.name)
    (list_any-append has_bad_type ds (d ∷ []) ∙ ap (λ b. list_any has_bad_type ds || b) (or_false (has_bad_type d)))
    ∙ middle (has_name_twice (map (λ (x : ParameterDeclaration). x.name) ds)) (is_among (map (λ (x : ParameterDeclaration). x.name) ds) d.name) (list_any has_bad_type ds) (has_bad_type d)

bad_more : (ds more : List ParameterDeclaration) → are_bad ds ≡ true → are_bad (ds ++ more) ≡ true
bad_more ds more h = by (has_name_twice (map (λ (x : ParameterDeclaration). x.name) ds)) refl h
  where
    names : List Name
    names = map (λ (x : ParameterDeclaration). x.name) ds

    both : are_bad (ds ++ more) ≡ (has_name_twice (names ++ map (λ (x : ParameterDeclaration). x.name) more) || (list_any has_bad_type ds || list_any has_bad_type more))
    both = ap₂ (λ a b. a || b) (ap has_name_twice (map-append (λ (x : ParameterDeclaration). x.name) ds more)) (list_any-append has_bad_type ds more)

    by : (b : Bool) → has_name_twice names ≡ b → (b || list_any has_bad_type ds) ≡ true → are_bad (ds ++ more) ≡ true
    by true e bad = both ∙ ap (λ b. b || (list_any has_bad_type ds || list_any has_bad_type more)) (twice_more names (map (λ (x : ParameterDeclaration). x.name) more) e)
    by false e bad =
        both ∙ ap (λ b. has_name_twice (names ++ map (λ (x : ParameterDeclaration). x.name) more) || (b || list_any has_bad_type more)) bad
        ∙ or_true (has_name_twice (names ++ map (λ (x : ParameterDeclaration). x.name) more))

one_declared : (d : Declaration) → filter_map declared_in (d ∷ []) ≡ option_to_list (declared_in d)
one_declared (declaration.Parameter name data_type) = refl
one_declared declaration.Sqlcode = refl
one_declared declaration.Sqlstate = refl

module _ (declarations : List Declaration) where
  -- the named parameters of the first
  abbrev pub declared : ℕ → List ParameterDeclaration
  declared i = filter_map declared_in (take i declarations)

  module _ (i : ℕ) (d : Declaration) (lt : i < length declarations) (is : d ≡ get_or declarations i d) where
    declared_more : declared (i + 1) ≡ declared i ++ option_to_list (declared_in d)
    declared_more =
        ap (filter_map declared_in) (take_more declarations i d lt ∙ ap (λ (x : Declaration). take i declarations ++ x ∷ []) (sym is))
        ∙ filter_map-append declared_in (take i declarations) (d ∷ []) ∙ ap (λ (l : List ParameterDeclaration). declared i ++ l) (one_declared d)

    rest_is : filter_map declared_in declarations ≡ declared (i + 1) ++ filter_map declared_in (drop (i + 1) declarations)
    rest_is = ap (filter_map declared_in) (sym (take-append-drop (i + 1) declarations)) ∙ filter_map-append declared_in (take (i + 1) declarations) (drop (i + 1) declarations)

    module _ (keys new : List Name) (before : keys ≡ map (λ (x : ParameterDeclaration). x.name) (declared i)) where
      -- the names behind it
      pub keys_next : new ≡ keys ++ map (λ (x : ParameterDeclaration). x.name) (option_to_list (declared_in d)) → new ≡ map (λ (x : ParameterDeclaration). x.name) (declared (i + 1))
      keys_next last =
          last ∙ ap (λ (l : List Name). l ++ map (λ (x : ParameterDeclaration). x.name) (option_to_list (declared_in d))) before
          ∙ sym (map-append (λ (x : ParameterDeclaration). x.name) (declared i) (option_to_list (declared_in d))) ∙ sym (ap (map (λ (x : ParameterDeclaration). x.name)) declared_more)

      bad_of : (o : Option ParameterDeclaration) (b : Bool) → is_some_and (is_bad_behind keys) o ≡ b → are_bad (declared i ++ option_to_list o) ≡ (are_bad (declared i) || b)
      bad_of None b h = ap are_bad (append-nil (declared i)) ∙ sym (or_false (are_bad (declared i))) ∙ ap (λ c. are_bad (declared i) || c) h
      bad_of (Some x) b h = bad_last (declared i) x ∙ ap (λ (l : List Name). are_bad (declared i) || is_bad_behind l x) (sym before) ∙ ap (λ c. are_bad (declared i) || c) h

      -- it is neither declared before nor of a bad type
      pub good_next : are_bad (declared i) ≡ false → is_some_and (is_bad_behind keys) (declared_in d) ≡ false → are_bad (declared (i + 1)) ≡ false
      good_next none good = ap are_bad declared_more ∙ bad_of (declared_in d) false good ∙ ap (λ c. c || false) none

      -- it is
      pub bad_there : is_some_and (is_bad_behind keys) (declared_in d) ≡ true → are_bad (filter_map declared_in declarations) ≡ true
      bad_there bad =
          ap are_bad rest_is
          ∙ bad_more (declared (i + 1)) (filter_map declared_in (drop (i + 1) declarations)) (ap are_bad declared_more ∙ bad_of (declared_in d) true bad ∙ or_true (are_bad (declared i)))

-- ---- how many there are

pub as_many : (declarations : List Declaration) → length (flat_map named_in declarations) ≡ length (filter_map declared_in declarations)
as_many [] = refl
as_many (declaration.Parameter name data_type ∷ ds) = let rest = as_many ds in omega (arith, rest)
as_many (declaration.Sqlcode ∷ ds) = as_many ds
as_many (declaration.Sqlstate ∷ ds) = as_many ds

-- the parameters that are listed, and those that are declared
pub counted : (parameters : List ParameterDesc) (declarations : List Declaration) → map named_as parameters ≡ flat_map named_in declarations → length parameters ≡ length (filter_map declared_in declarations)
counted parameters declarations h = sym (length-map parameters named_as) ∙ ap length h ∙ as_many declarations

pub few : (n m : ℕ) → n ≡ m → n ≤ 64 → nat_lt 64 m ≡ false
few n m same le = grind (arith, nat_tests, same, le)

pub many : (n m : ℕ) → n ≡ m → 64 < n → nat_lt 64 m ≡ true
many n m same lt = grind (arith, nat_tests, same, lt)

-- which are refused
pub bad_declared : (ds : List ParameterDeclaration) (are many : Bool) → are_bad ds ≡ are → nat_lt 64 (length ds) ≡ many → has_bad_declared ds ≡ (are || many)
bad_declared ds are many e h = ap₂ (λ a b. a || b) e h
