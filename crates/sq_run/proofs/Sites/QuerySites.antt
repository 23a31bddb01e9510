-- A query expression at whose sites no rule is broken is well formed: both sides of UNION have as many columns, of kinds that
-- go together (ISO/IEC 9075:1992, 7.10).
use Rattle.std.proofs.Common.{ap, arith, subst, ◌∙◌, sym}
use Rattle.std.specs.List.{zip}
use Rattle.std.specs.Prelude.{◌≡◌, ℕ, suc, Bool, false, List, [], ◌∷◌, ◌++◌, map, length, flat_map, Some, refl, Ok, Err}
use Rattle.sq_value.specs.declared.domain.Kind.{Kind}
use Rattle.sq_value.specs.declared.domain.Kind.TheVariants.{Chars, Num, Vary}
use Rattle.sq_meaning.specs.Database.{IsDeclaredIn}
use Rattle.sq_meaning.specs.Environment.{Item, Row, TableName}
use Rattle.sq_meaning.specs.Kind.{common_kind, common_kinds, query_kinds}
use Rattle.sq_meaning.specs.SortKeys.{common_name, query_names, select_names}
use Rattle.sq_meaning.specs.Spelled.{Named}
use Rattle.sq_meaning.specs.Status.{Outcome, and_then, each}
use Rattle.sq_meaning.specs.Syntax.{Query, Select, all_columns, expressions, select, specification, union}
use Rattle.sq_meaning.specs.Tables.{item_of, kinds_by_name, reading_by_name}
use Rattle.sq_meaning.specs.WellFormed.{HasValue, WellFormedQuery, WellFormedSelect}
use Rattle.sq_run.proofs.Sites.ColumnSites.{items_are, then_valued}
use Rattle.sq_run.proofs.Sites.ConditionSites.{HasCount, SelectSpellsNoNull, parts_of, same_count, select_count_there, select_well_formed}
use Rattle.sq_run.proofs.Sites.SiteLaws.{AreSound, IsSound, all_parts, sound_sites}
use Rattle.sq_meaning.specs.Binding.{Judged, has_syntax_fault, kind_mismatch}
use Rattle.sq_meaning.specs.Site.{Known, Site, alike_pairs, outside, query_count, query_kinds_of, query_sites, select_sites}

-- no literal is the null value
abbrev pub QuerySpellsNoNull : Query Named → Type 0
QuerySpellsNoNull (specification q) = SelectSpellsNoNull q
QuerySpellsNoNull (union all left right) = QuerySpellsNoNull left × QuerySpellsNoNull right

-- ---- common kinds

common_valued : (x y : Kind) → kind_mismatch (Site.alike_wanted (Ok x) (Ok y)) ≡ false → HasValue (common_kind x y)
common_valued (Num s) (Num t) e = tt
common_valued (Num s) (Chars n) e = cc
common_valued (Num s) (Vary n) e = cc
common_valued (Chars m) (Num t) e = cc
common_valued (Chars m) (Chars n) e = tt
common_valued (Chars m) (Vary n) e = tt
common_valued (Vary m) (Num t) e = cc
common_valued (Vary m) (Chars n) e = tt
common_valued (Vary m) (Vary n) e = tt

one_kind_more : (first : Outcome Kind) (rest : Outcome (List Kind)) (n : ℕ) → HasValue first → HasCount n rest → HasCount (suc n) (and_then first (λ x. and_then rest (λ others. Ok (x ∷ others))))
one_kind_more (Ok x) (Ok others) n h g = ap suc g
one_kind_more (Ok x) (Err status) n h g = absurd g
one_kind_more (Err status) rest n h g = absurd h

one_less : (m n : ℕ) → suc m ≡ suc n → m ≡ n
one_less m n e = omega arith

common_counted : (k : Known) (xs ys : List Kind) → length xs ≡ length ys → AreSound k (map (λ p. Site.alike_wanted (Ok p.0) (Ok p.1)) (zip xs ys)) → HasCount (length xs) (common_kinds xs ys)
common_counted k [] [] e s = refl
common_counted k [] (y ∷ ys) e s = cc
common_counted k (x ∷ xs) [] e s = cc
common_counted k (x ∷ xs) (y ∷ ys) e s =
    one_kind_more (common_kind x y) (common_kinds xs ys) (length xs) (common_valued x y s.0.kinds) (common_counted k xs ys (one_less (length xs) (length ys) e) s.1)

recounted : (m n : ℕ) (o : Outcome (List Kind)) → m ≡ n → HasCount m o → HasCount n o
recounted m n (Ok found) e h = h ∙ e
recounted m n (Err status) e h = h

both_counted : (k : Known) (o r : Outcome (List Kind)) (m n : ℕ) → HasCount m o → HasCount n r → m ≡ n → AreSound k (alike_pairs o r) → HasCount m (and_then o (λ xs. and_then r (common_kinds xs)))
both_counted k (Ok xs) (Ok ys) m n h g e s = recounted (length xs) m (common_kinds xs ys) h (common_counted k xs ys (h ∙ e ∙ sym g) s)
both_counted k (Ok xs) (Err status) m n h g e s = absurd g
both_counted k (Err status) r m n h g e s = absurd h

counted_valued : (n : ℕ) (o : Outcome (List Kind)) → HasCount n o → HasValue o
counted_valued n (Ok found) h = tt
counted_valued n (Err status) h = absurd h

-- ---- query expressions

-- what the sites of a UNION are, part by part
record Sides (k : Known) (left right : Query Named) : Type 0 where
  pub counts : query_count k.tables left ≡ query_count k.tables right
  pub kinds : AreSound k (alike_pairs (query_kinds_of k left) (query_kinds_of k right))
  pub first : AreSound k (query_sites k left)
  pub second : AreSound k (query_sites k right)

sides_of : (k : Known) (all : Bool) (left right : Query Named) → AreSound k (query_sites k (union all left right)) → Sides k left right
sides_of k all left right s =
    let queries = all_parts (IsSound k) (alike_pairs (query_kinds_of k left) (query_kinds_of k right) ++ query_sites k left) (query_sites k right) s.1 in
    let kinds = all_parts (IsSound k) (alike_pairs (query_kinds_of k left) (query_kinds_of k right)) (query_sites k left) queries.0 in
    record { counts = same_count (query_count k.tables left) (query_count k.tables right) s.0.counts; kinds = kinds.0; first = kinds.1; second = queries.1 }

-- a query expression has as many kinds as columns are counted
pub query_count_there : (k : Known) (q : Query Named) → QuerySpellsNoNull q → AreSound k (query_sites k q) → HasCount (query_count k.tables q) (query_kinds (kinds_by_name k.tables k.parameters) q)
query_count_there k (specification q) n s = select_count_there k [] false tt q n s
query_count_there k (union all left right) n s =
    let sides = sides_of k all left right s in
    both_counted k (query_kinds_of k left) (query_kinds_of k right) (query_count k.tables left) (query_count k.tables right) (query_count_there k left n.0 sides.first) (query_count_there k right n.1 sides.second) sides.counts sides.kinds

-- a query expression at whose sites no rule is broken is well formed
pub query_well_formed : (k : Known) (rows_of : TableName → Outcome (List Row)) (q : Query Named) → QuerySpellsNoNull q → AreSound k (query_sites k q)
    → WellFormedQuery (reading_by_name k.tables rows_of) (kinds_by_name k.tables k.parameters) (IsDeclaredIn k.parameters) q
query_well_formed k rows_of (specification q) n s = select_well_formed k rows_of q [] false tt n s
query_well_formed k rows_of (union all left right) n s =
    let sides = sides_of k all left right s in (
      query_well_formed k rows_of left n.0 sides.first,
      query_well_formed k rows_of right n.1 sides.second,
      counted_valued (query_count k.tables left) (query_kinds (kinds_by_name k.tables k.parameters) (union all left right)) (query_count_there k (union all left right) n s),
    )

-- ---- the names of the result columns

select_names_there : (k : Known) (q : Select Named) → AreSound k (select_sites k outside q) → HasValue (select_names k.tables q)
select_names_there k (select distinct all_columns from filter by having) s =
    let items = sym (items_are k from (parts_of k [] false distinct all_columns from filter by having s).known) in
    then_valued (each (item_of k.tables) from) (λ (heads : List Item). flat_map (λ head. map Some head.columns) heads) (subst (λ (o : Outcome (List Item)). HasValue o) items tt)
select_names_there k (select distinct (expressions es) from filter by having) s = tt

both_named : {A B C : Type 0} (o : Outcome A) (r : Outcome B) (f : A → B → C) → HasValue o → HasValue r → HasValue (and_then o (λ x. and_then r (λ y. Ok (f x y))))
both_named (Ok x) (Ok y) f h g = tt
both_named (Ok x) (Err status) f h g = absurd g
both_named (Err status) r f h g = absurd h

-- the names of the result columns of a query expression at whose sites no rule is broken are known
pub query_names_there : (k : Known) (q : Query Named) → AreSound k (query_sites k q) → HasValue (query_names k.tables q)
query_names_there k (specification q) s = select_names_there k q s
query_names_there k (union all left right) s =
    let sides = sides_of k all left right s in
    both_named (query_names k.tables left) (query_names k.tables right) (λ ls rs. map (λ p. common_name p.0 p.1) (zip ls rs))
    (query_names_there k left sides.first) (query_names_there k right sides.second)

-- ---- what the rules of the machine take

-- a query specification that has no syntax fault is well formed
pub taken_select_well_formed : (j : Judged) (rows_of : TableName → Outcome (List Row)) (q : Select Named) → SelectSpellsNoNull q → has_syntax_fault j (select_sites j.known outside q) ≡ false
    → WellFormedSelect (reading_by_name j.known.tables rows_of) (kinds_by_name j.known.tables j.known.parameters) (IsDeclaredIn j.known.parameters) [] q
taken_select_well_formed j rows_of q n e = select_well_formed j.known rows_of q [] false tt n (sound_sites j (select_sites j.known outside q) e)

-- a query expression that has no syntax fault is well formed
pub taken_query_well_formed : (j : Judged) (rows_of : TableName → Outcome (List Row)) (q : Query Named) → QuerySpellsNoNull q → has_syntax_fault j (query_sites j.known q) ≡ false
    → WellFormedQuery (reading_by_name j.known.tables rows_of) (kinds_by_name j.known.tables j.known.parameters) (IsDeclaredIn j.known.parameters) q
taken_query_well_formed j rows_of q n e = query_well_formed j.known rows_of q n (sound_sites j (query_sites j.known q) e)
