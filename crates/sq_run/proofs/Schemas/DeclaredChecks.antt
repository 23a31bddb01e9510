-- The keys, CHECKs and NOT NULLs that the catalog has of a base table are those that the definitions read
-- in its text (ISO/IEC 9075:1992, 11.4, 11.7 and 11.9).
use Rattle.std.proofs.Common.{◌≡◌, ℕ, ◌+◌, false, List, [], ◌∷◌, ◌++◌, length, length-append, map, refl, sym, ap, subst, ◌∙◌}
use Rattle.std.proofs.lemmas.Cmp.{nat_list_eq_equiv}
use Rattle.std.proofs.lemmas.List.{append_assoc}
use Rattle.std.specs.List.{AllByRecursion, AllZip, cons_option, enumerate_from, list_any}
use Rattle.sq_lex.specs.declared.name.Name.{Name}
use Rattle.sq_tree.specs.declared.schema.ColumnConstraint.{ColumnConstraint}
use Rattle.sq_tree.specs.declared.schema.ColumnConstraint.TheVariants as constraint
use Rattle.sq_tree.specs.declared.schema.ColumnDefinition.{ColumnDefinition}
use Rattle.sq_tree.specs.declared.schema.TableDefinition.{TableDefinition}
use Rattle.sq_meaning.specs.Environment.{same_name}
use Rattle.sq_meaning.specs.Spelled.{cond_of}
use Rattle.sq_meaning.proofs.AnswerLaws.{all_appended}
use Rattle.sq_meaning.specs.Schema.{BaseTable, checks, column_definitions, has_name_twice, keys, table_columns}
use Rattle.sq_meaning.specs.Words.{has_twice}
use Rattle.sq_meaning.specs.Constraints.{places_among}
use Rattle.sq_bound.specs.declared.names.BaseTable.{BaseTable as BoundTable}
use Rattle.sq_binding.specs.Written.{CondIs, check_placed}
use Rattle.sq_run.proofs.Sites.SiteLaws.{neither, none_passes}
use Rattle.sq_catalog.specs.Base.{IsBaseOf}
use Rattle.sq_catalog.specs.Columns.{AreBaseColumnsOf, IsBaseColumnOf, IsColumnOf}
use Rattle.sq_catalog.specs.Keys.{KeysStandAt, StandAt, keys_written, names_written}
use Rattle.sq_catalog.specs.Written.{is_not_null_constraint}
use Rattle.sq_catalog.proofs.CreateTable.WrittenRules.{checks_are_written, columns_are_written, keys_are_written, names_are_written}
use Rattle.sq_run.proofs.Changed.Checks.{IsCondOfRow, IsRowCheckedAs}
use Rattle.sq_run.proofs.Changed.NotNull.{AreFoundFrom, is_not_null, refuses_null}
use Rattle.sq_run.proofs.Places.Outcomes.{weaker_zip}
use Rattle.sq_run.proofs.Steps.Unnamed.{WrittenKey}
use Rattle.sq_run.proofs.Schemas.DeclaredColumns.{names_seen}
use Rattle.sq_run.proofs.Schemas.Numbers.{first_behind}

-- ---- keys

-- columns that stand at these places
pub places_stand : (columns names : List Name) (places : List ℕ) → StandAt columns names places
    → places ≡ places_among columns names
places_stand columns [] [] h = refl
places_stand columns [] (p ∷ places) h = absurd h
places_stand columns (n ∷ names) [] h = absurd h
places_stand columns (n ∷ names) (p ∷ places) h =
    ap (λ l. p ∷ l) (places_stand columns names places h.1)
    ∙ ap (λ o. cons_option o (places_among columns names)) (sym h.0)

keys_stand : (columns : List Name) (ks : List WrittenKey) (places : List (List ℕ)) → KeysStandAt columns ks places
    → places ≡ map (places_among columns) (map (λ k. k.columns) ks)
keys_stand columns [] [] h = refl
keys_stand columns [] (p ∷ places) h = absurd h
keys_stand columns (k ∷ ks) [] h = absurd h
keys_stand columns (k ∷ ks) (p ∷ places) h = (λ i. places_stand columns k.columns p h.0 i ∷ keys_stand columns ks places h.1 i)

pub keys_held : (t : TableDefinition) (held : List (List ℕ)) → KeysStandAt (names_written t) (keys_written t) held
    → held ≡ map (places_among (table_columns t)) (keys t)
keys_held t held h =
    keys_stand (names_written t) (keys_written t) held h
    ∙ (λ i. map (places_among (names_are_written t i)) (keys_are_written t i))

-- ---- NOT NULL

same_not_null : (cs : List ColumnConstraint) → list_any is_not_null_constraint cs ≡ list_any is_not_null cs
same_not_null [] = refl
same_not_null (constraint.NotNull ∷ cs) = refl
same_not_null (constraint.Unique ∷ cs) = same_not_null cs
same_not_null (constraint.PrimaryKey ∷ cs) = same_not_null cs
same_not_null (constraint.References to ∷ cs) = same_not_null cs
same_not_null (constraint.Check condition ∷ cs) = same_not_null cs

-- ---- columns are found by their names

abbrev AreApartFrom : List Name → List ColumnDefinition → Type 0
AreApartFrom before ws = AllByRecursion (λ w. AllByRecursion (λ n. same_name w.name n ≡ false) before) ws

apart_more : (before : List Name) (name : Name) (ws : List ColumnDefinition) → AreApartFrom before ws
    → AllByRecursion (λ n. same_name name n ≡ false) (map (λ w. w.name) ws) → AreApartFrom (before ++ name ∷ []) ws
apart_more before name [] old new = tt
apart_more before name (w ∷ ws) old new = (
  all_appended (λ n. same_name w.name n ≡ false) before (name ∷ []) old.0 (nat_list_eq_equiv.symm w.name name ∙ new.0, tt),
  apart_more before name ws old.1 new.1,
)

found_from : (before : List Name) (ws : List ColumnDefinition) → AreApartFrom before ws
    → has_twice same_name (map (λ w. w.name) ws) ≡ false
    → AreFoundFrom (before ++ map (λ w. w.name) ws) (length before) ws
found_from before [] apart once = tt
found_from before (w ∷ ws) apart once =
    let parts = neither (list_any (same_name w.name) (map (λ x. x.name) ws)) (has_twice same_name (map (λ x. x.name) ws)) once in
    let later = none_passes (same_name w.name) (map (λ x. x.name) ws) parts.0 in
    let shorter : (before ++ w.name ∷ []) ++ map (λ x. x.name) ws ≡ before ++ w.name ∷ map (λ x. x.name) ws
    = append_assoc before (w.name ∷ []) (map (λ x. x.name) ws) in
    let longer : length (before ++ w.name ∷ []) ≡ length before + 1 = length-append before (w.name ∷ []) in (
      first_behind (same_name w.name) before w.name (before ++ w.name ∷ map (λ x. x.name) ws) (map (λ x. x.name) ws, sym shorter) apart.0
          (nat_list_eq_equiv.refl w.name),
      subst (λ names. AreFoundFrom names (length before + 1) ws) shorter
          (subst (λ n. AreFoundFrom ((before ++ w.name ∷ []) ++ map (λ x. x.name) ws) n ws) longer (found_from (before ++ w.name ∷ []) ws (apart_more before w.name ws apart.1 later) parts.1)),
    )

all_empty : (ws : List ColumnDefinition) → AreApartFrom [] ws
all_empty [] = tt
all_empty (w ∷ ws) = (tt, all_empty ws)

columns_found : (t : TableDefinition) → has_name_twice (table_columns t) ≡ false
    → AreFoundFrom (table_columns t) 0 (column_definitions t)
columns_found t once = found_from [] (column_definitions t) (all_empty (column_definitions t)) once

-- ---- a row

-- A base table whose columns have different names, and whose conditions read a row alone, is
-- checked as it is written.
pub row_checked_as : (t : BaseTable) (b : BoundTable)
    → IsBaseOf (record { user = t.name.user; name = t.name.name }) t.definition b
    → has_name_twice (table_columns t.definition) ≡ false
    → AllByRecursion (λ written. IsCondOfRow (cond_of t.name.user written)) (checks t.definition) → IsRowCheckedAs t b
row_checked_as t b h once of_row = record {
  columns = h.checks.columns;
  names =
      names_seen 0 (column_definitions t.definition) h.checks.columns
      (subst (λ ws. AllZip IsColumnOf (enumerate_from 0 ws) h.checks.columns) (columns_are_written t.definition) h.checks.columns_are);
  checks_are =
      subst (λ ws. AllZip (λ written c. CondIs (check_placed t.name h.checks.columns written) c) ws b.checks)
      (checks_are_written t.definition) h.checks.checks_are;
  of_row = of_row;
  found = columns_found t.definition once;
  not_nulls =
      weaker_zip IsBaseColumnOf (λ w c. c.not_null ≡ refuses_null w) (λ w c r. r.not_null ∙ same_not_null w.constraints)
      (column_definitions t.definition) b.columns
      (subst (λ ws. AreBaseColumnsOf ws b.columns) (columns_are_written t.definition) h.columns);
}
