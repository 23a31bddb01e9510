-- A view that CREATE VIEW made is the written one (ISO/IEC 9075:1992, 7.9 and 11.19). It has its query with names placed, the names of its
-- columns, and the leaf under it. It has the conditions that new and changed rows have to meet. Its columns have the kinds of its query's.
use Rattle.std.proofs.Common.{◌≡◌, Bool, true, false, not, ◌&&◌, List, [], ◌∷◌, arith, length, map, Option, Some, None, Ok, Err, refl, sym, ap, subst, ◌∙◌}
use Rattle.std.specs.Prelude.{◌==◌, if◌then◌else◌, is_none}
use Rattle.std.proofs.lemmas.Bool.{eqb-true}
use Rattle.sq_lex.specs.declared.name.Name.{Name}
use Rattle.sq_tree.specs.declared.list.CommaList.{CommaList}
use Rattle.sq_tree.specs.declared.schema.ViewDefinition.{ViewDefinition}
use Rattle.sq_meaning.specs.Spelled.{listed, select_of, table_of}
use Rattle.sq_meaning.specs.Schema.{has_name_twice}
use Rattle.sq_meaning.specs.declared.refusal.SchemaFault.TheVariants as fault
use Rattle.sq_binding.specs.NumberedCondition.{ResultColumn, columns_of}
use Rattle.sq_binding.specs.Outcome as binding
use Rattle.sq_binding.specs.View.{NumberedView, view_bound}
use Rattle.sq_binding.proofs.Placing.PlacedView.{IsView, view_is_placed}
use Rattle.sq_binding.specs.Catalog.{Catalog, names_of}
use Rattle.sq_binding.specs.ElementOutcome.{Outcome, and_then, refused_if}
use Rattle.sq_binding.specs.Table.{has_place, is_taken}
use Rattle.sq_binding.specs.CreateView.{NewView, as_many, column_names, declared_view, lists_twice, new_view, or_bad_view, own_names, view_columns}
use Rattle.sq_binding.proofs.Schemas.Answers.{steps_of}

-- What is made of a view definition of a user in a catalog.
pub record IsWritten (c : Catalog) (user : Name) (v : ViewDefinition) (n : NewView) : Type 0 where
  pub bound : NumberedView
  pub is_bound : view_bound (names_of c user) (select_of user v.query) ≡ Ok bound
  -- a view's query is the text's with names placed and, where it is updatable, so are its rows under it
  pub placed : IsView (names_of c user) (select_of user v.query) bound
  pub names : List Name
  pub names_are : column_names v.columns (columns_of bound.query) ≡ Ok names
  pub as_many : length names ≡ length (columns_of bound.query)
  pub made : n ≡ new_view c user v bound names
  pub kinds : map (λ c. c.kind) n.view.columns ≡ map (λ c. c.kind) (columns_of n.view.query)

bound_is : (o : binding.Outcome NumberedView) (b : NumberedView) → or_bad_view o ≡ Ok b → o ≡ Ok b
bound_is (Ok x) b e = let same : x ≡ b = cc in ap Ok same
bound_is (Err f) b e = cc

many : (cs : List ResultColumn) (names found : List Name) → as_many cs names ≡ Ok found → (length found ≡ length cs)
many cs names found e = by (length names == length cs) refl e
  where
    by : (b : Bool) → (length names == length cs) ≡ b → (if b then Ok names else Err fault.BadView) ≡ Ok found → length found ≡ length cs
    by true is e = let same : names ≡ found = cc in sym (ap length same) ∙ eqb-true (length names) (length cs) is
    by false is e = cc

names_count : (written : Option (CommaList Name)) (cs : List ResultColumn) (found : List Name) → column_names written cs ≡ Ok found → length found ≡ length cs
names_count (Some list) cs found e = many cs (listed list) found e
names_count None cs found e =
    let once = steps_of (refused_if fault.NameTwice (has_name_twice (own_names cs))) (λ _. as_many cs (own_names cs)) found e in
    many cs (own_names cs) found once.second

kinds_shown : (ns : List Name) (cs : List ResultColumn) → length ns ≡ length cs → map (λ c. c.kind) (view_columns ns cs) ≡ map (λ c. c.kind) cs
kinds_shown [] [] e = refl
kinds_shown [] (c ∷ cs) e = cc
kinds_shown (n ∷ ns) [] e = cc
kinds_shown (n ∷ ns) (c ∷ cs) e = let rest : length ns ≡ length cs = omega (arith, e) in ap (λ l. c.kind ∷ l) (kinds_shown ns cs rest)

module _ (c : Catalog) (user : Name) (v : ViewDefinition) where
  abbrev with_place : NumberedView → List Name → Outcome NewView
  with_place b ns = and_then (has_place c user (table_of user v.name)) (λ _. Ok (new_view c user v b ns))

  abbrev with_privilege : NumberedView → List Name → Outcome NewView
  with_privilege b ns = and_then (refused_if fault.PrivilegeMissing (not b.may_select)) (λ _. with_place b ns)

  abbrev with_option : NumberedView → List Name → Outcome NewView
  with_option b ns = and_then (refused_if fault.BadCheckOption (v.check_option && is_none b.updatable)) (λ _. with_privilege b ns)

  abbrev with_names : NumberedView → Outcome NewView
  with_names b = and_then (column_names v.columns (columns_of b.query)) (with_option b)

  abbrev with_query : Outcome NewView
  with_query = and_then (or_bad_view (view_bound (names_of c user) (select_of user v.query))) with_names

  pub view_is_written : (n : NewView) → declared_view c user v ≡ Ok n → IsWritten c user v n
  view_is_written n is =
      let free = steps_of (refused_if fault.NameTwice (is_taken c user (table_of user v.name))) (λ _. and_then (refused_if fault.NameTwice (lists_twice v.columns)) (λ _. with_query)) n is in
      let once = steps_of (refused_if fault.NameTwice (lists_twice v.columns)) (λ _. with_query) n free.second in
      let b = steps_of (or_bad_view (view_bound (names_of c user) (select_of user v.query))) with_names n once.second in
      let ns = steps_of (column_names v.columns (columns_of b.step.query)) (with_option b.step) n b.second in
      let option = steps_of (refused_if fault.BadCheckOption (v.check_option && is_none b.step.updatable)) (λ _. with_privilege b.step ns.step) n ns.second in
      let privilege = steps_of (refused_if fault.PrivilegeMissing (not b.step.may_select)) (λ _. with_place b.step ns.step) n option.second in
      let place = steps_of (has_place c user (table_of user v.name)) (λ _. Ok (new_view c user v b.step ns.step)) n privilege.second in
      let last = place.second in
      let same : new_view c user v b.step ns.step ≡ n = cc in
      let count = names_count v.columns (columns_of b.step.query) ns.step ns.first in
      let query_is = bound_is (view_bound (names_of c user) (select_of user v.query)) b.step b.first in
      record {
        bound = b.step;
        is_bound = query_is;
        placed = view_is_placed (names_of c user) (select_of user v.query) b.step query_is;
        names = ns.step;
        names_are = ns.first;
        as_many = count;
        made = sym same;
        kinds = subst (λ (n : NewView). map (λ c. c.kind) n.view.columns ≡ map (λ c. c.kind) (columns_of n.view.query)) same (kinds_shown ns.step (columns_of b.step.query) count);
      }
