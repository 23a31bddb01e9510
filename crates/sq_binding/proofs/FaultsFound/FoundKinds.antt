-- The kind of a bound value expression is the one that the rules look at. A column of a query further out is an outer reference for
-- them (ISO/IEC 9075:1992, 6.4 and 6.5).
use Rattle.std.proofs.Common.{◌≡◌, ℕ, zero, suc, Bool, true, false, ◌||◌, List, [], ◌∷◌, ◌++◌, map, max, Option, Some, None, Ok, Err, arith, refl, ap, subst, ◌∙◌}
use Rattle.std.proofs.lemmas.Bool.Decides.{nat_tests}
use Rattle.std.specs.List.{AllByRecursion, AllZip, cons_option, list_any}
use Rattle.std.specs.Option.{option_map}
use Rattle.std.specs.Prelude.{⊤, filter_map, find, nat_lt, unwrap_or}
use Rattle.std.specs.Result.{result_ok}
use Rattle.sq_value.proofs.Truths.{or_true, or_assoc_left}
use Rattle.sq_value.specs.Domain.{kind_of}
use Rattle.sq_value.specs.declared.domain.Domain.{Domain}
use Rattle.sq_value.specs.declared.domain.Kind.{Kind}
use Rattle.sq_value.specs.declared.value.Value.TheVariants as value
use Rattle.sq_tree.specs.declared.names.ColumnReference.{ColumnReference}
use Rattle.sq_meaning.specs.Environment.{Item, Place, TableReference, place_of, same_name}
use Rattle.sq_meaning.specs.Kind.{function_kind, kind, product_kind, signed_kind, sum_kind}
use Rattle.sq_meaning.specs.Spelled.{Named}
use Rattle.sq_meaning.specs.Status as status
use Rattle.sq_meaning.specs.Syntax.{Expr, added, bracketed, column, count_rows, literal, parameter, scaled, set_function, signed, user}
use Rattle.sq_meaning.specs.Tables.{Declared, TableDescriptor, column_names, descriptor_of, item_of, kind_at, kinds_by_name}
use Rattle.sq_meaning.specs.WellFormed.{HasValue}
use Rattle.sq_meaning.specs.Binding.{Judged, column_of_site, domain_named, is_outer, item_here, items_here, reads_outer}
use Rattle.sq_meaning.specs.Binding as rules
use Rattle.sq_meaning.specs.Site.{Around, EnclosingQuery, Known, Site, expr_sites}
use Rattle.sq_binding.specs.Expression.{Bound, bound}
use Rattle.sq_binding.specs.Scope.{FoundColumn, Scope, column_meant}
use Rattle.sq_binding.proofs.Inductions.Cases.{Cases, it_holds}
use Rattle.sq_binding.proofs.FaultsFound.Known.{IfMeant, IfNamed, IsOver, Meant, column_found, parameter_found}
use Rattle.sq_binding.proofs.Placing.Placed.{product_kind_is, signed_number, sum_kind_is}

-- ---- what is known of the surroundings

-- no text spells the null value (5.3)
abbrev pub SpellsNoNull : Expr Named → Type 0
SpellsNoNull (literal value.Null) = ⊥
SpellsNoNull (literal (value.Num n)) = ⊤
SpellsNoNull (literal (value.Chars t)) = ⊤
SpellsNoNull (parameter p) = ⊤
SpellsNoNull user = ⊤
SpellsNoNull (column c) = ⊤
SpellsNoNull count_rows = ⊤
SpellsNoNull (set_function f distinct e) = SpellsNoNull e
SpellsNoNull (signed sign e) = SpellsNoNull e
SpellsNoNull (added sign e g) = SpellsNoNull e × SpellsNoNull g
SpellsNoNull (scaled sign e g) = SpellsNoNull e × SpellsNoNull g
SpellsNoNull (bracketed e) = SpellsNoNull e

abbrev pub standing : List EnclosingQuery → (allowed in_function : Bool) → Around
standing queries allowed inside = record { queries = queries; functions_allowed = allowed; in_function = inside }

abbrev pub froms_of : List EnclosingQuery → List (List TableReference)
froms_of queries = map (λ query. query.from) queries

pub item_is : (r : TableReference) (o : status.Outcome TableDescriptor) → HasValue o
    → status.and_then {B = Item} o (λ d. Ok (record { reference = r; columns = column_names d }))
    ≡ Ok (unwrap_or (result_ok (status.and_then {B = Item} o (λ d. Ok (record { reference = r; columns = column_names d })))) (record { reference = r; columns = [] }))
item_is r (Ok d) h = refl
item_is r (Err s) h = absurd h

items_are : (k : Known) (from : List TableReference) → AllByRecursion (λ r. HasValue (descriptor_of k.tables r.table)) from → status.each (item_of k.tables) from ≡ Ok (map (item_here k) from)
items_are k [] h = refl
items_are k (r ∷ from) h =
    ap (λ (o : status.Outcome Item). status.and_then o (λ y. status.and_then (status.each (item_of k.tables) from) (λ ys. Ok (y ∷ ys)))) (item_is r (descriptor_of k.tables r.table) h.0)
    ∙ ap (λ (o : status.Outcome (List Item)). status.and_then o (λ ys. Ok (item_here k r ∷ ys))) (items_are k from h.1)

all_items_are : (k : Known) (scopes : List Scope) (queries : List EnclosingQuery) → AllZip (IsOver k) scopes queries → status.each (status.each (item_of k.tables)) (froms_of queries) ≡ Ok (map (items_here k) queries)
all_items_are k [] [] h = refl
all_items_are k [] (query ∷ queries) h = absurd h
all_items_are k (scope ∷ scopes) [] h = absurd h
all_items_are k (scope ∷ scopes) (query ∷ queries) h =
    ap (λ (o : status.Outcome (List Item)). status.and_then o (λ y. status.and_then (status.each (status.each (item_of k.tables)) (froms_of queries)) (λ ys. Ok (y ∷ ys)))) (items_are k query.from h.0.known)
    ∙ ap (λ (o : status.Outcome (List (List Item))). status.and_then o (λ ys. Ok (items_here k query ∷ ys))) (all_items_are k scopes queries h.1)

module _ (j : Judged) (scopes : List Scope) (queries : List EnclosingQuery) (over : AllZip (IsOver j.known) scopes queries) where
  pub meant_there : (c : ColumnReference) (found : FoundColumn) → column_meant c scopes ≡ Ok found → Meant j.known c scopes queries found
  meant_there c found is = subst (IfMeant j.known c scopes queries) is (column_found j.known c scopes queries over)

  -- ---- kinds

  abbrev KindIs : Expr Named → Kind → Type 0
  KindIs e k = kind (kinds_by_name j.known.tables j.known.parameters) (froms_of queries) e ≡ Ok k

  declared_kind : (o : Option Declared) (d : Domain) → option_map (λ p. p.domain) o ≡ Some d → option_map (λ p. kind_of p.domain) o ≡ Some (kind_of d)
  declared_kind None d e = cc
  declared_kind (Some p) d e = let same : p.domain ≡ d = cc in ap (λ d. Some (kind_of d)) same

  kind_cases : Cases scopes j.known.parameters (λ allowed n e x. KindIs e x.kind)
  kind_cases = record {
    of_literal = λ allowed n v k is. is;
    of_parameter = λ allowed n p at i is so.
        ap status.well_formed (declared_kind (find (λ d. same_name d.name p.name) j.known.parameters) at.1 (subst (IfNamed (domain_named j.known p.name)) is (parameter_found j.known p.name)));
    of_user = λ allowed n. refl;
    of_column = λ allowed n c found is.
        let m = meant_there c found is in
        ap (λ (o : status.Outcome (List (List Item))). status.and_then o (λ items. status.and_then (place_of c items) (kind_at j.known.tables (froms_of queries)))) (all_items_are j.known scopes queries over)
        ∙ ap (λ (o : status.Outcome Place). status.and_then o (kind_at j.known.tables (froms_of queries))) m.placed ∙ m.kind;
    of_count = λ n. refl;
    of_function = λ n f distinct e x k h own is. ap (λ (o : status.Outcome Kind). status.and_then o (function_kind f)) h ∙ is;
    of_signed = λ allowed n sign e x h number. ap (λ (o : status.Outcome Kind). status.and_then o signed_kind) h ∙ signed_number x.kind number;
    of_added = λ allowed n sign a b x y k h g is.
        ap (λ (o : status.Outcome Kind). status.and_then o (λ l. status.and_then (kind (kinds_by_name j.known.tables j.known.parameters) (froms_of queries) b) (sum_kind l))) h
        ∙ ap (λ (o : status.Outcome Kind). status.and_then o (sum_kind x.kind)) g ∙ sum_kind_is sign x.kind y.kind ∙ is;
    of_scaled = λ allowed n sign a b x y k h g is.
        ap (λ (o : status.Outcome Kind). status.and_then o (λ l. status.and_then (kind (kinds_by_name j.known.tables j.known.parameters) (froms_of queries) b) (product_kind sign l))) h
        ∙ ap (λ (o : status.Outcome Kind). status.and_then o (product_kind sign x.kind)) g ∙ product_kind_is sign x.kind y.kind ∙ is;
    of_bracketed = λ allowed n e x h. h;
  }

  -- the kind of what is bound is the one that the rules look at
  pub kind_found : (allowed inside : Bool) (e : Expr Named) (n : ℕ) (x : Bound) → bound scopes j.known.parameters allowed inside e n ≡ Ok x → KindIs e x.kind
  kind_found = it_holds scopes j.known.parameters (λ allowed n e x. KindIs e x.kind) kind_cases

  -- ---- columns of queries further out

  pub outer_both : (test : ColumnReference → Bool) (xs ys : List Site) → list_any test (filter_map column_of_site (xs ++ ys)) ≡ (list_any test (filter_map column_of_site xs) || list_any test (filter_map column_of_site ys))
  outer_both test [] ys = refl
  outer_both test (s ∷ xs) ys = first (column_of_site s) (outer_both test xs ys)
    where
      first : (o : Option ColumnReference) → list_any test (filter_map column_of_site (xs ++ ys)) ≡ (list_any test (filter_map column_of_site xs) || list_any test (filter_map column_of_site ys))
          → list_any test (cons_option o (filter_map column_of_site (xs ++ ys))) ≡ (list_any test (cons_option o (filter_map column_of_site xs)) || list_any test (filter_map column_of_site ys))
      first None rest = rest
      first (Some c) rest = ap (λ b. test c || b) rest ∙ or_assoc_left (test c) (list_any test (filter_map column_of_site xs)) (list_any test (filter_map column_of_site ys))

  -- a column further out is an outer reference for the rules
  abbrev OuterIs : Around → Expr Named → ℕ → Type 0
  OuterIs b e reach = nat_lt 0 reach ≡ true → reads_outer j.known b e ≡ true

  both_outer : (b : Around) (e g : Expr Named) (m n : ℕ) → OuterIs b e m → OuterIs b g n → nat_lt 0 (max m n) ≡ true → list_any (is_outer j.known b) (filter_map column_of_site (expr_sites j.known b e ++ expr_sites j.known b g)) ≡ true
  both_outer b e g zero n h k far =
      outer_both (is_outer j.known b) (expr_sites j.known b e) (expr_sites j.known b g)
      ∙ ap (λ r. reads_outer j.known b e || r) (k (grind (arith, nat_tests, far))) ∙ or_true (reads_outer j.known b e)
  both_outer b e g (suc m) n h k far =
      outer_both (is_outer j.known b) (expr_sites j.known b e) (expr_sites j.known b g)
      ∙ ap (λ r. r || reads_outer j.known b g) (h (grind (arith, nat_tests)))

  module _ (b : Around) (same : b.queries ≡ queries) where
    outer_cases : Cases scopes j.known.parameters (λ allowed n e x. OuterIs b e x.findings.reach)
    outer_cases = record {
      of_literal = λ allowed n v k is far. cc;
      of_parameter = λ allowed n p at i is so far. cc;
      of_user = λ allowed n far. cc;
      of_column = λ allowed n c found is far.
          let m = meant_there c found is in
          let one : is_outer j.known b c ≡ true = ap (λ qs. list_any (λ p. nat_lt 0 p.depth) (rules.fits j.known c qs)) same ∙ ap (list_any (λ (p : Place). nat_lt 0 p.depth)) m.fits ∙ ap (λ t. t || false) far in
          ap (λ t. t || false) one;
      of_count = λ n far. cc;
      of_function = λ n f distinct e x k h own is far. cc;
      of_signed = λ allowed n sign e x h number far. h far;
      of_added = λ allowed n sign e g x y k h l is far. both_outer b e g x.findings.reach y.findings.reach h l far;
      of_scaled = λ allowed n sign e g x y k h l is far. both_outer b e g x.findings.reach y.findings.reach h l far;
      of_bracketed = λ allowed n e x h. h;
    }

    pub outer_found : (allowed inside : Bool) (e : Expr Named) (n : ℕ) (x : Bound) → bound scopes j.known.parameters allowed inside e n ≡ Ok x → OuterIs b e x.findings.reach
    outer_found = it_holds scopes j.known.parameters (λ allowed n e x. OuterIs b e x.findings.reach) outer_cases
