-- Of some rows of a base table, those with wanted values in some columns, a plain view shows those of its rows that have wanted values in the columns
-- that show them, through other plain views too (ISO/IEC 9075:1992, 7.6 to 7.9 and 11.19).
use Rattle.std.proofs.Common.{◌≡◌, ◌∙◌, ℕ, nat_lt, ◌<◌, Bool, true, false, List, [], ◌∷◌, Option, filter, length, refl, sym, ap, subst, Ok, Err}
use Rattle.std.specs.Prelude.{if◌then◌else◌, slice_get}
use Rattle.std.specs.List.{AllZip}
use Rattle.sq_lex.specs.declared.name.Name.{Name}
use Rattle.sq_value.specs.declared.domain.Kind.{Kind}
use Rattle.sq_value.specs.declared.value.Value.{Value}
use Rattle.sq_store.specs.Content.{Content, table_at}
use Rattle.sq_store.specs.declared.table.Table.{Table}
use Rattle.sq_meaning.specs.Environment.{Row}
use Rattle.sq_meaning.specs.Status.{Outcome, and_then, not_well_formed, well_formed}
use Rattle.sq_meaning.specs.Tables.{rows_in}
use Rattle.sq_meaning.specs.WellFormed.{AreRowsOf, Fits, HasValue, IsNoSyntaxError}
use Rattle.sq_bound.specs.WellFormed.{TableKinds, before_view, kinds_of_select}
use Rattle.sq_bound.specs.declared.condition.BoundSpecification.{BoundSpecification}
use Rattle.sq_bound.specs.declared.condition.TablePlace.{TablePlace}
use Rattle.sq_bound.specs.declared.condition.TablePlace.TheVariants.{Base, View}
use Rattle.sq_query.specs.Specification.{with_rows}
use Rattle.sq_query.specs.Shown.{AreRight, AreShown, Asks, IsPath, IsPlainView, first_of, shown_of}
use Rattle.sq_query.specs.Table.{AreMeant, rows_of_view}
use Rattle.sq_query.specs.Union.{AreFitting}
use Rattle.sq_query.proofs.Keys.KeyTests.{if_some}
use Rattle.sq_query.proofs.Needs.NeededViews.{reads_known}
use Rattle.sq_query.proofs.Keys.Searched.{only_read, with_own}
use Rattle.sq_query.proofs.PlainViews.AskedViews.{plain_asked, plain_sure}
use Rattle.sq_query.proofs.PlainViews.SureRows.{IsShort, IsSureWith}
use Rattle.sq_query.proofs.PlainViews.Wanted.{AreAlike, wanted_in}
use Rattle.sq_query.proofs.Targets.WalkedRows.{there_within}

-- ---- the table under a plain view is known

module _ (columns : TableKinds) (view : ℕ) where
  pub before_same : (t : TablePlace) → HasValue (before_view view columns t) → before_view view columns t ≡ columns t
  before_same (Base n) h = refl
  before_same (View n) h = by (nat_lt n view) h
    where
      by : (b : Bool) → HasValue (if b then columns (View n) else not_well_formed) → (if b then columns (View n) else not_well_formed) ≡ columns (View n)
      by true h = refl
      by false h = absurd h

  pub known_under : (queries : List BoundSpecification) (t : TablePlace) → IsPlainView columns queries view t → HasValue (before_view view columns t)
  known_under queries t v = only_read (λ u. HasValue (before_view view columns u)) v.query t v.plain.over (reads_known (before_view view columns) [] [] v.query v.well)

-- the base table at the end of a path is known
pub base_of_path : (columns : TableKinds) (queries : List BoundSpecification) (view base : ℕ) (views : List ℕ) → IsPath columns queries (view ∷ views) base → HasValue (columns (Base base))
base_of_path columns queries view base [] path = known_under columns view queries (Base base) path.0
base_of_path columns queries view base (under ∷ views) path = base_of_path columns queries under base views path.1

module _ (tables : TablePlace → Outcome (List Row)) (columns : TableKinds) (caller : Name) (queries : List BoundSpecification) (content : Content) (base : ℕ) (there : base < length content) (own_columns : List ℕ) (wants : List Value → Bool) (alike : AreAlike wants) (few_rows : List Row)
    (narrowed : few_rows ≡ filter (wanted_in wants own_columns) (rows_in (table_at content base))) (short : IsShort (rows_in (table_at content base))) (meant : AreMeant queries content caller tables) (fitting : AreFitting columns tables) where
  abbrev is_ok : List Row → Outcome (List Row)
  is_ok found = Ok found

  abbrev pub shown_few : List ℕ → Outcome (List Row)
  shown_few = shown_of few_rows tables caller queries base

  -- ---- what views show of all rows, and of a few

  -- the rows of the first table of a path, and those that it shows of the few rows: all that have wanted values in these columns
  pub record IsThinned (views : List ℕ) (shown : List ℕ) : Type 0 where
    pub all : List Row
    pub few : List Row
    pub all_are : tables (first_of views base) ≡ Ok all
    pub few_are : shown_few views ≡ Ok few
    pub those : few ≡ filter (wanted_in wants shown) all
    pub all_short : IsShort all

  -- rows that end with no other status than 42000, and not with that
  rows_there : (kinds : List Kind) (o : Outcome (List Row)) → IsSureWith IsShort o → Fits AreRowsOf (Ok kinds) o → (found : List Row) × (o ≡ Ok found) × IsShort found
  rows_there kinds (Ok found) sure fits = (found, refl, sure)
  rows_there kinds (Err status) sure fits = absurd (subst IsNoSyntaxError sure fits)

  module _ (view : ℕ) (views : List ℕ) (between shown : List ℕ) (v : IsPlainView columns queries view (first_of views base)) (below : IsThinned views between) (zipped : AllZip (Asks v.query) between shown) where
    abbrev table : TablePlace
    table = first_of views base

    abbrev with_few : TablePlace → Outcome (List Row)
    with_few = with_rows table (shown_few views) tables

    view_is : tables (View view) ≡ rows_of_view tables caller v.query
    view_is = meant.views view ∙ ap (λ (o : Option BoundSpecification). and_then (well_formed o) (rows_of_view tables caller)) v.is_query

    view_fits : Fits AreRowsOf (Ok (kinds_of_select v.query)) (rows_of_view tables caller v.query)
    view_fits = subst (Fits AreRowsOf (Ok (kinds_of_select v.query))) view_is (subst (λ (o : Outcome (List Kind)). Fits AreRowsOf o (tables (View view))) v.kinds_are (fitting (View view)))

    thinned_more : IsThinned (view ∷ views) shown
    thinned_more =
        let found = rows_there (kinds_of_select v.query) (rows_of_view tables caller v.query)
        (plain_sure v.query table (before_view view columns) v.plain v.well caller tables below.all below.all_are below.all_short) view_fits in record {
          all = found.0;
          few = filter (wanted_in wants shown) found.0;
          all_are = view_is ∙ found.1;
          few_are = ap (λ (o : Option BoundSpecification). and_then (well_formed o) (rows_of_view with_few caller)) v.is_query
              ∙ plain_asked v.query table (before_view view columns) v.plain v.well caller tables with_few between shown zipped wants alike below.all found.0 below.all_are
              (with_own table (shown_few views) tables ∙ below.few_are ∙ ap is_ok below.those) found.1;
          those = refl;
          all_short = found.2;
        }

  pub thinned : (views : List ℕ) (shown : List ℕ) → IsPath columns queries views base → AreShown queries views own_columns shown → IsThinned views shown
  thinned [] shown path same = record {
    all = rows_in (table_at content base);
    few = few_rows;
    all_are = meant.bases base ∙ ap (λ (o : Outcome Table). and_then o (λ t. Ok (rows_in t))) (there_within content base there);
    few_are = refl;
    those = subst (λ (cs : List ℕ). few_rows ≡ filter (wanted_in wants cs) (rows_in (table_at content base))) same narrowed;
    all_short = short;
  }
  thinned (view ∷ views) shown path are =
      thinned_more view views are.0 shown path.0 (thinned views are.0 path.1 are.1)
      (if_some (λ (q : BoundSpecification). AllZip (Asks q) are.0 shown) (slice_get queries view) path.0.query are.2 path.0.is_query)

  -- none of them ends with a status
  pub few_right : (views : List ℕ) (shown : List ℕ) → IsPath columns queries views base → AreShown queries views own_columns shown → AreRight few_rows tables caller queries base views
  few_right [] shown path are = tt
  few_right (view ∷ views) shown path are =
      let t = thinned (view ∷ views) shown path are in
      (λ e. let none : is_ok t.few ≡ not_well_formed = sym t.few_are ∙ e in cc, few_right views are.0 path.1 are.1)
