-- What is read for a condition on a row, where some base tables in its subqueries were found by keys.
use Rattle.std.proofs.Common.{◌≡◌, ◌∙◌, ℕ, Bool, true, false, List, [], ◌∷◌, ◌++◌, Result, refl, sym, subst, Ok, Err}
use Rattle.std.specs.Prelude.{IfErr, IfOk, IsErrAnd, Vec}
use Rattle.std.specs.declared.alloc.Global.{Global}
use Rattle.sq_lex.specs.declared.name.Name.{Name}
use Rattle.sq_value.specs.declared.domain.Kind.{Kind}
use Rattle.sq_value.specs.declared.truth.Truth.{Truth}
use Rattle.sq_value.specs.declared.value.Value.{Value}
use Rattle.sq_store.specs.Content.{Content}
use Rattle.sq_store.specs.Keys.{Keys, are_keyed}
use Rattle.sq_meaning.specs.Environment.{Line, Row, Scope, alone}
use Rattle.sq_meaning.specs.Placed.{by_place}
use Rattle.sq_meaning.specs.Query.{truth}
use Rattle.sq_meaning.specs.Status.{Outcome}
use Rattle.sq_meaning.specs.WellFormed.{AreRowsOf, Fits, IsRowOf}
use Rattle.sq_bound.specs.Condition.{cond_of}
use Rattle.sq_bound.specs.Noted.{CondIsNoted}
use Rattle.sq_bound.specs.WellFormed.{BasesAreThere, TableKinds, of_base_at}
use Rattle.sq_bound.specs.declared.condition.BoundCond.{BoundCond}
use Rattle.sq_bound.specs.declared.condition.TablePlace.{TablePlace}
use Rattle.sq_bound.specs.declared.names.BaseTable.{BaseTable}
use Rattle.sq_expression.specs.Fault.{Meets, MeetsAs}
use Rattle.sq_expression.specs.Frame.{scopes_beyond}
use Rattle.sq_expression.specs.declared.fault.Fault.{Fault}
use Rattle.sq_expression.specs.declared.fault.Fault.TheVariants as fault
use Rattle.sq_expression.specs.declared.table.BaseRows.{BaseRows}
use Rattle.sq_query.specs.Inner.{AreBeneath, HasKeys, IsInStore, IsReadOnRow, ServesCond, ServesLine}
use Rattle.sq_query.specs.Around.{IsStanding}
use Rattle.sq_query.specs.Items.{is_left, over}
use Rattle.sq_query.specs.Needed.{IsNeeded, ReadsCond}
use Rattle.sq_query.specs.OnRow.{StandsOnRow}
use Rattle.sq_query.specs.Row.{HasTruthOn, outside, truth_on_row}
use Rattle.sq_query.specs.Table.{AreOfStore, ReadsAsMeant, bases_of, rows_among, rows_read}
use Rattle.sq_query.specs.Union.{AreFitting}
use Rattle.sq_query.specs.declared.around.Standing.{Standing}
use Rattle.sq_query.specs.declared.around.Standing.TheVariants.{Within}
use Rattle.sq_query.specs.declared.needed.Needed.{Needed}
use Rattle.sq_query.specs.declared.view.Tables.{Tables}
use Rattle.sq_query.proofs.FoundByKey.FoundRead.{rows_over}
use Rattle.sq_query.proofs.FoundByKey.ItemRows.{over_none}
use Rattle.sq_query.proofs.Needs.NeededViews.{cond_reads_weaker}

module _ (bases : List BaseTable) (columns : TableKinds) (content : Content) (keys : List Keys) (keyed : are_keyed keys content ≡ true) (bases_there : BasesAreThere bases columns) (parameters : List Kind) (values : List Value) (caller : Name) (given : IsRowOf parameters values)
    (tables : TablePlace → Outcome (List Row)) (stored : AreOfStore content tables) (fitting : AreFitting columns tables) (c : BoundCond) (row : Row) (on : StandsOnRow columns parameters row c) where
  abbrev IsSameOver : List BaseRows → Type 0
  IsSameOver found = truth_on_row tables values caller row c ≡ truth_on_row (over found tables) values caller row c

  same_beneath : HasKeys bases content keys → (found : List BaseRows) → AreBeneath c row content keys values caller found → IsSameOver found
  same_beneath has found b =
      let in_store : IsInStore columns parameters content keys values tables = record { bases = bases; keys_are = has.0; not_null = has.1; keyed = keyed; there = bases_there; inputs = given; stored = stored } in
      let served = b.inside columns parameters (of_base_at on.place) tables in_store (on.stands, on.notes) (λ t. subst (Fits AreRowsOf (columns t)) (over_none tables t) (fitting t)) in
      (λ i. truth_on_row (λ t. over_none tables t i) values caller row c) ∙ served.same (alone [] (row ∷ []) ∷ []) b.is_around (λ f. (record { line = (on.fits, tt); group = tt }, tt))

  pub same_on_row : (by_keys : Bool) → (by_keys ≡ true → HasKeys bases content keys) → (found : List BaseRows) → (by_keys ≡ true → AreBeneath c row content keys values caller found) → (by_keys ≡ false → found ≡ []) → IsSameOver found
  same_on_row true has found b none = same_beneath (has refl) found (b refl)
  same_on_row false has found b none = subst IsSameOver (sym (none refl)) (λ i. truth_on_row (λ t. over_none tables t i) values caller row c)

  pub read_on_row : (found : List BaseRows) → IsSameOver found → (all left : Needed) → ReadsCond (IsNeeded all) (cond_of [] c) → ((t : TablePlace) → IsNeeded all t → is_left found t ≡ true → IsNeeded left t) → (whole : Tables) → ReadsAsMeant left (rows_read whole) tables
      → (r : Result Tables Fault) → IfOk r (λ read. read.bases.items ≡ found ++ whole.bases.items) → IfOk r (λ read. read.views.items ≡ whole.views.items) → IfOk r (IsReadOnRow tables c row values caller)
  read_on_row found same all left reads kept whole as_meant (Err e) bases_are views_are = tt
  read_on_row found same all left reads kept whole as_meant (Ok read) bases_are views_are = record {
    rows_of = over found tables;
    reads = cond_reads_weaker (IsNeeded all) (λ t. rows_read read t ≡ over found tables t)
        (λ t h. (λ i. rows_among (bases_are i) (views_are i) t) ∙ rows_over whole.bases.items whole.views.items tables found t (λ is. as_meant t (kept t h is))) (cond_of [] c) reads;
    same = sym same;
  }

-- where memory ran out there is no truth
pub no_memory_truth : (f : Fault) (c : BoundCond) (line : Line) (values : List Value) (caller : Name) → f ≡ fault.NoMemory → HasTruthOn (Err f) c line values caller
no_memory_truth f c line values caller is plain tables = subst (λ (g : Fault). Meets {A = Truth} (Err g) (truth (by_place tables) (cond_of [] c) (outside line values caller))) (sym is) tt

pub only_memory : (f : Fault) (read : List (ℕ × List Row)) → MeetsAs {A = Tables} bases_of (Err f) (Ok read) → f ≡ fault.NoMemory
only_memory fault.NoMemory read h = refl
only_memory (fault.Status s) read h = absurd cc

pub handed_fault : {A : Type 0} (r : Result A Fault) (e : Fault) → IsErrAnd r (λ g. g ≡ e) → e ≡ fault.NoMemory → IfErr r (λ g. g ≡ fault.NoMemory)
handed_fault (Ok a) e is memory = tt
handed_fault (Err g) e is memory = is ∙ memory

-- what was found beneath a row
pub beneath_so : (c : BoundCond) (row : Row) (content : Content) (keys : List Keys) (values : List Value) (caller : Name) (elsewhere : Needed) (scopes : List (Scope (Unit {0}))) → scopes ≡ alone [] (row ∷ []) ∷ [] → (none : List BaseRows) → none ≡ []
    → (r : Result (Vec BaseRows Global) Fault) → IfOk r (λ found. ServesLine c elsewhere Within scopes content keys values caller none found.items) → IfOk r (λ found. AreBeneath c row content keys values caller found.items)
beneath_so c row content keys values caller elsewhere scopes are none is (Err e) h = tt
beneath_so c row content keys values caller elsewhere scopes are none is (Ok found) h = record {
  a = h.a;
  is_around = subst (λ (b : Standing). IsStanding b (scopes_beyond h.a.lines) (alone [] (row ∷ []) ∷ [])) (sym h.stands) (sym (h.lines ∙ are));
  elsewhere = elsewhere;
  inside = subst (λ (l : List BaseRows). ServesCond (cond_of [] c) (CondIsNoted c) elsewhere h.a content keys values caller l found.items) is h.serves;
}
