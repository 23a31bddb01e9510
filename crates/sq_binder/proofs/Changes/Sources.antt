-- The source of an insert statement: values, and columns of a query that agree with those that get their values.
use Rattle.std.proofs.Common.{◌≡◌, ℕ, ◌+◌, ◌<◌, ◌≤◌, Bool, true, false, ◌&&◌, List, [], ◌∷◌, length, drop, map, get_or, None, Some, Ok, Err, refl, sym, ap, subst, arith, ◌∙◌}
use Rattle.std.proofs.lemmas.List.{drop_all, drop_more, length-map}
use Rattle.std.proofs.lemmas.Slice.Zip.{get_or-zip, length-zip}
use Rattle.std.specs.List.{list_all, zip}
use Rattle.std.specs.Prelude.{Result, ◌==◌, if◌then◌else◌}
use Rattle.sq_tree.specs.declared.cond.QuerySpecification.{QuerySpecification}
use Rattle.sq_tree.specs.declared.list.CommaList.{CommaList}
use Rattle.sq_tree.specs.declared.statement.InsertSource.TheVariants as source
use Rattle.sq_tree.specs.declared.statement.NewValue.{NewValue}
use Rattle.sq_meaning.specs.Spelled.{listed, select_of}
use Rattle.sq_meaning.specs.WellFormed.{is_comparable}
use Rattle.sq_meaning.specs.declared.fault.BindingFault.TheVariants as fault
use Rattle.sq_bound.specs.declared.condition.BoundSpecification.{BoundSpecification, out-BoundSpecification}
use Rattle.sq_bound.specs.declared.condition.ResultColumn.{ResultColumn as BoundColumn}
use Rattle.sq_bound.specs.declared.statement.InsertedRows.{InsertedRows}
use Rattle.sq_bound.specs.declared.statement.InsertedRows.TheVariants as inserted
use Rattle.sq_binding.specs.Change.{NumberedSource, Receiver, column_for, source_bound, value_for}
use Rattle.sq_binding.specs.Changeable.{UserNames}
use Rattle.sq_binding.specs.Condition.{select_bound}
use Rattle.sq_binding.specs.Found.{Binding, Counts, Found, ◌>>=◌, after, each, must, pure, then_joined}
use Rattle.sq_binding.specs.NumberedCondition.{NumberedSelect, ResultColumn, columns_of}
use Rattle.sq_binding.specs.Outcome.{Outcome, and_then}
use Rattle.sq_binding.specs.QueryFindings.{nothing}
use Rattle.sq_binding.specs.Seen.{column_of, select_seen}
use Rattle.sq_binding.specs.Select.{Surroundings}
use Rattle.sq_binding.proofs.Standing.SeenLevels.{columns_seen}
use Rattle.sq_binding.proofs.Inductions.Turns.{only}
use Rattle.sq_binder.specs.Found.{Finds, counts_of, found_of}
use Rattle.sq_binder.specs.declared.found.Counts.{Counts as CodeCounts}
use Rattle.sq_binder.specs.declared.found.Found.{Found as FoundPart}
use Rattle.sq_binder.specs.declared.stop.Stop.{Stop}
use Rattle.sq_binder.specs.declared.stop.Stop.TheVariants.{Fault, NoMemory}
use Rattle.sq_binder.proofs.OneByOne.Behind.{Makes, alone, made, with_part}
use Rattle.sq_binder.specs.Receiver.{receiver_seen}
use Rattle.sq_binder.specs.Source.{Inserts, agrees, columns_beside, unless}
use Rattle.sq_binder.specs.declared.receiver.Receiver.{Receiver as CodeReceiver}
use Rattle.sq_binder.proofs.OneByOne.Chains.{must_first}
use Rattle.sq_binding.specs.SeenQuery.{source_seen}

-- ---- columns of a query

abbrev alike : ResultColumn × Receiver → Bool
alike p = is_comparable p.0.kind p.1.kind

-- nothing is made of them
abbrev units : {A : Type 0} → List A → List (Unit {0})
units xs = map (λ x. tt {0}) xs

abbrev if_all : Bool → Counts → List (ResultColumn × Receiver) → Outcome (Found (List (Unit {0})))
if_all true counts ps = Ok (only counts.subqueries nothing (units ps))
if_all false counts ps = Err fault.KindMismatch

all_of : (agree : Bool) (p : ResultColumn × Receiver) (ps : List (ResultColumn × Receiver)) (counts : Counts) → each column_for ps counts ≡ if_all (list_all alike ps) counts ps
    → (must agree fault.KindMismatch >>= λ u. each column_for ps >>= λ us. pure (u ∷ us)) counts ≡ if_all (agree && list_all alike ps) counts (p ∷ ps)
all_of false p ps counts is = refl
all_of true p ps counts is = must_first fault.KindMismatch (each column_for ps >>= λ us. pure (tt {0} ∷ us)) counts ∙ rest (list_all alike ps) is
  where
    rest : (all : Bool) → each column_for ps counts ≡ if_all all counts ps → (each column_for ps >>= λ us. pure (tt {0} ∷ us)) counts ≡ if_all all counts (p ∷ ps)
    rest true is = ap (λ o. and_then o (λ x. then_joined x (pure (tt {0} ∷ x.part) (after counts x)))) is
    rest false is = ap (λ o. and_then o (λ x. then_joined x (pure (tt {0} ∷ x.part) (after counts x)))) is

all_agree : (counts : Counts) (ps : List (ResultColumn × Receiver)) → each column_for ps counts ≡ if_all (list_all alike ps) counts ps
all_agree counts [] = refl
all_agree counts (p ∷ ps) = all_of (alike p) p ps counts (all_agree counts ps)

-- columns that are bound agree where what is seen of them does
agree_same : (columns : List BoundColumn) (receivers : List CodeReceiver) → list_all alike (zip (map column_of columns) (map receiver_seen receivers)) ≡ list_all agrees (columns_beside columns receivers)
agree_same [] receivers = refl
agree_same (c ∷ columns) [] = refl
agree_same (c ∷ columns) (r ∷ receivers) = ap (λ b. is_comparable c.kind r.kind && b) (agree_same columns receivers)

-- one column beside another
module _ (columns : List BoundColumn) (receivers : List CodeReceiver) (same : length receivers ≡ length columns) (i : ℕ) where
  abbrev left : ℕ → Bool
  left i = list_all agrees (drop i (columns_beside columns receivers))

  next_beside : (column : BoundColumn) (receiver : CodeReceiver) → i < length columns → column ≡ get_or columns i column → receiver ≡ get_or receivers i receiver → left i ≡ (is_comparable column.kind receiver.kind && left (i + 1))
  next_beside column receiver lt at is =
      let pair = get_or-zip columns receivers i (column, receiver) lt (omega (arith, lt, same)) in
      ap (list_all agrees) (drop_more (zip columns receivers) i (column, receiver) (omega (arith, length-zip columns receivers, lt, same)))
      ∙ ap (λ p. agrees p && left (i + 1)) (pair ∙ (λ j. (sym at j, sym is j)))

  pub one_apart : (column : BoundColumn) (receiver : CodeReceiver) → i < length columns → column ≡ get_or columns i column → receiver ≡ get_or receivers i receiver → is_comparable column.kind receiver.kind ≡ false → left i ≡ false
  one_apart column receiver lt at is apart = next_beside column receiver lt at is ∙ ap (λ b. b && left (i + 1)) apart

  pub one_agrees : (column : BoundColumn) (receiver : CodeReceiver) → i < length columns → column ≡ get_or columns i column → receiver ≡ get_or receivers i receiver → is_comparable column.kind receiver.kind ≡ true → left i ≡ left (i + 1)
  one_agrees column receiver lt at is agree = next_beside column receiver lt at is ∙ ap (λ b. b && left (i + 1)) agree

  pub none_left : length columns ≤ i → left i ≡ true
  none_left past = ap (list_all agrees) (drop_all i (zip columns receivers) (omega (arith, length-zip columns receivers, past)))

-- ---- the rows of a query

module _ (counts : Counts) (x : Found NumberedSelect) where
  abbrev rows : NumberedSource
  rows = NumberedSource.query x.part

  abbrev if_storable : (as_many agree : Bool) → Outcome (Found NumberedSource)
  if_storable false agree = Err fault.CountMismatch
  if_storable true false = Err fault.KindMismatch
  if_storable true true = Ok (with_part rows x)

  abbrev checked : Bool → List (ResultColumn × Receiver) → Outcome (Found NumberedSource)
  checked as_many ps = then_joined x ((must as_many fault.CountMismatch >>= λ u. each column_for ps >>= λ us. pure rows) (after counts x))

  all_checked : (ps : List (ResultColumn × Receiver)) (agree : Bool) → each column_for ps (after counts x) ≡ if_all agree (after counts x) ps
      → then_joined x ((each column_for ps >>= λ us. pure rows) (after counts x)) ≡ if_storable true agree
  all_checked ps true is = ap (λ o. then_joined x (and_then o (λ y. then_joined y (pure rows (after (after counts x) y))))) is ∙ alone rows counts x
  all_checked ps false is = ap (λ o. then_joined x (and_then o (λ y. then_joined y (pure rows (after (after counts x) y))))) is

  is_storable : (as_many : Bool) (ps : List (ResultColumn × Receiver)) → checked as_many ps ≡ if_storable as_many (list_all alike ps)
  is_storable false ps = refl
  is_storable true ps =
      ap (then_joined x) (must_first fault.CountMismatch (each column_for ps >>= λ us. pure rows) (after counts x)) ∙ all_checked ps (list_all alike ps) (all_agree (after counts x) ps)

module _ (names : UserNames) (a : Surroundings) (q : QuerySpecification) (receivers : List CodeReceiver) (before : CodeCounts) where
  abbrev query_bound : Binding NumberedSelect
  query_bound = select_bound a (select_of names.user q)

  abbrev whole : Binding NumberedSource
  whole = source_bound names a (map receiver_seen receivers) (source.Query q)

  module _ (x : FoundPart BoundSpecification) (found : Finds select_seen query_bound before (Ok x)) where
    abbrev columns : List BoundColumn
    columns = (out-BoundSpecification x.part).columns

    abbrev seen : Found NumberedSelect
    seen = found_of select_seen x

    abbrev many : Bool
    many = length receivers == length columns

    source_is : whole (counts_of before) ≡ if_storable (counts_of before) seen many (list_all agrees (columns_beside columns receivers))
    source_is =
        ap (λ o. and_then o (λ x. checked (counts_of before) x (length (map receiver_seen receivers) == length (columns_of x.part)) (zip (columns_of x.part) (map receiver_seen receivers)))) found.0
        ∙ ap (λ cs. checked (counts_of before) seen (length (map receiver_seen receivers) == length cs) (zip cs (map receiver_seen receivers))) (columns_seen x.part)
        ∙ is_storable (counts_of before) seen (length (map receiver_seen receivers) == length (map column_of columns)) (zip (map column_of columns) (map receiver_seen receivers))
        ∙ (λ j. if_storable (counts_of before) seen (length-map receivers receiver_seen j == length-map columns column_of j) (agree_same columns receivers j))

    of_fault : (as_many agree : Bool) → whole (counts_of before) ≡ if_storable (counts_of before) seen as_many agree
        → Finds source_seen whole before (unless (if as_many then (if agree then None else Some fault.KindMismatch) else Some fault.CountMismatch) (record { part = inserted.Query x.part; brought = x.brought }))
    of_fault false agree e = e
    of_fault true false e = e
    of_fault true true e = (e, found.1)

    rows_found : Finds source_seen whole before (unless (if many then (if list_all agrees (columns_beside columns receivers) then None else Some fault.KindMismatch) else Some fault.CountMismatch) (record { part = inserted.Query x.part; brought = x.brought }))
    rows_found = of_fault many (list_all agrees (columns_beside columns receivers)) source_is

  pub query_found : (query : Result (FoundPart BoundSpecification) Stop) (r : Result (FoundPart InsertedRows) Stop) → Finds select_seen query_bound before query → Inserts receivers query r → Finds source_seen whole before r
  query_found (Ok x) r found is = subst (Finds source_seen whole before) (sym is) (rows_found x found)
  query_found (Err NoMemory) r s is = subst (Finds source_seen whole before) (sym is) tt
  query_found (Err (Fault f)) r s is =
      subst (Finds source_seen whole before) (sym is)
      (ap (λ o. and_then o (λ x. checked (counts_of before) x (length (map receiver_seen receivers) == length (columns_of x.part)) (zip (columns_of x.part) (map receiver_seen receivers)))) s)

-- ---- values beside the columns that get them

abbrev pub pair_seen : CodeReceiver × NewValue → Receiver × NewValue
pair_seen p = (receiver_seen p.0, p.1)

pub pairs_seen : (receivers : List CodeReceiver) (values : List NewValue) → zip (map receiver_seen receivers) values ≡ map pair_seen (zip receivers values)
pairs_seen [] values = refl
pairs_seen (r ∷ receivers) [] = refl
pairs_seen (r ∷ receivers) (v ∷ values) = ap (λ l. (receiver_seen r, v) ∷ l) (pairs_seen receivers values)

-- as many values as columns that get them
pub values_made : (names : UserNames) (a : Surroundings) (receivers : List Receiver) (list : CommaList NewValue) → (length receivers == length (listed list)) ≡ true
    → Makes (source_bound names a receivers (source.Values list)) (each (value_for a) (zip receivers (listed list))) (λ given. NumberedSource.values given)
values_made names a receivers list same =
    let values = each (value_for a) (zip receivers (listed list)) in
    record {
      is = λ counts.
          ap (λ t. (must t fault.CountMismatch >>= λ u. values >>= λ given. pure (NumberedSource.values given)) counts) same
          ∙ must_first fault.CountMismatch (values >>= λ given. pure (NumberedSource.values given)) counts ∙ (made values (λ given. NumberedSource.values given)).is counts;
    }

-- a value beside its column
module _ (others : List CodeReceiver) (rest items : List NewValue) (are : items ≡ rest) (same : length rest ≡ length others) (i : ℕ) where
  pub value_within : i < length items → i < length (zip others rest)
  value_within lt = let few = ap length are in omega (arith, length-zip others rest, lt, same, few)

  pub value_at : (receiver : CodeReceiver) (value : NewValue) → i < length items → value ≡ get_or items i value → receiver ≡ get_or others i receiver → (receiver, value) ≡ get_or (zip others rest) i (receiver, value)
  value_at receiver value lt is at =
      let few = ap length are in
      (λ j. (at j, (is ∙ ap (λ l. get_or l i value) are) j)) ∙ sym (get_or-zip others rest i (receiver, value) (omega (arith, lt, same, few)) (omega (arith, lt, few)))

  pub values_past : length items ≤ i → length (zip others rest) ≤ i
  values_past past = let few = ap length are in omega (arith, length-zip others rest, past, few)
