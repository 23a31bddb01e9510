-- The fault that is answered of a FROM clause or of `*` is one that the rules find there. Its items and columns are the ones that the
-- rules know (ISO/IEC 9075:1992, 5.4, 6.3, 7.4 and 7.9).
use Rattle.std.proofs.Common.{◌≡◌, ℕ, ◌+◌, true, false, not, List, [], ◌∷◌, ◌++◌, length, map, Option, Some, None, Ok, Err, refl, sym, ap, subst, ◌∙◌}
use Rattle.std.proofs.lemmas.List.{length-append, length-map}
use Rattle.std.proofs.lemmas.List.FromFn.{length-enumerate_from}
use Rattle.std.proofs.lemmas.List.Sums.{sum_by-cons}
use Rattle.std.specs.List.{AllByRecursion, AllZip, enumerate_from, flat_map, sum}
use Rattle.std.specs.Option.{option_map}
use Rattle.std.specs.Prelude.{⊤, is_ok, unwrap_or}
use Rattle.std.specs.Result.{result_ok}
use Rattle.std.proofs.lemmas.Bool.{not-false}
use Rattle.sq_value.specs.declared.domain.Kind.{Kind}
use Rattle.sq_meaning.specs.Environment.{TableName, TableReference}
use Rattle.sq_meaning.specs.Status as status
use Rattle.sq_meaning.specs.Tables.{ColumnDescriptor, TableDescriptor, column_kinds, descriptor_of}
use Rattle.sq_meaning.specs.WellFormed.{HasValue}
use Rattle.sq_meaning.specs.Binding.{Judged, breaks, has_fault, has_item_twice}
use Rattle.sq_meaning.specs.Site.{Known, Site, count_in}
use Rattle.sq_meaning.specs.declared.fault.BindingFault.{BindingFault}
use Rattle.sq_meaning.specs.declared.fault.BindingFault.TheVariants as fault
use Rattle.sq_binding.specs.Found.{◌>>=◌, ◌>>◌, each, has_found, must, outcome, pure}
use Rattle.sq_binding.specs.From.{NamedItem, NamedTable, NamedTables, column_over, from_bound, item_bound, item_over, items_of, table_findings}
use Rattle.sq_binding.specs.Outcome.{or_fault}
use Rattle.sq_binding.specs.QueryFindings.{most_items}
use Rattle.sq_binding.specs.Select.{ShownColumn, column_of_item, columns_of_item, columns_of_items}
use Rattle.sq_binding.proofs.FaultsFound.Judged.{Judges, at_most_judges, each_judges, has_found_judges, more_judges, must_judges, outcome_judges, pure_judges, then_judges, wider_judges}
use Rattle.sq_binding.proofs.FaultsFound.Known.{columns_in, item_known}
use Rattle.sq_binding.proofs.FaultsFound.Sites.{fault_here, fault_left, fault_right}

-- what names of tables mean is what the tables of the rules say
abbrev pub NamesFit : NamedTables → Judged → Type 0
NamesFit names j = (t : TableName) → option_map (λ n. n.columns) (names t) ≡ option_map (λ d. d.columns) (result_ok (descriptor_of j.known.tables t))

pub table_known : (o : Option NamedTable) (d : status.Outcome TableDescriptor) → option_map (λ n. n.columns) o ≡ option_map (λ d. d.columns) (result_ok d) → (t : NamedTable) → or_fault fault.UnknownTable o ≡ Ok t
    → (t.columns ≡ columns_in d) × HasValue d
table_known None d e t is = cc
table_known (Some n) (Ok d) e t is =
    let same : n ≡ t = cc in
    let columns : n.columns ≡ d.columns = cc in
    (ap (λ t. t.columns) (sym same) ∙ columns, tt)
table_known (Some n) (Err s) e t is = cc

table_unknown : (o : Option NamedTable) (d : status.Outcome TableDescriptor) → option_map (λ n. n.columns) o ≡ option_map (λ d. d.columns) (result_ok d) → (f : BindingFault) → or_fault fault.UnknownTable o ≡ Err f
    → (f ≡ fault.UnknownTable) × (is_ok d ≡ false)
table_unknown None (Ok d) e f is = cc
table_unknown None (Err s) e f is = let same : fault.UnknownTable ≡ f = cc in (sym same, refl)
table_unknown (Some n) d e f is = cc

-- an item is over a table that is known
abbrev ItemIs : Judged → TableReference → NamedItem → Type 0
ItemIs j r i = (i.item ≡ item_known j.known r) × HasValue (descriptor_of j.known.tables r.table)

-- The items of a FROM clause are over tables that are known.
pub record AreItems (j : Judged) (from : List TableReference) (items : List NamedItem) : Type 0 where
  pub items_are : items_of items ≡ map (item_known j.known) from
  pub known : AllByRecursion (λ r. HasValue (descriptor_of j.known.tables r.table)) from

each_item : (j : Judged) (from : List TableReference) (items : List NamedItem) → AllZip (ItemIs j) from items → AreItems j from items
each_item j [] [] h = record { items_are = refl; known = tt }
each_item j [] (i ∷ items) h = absurd h
each_item j (r ∷ from) [] h = absurd h
each_item j (r ∷ from) (i ∷ items) h = let rest = each_item j from items h.1 in record { items_are = λ k. h.0.0 k ∷ rest.items_are k; known = (h.0.1, rest.known) }

pub every : {A : Type 0} (xs : List A) → AllByRecursion (λ x. ⊤) xs
every [] = tt
every (x ∷ xs) = (tt, every xs)

pub one_each : {A B : Type 0} (f : A → B) (xs : List A) → flat_map (λ x. f x ∷ []) xs ≡ map f xs
one_each f [] = refl
one_each f (x ∷ xs) = ap (λ l. f x ∷ l) (one_each f xs)

module _ (names : NamedTables) (j : Judged) (fit : NamesFit names j) (G C : Type 0) where
  item_judges : (r : TableReference) → Judges j (Site.table_read r ∷ []) G C (ItemIs j r) (item_bound names r)
  item_judges r =
      then_judges j (Site.table_read r ∷ []) G C (λ t. (t.columns ≡ columns_in (descriptor_of j.known.tables r.table)) × HasValue (descriptor_of j.known.tables r.table)) (ItemIs j r)
      (outcome (or_fault fault.UnknownTable (names r.table))) (λ t. has_found (table_findings t) >> pure (item_over r t))
      (outcome_judges j (Site.table_read r ∷ []) G C (λ t. (t.columns ≡ columns_in (descriptor_of j.known.tables r.table)) × HasValue (descriptor_of j.known.tables r.table)) (or_fault fault.UnknownTable (names r.table))
      (table_known (names r.table) (descriptor_of j.known.tables r.table) (fit r.table))
      (λ f is.
      let parts = table_unknown (names r.table) (descriptor_of j.known.tables r.table) (fit r.table) f is in
      fault_here j f (Site.table_read r) [] (subst (λ f. breaks j f (Site.table_read r) ≡ true) (sym parts.0) (ap not parts.1))))
      (λ t is. then_judges j (Site.table_read r ∷ []) G C (λ u. ⊤) (ItemIs j r) (has_found (table_findings t)) (λ _. pure (item_over r t)) (has_found_judges j (Site.table_read r ∷ []) G C (table_findings t) refl)
      (λ u v. pure_judges j (Site.table_read r ∷ []) G C (ItemIs j r) (item_over r t) (ap (λ columns. record { reference = r; columns = map column_over (enumerate_from 0 columns) }) is.0, is.1)))

  items_judge : (from : List TableReference) → Judges j (map Site.table_read from) G C (AreItems j from) (each (item_bound names) from)
  items_judge from =
      subst (λ sites. Judges j sites G C (AreItems j from) (each (item_bound names) from)) (one_each Site.table_read from)
      (more_judges j (flat_map (λ r. Site.table_read r ∷ []) from) (flat_map (λ r. Site.table_read r ∷ []) from) (λ g h. h) G G C C (AllZip (ItemIs j) from) (AreItems j from) (each (item_bound names) from) (λ g. g) (λ c. c) (each_item j from)
      (each_judges j G C (λ r. ⊤) (λ r. Site.table_read r ∷ []) (ItemIs j) (item_bound names) (λ r w. item_judges r) from (every from)))

  pub from_judges : (from : List TableReference) → Judges j (map Site.table_read from ++ Site.from_whole from ∷ []) G C (AreItems j from) (from_bound names from)
  from_judges from =
      at_most_judges j all G C (AreItems j from) most_items (length from) (each (item_bound names) from >>= λ items. must (not (has_item_twice from)) fault.AmbiguousName >> pure items)
      (λ many. whole fault.LimitExceeded many)
      (then_judges j all G C (AreItems j from) (AreItems j from) (each (item_bound names) from) (λ items. must (not (has_item_twice from)) fault.AmbiguousName >> pure items)
      (wider_judges j (map Site.table_read from) all (λ g h. fault_left j g (map Site.table_read from) (Site.from_whole from ∷ []) h) G C (AreItems j from) (each (item_bound names) from) (items_judge from))
      (λ items are. then_judges j all G C (λ u. not (has_item_twice from) ≡ true) (AreItems j from) (must (not (has_item_twice from)) fault.AmbiguousName) (λ _. pure items)
      (must_judges j all G C (not (has_item_twice from)) fault.AmbiguousName (λ twice. whole fault.AmbiguousName (not-false (has_item_twice from) twice)))
      (λ u once. pure_judges j all G C (AreItems j from) items are)))
    where
      all : List Site
      all = map Site.table_read from ++ Site.from_whole from ∷ []

      whole : (f : BindingFault) → breaks j f (Site.from_whole from) ≡ true → has_fault j all f ≡ true
      whole f h = fault_right j f (map Site.table_read from) (Site.from_whole from ∷ []) (fault_here j f (Site.from_whole from) [] h)

-- ---- `*`: all columns of all items

length_known : (n : ℕ) (o : status.Outcome TableDescriptor) → length (map (column_of_item n) (map column_over (enumerate_from 0 (columns_in o)))) ≡ unwrap_or (option_map (λ d. length d.columns) (result_ok o)) 0
length_known n (Ok d) = length-map (map column_over (enumerate_from 0 d.columns)) (column_of_item n) ∙ length-map (enumerate_from 0 d.columns) column_over ∙ length-enumerate_from 0 d.columns
length_known n (Err s) = refl

count_from : (k : Known) (n : ℕ) (from : List TableReference) → length (flat_map columns_of_item (enumerate_from n (map (item_known k) from))) ≡ sum (map (count_in k.tables) from)
count_from k n [] = refl
count_from k n (r ∷ from) =
    length-append (columns_of_item (n, item_known k r)) (flat_map columns_of_item (enumerate_from (n + 1) (map (item_known k) from)))
    ∙ (λ i. length_known n (descriptor_of k.tables r.table) i + count_from k (n + 1) from i)
    ∙ sym (sum_by-cons (λ m. m) (count_in k.tables r) (map (count_in k.tables) from))

pub star_count : (j : Judged) (from : List TableReference) (items : List NamedItem) → AreItems j from items → sum (map (count_in j.known.tables) from) ≡ length (columns_of_items (items_of items))
star_count j from items are = sym (count_from j.known 0 from) ∙ ap (λ items. length (columns_of_items items)) (sym are.items_are)

abbrev kinds_shown : List ShownColumn → List Kind
kinds_shown shown = map (λ c. c.kind) (map (λ c. c.column) shown)

kinds_over : (n m : ℕ) (columns : List ColumnDescriptor) → kinds_shown (map (column_of_item n) (map column_over (enumerate_from m columns))) ≡ map (λ c. c.kind) columns
kinds_over n m [] = refl
kinds_over n m (c ∷ columns) = ap (λ l. c.kind ∷ l) (kinds_over n (m + 1) columns)

kinds_known : (n : ℕ) (o : status.Outcome TableDescriptor) → HasValue o → status.and_then o (λ d. Ok (column_kinds d)) ≡ Ok (kinds_shown (map (column_of_item n) (map column_over (enumerate_from 0 (columns_in o)))))
kinds_known n (Ok d) h = ap Ok (sym (kinds_over n 0 d.columns))
kinds_known n (Err s) h = absurd h

shown_both : (xs ys : List ShownColumn) → kinds_shown (xs ++ ys) ≡ kinds_shown xs ++ kinds_shown ys
shown_both [] ys = refl
shown_both (x ∷ xs) ys = ap (λ l. x.column.kind ∷ l) (shown_both xs ys)

abbrev all_kinds : status.Outcome (List (List Kind)) → status.Outcome (List Kind)
all_kinds o = status.and_then o (λ tables. Ok (flat_map (λ kinds. kinds) tables))

kinds_more : (o : status.Outcome (List Kind)) (rest : status.Outcome (List (List Kind))) (ks ls : List Kind) → o ≡ Ok ks → all_kinds rest ≡ Ok ls → all_kinds (status.and_then o (λ k. status.and_then rest (λ others. Ok (k ∷ others)))) ≡ Ok (ks ++ ls)
kinds_more (Ok k) (Ok tables) ks ls e f =
    let first : k ≡ ks = cc in
    let others : flat_map (λ kinds. kinds) tables ≡ ls = cc in
    (λ i. Ok (first i ++ others i))
kinds_more (Ok k) (Err s) ks ls e f = cc
kinds_more (Err s) rest ks ls e f = cc

kinds_from : (k : Known) (n : ℕ) (from : List TableReference) → AllByRecursion (λ r. HasValue (descriptor_of k.tables r.table)) from
    → all_kinds (status.each (λ r. status.and_then (descriptor_of k.tables r.table) (λ d. Ok (column_kinds d))) from) ≡ Ok (kinds_shown (flat_map columns_of_item (enumerate_from n (map (item_known k) from))))
kinds_from k n [] h = refl
kinds_from k n (r ∷ from) h =
    kinds_more (status.and_then (descriptor_of k.tables r.table) (λ d. Ok (column_kinds d))) (status.each (λ r. status.and_then (descriptor_of k.tables r.table) (λ d. Ok (column_kinds d))) from)
    (kinds_shown (columns_of_item (n, item_known k r))) (kinds_shown (flat_map columns_of_item (enumerate_from (n + 1) (map (item_known k) from))))
    (kinds_known n (descriptor_of k.tables r.table) h.0) (kinds_from k (n + 1) from h.1)
    ∙ ap Ok (sym (shown_both (columns_of_item (n, item_known k r)) (flat_map columns_of_item (enumerate_from (n + 1) (map (item_known k) from)))))

pub star_kinds : (j : Judged) (from : List TableReference) (items : List NamedItem) → AreItems j from items
    → all_kinds (status.each (λ r. status.and_then (descriptor_of j.known.tables r.table) (λ d. Ok (column_kinds d))) from) ≡ Ok (kinds_shown (columns_of_items (items_of items)))
star_kinds j from items are = kinds_from j.known 0 from are.known ∙ ap (λ items. Ok (kinds_shown (columns_of_items items))) (sym are.items_are)
