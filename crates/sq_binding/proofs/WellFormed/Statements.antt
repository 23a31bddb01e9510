-- A statement that is bound as the definitions compute it fits its tables, cursors and parameters. It is well formed, and is the
-- written one (ISO/IEC 9075:1992, 13.2 to 13.10, 14.3 and 14.4).
use Rattle.std.proofs.Common.{◌≡◌, ◌<◌, ℕ, Bool, List, [], ◌∷◌, length, map, Option, Some, Ok, refl, sym, ap, subst, ◌∙◌}
use Rattle.std.proofs.lemmas.Simd.{map-map}
use Rattle.std.specs.List.{AllByRecursion}
use Rattle.std.specs.Prelude.{slice_get}
use Rattle.sq_lex.specs.declared.name.Name.{Name}
use Rattle.sq_value.specs.declared.domain.Kind.{Kind}
use Rattle.sq_tree.specs.declared.statement.Delete as delete_tree
use Rattle.sq_tree.specs.declared.statement.Fetch.{Fetch}
use Rattle.sq_tree.specs.declared.statement.Insert as insert_tree
use Rattle.sq_tree.specs.declared.statement.Update as update_tree
use Rattle.sq_tree.specs.declared.statement.Select.{Select as SelectStatement}
use Rattle.sq_tree.specs.declared.statement.Statement.{Statement}
use Rattle.sq_tree.specs.declared.statement.Statement.TheVariants as tree
use Rattle.sq_meaning.specs.Environment.{TableName}
use Rattle.sq_meaning.specs.Spelled.{listed}
use Rattle.sq_meaning.specs.Status as status
use Rattle.sq_meaning.specs.WellFormed.{Has}
use Rattle.sq_meaning.specs.Privilege.{Privilege}
use Rattle.sq_meaning.specs.WellFormedStatement.{orientation_of, select_of_statement}
use Rattle.sq_bound.specs.Fits.{FitsStatement, IsColumnOf, under}
use Rattle.sq_bound.specs.Known.{KnownTables}
use Rattle.sq_bound.specs.WellFormed.{IsSelect, IsStatement, TakeKinds, TableKinds, kinds_of_parameters, kinds_of_select}
use Rattle.sq_bound.specs.declared.condition.BoundSpecification.{out-BoundSpecification}
use Rattle.sq_bound.specs.declared.names.BaseTable.{BaseTable}
use Rattle.sq_bound.specs.declared.names.ParameterDesc.{ParameterDesc}
use Rattle.sq_bound.specs.declared.statement.BoundAssignment.{BoundAssignment}
use Rattle.sq_bound.specs.declared.statement.BoundFetch.{BoundFetch}
use Rattle.sq_bound.specs.declared.statement.BoundSelect.{BoundSelect}
use Rattle.sq_bound.specs.declared.statement.BoundStatement.{BoundStatement}
use Rattle.sq_bound.specs.declared.statement.BoundStatement.TheVariants as statement
use Rattle.sq_binding.specs.Change.{NamedCursor, NamedCursors, NumberedChange, NumberedInsert, NumberedUpdate, cursor_named, delete_bound, insert_bound, update_bound}
use Rattle.sq_binding.specs.Changeable as changeable
use Rattle.sq_binding.specs.Condition.{select_bound}
use Rattle.sq_binding.specs.Found.{◌>>=◌, after, outcome, pure}
use Rattle.sq_binding.specs.NumberedCondition.{NumberedSelect, ResultColumn, columns_of}
use Rattle.sq_binding.specs.Orientation.{fetched}
use Rattle.sq_binding.specs.Outcome.{and_then}
use Rattle.sq_binding.specs.Row.{NumberedRow, row_bound}
use Rattle.sq_binding.specs.Seen.{column_of, select_seen}
use Rattle.sq_binding.specs.Select.{Surroundings}
use Rattle.sq_binding.specs.Statement.{NumberedFetch, NumberedStatement, fetch_bound, statement_bound}
use Rattle.sq_binding.specs.Targets.{targets_bound}
use Rattle.sq_binding.specs.Whole.{at_first, whole}
use Rattle.sq_binding.proofs.Standing.BoundLaws.{select_is_so, select_is_written}
use Rattle.sq_binding.proofs.Faultless.Clean.{steps_of}
use Rattle.sq_binding.proofs.Faultless.CleanConds.{after_of}
use Rattle.sq_binding.proofs.Standing.SeenLevels.{columns_seen}
use Rattle.sq_binding.specs.Names.{NamesMean, declared, outside}
use Rattle.sq_binding.specs.SeenQuery.{change_seen, fetch_seen, insert_seen, output_seen, row_seen, statement_seen, update_seen}
use Rattle.sq_binding.specs.There.{IsPlain, StatementIsThere}
use Rattle.sq_binding.specs.Written.{IsStatementOf}
use Rattle.sq_binding.proofs.WellFormed.Inserts.{insert_is, whole_of}
use Rattle.sq_binding.proofs.WellFormed.Named as named
use Rattle.sq_binding.proofs.WellFormed.Named.{names_know}
use Rattle.sq_binding.proofs.WellFormed.Outputs.{orientation_is, takes_parameters, targets_are}
use Rattle.sq_binding.proofs.WellFormed.Over as over_spec
use Rattle.sq_binding.proofs.WellFormed.Rows.{CursorsMean, cursor_is, outcome_is, part_of, pure_part}
use Rattle.sq_binding.proofs.Placing.Unprivileged.{select_same}
use Rattle.sq_binding.proofs.WellFormed.Updates.{columns_there, delete_is, update_is}

-- what is asked of a bound statement
pub record IsSo (bases : List BaseTable) (kinds : TableKinds) (known : KnownTables) (IsNumberOf : Name → ℕ → Type 0) (count : ℕ) (cursor_kinds : List (List Kind)) (user : Name) (parameters : List ParameterDesc) (s : Statement) (b : BoundStatement) : Type 0 where
  pub fits : FitsStatement bases count (length parameters) b
  pub stands : IsStatement kinds cursor_kinds (kinds_of_parameters parameters) b
  pub is_written : IsStatementOf known IsNumberOf user parameters s b

own_columns : (b : BaseTable) (list : List BoundAssignment) → AllByRecursion (λ (s : BoundAssignment). IsColumnOf b s.column × IsPlain s.value) list → AllByRecursion (λ (s : BoundAssignment). IsColumnOf b s.column) list
own_columns b [] h = tt
own_columns b (s ∷ list) h = (h.0.0, own_columns b list h.1)

has_at : (P : List Kind → Type 0) (o : Option (List Kind)) (ks : List Kind) → o ≡ Some ks → P ks → Has P (status.well_formed o)
has_at P o ks e h = subst (λ (o : Option (List Kind)). Has P (status.well_formed o)) (sym e) h

module _ (bases : List BaseTable) (kinds : TableKinds) (known : KnownTables) (mean : NamesMean bases kinds known) (user : Name) (selects grants : TableName → Bool) (holds : TableName → Privilege → Bool) (parameters : List ParameterDesc)
    (IsNumberOf : Name → ℕ → Type 0) (count : ℕ) (cursor_kinds : List (List Kind)) (cursors : NamedCursors) (cursors_mean : CursorsMean IsNumberOf count cursor_kinds cursors) where
  abbrev mine : changeable.UserNames
  mine = over_spec.names known user selects grants holds

  abbrev a : Surroundings
  a = over_spec.here known user selects grants holds parameters

  abbrev So : Statement → BoundStatement → Type 0
  So = IsSo bases kinds known IsNumberOf count cursor_kinds user parameters

  -- ---- FETCH

  fetch_is : (f : Fetch) (b : BoundFetch) → fetch_bound (declared parameters) cursors f ≡ Ok (fetch_seen b) → So (tree.Fetch f) (statement.Fetch b)
  fetch_is f b is =
      let c = steps_of (cursor_named cursors f.cursor)
      (λ c. and_then (fetched (declared parameters) c.scroll (orientation_of f)) (λ o. and_then (targets_bound (declared parameters) (listed f.targets) (map (λ k. k.kind) c.columns)) (λ ts. Ok (record { cursor = c.number; orientation = o; targets = ts })))) (fetch_seen b) is in
      let o = steps_of (fetched (declared parameters) c.step.scroll (orientation_of f)) (λ o. and_then (targets_bound (declared parameters) (listed f.targets) (map (λ k. k.kind) c.step.columns)) (λ ts. Ok (record { cursor = c.step.number; orientation = o; targets = ts }))) (fetch_seen b) c.second in
      let t = steps_of (targets_bound (declared parameters) (listed f.targets) (map (λ k. k.kind) c.step.columns)) (λ ts. Ok (record { cursor = c.step.number; orientation = o.step; targets = ts })) (fetch_seen b) o.second in
      let made = t.second in
      let found : NumberedFetch = record { cursor = c.step.number; orientation = o.step; targets = t.step } in
      let same : found ≡ fetch_seen b = cc in
      let number : c.step.number ≡ b.cursor = ap (λ (f : NumberedFetch). f.cursor) same in
      let its_orientation : o.step ≡ b.orientation = ap (λ (f : NumberedFetch). f.orientation) same in
      let its_targets : t.step ≡ map output_seen b.outputs = ap (λ (f : NumberedFetch). f.targets) same in
      let k = cursor_is IsNumberOf count cursor_kinds cursors cursors_mean f.cursor c.step c.first in
      let outputs = targets_are parameters (listed f.targets) (map (λ (k : ResultColumn). k.kind) c.step.columns) b.outputs (t.first ∙ ap Ok its_targets) in
      let orientation = orientation_is parameters c.step.scroll f.from b.orientation (o.first ∙ ap Ok its_orientation) in
      record {
        fits = (subst (λ n. n < count) number k.is_there, takes_parameters parameters b.outputs (map (λ (k : ResultColumn). k.kind) c.step.columns) outputs.1);
        stands = (orientation.1, has_at (TakeKinds (kinds_of_parameters parameters) b.outputs) (slice_get cursor_kinds b.cursor) (map (λ (k : ResultColumn). k.kind) c.step.columns) (ap (slice_get cursor_kinds) (sym number) ∙ k.columns) outputs.1);
        is_written = (subst (IsNumberOf f.cursor) number k.is_number, orientation.0, outputs.0);
      }

  -- ---- SELECT INTO

  row_is : (s : SelectStatement) (b : BoundSelect) → whole (row_bound mine (declared parameters) s) ≡ Ok (row_seen b) → So (tree.Select s) (statement.Select b)
  row_is s b is =
      let w = whole_of (row_bound mine (declared parameters) s) (row_seen b) is in
      let x = after_of (select_bound a (select_of_statement user s)) (λ x. outcome (targets_bound (declared parameters) (listed s.targets) (map (λ c. c.kind) (columns_of x))) >>= λ targets. pure (record { query = x; targets = targets })) at_first w.found w.is_found in
      let t = after_of (outcome (targets_bound (declared parameters) (listed s.targets) (map (λ c. c.kind) (columns_of x.first.part)))) (λ targets. pure (record { query = x.first.part; targets = targets })) (after at_first x.first) x.second x.is_second in
      let made : NumberedRow = record { query = x.first.part; targets = t.first.part } in
      let same : row_seen b ≡ made = sym w.part ∙ part_of x ∙ part_of t ∙ pure_part made (after (after at_first x.first) t.first) t.second t.is_second in
      let query : select_seen b.query ≡ x.first.part = ap (λ (r : NumberedRow). r.query) same in
      let its_targets : t.first.part ≡ map output_seen b.outputs = sym (ap (λ (r : NumberedRow). r.targets) same) in
      let found = outcome_is (targets_bound (declared parameters) (listed s.targets) (map (λ (c : ResultColumn). c.kind) (columns_of x.first.part))) (after at_first x.first) t.first t.is_first in
      let outputs = targets_are parameters (listed s.targets) (map (λ (c : ResultColumn). c.kind) (columns_of x.first.part)) b.outputs (found.0 ∙ ap Ok its_targets) in
      let shown : map (λ (c : ResultColumn). c.kind) (columns_of x.first.part) ≡ kinds_of_select b.query =
      ap (λ (s : NumberedSelect). map (λ (c : ResultColumn). c.kind) (columns_of s)) (sym query) ∙ ap (map (λ (c : ResultColumn). c.kind)) (columns_seen b.query)
      ∙ map-map (λ (c : ResultColumn). c.kind) column_of (out-BoundSpecification b.query).columns in
      record {
        fits = takes_parameters parameters b.outputs (map (λ (c : ResultColumn). c.kind) (columns_of x.first.part)) outputs.1;
        stands = (
          subst (λ ks. IsSelect kinds ks [] b.query) (named.kinds_of_declared parameters)
              (select_is_so kinds a at_first (select_of_statement user s) x.first x.is_first b.query query (names_know bases kinds known mean selects grants) tt [] tt),
          subst (TakeKinds (kinds_of_parameters parameters) b.outputs) shown outputs.1,
        );
        is_written = record {
          targets = outputs.0;
          query = sym (select_same known selects grants (select_of_statement user s) (outside known parameters)) ∙ select_is_written kinds a at_first (select_of_statement user s) x.first x.is_first b.query query;
        };
      }

  -- ---- OPEN and CLOSE

  pub record IsNumbered (name : Name) (n : ℕ) : Type 0 where
    pub is_there : n < count
    pub is_number : IsNumberOf name n

  number_is : (name : Name) (c : NamedCursor) (n : ℕ) → cursor_named cursors name ≡ Ok c → c.number ≡ n → IsNumbered name n
  number_is name c n is same =
      let k = cursor_is IsNumberOf count cursor_kinds cursors cursors_mean name c is in
      record { is_there = subst (λ n. n < count) same k.is_there; is_number = subst (IsNumberOf name) same k.is_number }

  -- ---- each by the form of its image

  opened : (name : Name) (n : ℕ) (b : BoundStatement) → IsNumbered name n → NumberedStatement.open_cursor n ≡ statement_seen b → So (tree.Open name) b
  opened name n (statement.Open m) h e =
      let same : n ≡ m = cc in subst (λ m. So (tree.Open name) (statement.Open m)) same (record { fits = h.is_there; stands = tt; is_written = h.is_number })
  opened name n (statement.Fetch f) h e = cc
  opened name n (statement.Close m) h e = cc
  opened name n (statement.Select s) h e = cc
  opened name n (statement.Insert i) h e = cc
  opened name n (statement.Update u) h e = cc
  opened name n (statement.Delete t) h e = cc
  opened name n statement.Commit h e = cc
  opened name n statement.Rollback h e = cc

  closed : (name : Name) (n : ℕ) (b : BoundStatement) → IsNumbered name n → NumberedStatement.close_cursor n ≡ statement_seen b → So (tree.Close name) b
  closed name n (statement.Close m) h e =
      let same : n ≡ m = cc in subst (λ m. So (tree.Close name) (statement.Close m)) same (record { fits = h.is_there; stands = tt; is_written = h.is_number })
  closed name n (statement.Open m) h e = cc
  closed name n (statement.Fetch f) h e = cc
  closed name n (statement.Select s) h e = cc
  closed name n (statement.Insert i) h e = cc
  closed name n (statement.Update u) h e = cc
  closed name n (statement.Delete t) h e = cc
  closed name n statement.Commit h e = cc
  closed name n statement.Rollback h e = cc

  fetching : (f : Fetch) (x : NumberedFetch) (b : BoundStatement) → fetch_bound (declared parameters) cursors f ≡ Ok x → NumberedStatement.fetch x ≡ statement_seen b → So (tree.Fetch f) b
  fetching f x (statement.Fetch b) is e = let same : x ≡ fetch_seen b = cc in fetch_is f b (is ∙ ap Ok same)
  fetching f x (statement.Open m) is e = cc
  fetching f x (statement.Close m) is e = cc
  fetching f x (statement.Select s) is e = cc
  fetching f x (statement.Insert i) is e = cc
  fetching f x (statement.Update u) is e = cc
  fetching f x (statement.Delete t) is e = cc
  fetching f x statement.Commit is e = cc
  fetching f x statement.Rollback is e = cc

  selecting : (s : SelectStatement) (x : NumberedRow) (b : BoundStatement) → whole (row_bound mine (declared parameters) s) ≡ Ok x → NumberedStatement.select_row x ≡ statement_seen b → So (tree.Select s) b
  selecting s x (statement.Select b) is e = let same : x ≡ row_seen b = cc in row_is s b (is ∙ ap Ok same)
  selecting s x (statement.Open m) is e = cc
  selecting s x (statement.Close m) is e = cc
  selecting s x (statement.Fetch f) is e = cc
  selecting s x (statement.Insert i) is e = cc
  selecting s x (statement.Update u) is e = cc
  selecting s x (statement.Delete t) is e = cc
  selecting s x statement.Commit is e = cc
  selecting s x statement.Rollback is e = cc

  inserting : (i : insert_tree.Insert) (x : NumberedInsert) (b : BoundStatement) → whole (insert_bound mine (declared parameters) i) ≡ Ok x → NumberedStatement.insert x ≡ statement_seen b → StatementIsThere bases b → So (tree.Insert i) b
  inserting i x (statement.Insert b) is e there =
      let same : x ≡ insert_seen b = cc in
      let h = insert_is bases kinds known mean user selects grants holds parameters i b (is ∙ ap Ok same) there.0 there.1 there.2 in
      record { fits = (there.0, there.1); stands = (h.0.0, there.1, h.0.1); is_written = h.1 }
  inserting i x (statement.Open m) is e there = cc
  inserting i x (statement.Close m) is e there = cc
  inserting i x (statement.Fetch f) is e there = cc
  inserting i x (statement.Select s) is e there = cc
  inserting i x (statement.Update u) is e there = cc
  inserting i x (statement.Delete t) is e there = cc
  inserting i x statement.Commit is e there = cc
  inserting i x statement.Rollback is e there = cc

  updating : (u : update_tree.Update) (x : NumberedUpdate) (b : BoundStatement) → whole (update_bound mine (declared parameters) cursors u) ≡ Ok x → NumberedStatement.update x ≡ statement_seen b → StatementIsThere bases b → So (tree.Update u) b
  updating u x (statement.Update b) is e there =
      let same : x ≡ update_seen b = cc in
      let h = update_is bases kinds known mean user selects grants holds parameters IsNumberOf count cursor_kinds cursors cursors_mean u b (is ∙ ap Ok same) there.0 there.1 in
      let columns = own_columns (under b.target).table b.assignments there.1 in
      record { fits = ((there.0, h.0.1), columns_there (under b.target).table b.assignments columns, columns); stands = (h.0.0, h.0.2); is_written = h.1 }
  updating u x (statement.Open m) is e there = cc
  updating u x (statement.Close m) is e there = cc
  updating u x (statement.Fetch f) is e there = cc
  updating u x (statement.Select s) is e there = cc
  updating u x (statement.Insert i) is e there = cc
  updating u x (statement.Delete t) is e there = cc
  updating u x statement.Commit is e there = cc
  updating u x statement.Rollback is e there = cc

  deleting : (d : delete_tree.Delete) (x : NumberedChange) (b : BoundStatement) → whole (delete_bound mine (declared parameters) cursors d) ≡ Ok x → NumberedStatement.delete x ≡ statement_seen b → StatementIsThere bases b → So (tree.Delete d) b
  deleting d x (statement.Delete t) is e there =
      let same : x ≡ change_seen t = cc in
      let h = delete_is bases kinds known mean user selects grants holds parameters IsNumberOf count cursor_kinds cursors cursors_mean d t (is ∙ ap Ok same) there in
      record { fits = (there, h.0.1); stands = h.0.0; is_written = h.1 }
  deleting d x (statement.Open m) is e there = cc
  deleting d x (statement.Close m) is e there = cc
  deleting d x (statement.Fetch f) is e there = cc
  deleting d x (statement.Select s) is e there = cc
  deleting d x (statement.Insert i) is e there = cc
  deleting d x (statement.Update u) is e there = cc
  deleting d x statement.Commit is e there = cc
  deleting d x statement.Rollback is e there = cc

  committing : (work : Bool) (b : BoundStatement) → NumberedStatement.commit ≡ statement_seen b → So (tree.Commit work) b
  committing work statement.Commit e = record { fits = tt; stands = tt; is_written = tt }
  committing work (statement.Open m) e = cc
  committing work (statement.Close m) e = cc
  committing work (statement.Fetch f) e = cc
  committing work (statement.Select s) e = cc
  committing work (statement.Insert i) e = cc
  committing work (statement.Update u) e = cc
  committing work (statement.Delete t) e = cc
  committing work statement.Rollback e = cc

  rolling : (work : Bool) (b : BoundStatement) → NumberedStatement.rollback ≡ statement_seen b → So (tree.Rollback work) b
  rolling work statement.Rollback e = record { fits = tt; stands = tt; is_written = tt }
  rolling work (statement.Open m) e = cc
  rolling work (statement.Close m) e = cc
  rolling work (statement.Fetch f) e = cc
  rolling work (statement.Select s) e = cc
  rolling work (statement.Insert i) e = cc
  rolling work (statement.Update u) e = cc
  rolling work (statement.Delete t) e = cc
  rolling work statement.Commit e = cc

  -- a statement that is seen as the definition answers, and whose parts are there
  pub statement_is_so : (s : Statement) (b : BoundStatement) → statement_bound mine (declared parameters) cursors s ≡ Ok (statement_seen b) → StatementIsThere bases b → So s b
  statement_is_so (tree.Open name) b is there =
      let c = steps_of (cursor_named cursors name) (λ c. Ok (NumberedStatement.open_cursor c.number)) (statement_seen b) is in
      let made = c.second in
      let same : NumberedStatement.open_cursor c.step.number ≡ statement_seen b = cc in
      opened name c.step.number b (number_is name c.step c.step.number c.first refl) same
  statement_is_so (tree.Close name) b is there =
      let c = steps_of (cursor_named cursors name) (λ c. Ok (NumberedStatement.close_cursor c.number)) (statement_seen b) is in
      let made = c.second in
      let same : NumberedStatement.close_cursor c.step.number ≡ statement_seen b = cc in
      closed name c.step.number b (number_is name c.step c.step.number c.first refl) same
  statement_is_so (tree.Fetch f) b is there =
      let x = steps_of (fetch_bound (declared parameters) cursors f) (λ x. Ok (NumberedStatement.fetch x)) (statement_seen b) is in
      let made = x.second in
      let same : NumberedStatement.fetch x.step ≡ statement_seen b = cc in fetching f x.step b x.first same
  statement_is_so (tree.Select s) b is there =
      let x = steps_of (whole (row_bound mine (declared parameters) s)) (λ x. Ok (NumberedStatement.select_row x)) (statement_seen b) is in
      let made = x.second in
      let same : NumberedStatement.select_row x.step ≡ statement_seen b = cc in selecting s x.step b x.first same
  statement_is_so (tree.Insert i) b is there =
      let x = steps_of (whole (insert_bound mine (declared parameters) i)) (λ x. Ok (NumberedStatement.insert x)) (statement_seen b) is in
      let made = x.second in
      let same : NumberedStatement.insert x.step ≡ statement_seen b = cc in inserting i x.step b x.first same there
  statement_is_so (tree.Update u) b is there =
      let x = steps_of (whole (update_bound mine (declared parameters) cursors u)) (λ x. Ok (NumberedStatement.update x)) (statement_seen b) is in
      let made = x.second in
      let same : NumberedStatement.update x.step ≡ statement_seen b = cc in updating u x.step b x.first same there
  statement_is_so (tree.Delete d) b is there =
      let x = steps_of (whole (delete_bound mine (declared parameters) cursors d)) (λ x. Ok (NumberedStatement.delete x)) (statement_seen b) is in
      let made = x.second in
      let same : NumberedStatement.delete x.step ≡ statement_seen b = cc in deleting d x.step b x.first same there
  statement_is_so (tree.Commit work) b is there = let same : NumberedStatement.commit ≡ statement_seen b = cc in committing work b same
  statement_is_so (tree.Rollback work) b is there = let same : NumberedStatement.rollback ≡ statement_seen b = cc in rolling work b same
