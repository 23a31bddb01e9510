-- The rows that UPDATE and DELETE change are refused exactly if the rules refuse them (ISO/IEC 9075:1992, 13.6, 13.7, 13.9 and 13.10).
use Rattle.std.proofs.Common.{◌≡◌, Bool, true, false, not, ◌&&◌, List, [], ◌∷◌, length, Option, Some, None, Ok, refl, sym, ap, subst, ◌∙◌}
use Rattle.std.specs.List.{list_any}
use Rattle.std.specs.Prelude.{⊤, if◌then◌else◌, is_ok}
use Rattle.sq_lex.specs.declared.name.Name.{Name}
use Rattle.sq_tree.specs.declared.statement.Where.{Where}
use Rattle.sq_tree.specs.declared.statement.Where.TheVariants as rows_where
use Rattle.sq_meaning.specs.Environment.{TableName, TableReference, same_table}
use Rattle.sq_meaning.specs.Spelled.{Named, cond_of}
use Rattle.sq_meaning.specs.Syntax.{Clause, present}
use Rattle.sq_meaning.specs.Binding.{Judged, cursor_known, is_known_table, is_over, not_updatable}
use Rattle.sq_meaning.specs.Privilege.{Privilege}
use Rattle.sq_meaning.specs.Site.{KnownCursor, Site, clause_sites, cond_sites, plain_query}
use Rattle.sq_meaning.specs.WellFormedStatement.{beside_table, means_own_column, with_select}
use Rattle.sq_meaning.specs.Words.{is_some_and}
use Rattle.sq_meaning.specs.declared.fault.BindingFault.TheVariants as fault
use Rattle.sq_binding.specs.Change.{NamedCursor, NamedCursors, NumberedChange, cursor_named, positioned_bound, reading, rows_bound, with_reading}
use Rattle.sq_binding.specs.Changeable.{ChangedTable, UserNames, condition_bound, target_over}
use Rattle.sq_binding.specs.Found.{Binding, Counts, Found, ◌>>=◌, ◌>>◌, after, joined, must, outcome, pure}
use Rattle.sq_binding.specs.NumberedCondition.{NumberedClause}
use Rattle.sq_binding.specs.Outcome.{or_fault}
use Rattle.sq_binding.specs.QueryFindings.{nothing}
use Rattle.sq_binding.specs.Select.{Surroundings}
use Rattle.sq_binding.proofs.Exactly.ChangedTold.{IsChanged, TablesFit}
use Rattle.sq_binding.proofs.Faultless.Clean.{CleanSite, clean_more, no_site}
use Rattle.sq_binding.proofs.Faultless.CleanSelect.{outcome_ok}
use Rattle.sq_binding.proofs.FaultsFound.CondFaults.{CondSpellsNoNull}
use Rattle.sq_binding.proofs.Exactly.FetchTold.{CursorsFit, cursor_told}
use Rattle.sq_binding.proofs.Exactly.InsertAccepted.{privilege_clean}
use Rattle.sq_binding.proofs.OneTable.LeafScopes.{condition_tells, sites_on}
use Rattle.sq_binding.proofs.FaultsFound.PredicateFaults.{surrounded}
use Rattle.sq_binding.proofs.FaultsFound.Sites.{fault_here, fault_later}
use Rattle.sq_binding.proofs.Exactly.Tells.{Tells, made_tells, must_tells, outcome_tells, pure_tells, tells_at, then_tells}
use Rattle.sq_binding.proofs.Exactly.Told.{Told, told_made}

-- no literal is the null value (5.3)
abbrev pub WhereSpellsNoNull : UserNames → Option Where → Type 0
WhereSpellsNoNull names None = ⊤
WhereSpellsNoNull names (Some (rows_where.Condition c)) = CondSpellsNoNull (cond_of names.user c)
WhereSpellsNoNull names (Some (rows_where.CurrentOf name)) = ⊤

-- the sites at which the rules ask which rows are changed
abbrev pub where_sites_of : UserNames → Judged → TableName → Option Where → List Site
where_sites_of names j table None = []
where_sites_of names j table (Some (rows_where.Condition c)) = cond_sites j.known (beside_table table) (cond_of names.user c)
where_sites_of names j table (Some (rows_where.CurrentOf cursor)) = Site.cursor_used cursor ∷ Site.positioned table cursor ∷ []

-- a cursor that is known is over the table that the rules know of it
abbrev pub PositionsFit : NamedCursors → Judged → Type 0
PositionsFit cursors j = (name : Name) (c : NamedCursor) → cursors name ≡ Some c → (k : KnownCursor) × (cursor_known j.known name ≡ Some k) × (k.table ≡ c.table)

module _ (names : UserNames) (j : Judged) (fits : TablesFit names j) (cursors : NamedCursors) (known : CursorsFit cursors j) (positions : PositionsFit cursors j) (table : TableName) (t : ChangedTable) (is : IsChanged names j table t) where
  abbrev a : Surroundings
  a = surrounded names.tables j [] false

  abbrev sites_where : Option Where → List Site
  sites_where target = where_sites_of names j table target

  pub there : names.tables t.reference.table ≡ Some t.table
  there = ap (λ (r : TableReference). names.tables r.table) is.reference ∙ is.there

  wide : length t.under.columns ≡ length t.table.columns
  wide = fits.wide table t.table t.under is.there is.under

  -- the table by its name
  pub on_table : (c : Clause Named) → sites_on names.tables j fits.tables t.reference t.table there c ≡ clause_sites j.known (beside_table table) c
  on_table c = λ i. clause_sites j.known (record { queries = plain_query (is.reference i ∷ []) ∷ []; functions_allowed = false; in_function = false }) c

  -- ---- the row of a cursor

  module _ (cursor : Name) where
    position_clean : not_updatable j.known (Site.positioned table cursor) ≡ false → CleanSite j (Site.positioned table cursor)
    position_clean h fault.NotUpdatable = h
    position_clean h _ = refl

    asked : (k : KnownCursor) → cursor_known j.known cursor ≡ Some k → (b : Bool) → is_over table k ≡ b → not_updatable j.known (Site.positioned table cursor) ≡ not b
    asked k e b over = (λ i. is_known i && is_some_and (λ c. not (is_over table c)) (e i)) ∙ ap not over
      where
        is_known : is_known_table j.known table ≡ true
        is_known = ap is_ok is.known

    over_is : (k : KnownCursor) (over : TableName) → k.table ≡ Some over → (b : Bool) → same_table t.reference.table over ≡ b → is_over table k ≡ b
    over_is k over same b right = ap (is_some_and (same_table table)) same ∙ (λ i. same_table (sym is.reference i).table over) ∙ right

    abbrev taken : TableName → Counts → Found TableName
    taken over counts = record { part = over; calls = []; calls_can_fail = false; findings = nothing; subqueries = counts.subqueries }

    over_table : (c : NamedCursor) (k : KnownCursor) → cursor_known j.known cursor ≡ Some k → (o : Option TableName) → k.table ≡ o
        → Tells j (Site.positioned table cursor ∷ []) (outcome (or_fault fault.NotUpdatable o) >>= λ over. must (same_table t.reference.table over) fault.NotUpdatable >> pure (NumberedChange.positioned c.number t.under.leaf))
    over_table c k e None none counts = fault_here j fault.NotUpdatable (Site.positioned table cursor) [] (asked k e false (ap (is_some_and (same_table table)) none))
    over_table c k e (Some over) some counts =
        told_made j (Site.positioned table cursor ∷ [])
        ((must (same_table t.reference.table over) fault.NotUpdatable >> pure (NumberedChange.positioned c.number t.under.leaf)) (after counts (taken over counts))) (joined (taken over counts))
        (made_tells j (Site.positioned table cursor ∷ []) (must (same_table t.reference.table over) fault.NotUpdatable) (λ _. NumberedChange.positioned c.number t.under.leaf)
        (must_tells j (Site.positioned table cursor ∷ []) (same_table t.reference.table over) fault.NotUpdatable
        (λ right held. clean_more j (Site.positioned table cursor) [] (position_clean (asked k e true (over_is k over some true right))) (no_site j))
        (λ wrong. fault_here j fault.NotUpdatable (Site.positioned table cursor) [] (asked k e false (over_is k over some false wrong)))) (after counts (taken over counts)))

    position_tells : Tells j (sites_where (Some (rows_where.CurrentOf cursor))) (positioned_bound cursors t cursor)
    position_tells =
        then_tells j (Site.cursor_used cursor ∷ []) (Site.positioned table cursor ∷ []) (λ c. cursors cursor ≡ Some c) (outcome (cursor_named cursors cursor))
        (λ c. outcome (or_fault fault.NotUpdatable c.table) >>= λ over. must (same_table t.reference.table over) fault.NotUpdatable >> pure (NumberedChange.positioned c.number t.under.leaf))
        (λ counts z so. named (cursors cursor) z.part (outcome_ok (cursor_named cursors cursor) counts z so)) (outcome_tells j (Site.cursor_used cursor ∷ []) (cursor_named cursors cursor) (cursor_told j cursors known cursor))
        (λ c so. let k = positions cursor c so in over_table c k.0 k.1 c.table k.2)
      where
        named : (o : Option NamedCursor) (c : NamedCursor) → or_fault fault.UnknownCursor o ≡ Ok c → o ≡ Some c
        named (Some d) c e = cc
        named None c e = cc

  -- ---- all of them

  pub rows_tell : (target : Option Where) → WhereSpellsNoNull names target → Tells j (sites_where target) (rows_bound names a cursors t target)
  rows_tell None null = pure_tells j (NumberedChange.searched (target_over t NumberedClause.absent))
  rows_tell (Some (rows_where.Condition c)) null =
      made_tells j (sites_where (Some (rows_where.Condition c))) (condition_bound a t (present (cond_of names.user c))) (λ condition. NumberedChange.searched (target_over t condition))
      (subst (λ sites. Tells j sites (condition_bound a t (present (cond_of names.user c)))) (on_table (present (cond_of names.user c)))
      (condition_tells names.tables j fits.tables t.reference t.table there t.under wide (present (cond_of names.user c)) null))
  rows_tell (Some (rows_where.CurrentOf cursor)) null = position_tells cursor

  -- SELECT on the table, where a column of it is read
  pub reading_tells : {A : Type 0} (sites : List Site) (b : Binding A) → Tells j sites b → Tells j (with_select j.known table sites) (reading names t b)
  reading_tells sites b h counts = told_made j (with_select j.known table sites) (b counts) (with_reading names t) (by (list_any (means_own_column j.known) sites))
    where
      by : (own : Bool) → Told j (if own then Site.privilege_used table Privilege.select ∷ sites else sites) (b counts)
      by true =
          tells_at j sites (Site.privilege_used table Privilege.select ∷ sites) b (λ f. fault_later j f (Site.privilege_used table Privilege.select) sites)
          (λ held clean. clean_more j (Site.privilege_used table Privilege.select) sites (privilege_clean j table Privilege.select (held table Privilege.select)) clean) h counts
      by false = h counts
