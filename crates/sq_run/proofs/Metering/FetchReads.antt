-- How many rows a FETCH of an updatable cursor reads, said of the machine's cursor, in a session of accepted texts (own rule;
-- ISO/IEC 9075:1992, 13.3): where it comes from the row of one number to that of another, one at least, and no more than the
-- numbers differ. So it is while the cursor walks, and where it has a list of its rows.
use Rattle.std.proofs.Common.{◌≡◌, ℕ, ◌-◌, ◌<◌, ◌≤◌, List, length, Option, Some, None, Ok, Err, refl, sym, ap, subst, ◌∙◌, arith}
use Rattle.std.proofs.lemmas.List.{get_or-set_same}
use Rattle.std.specs.Option.{option_map}
use Rattle.std.specs.Prelude.{IfSome, MatchOption, unwrap_or}
use Rattle.sq_tree.specs.declared.«module».Cursor.{Cursor}
use Rattle.sq_tree.specs.declared.«module».ModuleText.{ModuleText}
use Rattle.sq_tree.specs.declared.«module».Procedure.{Procedure}
use Rattle.sq_tree.specs.declared.schema.SchemaText.{SchemaText}
use Rattle.sq_tree.specs.declared.statement.Fetch.{Fetch}
use Rattle.sq_tree.specs.declared.statement.Statement.TheVariants as statement
use Rattle.sq_value.specs.declared.value.Value.{Value}
use Rattle.sq_store.specs.Content.{table_at}
use Rattle.sq_store.specs.declared.table.Numbered.{Numbered}
use Rattle.sq_meaning.specs.Cursor as machine
use Rattle.sq_meaning.specs.Machine as by_name
use Rattle.sq_meaning.specs.Module.{cursor_named}
use Rattle.sq_meaning.specs.Status.{Outcome, and_then}
use Rattle.sq_bound.specs.Known.{KnownTables}
use Rattle.sq_bound.specs.declared.statement.BoundFetch.{BoundFetch}
use Rattle.sq_bound.specs.declared.statement.BoundStatement.TheVariants as bound
use Rattle.sq_module.specs.Written.{IsNumberOf, IsStatementIn}
use Rattle.sq_module.specs.declared.program.DeclaredCursor.{DeclaredCursor}
use Rattle.sq_module.specs.declared.program.Program.{Program}
use Rattle.sq_session.specs.Fetch.{come_to_row, next_walked, over_numbers, over_rows, over_walk, row_on, shown_fetched, walked_to}
use Rattle.sq_session.specs.Kind.{Fetching, fetching}
use Rattle.sq_session.specs.Metered.{FetchReadsFrom}
use Rattle.sq_session.specs.Parameter.{started_values}
use Rattle.sq_session.specs.Schemas.{Schemas}
use Rattle.sq_session.specs.Session.{Session}
use Rattle.sq_session.specs.State.{State, cursor_at, next_number, number_on, with_cursor}
use Rattle.sq_session.specs.Step.{Comes, MayFetchFrom}
use Rattle.sq_session.specs.declared.cursor.CursorState.{CursorState}
use Rattle.sq_session.specs.declared.cursor.CursorState.TheVariants as cursor
use Rattle.sq_session.specs.declared.cursor.NumbersCursor.{NumbersCursor}
use Rattle.sq_session.specs.declared.cursor.RowsCursor.{RowsCursor}
use Rattle.sq_session.specs.declared.reply.Done.{Done}
use Rattle.sq_session.specs.declared.reply.Reply.{Reply}
use Rattle.sq_session.specs.declared.walk.WalkingCursor.{WalkingCursor}
use Rattle.sq_run.proofs.OpenCursors.AheadWalks.{AreAhead, IsAhead, ahead_at}
use Rattle.sq_run.proofs.OpenCursors.Cursors.{IsCursorAt, number_is_on}
use Rattle.sq_run.proofs.Steps.Exact.{IsBoundExactly, IsOpenedFrom}
use Rattle.sq_run.proofs.Metering.Quiet as quiet
use Rattle.sq_run.proofs.Metering.ReadCalls.{IsBoundCall, IsCall, done}
use Rattle.sq_run.proofs.Texts.Reports.{IsSession}

-- ---- a session's FETCH

none_some : (q : ℕ) → None ≡ Some q → ⊥
none_some q e = cc

some_is : (p q : ℕ) → Some p ≡ Some q → p ≡ q
some_is p q e = cc

module _ (f : Fetching) (values : List Value) (b a : State) (d : Done) (count : ℕ) (within : f.cursor < length b.cursors) (number : ℕ)
    (on : number_on (cursor_at a f.cursor) ≡ Some number) where
  -- from the row of one number to that of another
  abbrev FewRead : Option ℕ → Type 0
  FewRead before = (1 ≤ count) × (count ≤ number - unwrap_or before 0)

  -- the cursor that was set
  on_set : (c : CursorState) → a ≡ with_cursor b f.cursor c → number_on c ≡ Some number
  on_set c e =
      sym (ap number_on (ap (λ s. cursor_at s f.cursor) e ∙ get_or-set_same b.cursors f.cursor c cursor.Closed within)) ∙ on

  -- the cursor that stayed is not on another row
  stayed : (c : CursorState) → cursor_at b f.cursor ≡ c → a ≡ b → unwrap_or (number_on c) 0 < number → ⊥
  stayed c at e later =
      let same : unwrap_or (number_on c) 0 ≡ number
      = ap (λ o. unwrap_or o 0) (sym (ap number_on (ap (λ s. cursor_at s f.cursor) e ∙ at)) ∙ on) in
      absurd (omega (arith, same, later))

  by_rows : (c : RowsCursor) (o : Outcome (RowsCursor × Done)) → cursor_at b f.cursor ≡ cursor.Rows c → unwrap_or (number_on (cursor.Rows c)) 0 < number
      → Comes (over_rows o) f.cursor b d a → FewRead None
  by_rows c (Ok come) at later h = absurd (none_some number (on_set (cursor.Rows come.0) h.1))
  by_rows c (Err st) at later h = absurd (stayed (cursor.Rows c) at h.1 later)

  by_numbers : (c next : NumbersCursor) (z : Outcome Done) → cursor_at b f.cursor ≡ cursor.Numbers c → unwrap_or c.on 0 < number
      → MatchOption next.on (count ≡ 0) (λ k. count ≡ 1) → Comes (over_numbers (and_then z (λ e. Ok (next, e)))) f.cursor b d a → FewRead c.on
  by_numbers c next (Ok e) at later reads h =
      let one : count ≡ 1 = subst (λ o. MatchOption o (count ≡ 0) (λ k. count ≡ 1)) (on_set (cursor.Numbers next) h.1) reads in
      (omega (arith, one), omega (arith, one, later))
  by_numbers c next (Err st) at later reads h = absurd (stayed (cursor.Numbers c) at h.1 later)

  by_walk : (c : WalkingCursor) (reached : Option Numbered) (z : Outcome Done) → cursor_at b f.cursor ≡ cursor.Walking c
      → IfSome c.on (λ k. k < c.next) → unwrap_or c.on 0 < number
      → IfSome reached (λ r. (1 ≤ count) × (count ≤ r.number - (c.next - 1)))
      → Comes (over_walk (and_then z (λ e. Ok (walked_to c reached, e)))) f.cursor b d a → FewRead c.on
  by_walk c None (Ok e) at ahead later reads h = absurd (none_some number (on_set (cursor.Walking (walked_to c None)) h.1))
  by_walk c (Some r) (Ok e) at ahead later reads h =
      let same : r.number ≡ number = some_is r.number number (on_set (cursor.Walking (walked_to c (Some r))) h.1) in
      by_on c.on ahead (subst (λ k. count ≤ k - (c.next - 1)) same reads.1)
    where
      by_on : (o : Option ℕ) → IfSome o (λ k. k < c.next) → count ≤ number - (c.next - 1) → FewRead o
      by_on None ahead few = (reads.0, omega (arith, few))
      by_on (Some k) ahead few = (reads.0, omega (arith, ahead, few))
  by_walk c reached (Err st) at ahead later reads h = absurd (stayed (cursor.Walking c) at h.1 later)

  few_read : (c : CursorState) → cursor_at b f.cursor ≡ c → IsAhead c → MayFetchFrom c f values b d a → FetchReadsFrom c f b.tables count
      → unwrap_or (number_on c) 0 < number → FewRead (number_on c)
  few_read cursor.Closed at ahead h reads later = absurd (stayed cursor.Closed at h.1 later)
  few_read (cursor.Rows c) at ahead h reads later = by_rows c (come_to_row f values c) at later h
  few_read (cursor.Numbers c) at ahead h reads later =
      let next : NumbersCursor = next_number (table_at b.tables c.table) c in
      by_numbers c next (shown_fetched f (row_on (table_at b.tables c.table) next.on)) at later reads h
  few_read (cursor.Walking c) at ahead h reads later =
      let reached : Option Numbered = next_walked f (table_at b.tables c.table) c in
      by_walk c reached (shown_fetched f (option_map (λ (r : Numbered). r.row) reached)) at ahead later reads.0 h

-- ---- of the machine's cursor

module _ (texts : List SchemaText) (modules : List ModuleText) (row_numbers : ℕ) (known : KnownTables) (schemas : Schemas) (program : Program)
    (o : IsOpenedFrom texts modules known schemas program) (exact : IsBoundExactly texts modules program) where
  abbrev declared : List DeclaredCursor
  declared = program.cursors.items

  abbrev Is : Session → by_name.State → Type 0
  Is s x = IsSession texts modules row_numbers known schemas program o exact s x

  module _ (s : Session) (x : by_name.State) (stands : Is s x) (m : ModuleText) (p : Procedure) (values : List Value) (reply : Reply) (after : State)
      (call : IsCall texts modules s m p values reply after) (f : Fetch) (fetches : p.statement ≡ statement.Fetch f) (c : Cursor)
      (named : cursor_named m f.cursor ≡ Some c) where
    abbrev b : IsBoundCall texts modules known schemas program o exact s m p values call.number
    b = quiet.b texts modules row_numbers known schemas program o exact s x stands m p values reply after call

    y : (z : BoundFetch) × (b.statement ≡ bound.Fetch z) × IsNumberOf known m declared f.cursor z.cursor
    y =
        quiet.fetch_bound texts modules row_numbers known schemas program o exact m b.parameters f b.statement
        (subst (λ st. IsStatementIn known m declared b.parameters st b.statement) fetches b.is)

    abbrev n : ℕ
    n = (y.0).cursor

    d : quiet.IsDeclared texts modules row_numbers known schemas program o exact s x stands m p values reply after call c n
    d = quiet.is_declared texts modules row_numbers known schemas program o exact s x stands m p values reply after call f.cursor c named n y.2

    at : IsCursorAt program m c n
    at = record { declared_as = d.declared_as; there = d.there; of_module = d.from.of_module; named = d.from.named }

    -- the number that the machine's cursor is on is the session's
    same_number : (t : Session) (z : by_name.State) → Is t z → machine.number_on (by_name.cursor_at z m.name f.cursor) ≡ number_on (cursor_at t.state n)
    same_number t z is =
        sym (ap (λ k. machine.number_on (by_name.cursor_at z m.name k))
        (quiet.is_called texts modules row_numbers known schemas program o exact s x stands m p values reply after call f.cursor c named n y.2))
        ∙ number_is_on texts modules row_numbers known schemas program o exact t z is m c n at

    pub fetch_reads : AreAhead s.state.cursors → (t : Session) (z : by_name.State) → Is t z → t.state ≡ after → (number : ℕ)
        → machine.number_on (by_name.cursor_at z m.name f.cursor) ≡ Some number
        → unwrap_or (machine.number_on (by_name.cursor_at x m.name f.cursor)) 0 < number
        → (1 ≤ reply.reads) × (reply.reads ≤ number - unwrap_or (machine.number_on (by_name.cursor_at x m.name f.cursor)) 0)
    fetch_reads ahead t z is here number on later =
        let same = same_number s x stands in
        let fetched : Fetching = fetching declared m.authorization b.parameters y.0 in
        let within = quiet.within texts modules row_numbers known schemas program o exact s x stands m p values reply after call f.cursor c named n y.2 in
        let now = ap (λ k. number_on (cursor_at k n)) (sym here) ∙ sym (same_number t z is) ∙ on in
        let may = quiet.may_of texts modules row_numbers known schemas program o exact s x stands m p values reply after call (bound.Fetch y.0) y.1 in
        let reads = quiet.reads_of texts modules row_numbers known schemas program o exact s x stands m p values reply after call (bound.Fetch y.0) y.1 in
        subst (λ k. (1 ≤ reply.reads) × (reply.reads ≤ number - unwrap_or k 0)) (sym same)
        (few_read fetched (started_values b.parameters values) s.state after (done reply) reply.reads within number now (cursor_at s.state n) refl
        (ahead_at s.state.cursors n ahead) may.0 reads (subst (λ k. unwrap_or k 0 < number) same later))
