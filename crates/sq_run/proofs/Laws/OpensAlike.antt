-- In two states where the user reads the same rows, OPEN of a cursor comes to the same rows (ISO/IEC 9075:1992, 7.9, 13.1 and 13.2).
use Rattle.std.proofs.Common.{ap, arith, subst, sym, ◌∙◌}
use Rattle.std.proofs.lemmas.Bool.{not-false}
use Rattle.std.proofs.lemmas.List.{length-map}
use Rattle.std.specs.List.{AllByRecursion, cons_option}
use Rattle.std.specs.Prelude.{◌≡◌, ℕ, ◌<◌, IfOk, filter_map, Bool, true, false, List, [], ◌∷◌, length, map, find, nat_eq, Option, option_map, refl, Some, Ok, Err}
use Rattle.sq_lex.specs.declared.name.Name.{Name}
use Rattle.sq_value.specs.Key.{in_columns}
use Rattle.sq_store.specs.Content.{Content, table_at}
use Rattle.sq_store.specs.declared.table.Numbered.{Numbered}
use Rattle.sq_tree.specs.declared.module.ModuleText.{ModuleText}
use Rattle.sq_tree.specs.declared.names.ColumnReference.{ColumnReference}
use Rattle.sq_meaning.specs.Environment.{Env, Input, Item, Row, TableName, TableReference, alone, outermost, within}
use Rattle.sq_meaning.specs.Expression.{Reading}
use Rattle.sq_meaning.specs.Query.{clause_truth, is_true}
use Rattle.sq_meaning.specs.Spelled.{Named}
use Rattle.sq_meaning.specs.Status.{Outcome, and_then, kept}
use Rattle.sq_meaning.specs.Syntax.{Clause, SelectList, select}
use Rattle.sq_meaning.specs.Tables.{by_name, column_names, table_rows}
use Rattle.sq_meaning.specs.Target.{Level, Source, Target, chosen, chosen_numbers, seen_through, target_of}
use Rattle.sq_meaning.proofs.AnswerLaws.{all_weaker}
use Rattle.sq_meaning.proofs.OutcomeLaws.{kept_map}
use Rattle.sq_meaning.specs.Binding.{privilege_missing}
use Rattle.sq_meaning.specs.Catalog.{tables_of}
use Rattle.sq_meaning.specs.Cursor.{CursorState, before_numbers, before_rows}
use Rattle.sq_meaning.specs.Machine.{Program, State}
use Rattle.sq_meaning.specs.Privilege.{Privilege}
use Rattle.sq_meaning.specs.Privileges.{holds}
use Rattle.sq_meaning.specs.Schema.{Elements}
use Rattle.sq_meaning.specs.Site.{Known, Site, clause_sites, inside_query, outside, plain_query, select_sites}
use Rattle.sq_run.specs.Confined.{LookAlike}
use Rattle.sq_run.specs.ConfinedCursors.{LooksAlike, shown_under}
use Rattle.sq_run.proofs.Laws.ConfinedLaws.{clause_alike}
use Rattle.sq_run.proofs.Laws.TargetColumns.{AreAsWide, IsOver, all_below, taken_in_turn}
use Rattle.sq_run.proofs.Laws.TargetRows.{chosen_last, chosen_of, read_parts}
use Rattle.sq_run.proofs.Changed.RowsAgain.{all_there, all_within}
use Rattle.sq_run.proofs.Places.Outcomes.{kept_of, ok_same}
use Rattle.sq_run.proofs.Steps.Moves.{AllRise}
use Rattle.sq_run.proofs.Sites.SiteLaws.{all_of_mapped}

-- ---- OPEN of a cursor

-- it ends with the same status, or its states look alike
abbrev pub OpensAlike : (one other : ℕ → Option Row) → Outcome CursorState → Outcome CursorState → Type 0
OpensAlike one other (Ok c) (Ok d) = LooksAlike one other c d
OpensAlike one other (Err a) (Err b) = a ≡ b
OpensAlike one other _ _ = ⊥

pub opens_on_rows : (one other : ℕ → Option Row) (o : Outcome (List Row))
    → OpensAlike one other (and_then o (λ found. Ok (before_rows found))) (and_then o (λ found. Ok (before_rows found)))
opens_on_rows one other (Ok found) = (refl, refl)
opens_on_rows one other (Err st) = refl

opens_on_numbers : (one other : ℕ → Option Row) (o q : Outcome (List ℕ))
    → and_then o (λ ns. Ok (filter_map one ns)) ≡ and_then q (λ ns. Ok (filter_map other ns))
    → OpensAlike one other (and_then o (λ ns. Ok (before_numbers ns))) (and_then q (λ ns. Ok (before_numbers ns)))
opens_on_numbers one other (Ok ns) (Ok ks) e = ok_same (filter_map one ns) (filter_map other ks) e
opens_on_numbers one other (Err a) (Err b) e = cc
opens_on_numbers one other (Ok ns) (Err b) e = cc
opens_on_numbers one other (Err a) (Ok ks) e = cc

-- ---- OPEN of an updatable cursor

-- the rows of an updatable table or view: those of the base table under it that meet its conditions, in its columns
abbrev pub shown_rows : Elements → Name → List Input → Target → Content → Outcome (List Row)
shown_rows elements user inputs target content =
    and_then (chosen (by_name (tables_of elements) content user) (outermost inputs user) target.levels (table_at content target.place).rows)
    (λ found. Ok (map (λ r. in_columns r.row target.columns) found))

-- what is so of two databases in which the user reads the same rows
pub record AreRead (p : Program) (user : Name) (one other : Content) : Type 0 where
  pub wide : AreAsWide (tables_of p.elements)
  pub rise : AllRise one × AllRise other
  pub tables : LookAlike p.elements user one other
  pub targets : (name : TableName) (target : Target) (inputs : List Input) → holds p.elements user name Privilege.select ≡ true
      → target_of (tables_of p.elements) name ≡ Ok target → shown_rows p.elements user inputs target one ≡ shown_rows p.elements user inputs target other

module _ (p : Program) (m : ModuleText) (s t : State) (same : AreRead p m.authorization s.tables t.tables) where
  abbrev pub MayBeRead : Site → Type 0
  MayBeRead x = privilege_missing (holds p.elements m.authorization) x ≡ false

  abbrev pub AllMay : List Site → Type 0
  AllMay sites = AllByRecursion MayBeRead sites

  module _ (inputs : List Input) (k : Known) (distinct : Bool) (list : SelectList Named) (from : List TableReference) (filter : Clause Named) (by : List ColumnReference) (having : Clause Named)
      (may : AllMay (select_sites k outside (select distinct list from filter by having))) (found : Source) (over : IsOver (tables_of p.elements) list from filter found)
      (under : Target) (means : target_of (tables_of p.elements) over.reference.table ≡ Ok under) where
    abbrev env : Env Item
    env = outermost inputs m.authorization

    abbrev source : Source
    source = record { item = record { reference = over.reference; columns = column_names over.table }; columns = over.columns; condition = filter }

    abbrev target : Target
    target = seen_through source under

    -- the cursor's own condition, on a row of the table or view beneath
    abbrev own : Reading Named → Row → Outcome Bool
    own reads x = is_true (clause_truth reads filter (within (alone (source.item ∷ []) (x ∷ [])) env))

    -- the columns beneath, and those of them that the cursor shows
    abbrev seen : Numbered → Row
    seen r = in_columns r.row under.columns

    abbrev narrowed : Row → Row
    narrowed x = in_columns x over.columns

    below : AllByRecursion (λ n. n < length under.columns) over.columns
    below =
        all_weaker (λ n. n < length (column_names over.table)) (λ n. n < length under.columns)
        (λ n less. let wide = same.wide over.reference.table over.table under over.there means in
        let count = length-map (over.table).columns (λ c. c.name) in omega (arith, less, wide, count)) over.columns
        (all_below source.item list over.columns over.shown)

    -- ---- in one database

    module _ (content : Content) (rise : AllRise content) where
      abbrev reads : Reading Named
      reads = by_name (tables_of p.elements) content m.authorization

      abbrev stored : List Numbered
      stored = (table_at content under.place).rows

      abbrev IsAt : Numbered → Type 0
      IsAt x = find (λ r. nat_eq r.number x.number) stored ≡ Some x

      abbrev shown : ℕ → Option Row
      shown = shown_under (Some target) content

      one_shown : (r : Numbered) → IsAt r → shown r.number ≡ Some (narrowed (seen r))
      one_shown r at =
          ap (λ (o : Option Numbered). option_map (λ row. in_columns row target.columns) (option_map (λ x. x.row) o)) at
          ∙ ap Some (taken_in_turn r.row under.columns over.columns below)

      all_shown : (rs : List Numbered) → AllByRecursion IsAt rs → filter_map shown (map (λ r. r.number) rs) ≡ map narrowed (map seen rs)
      all_shown [] h = refl
      all_shown (r ∷ rs) h = (λ i. cons_option (one_shown r h.0 i) (all_shown rs h.1 i))

      abbrev last : Level
      last = record { item = source.item; columns = under.columns; condition = filter }

      abbrev shown_where : Outcome (List Row) → Outcome (List Row)
      shown_where o = and_then o (λ xs. and_then (kept (own reads) xs) (λ ys. Ok (map narrowed ys)))

      by_kept : (o : Outcome (List Numbered)) → IfOk o (AllByRecursion IsAt)
          → and_then (and_then (and_then o (λ rs. Ok rs)) (λ rs. Ok (map (λ r. r.number) rs))) (λ ns. Ok (filter_map shown ns))
          ≡ and_then (and_then o (λ rs. Ok (map seen rs))) (λ ys. Ok (map narrowed ys))
      by_kept (Err st) h = refl
      by_kept (Ok rs) h = ap Ok (all_shown rs h)

      by_chosen : (o : Outcome (List Numbered)) → IfOk o (AllByRecursion IsAt)
          → and_then (and_then (and_then o (chosen reads env (last ∷ []))) (λ rs. Ok (map (λ r. r.number) rs))) (λ ns. Ok (filter_map shown ns))
          ≡ shown_where (and_then o (λ rs. Ok (map seen rs)))
      by_chosen (Err st) h = refl
      by_chosen (Ok rs) h =
          by_kept (kept (λ r. own reads (seen r)) rs) (kept_of IsAt (λ r. own reads (seen r)) rs h)
          ∙ ap (λ o. and_then o (λ ys. Ok (map narrowed ys))) (sym (kept_map seen (own reads) rs))

      -- what the cursor comes to are the rows beneath that meet its condition
      rows_opened : and_then (chosen_numbers reads env target stored) (λ ns. Ok (filter_map shown ns))
          ≡ shown_where (and_then (chosen reads env under.levels stored) (λ rs. Ok (map seen rs)))
      rows_opened =
          ap (λ o. and_then (and_then o (λ rs. Ok (map (λ r. r.number) rs))) (λ ns. Ok (filter_map shown ns))) (chosen_last reads env under.levels last stored)
          ∙ by_chosen (chosen reads env under.levels stored)
          (chosen_of IsAt reads env under.levels stored (all_there 1 (table_at content under.place).next stored stored (rise under.place) (all_within stored)))

    -- ---- in both

    parts : AllMay (map Site.table_read from) × AllMay (clause_sites k (inside_query outside (plain_query from) false) filter)
    parts = read_parts MayBeRead k distinct list from filter by having may

    held : holds p.elements m.authorization over.reference.table Privilege.select ≡ true
    held =
        not-false (holds p.elements m.authorization over.reference.table Privilege.select)
        (subst (AllByRecursion (λ r. MayBeRead (Site.table_read r))) over.alone (all_of_mapped MayBeRead Site.table_read from parts.0)).0

    own_same : (x : Row) → own (by_name (tables_of p.elements) s.tables m.authorization) x ≡ own (by_name (tables_of p.elements) t.tables m.authorization) x
    own_same x =
        ap is_true (clause_alike (tables_of p.elements) (table_rows (tables_of p.elements) s.tables m.authorization) (table_rows (tables_of p.elements) t.tables m.authorization)
        (holds p.elements m.authorization) same.tables k (inside_query outside (plain_query from) false) filter (within (alone (source.item ∷ []) (x ∷ [])) env) parts.1)

    abbrev numbers_in : Content → Outcome (List ℕ)
    numbers_in content = chosen_numbers (by_name (tables_of p.elements) content m.authorization) env target (table_at content target.place).rows

    pub opens_target : OpensAlike (shown_under (Some target) s.tables) (shown_under (Some target) t.tables)
        (and_then (numbers_in s.tables) (λ ns. Ok (before_numbers ns))) (and_then (numbers_in t.tables) (λ ns. Ok (before_numbers ns)))
    opens_target =
        opens_on_numbers (shown_under (Some target) s.tables) (shown_under (Some target) t.tables) (numbers_in s.tables) (numbers_in t.tables)
        (rows_opened s.tables same.rise.0
        ∙ (λ i. and_then (same.targets over.reference.table under inputs held means i) (λ xs. and_then (kept (λ x. own_same x i) xs) (λ ys. Ok (map narrowed ys))))
        ∙ sym (rows_opened t.tables same.rise.1))
