-- A CHECK condition in which the rules find nothing that they refuse reads the row of its table alone (ISO/IEC 9075:1992, 11.9): no
-- subquery, parameter, set function or USER stands in it.
use Rattle.std.specs.Prelude.{◌≡◌, Bool, true, false, not, ◌||◌, List, [], ◌∷◌, ◌++◌, flat_map, Option, Some, None, refl}
use Rattle.std.specs.List.{AllByRecursion, list_any}
use Rattle.sq_lex.specs.declared.name.Name.{Name}
use Rattle.sq_tree.specs.declared.cond.Cond.{Cond as WrittenCond}
use Rattle.sq_tree.specs.declared.schema.TableDefinition.{TableDefinition}
use Rattle.sq_meaning.specs.Spelled.{Named, cond_of, table_of}
use Rattle.sq_meaning.specs.Syntax.{Expr, literal, parameter, user, column, count_rows, set_function, signed, added, scaled, bracketed, Cond, Conds, compare, compare_subquery, compare_quantified, between, in_subquery, in_list, like, is_null, exists, negated, conjunction, disjunction, no_cond, a_cond}
use Rattle.sq_meaning.specs.Tables.{Tables}
use Rattle.sq_meaning.proofs.AnswerLaws.{all_weaker}
use Rattle.sq_meaning.specs.Binding.{has_syntax_fault}
use Rattle.sq_meaning.specs.Catalog.{tables_of}
use Rattle.sq_meaning.specs.Schema.{Elements}
use Rattle.sq_meaning.specs.SchemaRefusal.{check_sites, is_bad_check, is_refused_in_check, view_judged}
use Rattle.sq_meaning.specs.Site.{Around, Known, Site, compared_sites, cond_sites, conds_sites, escape_sites, expr_sites, known_tables, text_sites}
use Rattle.sq_meaning.specs.WellFormedStatement.{beside_table}
use Rattle.sq_run.proofs.Sites.SiteLaws.{IsSound, all_of_flat_mapped, all_parts, neither, never, none_passes, sound_sites}
use Rattle.sq_run.proofs.Changed.Checks.{AreCondsOfRow, IsCondOfRow, IsEscapeOfRow, IsOfRow}

-- no rule is broken at a site, and nothing stands there that a CHECK may not have
abbrev IsPlain : Known → Site → Type 0
IsPlain k s = IsSound k s × (is_refused_in_check s ≡ false)

misplaced : (allowed other : Bool) → allowed ≡ false → (not allowed || other) ≡ false → ⊥
misplaced true other is e = cc
misplaced false other is e = cc

-- where no parameter is declared, and no set function may stand
module _ (tables : Tables) (a : Around) (allowed : a.functions_allowed ≡ false) where
  abbrev k : Known
  k = known_tables tables

  abbrev ArePlain : List Site → Type 0
  ArePlain sites = AllByRecursion (IsPlain k) sites

  reads_row : (e : Expr Named) → ArePlain (expr_sites k a e) → IsOfRow e
  reads_row (literal v) h = tt
  reads_row (parameter p) h = never h.0.0.parameters
  reads_row user h = never h.0.1
  reads_row (column c) h = tt
  reads_row count_rows h = misplaced a.functions_allowed false allowed h.0.0.functions
  reads_row (set_function f distinct e) h = misplaced a.functions_allowed _ allowed h.0.0.functions
  reads_row (signed sign e) h = reads_row e h.1
  reads_row (added sign e f) h =
      let parts = all_parts (IsPlain k) (expr_sites k a e) (expr_sites k a f) h.1.1 in (reads_row e parts.0, reads_row f parts.1)
  reads_row (scaled sign e f) h =
      let parts = all_parts (IsPlain k) (expr_sites k a e) (expr_sites k a f) h.1.1.1 in (reads_row e parts.0, reads_row f parts.1)
  reads_row (bracketed e) h = reads_row e h

  both_read : (e f : Expr Named) → ArePlain (compared_sites k a e f) → IsOfRow e × IsOfRow f
  both_read e f h =
      let parts = all_parts (IsPlain k) (expr_sites k a e) (expr_sites k a f) h.1 in (reads_row e parts.0, reads_row f parts.1)

  escape_reads : (escape : Option (Expr Named)) → ArePlain (escape_sites k a escape) → IsEscapeOfRow escape
  escape_reads None h = tt
  escape_reads (Some e) h = reads_row e h.1

  mutual
    cond_reads_row : (c : Cond Named) → ArePlain (cond_sites k a c) → IsCondOfRow c
    cond_reads_row (compare op e f) h = both_read e f h
    cond_reads_row (compare_subquery op e q) h = never h.1.1.0.1
    cond_reads_row (compare_quantified op quantifier e q) h = never h.1.1.0.1
    cond_reads_row (between e low high) h =
        let parts = all_parts (IsPlain k) (compared_sites k a e low) (compared_sites k a e high) h in
        let first = both_read e low parts.0 in
        (first.0, first.1, (both_read e high parts.1).1)
    cond_reads_row (in_subquery e q) h = never h.1.1.0.1
    cond_reads_row (in_list e es) h =
        let parts = all_parts (IsPlain k) (expr_sites k a e) (flat_map (compared_sites k a e) es) h in (
          reads_row e parts.0,
          all_weaker (λ f. ArePlain (compared_sites k a e f)) IsOfRow (λ f p. (both_read e f p).1) es
              (all_of_flat_mapped (IsPlain k) (compared_sites k a e) es parts.1),
        )
    cond_reads_row (like text pattern escape) h =
        let parts = all_parts (IsPlain k) (text_sites k a text ++ text_sites k a pattern) (escape_sites k a escape) h in
        let texts = all_parts (IsPlain k) (text_sites k a text) (text_sites k a pattern) parts.0 in
        (reads_row text texts.0.1, reads_row pattern texts.1.1, escape_reads escape parts.1)
    cond_reads_row (is_null e) h = reads_row e h
    cond_reads_row (exists q) h = never h.0.1
    cond_reads_row (negated c) h = cond_reads_row c h
    cond_reads_row (conjunction cs) h = conds_read_row cs h
    cond_reads_row (disjunction cs) h = conds_read_row cs h

    conds_read_row : (cs : Conds Named) → ArePlain (conds_sites k a cs) → AreCondsOfRow cs
    conds_read_row no_cond h = tt
    conds_read_row (a_cond c cs) h =
        let parts = all_parts (IsPlain k) (cond_sites k a c) (conds_sites k a cs) h in (cond_reads_row c parts.0, conds_read_row cs parts.1)

-- ---- CHECK

both_of : {A : Type 0} (P : A → Type 0) (Q : A → Type 0) (xs : List A) → AllByRecursion P xs → AllByRecursion Q xs
    → AllByRecursion (λ x. P x × Q x) xs
both_of P Q [] p q = tt
both_of P Q (x ∷ xs) p q = ((p.0, q.0), both_of P Q xs p.1 q.1)

check_reads_row : (elements : Elements) (owner : Name) (t : TableDefinition) (c : WrittenCond) → is_bad_check elements owner t c ≡ false
    → IsCondOfRow (cond_of owner c)
check_reads_row elements owner t c e =
    let parts = neither (has_syntax_fault (view_judged elements owner) (check_sites elements owner t c)) (list_any is_refused_in_check (check_sites elements owner t c)) e in
    cond_reads_row (tables_of elements) (beside_table (table_of owner t.name)) refl (cond_of owner c)
    (both_of (IsSound (known_tables (tables_of elements))) (λ s. is_refused_in_check s ≡ false) (check_sites elements owner t c)
    (sound_sites (view_judged elements owner) (check_sites elements owner t c) parts.0)
    (none_passes is_refused_in_check (check_sites elements owner t c) parts.1))

-- Each condition of a table that is not refused reads the row alone.
pub checks_read_row : (elements : Elements) (owner : Name) (t : TableDefinition) (cs : List WrittenCond)
    → list_any (is_bad_check elements owner t) cs ≡ false → AllByRecursion (λ c. IsCondOfRow (cond_of owner c)) cs
checks_read_row elements owner t cs e =
    all_weaker (λ c. is_bad_check elements owner t c ≡ false) (λ c. IsCondOfRow (cond_of owner c)) (check_reads_row elements owner t) cs
    (none_passes (is_bad_check elements owner t) cs e)
