-- No statement and no cursor spells a literal that is null (ISO/IEC 9075:1992, 5.3).
use Rattle.std.proofs.Common.{List, [], ◌∷◌, Option, Some, None}
use Rattle.std.specs.List.{AllByRecursion}
use Rattle.sq_tree.specs.declared.«module».Cursor.{Cursor}
use Rattle.sq_tree.specs.declared.statement.Assignment.{Assignment}
use Rattle.sq_tree.specs.declared.statement.InsertSource.{InsertSource}
use Rattle.sq_tree.specs.declared.statement.InsertSource.TheVariants as source
use Rattle.sq_tree.specs.declared.statement.NewValue.{NewValue}
use Rattle.sq_tree.specs.declared.statement.NewValue.TheVariants as new_value
use Rattle.sq_tree.specs.declared.statement.Statement.{Statement}
use Rattle.sq_tree.specs.declared.statement.Statement.TheVariants as statement
use Rattle.sq_tree.specs.declared.statement.Where.{Where}
use Rattle.sq_tree.specs.declared.statement.Where.TheVariants as rows_where
use Rattle.sq_meaning.specs.Spelled.{Named, cond_of, expr_of, is_distinct_word, list_of, listed, query_of, select_of}
use Rattle.sq_meaning.specs.Syntax.{Query, specification, union}
use Rattle.sq_meaning.specs.WellFormedStatement.{select_of_statement}
use Rattle.sq_run.proofs.Sites.CondLiterals.{cond_spells, list_spells, select_spells, table_spells}
use Rattle.sq_run.proofs.Sites.ExprLiterals.{expr_spells}
use Rattle.sq_run.proofs.Sites.QueryLiterals.{query_spells}
use Rattle.sq_run.proofs.Sites.QuerySites as laws
use Rattle.sq_binding.specs.Changeable.{UserNames}
use Rattle.sq_binding.proofs.Exactly.RowsTold.{WhereSpellsNoNull}
use Rattle.sq_binding.proofs.Exactly.SourceTold.{SourceSpellsNoNull}
use Rattle.sq_binding.proofs.Exactly.StatementAccepted.{StatementSpellsNoNull}
use Rattle.sq_binding.proofs.FaultsFound.UnionFaults.{QuerySpellsNoNull}
use Rattle.sq_binding.proofs.Exactly.UpdateAccepted.{SetSpellsNoNull}
use Rattle.sq_binding.proofs.Exactly.ValuesTold.{ValueSpellsNoNull}
use Rattle.sq_run.proofs.Schemas.SchemasRefused.{cond_too, expr_too, select_too}

query_too : (q : Query Named) → laws.QuerySpellsNoNull q → QuerySpellsNoNull q
query_too (specification q) h = select_too q h
query_too (union all left right) h = (query_too left h.0, query_too right h.1)

module _ (names : UserNames) where
  pub cursor_plain : (c : Cursor) → QuerySpellsNoNull (query_of names.user c.query)
  cursor_plain c = query_too (query_of names.user c.query) (query_spells names.user c.query)

  value_plain : (v : NewValue) → ValueSpellsNoNull v
  value_plain (new_value.Expr e) = expr_too (expr_of e) (expr_spells e)
  value_plain new_value.Null = tt

  values_plain : (vs : List NewValue) → AllByRecursion ValueSpellsNoNull vs
  values_plain [] = tt
  values_plain (v ∷ vs) = (value_plain v, values_plain vs)

  source_plain : (s : InsertSource) → SourceSpellsNoNull names s
  source_plain (source.Values values) = values_plain (listed values)
  source_plain (source.Query q) = select_too (select_of names.user q) (select_spells names.user q)

  sets_plain : (ss : List Assignment) → AllByRecursion SetSpellsNoNull ss
  sets_plain [] = tt
  sets_plain (s ∷ ss) = (value_plain s.value, sets_plain ss)

  where_plain : (w : Option Where) → WhereSpellsNoNull names w
  where_plain None = tt
  where_plain (Some (rows_where.Condition c)) = cond_too (cond_of names.user c) (cond_spells names.user c)
  where_plain (Some (rows_where.CurrentOf name)) = tt

  pub statement_plain : (s : Statement) → StatementSpellsNoNull names s
  statement_plain (statement.Open name) = tt
  statement_plain (statement.Fetch f) = tt
  statement_plain (statement.Close name) = tt
  statement_plain (statement.Select s) =
      select_too (select_of_statement names.user s) (table_spells names.user s.table (is_distinct_word s.quantifier) (list_of s.list) (list_spells s.list))
  statement_plain (statement.Insert i) = source_plain i.source
  statement_plain (statement.Update u) = (sets_plain (listed u.assignments), where_plain u.target)
  statement_plain (statement.Delete d) = where_plain d.target
  statement_plain (statement.Commit work) = tt
  statement_plain (statement.Rollback work) = tt
