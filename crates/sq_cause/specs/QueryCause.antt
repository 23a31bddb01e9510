-- Where a query of SELECT INTO, of INSERT or of a cursor that is not updatable ends with a status (ISO/IEC 9075:1992, 7.4, 7.6, 7.9, 13.2,
-- 13.5 and 13.8).
use Rattle.std.specs.Prelude.{◌≡◌, ℕ, List, [], ◌∷◌, map, slice_get, Option, Some, None}
use Rattle.std.specs.Borrow.{Bor}
use Rattle.sq_lex.specs.declared.name.Name.{Name}
use Rattle.sq_value.specs.declared.value.Value.{Value}
use Rattle.sq_store.specs.Content.{Content}
use Rattle.sq_bound.specs.Joined.{specifications_of}
use Rattle.sq_bound.specs.declared.condition.BoundSpecification.{BoundSpecification, out-BoundSpecification}
use Rattle.sq_bound.specs.declared.condition.TablePlace.{TablePlace}
use Rattle.sq_bound.specs.declared.query.CursorBody.{CursorBody}
use Rattle.sq_bound.specs.declared.query.CursorBody.TheVariants as body
use Rattle.sq_bound.specs.declared.statement.InsertedRows.{InsertedRows}
use Rattle.sq_bound.specs.declared.statement.InsertedRows.TheVariants as source
use Rattle.sq_ending.specs.Inside.{IsInnerEnd}
use Rattle.sq_ending.specs.declared.inside.InnerEnd.{InnerEnd}
use Rattle.sq_change.specs.Made.{Shown}
use Rattle.sq_query.specs.Table.{AreMeant}
use Rattle.sq_session.specs.Kind.{Kind}
use Rattle.sq_session.specs.Schemas.{Schemas}
use Rattle.sq_cause.specs.Broken.{user_of}
use Rattle.sq_cause.specs.declared.cause.QueryCause.{QueryCause}

-- ---- the query specifications of a statement's query, in the order of the text: of UNION there are several

abbrev pub queries_of_body : Option CursorBody → List BoundSpecification
queries_of_body None = []
queries_of_body (Some (body.Rows q order)) = specifications_of q
queries_of_body (Some (body.Updatable u)) = []

abbrev pub queries_of_source : InsertedRows → List BoundSpecification
queries_of_source (source.Values es) = []
queries_of_source (source.Query q) = q ∷ []

abbrev pub queries_of : Kind → List BoundSpecification
queries_of (Kind.opens o) = queries_of_body o.body
queries_of (Kind.selects s) = s.query ∷ []
queries_of (Kind.inserts caller i) = queries_of_source i.source
queries_of _ = []

-- the only one of these, or the one with this number, from 0 on
abbrev pub IsAmong : List BoundSpecification → Option ℕ → BoundSpecification → Type 0
IsAmong queries None q = queries ≡ q ∷ []
IsAmong queries (Some number) q = slice_get queries number ≡ Some q

-- ---- one of them

-- Over the tables that the stored rows and the views' queries make for the user, the query specification ends there.
abbrev pub EndsAt : Schemas → Name → List Value → Content → BoundSpecification → InnerEnd → Type 0
EndsAt s user values tables q e =
    (shown : Shown) → AreMeant s.views tables user shown
    → IsInnerEnd s.views (record { tables = shown; values = values; user = user }) q e.views.items e.end

-- These are the items of FROM of the last of the views' queries, from outside in, or of the query specification itself.
abbrev pub AreItems : List BoundSpecification → BoundSpecification → List ℕ → List TablePlace
    → Type 0
AreItems queries q [] tables = tables ≡ (out-BoundSpecification q).from.tables
AreItems queries q (place ∷ places) tables =
    (inner : BoundSpecification) × (slice_get queries place ≡ Some inner)
    × AreItems queries inner places tables

-- the query specification ends there, in a query with these items of FROM
pub record IsEndOf (s : Schemas) (user : Name) (values : List Value) (tables : Content)
    (q : BoundSpecification) (c : QueryCause) : Type 0 where
  pub ends : EndsAt s user values tables q c.end
  pub items : AreItems s.views q c.end.views.items c.tables.items

-- ---- of a statement

-- one of these query specifications does
pub record IsEndAmong (s : Schemas) (user : Name) (values : List Value) (tables : Content)
    (queries : List BoundSpecification) (c : QueryCause) : Type 0 where
  pub query : BoundSpecification
  pub among : IsAmong queries c.term query
  pub is_end : IsEndOf s user values tables query c

abbrev pub IsQueryCause : Schemas → Kind → List Value → Content → QueryCause → Type 0
IsQueryCause s k values tables c = IsEndAmong s (user_of k) values tables (queries_of k) c

-- ---- while it is looked for

-- the query specification has this number and ends there
abbrev pub HasEnd : Schemas → Name → List Value → Content → Option ℕ → BoundSpecification → QueryCause
    → Type 0
HasEnd s user values tables term q c = (c.term ≡ term) × IsEndOf s user values tables q c

-- the query specifications that are lent
abbrev pub lent_queries : List (Bor BoundSpecification) → List BoundSpecification
lent_queries queries = map (λ q. q.now) queries
