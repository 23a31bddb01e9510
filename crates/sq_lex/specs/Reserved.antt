-- The reserved words of ISO/IEC 9075:1992, 5.2, that the language has, and their spellings.
use Rattle.std.specs.Prelude.{ℕ, nat_eq, slice_index, List, [], ◌∷◌, Option, Some, None, codes, if◌then◌else◌}
use Rattle.std.specs.Cmp.Lexicographic.{pointwise}
use Rattle.sq_lex.specs.declared.word.Word.{Word}
use Rattle.sq_lex.specs.declared.word.Word.TheVariants as word

-- the reserved words with their spellings in upper case
abbrev pub reserved_words : List (List ℕ × Word)
reserved_words =
    (codes "ABSOLUTE", word.Absolute) ∷ (codes "ALL", word.All) ∷ (codes "AND", word.And) ∷ (codes "ANY", word.Any) ∷ (codes "AS", word.As) ∷ (codes "ASC", word.Asc) ∷ (codes "AUTHORIZATION", word.Authorization) ∷ (codes "AVG", word.Avg) ∷
    (codes "BETWEEN", word.Between) ∷ (codes "BY", word.By) ∷
    (codes "CHAR", word.Char) ∷ (codes "CHARACTER", word.Character) ∷ (codes "CHECK", word.Check) ∷ (codes "CLOSE", word.Close) ∷ (codes "COMMIT", word.Commit) ∷ (codes "COUNT", word.Count) ∷ (codes "CREATE", word.Create) ∷ (codes "CURRENT", word.Current) ∷ (codes "CURSOR", word.Cursor) ∷
    (codes "DEC", word.Dec) ∷ (codes "DECIMAL", word.Decimal) ∷ (codes "DECLARE", word.Declare) ∷ (codes "DEFAULT", word.Default) ∷ (codes "DELETE", word.Delete) ∷ (codes "DESC", word.Desc) ∷ (codes "DISTINCT", word.Distinct) ∷
    (codes "ESCAPE", word.Escape) ∷ (codes "EXISTS", word.Exists) ∷
    (codes "FETCH", word.Fetch) ∷ (codes "FIRST", word.First) ∷ (codes "FOR", word.For) ∷ (codes "FOREIGN", word.Foreign) ∷ (codes "FROM", word.From) ∷
    (codes "GRANT", word.Grant) ∷ (codes "GROUP", word.Group) ∷
    (codes "HAVING", word.Having) ∷
    (codes "IN", word.In) ∷ (codes "INDICATOR", word.Indicator) ∷ (codes "INSENSITIVE", word.Insensitive) ∷ (codes "INSERT", word.Insert) ∷ (codes "INT", word.Int) ∷ (codes "INTEGER", word.Integer) ∷ (codes "INTO", word.Into) ∷ (codes "IS", word.Is) ∷
    (codes "KEY", word.Key) ∷
    (codes "LANGUAGE", word.Language) ∷ (codes "LAST", word.Last) ∷ (codes "LIKE", word.Like) ∷
    (codes "MAX", word.Max) ∷ (codes "MIN", word.Min) ∷ (codes "MODULE", word.Module) ∷
    (codes "NEXT", word.Next) ∷ (codes "NOT", word.Not) ∷ (codes "NULL", word.Null) ∷ (codes "NUMERIC", word.Numeric) ∷
    (codes "OF", word.Of) ∷ (codes "ON", word.On) ∷ (codes "OPEN", word.Open) ∷ (codes "OPTION", word.Option) ∷ (codes "OR", word.Or) ∷ (codes "ORDER", word.Order) ∷
    (codes "PRIMARY", word.Primary) ∷ (codes "PRIOR", word.Prior) ∷ (codes "PRIVILEGES", word.Privileges) ∷ (codes "PROCEDURE", word.Procedure) ∷ (codes "PUBLIC", word.Public) ∷
    (codes "REFERENCES", word.References) ∷ (codes "RELATIVE", word.Relative) ∷ (codes "ROLLBACK", word.Rollback) ∷
    (codes "SCHEMA", word.Schema) ∷ (codes "SCROLL", word.Scroll) ∷ (codes "SELECT", word.Select) ∷ (codes "SET", word.Set) ∷ (codes "SMALLINT", word.Smallint) ∷ (codes "SOME", word.Some) ∷ (codes "SQLCODE", word.Sqlcode) ∷ (codes "SQLSTATE", word.Sqlstate) ∷ (codes "SUM", word.Sum) ∷
    (codes "TABLE", word.Table) ∷ (codes "TO", word.To) ∷
    (codes "UNION", word.Union) ∷ (codes "UNIQUE", word.Unique) ∷ (codes "UPDATE", word.Update) ∷ (codes "USER", word.User) ∷
    (codes "VALUES", word.Values) ∷ (codes "VARCHAR", word.Varchar) ∷ (codes "VARYING", word.Varying) ∷ (codes "VIEW", word.View) ∷
    (codes "WHERE", word.Where) ∷ (codes "WITH", word.With) ∷ (codes "WORK", word.Work) ∷ []

-- the word that has a spelling in a table
abbrev pub lookup : List (List ℕ × Word) → List ℕ → Option Word
lookup [] spelling = None
lookup (entry ∷ entries) spelling = if pointwise nat_eq entry.0 spelling then Some entry.1 else lookup entries spelling

-- the reserved word with this spelling, if there is one
unfoldable pub reserved : List ℕ → Option Word
reserved spelling = lookup reserved_words spelling

-- the place among them of the first word of each letter from A to Z, and then their end
abbrev pub starts : List ℕ
starts = 0 ∷ 8 ∷ 10 ∷ 19 ∷ 26 ∷ 28 ∷ 33 ∷ 35 ∷ 36 ∷ 44 ∷ 44 ∷ 45 ∷ 48 ∷ 51 ∷ 55 ∷ 61 ∷ 66 ∷ 66 ∷ 69 ∷ 78 ∷ 80 ∷ 84 ∷ 88 ∷ 91 ∷ 91 ∷ 91 ∷ 91 ∷ []

unfoldable pub start : ℕ → ℕ
start place = slice_index starts place
