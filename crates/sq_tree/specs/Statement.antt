-- The statements of a procedure (ISO/IEC 9075:1992, 13.2 to 13.10, 14.3 and 14.4): their tokens.
use Rattle.std.specs.Prelude.{Bool, [], ◌∷◌, ◌++◌}
use Rattle.sq_lex.specs.declared.lexeme.Lexeme.TheVariants as lexeme
use Rattle.sq_lex.specs.declared.symbol.Symbol.TheVariants as symbol
use Rattle.sq_lex.specs.declared.word.Word.TheVariants as word
use Rattle.sq_tree.specs.Tree.{Tokens, if_written, optional, bracketed}
use Rattle.sq_tree.specs.List.{comma_tokens}
use Rattle.sq_tree.specs.Names.{table_name_tokens, parameter_tokens, columns_tokens}
use Rattle.sq_tree.specs.Expr.{expr_tokens, quantifier_tokens, signed_number_tokens}
use Rattle.sq_tree.specs.Cond.{cond_tokens, select_list_tokens, table_expression_tokens, query_specification_tokens}
use Rattle.sq_tree.specs.declared.statement.Statement.{Statement}
use Rattle.sq_tree.specs.declared.statement.Statement.TheVariants as statement
use Rattle.sq_tree.specs.declared.statement.Fetch.{Fetch}
use Rattle.sq_tree.specs.declared.statement.FetchFrom.{FetchFrom}
use Rattle.sq_tree.specs.declared.statement.Orientation.{Orientation}
use Rattle.sq_tree.specs.declared.statement.Orientation.TheVariants.{Next, Prior, First, Last, Absolute, Relative}
use Rattle.sq_tree.specs.declared.statement.Position.{Position}
use Rattle.sq_tree.specs.declared.statement.Position.TheVariants as position
use Rattle.sq_tree.specs.declared.statement.Select.{Select}
use Rattle.sq_tree.specs.declared.statement.Insert.{Insert}
use Rattle.sq_tree.specs.declared.statement.InsertSource.{InsertSource}
use Rattle.sq_tree.specs.declared.statement.InsertSource.TheVariants as source
use Rattle.sq_tree.specs.declared.statement.NewValue.{NewValue}
use Rattle.sq_tree.specs.declared.statement.NewValue.TheVariants as value
use Rattle.sq_tree.specs.declared.statement.Update.{Update}
use Rattle.sq_tree.specs.declared.statement.Assignment.{Assignment}
use Rattle.sq_tree.specs.declared.statement.Delete.{Delete}
use Rattle.sq_tree.specs.declared.statement.Where.{Where}
use Rattle.sq_tree.specs.declared.statement.Where.TheVariants.{Condition, CurrentOf}

-- [ "+" | "-" ] number | ":" name
abbrev pub position_tokens : Position → Tokens
position_tokens (position.Number n) = signed_number_tokens n
position_tokens (position.Parameter name) = lexeme.Symbol symbol.Colon ∷ lexeme.Name name ∷ []

-- orientation = NEXT | PRIOR | FIRST | LAST | ( ABSOLUTE | RELATIVE ) ( [ "+" | "-" ] number | ":" name )
abbrev pub orientation_tokens : Orientation → Tokens
orientation_tokens Next = lexeme.Word word.Next ∷ []
orientation_tokens Prior = lexeme.Word word.Prior ∷ []
orientation_tokens First = lexeme.Word word.First ∷ []
orientation_tokens Last = lexeme.Word word.Last ∷ []
orientation_tokens (Absolute place) = lexeme.Word word.Absolute ∷ position_tokens place
orientation_tokens (Relative place) = lexeme.Word word.Relative ∷ position_tokens place

-- [ orientation ] FROM
abbrev pub fetch_from_tokens : FetchFrom → Tokens
fetch_from_tokens f = optional orientation_tokens f.orientation ++ lexeme.Word word.From ∷ []

-- FETCH [ [ orientation ] FROM ] name INTO parameter { "," parameter }
abbrev pub fetch_tokens : Fetch → Tokens
fetch_tokens f = lexeme.Word word.Fetch ∷ optional fetch_from_tokens f.from
    ++ lexeme.Name f.cursor ∷ lexeme.Word word.Into ∷ comma_tokens parameter_tokens f.targets

-- SELECT [ ALL | DISTINCT ] list INTO parameter { "," parameter } table-exp
abbrev pub select_tokens : Select → Tokens
select_tokens s = lexeme.Word word.Select ∷ optional quantifier_tokens s.quantifier
    ++ select_list_tokens s.list ++ lexeme.Word word.Into ∷ comma_tokens parameter_tokens s.targets
    ++ table_expression_tokens s.table

-- value = expr | NULL
abbrev pub new_value_tokens : NewValue → Tokens
new_value_tokens (value.Expr e) = expr_tokens e
new_value_tokens value.Null = lexeme.Word word.Null ∷ []

-- VALUES "(" value { "," value } ")" | specification
abbrev pub insert_source_tokens : InsertSource → Tokens
insert_source_tokens (source.Values values) =
    lexeme.Word word.Values ∷ bracketed (comma_tokens new_value_tokens values)
insert_source_tokens (source.Query spec) = query_specification_tokens spec

-- INSERT INTO table-name [ columns ] ( .. )
abbrev pub insert_tokens : Insert → Tokens
insert_tokens i = lexeme.Word word.Insert ∷ lexeme.Word word.Into ∷ table_name_tokens i.table
    ++ optional columns_tokens i.columns ++ insert_source_tokens i.source

-- where = WHERE condition | WHERE CURRENT OF name
abbrev pub target_tokens : Where → Tokens
target_tokens (Condition cond) = lexeme.Word word.Where ∷ cond_tokens cond
target_tokens (CurrentOf cursor) =
    lexeme.Word word.Where ∷ lexeme.Word word.Current ∷ lexeme.Word word.Of ∷ lexeme.Name cursor ∷ []

-- assignment = name "=" value
abbrev pub assignment_tokens : Assignment → Tokens
assignment_tokens a = lexeme.Name a.column ∷ lexeme.Symbol symbol.Equal ∷ new_value_tokens a.value

-- UPDATE table-name SET assignment { "," assignment } [ where ]
abbrev pub update_tokens : Update → Tokens
update_tokens u = lexeme.Word word.Update ∷ table_name_tokens u.table
    ++ lexeme.Word word.Set ∷ comma_tokens assignment_tokens u.assignments ++ optional target_tokens u.target

-- DELETE FROM table-name [ where ]
abbrev pub delete_tokens : Delete → Tokens
delete_tokens d = lexeme.Word word.Delete ∷ lexeme.Word word.From ∷ table_name_tokens d.table
    ++ optional target_tokens d.target

-- [ WORK ]
abbrev pub work_tokens : Bool → Tokens
work_tokens written = if_written written (lexeme.Word word.Work ∷ [])

abbrev pub statement_tokens : Statement → Tokens
statement_tokens (statement.Open cursor) = lexeme.Word word.Open ∷ lexeme.Name cursor ∷ []
statement_tokens (statement.Fetch fetch) = fetch_tokens fetch
statement_tokens (statement.Close cursor) = lexeme.Word word.Close ∷ lexeme.Name cursor ∷ []
statement_tokens (statement.Select select) = select_tokens select
statement_tokens (statement.Insert insert) = insert_tokens insert
statement_tokens (statement.Update update) = update_tokens update
statement_tokens (statement.Delete delete) = delete_tokens delete
statement_tokens (statement.Commit work) = lexeme.Word word.Commit ∷ work_tokens work
statement_tokens (statement.Rollback work) = lexeme.Word word.Rollback ∷ work_tokens work
