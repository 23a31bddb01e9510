-- Data types and statements close the brackets that they open, and are as deep as their parts say.
use Rattle.std.proofs.Common.{[], ◌∷◌, Option, Some, None, refl, arith}
use Rattle.sq_lex.specs.declared.lexeme.Lexeme.TheVariants as lexeme
use Rattle.sq_lex.specs.declared.word.Word.TheVariants as word
use Rattle.sq_lex.specs.declared.name.Name.{Name}
use Rattle.sq_lex.specs.declared.number.Number.{Number}
use Rattle.sq_tree.specs.Tree.{optional}
use Rattle.sq_tree.specs.Names.{name_tokens, parameter_tokens, columns_tokens}
use Rattle.sq_tree.specs.DataType.{exact_word_tokens, character_word_tokens, varying_word_tokens, scale_tokens, precision_tokens, length_tokens, data_type_tokens}
use Rattle.sq_tree.specs.Statement.{position_tokens, orientation_tokens, fetch_from_tokens, fetch_tokens, select_tokens, new_value_tokens, insert_source_tokens, insert_tokens, target_tokens, assignment_tokens, update_tokens, delete_tokens, statement_tokens}
use Rattle.sq_tree.proofs.DataTypeDepth.{bracket_depth, data_type_depth}
use Rattle.sq_tree.proofs.StatementDepth.{select_depth, new_value_depth, insert_source_depth, insert_depth, target_depth, assignment_depth, update_depth, delete_depth, statement_depth}
use Rattle.sq_tree.proofs.Nests.{Nests, nests-as, nests-plain, nests-append, nests-bracketed, nests-if_written, nests-none, nests-optional, nests-optional0, nests-comma, nests-comma0}
use Rattle.sq_tree.proofs.ExprNests.{expr_nests, quantifier_nests, signed_number_nests, table_name_nests, parameter_nests}
use Rattle.sq_tree.proofs.CondNests.{cond_nests, select_list_nests, table_expression_nests, query_specification_nests}
use Rattle.sq_tree.specs.declared.list.CommaList.{CommaList}
use Rattle.sq_tree.specs.declared.data_type.DataType.{DataType}
use Rattle.sq_tree.specs.declared.data_type.DataType.TheVariants.{Smallint, Integer, Int, Exact, Character, Varying}
use Rattle.sq_tree.specs.declared.data_type.ExactWord.{ExactWord}
use Rattle.sq_tree.specs.declared.data_type.ExactWord.TheVariants.{Numeric, Decimal, Dec}
use Rattle.sq_tree.specs.declared.data_type.CharacterWord.{CharacterWord}
use Rattle.sq_tree.specs.declared.data_type.CharacterWord.TheVariants as fixed
use Rattle.sq_tree.specs.declared.data_type.VaryingWord.{VaryingWord}
use Rattle.sq_tree.specs.declared.data_type.VaryingWord.TheVariants.{CharacterVarying, CharVarying, Varchar}
use Rattle.sq_tree.specs.declared.data_type.Precision.{Precision}
use Rattle.sq_tree.specs.declared.statement.Statement.{Statement}
use Rattle.sq_tree.specs.declared.statement.Statement.TheVariants as statement
use Rattle.sq_tree.specs.declared.statement.Fetch.{Fetch}
use Rattle.sq_tree.specs.declared.statement.FetchFrom.{FetchFrom}
use Rattle.sq_tree.specs.declared.statement.Orientation.{Orientation}
use Rattle.sq_tree.specs.declared.statement.Orientation.TheVariants.{Next, Prior, First, Last, Absolute, Relative}
use Rattle.sq_tree.specs.declared.statement.Position.{Position}
use Rattle.sq_tree.specs.declared.statement.Position.TheVariants as position
use Rattle.sq_tree.specs.declared.statement.Select.{Select}
use Rattle.sq_tree.specs.declared.statement.Insert.{Insert}
use Rattle.sq_tree.specs.declared.statement.InsertSource.{InsertSource}
use Rattle.sq_tree.specs.declared.statement.InsertSource.TheVariants as source
use Rattle.sq_tree.specs.declared.statement.NewValue.{NewValue}
use Rattle.sq_tree.specs.declared.statement.NewValue.TheVariants as value
use Rattle.sq_tree.specs.declared.statement.Update.{Update}
use Rattle.sq_tree.specs.declared.statement.Assignment.{Assignment}
use Rattle.sq_tree.specs.declared.statement.Delete.{Delete}
use Rattle.sq_tree.specs.declared.statement.Where.{Where}
use Rattle.sq_tree.specs.declared.statement.Where.TheVariants.{Condition, CurrentOf}

pub columns_nests : (columns : CommaList Name) → Nests (columns_tokens columns) 1
columns_nests columns = nests-bracketed (nests-comma0 name_tokens (λ name. (nests-plain _ (λ n. refl) nests-none)) columns)

pub some_columns_nests : (columns : Option (CommaList Name)) → Nests (optional columns_tokens columns) (bracket_depth columns)
some_columns_nests None = nests-none
some_columns_nests (Some columns) = columns_nests columns

exact_word_nests : (w : ExactWord) → Nests (exact_word_tokens w) 0
exact_word_nests Numeric = (nests-plain _ (λ n. refl) nests-none)
exact_word_nests Decimal = (nests-plain _ (λ n. refl) nests-none)
exact_word_nests Dec = (nests-plain _ (λ n. refl) nests-none)

character_word_nests : (w : CharacterWord) → Nests (character_word_tokens w) 0
character_word_nests fixed.Character = (nests-plain _ (λ n. refl) nests-none)
character_word_nests fixed.Char = (nests-plain _ (λ n. refl) nests-none)

varying_word_nests : (w : VaryingWord) → Nests (varying_word_tokens w) 0
varying_word_nests CharacterVarying = (nests-plain _ (λ n. refl) (nests-plain _ (λ n. refl) nests-none))
varying_word_nests CharVarying = (nests-plain _ (λ n. refl) (nests-plain _ (λ n. refl) nests-none))
varying_word_nests Varchar = (nests-plain _ (λ n. refl) nests-none)

precision_nests : (p : Option Precision) → Nests (optional precision_tokens p) (bracket_depth p)
precision_nests None = nests-none
precision_nests (Some p) = nests-bracketed (nests-plain _ (λ n. refl) (nests-optional0 scale_tokens (λ scale. (nests-plain _ (λ n. refl) (nests-plain _ (λ n. refl) nests-none))) p.scale))

length_nests : (length : Number) → Nests (length_tokens length) 1
length_nests length = nests-bracketed (nests-plain _ (λ n. refl) nests-none)

some_length_nests : (length : Option Number) → Nests (optional length_tokens length) (bracket_depth length)
some_length_nests None = nests-none
some_length_nests (Some length) = length_nests length

pub data_type_nests : (t : DataType) → Nests (data_type_tokens t) (data_type_depth t)
data_type_nests Smallint = (nests-plain _ (λ n. refl) nests-none)
data_type_nests Integer = (nests-plain _ (λ n. refl) nests-none)
data_type_nests Int = (nests-plain _ (λ n. refl) nests-none)
data_type_nests (Exact name precision) = nests-as (nests-append (exact_word_nests name) (precision_nests precision)) (omega arith)
data_type_nests (Character name length) = nests-as (nests-append (character_word_nests name) (some_length_nests length)) (omega arith)
data_type_nests (Varying name length) = nests-as (nests-append (varying_word_nests name) (length_nests length)) (omega arith)

position_nests : (p : Position) → Nests (position_tokens p) 0
position_nests (position.Number n) = signed_number_nests n
position_nests (position.Parameter name) = (nests-plain _ (λ n. refl) (nests-plain _ (λ n. refl) nests-none))

orientation_nests : (o : Orientation) → Nests (orientation_tokens o) 0
orientation_nests Next = (nests-plain _ (λ n. refl) nests-none)
orientation_nests Prior = (nests-plain _ (λ n. refl) nests-none)
orientation_nests First = (nests-plain _ (λ n. refl) nests-none)
orientation_nests Last = (nests-plain _ (λ n. refl) nests-none)
orientation_nests (Absolute place) = (nests-plain _ (λ n. refl) (position_nests place))
orientation_nests (Relative place) = (nests-plain _ (λ n. refl) (position_nests place))

fetch_from_nests : (f : FetchFrom) → Nests (fetch_from_tokens f) 0
fetch_from_nests f = nests-append (nests-optional0 orientation_tokens orientation_nests f.orientation) (nests-plain _ (λ n. refl) nests-none)

fetch_nests : (f : Fetch) → Nests (fetch_tokens f) 0
fetch_nests f = nests-as (nests-plain _ (λ n. refl) (nests-append (nests-optional0 fetch_from_tokens fetch_from_nests f.from) (nests-plain _ (λ n. refl) (nests-plain _ (λ n. refl) (nests-comma0 parameter_tokens parameter_nests f.targets))))) (omega arith)

select_nests : (s : Select) → Nests (select_tokens s) (select_depth s)
select_nests s = nests-as (nests-plain _ (λ n. refl) (nests-append (nests-append (nests-append (quantifier_nests s.quantifier) (select_list_nests s.list)) (nests-plain _ (λ n. refl) (nests-comma0 parameter_tokens parameter_nests s.targets))) (table_expression_nests s.table))) (omega arith)

new_value_nests : (v : NewValue) → Nests (new_value_tokens v) (new_value_depth v)
new_value_nests (value.Expr e) = expr_nests e
new_value_nests value.Null = (nests-plain _ (λ n. refl) nests-none)

insert_source_nests : (s : InsertSource) → Nests (insert_source_tokens s) (insert_source_depth s)
insert_source_nests (source.Values values) = (nests-plain _ (λ n. refl) (nests-bracketed (nests-comma new_value_tokens new_value_depth new_value_nests values)))
insert_source_nests (source.Query spec) = query_specification_nests spec

insert_nests : (i : Insert) → Nests (insert_tokens i) (insert_depth i)
insert_nests i = nests-as (nests-plain _ (λ n. refl) (nests-plain _ (λ n. refl) (nests-append (nests-append (table_name_nests i.table) (some_columns_nests i.columns)) (insert_source_nests i.source)))) (omega arith)

target_nests : (t : Where) → Nests (target_tokens t) (target_depth t)
target_nests (Condition cond) = (nests-plain _ (λ n. refl) (cond_nests cond))
target_nests (CurrentOf cursor) = (nests-plain _ (λ n. refl) (nests-plain _ (λ n. refl) (nests-plain _ (λ n. refl) (nests-plain _ (λ n. refl) nests-none))))

assignment_nests : (a : Assignment) → Nests (assignment_tokens a) (assignment_depth a)
assignment_nests a = (nests-plain _ (λ n. refl) (nests-plain _ (λ n. refl) (new_value_nests a.value)))

update_nests : (u : Update) → Nests (update_tokens u) (update_depth u)
update_nests u = nests-as (nests-plain _ (λ n. refl) (nests-append (nests-append (table_name_nests u.table) (nests-plain _ (λ n. refl) (nests-comma assignment_tokens assignment_depth assignment_nests u.assignments))) (nests-optional target_tokens target_depth target_nests u.target))) (omega arith)

delete_nests : (d : Delete) → Nests (delete_tokens d) (delete_depth d)
delete_nests d = nests-as (nests-plain _ (λ n. refl) (nests-plain _ (λ n. refl) (nests-append (table_name_nests d.table) (nests-optional target_tokens target_depth target_nests d.target)))) (omega arith)

pub statement_nests : (s : Statement) → Nests (statement_tokens s) (statement_depth s)
statement_nests (statement.Open cursor) = (nests-plain _ (λ n. refl) (nests-plain _ (λ n. refl) nests-none))
statement_nests (statement.Fetch fetch) = fetch_nests fetch
statement_nests (statement.Close cursor) = (nests-plain _ (λ n. refl) (nests-plain _ (λ n. refl) nests-none))
statement_nests (statement.Select select) = select_nests select
statement_nests (statement.Insert insert) = insert_nests insert
statement_nests (statement.Update update) = update_nests update
statement_nests (statement.Delete delete) = delete_nests delete
statement_nests (statement.Commit work) = (nests-plain _ (λ n. refl) (nests-if_written {ts = lexeme.Word word.Work ∷ []} work (nests-plain _ (λ n. refl) nests-none)))
statement_nests (statement.Rollback work) = (nests-plain _ (λ n. refl) (nests-if_written {ts = lexeme.Word word.Work ∷ []} work (nests-plain _ (λ n. refl) nests-none)))
