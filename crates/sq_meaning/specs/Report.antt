-- The report of a run: a line for each call, and the rows of each table that is shown (own form).
use Rattle.std.specs.Prelude.{ℕ, List, [], ◌∷◌, ◌++◌, length, if◌then◌else◌, ◌==◌, codes, decimal, flat_map, unwrap_or, option_map}
use Rattle.sq_value.specs.Spelling.{written}
use Rattle.sq_value.specs.declared.value.Value.{Value}
use Rattle.sq_value.specs.declared.value.Value.TheVariants as value
use Rattle.sq_store.specs.Content.{empty, table_at}
use Rattle.sq_store.specs.declared.table.Numbered.{Numbered}
use Rattle.sq_store.specs.declared.table.Table.{Table}
use Rattle.sq_meaning.specs.Environment.{TableName}
use Rattle.sq_meaning.specs.Status.{sqlcode, sqlstate}
use Rattle.sq_meaning.specs.declared.status.Status.{Status}
use Rattle.sq_meaning.specs.Machine.{Call, Program, State, replied}
use Rattle.sq_meaning.specs.Parameter.{Assignment, Reply}
use Rattle.sq_meaning.specs.Run.{RunItem, after_item}
use Rattle.sq_meaning.specs.Schema.{base_place}

abbrev pub Bytes : Type 0
Bytes = List ℕ

-- a quote inside a text is written twice
abbrev pub quoted_code : ℕ → Bytes
quoted_code c = if c == 39 then codes "''" else c ∷ []

abbrev pub quoted : List ℕ → Bytes
quoted text = codes "'" ++ flat_map quoted_code text ++ codes "'"

abbrev pub value_codes : Value → Bytes
value_codes value.Null = codes "NULL"
value_codes (value.Num n) = written n
value_codes (value.Chars text) = quoted text

-- ---- a call

-- SQLSTATE, a blank and SQLCODE
abbrev pub status_codes : Status → Bytes
status_codes s = sqlstate s ++ codes " " ++ written (record { unscaled = sqlcode s; scale = 0 })

abbrev pub output_codes : Assignment → Bytes
output_codes o = codes " " ++ o.name ++ codes "=" ++ value_codes o.value

abbrev pub call_line : Call → Reply → Bytes
call_line c reply =
    c.in_module ++ codes "." ++ c.procedure ++ codes " " ++ status_codes reply.status
    ++ flat_map output_codes reply.outputs ++ codes "\n"

-- ---- a table

abbrev pub blank_value : Value → Bytes
blank_value v = codes " " ++ value_codes v

-- two blanks before the first value, and one before each other
abbrev pub row_line : Numbered → Bytes
row_line r = codes " " ++ flat_map blank_value r.row ++ codes "\n"

abbrev pub table_lines : TableName → Table → Bytes
table_lines name t =
    codes "TABLE " ++ name.user ++ codes "." ++ name.name ++ codes " " ++ decimal (length t.rows)
    ++ codes "\n" ++ flat_map row_line t.rows

-- ---- a run, item by item

abbrev pub shown_table : Program → State → TableName → Table
shown_table p s name = unwrap_or (option_map (table_at s.tables) (base_place p.elements name)) empty

abbrev pub item_lines : Program → State → RunItem → Bytes
item_lines p s (RunItem.call c) = call_line c (replied p s c)
item_lines p s (RunItem.show name) = table_lines name (shown_table p s name)

abbrev pub report : Program → State → List RunItem → Bytes
report p s [] = []
report p s (i ∷ rest) = item_lines p s i ++ report p (after_item p s i) rest
