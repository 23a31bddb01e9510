-- The tokens of names, parameters, signed numbers and lists of columns are read as them.
use Rattle.std.proofs.Common.{◌≡◌, ℕ, suc, Bool, true, false, [], ◌∷◌, ◌++◌, Option, Some, None, refl}
use Rattle.sq_lex.specs.declared.lexeme.Lexeme.TheVariants as lexeme
use Rattle.sq_lex.specs.declared.symbol.Symbol.TheVariants as symbol
use Rattle.sq_lex.specs.declared.word.Word.TheVariants as word
use Rattle.sq_lex.specs.declared.name.Name.{Name}
use Rattle.sq_tree.specs.Tree.{optional, if_written}
use Rattle.sq_tree.specs.List.{comma_tokens}
use Rattle.sq_tree.specs.Names.{name_tokens, table_name_tokens, column_reference_tokens, parameter_tokens, indicator_tokens, columns_tokens}
use Rattle.sq_tree.specs.Expr.{sign_tokens, signed_number_tokens}
use Rattle.sq_tree.specs.declared.list.CommaList.{CommaList}
use Rattle.sq_tree.specs.declared.names.TableName.{TableName}
use Rattle.sq_tree.specs.declared.names.ColumnReference.{ColumnReference}
use Rattle.sq_tree.specs.declared.names.Parameter.{Parameter}
use Rattle.sq_tree.specs.declared.names.Indicator.{Indicator}
use Rattle.sq_tree.specs.declared.expr.Sign.{Sign}
use Rattle.sq_tree.specs.declared.expr.Sign.TheVariants.{Plus, Minus}
use Rattle.sq_tree.specs.declared.expr.SignedNumber.{SignedNumber}
use Rattle.sq_grammar.specs.Reading.{Tokens, sees, name, comma_separated}
use Rattle.sq_grammar.specs.Names.{dot, name_behind_dot, table_name, column_from, column_reference, indicator, parameter_from, parameter, sign_if_any, signed_number, columns_from, columns, columns_if_any}
use Rattle.sq_grammar.proofs.Taken.Takes.{Takes, Token, done, plainly, mapped, word, mark, opening, closing, expected, eaten, uneaten, behind_it, one, a_name, named, numbered, flat_commas}

pub a_dot : {a : ℕ} → Token dot a a
a_dot = mark symbol.Dot (λ n. refl)

pub a_colon : {a : ℕ} → Token (lexeme.Symbol symbol.Colon) a a
a_colon = mark symbol.Colon (λ n. refl)

-- [ "." name ]
second_name : (second : Option Name) {a left : ℕ} {rest : Tokens} → sees dot rest ≡ false → Takes name_behind_dot (optional (λ n. dot ∷ name_tokens n) second) a a 0 left second rest
second_name None none = uneaten dot _ none done
second_name (Some n) none = behind_it a_dot name (a_name n)

pub table_takes : (t : TableName) {a left : ℕ} {rest : Tokens} → sees dot rest ≡ false → Takes table_name (table_name_tokens t) a a 0 left t rest
unfolding table_name
table_takes t {a = a} {left = left} {rest = rest} none = by t.schema t.table
  where
    by : (schema : Option Name) (table : Name) → Takes table_name (optional (λ s. lexeme.Name s ∷ dot ∷ []) schema ++ name_tokens table) a a 0 left (record { schema = schema; table = table }) rest
    by None table = named table _ (mapped name_behind_dot _ None (second_name None none) refl)
    by (Some s) table = named s _ (mapped name_behind_dot _ (Some table) (second_name (Some table) none) refl)

-- ---- column references: of one, two or three names

abbrev pub column_1 : Name → ColumnReference
column_1 column = record { qualifier = None; column = column }

abbrev pub column_2 : Name → Name → ColumnReference
column_2 table column = record { qualifier = Some (record { schema = None; table = table }); column = column }

abbrev pub column_3 : Name → Name → Name → ColumnReference
column_3 schema table column = record { qualifier = Some (record { schema = Some schema; table = table }); column = column }

pub column_cases : (P : ColumnReference → Type 0) → ((c : Name) → P (column_1 c)) → ((t c : Name) → P (column_2 t c)) → ((s t c : Name) → P (column_3 s t c)) → (c : ColumnReference) → P c
column_cases P one two three c = by c.qualifier c.column
  where
    by_schema : (schema : Option Name) (table column : Name) → P (record { qualifier = Some (record { schema = schema; table = table }); column = column })
    by_schema None table column = two table column
    by_schema (Some s) table column = three s table column

    by : (qualifier : Option TableName) (column : Name) → P (record { qualifier = qualifier; column = column })
    by None column = one column
    by (Some q) column = by_schema q.schema q.table column

module _ {a left : ℕ} {rest : Tokens} (none : sees dot rest ≡ false) where
  pub column_from_1 : (c : Name) → Takes (column_from c) [] a a 0 left (column_1 c) rest
  unfolding column_from
  column_from_1 c = mapped name_behind_dot _ None (second_name None none) refl

  pub column_from_2 : (t c : Name) → Takes (column_from t) (dot ∷ lexeme.Name c ∷ []) a a 0 left (column_2 t c) rest
  unfolding column_from
  column_from_2 t c = plainly name_behind_dot _ (Some c) {tx = dot ∷ lexeme.Name c ∷ []} {more = []} (second_name (Some c) none) (mapped name_behind_dot _ None (second_name None none) refl)

  pub column_from_3 : (s t c : Name) → Takes (column_from s) (dot ∷ lexeme.Name t ∷ dot ∷ lexeme.Name c ∷ []) a a 0 left (column_3 s t c) rest
  unfolding column_from
  column_from_3 s t c = plainly name_behind_dot _ (Some t) {tx = dot ∷ lexeme.Name t ∷ []} {more = dot ∷ lexeme.Name c ∷ []} (behind_it a_dot name (a_name t)) (mapped name_behind_dot _ (Some c) (second_name (Some c) none) refl)

pub column_takes : (c : ColumnReference) {a left : ℕ} {rest : Tokens} → sees dot rest ≡ false → Takes column_reference (column_reference_tokens c) a a 0 left c rest
unfolding column_reference
column_takes c {a = a} {left = left} {rest = rest} none = column_cases (λ d. Takes column_reference (column_reference_tokens d) a a 0 left d rest)
    (λ n. named n _ (column_from_1 none n))
    (λ t n. named t _ (column_from_2 none t n))
    (λ s t n. named s _ (column_from_3 none s t n)) c

-- ---- parameters

-- [ [ INDICATOR ] ":" name ]
pub indicator_takes : (i : Option Indicator) {a left : ℕ} {rest : Tokens} → sees (lexeme.Word word.Indicator) rest ≡ false → sees (lexeme.Symbol symbol.Colon) rest ≡ false → Takes indicator (optional indicator_tokens i) a a 0 left i rest
unfolding indicator
indicator_takes None no_word no_colon = uneaten (lexeme.Word word.Indicator) _ no_word (uneaten (lexeme.Symbol symbol.Colon) _ no_colon done)
indicator_takes (Some i) {a = a} {left = left} {rest = rest} no_word no_colon = by i.word i.name
  where
    by : (written : Bool) (n : Name) → Takes indicator (if_written written (lexeme.Word word.Indicator ∷ []) ++ lexeme.Symbol symbol.Colon ∷ lexeme.Name n ∷ []) a a 0 left (Some (record { word = written; name = n })) rest
    by true n = eaten (word word.Indicator) _ (expected a_colon _ (named n _ done))
    by false n = uneaten (lexeme.Word word.Indicator) _ refl (eaten a_colon _ (named n _ done))

module _ (p : Parameter) {a left : ℕ} {rest : Tokens} (no_word : sees (lexeme.Word word.Indicator) rest ≡ false) (no_colon : sees (lexeme.Symbol symbol.Colon) rest ≡ false) where
  pub parameter_from_takes : Takes parameter_from (lexeme.Name p.name ∷ optional indicator_tokens p.indicator) a a 0 left p rest
  unfolding parameter_from
  parameter_from_takes = named p.name _ (mapped indicator _ p.indicator (indicator_takes p.indicator no_word no_colon) refl)

  pub parameter_takes : Takes parameter (parameter_tokens p) a a 0 left p rest
  unfolding parameter
  parameter_takes = expected a_colon _ parameter_from_takes

-- ---- signed numbers

-- [ "+" | "-" ]
pub sign_takes : (sign : Option Sign) {a left : ℕ} {rest : Tokens} → sees (lexeme.Symbol symbol.Plus) rest ≡ false → sees (lexeme.Symbol symbol.Minus) rest ≡ false → Takes sign_if_any (optional sign_tokens sign) a a 0 left sign rest
sign_takes None no_plus no_minus = uneaten (lexeme.Symbol symbol.Plus) _ no_plus (uneaten (lexeme.Symbol symbol.Minus) _ no_minus done)
sign_takes (Some Plus) no_plus no_minus = eaten (mark symbol.Plus (λ n. refl)) _ done
sign_takes (Some Minus) no_plus no_minus = uneaten (lexeme.Symbol symbol.Plus) _ refl (eaten (mark symbol.Minus (λ n. refl)) _ done)

pub signed_takes : (n : SignedNumber) {a left : ℕ} {rest : Tokens} → Takes signed_number (signed_number_tokens n) a a 0 left n rest
unfolding signed_number
signed_takes n = plainly sign_if_any _ n.sign (sign_takes n.sign refl refl) (numbered n.number _ done)

-- ---- lists of columns

columns_from_takes : (c : CommaList Name) {a left : ℕ} {rest : Tokens} → Takes columns_from (comma_tokens name_tokens c ++ lexeme.Symbol symbol.Close ∷ []) (suc a) a 0 left c rest
unfolding columns_from
columns_from_takes c {a = a} {left = left} = plainly (comma_separated name) _ c (flat_commas name name_tokens (suc a) left (λ _. Unit {0}) (λ x r f. a_name x) (λ r. tt) c _ tt refl) (expected closing _ done)

pub columns_takes : (c : CommaList Name) {a left : ℕ} {rest : Tokens} → Takes columns (columns_tokens c) a a 0 left c rest
unfolding columns
columns_takes c = expected opening _ (columns_from_takes c)

-- [ columns ]
pub columns_if_any_takes : (o : Option (CommaList Name)) {a left : ℕ} {rest : Tokens} → sees (lexeme.Symbol symbol.Open) rest ≡ false → Takes columns_if_any (optional columns_tokens o) a a 0 left o rest
unfolding columns_if_any
columns_if_any_takes None none = uneaten (lexeme.Symbol symbol.Open) _ none done
columns_if_any_takes (Some c) none = behind_it opening columns_from (columns_from_takes c)
