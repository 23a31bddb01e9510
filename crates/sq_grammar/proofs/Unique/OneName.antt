-- Two names, references or parameters with one list of tokens are one.
use Rattle.std.proofs.Common.{◌≡◌, [], Some, arith, refl}
use Rattle.sq_lex.specs.declared.lexeme.Lexeme.TheVariants as lexeme
use Rattle.sq_lex.specs.declared.name.Name.{Name}
use Rattle.sq_tree.specs.declared.names.TableName.{TableName}
use Rattle.sq_tree.specs.declared.names.ColumnReference.{ColumnReference}
use Rattle.sq_tree.specs.declared.names.Indicator.{Indicator}
use Rattle.sq_tree.specs.declared.names.Parameter.{Parameter}
use Rattle.sq_tree.specs.Names.{name_tokens, table_name_tokens, column_reference_tokens, indicator_tokens, parameter_tokens}
use Rattle.sq_grammar.specs.Reading.{name_of}
use Rattle.sq_grammar.proofs.Sound.Spells.{some_is}
use Rattle.sq_grammar.proofs.Unique.OneTree.{one_tree}
use Rattle.sq_grammar.proofs.Unique.OneToken.{one_token}
use Rattle.sq_grammar.proofs.Taken.NamesTakes.{table_takes, column_takes, indicator_takes, parameter_takes}

pub one_name : (a b : Name) → name_tokens a ≡ name_tokens b → a ≡ b
one_name = one_token name_of (λ n. lexeme.Name n) (λ n. refl)

pub one_table_name : (a b : TableName) → table_name_tokens a ≡ table_name_tokens b → a ≡ b
one_table_name a b same = one_tree (table_takes a {a = 0} {left = 0} {rest = []} refl) (table_takes b {a = 0} {rest = []} refl) (omega arith) (omega arith) same

pub one_column_reference : (a b : ColumnReference) → column_reference_tokens a ≡ column_reference_tokens b → a ≡ b
one_column_reference a b same = one_tree (column_takes a {a = 0} {left = 0} {rest = []} refl) (column_takes b {a = 0} {rest = []} refl) (omega arith) (omega arith) same

pub one_indicator : (a b : Indicator) → indicator_tokens a ≡ indicator_tokens b → a ≡ b
one_indicator a b same = some_is a b (one_tree (indicator_takes (Some a) {a = 0} {left = 0} {rest = []} refl refl) (indicator_takes (Some b) {a = 0} {rest = []} refl refl) (omega arith) (omega arith) same)

pub one_parameter : (a b : Parameter) → parameter_tokens a ≡ parameter_tokens b → a ≡ b
one_parameter a b same = one_tree (parameter_takes a {a = 0} {left = 0} {rest = []} refl refl) (parameter_takes b {a = 0} {rest = []} refl refl) (omega arith) (omega arith) same
