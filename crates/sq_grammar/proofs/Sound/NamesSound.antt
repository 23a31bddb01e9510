-- Names, parameters, signed numbers and lists of columns are spelled by what was read.
use Rattle.std.proofs.Common.{ℕ, ◌≤◌, true, false, [], ◌∷◌, Some, None, refl, arith}
use Rattle.sq_lex.specs.declared.lexeme.Lexeme.TheVariants as lexeme
use Rattle.sq_lex.specs.declared.symbol.Symbol.TheVariants as symbol
use Rattle.sq_lex.specs.declared.word.Word.TheVariants as word
use Rattle.sq_lex.specs.declared.name.Name.{Name}
use Rattle.sq_tree.specs.Tree.{optional}
use Rattle.sq_tree.specs.Names.{name_tokens, table_name_tokens, column_reference_tokens, parameter_tokens, indicator_tokens, columns_tokens}
use Rattle.sq_tree.specs.Expr.{sign_tokens, signed_number_tokens}
use Rattle.sq_tree.proofs.DataTypeDepth.{bracket_depth}
use Rattle.sq_tree.specs.declared.expr.Sign.TheVariants.{Plus, Minus}
use Rattle.sq_grammar.specs.Reading.{name, number, comma_separated}
use Rattle.sq_grammar.specs.Names.{dot, name_behind_dot, qualified_table, table_name, column_of, column_from, column_reference, indicator, parameter_from, parameter, sign_if_any, signed_number, columns_from, columns, columns_if_any}
use Rattle.sq_grammar.proofs.Sound.Spells.{Sound, After, sound, built, andthen, eaten, expected, maybe, following, names, numbers, lists}

dot_names : (left : ℕ) → Sound name_behind_dot (optional (λ n. dot ∷ name_tokens n)) (λ _. 0) left
dot_names left = sound (eaten dot _
    (andthen name _ (names left) (λ n. built (Some n) _ _ refl (λ h. h)))
    (built None _ _ refl (λ h. h)))

pub table_names : (left : ℕ) → Sound table_name table_name_tokens (λ _. 0) left
unfolding table_name
table_names left = sound (andthen name _ (names left) (λ first. maybe name_behind_dot _ (dot_names left)
    (built (qualified_table first None) _ _ refl (λ h. h))
    (λ second. built (qualified_table first (Some second)) _ _ refl (λ h. h))))

pub columns_behind : (first : Name) (left : ℕ) → After (name_tokens first) 0 left (column_from first) column_reference_tokens (λ _. 0)
unfolding column_from
columns_behind first left = maybe name_behind_dot _ (dot_names left)
    (built (record { qualifier = None; column = first }) _ _ refl (λ h. omega arith))
    (λ second. maybe name_behind_dot _ (dot_names left)
    (built (column_of first second None) _ _ refl (λ h. omega arith))
    (λ third. built (column_of first second (Some third)) _ _ refl (λ h. omega arith)))

pub column_references : (left : ℕ) → Sound column_reference column_reference_tokens (λ _. 0) left
unfolding column_reference
column_references left = sound (andthen name _ (names left) (λ first. columns_behind first left))

indicators : (left : ℕ) → Sound indicator (optional indicator_tokens) (λ _. 0) left
unfolding indicator
indicators left = sound (eaten (lexeme.Word word.Indicator) _
    (expected (lexeme.Symbol symbol.Colon) _ (andthen name _ (names left) (λ n. built (Some (record { word = true; name = n })) _ _ refl (λ h. omega arith))))
    (eaten (lexeme.Symbol symbol.Colon) _
    (andthen name _ (names left) (λ n. built (Some (record { word = false; name = n })) _ _ refl (λ h. omega arith)))
    (built None _ _ refl (λ h. omega arith))))

pub parameters_behind : (left : ℕ) → After (lexeme.Symbol symbol.Colon ∷ []) 0 left parameter_from parameter_tokens (λ _. 0)
unfolding parameter_from
parameters_behind left = andthen name _ (names left) (λ n. andthen indicator _ (indicators left) (λ i. built (record { name = n; indicator = i }) _ _ refl (λ h. omega arith)))

pub parameters : (left : ℕ) → Sound parameter parameter_tokens (λ _. 0) left
unfolding parameter
parameters left = sound (expected (lexeme.Symbol symbol.Colon) _ (parameters_behind left))

pub signs : (left : ℕ) → Sound sign_if_any (optional sign_tokens) (λ _. 0) left
signs left = sound (eaten (lexeme.Symbol symbol.Plus) _
    (built (Some Plus) _ _ refl (λ h. omega arith))
    (eaten (lexeme.Symbol symbol.Minus) _
    (built (Some Minus) _ _ refl (λ h. omega arith))
    (built None _ _ refl (λ h. omega arith))))

pub signed_numbers : (left : ℕ) → Sound signed_number signed_number_tokens (λ _. 0) left
unfolding signed_number
signed_numbers left = sound (andthen sign_if_any _ (signs left) (λ sign. andthen number _ (numbers left) (λ n. built (record { sign = sign; number = n }) _ _ refl (λ h. omega arith))))

columns_done : (left : ℕ) → 1 ≤ left → After (lexeme.Symbol symbol.Open ∷ []) 0 left columns_from columns_tokens (λ _. 1)
unfolding columns_from
columns_done left room = andthen (comma_separated name) _ (lists name left (names left)) (λ list. expected (lexeme.Symbol symbol.Close) _ (built list _ _ refl (λ h. room)))

pub column_lists : (left : ℕ) → 1 ≤ left → Sound columns columns_tokens (λ _. 1) left
unfolding columns
column_lists left room = sound (expected (lexeme.Symbol symbol.Open) _ (columns_done left room))

pub a_column_list : (left : ℕ) → 1 ≤ left → Sound columns_if_any (optional columns_tokens) bracket_depth left
unfolding columns_if_any
a_column_list left room = sound (eaten (lexeme.Symbol symbol.Open) _
    (following columns_from _ (columns_done left room) (λ list. built (Some list) _ _ refl (λ h. h)))
    (built None _ _ refl (λ h. omega arith)))
