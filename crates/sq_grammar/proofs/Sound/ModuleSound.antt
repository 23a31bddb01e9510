-- Module texts are spelled by what was read.
use Rattle.std.proofs.Common.{◌≡◌, ℕ, ◌-◌, ◌≤◌, true, false, [], ◌∷◌, ◌++◌, Some, None, refl, sym, ◌∙◌, ap, arith, append_assoc}
use Rattle.sq_lex.specs.declared.lexeme.Lexeme.TheVariants as lexeme
use Rattle.sq_lex.specs.declared.symbol.Symbol.TheVariants as symbol
use Rattle.sq_lex.specs.declared.word.Word.TheVariants as word
use Rattle.sq_tree.specs.declared.module.ModuleItem.TheVariants as items
use Rattle.sq_tree.specs.declared.module.SortKey.TheVariants.{Column, Position}
use Rattle.sq_tree.specs.declared.module.SortDirection.TheVariants.{Asc, Desc}
use Rattle.sq_tree.specs.declared.module.Declarations.TheVariants.{Bracketed, Bare}
use Rattle.sq_tree.specs.declared.module.Declaration.TheVariants.{Parameter, Sqlcode, Sqlstate}
use Rattle.sq_tree.specs.Tree.{Tokens, if_written, optional}
use Rattle.sq_tree.proofs.TreeDepth.{optional_depth}
use Rattle.sq_tree.specs.List.{comma_tokens}
use Rattle.sq_tree.proofs.ListDepth.{comma_depth}
use Rattle.sq_tree.specs.Query.{query_tokens}
use Rattle.sq_tree.proofs.QueryDepth.{query_depth}
use Rattle.sq_tree.specs.Module as tree
use Rattle.sq_tree.proofs.ModuleDepth as depths
use Rattle.sq_tree.proofs.ModuleNests.{module_depth-parts}
use Rattle.sq_grammar.specs.Reading.{eat, one_if_any, number_of, name, comma_separated, all}
use Rattle.sq_grammar.specs.DataType.{data_type}
use Rattle.sq_grammar.specs.Query.{query}
use Rattle.sq_grammar.specs.Statement.{statement}
use Rattle.sq_grammar.specs.Module.{declaration_if_any, declaration, bare_declaration, declarations, procedure, sort_key, direction_if_any, sort_specification, by_sorts, order_by, ordered_query, cursor, item, module_text}
use Rattle.sq_grammar.proofs.Sound.Spells.{as_deep, Sound, After, sound, built, never, andthen, eats, eaten, expected, maybe, following, finally, names, a_number, lists, rows, behinds, lifted}
use Rattle.sq_grammar.proofs.Sound.DataTypeSound.{data_type_sound}
use Rattle.sq_grammar.proofs.Sound.QuerySound.{query_sound}
use Rattle.sq_grammar.proofs.Sound.StatementSound.{statement_sound}

declaration_if_any_sound : (left : ℕ) → 1 ≤ left → Sound declaration_if_any (optional tree.declaration_tokens) (optional_depth depths.declaration_depth) left
unfolding declaration_if_any
declaration_if_any_sound left room = sound (eaten (lexeme.Symbol symbol.Colon) _
    (andthen name _ (names left) (λ n. andthen data_type _ (data_type_sound left room) (λ t. built (Some (Parameter n t)) _ _ refl (λ h. omega arith))))
    (eaten (lexeme.Word word.Sqlcode) _
    (built (Some Sqlcode) _ _ refl (λ h. omega arith))
    (eaten (lexeme.Word word.Sqlstate) _
    (built (Some Sqlstate) _ _ refl (λ h. omega arith))
    (built None _ _ refl (λ h. omega arith)))))

declaration_sound : (left : ℕ) → 1 ≤ left → Sound declaration tree.declaration_tokens depths.declaration_depth left
unfolding declaration
declaration_sound left room = sound (maybe declaration_if_any _ (declaration_if_any_sound left room) (never _ _) (λ d. built d _ _ refl (λ h. omega arith)))

bare_declaration_sound : (left : ℕ) → 1 ≤ left → Sound bare_declaration (optional tree.bare_declaration_tokens) (optional_depth depths.bare_declaration_depth) left
unfolding bare_declaration
bare_declaration_sound left room = sound (eaten (lexeme.Symbol symbol.Comma) _
    (andthen declaration _ (declaration_sound left room) (λ d. built (Some (record { comma = true; declaration = d })) _ _ refl (λ h. omega arith)))
    (maybe declaration_if_any _ (declaration_if_any_sound left room)
    (built None _ _ refl (λ h. omega arith))
    (λ d. built (Some (record { comma = false; declaration = d })) _ _ refl (λ h. omega arith))))

declarations_sound : (left : ℕ) → 2 ≤ left → Sound declarations tree.declarations_tokens depths.declarations_depth left
unfolding declarations
declarations_sound left room = sound (eaten (lexeme.Symbol symbol.Open) _
    (andthen (comma_separated declaration) _ (lifted left (omega arith) (lists declaration (left - 1) (declaration_sound (left - 1) (omega arith)))) (λ ds. expected (lexeme.Symbol symbol.Close) _ (built (Bracketed ds) _ _ refl (λ h. omega arith))))
    (andthen declaration _ (declaration_sound left (omega arith)) (λ d. andthen (all bare_declaration) _ (rows bare_declaration tree.bare_declaration_tokens depths.bare_declaration_depth left (bare_declaration_sound left (omega arith))) (λ ds. built (Bare d ds) _ _ refl (λ h. omega arith)))))

procedure_sound : (left : ℕ) → 2 ≤ left → After (lexeme.Word word.Procedure ∷ []) 0 left (procedure left) tree.procedure_tokens depths.procedure_depth
unfolding procedure
procedure_sound left room = andthen name _ (names left) (λ n. andthen declarations _ (declarations_sound left room) (λ ds. expected (lexeme.Symbol symbol.Semicolon) _ (andthen (statement left) _ (statement_sound left (omega arith)) (λ x. expected (lexeme.Symbol symbol.Semicolon) _
    (built (record { name = n; declarations = ds; statement = x }) _ _ (simp append_assoc) (λ h. omega arith))))))

sort_key_sound : (left : ℕ) → Sound sort_key (λ k. tree.sort_key_token k ∷ []) (λ _. 0) left
unfolding sort_key
sort_key_sound left = sound (maybe (one_if_any number_of) _ (a_number left)
    (andthen name _ (names left) (λ n. built (Column n) _ _ refl (λ h. omega arith)))
    (λ n. built (Position n) _ _ refl (λ h. omega arith)))

directions : (left : ℕ) → Sound direction_if_any (optional tree.direction_tokens) (λ _. 0) left
directions left = sound (eaten (lexeme.Word word.Asc) _
    (built (Some Asc) _ _ refl (λ h. omega arith))
    (eaten (lexeme.Word word.Desc) _
    (built (Some Desc) _ _ refl (λ h. omega arith))
    (built None _ _ refl (λ h. omega arith))))

sort_sound : (left : ℕ) → Sound sort_specification tree.sort_specification_tokens (λ _. 0) left
unfolding sort_specification
sort_sound left = sound (andthen sort_key _ (sort_key_sound left) (λ k. andthen direction_if_any _ (directions left) (λ d. built (record { key = k; direction = d }) _ _ refl (λ h. omega arith))))

by_sorts_sound : (left : ℕ) → Sound by_sorts (λ l. lexeme.Word word.By ∷ comma_tokens tree.sort_specification_tokens l) (comma_depth (λ _. 0)) left
unfolding by_sorts
by_sorts_sound left = sound (expected (lexeme.Word word.By) _ (finally (comma_separated sort_specification) (lists sort_specification left (sort_sound left)) (λ x. refl) (λ x h i. i)))

order_by_sound : (left : ℕ) → Sound order_by (optional tree.order_by_tokens) (optional_depth (comma_depth (λ _. 0))) left
unfolding order_by
order_by_sound left = behinds (lexeme.Word word.Order) by_sorts left (by_sorts_sound left)

ordered_sound : (left : ℕ) → Sound (ordered_query left) (λ p. query_tokens p.0 ++ optional tree.order_by_tokens p.1) (λ p. query_depth p.0) left
unfolding ordered_query
ordered_sound left = sound (andthen (query left) _ (query_sound left) (λ q. andthen order_by _ (order_by_sound left) (λ o. built (q, o) _ _ refl (λ h. omega arith))))

cursor_text : (head q o e : Tokens) → (head ++ lexeme.Word word.Cursor ∷ lexeme.Word word.For ∷ q) ++ o ++ e ≡ (((head ++ lexeme.Word word.Cursor ∷ []) ++ lexeme.Word word.For ∷ []) ++ (q ++ o)) ++ e
cursor_text head q o e =
    let front : Tokens = (head ++ lexeme.Word word.Cursor ∷ []) ++ lexeme.Word word.For ∷ [] in
    ap (λ u. u ++ o ++ e) (sym (append_assoc head (lexeme.Word word.Cursor ∷ []) (lexeme.Word word.For ∷ q)) ∙ sym (append_assoc (head ++ lexeme.Word word.Cursor ∷ []) (lexeme.Word word.For ∷ []) q)) ∙ ap (λ u. u ++ e) (append_assoc front q o)

cursor_sound : (left : ℕ) → After (lexeme.Word word.Declare ∷ []) 0 left (cursor left) tree.cursor_tokens depths.cursor_depth
unfolding cursor
cursor_sound left = andthen name _ (names left) (λ n. andthen (eat (lexeme.Word word.Insensitive)) _ (eats (lexeme.Word word.Insensitive) left) (λ i. andthen (eat (lexeme.Word word.Scroll)) _ (eats (lexeme.Word word.Scroll) left) (λ s.
    expected (lexeme.Word word.Cursor) _ (expected (lexeme.Word word.For) _ (andthen (ordered_query left) _ (ordered_sound left) (λ q. andthen (eat (lexeme.Symbol symbol.Semicolon)) _ (eats (lexeme.Symbol symbol.Semicolon) left) (λ e.
    built (record { name = n; insensitive = i; scroll = s; query = q.0; order_by = q.1; semicolon = e }) _ _ (cursor_text (lexeme.Word word.Declare ∷ lexeme.Name n ∷ if_written i (lexeme.Word word.Insensitive ∷ []) ++ if_written s (lexeme.Word word.Scroll ∷ [])) (query_tokens q.0) (optional tree.order_by_tokens q.1) (if_written e (lexeme.Symbol symbol.Semicolon ∷ []))) (λ h. omega arith))))))))

item_sound : (left : ℕ) → 2 ≤ left → Sound (item left) (optional tree.module_item_tokens) (optional_depth depths.module_item_depth) left
unfolding item
item_sound left room = sound (eaten (lexeme.Word word.Declare) _
    (following (cursor left) _ (cursor_sound left) (λ c. built (Some (items.Cursor c)) _ _ refl (λ h. h)))
    (eaten (lexeme.Word word.Procedure) _
    (following (procedure left) _ (procedure_sound left room) (λ p. built (Some (items.Procedure p)) _ _ refl (λ h. h)))
    (built None _ _ refl (λ h. omega arith))))

by_parts : (left : ℕ) → 2 ≤ left → Sound (module_text left) tree.module_tokens depths.module_text_depth left
unfolding module_text
by_parts left room = sound (expected (lexeme.Word word.Module) _ (andthen name _ (names left) (λ n. expected (lexeme.Word word.Language) _ (andthen name _ (names left) (λ l. expected (lexeme.Word word.Authorization) _ (andthen name _ (names left) (λ a.
    andthen (all (item left)) _ (rows (item left) tree.module_item_tokens depths.module_item_depth left (item_sound left room)) (λ is. built (record { name = n; language = l; authorization = a; items = is }) _ _ refl (λ h. omega arith)))))))))

pub module_sound : (left : ℕ) → 2 ≤ left → Sound (module_text left) tree.module_tokens tree.module_depth left
module_sound left room = as_deep module_depth-parts (by_parts left room)
