-- The names of modules, procedures and parameters in C and in COBOL.
use Rattle.std.specs.Prelude.{ℕ, Bool, ◌||◌, List, [], ◌∷◌, ◌++◌, map, ◌==◌, nat_eq, if◌then◌else◌}
use Rattle.std.specs.List.{list_any, starts_with, ends_with}
use Rattle.std.specs.Char.{to_ascii_lowercase}
use Rattle.std.specs.Borrow.{Bor}
use Rattle.std.specs.Str.{bytes_eq}
use Rattle.sq_lex.specs.declared.name.Name.{Name}
use Rattle.sq_bindings.specs.Template.{Text}
use Rattle.sq_bindings.specs.declared.names.TheConstants.{C_ENDS, COBOL_ENDS, C_START, COBOL_START, C_ESCAPE, COBOL_ESCAPE}

abbrev pub listed : List (Bor Text) → List Text
listed words = map (λ word. word.now) words

abbrev pub is_among : List Text → Text → Bool
is_among words text = list_any (λ word. bytes_eq word text) words

abbrev pub ends_with_any : List Text → Text → Bool
ends_with_any words text = list_any (λ word. ends_with nat_eq text word) words

abbrev pub c_ends : List Text
c_ends = map (λ word. word.now) C_ENDS

abbrev pub cobol_ends : List Text
cobol_ends = map (λ word. word.now) COBOL_ENDS

-- one of the words, or one that may be of sqmod.h
abbrev pub is_used_in_c : List Text → Text → Bool
is_used_in_c words text = is_among words text || starts_with nat_eq text C_START.now

-- one of the words, or one that may be of the copybook
abbrev pub is_used_in_cobol : List Text → Text → Bool
is_used_in_cobol words text =
    is_among words text || starts_with nat_eq text COBOL_START.now || ends_with_any cobol_ends text

abbrev pub escaped : Text → Bool → Text → Text
escaped name is_used escape = name ++ (if is_used then escape else [])

abbrev pub lower : Text → Text
lower codes = map to_ascii_lowercase codes

-- A parameter in C is its name in lower case. One that is in use, or ends as a part of one does, has `_`
-- after it.
abbrev pub c_parameter : List Text → Name → Text
c_parameter words name =
    let text = lower name in
    escaped text (is_used_in_c words text || ends_with_any c_ends text) C_ESCAPE.now

-- A procedure in C is a function: the module's name, `_` and its own, in lower case, with `_` after one that
-- is in use.
abbrev pub c_function : List Text → Name → Name → Text
c_function words owner procedure =
    let text = lower owner ++ 95 ∷ lower procedure in
    escaped text (is_used_in_c words text) C_ESCAPE.now

abbrev pub cobol_code : ℕ → ℕ
cobol_code code = if code == 95 then 45 else code

-- A name in COBOL has `-` in the place of `_`, with `-SQL` after one that is in use.
abbrev pub cobol_name : List Text → Name → Text
cobol_name words name =
    let text = map cobol_code name in
    escaped text (is_used_in_cobol words text) COBOL_ESCAPE.now
