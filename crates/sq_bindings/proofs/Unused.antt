-- No name that is made is a reserved word or another name in use.
use Rattle.std.proofs.Common.{◌≡◌, ◌∙◌, ◌-◌, Bool, true, false, not, ◌&&◌, ◌||◌, refl, sym, ap, arith, true≢false, List, [], ◌∷◌, ◌++◌, length, drop}
use Rattle.std.proofs.Math.Seq.{drop-append_seam}
use Rattle.std.proofs.lemmas.List.{append-nil, length-append}
use Rattle.std.proofs.lemmas.Slice.Eq.{bytes_eq-Decides}
use Rattle.std.specs.List.{ends_with, list_all, list_any}
use Rattle.std.specs.Prelude.{map, nat_eq}
use Rattle.std.specs.Str.{bytes_eq}
use Rattle.sq_lex.specs.declared.name.Name.{Name}
use Rattle.sq_bindings.specs.Names.{c_ends, c_function, c_parameter, cobol_code, cobol_name, ends_with_any, escaped, is_among, is_used_in_c, is_used_in_cobol, lower}
use Rattle.sq_bindings.specs.Template.{Text}
use Rattle.sq_bindings.specs.declared.names.TheConstants.{C_ESCAPE, COBOL_ESCAPE}
use Rattle.sq_bindings.specs.declared.c_words.TheConstants.{FROM_ALIGNAS, FROM_ERRNO, FROM_NOEXCEPT, FROM_THIS}
use Rattle.sq_bindings.specs.declared.cobol_words.TheConstants as cobol

-- a text with an escape after it ends with the escape
ends_so : (text escape : Text) → ends_with nat_eq (text ++ escape) escape ≡ true
ends_so text escape =
    let long : length (text ++ escape) - length escape ≡ length text = rw length-append (omega arith) in
    let rest : drop (length (text ++ escape) - length escape) (text ++ escape) ≡ escape = ap (λ n. drop n (text ++ escape)) long ∙ drop-append_seam text escape in
    ap (bytes_eq escape) rest ∙ (bytes_eq-Decides escape escape).1 refl

-- no word ends so
abbrev none_ends : Text → List Text → Bool
none_ends escape words = list_all (λ word. not (ends_with nat_eq word escape)) words

-- if no word ends so, none is a text that does
none_is : (words : List Text) (text escape : Text) → none_ends escape words ≡ true → is_among words (text ++ escape) ≡ false
none_is [] text escape none = refl
none_is (w ∷ ws) text escape none =
    go (bytes_eq w (text ++ escape)) refl (ends_with nat_eq w escape) refl none (λ rest. none_is ws text escape rest)
  where
    go : (same : Bool) → bytes_eq w (text ++ escape) ≡ same → (ends : Bool) → ends_with nat_eq w escape ≡ ends
        → (not ends && none_ends escape ws) ≡ true → (none_ends escape ws ≡ true → is_among ws (text ++ escape) ≡ false)
        → (same || is_among ws (text ++ escape)) ≡ false
    go same e true f bad later = absurd (true≢false (sym bad))
    go true e false f rest later =
        let is : w ≡ text ++ escape = (bytes_eq-Decides w (text ++ escape)).0 e in
        absurd (true≢false (sym (ends_so text escape) ∙ ap (λ (t : Text). ends_with nat_eq t escape) (sym is) ∙ f))
    go false e false f rest later = later rest

-- a name that is escaped if it is one of the words is none of them
escaped_is_free : (words : List Text) (text escape : Text) (is_used : Bool) → none_ends escape words ≡ true
    → (is_used ≡ false → is_among words text ≡ false) → is_among words (escaped text is_used escape) ≡ false
escaped_is_free words text escape true none free = none_is words text escape none
escaped_is_free words text escape false none free = ap (is_among words) (append-nil text) ∙ free refl

left_false : (a b : Bool) → (a || b) ≡ false → a ≡ false
left_false true b e = absurd (true≢false e)
left_false false b e = refl

-- the words of C and C++, and the words of COBOL
abbrev pub c_words : List Text
c_words = map (λ word. word.now) (FROM_ALIGNAS ++ FROM_ERRNO ++ FROM_NOEXCEPT ++ FROM_THIS)

abbrev pub cobol_words : List Text
cobol_words = map (λ word. word.now)
    (cobol.FROM_ABSENT ++ cobol.FROM_BINARY_LONG ++ cobol.FROM_COMPUTATIONAL_6 ++ cobol.FROM_DOWN
    ++ cobol.FROM_EXCEPTION_OBJECT ++ cobol.FROM_HIGH_VALUE ++ cobol.FROM_LINE ++ cobol.FROM_OR
    ++ cobol.FROM_RELATIVE ++ cobol.FROM_SKIP2 ++ cobol.FROM_TOP)

no_word_ends_so : none_ends C_ESCAPE.now c_words ≡ true
no_word_ends_so = refl

no_cobol_word_ends_so : none_ends COBOL_ESCAPE.now cobol_words ≡ true
no_cobol_word_ends_so = refl

-- The name of a parameter in C is in no use there.
pub c_parameter-free : (name : Name) → is_among c_words (c_parameter c_words name) ≡ false
c_parameter-free name =
    let text : Text = lower name in
    escaped_is_free c_words text C_ESCAPE.now (is_used_in_c c_words text || ends_with_any c_ends text) no_word_ends_so
    (λ e. left_false _ _ (left_false _ _ e))

-- The function of a procedure is in no use in C.
pub c_function-free : (owner procedure : Name) → is_among c_words (c_function c_words owner procedure) ≡ false
c_function-free owner procedure =
    let text : Text = lower owner ++ 95 ∷ lower procedure in
    escaped_is_free c_words text C_ESCAPE.now (is_used_in_c c_words text) no_word_ends_so (λ e. left_false _ _ e)

-- A name in COBOL is no reserved word.
pub cobol_name-free : (name : Name) → is_among cobol_words (cobol_name cobol_words name) ≡ false
cobol_name-free name =
    let text : Text = map cobol_code name in
    escaped_is_free cobol_words text COBOL_ESCAPE.now (is_used_in_cobol cobol_words text) no_cobol_word_ends_so
    (λ e. left_false _ _ (left_false _ _ e))
