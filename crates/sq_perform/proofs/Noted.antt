-- What is said of texts, one after the other.
use Rattle.std.proofs.Common.{◌≡◌, ◌∙◌, ℕ, zero, suc, ◌+◌, ◌<◌, ◌≤◌, List, [], ◌∷◌, ◌++◌, length, map, take, get_or, None, Result, Ok, Err, IfOk, ap, sym, subst, arith, Vec}
use Rattle.std.proofs.lemmas.List.{length-map, take_all, take_more}
use Rattle.std.proofs.lemmas.Slice.Zip.{AllZip-long}
use Rattle.std.specs.List.{AllByRecursion}
use Rattle.std.specs.declared.alloc.Global.{Global}
use Rattle.sq_lex.specs.Reading.{reading}
use Rattle.sq_lex.specs.declared.lexeme.Lexeme.{Lexeme}
use Rattle.sq_lex.specs.declared.token.Token.{Token}
use Rattle.sq_tree.specs.Schema.{schema_tokens, schema_depth}
use Rattle.sq_tree.specs.Module.{module_tokens, module_depth}
use Rattle.sq_tree.specs.declared.module.ModuleText.{ModuleText}
use Rattle.sq_tree.specs.declared.schema.SchemaText.{SchemaText}
use Rattle.sq_meaning.specs.ModuleRefusal.{first_module_refusal}
use Rattle.sq_meaning.specs.Report.{Bytes}
use Rattle.sq_catalog.specs.Catalog.{Catalog, declared_tables, known}
use Rattle.sq_catalog.specs.Declares.{Declares}
use Rattle.sq_check.specs.Modules.{AreChecked}
use Rattle.sq_check.specs.Schemas.{text_marks}
use Rattle.sq_check.specs.declared.mark.Mark.{Mark}
use Rattle.sq_perform.specs.Checked.{AreAllNotes, AreCheckedTexts, AreNotes, IsRead, ModulesAreChecked, SchemasAreChecked, note_at}
use Rattle.sq_perform.specs.Texts.{AllSpell, texts}
use Rattle.sq_perform.specs.declared.checked.Checked.{Checked}
use Rattle.sq_perform.specs.declared.checked.Note.{Note}
use Rattle.sq_perform.proofs.Spelled.{length_texts, read_of, spelled_count, text_of}

-- ---- all together

pub are_checked : (schemas modules : List Bytes) (catalog : Catalog) (checked : Checked) → SchemasAreChecked schemas catalog checked.schemas.items → ModulesAreChecked catalog modules checked.modules.items
    → AreCheckedTexts schemas modules checked
are_checked schemas modules catalog checked s m = record { catalog = catalog; schemas_are = s; modules_are = m }

pub schemas_are : (schemas : List Bytes) (trees : List SchemaText) (catalog : Catalog) (notes : List (List Note)) → AllSpell schema_tokens schema_depth schemas trees → catalog.tables ≡ declared_tables trees
    → Declares trees (known catalog) catalog.bases catalog.views → AreAllNotes schemas (map (text_marks (known catalog)) trees) notes → SchemasAreChecked schemas catalog notes
schemas_are schemas trees catalog notes spelled tables declares are = record { trees = trees; spelled = spelled; tables = tables; declares = declares; are = are }

pub modules_are : {E : Type 0} (catalog : Catalog) (modules : List Bytes) (trees : List ModuleText) (marks : List (List Mark)) (answer : Result (Vec (List Note) Global) E) → AllSpell module_tokens module_depth modules trees
    → first_module_refusal trees ≡ None → AreChecked catalog trees marks → IfOk answer (λ notes. AreAllNotes modules marks notes.items)
    → IfOk answer (λ notes. ModulesAreChecked catalog modules notes.items)
modules_are catalog modules trees marks (Ok notes) spelled admitted checked are =
    record { trees = trees; spelled = spelled; admitted = admitted; marks = marks; checked = checked; are = are }
modules_are catalog modules trees marks (Err e) spelled admitted checked are = tt

pub are_notes : {E : Type 0} (text : Bytes) (tokens : List Token) (marks : List Mark) (answer : Result (List Note) E) → reading text ≡ Ok tokens → IfOk answer (λ notes. notes ≡ map (note_at text tokens) marks)
    → IfOk answer (AreNotes text marks)
are_notes text tokens marks (Ok notes) read are = record { tokens = tokens; read = read; are = are }
are_notes text tokens marks (Err e) read are = tt

-- ---- texts that spell trees

pub all_read : {T : Type 0} (tokens_of : T → List Lexeme) (depth_of : T → ℕ) (all : List Bytes) (trees : List T) → AllSpell tokens_of depth_of all trees → AllByRecursion IsRead all
all_read tokens_of depth_of [] trees spelled = tt
all_read tokens_of depth_of (text ∷ all) [] spelled = absurd spelled
all_read tokens_of depth_of (text ∷ all) (t ∷ trees) spelled = (read_of text (tokens_of t) spelled.0.spelled, all_read tokens_of depth_of all trees spelled.1)

pub as_many_schemas : (all : List (Vec ℕ Global)) (trees : List SchemaText) (f : SchemaText → List Mark) → AllSpell schema_tokens schema_depth (texts all) trees → length (map f trees) ≡ length all
as_many_schemas all trees f spelled = length-map trees f ∙ sym (spelled_count schema_tokens schema_depth all trees spelled)

pub as_many_modules : (catalog : Catalog) (all : List (Vec ℕ Global)) (trees : List ModuleText) (marks : List (List Mark)) → AllSpell module_tokens module_depth (texts all) trees → AreChecked catalog trees marks
    → length marks ≡ length all
as_many_modules catalog all trees marks spelled checked = AllZip-long _ trees marks checked.are ∙ sym (spelled_count module_tokens module_depth all trees spelled)

-- ---- one text more

pub text_read : (all : List (Vec ℕ Global)) (i : ℕ) (text : Vec ℕ Global) → AllByRecursion IsRead (texts all) → i < length all → text ≡ get_or all i text → IsRead text.items
text_read [] i text all lt is = absurd (omega arith)
text_read (v ∷ vs) zero text all lt is = subst (λ (w : Vec ℕ Global). IsRead w.items) (sym is) all.0
text_read (v ∷ vs) (suc i) text all lt is = text_read vs i text all.1 (omega arith) is

push : (all : List Bytes) (marks : List (List Mark)) (notes : List (List Note)) (text : Bytes) (more : List Mark) (said : List Note) → AreAllNotes all marks notes → AreNotes text more said
    → AreAllNotes (all ++ text ∷ []) (marks ++ more ∷ []) (notes ++ said ∷ [])
push [] [] [] text more said are one = (one, tt)
push [] [] (n ∷ notes) text more said are one = absurd are
push [] (m ∷ marks) notes text more said are one = absurd are
push (t ∷ all) [] notes text more said are one = absurd are
push (t ∷ all) (m ∷ marks) [] text more said are one = absurd are
push (t ∷ all) (m ∷ marks) (n ∷ notes) text more said are one = (are.0, push all marks notes text more said are.1 one)

pub notes_next : (all : List (Vec ℕ Global)) (marks : List (List Mark)) (notes : List (List Note)) (i : ℕ) (text : Vec ℕ Global) (more : List Mark) (said : List Note) → i < length all → length marks ≡ length all
    → text ≡ get_or all i text → more ≡ get_or marks i more → AreAllNotes (take i (texts all)) (take i marks) notes → AreNotes text.items more said
    → AreAllNotes (take (i + 1) (texts all)) (take (i + 1) marks) (notes ++ said ∷ [])
notes_next all marks notes i text more said lt count is at are one =
    let longer : take (i + 1) (texts all) ≡ take i (texts all) ++ text.items ∷ []
    = take_more (texts all) i text.items (rw (length_texts all) lt) ∙ ap (λ t. take i (texts all) ++ t ∷ []) (text_of all i text lt is) in
    let wider : take (i + 1) marks ≡ take i marks ++ more ∷ [] = take_more marks i more (omega (arith, lt, count)) ∙ ap (λ m. take i marks ++ m ∷ []) (sym at) in
    subst (λ ts. AreAllNotes ts (take (i + 1) marks) (notes ++ said ∷ [])) (sym longer)
    (subst (λ ms. AreAllNotes (take i (texts all) ++ text.items ∷ []) ms (notes ++ said ∷ [])) (sym wider) (push (take i (texts all)) (take i marks) notes text.items more said are one))

pub notes_all : (all : List (Vec ℕ Global)) (marks : List (List Mark)) (notes : List (List Note)) (i : ℕ) → length all ≤ i → length marks ≡ length all → AreAllNotes (take i (texts all)) (take i marks) notes
    → AreAllNotes (texts all) marks notes
notes_all all marks notes i le count are =
    let same = length_texts all in
    subst (λ ts. AreAllNotes ts marks notes) (take_all i (texts all) (omega (arith, same, le))) (subst (λ ms. AreAllNotes (take i (texts all)) ms notes) (take_all i marks (omega (arith, count, le))) are)
