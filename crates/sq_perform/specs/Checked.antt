-- What is to be said of schema and module texts: of each of their parts, at its first token.
use Rattle.std.specs.Prelude.{◌≡◌, ◌==◌, ℕ, ◌+◌, ◌-◌, ⊤, Bool, true, false, ◌||◌, if◌then◌else◌, List, [], ◌∷◌, map, slice_get, Option, None, Some, Ok, IsOk}
use Rattle.std.specs.List.{list_any}
use Rattle.std.specs.Option.{option_map_or}
use Rattle.sq_lex.specs.Position.{position}
use Rattle.sq_lex.specs.Reading.{reading}
use Rattle.sq_lex.specs.declared.position.Position.{Position}
use Rattle.sq_lex.specs.declared.token.Token.{Token}
use Rattle.sq_tree.specs.Schema.{schema_tokens, schema_depth}
use Rattle.sq_tree.specs.Module.{module_tokens, module_depth}
use Rattle.sq_tree.specs.declared.module.ModuleText.{ModuleText}
use Rattle.sq_tree.specs.declared.schema.SchemaText.{SchemaText}
use Rattle.sq_meaning.specs.ModuleRefusal.{first_module_refusal}
use Rattle.sq_meaning.specs.Report.{Bytes}
use Rattle.sq_catalog.specs.Catalog.{Catalog, declared_tables, known}
use Rattle.sq_catalog.specs.Declares.{Declares}
use Rattle.sq_check.specs.Modules.{AreChecked}
use Rattle.sq_check.specs.Schemas.{text_marks}
use Rattle.sq_check.specs.declared.mark.Mark.{Mark}
use Rattle.sq_check.specs.declared.remark.Remark.{Remark}
use Rattle.sq_check.specs.declared.remark.Remark.TheVariants.{Fault}
use Rattle.sq_perform.specs.Texts.{AllSpell}
use Rattle.sq_perform.specs.declared.checked.Checked.{Checked}
use Rattle.sq_perform.specs.declared.checked.Note.{Note}

-- ---- the parts of a text

-- the first byte of the token of a number; that of the text where there is no such token
abbrev pub start_of : List Token → ℕ → ℕ
start_of tokens number = option_map_or (λ t. t.start) (slice_get tokens number) 0

abbrev pub note : Mark → Position → Note
note mark at =
    record {
      line = at.line;
      column = at.column;
      owner = mark.owner;
      name = mark.name;
      remark = mark.remark;
    }

-- what is said of a part, at the position of its first token
abbrev pub note_at : Bytes → List Token → Mark → Note
note_at text tokens mark = note mark (position text (start_of tokens mark.token))

pub record AreNotes (text : Bytes) (marks : List Mark) (notes : List Note) : Type 0 where
  pub tokens : List Token
  pub read : reading text ≡ Ok tokens
  pub are : notes ≡ map (note_at text tokens) marks

-- the notes of each text are of its marks
abbrev pub AreAllNotes : List Bytes → List (List Mark) → List (List Note) → Type 0
AreAllNotes [] [] [] = ⊤
AreAllNotes (text ∷ all) (marks ∷ others) (notes ∷ rest) =
    AreNotes text marks notes × AreAllNotes all others rest
AreAllNotes _ _ _ = ⊥

-- ---- schemas and modules

-- the catalog is of trees that the schemas spell, and this is said of their views, where names mean what it says
pub record SchemasAreChecked (schemas : List Bytes) (catalog : Catalog)
    (notes : List (List Note)) : Type 0 where
  pub trees : List SchemaText
  pub spelled : AllSpell schema_tokens schema_depth schemas trees
  pub tables : catalog.tables ≡ declared_tables trees
  pub declares : Declares trees (known catalog) catalog.bases catalog.views
  pub are : AreAllNotes schemas (map (text_marks (known catalog)) trees) notes

-- the definitions refuse none of the trees that the modules spell, and this is said of their cursors and procedures
pub record ModulesAreChecked (catalog : Catalog) (modules : List Bytes)
    (notes : List (List Note)) : Type 0 where
  pub trees : List ModuleText
  pub spelled : AllSpell module_tokens module_depth modules trees
  pub admitted : first_module_refusal trees ≡ None
  pub marks : List (List Mark)
  pub checked : AreChecked catalog trees marks
  pub are : AreAllNotes modules marks notes

pub record AreCheckedTexts (schemas modules : List Bytes) (checked : Checked) : Type 0 where
  pub catalog : Catalog
  pub schemas_are : SchemasAreChecked schemas catalog checked.schemas.items
  pub modules_are : ModulesAreChecked catalog modules checked.modules.items

-- ---- faults

abbrev pub is_fault : Option Remark → Bool
is_fault (Some (Fault fault)) = true
is_fault _ = false

abbrev pub is_faulty : Note → Bool
is_faulty n = is_fault n.remark

-- a procedure or a cursor has a fault
abbrev pub has_fault : Checked → Bool
has_fault checked =
    list_any (list_any is_faulty) checked.schemas.items
    || list_any (list_any is_faulty) checked.modules.items

-- ---- while a text is walked through

-- a text that has tokens
abbrev pub IsRead : Bytes → Type 0
IsRead text = IsOk (reading text)

-- the position that is as far behind another one as this one is behind the start of its text
abbrev pub further : Position → Position → Position
further from by =
    record {
      byte = from.byte + by.byte;
      line = from.line + (by.line - 1);
      column = if by.line == 1 then from.column + (by.column - 1) else by.column;
    }
