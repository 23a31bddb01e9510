-- The remarks on the views of schemas, each at its first token (ISO/IEC 9075:1992, 11.19).
use Rattle.std.specs.Prelude.{ℕ, suc, ◌+◌, List, [], ◌∷◌, ◌++◌, Some}
use Rattle.sq_lex.specs.declared.name.Name.{Name}
use Rattle.sq_tree.specs.Starts.{before_element, schema_start, schemas}
use Rattle.sq_tree.specs.declared.schema.SchemaDefinition.{SchemaDefinition}
use Rattle.sq_tree.specs.declared.schema.SchemaElement.{SchemaElement}
use Rattle.sq_tree.specs.declared.schema.SchemaElement.TheVariants as element
use Rattle.sq_tree.specs.declared.schema.SchemaText.{SchemaText}
use Rattle.sq_bound.specs.Known.{KnownTables}
use Rattle.sq_check.specs.Modules.{counted}
use Rattle.sq_check.specs.Remark.{view_remark}
use Rattle.sq_check.specs.declared.mark.Mark.{Mark}

-- the results of `f` on each element by its place, from this one on
abbrev pub all_at : {A B : Type 0} → (ℕ → A → List B) → ℕ → List A → List B
all_at f place [] = []
all_at f place (x ∷ xs) = f place x ++ all_at f (suc place) xs

-- a view of a user's schema at this token, if names mean these tables
abbrev pub marks_at : KnownTables → Name → ℕ → SchemaElement → List Mark
marks_at names user token (element.View v) =
    record {
      token = token;
      owner = user;
      name = v.name.table;
      remark = Some (view_remark (names user v.name.table) v.query);
    } ∷ []
marks_at names user token _ = []

-- the element at a place of a schema that begins at this token
abbrev pub element_marks : KnownTables → ℕ → SchemaDefinition → ℕ → SchemaElement → List Mark
element_marks names start s place e =
    marks_at names s.authorization (counted (start + before_element s place)) e

abbrev pub schema_marks : KnownTables → ℕ → SchemaDefinition → List Mark
schema_marks names start s = all_at (element_marks names start s) 0 s.elements

-- the views of a text, in its order
abbrev pub text_marks : KnownTables → SchemaText → List Mark
text_marks names t = all_at (λ n s. schema_marks names (schema_start t n) s) 0 (schemas t)
