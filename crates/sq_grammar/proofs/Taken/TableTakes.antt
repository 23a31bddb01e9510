-- The tokens of table definitions are read as them.
use Rattle.std.proofs.Common.{◌≡◌, ℕ, suc, ◌+◌, ◌<◌, ◌≤◌, false, List, [], ◌∷◌, ◌++◌, length, Option, Some, None, Ok, refl, sym, subst, arith, append_assoc}
use Rattle.sq_lex.specs.declared.lexeme.Lexeme.TheVariants as lexeme
use Rattle.sq_lex.specs.declared.symbol.Symbol.TheVariants as symbol
use Rattle.sq_lex.specs.declared.word.Word.TheVariants as word
use Rattle.sq_lex.specs.declared.name.Name.{Name}
use Rattle.sq_lex.specs.declared.number.Number.{Number}
use Rattle.sq_tree.specs.Tree.{optional, bracketed}
use Rattle.sq_tree.specs.List.{comma_tokens, row_tokens}
use Rattle.sq_tree.proofs.ListDepth.{row_depth}
use Rattle.sq_tree.specs.Names.{table_name_tokens, columns_tokens}
use Rattle.sq_tree.specs.Expr.{signed_number_tokens}
use Rattle.sq_tree.specs.DataType.{data_type_tokens}
use Rattle.sq_tree.proofs.DataTypeDepth.{data_type_depth, bracket_depth}
use Rattle.sq_tree.specs.Cond.{cond_tokens}
use Rattle.sq_tree.proofs.CondDepth.{cond_depth}
use Rattle.sq_tree.specs.Schema as tree
use Rattle.sq_tree.proofs.SchemaDepth as depths
use Rattle.sq_tree.specs.declared.list.CommaList.{CommaList}
use Rattle.sq_tree.specs.declared.expr.Sign.{Sign}
use Rattle.sq_tree.specs.declared.expr.Sign.TheVariants.{Plus, Minus}
use Rattle.sq_tree.specs.declared.data_type.DataType.{DataType}
use Rattle.sq_tree.specs.declared.data_type.DataType.TheVariants as types
use Rattle.sq_tree.specs.declared.cond.Cond.{Cond}
use Rattle.sq_tree.specs.declared.schema.TableDefinition.{TableDefinition}
use Rattle.sq_tree.specs.declared.schema.TableElement.{TableElement}
use Rattle.sq_tree.specs.declared.schema.TableElement.TheVariants as elements
use Rattle.sq_tree.specs.declared.schema.ForeignKey.{ForeignKey}
use Rattle.sq_tree.specs.declared.schema.References.{References}
use Rattle.sq_tree.specs.declared.schema.ColumnDefinition.{ColumnDefinition}
use Rattle.sq_tree.specs.declared.schema.DefaultValue.{DefaultValue}
use Rattle.sq_tree.specs.declared.schema.DefaultValue.TheVariants as defaults
use Rattle.sq_tree.specs.declared.schema.ColumnConstraint.{ColumnConstraint}
use Rattle.sq_tree.specs.declared.schema.ColumnConstraint.TheVariants as constraints
use Rattle.sq_grammar.specs.Reading.{Tokens, Parser, sees, first_of, name_of, text_of, comma, comma_separated, all}
use Rattle.sq_grammar.specs.Names.{dot, table_name, signed_number, columns, columns_if_any}
use Rattle.sq_grammar.specs.DataType.{data_type}
use Rattle.sq_grammar.specs.Cond as conditions
use Rattle.sq_grammar.specs.Cond.{must_be_cond}
use Rattle.sq_grammar.specs.Schema.{references_from, references, default_value, default_clause, check, column_constraint, column_definition, foreign_key, table_constraint, table_element, table_definition}
use Rattle.sq_grammar.proofs.Taken.Takes.{Takes, done, fits, lifted, andthen, plainly, mapped, word, opening, closing, expected, eaten, uneaten, behind_it, met, unmet, rows, follows, commas}
use Rattle.sq_grammar.proofs.Ends.Follows.{EndsCond, ends_cond}
use Rattle.sq_grammar.proofs.Taken.NamesTakes.{table_takes, signed_takes, columns_takes, columns_if_any_takes}

-- the tokens of three parts, grouped from the left
pub grouped : {A : Type 0} {p : Parser A} (s t u : Tokens) {a b d left : ℕ} {x : A} {rest : Tokens} → Takes p (s ++ (t ++ u)) a b d left x rest → Takes p ((s ++ t) ++ u) a b d left x rest
grouped {p = p} s t u {a = a} {b = b} {d = d} {left = left} {x = x} {rest = rest} h = subst (λ ts. Takes p ts a b d left x rest) (sym (append_assoc s t u)) h

-- what may not follow a data type, a default or a constraint
pub record EndsConstraint (rest : Tokens) : Type 0 where
  pub dot : sees (lexeme.Symbol symbol.Dot) rest ≡ false
  pub bracket : sees (lexeme.Symbol symbol.Open) rest ≡ false
  pub varying : sees (lexeme.Word word.Varying) rest ≡ false
  pub default : sees (lexeme.Word word.Default) rest ≡ false

-- what may not follow a column definition, which may have more constraints
pub record EndsColumn (rest : Tokens) : Type 0 where
  pub constraint : EndsConstraint rest
  pub not : sees (lexeme.Word word.Not) rest ≡ false
  pub unique : sees (lexeme.Word word.Unique) rest ≡ false
  pub primary : sees (lexeme.Word word.Primary) rest ≡ false
  pub references : sees (lexeme.Word word.References) rest ≡ false
  pub check : sees (lexeme.Word word.Check) rest ≡ false

pub bracket_low : {A : Type 0} (o : Option A) → bracket_depth o ≤ 1
bracket_low None = omega arith
bracket_low (Some x) = omega arith

type_low : (t : DataType) → data_type_depth t ≤ 1
type_low types.Smallint = omega arith
type_low types.Integer = omega arith
type_low types.Int = omega arith
type_low (types.Exact w p) = bracket_low p
type_low (types.Character w n) = bracket_low n
type_low (types.Varying w n) = omega arith

-- no list of columns starts with a dot
no_dot : (o : Option (CommaList Name)) (rest : Tokens) → sees dot rest ≡ false → sees dot (optional columns_tokens o ++ rest) ≡ false
no_dot None rest none = none
no_dot (Some c) rest none = refl

-- ---- references and defaults

module _ (r : References) {a left : ℕ} {rest : Tokens} (none : sees dot rest ≡ false) (no_open : sees (lexeme.Symbol symbol.Open) rest ≡ false) where
  pub references_from_takes : Takes references_from (table_name_tokens r.table ++ optional columns_tokens r.columns) a a 0 left r rest
  unfolding references_from
  references_from_takes = plainly table_name _ r.table (table_takes r.table (no_dot r.columns rest none)) (mapped columns_if_any _ r.columns (columns_if_any_takes r.columns no_open) refl)

  pub references_takes : Takes references (tree.references_tokens r) a a 0 left r rest
  unfolding references
  references_takes = expected (word word.References) _ references_from_takes

pub default_value_takes : (v : DefaultValue) {a left : ℕ} {rest : Tokens} → Takes default_value (tree.default_tokens v) a a 0 left v rest
unfolding default_value
default_value_takes (defaults.Number n) {a = a} {left = left} {rest = rest} = uneaten _ _ (by n.sign n.number) (uneaten _ _ (by_null n.sign n.number) (unmet text_of _ (by_text n.sign n.number) (mapped signed_number _ n (signed_takes n) refl)))
  where
    by : (sign : Option Sign) (number : Number) → sees (lexeme.Word word.User) (signed_number_tokens (record { sign = sign; number = number }) ++ rest) ≡ false
    by None number = refl
    by (Some Plus) number = refl
    by (Some Minus) number = refl

    by_null : (sign : Option Sign) (number : Number) → sees (lexeme.Word word.Null) (signed_number_tokens (record { sign = sign; number = number }) ++ rest) ≡ false
    by_null None number = refl
    by_null (Some Plus) number = refl
    by_null (Some Minus) number = refl

    by_text : (sign : Option Sign) (number : Number) → first_of text_of (signed_number_tokens (record { sign = sign; number = number }) ++ rest) ≡ None
    by_text None number = refl
    by_text (Some Plus) number = refl
    by_text (Some Minus) number = refl
default_value_takes (defaults.Text characters) = uneaten _ _ refl (uneaten _ _ refl (met text_of (lexeme.Text characters) characters refl (λ k. refl) _ done))
default_value_takes defaults.User = eaten (word word.User) _ done
default_value_takes defaults.Null = uneaten _ _ refl (eaten (word word.Null) _ done)

pub default_clause_takes : (o : Option DefaultValue) {a left : ℕ} {rest : Tokens} → sees (lexeme.Word word.Default) rest ≡ false → Takes default_clause (optional tree.default_clause_tokens o) a a 0 left o rest
unfolding default_clause
default_clause_takes None none = uneaten _ _ none done
default_clause_takes (Some v) none = behind_it (word word.Default) default_value (default_value_takes v)

-- ---- constraints

pub foreign_key_takes : (k : ForeignKey) {a left : ℕ} {rest : Tokens} → sees dot rest ≡ false → sees (lexeme.Symbol symbol.Open) rest ≡ false → Takes foreign_key (lexeme.Word word.Key ∷ columns_tokens k.columns ++ tree.references_tokens k.references) a a 0 left k rest
unfolding foreign_key
foreign_key_takes k none no_open = expected (word word.Key) _ (plainly columns _ k.columns (columns_takes k.columns) (mapped references _ k.references (references_takes k.references none no_open) refl))

constraint_starts : (c : ColumnConstraint) (rest : Tokens) → EndsConstraint (tree.column_constraint_tokens c ++ rest)
constraint_starts constraints.NotNull rest = record { dot = refl; bracket = refl; varying = refl; default = refl }
constraint_starts constraints.Unique rest = record { dot = refl; bracket = refl; varying = refl; default = refl }
constraint_starts constraints.PrimaryKey rest = record { dot = refl; bracket = refl; varying = refl; default = refl }
constraint_starts (constraints.References r) rest = record { dot = refl; bracket = refl; varying = refl; default = refl }
constraint_starts (constraints.Check c) rest = record { dot = refl; bracket = refl; varying = refl; default = refl }

constraint_long : (c : ColumnConstraint) → 0 < length (tree.column_constraint_tokens c)
constraint_long constraints.NotNull = omega arith
constraint_long constraints.Unique = omega arith
constraint_long constraints.PrimaryKey = omega arith
constraint_long (constraints.References r) = omega arith
constraint_long (constraints.Check c) = omega arith

no_constraint : (left : ℕ) (rest : Tokens) → EndsColumn rest → column_constraint left rest ≡ Ok (None, rest)
unfolding column_constraint
no_constraint left rest ends =
    let s : Takes (column_constraint left) [] 0 0 0 0 None rest = uneaten _ _ ends.not (uneaten _ _ ends.unique (uneaten _ _ ends.primary (uneaten _ _ ends.references (uneaten _ _ ends.check done)))) in
    s.taken (omega arith)

column_comma : (rest : Tokens) → EndsColumn (comma ∷ rest)
column_comma rest = record { constraint = record { dot = refl; bracket = refl; varying = refl; default = refl }; not = refl; unique = refl; primary = refl; references = refl; check = refl }

column_close : (rest : Tokens) → EndsColumn (lexeme.Symbol symbol.Close ∷ rest)
column_close rest = record { constraint = record { dot = refl; bracket = refl; varying = refl; default = refl }; not = refl; unique = refl; primary = refl; references = refl; check = refl }

cond_close : (rest : Tokens) → EndsCond (lexeme.Symbol symbol.Close ∷ rest)
cond_close rest = ends_cond _ refl

module _ (data_type_takes : (t : DataType) (a left : ℕ) (rest : Tokens) → sees (lexeme.Symbol symbol.Open) rest ≡ false → sees (lexeme.Word word.Varying) rest ≡ false → Takes data_type (data_type_tokens t) a a 0 left t rest)
    (inner_cond_takes : (left : ℕ) (c : Cond) (rest : Tokens) → 0 < left → EndsCond rest → Takes (must_be_cond (conditions.inside left)) (cond_tokens c) 1 1 (suc (cond_depth c)) left c rest) where
  -- the bracket is one of `left`
  pub check_takes : (left : ℕ) → 0 < left → (c : Cond) {rest : Tokens} → Takes (check left) (bracketed (cond_tokens c)) 0 0 (cond_depth c + 1) left c rest
  unfolding check
  check_takes left room c {rest = rest} = expected opening _ (fits (λ h. omega arith) (λ h. omega arith) (andthen (must_be_cond (conditions.inside left)) _ c (inner_cond_takes left c (lexeme.Symbol symbol.Close ∷ rest) room (cond_close rest)) (expected closing _ done)))

  pub column_constraint_takes : (left : ℕ) → 0 < left → (c : ColumnConstraint) (rest : Tokens) → EndsConstraint rest → Takes (column_constraint left) (tree.column_constraint_tokens c) 0 0 (depths.column_constraint_depth c) left (Some c) rest
  unfolding column_constraint
  column_constraint_takes left room constraints.NotNull rest ends = eaten (word word.Not) _ (expected (word word.Null) _ done)
  column_constraint_takes left room constraints.Unique rest ends = uneaten _ _ refl (eaten (word word.Unique) _ done)
  column_constraint_takes left room constraints.PrimaryKey rest ends = uneaten _ _ refl (uneaten _ _ refl (eaten (word word.Primary) _ (expected (word word.Key) _ done)))
  column_constraint_takes left room (constraints.References r) rest ends =
      let low = bracket_low r.columns in
      fits (λ h. omega arith) (λ h. omega (arith, low, room)) (uneaten _ _ refl (uneaten _ _ refl (uneaten _ _ refl (eaten (word word.References) _ (mapped references_from _ r (references_from_takes r ends.dot ends.bracket) refl)))))
  column_constraint_takes left room (constraints.Check c) rest ends = uneaten _ _ refl (uneaten _ _ refl (uneaten _ _ refl (uneaten _ _ refl (eaten (word word.Check) _ (mapped (check left) _ c (check_takes left room c) refl)))))

  module _ (left : ℕ) (room : 0 < left) where
    constraints_take : (cs : List ColumnConstraint) (rest : Tokens) → EndsColumn rest → Takes (all (column_constraint left)) (row_tokens tree.column_constraint_tokens cs) 0 0 (row_depth depths.column_constraint_depth cs) left cs rest
    constraints_take cs rest ends = rows (column_constraint left) tree.column_constraint_tokens depths.column_constraint_depth 0 left EndsConstraint (column_constraint_takes left room) constraint_starts constraint_long cs rest ends.constraint (no_constraint left rest ends)

    constraints_follow : (cs : List ColumnConstraint) (rest : Tokens) → EndsColumn rest → EndsConstraint (row_tokens tree.column_constraint_tokens cs ++ rest)
    constraints_follow cs rest ends = follows (column_constraint left) tree.column_constraint_tokens depths.column_constraint_depth 0 left EndsConstraint (column_constraint_takes left room) constraint_starts constraint_long cs rest ends.constraint

    -- behind its name
    pub column_definition_takes : (c : ColumnDefinition) (rest : Tokens) → EndsColumn rest → Takes (column_definition left c.name) (data_type_tokens c.data_type ++ optional tree.default_clause_tokens c.default ++ row_tokens tree.column_constraint_tokens c.constraints) 0 0 (depths.column_definition_depth c) left c rest
    unfolding column_definition
    column_definition_takes c rest ends =
        let more = constraints_follow c.constraints rest ends in
        let low = type_low c.data_type in
        grouped (data_type_tokens c.data_type) (optional tree.default_clause_tokens c.default) (row_tokens tree.column_constraint_tokens c.constraints) (fits (λ h. omega arith) (λ h. omega (arith, low, room))
        (plainly data_type _ c.data_type (data_type_takes c.data_type 0 left _ (no_open c.default more.bracket) (no_varying c.default more.varying))
        (plainly default_clause _ c.default (default_clause_takes c.default more.default) (mapped (all (column_constraint left)) _ c.constraints (constraints_take c.constraints rest ends) refl))))
      where
        no_open : (o : Option DefaultValue) → sees (lexeme.Symbol symbol.Open) (row_tokens tree.column_constraint_tokens c.constraints ++ rest) ≡ false → sees (lexeme.Symbol symbol.Open) ((optional tree.default_clause_tokens o ++ row_tokens tree.column_constraint_tokens c.constraints) ++ rest) ≡ false
        no_open None none = none
        no_open (Some v) none = refl

        no_varying : (o : Option DefaultValue) → sees (lexeme.Word word.Varying) (row_tokens tree.column_constraint_tokens c.constraints ++ rest) ≡ false → sees (lexeme.Word word.Varying) ((optional tree.default_clause_tokens o ++ row_tokens tree.column_constraint_tokens c.constraints) ++ rest) ≡ false
        no_varying None none = none
        no_varying (Some v) none = refl

    -- a table element that is no column
    pub table_constraint_takes : (e : TableElement) (rest : Tokens) → first_of name_of (tree.table_element_tokens e) ≡ None → EndsConstraint rest → Takes (table_constraint left) (tree.table_element_tokens e) 0 0 (depths.table_element_depth e) left e rest
    unfolding table_constraint
    table_constraint_takes (elements.Column c) rest constraint ends = cc
    table_constraint_takes (elements.Unique cs) rest constraint ends = fits (λ h. omega arith) (λ h. omega (arith, room)) (eaten (word word.Unique) _ (mapped columns _ cs (columns_takes cs) refl))
    table_constraint_takes (elements.PrimaryKey cs) rest constraint ends = fits (λ h. omega arith) (λ h. omega (arith, room)) (uneaten _ _ refl (eaten (word word.Primary) _ (expected (word word.Key) _ (mapped columns _ cs (columns_takes cs) refl))))
    table_constraint_takes (elements.ForeignKey k) rest constraint ends = fits (λ h. omega arith) (λ h. omega (arith, room)) (uneaten _ _ refl (uneaten _ _ refl (eaten (word word.Foreign) _ (mapped foreign_key _ k (foreign_key_takes k ends.dot ends.bracket) refl))))
    table_constraint_takes (elements.Check c) rest constraint ends = uneaten _ _ refl (uneaten _ _ refl (uneaten _ _ refl (expected (word word.Check) _ (mapped (check left) _ c (check_takes left room c) refl))))

    pub table_element_takes : (e : TableElement) (rest : Tokens) → EndsColumn rest → Takes (table_element left) (tree.table_element_tokens e) 0 0 (depths.table_element_depth e) left e rest
    unfolding table_element
    table_element_takes (elements.Column c) rest ends = met name_of (lexeme.Name c.name) c.name refl (λ k. refl) _ (mapped (column_definition left c.name) _ c (column_definition_takes c rest ends) refl)
    table_element_takes (elements.Unique cs) rest ends = unmet name_of _ refl (table_constraint_takes (elements.Unique cs) rest refl ends.constraint)
    table_element_takes (elements.PrimaryKey cs) rest ends = unmet name_of _ refl (table_constraint_takes (elements.PrimaryKey cs) rest refl ends.constraint)
    table_element_takes (elements.ForeignKey k) rest ends = unmet name_of _ refl (table_constraint_takes (elements.ForeignKey k) rest refl ends.constraint)
    table_element_takes (elements.Check c) rest ends = unmet name_of _ refl (table_constraint_takes (elements.Check c) rest refl ends.constraint)

  -- Behind CREATE TABLE; behind the table's bracket `inner` more may be opened.
  pub table_definition_takes : (inner : ℕ) → 0 < inner → (t : TableDefinition) {rest : Tokens} → Takes (table_definition inner) (table_name_tokens t.name ++ bracketed (comma_tokens tree.table_element_tokens t.elements)) 0 0 (depths.table_definition_depth t) (suc inner) t rest
  unfolding table_definition
  table_definition_takes inner room t {rest = rest} =
      let close : Tokens = lexeme.Symbol symbol.Close ∷ rest in
      let items = commas (table_element inner) tree.table_element_tokens depths.table_element_depth 0 inner EndsColumn (table_element_takes inner room) column_comma t.elements close (column_close rest) refl in
      plainly table_name _ t.name (table_takes t.name refl) (expected opening _
      (fits (λ h. omega arith) (λ h. omega arith) (andthen (comma_separated (table_element inner)) _ t.elements (lifted items) (expected closing _ done))))
