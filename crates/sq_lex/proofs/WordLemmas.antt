-- A word's rank tells which word it is.
use Rattle.std.proofs.Common.{◌≡◌, ◌↔◌, ℕ, IsTrue, true, eqb, refl, sym, ap, ◌∙◌, rules}
use Rattle.std.proofs.lemmas.Bool.{eqb-true, eq-eqb}
use denote.Enum.Bare.{tag_one}
use denote.Enum.Declared.{tag_of}
use Rattle.sq_lex.specs.contracts.word.Word.{the_type}
use Rattle.sq_lex.specs.declared.word.Word.{Word}
use Rattle.sq_lex.specs.declared.word.Word.TheVariants as word
use Rattle.sq_lex.specs.Word.{rank, same_word}

-- the rank in the table is that among the enum's variants
rank-tag : (w : Word) → rank w ≡ tag_of the_type w
rank-tag word.Absolute = refl
rank-tag word.All = refl
rank-tag word.And = refl
rank-tag word.Any = refl
rank-tag word.As = refl
rank-tag word.Asc = refl
rank-tag word.Authorization = refl
rank-tag word.Avg = refl
rank-tag word.Between = refl
rank-tag word.By = refl
rank-tag word.Char = refl
rank-tag word.Character = refl
rank-tag word.Check = refl
rank-tag word.Close = refl
rank-tag word.Commit = refl
rank-tag word.Count = refl
rank-tag word.Create = refl
rank-tag word.Current = refl
rank-tag word.Cursor = refl
rank-tag word.Dec = refl
rank-tag word.Decimal = refl
rank-tag word.Declare = refl
rank-tag word.Default = refl
rank-tag word.Delete = refl
rank-tag word.Desc = refl
rank-tag word.Distinct = refl
rank-tag word.Escape = refl
rank-tag word.Exists = refl
rank-tag word.Fetch = refl
rank-tag word.First = refl
rank-tag word.For = refl
rank-tag word.Foreign = refl
rank-tag word.From = refl
rank-tag word.Grant = refl
rank-tag word.Group = refl
rank-tag word.Having = refl
rank-tag word.In = refl
rank-tag word.Indicator = refl
rank-tag word.Insensitive = refl
rank-tag word.Insert = refl
rank-tag word.Int = refl
rank-tag word.Integer = refl
rank-tag word.Into = refl
rank-tag word.Is = refl
rank-tag word.Key = refl
rank-tag word.Language = refl
rank-tag word.Last = refl
rank-tag word.Like = refl
rank-tag word.Max = refl
rank-tag word.Min = refl
rank-tag word.Module = refl
rank-tag word.Next = refl
rank-tag word.Not = refl
rank-tag word.Null = refl
rank-tag word.Numeric = refl
rank-tag word.Of = refl
rank-tag word.On = refl
rank-tag word.Open = refl
rank-tag word.Option = refl
rank-tag word.Or = refl
rank-tag word.Order = refl
rank-tag word.Primary = refl
rank-tag word.Prior = refl
rank-tag word.Privileges = refl
rank-tag word.Procedure = refl
rank-tag word.Public = refl
rank-tag word.References = refl
rank-tag word.Relative = refl
rank-tag word.Rollback = refl
rank-tag word.Schema = refl
rank-tag word.Scroll = refl
rank-tag word.Select = refl
rank-tag word.Set = refl
rank-tag word.Smallint = refl
rank-tag word.Some = refl
rank-tag word.Sqlcode = refl
rank-tag word.Sqlstate = refl
rank-tag word.Sum = refl
rank-tag word.Table = refl
rank-tag word.To = refl
rank-tag word.Union = refl
rank-tag word.Unique = refl
rank-tag word.Update = refl
rank-tag word.User = refl
rank-tag word.Values = refl
rank-tag word.Varchar = refl
rank-tag word.Varying = refl
rank-tag word.View = refl
rank-tag word.Where = refl
rank-tag word.With = refl
rank-tag word.Work = refl

-- words of one rank are one word
pub same_word-true : (a b : Word) → same_word a b ≡ true → a ≡ b
same_word-true a b same = tag_one the_type (search rules) a b (sym (rank-tag a) ∙ eqb-true (rank a) (rank b) same ∙ rank-tag b)

-- comparing ranks compares words
pub same_ranks : (p q : ℕ) (a b : Word) → p ≡ rank a → q ≡ rank b → IsTrue (eqb p q) ↔ (a ≡ b)
same_ranks p q a b at_a at_b = (
  λ same. same_word-true a b (ap (λ n. eqb n (rank b)) (sym at_a) ∙ ap (eqb p) (sym at_b) ∙ same),
  λ same. eq-eqb p q (at_a ∙ ap rank same ∙ sym at_b),
)
