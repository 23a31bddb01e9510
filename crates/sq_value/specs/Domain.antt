-- Domains of columns and parameters (ISO/IEC 9075:1992, 6.1). The greatest precision and length, and the ranges of
-- SMALLINT and INTEGER, are own rules.
use Rattle.std.specs.Prelude.{ℕ, pos, negsuc, ◌≡◌, ◌≤◌, ◌<◌, ◌^◌, ◌≤ℤ◌, length, unsigned_abs, ⊤, List, Bool, true, false, IsTrue, IsFalse, [], replicate}
use Rattle.sq_value.specs.Characters.{blank}
use Rattle.sq_value.specs.Number.{Number}
use Rattle.sq_value.specs.declared.domain.Domain.{Domain}
use Rattle.sq_value.specs.declared.domain.Domain.TheVariants.{Small, Int, Numeric, Char, VarChar}
use Rattle.sq_value.specs.declared.domain.Kind.{Kind}
use Rattle.sq_value.specs.declared.domain.Kind.TheVariants.{Vary, Num as NumKind, Chars as CharsKind}
use Rattle.sq_value.specs.declared.value.Value.{Value}
use Rattle.sq_value.specs.declared.value.Value.TheVariants.{Null, Num, Chars}

-- a precision from 1 to 18 and a scale of at most that, or a length from 1 to 240
abbrev pub IsDomain : Domain → Type 0
IsDomain Small = ⊤
IsDomain Int = ⊤
IsDomain (Numeric p s) = (1 ≤ p) × (p ≤ 18) × (s ≤ p)
IsDomain (Char n) = (1 ≤ n) × (n ≤ 240)
IsDomain (VarChar n) = (1 ≤ n) × (n ≤ 240)

-- a number is of the domain
abbrev pub NumberIsIn : Domain → Number → Type 0
NumberIsIn Small n = (n.scale ≡ 0) × (negsuc 32767 ≤ℤ n.unscaled) × (n.unscaled ≤ℤ pos 32767)
NumberIsIn Int n = (n.scale ≡ 0) × (negsuc 2147483647 ≤ℤ n.unscaled) × (n.unscaled ≤ℤ pos 2147483647)
NumberIsIn (Numeric p s) n = (n.scale ≡ s) × (unsigned_abs n.unscaled < 10 ^ p)
NumberIsIn (Char _) n = ⊥
NumberIsIn (VarChar _) n = ⊥

-- a text is of the domain
abbrev pub TextIsIn : Domain → List ℕ → Type 0
TextIsIn Small t = ⊥
TextIsIn Int t = ⊥
TextIsIn (Numeric _ _) t = ⊥
TextIsIn (Char n) t = length t ≡ n
TextIsIn (VarChar n) t = length t ≤ n

-- null is in every domain
abbrev pub IsInDomain : Domain → Value → Type 0
IsInDomain d Null = ⊤
IsInDomain d (Num n) = NumberIsIn d n
IsInDomain d (Chars t) = TextIsIn d t

-- whether the value may be stored in the domain at all: a number in one of numbers, a text in one of texts
abbrev pub is_of_numbers : Domain → Bool
is_of_numbers Small = true
is_of_numbers Int = true
is_of_numbers (Numeric _ _) = true
is_of_numbers (Char _) = false
is_of_numbers (VarChar _) = false

abbrev pub FitsKind : Domain → Value → Type 0
FitsKind d Null = ⊤
FitsKind d (Num _) = IsTrue (is_of_numbers d)
FitsKind d (Chars _) = IsFalse (is_of_numbers d)

-- the length of a text of the domain, or its greatest length
abbrev pub domain_length : Domain → ℕ
domain_length Small = 0
domain_length Int = 0
domain_length (Numeric _ _) = 0
domain_length (Char n) = n
domain_length (VarChar n) = n

-- the kind of an expression's values, known before it is evaluated: a scale, a length, or a greatest length
abbrev pub kind_of : Domain → Kind
kind_of Small = NumKind 0
kind_of Int = NumKind 0
kind_of (Numeric p s) = NumKind s
kind_of (Char n) = CharsKind n
kind_of (VarChar n) = Vary n

abbrev pub IsOfKind : Kind → Value → Type 0
IsOfKind k Null = ⊤
IsOfKind (NumKind s) (Num n) = n.scale ≡ s
IsOfKind (NumKind s) (Chars t) = ⊥
IsOfKind (CharsKind n) (Num _) = ⊥
IsOfKind (CharsKind n) (Chars t) = length t ≡ n
IsOfKind (Vary n) (Num _) = ⊥
IsOfKind (Vary n) (Chars t) = length t ≤ n

-- the value that a parameter gets if it is handed null: zero, blanks, or the empty text (own rule)
abbrev pub start_value : Domain → Value
start_value Small = Num (record { unscaled = pos 0; scale = 0 })
start_value Int = Num (record { unscaled = pos 0; scale = 0 })
start_value (Numeric p s) = Num (record { unscaled = pos 0; scale = s })
start_value (Char n) = Chars (replicate n blank)
start_value (VarChar n) = Chars []
