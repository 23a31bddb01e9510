-- Sites at which no rule is broken, if all privileges are held.
use Rattle.std.proofs.Common.{◌≡◌, ℕ, true, false, not, ◌||◌, List, [], ◌∷◌, ◌++◌, length, Option, Ok, Err, refl, ap}
use Rattle.std.specs.List.{AllByRecursion, flat_map}
use Rattle.std.specs.Prelude.{◌==◌, nat_lt}
use Rattle.std.proofs.lemmas.Bool.{or_parts}
use Rattle.sq_value.specs.declared.domain.Kind.{Kind}
use Rattle.sq_tree.specs.declared.expr.TimesSign.{TimesSign}
use Rattle.sq_tree.specs.declared.names.ColumnReference.{ColumnReference}
use Rattle.sq_tree.specs.declared.names.Parameter.{Parameter}
use Rattle.sq_meaning.specs.Environment.{TableName, TableReference}
use Rattle.sq_meaning.specs.Spelled.{Named}
use Rattle.sq_meaning.specs.Status as status
use Rattle.sq_meaning.specs.Syntax.{Expr}
use Rattle.sq_meaning.specs.Binding.{Judged, bad_indicator, breaks, has_fault, has_item_twice, is_of_number, is_of_text, kind_mismatch, misplaced_function, scale_exceeded, ungrouped_column, unknown_parameter, unknown_table}
use Rattle.sq_meaning.specs.Binding as rules
use Rattle.sq_meaning.specs.Privilege.{Privilege}
use Rattle.sq_meaning.specs.Site.{Around, Site}
use Rattle.sq_meaning.specs.declared.fault.BindingFault.{BindingFault}
use Rattle.sq_meaning.specs.declared.fault.BindingFault.TheVariants as fault
use Rattle.sq_binding.specs.Outcome.{Outcome, and_then}

abbrev pub AllHeld : Judged → Type 0
AllHeld j = (t : TableName) (p : Privilege) → j.holds t p ≡ true

abbrev pub CleanSite : Judged → Site → Type 0
CleanSite j s = (f : BindingFault) → breaks j f s ≡ false

abbrev pub Clean : Judged → List Site → Type 0
Clean j sites = (f : BindingFault) → has_fault j sites f ≡ false

pub no_site : (j : Judged) → Clean j []
no_site j f = refl

pub clean_more : (j : Judged) (s : Site) (sites : List Site) → CleanSite j s → Clean j sites → Clean j (s ∷ sites)
clean_more j s sites h g f = λ i. h f i || g f i

pub clean_both : (j : Judged) (xs ys : List Site) → Clean j xs → Clean j ys → Clean j (xs ++ ys)
clean_both j [] ys h g f = g f
clean_both j (x ∷ xs) ys h g f =
    let parts = or_parts (breaks j f x) (has_fault j xs f) (h f) in
    (λ i. parts.0 i || clean_both j xs ys (λ f. (or_parts (breaks j f x) (has_fault j xs f) (h f)).1) g f i)

-- the rest of clean sites
pub clean_rest : (j : Judged) (s : Site) (sites : List Site) → Clean j (s ∷ sites) → Clean j sites
clean_rest j s sites h f = (or_parts (breaks j f s) (has_fault j sites f) (h f)).1

pub clean_first : (j : Judged) (s : Site) (sites : List Site) → Clean j (s ∷ sites) → CleanSite j s
clean_first j s sites h f = (or_parts (breaks j f s) (has_fault j sites f) (h f)).0

pub clean_each : {A : Type 0} (j : Judged) (sites_of : A → List Site) (xs : List A) → AllByRecursion (λ x. Clean j (sites_of x)) xs → Clean j (flat_map sites_of xs)
clean_each j sites_of [] h = no_site j
clean_each j sites_of (x ∷ xs) h = clean_both j (sites_of x) (flat_map sites_of xs) h.0 (clean_each j sites_of xs h.1)

-- ---- sites

pub number_clean : (j : Judged) (k : status.Outcome Kind) → is_of_text k ≡ false → CleanSite j (Site.number_wanted k)
number_clean j k h fault.KindMismatch = h
number_clean j k h _ = refl

pub text_clean : (j : Judged) (k : status.Outcome Kind) → is_of_number k ≡ false → CleanSite j (Site.text_wanted k)
text_clean j k h fault.KindMismatch = h
text_clean j k h _ = refl

pub alike_clean : (j : Judged) (k l : status.Outcome Kind) → kind_mismatch (Site.alike_wanted k l) ≡ false → CleanSite j (Site.alike_wanted k l)
alike_clean j k l h fault.KindMismatch = h
alike_clean j k l h _ = refl

pub scale_clean : (j : Judged) (sign : TimesSign) (k l : status.Outcome Kind) → scale_exceeded sign k l ≡ false → CleanSite j (Site.product_scale sign k l)
scale_clean j sign k l h fault.LimitExceeded = h
scale_clean j sign k l h _ = refl

pub counts_clean : (j : Judged) (m n : ℕ) → not (m == n) ≡ false → CleanSite j (Site.counts m n)
counts_clean j m n h fault.CountMismatch = h
counts_clean j m n h _ = refl

pub width_clean : (j : Judged) (n : ℕ) → nat_lt 64 n ≡ false → CleanSite j (Site.column_count n)
width_clean j n h fault.LimitExceeded = h
width_clean j n h _ = refl

pub from_clean : (j : Judged) (from : List TableReference) → nat_lt 16 (length from) ≡ false → has_item_twice from ≡ false → CleanSite j (Site.from_whole from)
from_clean j from h g fault.LimitExceeded = h
from_clean j from h g fault.AmbiguousName = g
from_clean j from h g _ = refl

pub read_clean : (j : Judged) (a : Around) (c : ColumnReference) → length (rules.fits j.known c a.queries) ≡ 1 → ungrouped_column j.known (Site.column_read a c) ≡ false → CleanSite j (Site.column_read a c)
read_clean j a c one h fault.UnknownColumn = ap (λ n. n == 0) one
read_clean j a c one h fault.AmbiguousName = ap (nat_lt 1) one
read_clean j a c one h fault.UngroupedColumn = h
read_clean j a c one h _ = refl

pub parameter_clean : (j : Judged) (p : Parameter) → unknown_parameter j.known (Site.parameter_read p) ≡ false → bad_indicator j.known (Site.parameter_read p) ≡ false → CleanSite j (Site.parameter_read p)
parameter_clean j p h g fault.UnknownParameter = h
parameter_clean j p h g fault.BadIndicator = g
parameter_clean j p h g _ = refl

pub called_clean : (j : Judged) (a : Around) (e : Option (Expr Named)) → misplaced_function j.known (Site.function_called a e) ≡ false → CleanSite j (Site.function_called a e)
called_clean j a e h fault.MisplacedSetFunction = h
called_clean j a e h _ = refl

pub table_clean : (j : Judged) → AllHeld j → (r : TableReference) → unknown_table j.known (Site.table_read r) ≡ false → CleanSite j (Site.table_read r)
table_clean j held r h fault.UnknownTable = h
table_clean j held r h fault.PrivilegeMissing = ap not (held r.table Privilege.select)
table_clean j held r h _ = refl

pub user_clean : (j : Judged) → CleanSite j Site.user_read
user_clean j fault.KindMismatch = refl
user_clean j _ = refl

pub subquery_clean : (j : Judged) → CleanSite j Site.subquery_read
subquery_clean j fault.KindMismatch = refl
subquery_clean j _ = refl

-- ---- outcomes

-- where two steps have an outcome, both have
pub record Steps {A B : Type 0} (o : Outcome A) (f : A → Outcome B) (y : B) : Type 0 where
  pub step : A
  pub first : o ≡ Ok step
  pub second : f step ≡ Ok y

pub steps_of : {A B : Type 0} (o : Outcome A) (f : A → Outcome B) (y : B) → and_then o f ≡ Ok y → Steps o f y
steps_of (Ok x) f y e = record { step = x; first = refl; second = e }
steps_of (Err g) f y e = cc

pub clean_parts : (j : Judged) (xs ys : List Site) → Clean j (xs ++ ys) → Clean j xs × Clean j ys
clean_parts j [] ys h = (no_site j, h)
clean_parts j (x ∷ xs) ys h =
    let rest = clean_parts j xs ys (clean_rest j x (xs ++ ys) h) in (clean_more j x xs (clean_first j x (xs ++ ys) h) rest.0, rest.1)
