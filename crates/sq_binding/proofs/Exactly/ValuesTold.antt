-- Values that are stored are refused exactly if the rules refuse them (ISO/IEC 9075:1992, 9.2 and 13.8 to 13.10).
use Rattle.std.proofs.Common.{◌≡◌, ℕ, true, false, ◌||◌, List, [], ◌∷◌, ◌++◌, length, Some, Ok, refl, sym, ap, ◌∙◌}
use Rattle.std.specs.List.{AllZip}
use Rattle.std.specs.Prelude.{⊤, nat_lt}
use Rattle.sq_value.proofs.Truths.{or_turned}
use Rattle.sq_value.specs.declared.domain.Kind.{Kind}
use Rattle.sq_value.specs.declared.domain.Kind.TheVariants.{Chars, Num, Vary}
use Rattle.sq_value.specs.declared.value.Value.TheVariants.{Null}
use Rattle.sq_tree.specs.declared.statement.NewValue.{NewValue}
use Rattle.sq_tree.specs.declared.statement.NewValue.TheVariants as new_value
use Rattle.sq_meaning.specs.Environment.{TableReference}
use Rattle.sq_meaning.specs.Spelled.{Named, expr_of}
use Rattle.sq_meaning.specs.Status as status
use Rattle.sq_meaning.specs.Syntax.{Expr}
use Rattle.sq_meaning.specs.WellFormed.{is_comparable}
use Rattle.sq_meaning.specs.Binding.{Judged, breaks, has_fault}
use Rattle.sq_meaning.specs.Site.{Around, EnclosingQuery, Site, expr_sites, kind_here, plain_query}
use Rattle.sq_meaning.specs.WellFormedStatement.{value_sites}
use Rattle.sq_meaning.specs.declared.fault.BindingFault.{BindingFault}
use Rattle.sq_meaning.specs.declared.fault.BindingFault.TheVariants as fault
use Rattle.sq_binding.specs.Change.{new_value_bound}
use Rattle.sq_binding.specs.Changeable.{UnderTable, item_at_leaf}
use Rattle.sq_binding.specs.Condition.{must_agree}
use Rattle.sq_binding.specs.Found.{◌>>◌, pure}
use Rattle.sq_binding.specs.From.{NamedTable, NamedTables, item_over}
use Rattle.sq_binding.specs.Numbered.{Numbered}
use Rattle.sq_binding.specs.Scope.{Scope}
use Rattle.sq_binding.specs.Select.{Surroundings, value}
use Rattle.sq_binding.proofs.OneTable.AlikeParts.{Alike, LikePart, SameKind, must_alike, one_alike, same_alike, then_alike, value_alike}
use Rattle.sq_binding.proofs.OneTable.AlikeParts as likewise
use Rattle.sq_binding.proofs.Faultless.Clean.{alike_clean, clean_first, clean_more, clean_parts, no_site}
use Rattle.sq_binding.proofs.Faultless.CleanConds.{alike_kept, known_of, value_clean}
use Rattle.sq_binding.proofs.Faultless.CleanExprs.{Loose, TightAt}
use Rattle.sq_binding.proofs.Faultless.CleanSelect.{tight_lines}
use Rattle.sq_binding.proofs.FaultsFound.FoundKinds.{SpellsNoNull, standing}
use Rattle.sq_binding.proofs.FaultsFound.FromFaults.{NamesFit}
use Rattle.sq_binding.proofs.FaultsFound.Known.{GroupsAt, IsOver}
use Rattle.sq_binding.proofs.OneTable.LeafScopes.{alone, both_told, leaf_like, own, own_items, own_over}
use Rattle.sq_binding.proofs.FaultsFound.PredicateFaults.{KindOf, alike_breaks, surrounded, value_judges}
use Rattle.sq_binding.proofs.FaultsFound.SelectFaults.{groups_of_lines}
use Rattle.sq_binding.proofs.AtSites.Seen.{any_both}
use Rattle.sq_binding.proofs.FaultsFound.Sites.{fault_here}
use Rattle.sq_binding.proofs.Exactly.Tells.{Tells, judged_tells, made_tells, must_tells, pure_tells, tells_at, then_tells}

-- no literal is the null value (5.3)
abbrev pub ValueSpellsNoNull : NewValue → Type 0
ValueSpellsNoNull (new_value.Expr e) = SpellsNoNull (expr_of e)
ValueSpellsNoNull new_value.Null = ⊤

comparable_turned : (k l : Kind) → is_comparable k l ≡ is_comparable l k
comparable_turned (Num s) (Num t) = refl
comparable_turned (Num s) (Chars n) = refl
comparable_turned (Num s) (Vary n) = refl
comparable_turned (Chars m) (Num t) = refl
comparable_turned (Chars m) (Chars n) = refl
comparable_turned (Chars m) (Vary n) = refl
comparable_turned (Vary m) (Num t) = refl
comparable_turned (Vary m) (Chars n) = refl
comparable_turned (Vary m) (Vary n) = refl

-- two kinds that must agree, as the rules ask it of them
pub agree_tells : (j : Judged) (d e : status.Outcome Kind) (k l : Kind) → d ≡ Ok k → e ≡ Ok l → Tells j (Site.alike_wanted d e ∷ []) (must_agree l k)
agree_tells j d e k l is so =
    must_tells j (Site.alike_wanted d e ∷ []) (is_comparable l k) fault.KindMismatch
    (λ same held. clean_more j (Site.alike_wanted d e) [] (alike_clean j d e (alike_kept k l d e is so (comparable_turned k l ∙ same))) (no_site j))
    (λ differ. fault_here j fault.KindMismatch (Site.alike_wanted d e) [] (alike_breaks k l d e is so (comparable_turned k l ∙ differ)))

-- a site behind others, and before them
turned : (j : Judged) (f : BindingFault) (xs : List Site) (s : Site) → has_fault j (xs ++ s ∷ []) f ≡ true → has_fault j (s ∷ xs) f ≡ true
turned j f xs s h = sym (or_turned (has_fault j xs f) (breaks j f s)) ∙ sym (fault_both j f xs s) ∙ h
  where
    fault_both : (j : Judged) (f : BindingFault) (xs : List Site) (s : Site) → has_fault j (xs ++ s ∷ []) f ≡ (has_fault j xs f || (breaks j f s || false))
    fault_both j f xs s = any_both (breaks j f) xs (s ∷ [])

module _ (names : NamedTables) (j : Judged) (scopes : List Scope) (queries : List EnclosingQuery) (over : AllZip (IsOver j.known) scopes queries)
    (groups : (depth : ℕ) → nat_lt 0 depth ≡ true → GroupsAt j.known scopes queries depth) (tight : (depth : ℕ) → TightAt j.known scopes queries depth) (loose : Loose j.known queries) where
  abbrev here : Around
  here = standing queries false false

  abbrev a : Surroundings
  a = surrounded names j scopes false

  value_tells : (e : Expr Named) → SpellsNoNull e → Tells j (expr_sites j.known here e) (value a e)
  value_tells e null =
      judged_tells j (expr_sites j.known here e) (GroupsAt j.known scopes queries 0) (false ≡ true) (KindOf names j scopes queries over groups false e) (value a e) (value_judges names j scopes queries over groups false e null)
      (λ held counts z is. value_clean names j scopes queries over groups tight false e counts z is (λ t. loose))

  -- a value for a column of this kind
  pub new_value_tells : (d : status.Outcome Kind) (k : Kind) → d ≡ Ok k → (v : NewValue) → ValueSpellsNoNull v → Tells j (value_sites j.known here d v) (new_value_bound a k v)
  new_value_tells d k is new_value.Null null = pure_tells j (Numbered.literal Null)
  new_value_tells d k is (new_value.Expr e) null =
      tells_at j (expr_sites j.known here (expr_of e) ++ alike ∷ []) (alike ∷ expr_sites j.known here (expr_of e)) (new_value_bound a k (new_value.Expr e))
      (λ f h. turned j f (expr_sites j.known here (expr_of e)) alike h)
      (λ held clean. let parts = clean_parts j (expr_sites j.known here (expr_of e)) (alike ∷ []) clean in clean_more j alike (expr_sites j.known here (expr_of e)) (clean_first j alike [] parts.1) parts.0)
      (then_tells j (expr_sites j.known here (expr_of e)) (alike ∷ []) (KindOf names j scopes queries over groups false (expr_of e)) (value a (expr_of e)) (λ x. must_agree x.kind k >> pure x.tree)
      (known_of j (expr_sites j.known here (expr_of e)) (GroupsAt j.known scopes queries 0) (false ≡ true) (KindOf names j scopes queries over groups false (expr_of e)) (value a (expr_of e)) (value_judges names j scopes queries over groups false (expr_of e) null))
      (value_tells (expr_of e) null)
      (λ x so. made_tells j (alike ∷ []) (must_agree x.kind k) (λ _. x.tree) (agree_tells j d (kind_here j.known here (expr_of e)) k x.kind is so)))
    where
      alike : Site
      alike = Site.alike_wanted d (kind_here j.known here (expr_of e))

-- ---- in no query, and over a table that is changed

pub outside_tells : (names : NamedTables) (j : Judged) (d : status.Outcome Kind) (k : Kind) → d ≡ Ok k → (v : NewValue) → ValueSpellsNoNull v → Tells j (value_sites j.known (standing [] false false) d v) (new_value_bound (surrounded names j [] false) k v)
outside_tells names j = new_value_tells names j [] [] tt (λ depth far. tt) (λ depth p grouped. refl) (λ p. refl)

module _ (names : NamedTables) (j : Judged) (fit : NamesFit names j) (r : TableReference) (t : NamedTable) (there : names r.table ≡ Some t) (u : UnderTable) (wide : length u.columns ≡ length t.columns) where
  abbrev pub leaf : Surroundings
  leaf = surrounded names j (alone (item_at_leaf (record { reference = r; table = t; under = u })) ∷ []) false

  pub new_value_like : (k : Kind) (v : NewValue) → Alike likewise.Anything (new_value_bound (own names j fit r t there) k v) (new_value_bound leaf k v)
  new_value_like k new_value.Null = same_alike likewise.Anything (λ x. tt) (pure (Numbered.literal Null))
  new_value_like k (new_value.Expr e) =
      then_alike SameKind likewise.Anything (value (own names j fit r t there) (expr_of e)) (value leaf (expr_of e)) (λ x. must_agree x.kind k >> pure x.tree) (λ x. must_agree x.kind k >> pure x.tree)
      (value_alike names names j.known.parameters (alone (item_over r t).item ∷ []) (alone (item_at_leaf (record { reference = r; table = t; under = u })) ∷ []) (leaf_like r t u wide, tt) false (expr_of e))
      (λ x y h. one_alike likewise.Anything (must_agree x.kind k) (must_agree y.kind k) (λ _. x.tree) (λ _. y.tree) (must_alike (is_comparable x.kind k) (is_comparable y.kind k) (ap (λ l. is_comparable l k) h) fault.KindMismatch))

  pub beside_tells : (d : status.Outcome Kind) (k : Kind) → d ≡ Ok k → (v : NewValue) → ValueSpellsNoNull v → Tells j (value_sites j.known (standing (plain_query (r ∷ []) ∷ []) false false) d v) (new_value_bound leaf k v)
  beside_tells d k is v null counts =
      both_told j (value_sites j.known (standing (plain_query (r ∷ []) ∷ []) false false) d v) (LikePart likewise.Anything) (new_value_bound (own names j fit r t there) k v counts) (new_value_bound leaf k v counts) (new_value_like k v counts)
      (new_value_tells names j (alone (item_over r t).item ∷ []) (plain_query (r ∷ []) ∷ []) (own_over names j fit r t there)
      (λ depth far. groups_of_lines j [] [] tt (λ depth. tt) (r ∷ []) (item_over r t ∷ []) (own_items names j fit r t there) depth)
      (tight_lines j [] [] tt (λ depth. tt) (λ depth p grouped. refl) (r ∷ []) (item_over r t ∷ []) (own_items names j fit r t there)) (λ p. refl) d k is v null counts)
