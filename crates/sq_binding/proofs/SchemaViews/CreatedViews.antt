-- CREATE VIEW is accepted exactly if the rules refuse nothing of it, and else refused for the first fault in their order (ISO/IEC 9075:1992,
-- 11.19).
use Rattle.std.proofs.Common.{◌≡◌, suc, ◌<◌, Bool, true, false, not, ◌&&◌, ◌||◌, List, [], ◌∷◌, arith, length, map, Option, Some, None, Ok, Err, refl, sym, ap, subst, ◌∙◌}
use Rattle.std.proofs.lemmas.Bool.{eq-eqb, eqb-true}
use Rattle.std.specs.List.{cons_option, filter_map, list_any}
use Rattle.std.specs.Option.{option_map}
use Rattle.std.specs.Prelude.{◌==◌, find, if◌then◌else◌, is_none, is_ok, nat_le, nat_lt, unwrap_or}
use Rattle.std.specs.Result.{result_ok}
use Rattle.sq_lex.specs.declared.name.Name.{Name}
use Rattle.sq_tree.specs.declared.list.CommaList.{CommaList}
use Rattle.sq_tree.specs.declared.schema.SchemaElement.TheVariants as element
use Rattle.sq_tree.specs.declared.schema.ViewDefinition.{ViewDefinition}
use Rattle.sq_meaning.specs.Environment.{TableName}
use Rattle.sq_meaning.specs.Spelled.{Named, listed, select_of, table_of}
use Rattle.sq_meaning.specs.SortKeys.{select_names}
use Rattle.sq_meaning.specs.Status as status
use Rattle.sq_meaning.specs.Syntax.{Select}
use Rattle.sq_meaning.specs.Binding.{Judged, lacks_privilege}
use Rattle.sq_meaning.specs.Catalog.{names_written, tables_of, view_names}
use Rattle.sq_meaning.specs.Privileges.{updatable_here}
use Rattle.sq_meaning.specs.Schema.{Elements, has_name_twice}
use Rattle.sq_meaning.specs.SchemaRefusal.{bad_check_option, has_bad_names, is_made_again, names_repeat, other_schema, privilege_lacking, refused_for, same_user, schema_faults, too_many_tables, view_has_fault}
use Rattle.sq_meaning.specs.Site.{outside, select_count, select_sites}
use Rattle.sq_meaning.specs.declared.refusal.SchemaFault.{SchemaFault}
use Rattle.sq_meaning.specs.declared.refusal.SchemaFault.TheVariants as fault
use Rattle.sq_binding.specs.Changeable.{UserNames}
use Rattle.sq_binding.specs.NumberedCondition.{ResultColumn, columns_of}
use Rattle.sq_binding.specs.Outcome as binding
use Rattle.sq_binding.specs.View.{NumberedView, view_bound}
use Rattle.sq_binding.proofs.FaultsFound.CondFaults.{SelectSpellsNoNull}
use Rattle.sq_binding.proofs.Faultless.ResultNames.{names_in}
use Rattle.sq_binding.proofs.Exactly.ViewAccepted.{ViewTold, view_accepted, view_is_told}
use Rattle.sq_binding.specs.Catalog.{Catalog, entry, table_count}
use Rattle.sq_binding.specs.ElementOutcome.{refused_if}
use Rattle.sq_binding.specs.Table.{has_place, is_taken, most_tables}
use Rattle.sq_binding.specs.CreateView.{NewView, as_many, column_names, declared_view, lists_twice, new_view, or_bad_view, own_names}
use Rattle.sq_binding.proofs.Schemas.Answers.{Answers, Tells, answers_both, answers_end, answers_made, answers_skip, answers_then, behind, first_broken, if_told, tells_at, tells_if}
use Rattle.sq_binding.proofs.SchemaViews.BoundViews.{IsBoundView, view_known}
use Rattle.sq_binding.proofs.Schemas.KnownTables.{IsCatalogOf, there_is_made}
use Rattle.sq_binding.proofs.Schemas.Tables.{has_place_told, one_more}
use Rattle.sq_binding.proofs.SchemaViews.ViewNames.{differ, j, names, user_fits}

-- ---- names of columns

kept_names : (cs : List ResultColumn) → filter_map (λ n. n) (names_in cs) ≡ own_names cs
kept_names [] = refl
kept_names (c ∷ cs) = ap (cons_option c.name) (kept_names cs)

-- whether each column has a name
abbrev is_unnamed : List ResultColumn → Bool
is_unnamed cs = list_any is_none (names_in cs)

-- each has one, or there are fewer names
abbrev AreNamed : Option Name → List ResultColumn → Bool → Type 0
AreNamed first cs true = length (cons_option first (own_names cs)) < suc (length cs)
AreNamed first cs false = (length (cons_option first (own_names cs)) ≡ suc (length cs)) × (map Some (cons_option first (own_names cs)) ≡ first ∷ names_in cs)

abbrev IfNamed : List ResultColumn → Bool → Type 0
IfNamed cs true = length (own_names cs) < length cs
IfNamed cs false = (length (own_names cs) ≡ length cs) × (map Some (own_names cs) ≡ names_in cs)

one_named : (first : Option Name) (cs : List ResultColumn) (b : Bool) → IfNamed cs b → AreNamed first cs (is_none first || b)
one_named None cs true h = omega (arith, h)
one_named None cs false h = let same = h.0 in omega (arith, same)
one_named (Some n) cs true h = omega (arith, h)
one_named (Some n) cs false h = (ap suc h.0, ap (λ l. Some n ∷ l) h.1)

names_counted : (cs : List ResultColumn) → IfNamed cs (is_unnamed cs)
names_counted [] = (refl, refl)
names_counted (c ∷ cs) = one_named c.name cs (is_unnamed cs) (names_counted cs)

named_or_not : (cs : List ResultColumn) (b : Bool) → IfNamed cs b → (length (own_names cs) == length cs) ≡ not b
named_or_not cs true h = differ (length (own_names cs)) (length cs) h
named_or_not cs false h = eq-eqb (length (own_names cs)) (length cs) h.0

-- ---- the order of the rules

some_list : (a l f m : Bool) (later : List (SchemaFault × Bool)) → first_broken ((fault.NameTwice, a) ∷ (fault.NameTwice, l) ∷ (fault.BadView, f) ∷ (fault.NameTwice, false) ∷ (fault.BadView, m) ∷ later)
    ≡ (if a || l then Some fault.NameTwice else (if f || m then Some fault.BadView else first_broken later))
some_list true l f m later = refl
some_list false true f m later = refl
some_list false false true m later = refl
some_list false false false m later = refl

no_list : (a f x m : Bool) (later : List (SchemaFault × Bool)) → first_broken ((fault.NameTwice, a) ∷ (fault.NameTwice, false) ∷ (fault.BadView, f) ∷ (fault.NameTwice, not f && x) ∷ (fault.BadView, m) ∷ later)
    ≡ (if a || (not f && x) then Some fault.NameTwice else (if f || m then Some fault.BadView else first_broken later))
no_list true f x m later = refl
no_list false true x m later = refl
no_list false false x m later = refl

both_absent : {A B C : Type 0} (f : A → C) (g : B → C) (o : Option A) (p : Option B) → option_map f o ≡ option_map g p → is_none o ≡ is_none p
both_absent f g None None e = refl
both_absent f g None (Some y) e = cc
both_absent f g (Some x) None e = cc
both_absent f g (Some x) (Some y) e = refl

not_not : (b : Bool) → not (not b) ≡ b
not_not true = refl
not_not false = refl

module _ (users : List Name) (before : Elements) (c : Catalog) (of : IsCatalogOf users before c) (user : Name) (v : ViewDefinition) where
  abbrev pub name : TableName
  name = table_of user v.name

  abbrev pub q : Select Named
  q = select_of user v.query

  abbrev N : UserNames
  N = names users before c of user

  abbrev J : Judged
  J = j users before c of user

  abbrev F : Bool
  F = view_has_fault before user v

  abbrev names_known : List (Option Name)
  names_known = view_names (tables_of before) user v

  -- without a column list the names are those of the query
  abbrev own_twice : Option (CommaList Name) → Bool
  own_twice (Some list) = false
  own_twice None = not F && has_name_twice (filter_map (λ n. n) names_known)

  abbrev later_rules : List (SchemaFault × Bool)
  later_rules =
      (fault.BadCheckOption, bad_check_option before user (element.View v)) ∷ (fault.PrivilegeMissing, privilege_lacking before user (element.View v)) ∷ (fault.OtherSchema, other_schema user (element.View v))
      ∷ (fault.TooManyTables, too_many_tables before user (element.View v)) ∷ []

  abbrev name_rules : List (SchemaFault × Bool)
  name_rules = (fault.NameTwice, own_twice v.columns) ∷ (fault.BadView, has_bad_names before user v v.columns) ∷ []

  abbrev pub view_rules : List (SchemaFault × Bool)
  view_rules = (fault.NameTwice, is_made_again before user name) ∷ (fault.NameTwice, lists_twice v.columns) ∷ (fault.BadView, F) ∷ (fault.NameTwice, own_twice v.columns) ∷ (fault.BadView, has_bad_names before user v v.columns) ∷ later_rules

  ordered : (columns : Option (CommaList Name))
      → first_broken ((fault.NameTwice, is_made_again before user name) ∷ (fault.NameTwice, lists_twice columns) ∷ (fault.BadView, F) ∷ (fault.NameTwice, own_twice columns) ∷ (fault.BadView, has_bad_names before user v columns) ∷ later_rules)
      ≡ (if is_made_again before user name || names_repeat before user v columns then Some fault.NameTwice else (if F || has_bad_names before user v columns then Some fault.BadView else first_broken later_rules))
  ordered None = no_list (is_made_again before user name) F (has_name_twice (filter_map (λ n. n) names_known)) (has_bad_names before user v None) later_rules
  ordered (Some list) = some_list (is_made_again before user name) (has_name_twice (listed list)) F (has_bad_names before user v (Some list)) later_rules

  -- the first rule that is broken is the first of the rules' order
  pub view_first : first_broken view_rules ≡ find (refused_for before user (element.View v)) schema_faults
  view_first = ordered v.columns

  -- ---- the names of its columns

  pub record AreNames (b : NumberedView) (ns : List Name) : Type 0 where
    pub as_many : length ns ≡ length (columns_of b.query)
    pub apart : has_name_twice ns ≡ false
    pub written : map Some ns ≡ names_written v.columns (names_in (columns_of b.query))

  module _ (null : SelectSpellsNoNull q) where
    abbrev IsBound : NumberedView → Type 0
    IsBound b = (F ≡ false) × (view_bound N q ≡ Ok b)

    taken : is_taken c user name ≡ is_made_again before user name
    taken = ap (λ b. same_user user name && b) (there_is_made before name (entry c name) (of.known name))

    bound_told : Tells fault.BadView F IsBound (or_bad_view (view_bound N q))
    bound_told = by (view_bound N q) refl F refl (view_accepted N J (user_fits users before c of user) refl q null)
      where
        by : (o : binding.Outcome NumberedView) → view_bound N q ≡ o → (f : Bool) → F ≡ f → is_ok o ≡ not f → Tells fault.BadView f IsBound (or_bad_view o)
        by (Ok b) is true sound e = cc
        by (Ok b) is false sound e = (refl, (sound, is))
        by (Err g) is true sound e = (refl, refl)
        by (Err g) is false sound e = cc

    module _ (b : NumberedView) (is : IsBound b) where
      known : IsBoundView users before c of user q null b
      known = view_known users before c of user q null b is.1

      abbrev cs : List ResultColumn
      cs = columns_of b.query

      as_many_told : (bad : Bool) (P : List Name → Type 0) (ns : List Name) → (length ns == length cs) ≡ not bad → (length ns ≡ length cs → P ns) → Tells fault.BadView bad P (as_many cs ns)
      as_many_told bad P ns e h = by (length ns == length cs) refl bad e
        where
          by : (m : Bool) → (length ns == length cs) ≡ m → (bad : Bool) → m ≡ not bad → Tells fault.BadView bad P (if m then Ok ns else Err fault.BadView)
          by true is true e = cc
          by true is false e = (refl, h (eqb-true (length ns) (length cs) is))
          by false is true e = (refl, refl)
          by false is false e = cc

      -- without a column list, the names are those that the rules know
      none_written : v.columns ≡ None → names_known ≡ names_in cs
      none_written e =
          ap (λ columns. names_written columns (unwrap_or (result_ok (select_names (tables_of before) q)) [])) e
          ∙ ap (λ (o : status.Outcome (List (Option Name))). unwrap_or (result_ok o) []) known.names_are

      named_told : (columns : Option (CommaList Name)) → v.columns ≡ columns → lists_twice columns ≡ false
          → Answers ((fault.NameTwice, own_twice columns) ∷ (fault.BadView, has_bad_names before user v columns) ∷ []) (AreNames b) (column_names columns cs)
      named_told (Some list) written apart =
          answers_skip fault.NameTwice ((fault.BadView, has_bad_names before user v (Some list)) ∷ []) (AreNames b) (as_many cs (listed list))
          (answers_end fault.BadView (has_bad_names before user v (Some list)) (AreNames b) (as_many cs (listed list))
          (as_many_told (has_bad_names before user v (Some list)) (AreNames b) (listed list) (ap (λ n. length (listed list) == n) (sym known.count) ∙ sym (not_not (length (listed list) == select_count (tables_of before) q)))
          (λ same. record { as_many = same; apart = apart; written = ap (λ columns. names_written columns (names_in cs)) (sym written) })))
      named_told None written apart =
          answers_then fault.NameTwice (own_twice None) ((fault.BadView, has_bad_names before user v None) ∷ []) (λ u. has_name_twice (own_names cs) ≡ false) (AreNames b) (refused_if fault.NameTwice (has_name_twice (own_names cs))) _
          (subst (λ x. Tells fault.NameTwice x (λ u. has_name_twice (own_names cs) ≡ false) (refused_if fault.NameTwice (has_name_twice (own_names cs)))) twice_is (tells_if fault.NameTwice (has_name_twice (own_names cs))))
          (λ u once. answers_end fault.BadView (has_bad_names before user v None) (AreNames b) (as_many cs (own_names cs))
          (as_many_told (has_bad_names before user v None) (AreNames b) (own_names cs)
          (named_or_not cs (is_unnamed cs) (names_counted cs) ∙ ap (λ ns. not (list_any is_none ns)) (sym (none_written written)))
          (λ same. record { as_many = same; apart = once; written = all_named (is_unnamed cs) (names_counted cs) same ∙ ap (λ columns. names_written columns (names_in cs)) (sym written) })))
        where
          twice_is : has_name_twice (own_names cs) ≡ own_twice None
          twice_is = sym (ap has_name_twice (ap (filter_map (λ n. n)) (none_written written) ∙ kept_names cs)) ∙ ap (λ f. not f && has_name_twice (filter_map (λ n. n) names_known)) (sym is.0)

          all_named : (flag : Bool) → IfNamed cs flag → length (own_names cs) ≡ length cs → map Some (own_names cs) ≡ names_in cs
          all_named true h same = absurd (never h same)
            where
              never : length (own_names cs) < length cs → length (own_names cs) ≡ length cs → ⊥
              never less same = omega (arith, less, same)
          all_named false h same = h.1

      -- ---- the rest

      unchecked : (v.check_option && is_none b.updatable) ≡ bad_check_option before user (element.View v)
      unchecked = ap (λ n. v.check_option && n) (both_absent (λ u. u.table) (λ source. source.item.reference.table) b.updatable (updatable_here (tables_of before) q) known.over)

      lacking : not b.may_select ≡ privilege_lacking before user (element.View v)
      lacking =
          let told = subst (ViewTold J q) is.1 (view_is_told N J (user_fits users before c of user) refl q null) in
          ap not told.1 ∙ not_not (lacks_privilege J (select_sites J.known outside q))

      full : nat_le most_tables (table_count c) ≡ too_many_tables before user (element.View v)
      full = one_more (table_count c) ∙ ap (λ n. nat_lt 1000 (suc n)) (sym of.count)

    -- the view that is made
    pub record IsNewView (n : NewView) : Type 0 where
      pub bound : NumberedView
      pub is_bound : IsBound bound
      pub ns : List Name
      pub are : AreNames bound ns
      pub made : n ≡ new_view c user v bound ns
      pub checked : (v.check_option && is_none bound.updatable) ≡ false
      pub untaken : is_made_again before user name ≡ false
      pub in_schema : other_schema user (element.View v) ≡ false
      pub room : too_many_tables before user (element.View v) ≡ false

    pub view_told : Answers view_rules IsNewView (declared_view c user v)
    view_told =
        answers_then fault.NameTwice _ (behind view_rules) (λ u. is_made_again before user name ≡ false) IsNewView (refused_if fault.NameTwice (is_taken c user name)) _ (if_told fault.NameTwice (is_taken c user name) (is_made_again before user name) taken)
        (λ u untaken. answers_then fault.NameTwice _ (behind (behind view_rules)) (λ u. lists_twice v.columns ≡ false) IsNewView (refused_if fault.NameTwice (lists_twice v.columns)) _ (tells_if fault.NameTwice (lists_twice v.columns))
        (λ w apart. answers_then fault.BadView _ (behind (behind (behind view_rules))) IsBound IsNewView (or_bad_view (view_bound N q)) _ bound_told
        (λ b is. answers_both name_rules later_rules (AreNames b) IsNewView (column_names v.columns (columns_of b.query)) _ (named_told b is v.columns refl apart)
        (λ ns are. answers_then fault.BadCheckOption _ (behind later_rules) (λ u. (v.check_option && is_none b.updatable) ≡ false) IsNewView (refused_if fault.BadCheckOption (v.check_option && is_none b.updatable)) _
        (tells_at fault.BadCheckOption (v.check_option && is_none b.updatable) (bad_check_option before user (element.View v)) (λ u. (v.check_option && is_none b.updatable) ≡ false) (refused_if fault.BadCheckOption (v.check_option && is_none b.updatable)) (unchecked b is)
        (tells_if fault.BadCheckOption (v.check_option && is_none b.updatable)))
        (λ x checked. answers_then fault.PrivilegeMissing _ (behind (behind later_rules)) (λ u. privilege_lacking before user (element.View v) ≡ false) IsNewView (refused_if fault.PrivilegeMissing (not b.may_select)) _
        (if_told fault.PrivilegeMissing (not b.may_select) (privilege_lacking before user (element.View v)) (lacking b is))
        (λ y z. answers_made (behind (behind later_rules)) (λ u. (other_schema user (element.View v) ≡ false) × (too_many_tables before user (element.View v) ≡ false)) IsNewView (has_place c user name) _
        (has_place_told c user name (other_schema user (element.View v)) (too_many_tables before user (element.View v)) refl (full b is))
        (λ p there. record { bound = b; is_bound = is; ns = ns; are = are; made = refl; checked = checked; untaken = untaken; in_schema = there.0; room = there.1 })))))))
