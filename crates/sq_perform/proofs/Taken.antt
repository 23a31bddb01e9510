-- Which items of a script a session takes, and where the first that it doesn't take stands.
use Rattle.std.proofs.Common.{◌≡◌, ℕ, ◌+◌, ◌<◌, ◌^◌, min, Bool, true, false, if◌then◌else◌, List, [], ◌∷◌, ◌++◌, length, get_or, map, take, All, Option, Some, None, Ok, refl, ap, ap₂, subst, sym, ◌∙◌, arith, length-append}
use Rattle.std.proofs.lemmas.List.{map-append, take_more}
use Rattle.std.proofs.lemmas.List.Elements.{All-append, All-cons, All-nil}
use Rattle.std.proofs.lemmas.List.Folds.{length-flat_map-take}
use Rattle.std.proofs.lemmas.Bool.{and_parts}
use Rattle.std.proofs.lemmas.Option.{slice_get_read}
use Rattle.std.specs.Cmp.Lexicographic.{pointwise, same_text}
use Rattle.std.specs.Option.{option_map}
use Rattle.std.specs.Prelude.{nat_eq, slice_get, unwrap_or}
use Rattle.sq_lex.specs.declared.lexeme.Lexeme.TheVariants as lexeme
use Rattle.sq_lex.specs.declared.symbol.Symbol.TheVariants as symbol
use Rattle.sq_lex.specs.declared.name.Name.{Name}
use Rattle.sq_lex.specs.declared.token.Token.{Token}
use Rattle.sq_lex.specs.Reading.{reading}
use Rattle.sq_value.specs.declared.value.Value.{Value}
use Rattle.sq_tree.specs.Script.{ended_item_tokens, script_depth, script_item_tokens, script_tokens}
use Rattle.sq_tree.specs.Starts.{script_item_start}
use Rattle.sq_tree.specs.declared.script.ScriptItem.{ScriptItem}
use Rattle.sq_tree.specs.declared.script.ScriptItem.TheVariants as script
use Rattle.sq_tree.specs.declared.script.ScriptText.{ScriptText}
use Rattle.sq_meaning.specs.Report.{Bytes}
use Rattle.sq_meaning.specs.Run.{RunItem, item_of_script}
use Rattle.sq_meaning.specs.Script.{argument_values}
use Rattle.sq_binding.proofs.Schemas.Names.{position_at}
use Rattle.sq_catalog.specs.Catalog.{is_table, table_number}
use Rattle.sq_catalog.specs.declared.catalog.FullName.{FullName}
use Rattle.sq_module.specs.declared.program.ProcedureName.{ProcedureName}
use Rattle.sq_session.specs.Kind.{Procedure, fits_at}
use Rattle.sq_session.specs.Session.{Session, is_procedure, name_at, name_of as procedure_name, procedure_number}
use Rattle.sq_perform.specs.Fault.{IsItemFault, IsOfItem, IsPlacedIfAny, IsRefusalIfAny, IsScriptRefusal, IsUntaken, ItemFault, TextFault}
use Rattle.sq_perform.specs.Action.{item_of, name_of, shown_name}
use Rattle.sq_perform.specs.Asked.{AreActions}
use Rattle.sq_perform.specs.Steps.{IsPrepared}
use Rattle.sq_perform.specs.declared.action.Action.{Action}
use Rattle.sq_perform.specs.declared.action.Action.TheVariants.{Call, Show}
use Rattle.sq_perform.specs.declared.action.CallAction.{CallAction}
use Rattle.sq_perform.specs.declared.action.ShowAction.{ShowAction}
use Rattle.sq_perform.specs.Items.{IsTaken, call_fault, item_fault, table_fault}
use Rattle.sq_perform.specs.Refused.{IsFirstItem, IsRefusedScript}
use Rattle.sq_perform.specs.Read.{refusal_of}
use Rattle.sq_perform.specs.Refusal.{Matter, Meaning, matter}
use Rattle.sq_perform.specs.Texts.{Spells, SpellsTree}
use Rattle.sq_perform.specs.declared.refusal.Refusal.{Refusal}
use Rattle.sq_perform.specs.declared.refusal.RefusalName.{RefusalName}
use Rattle.sq_perform.specs.declared.refusal.RefusalName.TheVariants.{BadArguments, UnknownProcedure, UnknownTable}
use Rattle.sq_perform.specs.declared.fault.Fault.TheVariants.{NoMemory, Refused}
use Rattle.sq_perform.proofs.Spelled.{is_there, token_there}

-- ---- one call

abbrev if_fits : Bool → Option RefusalName
if_fits b = if b then None else Some BadArguments

pub call_of_known : (procedures : List Procedure) (values handed : List Value) (found : Option ℕ) (number : ℕ) (answer : Bool) → found ≡ Some number → values ≡ handed
    → fits_at procedures number values ≡ answer → call_fault procedures handed found ≡ (if answer then None else Some BadArguments)
call_of_known procedures values handed found number answer e same fits =
    let here : call_fault procedures handed found ≡ call_fault procedures handed (Some number) = ap (call_fault procedures handed) e in
    let fit : fits_at procedures number handed ≡ answer = ap (fits_at procedures number) (sym same) ∙ fits in
    here ∙ ap if_fits fit

pub still_fits : (procedures : List Procedure) (number : ℕ) (handed values : List Value) (answer : Bool) → handed ≡ values → answer ≡ fits_at procedures number handed → answer ≡ true
    → fits_at procedures number values ≡ true
still_fits procedures number handed values answer same fits is = ap (fits_at procedures number) (sym same) ∙ sym fits ∙ is

-- a procedure has the name by which it is found
number_named : (procedures : List Procedure) («module» name : Name) (number : ℕ) → procedure_number procedures «module» name ≡ Some number
    → name_at procedures number ≡ Some (record { «module» = «module»; name = name })
number_named procedures «module» name number found =
    let there = position_at (is_procedure «module» name) procedures number found in
    let parts = and_parts (pointwise nat_eq «module» (there.0).«module») (pointwise nat_eq name (there.0).name) there.2 in
    let first = sym (same_text «module» (there.0).«module» (sym parts.0)) in
    let second = sym (same_text name (there.0).name (sym parts.1)) in
    ap (option_map procedure_name) there.1 ∙ (λ i. Some (record { «module» = first i; name = second i }))

-- so a call of it has that name,
call_named : (procedures : List Procedure) («module» name : Name) (c : CallAction) → procedure_number procedures «module» name ≡ Some c.procedure
    → name_of procedures c ≡ record { «module» = «module»; name = name }
call_named procedures «module» name c found =
    ap (λ o. unwrap_or o (record { «module» = []; name = [] })) (number_named procedures «module» name c.procedure found)

-- and is the procedure of its name;
pub call_prepared : (procedures : List Procedure) («module» name : Name) (c : CallAction) → procedure_number procedures «module» name ≡ Some c.procedure
    → procedure_number procedures (name_of procedures c).«module» (name_of procedures c).name ≡ Some c.procedure
call_prepared procedures «module» name c found =
    subst (λ (n : ProcedureName). procedure_number procedures n.«module» n.name ≡ Some c.procedure) (sym (call_named procedures «module» name c found)) found

-- it is what an item with that name and its values asks for
pub call_asked : (procedures : List Procedure) (tables : List FullName) («module» name : Name) (values : List Value) (c : CallAction) → procedure_number procedures «module» name ≡ Some c.procedure
    → c.values ≡ values → item_of procedures tables (Call c) ≡ RunItem.call (record { in_module = «module»; procedure = name; values = values })
call_asked procedures tables «module» name values c found same =
    let named = call_named procedures «module» name c found in
    λ i. RunItem.call (record { in_module = (named i).«module»; procedure = (named i).name; values = same i })

-- ---- one table

-- a base table has the name by which it is found
place_named : (tables : List FullName) (user name : Name) (place : ℕ) → table_number tables user name ≡ Some place
    → slice_get tables place ≡ Some (record { user = user; name = name })
place_named tables user name place found =
    let there = position_at (is_table user name) tables place found in
    let parts = and_parts (pointwise nat_eq user (there.0).user) (pointwise nat_eq name (there.0).name) there.2 in
    let first = sym (same_text user (there.0).user (sym parts.0)) in
    let second = sym (same_text name (there.0).name (sym parts.1)) in
    there.1 ∙ (λ i. Some (record { user = first i; name = second i }))

-- so a request for it has that name,
show_named : (tables : List FullName) (user name : Name) (x : ShowAction) → table_number tables user name ≡ Some x.table
    → shown_name tables x ≡ record { user = user; name = name }
show_named tables user name x found =
    ap (λ o. unwrap_or o (record { user = []; name = [] })) (place_named tables user name x.table found)

-- and is for the table of its name;
pub show_prepared : (s : Session) (user name : Name) (x : ShowAction) → table_number s.tables user name ≡ Some x.table → IsPrepared s (Show x)
show_prepared s user name x found =
    subst (λ (n : FullName). table_number s.tables n.user n.name ≡ Some x.table) (sym (show_named s.tables user name x found)) found

-- it is what an item with that name asks for
pub show_asked : (procedures : List Procedure) (tables : List FullName) (user name : Name) (x : ShowAction) → table_number tables user name ≡ Some x.table
    → item_of procedures tables (Show x) ≡ RunItem.show (record { user = user; name = name })
show_asked procedures tables user name x found =
    let named = show_named tables user name x found in
    λ i. RunItem.show (record { user = (named i).user; name = (named i).name })

-- a table that can be shown is there
pub shown_there : (s : Session) (x : ShowAction) → IsPrepared s (Show x) → slice_get s.tables x.table ≡ Some (shown_name s.tables x)
shown_there s x is = place_named s.tables (shown_name s.tables x).user (shown_name s.tables x).name x.table is

-- ---- all items

item_at : (items : List ScriptItem) (i : ℕ) (x : ScriptItem) → i < length items → x ≡ get_or items i x → take (i + 1) items ≡ take i items ++ x ∷ []
item_at items i x lt e = take_more items i x lt ∙ ap (λ y. take i items ++ y ∷ []) (sym e)

pub taken_more : (s : Session) (items : List ScriptItem) (i : ℕ) (x : ScriptItem) → i < length items → x ≡ get_or items i x → All (IsTaken s) (take i items) → IsTaken s x
    → All (IsTaken s) (take (i + 1) items)
taken_more s items i x lt e before here =
    subst (All (IsTaken s)) (sym (item_at items i x lt e)) (All-append (IsTaken s) (take i items) (x ∷ []) before (All-cons (IsTaken s) x [] here (All-nil (IsTaken s))))

pub actions_more : (s : Session) (items : List ScriptItem) (i : ℕ) (x : ScriptItem) (actions : List Action) (a : Action) → i < length items → x ≡ get_or items i x
    → AreActions s (take i items) actions → item_of s.procedures s.tables a ≡ item_of_script x → AreActions s (take (i + 1) items) (actions ++ a ∷ [])
actions_more s items i x actions a lt e are same =
    map-append (item_of s.procedures s.tables) actions (a ∷ []) ∙ ap₂ (λ these one. these ++ one ∷ []) are same ∙ sym (map-append item_of_script (take i items) (x ∷ []))
    ∙ ap (map item_of_script) (sym (item_at items i x lt e))

pub prepared_more : (s : Session) (actions : List Action) (a : Action) → All (IsPrepared s) actions → IsPrepared s a → All (IsPrepared s) (actions ++ a ∷ [])
prepared_more s actions a before here = All-append (IsPrepared s) actions (a ∷ []) before (All-cons (IsPrepared s) a [] here (All-nil (IsPrepared s)))

-- ---- where an item stands

pub placed_again : (number : ℕ) (text : Bytes) (tokens : List Token) (token : ℕ) (what : RefusalName) (fault : TextFault) → reading text ≡ Ok tokens → length tokens < 2 ^ 64
    → fault ≡ Refused (refusal_of number text tokens token what) → IsPlacedIfAny text token fault
placed_again number text tokens token what NoMemory read few is = tt
placed_again number text tokens token what (Refused refusal) read few is =
    let same : refusal ≡ refusal_of number text tokens token what = cc in
    record { tokens = tokens; read = read; few = few; stands = record { line = ap (λ r. r.line) same; column = ap (λ r. r.column) same } }

pub named_again : (number : ℕ) (text : Bytes) (tokens : List Token) (token : ℕ) (what : RefusalName) (fault : TextFault)
    → fault ≡ Refused (refusal_of number text tokens token what) → IsRefusalIfAny number what fault
named_again number text tokens token what NoMemory is = tt
named_again number text tokens token what (Refused refusal) is =
    let same : refusal ≡ refusal_of number text tokens token what = cc in (ap (λ r. r.text) same, ap (λ r. r.what) same)

some_tokens : (x : ScriptItem) → 0 < length (ended_item_tokens x)
some_tokens x =
    let size = length-append (script_item_tokens x) (lexeme.Symbol symbol.Semicolon ∷ []) in
    omega (arith, size)

starts_inside : (tree : ScriptText) (number : ℕ) → number < length tree.items → script_item_start tree number < length (script_tokens tree)
starts_inside tree number lt =
    let found = is_there tree.items number lt in
    let inside = length-flat_map-take ended_item_tokens tree.items number found.0 lt in
    let size = some_tokens (get_or tree.items number found.0) in
    omega (arith, inside, size)

pub of_item : (script : Bytes) (tree : ScriptText) (number start : ℕ) (what : RefusalName) (fault : TextFault) → Spells script (script_tokens tree)
    → number < length tree.items → start ≡ min (script_item_start tree number) 18446744073709551615 → IsRefusalIfAny 0 what fault → IsPlacedIfAny script start fault
    → IsOfItem script tree number (Refused what) fault
of_item script tree number start what NoMemory spells lt e is placed = tt
of_item script tree number start what (Refused refusal) spells lt e is placed =
    let found = token_there script (script_tokens tree) (script_item_start tree number) start refusal spells (starts_inside tree number lt) e placed in
    record { text = is.0; name = is.1; token = found.0; first = found.1; stands = found.2 }

-- ---- the first that is not taken

pub first_untaken : (s : Session) (script : Bytes) (tree : ScriptText) (number : ℕ) (x : ScriptItem) (fault : ItemFault) (answer : TextFault) → SpellsTree script_tokens script_depth script tree
    → number < length tree.items → x ≡ get_or tree.items number x → All (IsTaken s) (take number tree.items) → IsItemFault (item_fault s x) fault
    → IsOfItem script tree number fault answer → IsUntaken s script answer
first_untaken s script tree number x NoMemory NoMemory spells lt e before is of = tt
first_untaken s script tree number x NoMemory (Refused refusal) spells lt e before is of = cc
first_untaken s script tree number x (Refused what) NoMemory spells lt e before is of = tt
first_untaken s script tree number x (Refused what) (Refused refusal) spells lt e before is of = (
  of.text,
  record {
    tree = tree;
    spells = spells;
    number = number;
    item = x;
    there = slice_get_read tree.items (length tree.items) number x refl lt e;
    fault = is ∙ ap (λ w. Some w) (sym of.name);
    before = before;
    token = of.token;
    first = of.first;
    stands = of.stands;
  },
)

-- ---- a fault of an item is of what the script means

named_by : (w what : RefusalName) → matter w ≡ Meaning → Some w ≡ Some what → matter what ≡ Meaning
named_by w what m e = let same : w ≡ what = cc in ap matter (sym same) ∙ m

unfit_means : (fits : Bool) (what : RefusalName) → (if fits then None else Some BadArguments) ≡ Some what → matter what ≡ Meaning
unfit_means true what e = cc
unfit_means false what e = named_by BadArguments what refl e

call_means : (procedures : List Procedure) (values : List Value) (found : Option ℕ) (what : RefusalName) → call_fault procedures values found ≡ Some what → matter what ≡ Meaning
call_means procedures values None what e = named_by UnknownProcedure what refl e
call_means procedures values (Some number) what e = unfit_means (fits_at procedures number values) what e

table_means : (found : Option ℕ) (what : RefusalName) → table_fault found ≡ Some what → matter what ≡ Meaning
table_means None what e = named_by UnknownTable what refl e
table_means (Some place) what e = cc

item_means : (s : Session) (x : ScriptItem) (what : RefusalName) → item_fault s x ≡ Some what → matter what ≡ Meaning
item_means s (script.Call «module» name arguments) what e =
    call_means s.procedures (argument_values arguments) (procedure_number s.procedures «module» name) what e
item_means s (script.Table user name) what e = table_means (table_number s.tables user name) what e

by_meaning : (s : Session) (script : Bytes) (refusal : Refusal) (m : Matter) → m ≡ Meaning → IsFirstItem s script refusal → IsRefusedScript s script refusal m
by_meaning s script refusal m e is = subst (IsRefusedScript s script refusal) (sym e) is

pub untaken_is_refused : (s : Session) (script : Bytes) (fault : TextFault) → IsUntaken s script fault → IsScriptRefusal s script fault
untaken_is_refused s script NoMemory is = tt
untaken_is_refused s script (Refused refusal) is =
    (is.0, by_meaning s script refusal (matter refusal.what) (item_means s is.1.item refusal.what is.1.fault) is.1)
