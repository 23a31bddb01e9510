-- Names of procedures, one after the other.
use Rattle.std.proofs.Common.{◌≡◌, ℕ, ◌+◌, ◌<◌, Bool, true, false, ◌&&◌, ◌||◌, List, [], ◌∷◌, ◌++◌, length, get_or, map, take, flat_map, fold, if◌then◌else◌, refl, ap, ap₂, sym, ◌∙◌, true≢false, arith, append_assoc}
use Rattle.std.proofs.lemmas.List.{take_more, append-nil, map-append}
use Rattle.std.proofs.lemmas.List.Folds.{list_any-append}
use Rattle.std.proofs.lemmas.Grind.{flat_map-append}
use Rattle.std.specs.List.{AllByRecursion, list_any}
use Rattle.std.specs.Map.{keys_of}
use Rattle.indexmap.specs.IndexMap.{insert_entry}
use Rattle.indexmap.specs.IndexSet.{insert_key}
use Rattle.sq_lex.specs.declared.name.Name.{Name}
use Rattle.sq_tree.specs.declared.module.ModuleItem.{ModuleItem}
use Rattle.sq_tree.specs.declared.module.ModuleItem.TheVariants as item
use Rattle.sq_tree.specs.declared.module.ModuleText.{ModuleText}
use Rattle.sq_meaning.specs.Environment.{same_name}
use Rattle.sq_module.specs.declared.admission.AdmittedModule.{AdmittedModule}
use Rattle.sq_module.specs.declared.admission.AdmittedProcedure.{AdmittedProcedure}
use Rattle.sq_module.specs.declared.program.ProcedureName.{ProcedureName}
use Rattle.sq_module.specs.Admitted.{admitted_procedures, module_keys, name_of, procedure_names}
use Rattle.sq_module.specs.Program.{AreNew, HaveNames, declared_procedures, module_procedures, name_in, names_in, procedure_in, same_procedure, with_procedures}

-- ---- keys of a map

-- inserting an entry inserts its key
pub keys_insert : {K V : Type 0} (eq : K → K → Bool) (es : List (K × V)) (k : K) (v : V) → keys_of (insert_entry eq es k v) ≡ insert_key eq (keys_of es) k
keys_insert eq [] k v = refl
keys_insert eq (e ∷ es) k v = by (eq k e.0) refl (keys_insert eq es k v)
  where
    moved : (b : Bool) → e.0 ∷ (if b then keys_of es else keys_of es ++ k ∷ []) ≡ (if b then e.0 ∷ keys_of es else e.0 ∷ (keys_of es ++ k ∷ []))
    moved true = refl
    moved false = refl

    by : (b : Bool) → eq k e.0 ≡ b → keys_of (insert_entry eq es k v) ≡ insert_key eq (keys_of es) k → keys_of (insert_entry eq (e ∷ es) k v) ≡ insert_key eq (keys_of (e ∷ es)) k
    by true h rest = rw h refl
    by false h rest = rw h (ap (λ ks. e.0 ∷ ks) rest ∙ moved (list_any (eq k) (keys_of es)))

-- ---- one more

fold_append : {X Y : Type 0} (f : Y → X → Y) (start : Y) (xs ys : List X) → fold f start (xs ++ ys) ≡ fold f (fold f start xs) ys
fold_append f start [] ys = refl
fold_append f start (x ∷ xs) ys = fold_append f (f start x) xs ys

pub flat_more : {X Y : Type 0} (f : X → List Y) (parts : List X) (i : ℕ) (x : X) → i < length parts → x ≡ get_or parts i x → flat_map f (take (i + 1) parts) ≡ flat_map f (take i parts) ++ f x
flat_more f parts i x lt e = grind (arith, take_more parts i x lt, e, flat_map-append f (take i parts) (x ∷ []), append-nil (f x))

-- ---- names that differ

new_last : (before names : List Name) (name : Name) → AreNew before names → list_any (same_name name) (before ++ names) ≡ false → AreNew before (names ++ name ∷ [])
new_last before [] name are one = (rw (append-nil before) at one, tt)
new_last before (n ∷ names) name are one = (are.0, new_last (before ++ n ∷ []) names name are.1 (rw (← append_assoc before (n ∷ []) names) at one))

have_last : (before : List Name) (modules : List ModuleText) (m : ModuleText) → HaveNames before modules → list_any (same_name m.name) (before ++ map (λ x. x.name) modules) ≡ false
    → AreNew [] (names_in m.items) → HaveNames before (modules ++ m ∷ [])
have_last before [] m are one own = (rw (append-nil before) at one, own, tt)
have_last before (x ∷ modules) m are one own =
    (are.0, are.1, have_last (before ++ x.name ∷ []) modules m are.2 (rw (← append_assoc before (x.name ∷ []) (map (λ y. y.name) modules)) at one) own)

-- ---- the items of a module, and modules, one after the other

names_more : (items : List ModuleItem) (i : ℕ) (x : ModuleItem) → i < length items → x ≡ get_or items i x → names_in (take (i + 1) items) ≡ names_in (take i items) ++ name_in x
names_more items i x lt e = flat_more name_in items i x lt e

pub names_next : (items : List ModuleItem) (i : ℕ) (x : ModuleItem) (keys new : List Name) → i < length items → x ≡ get_or items i x → keys ≡ names_in (take i items)
    → AreNew [] (names_in (take i items)) → (new ≡ keys ++ name_in x) → AllByRecursion (λ n. list_any (same_name n) keys ≡ false) (name_in x)
    → (new ≡ names_in (take (i + 1) items)) × AreNew [] (names_in (take (i + 1) items))
names_next items i (item.Cursor y) keys new lt e is are one none =
    let more = names_more items i (item.Cursor y) lt e in
    (one ∙ ap (λ l. l ++ []) is ∙ sym more, rw more (rw (append-nil (names_in (take i items))) are))
names_next items i (item.Procedure y) keys new lt e is are one none =
    let more = names_more items i (item.Procedure y) lt e in
    (one ∙ ap (λ l. l ++ y.name ∷ []) is ∙ sym more, rw more (new_last [] (names_in (take i items)) y.name are (rw (← is) none.0)))

pub modules_next : (modules : List ModuleText) (i : ℕ) (m : ModuleText) (keys new : List Name) → i < length modules → m ≡ get_or modules i m → keys ≡ map (λ x. x.name) (take i modules)
    → HaveNames [] (take i modules) → list_any (same_name m.name) keys ≡ false → new ≡ keys ++ m.name ∷ [] → AreNew [] (names_in m.items)
    → (new ≡ map (λ x. x.name) (take (i + 1) modules)) × HaveNames [] (take (i + 1) modules)
modules_next modules i m keys new lt e is have none last own =
    let more : take (i + 1) modules ≡ take i modules ++ m ∷ [] = take_more modules i m lt ∙ ap (λ x. take i modules ++ x ∷ []) (sym e) in (
      last ∙ ap (λ l. l ++ m.name ∷ []) is ∙ sym (map-append (λ x. x.name) (take i modules) (m ∷ [])) ∙ sym (ap (map (λ x. x.name)) more),
      rw more (have_last [] (take i modules) m have (rw (← is) none) own),
    )

-- ---- what is admitted of the items of a module, and of modules, one after the other

pub procedures_next : (items : List ModuleItem) (i : ℕ) (x : ModuleItem) (admitted new : List AdmittedProcedure) → i < length items → x ≡ get_or items i x
    → procedure_names admitted ≡ names_in (take i items) → procedure_names new ≡ procedure_names admitted ++ name_in x → procedure_names new ≡ names_in (take (i + 1) items)
procedures_next items i x admitted new lt e are one = one ∙ ap (λ l. l ++ name_in x) are ∙ sym (names_more items i x lt e)

pub admitted_more : (admitted : List AdmittedModule) (one : AdmittedModule) (m : ModuleText) → module_keys one ≡ module_procedures m
    → admitted_procedures (admitted ++ one ∷ []) ≡ admitted_procedures admitted ++ module_procedures m
admitted_more admitted one m same =
    flat_map-append module_keys admitted (one ∷ []) ∙ ap (λ l. admitted_procedures admitted ++ l) (append-nil (module_keys one) ∙ same)

pub declared_next : (modules : List ModuleText) (i : ℕ) (m : ModuleText) (before now : List ProcedureName) → i < length modules → m ≡ get_or modules i m
    → before ≡ declared_procedures (take i modules) → now ≡ before ++ module_procedures m → now ≡ declared_procedures (take (i + 1) modules)
declared_next modules i m before now lt e are more = more ∙ ap (λ l. l ++ module_procedures m) are ∙ sym (flat_more module_procedures modules i m lt e)

-- ---- where names differ, the procedures of a program are those of the modules

abbrev key_of : Name → Name → ProcedureName
key_of «module» name = record { «module» = «module»; name = name }

keys_of_names : (m : Name) (items : List ModuleItem) → flat_map (procedure_in m) items ≡ map (key_of m) (names_in items)
keys_of_names m [] = refl
keys_of_names m (item.Cursor c ∷ items) = keys_of_names m items
keys_of_names m (item.Procedure p ∷ items) = ap (λ ks. key_of m p.name ∷ ks) (keys_of_names m items)

keys_of_admitted : (m : Name) (admitted : List AdmittedProcedure) → map (name_of m) admitted ≡ map (key_of m) (procedure_names admitted)
keys_of_admitted m [] = refl
keys_of_admitted m (p ∷ ps) = ap (λ ks. key_of m p.procedure.now.name ∷ ks) (keys_of_admitted m ps)

pub admitted_of_module : (m : ModuleText) (admitted : List AdmittedProcedure) → procedure_names admitted ≡ names_in m.items → map (name_of m.name) admitted ≡ module_procedures m
admitted_of_module m admitted are = keys_of_admitted m.name admitted ∙ ap (map (key_of m.name)) are ∙ sym (keys_of_names m.name m.items)

-- no key of that module
other_module : (m name : Name) (keys : List ProcedureName) → list_any (λ k. same_name m k.«module») keys ≡ false → list_any (same_procedure (key_of m name)) keys ≡ false
other_module m name [] none = refl
other_module m name (k ∷ keys) none = by (same_name m k.«module») refl (other_module m name keys)
  where
    by : (b : Bool) → same_name m k.«module» ≡ b → (list_any (λ x. same_name m x.«module») keys ≡ false → list_any (same_procedure (key_of m name)) keys ≡ false)
        → list_any (same_procedure (key_of m name)) (k ∷ keys) ≡ false
    by true h rest = absurd (true≢false (sym (ap (λ b. b || list_any (λ x. same_name m x.«module») keys) h) ∙ none))
    by false h rest = rw h (rest (sym (ap (λ b. b || list_any (λ x. same_name m x.«module») keys) h) ∙ none))

other_name : (m name : Name) (names : List Name) → list_any (same_name name) names ≡ false → list_any (same_procedure (key_of m name)) (map (key_of m) names) ≡ false
other_name m name [] none = refl
other_name m name (n ∷ names) none = by (same_name name n) refl (other_name m name names)
  where
    no : (b : Bool) → b && false ≡ false
    no true = refl
    no false = refl

    by : (b : Bool) → same_name name n ≡ b → (list_any (same_name name) names ≡ false → list_any (same_procedure (key_of m name)) (map (key_of m) names) ≡ false)
        → list_any (same_procedure (key_of m name)) (map (key_of m) (n ∷ names)) ≡ false
    by true h rest = absurd (true≢false (sym (ap (λ b. b || list_any (same_name name) names) h) ∙ none))
    by false h rest = rw h (rw (no (same_name m m)) (rest (sym (ap (λ b. b || list_any (same_name name) names) h) ∙ none)))

keys_of_module : (m : Name) (before : List ProcedureName) (earlier names : List Name) → list_any (λ k. same_name m k.«module») before ≡ false → AreNew earlier names
    → with_procedures (before ++ map (key_of m) earlier) (map (key_of m) names) ≡ (before ++ map (key_of m) earlier) ++ map (key_of m) names
keys_of_module m before earlier [] none are = sym (append-nil (before ++ map (key_of m) earlier))
keys_of_module m before earlier (n ∷ names) none are =
    let now = before ++ map (key_of m) earlier in
    let fresh : list_any (same_procedure (key_of m n)) now ≡ false =
    list_any-append (same_procedure (key_of m n)) before (map (key_of m) earlier)
    ∙ ap₂ (λ a b. a || b) (other_module m n before none) (other_name m n earlier are.0) in
    let more : before ++ map (key_of m) (earlier ++ n ∷ []) ≡ now ++ key_of m n ∷ [] =
    ap (λ l. before ++ l) (map-append (key_of m) earlier (n ∷ [])) ∙ sym (append_assoc before (map (key_of m) earlier) (key_of m n ∷ [])) in
    let rest : with_procedures (now ++ key_of m n ∷ []) (map (key_of m) names) ≡ (now ++ key_of m n ∷ []) ++ map (key_of m) names =
    rw more at (keys_of_module m before (earlier ++ n ∷ []) names none are.1) in
    ap (λ b. with_procedures (if b then now else now ++ key_of m n ∷ []) (map (key_of m) names)) fresh ∙ rest ∙ append_assoc now (key_of m n ∷ []) (map (key_of m) names)

-- keys of these modules alone
abbrev OfModules : List Name → List ProcedureName → Type 0
OfModules names keys = (m : Name) → list_any (same_name m) names ≡ false → list_any (λ k. same_name m k.«module») keys ≡ false

own_keys : (m x : Name) (names : List Name) → same_name x m ≡ false → list_any (λ k. same_name x k.«module») (map (key_of m) names) ≡ false
own_keys m x [] h = refl
own_keys m x (n ∷ names) h = rw h (own_keys m x names h)

of_more : (names : List Name) (keys : List ProcedureName) (m : Name) (own : List Name) → OfModules names keys → OfModules (names ++ m ∷ []) (keys ++ map (key_of m) own)
of_more names keys m own of x none =
    by (list_any (same_name x) names) (same_name x m) refl refl (sym (list_any-append (same_name x) names (m ∷ [])) ∙ none)
  where
    by : (a b : Bool) → list_any (same_name x) names ≡ a → same_name x m ≡ b → (list_any (same_name x) names || (same_name x m || false)) ≡ false
        → list_any (λ k. same_name x k.«module») (keys ++ map (key_of m) own) ≡ false
    by true b p q h = absurd (true≢false (sym (ap (λ c. c || (same_name x m || false)) p) ∙ h))
    by false true p q h = absurd (true≢false (sym (ap₂ (λ c d. c || (d || false)) p q) ∙ h))
    by false false p q h = list_any-append (λ k. same_name x k.«module») keys (map (key_of m) own) ∙ ap₂ (λ c d. c || d) (of x p) (own_keys m x own q)

all_keys : (names : List Name) (keys : List ProcedureName) (modules : List ModuleText) → OfModules names keys → HaveNames names modules
    → with_procedures keys (declared_procedures modules) ≡ keys ++ declared_procedures modules
all_keys names keys [] of have = sym (append-nil keys)
all_keys names keys (m ∷ modules) of have =
    let own = names_in m.items in
    let same : module_procedures m ≡ map (key_of m.name) own = keys_of_names m.name m.items in
    let here : with_procedures keys (module_procedures m) ≡ keys ++ module_procedures m =
    rw same (rw (append-nil keys) at (keys_of_module m.name keys [] own (of m.name have.0) have.1)) in
    let rest : with_procedures (keys ++ map (key_of m.name) own) (declared_procedures modules) ≡ (keys ++ map (key_of m.name) own) ++ declared_procedures modules =
    all_keys (names ++ m.name ∷ []) (keys ++ map (key_of m.name) own) modules (of_more names keys m.name own of) have.2 in
    fold_append (insert_key same_procedure) keys (module_procedures m) (declared_procedures modules)
    ∙ ap (λ ks. with_procedures ks (declared_procedures modules)) (here ∙ ap (λ ks. keys ++ ks) same) ∙ rest
    ∙ ap (λ ks. (keys ++ ks) ++ declared_procedures modules) (sym same) ∙ append_assoc keys (module_procedures m) (declared_procedures modules)

pub all_declared : (modules : List ModuleText) → HaveNames [] modules → with_procedures [] (declared_procedures modules) ≡ declared_procedures modules
all_declared modules have = all_keys [] [] modules (λ m none. refl) have
