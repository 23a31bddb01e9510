-- Left open for files: its result; answered by Read.
use Rattle.std.proofs.Common.{◌∙◌, List, [], ap, map, sym}
use Rattle.std.proofs.lemmas.Result.{IfOk-weaker}
use Rattle.std.specs.Prelude.{option_map, unwrap_or}
use Rattle.std.specs.Borrow.{Bor}
use Rattle.clap.specs.Words.{Text, found_of}
use Rattle.sq_words.proofs.Read.{files_read}
use Rattle.sq_words.proofs.reading.files.Goals as goal

abbrev texts : List (Bor Text) → List Text
texts = map (λ file. file.now)

pub returns-in-Some : goal.returns-in-Some
returns-in-Some c =
    let read = files_read (found_of c.args.run.now) c.args.option.now c.get_strs.result c.get_strs.ensures in
    let given = sym (ap (λ o. unwrap_or (option_map (λ s. texts s.now) o) []) c.in-Some.is) ∙ read in
    IfOk-weaker c.from_slice.result _ _ (λ files copied. ap texts copied ∙ given) c.from_slice.ensures.items

pub returns-in-None : goal.returns-in-None
returns-in-None c =
    let read = files_read (found_of c.args.run.now) c.args.option.now c.get_strs.result c.get_strs.ensures in
    ap texts c.new.ensures.items ∙ (sym (ap (λ o. unwrap_or (option_map (λ s. texts s.now) o) []) c.in-None.is) ∙ read)
