-- Left open for request_of: the premise of the call of unwrap, and the clause made; answered by Read.
use Rattle.std.proofs.Common.{◌∙◌, ap, sym}
use Rattle.std.specs.Prelude.{option_map}
use Rattle.clap.specs.Words.{found_of}
use Rattle.clap.proofs.CallerLemmas.{some_of_text}
use Rattle.sq_words.proofs.Read.{script_read}
use Rattle.sq_words.proofs.reading.request_of.Goals as goal

pub unwrap-requires : goal.unwrap-requires
unwrap-requires c =
    let script = script_read (found_of c.args.run.now) c.get_str.result c.get_str.ensures in
    some_of_text (λ s. s.now) c.get_str.result _ script c.requires.0

pub returns-clause-made : goal.returns-clause-made
returns-clause-made c =
    let script = script_read (found_of c.args.run.now) c.get_str.result c.get_str.ensures in
    record {
      schemas = c.in_ok-files.ensures;
      modules = c.in_ok-files-2.ensures;
      script = sym (ap (option_map (λ s. s.now)) c.unwrap.ensures) ∙ script;
      row_numbers = c.row_numbers.ensures.given;
    }
