-- Left open for new_request_of: the premise of the call of unwrap, and its result; answered by Read.
use Rattle.std.proofs.Common.{◌∙◌, ap, sym}
use Rattle.std.specs.Prelude.{codes, option_map}
use Rattle.clap.specs.Words.{found_of}
use Rattle.clap.proofs.CallerLemmas.{some_of_text}
use Rattle.sq_words.proofs.Read.{first_read}
use Rattle.sq_words.proofs.reading.new_request_of.Goals as goal

pub unwrap-requires : goal.unwrap-requires
unwrap-requires c =
    let folder = first_read (found_of c.args.new.now) (codes "folder") c.get_str.result c.get_str.ensures in
    some_of_text (λ s. s.now) c.get_str.result _ folder c.requires

pub returns : goal.returns
returns c =
    let folder = first_read (found_of c.args.new.now) (codes "folder") c.get_str.result c.get_str.ensures in
    sym (ap (option_map (λ s. s.now)) c.unwrap.ensures) ∙ folder
