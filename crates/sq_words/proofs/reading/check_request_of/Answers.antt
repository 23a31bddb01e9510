-- Left open for check_request_of: its result; answered by laws of clap.
use Rattle.std.proofs.Common.{◌∙◌}
use Rattle.std.specs.Prelude.{codes}
use Rattle.clap.specs.Words.{found_of}
use Rattle.clap.proofs.WalkLemmas.{first_value-rows, one_text-rows}
use Rattle.sq_words.proofs.reading.check_request_of.Goals as goal

pub returns : goal.returns
returns c =
    let found = found_of c.args.check.now in
    record {
      texts = c.in_ok-texts_request_of.ensures;
      script = c.get_str.ensures ∙ first_value-rows found (codes "script");
      quiet = record {
        none = λ e. c.get_flag.ensures.none (one_text-rows found (codes "quiet") ∙ e);
        given = λ e. c.get_flag.ensures.value (one_text-rows found (codes "quiet") ∙ e);
        other = λ e. c.get_flag.ensures.other (one_text-rows found (codes "quiet") ∙ e);
      };
      json = record {
        none = λ e. c.get_flag-2.ensures.none (one_text-rows found (codes "json") ∙ e);
        given = λ e. c.get_flag-2.ensures.value (one_text-rows found (codes "json") ∙ e);
        other = λ e. c.get_flag-2.ensures.other (one_text-rows found (codes "json") ∙ e);
      };
      ways = record {
        none = λ e. c.get_flag-3.ensures.none (one_text-rows found (codes "ways") ∙ e);
        given = λ e. c.get_flag-3.ensures.value (one_text-rows found (codes "ways") ∙ e);
        other = λ e. c.get_flag-3.ensures.other (one_text-rows found (codes "ways") ∙ e);
      };
    }
