-- Left open for test_request_of: its result; answered by laws of clap.
use Rattle.std.proofs.Common.{◌∙◌}
use Rattle.std.specs.Prelude.{codes}
use Rattle.clap.specs.Words.{found_of}
use Rattle.clap.proofs.WalkLemmas.{first_value-rows, one_text-rows}
use Rattle.sq_words.proofs.reading.test_request_of.Goals as goal

pub returns : goal.returns
returns c =
    let found = found_of c.args.test.now in
    record {
      folders = c.in_ok-files.ensures;
      filters = c.in_ok-files-2.ensures;
      shard = c.get_str.ensures ∙ first_value-rows found (codes "shard");
      junit = c.get_str-2.ensures ∙ first_value-rows found (codes "junit");
      list = record {
        none = λ e. c.get_flag.ensures.none (one_text-rows found (codes "list") ∙ e);
        given = λ e. c.get_flag.ensures.value (one_text-rows found (codes "list") ∙ e);
        other = λ e. c.get_flag.ensures.other (one_text-rows found (codes "list") ∙ e);
      };
      update = record {
        none = λ e. c.get_flag-2.ensures.none (one_text-rows found (codes "update") ∙ e);
        given = λ e. c.get_flag-2.ensures.value (one_text-rows found (codes "update") ∙ e);
        other = λ e. c.get_flag-2.ensures.other (one_text-rows found (codes "update") ∙ e);
      };
    }
