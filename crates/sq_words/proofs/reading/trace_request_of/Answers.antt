-- Left open for trace_request_of: the clause made; answered by laws of clap.
use Rattle.std.proofs.Common.{◌∙◌}
use Rattle.std.specs.Prelude.{codes}
use Rattle.clap.specs.Words.{found_of}
use Rattle.clap.proofs.WalkLemmas.{first_value-rows, one_text-rows}
use Rattle.sq_words.proofs.reading.trace_request_of.Goals as goal

pub returns-clause-made : goal.returns-clause-made
returns-clause-made c =
    let found = found_of c.args.trace.now in
    record {
      run = c.in_ok-request_of.ensures.made;
      tables = record {
        none = λ e. c.get_flag.ensures.none (one_text-rows found (codes "tables") ∙ e);
        given = λ e. c.get_flag.ensures.value (one_text-rows found (codes "tables") ∙ e);
        other = λ e. c.get_flag.ensures.other (one_text-rows found (codes "tables") ∙ e);
      };
      stop = record {
        none = λ e. c.get_flag-2.ensures.none (one_text-rows found (codes "stop") ∙ e);
        given = λ e. c.get_flag-2.ensures.value (one_text-rows found (codes "stop") ∙ e);
        other = λ e. c.get_flag-2.ensures.other (one_text-rows found (codes "stop") ∙ e);
      };
      html = c.get_str.ensures ∙ first_value-rows found (codes "html");
    }
