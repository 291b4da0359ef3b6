use Rattle.std.proofs.Common.{◌∙◌}
use Rattle.console.proofs.Fronts.{front_decides}
use Rattle.console.proofs.replies.answer.Goals as goal

pub returns : goal.returns
returns c =
    record {
      answered =
          λ whole keeps.
          let a = c.answer.ensures.answered in
          record {
            result = a.result;
            responds =
                record {
                  form = a.responds.form;
                  reads = front_decides whole a.responds.form (rw (c.bytes.ensures ∙ keeps) at a.responds.reads);
                  comes = a.responds.comes;
                  fitted = a.responds.fitted;
                };
            ends = a.ends;
            holds = a.holds;
          };
      fits = c.answer.ensures.fits;
    }
