use Rattle.radix4.proofs.Recurrence.{near}
use Rattle.radix4.proofs.fourfold.Goals as goal

pub returns : goal.returns
returns c =
    let both = near _ _ _ _ _ c.of.ensures c.developed.ensures.sum c.developed.ensures.bounded in
    record {
      below = rw (← c.dividend.ensures.value) both.0;
      above = rw (← c.dividend.ensures.value) both.1;
      short = c.developed.ensures.short;
    }
