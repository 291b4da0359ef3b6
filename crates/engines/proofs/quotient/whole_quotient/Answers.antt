use Rattle.engines.proofs.Correction.{lowered_by, kept_by}
use Rattle.engines.proofs.quotient.whole_quotient.Goals as goal

pub returns-then-candidate-divisor-clause-value : goal.returns-then-candidate-divisor-clause-value
returns-then-candidate-divisor-clause-value g c =
    lowered_by _ _ _ _ c.estimate-candidate.ensures.value c.if-candidate-divisor.true

pub returns-else-candidate-divisor-clause-value : goal.returns-else-candidate-divisor-clause-value
returns-else-candidate-divisor-clause-value g c =
    kept_by _ _ _ _ c.estimate-candidate.ensures.value c.if-candidate-divisor.false
