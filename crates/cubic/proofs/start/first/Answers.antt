use Rattle.std.proofs.Common.{refl, arith}
use Rattle.cubic.proofs.Polynomials.{valued, near, sound, close, closes}
use Rattle.cubic.proofs.start.first.Goals as goal

-- the computed tests, at the coefficients that the code passes
pub at-requires : goal.at-requires
unfolding sound
at-requires c = valued 1024 _ refl (omega arith) (omega arith)

pub at-requires-else-leading-lt1536 : goal.at-requires-else-leading-lt1536
unfolding sound
at-requires-else-leading-lt1536 c = valued 1536 _ refl (omega arith) (omega arith)

pub returns-then-leading-lt1536 : goal.returns-then-leading-lt1536
unfolding close closes
returns-then-leading-lt1536 c = rw c.divisor.ensures.value at (near 1024 _ _ c.at.ensures refl (omega arith) (omega arith))

pub returns-else-leading-lt1536 : goal.returns-else-leading-lt1536
unfolding close closes
returns-else-leading-lt1536 c = rw c.divisor.ensures.value at (near 1536 _ _ c.at-else-leading-lt1536.ensures refl (omega arith) (omega arith))
