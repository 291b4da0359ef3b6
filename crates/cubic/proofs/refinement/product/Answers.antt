use Rattle.std.proofs.Common.{arith}
use Rattle.cubic.proofs.Newton.{product_above, product_below, product_short}
use Rattle.cubic.proofs.refinement.product.Goals as goal

pub overflow_cast-result-3 : goal.overflow_cast-result-3
overflow_cast-result-3 c =
    let short = product_short _ c.dividend.result _ (omega arith) c.requires in
    record { fits = omega arith }

pub returns : goal.returns
returns c = record {
  above = rw (← c.dividend.ensures.value) (product_above _ _ _ (omega arith) c.requires);
  below = rw (← c.dividend.ensures.value) (product_below _ _ _ (omega arith) c.requires);
  short = product_short _ _ _ (omega arith) c.requires;
}
