use Rattle.std.proofs.Common.{◌≡◌, ◌+◌, ◌^◌, ◌<◌, Bool, List, ℤ, length, arith, rules}
use Rattle.places.specs.Digits.{bits_value}
use Rattle.places.specs.Spread.{spread, ups, downs, raised, taken}
use Rattle.places.proofs.Spreading.{spread_lifted, taken_raised}
use Rattle.places.proofs.Lacking.{at_raise, not_below, below_raise, cleared}
use Rattle.places.proofs.sums.signed_sum.Goals as goal
use Rattle.places.proofs.sums.signed_sum.Goals.{After-spread_sum-size}

-- the raised sum
sum : (c : After-spread_sum-size) → (bits_value c.spread_sum-size.result.digits + spread 1 (downs c.args.words.now) 255 ≡ spread 1 (ups c.args.words.now) 255 + 2 ^ 317) × (bits_value c.spread_sum-size.result.digits < 2 ^ 318)
sum c =
    let ws : List ℤ = c.args.words.now in
    let long : length ws ≡ 255 = search rules in
    let each = c.spread_sum-size.ensures.each in
    rw c.spread_sum-size.ensures.sum (spread_lifted (taken raised ws) (downs ws) (ups ws) (λ k lt. taken_raised ws k (omega arith) (each k lt).1) (λ k lt. (each k lt).0))

pub lacking-size-requires : goal.lacking-size-requires
lacking-size-requires c =
    let xs : List Bool = c.spread_sum-size.result.digits in
    let within : 317 < length xs = search rules in
    (at_raise xs 317 within (sum (goal.at.lacking-size-requires c).After-spread_sum-size).1).1 c.if-negative.true

pub returns-then-negative : goal.returns-then-negative
returns-then-negative c =
    let xs : List Bool = c.spread_sum-size.result.digits in
    let within : 317 < length xs = search rules in
    let raised = sum (goal.at.returns-then-negative c).After-spread_sum-size in
    let short = (at_raise xs 317 within raised.1).1 c.if-negative.true in
    let both = below_raise (bits_value xs) (spread 1 (ups c.args.words.now) 255) (spread 1 (downs c.args.words.now) 255) (2 ^ 317) _ raised.0 short c.lacking-size.ensures in
    record { sign = rw c.if-negative.true both.0; size = both.1 }

pub returns-else-negative : goal.returns-else-negative
returns-else-negative c =
    let xs : List Bool = c.spread_sum-size.result.digits in
    let within : 317 < length xs = search rules in
    let raised = sum (goal.at.returns-else-negative c).After-spread_sum-size in
    let reached = (at_raise xs 317 within raised.1).0 c.if-negative.false in
    let both = not_below (bits_value xs) (spread 1 (ups c.args.words.now) 255) (spread 1 (downs c.args.words.now) 255) (2 ^ 317) _ raised.0 reached (cleared xs 317 within c.if-negative.false) in
    record { sign = rw c.if-negative.false both.0; size = both.1 }
