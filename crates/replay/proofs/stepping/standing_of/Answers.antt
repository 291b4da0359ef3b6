use Rattle.std.proofs.Common.{◌≡◌, ℕ, ◌-◌, ◌<◌, List, ◌++◌, length, take, set, replicate, sym, ap, ◌∙◌, arith}
use Rattle.rounding.specs.declared.encoding.Encoding.{Encoding}
use Rattle.replay.proofs.Filling.{filled_more, take_whole, nth_some}
use Rattle.replay.proofs.stepping.standing_of.Goals as goal
use Rattle.replay.proofs.stepping.standing_of.Goals.{in-Some, in_default}

pub loop-i-preserved : goal.loop-i-preserved
loop-i-preserved g c =
    let xs : List Encoding = c.args.meter.now.model.replies in
    let i : ℕ = c.loop-i.i in
    let far : i < 288 = omega (arith, c.loop-i-test.true, c.standing-i-end.ensures.few) in
    let inside : i < length xs = omega (arith, c.loop-i-test.true, c.standing-i-end.ensures.is) in
    elim c.match-reply_at.branch [
      | in-Some w ↦
          w.list-is ∙ ap (λ (l : List Encoding). set l i w.in-Some.reply) c.loop-i.invariant
          ∙ filled_more xs 288 i w.in-Some.reply (record { bits = 0 }) (sym w.in-Some.ensures.is) far
      | in_default w ↦ absurd (nth_some xs i inside (sym w.in_default.ensures.is))
    ]

pub returns : goal.returns
returns g c =
    let xs : List Encoding = c.args.meter.now.model.replies in
    let e : c.loop-i.i ≡ length xs = omega (arith, c.loop-i-test.false, c.loop-i.auto.i-end, c.standing-i-end.ensures.is) in
    c.loop-i.invariant ∙ ap (λ (n : ℕ). take n xs ++ replicate (288 - n) (record { bits = 0 })) e
    ∙ ap (λ (l : List Encoding). l ++ replicate (288 - length xs) (record { bits = 0 })) (take_whole xs)
