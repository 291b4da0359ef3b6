use Rattle.std.proofs.Common.{◌≡◌, ℕ, ◌-◌, ◌<◌, List, ◌++◌, map, length, take, set, replicate, sym, ap, ◌∙◌, arith}
use Rattle.std.proofs.lemmas.List.{length-map, take_all}
use Rattle.std.specs.List.{slice_get}
use Rattle.rounding.specs.declared.encoding.Encoding.{Encoding}
use Rattle.replay.proofs.Filling.{filled_more, nth_some}
use Rattle.c_interface.proofs.Cells.{nth_bits}
use Rattle.c_interface.proofs.shown.replies_of.Goals as goal
use Rattle.c_interface.proofs.shown.replies_of.Goals.{in-Some, in_default}

pub loop-i-preserved : goal.loop-i-preserved
loop-i-preserved c =
    let xs : List Encoding = c.args.meter.now.model.replies in
    let i : ℕ = c.loop-i.i in
    let far : i < 288 = omega (arith, c.loop-i-test.true, c.standing-i-end.ensures.few) in
    let inside : i < length xs = omega (arith, c.loop-i-test.true, c.standing-i-end.ensures.is) in
    elim c.match-reply_at.branch [
      | in-Some w ↦
          w.list-is
          ∙ ap (λ (l : List ℕ). set l i w.to_bits.result) c.loop-i.invariant
          ∙ ap (λ (v : ℕ). set (take i (map (λ (e : Encoding). e.bits) xs) ++ replicate (288 - i) 0) i v) w.to_bits.ensures
          ∙ filled_more (map (λ (e : Encoding). e.bits) xs) 288 i w.in-Some.reply.bits 0 (nth_bits xs i w.in-Some.reply (sym {b = slice_get xs i} w.in-Some.ensures.is)) far
      | in_default w ↦ absurd (nth_some xs i inside (sym {b = slice_get xs i} w.in_default.ensures.is))
    ]

pub returns : goal.returns
returns c =
    let xs : List Encoding = c.args.meter.now.model.replies in
    let e : c.loop-i.i ≡ length xs = omega (arith, c.loop-i-test.false, c.loop-i.auto.i-end, c.standing-i-end.ensures.is) in
    let ns : List ℕ = map (λ (x : Encoding). x.bits) xs in
    let long : length ns ≡ length xs = length-map xs (λ (x : Encoding). x.bits) in
    c.loop-i.invariant
    ∙ ap (λ (n : ℕ). take n ns ++ replicate (288 - n) 0) e
    ∙ ap (λ (l : List ℕ). l ++ replicate (288 - length xs) 0) (take_all (length xs) ns (omega arith))
