use Rattle.std.proofs.Common.{◌≡◌, length, ◌∙◌, arith, rules}
use Rattle.window.proofs.Turning.{ringed_length, ringed_newest}
use Rattle.window.proofs.ring.Ring.with_newest.Goals as goal

pub returns-then-self-eq-ROOM : goal.returns-then-self-eq-ROOM
returns-then-self-eq-ROOM c = ringed_length c.args.self.cells c.args.self.start c.args.self.count ∙ c.if-self-eq-ROOM.true

pub returns : goal.returns
returns c =
    let r = c.args.self in
    let full : length r.cells ≡ 288 = search rules in (
      omega (arith, ringed_length r.cells r.start r.count),
      rw c.cell.ensures (ringed_newest r.cells r.start r.count c.args.reply full (omega arith)),
    )
