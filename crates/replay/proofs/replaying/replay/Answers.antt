use Rattle.replay.specs.Promise.{Run}
use Rattle.replay.proofs.Promises.{promise, watched}
use Rattle.replay.proofs.replaying.replay.Goals as goal

pub returns : goal.returns
returns g c =
    let a = c.args.first in
    let b = c.args.second in
    let r : Run = record { address = a.address.number; rule = g.R.Rule.meaning a.rule; engine = g.E.Engine.logged a.engine; calls = c.args.first_calls.now; lent = c.args.first_steps.now; steps = c.run-first_engine.new.steps } in
    let q : Run = record { address = b.address.number; rule = g.S.Rule.meaning b.rule; engine = g.F.Engine.logged b.engine; calls = c.args.second_calls.now; lent = c.args.second_steps.now; steps = c.run-second_engine.new.steps } in
    record {
      promise =
          promise r q (g.met.R.Rule.lawful a.rule) (g.met.S.Rule.lawful b.rule)
          (watched r c.run-first_engine.auto.steps c.run-first_engine.ensures.written)
          (watched q c.run-second_engine.auto.steps c.run-second_engine.ensures.written);
      first_engine = c.run-first_engine.ensures.engine;
      second_engine = c.run-second_engine.ensures.engine;
    }
