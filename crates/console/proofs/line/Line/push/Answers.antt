use Rattle.std.proofs.Common.{arith}
use Rattle.console.proofs.Fronts.{front_full, front_more}
use Rattle.console.proofs.line.Line.push.Goals as goal

pub returns-then-self-lt-ROOM : goal.returns-then-self-lt-ROOM
returns-then-self-lt-ROOM c whole keeps =
    front_more c.args.self.now.bytes whole c.args.self.now.count c.args.byte (omega arith) (omega arith) keeps

pub returns-else-self-lt-ROOM : goal.returns-else-self-lt-ROOM
returns-else-self-lt-ROOM c whole keeps =
    front_full c.args.self.now.bytes whole c.args.self.now.count c.args.byte (omega arith) (omega arith) keeps
