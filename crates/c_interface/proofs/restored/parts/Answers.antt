use Rattle.std.proofs.Common.{◌≡◌, false, length, Some, is_some, ap, arith, rules}
use Rattle.std.proofs.lemmas.List.{length-take-le}
use Rattle.std.proofs.lemmas.Result.{err_from_is_err_and}
use Rattle.c_interface.proofs.Restoring.{no_engine, no_rule, no_meter, too_many, no_pending, cut, too_short}
use Rattle.c_interface.proofs.restored.parts.Goals as goal

pub returns-in_err-engine : goal.returns-in_err-engine
returns-in_err-engine c =
    let d = c.args.numbers.now in
    let p = err_from_is_err_and c.from_residual.result c.from_residual.ensures.1 in
    rw p.1 (no_engine d c.in_err-engine.ensures.0)

pub returns-in_err-rule : goal.returns-in_err-rule
returns-in_err-rule c =
    let d = c.args.numbers.now in
    let p = err_from_is_err_and c.from_residual-in_err-rule.result c.from_residual-in_err-rule.ensures.1 in
    rw p.1 (no_rule d c.in_err-rule.ensures.0)

pub returns-in_err-address : goal.returns-in_err-address
returns-in_err-address c =
    let d = c.args.numbers.now in
    let p = err_from_is_err_and c.from_residual-in_err-address.result c.from_residual-in_err-address.ensures.1 in
    rw p.1 (no_meter d (search rules))

pub returns-in_err-replies : goal.returns-in_err-replies
returns-in_err-replies c =
    let d = c.args.numbers.now in
    let p = err_from_is_err_and c.from_residual-in_err-replies.result c.from_residual-in_err-replies.ensures.1 in
    let long : length d.replies ≡ 288 = search rules in
    let none : is_some c.get.result ≡ false = search rules in
    rw p.1 (no_meter d (too_many d (omega (arith, too_short d.replies d.standing c.get.result c.get.ensures.lookup none))))

pub returns-then-numbers-gt1 : goal.returns-then-numbers-gt1
returns-then-numbers-gt1 c = no_meter c.args.numbers.now (no_pending c.args.numbers.now (omega arith))

pub returns : goal.returns
returns c =
    let d = c.args.numbers.now in
    let long : length d.replies ≡ 288 = search rules in
    let some : c.get.result ≡ Some c.in_ok-replies.replies = search rules in
    let first = cut d.replies d.standing c.in_ok-replies.replies c.get.result c.get.ensures.lookup some in
    (c.in_ok-engine.ensures, c.in_ok-rule.ensures, search rules, first.0, omega (arith, ap length first.0, length-take-le d.standing d.replies first.1, first.1), omega (arith, first.1), c.if-numbers-gt1.false)
