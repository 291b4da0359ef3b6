use Rattle.std.proofs.Common.{◌≡◌, ◌-◌, ◌*◌, ◌^◌, ◌<◌, ◌≤◌}
use Rattle.places.proofs.leading.doubled.Given as goal

abbrev pub invariant-loop-reached : goal.invariant-loop-reached
invariant-loop-reached l = (l.reached ≡ l.number * 2 ^ l.times) × (l.times ≤ 48) × (l.number < 2 * l.limit → l.reached < 2 * l.limit) × (l.limit ≤ l.number → l.times ≡ 0)

abbrev pub decreases-loop-reached : goal.decreases-loop-reached
decreases-loop-reached l = l.limit - l.reached
