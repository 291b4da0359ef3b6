use Rattle.std.proofs.Common.{refl}
use Rattle.rounding.specs.Format.{significand, shift, value}
use Rattle.rounding.specs.Rounding.{doublings, place, unit, whole, remainder, kind, rest, low, odd, chosen, settled, raised}
use Rattle.window.specs.Replies.{worth_of, sum_z}
use Rattle.replay.proofs.examples.examples_hold.Goals as goal

pub returns : goal.returns
unfolding significand shift value doublings place unit whole remainder kind rest low odd chosen settled raised worth_of sum_z
returns c =
    record {
      by_zero = refl;
      tie_to_zero = refl;
      tie_to_two = refl;
      to_normal = refl;
      stays_finite = refl;
      upward = refl;
      below_overflow = refl;
      overflows = refl;
      mean_of_three = refl;
      least_address = refl;
      greatest_address = refl;
      address_below = refl;
      address_above = refl;
      address_number = refl;
      last_reply = refl;
      reply_too_many = refl;
      full_number = refl;
      first_repeat = refl;
      second_repeat = refl;
      third_repeat = refl;
      last_number = refl;
    }
