-- A meter as C holds it: plain numbers, which stand for a meter or for none.
use Rattle.std.specs.Prelude.{ℕ, ◌-◌, Bool, true, cond, ◌&&◌, List, [], ◌∷◌, ◌++◌, map, length, take, replicate, Some, None, Option, ◌==◌, nat_le}
use Rattle.rounding.specs.declared.encoding.Encoding.{Encoding}
use Rattle.rounding.specs.declared.rules.AnyRule.{AnyRule}
use Rattle.rounding.specs.Format.{binary32, is_finite}
use Rattle.engine_choice.specs.declared.EngineName.{EngineName}
use Rattle.meter.specs.Model.{Model}
use Rattle.c_interface.specs.declared.data.MeterData.{MeterData}
use Rattle.c_interface.specs.Refusals.{found}
use Rattle.c_interface.specs.Numbers.{engine_numbered, rule_numbered}

-- what the numbers stand for
pub record Held : Type 0 where
  pub model : Model
  pub engine : EngineName
  pub rule : AnyRule

-- numbers as encodings
abbrev pub encodings : List ℕ → List Encoding
encodings ns = map (λ n. record { bits = n }) ns

unfoldable pub all_finite : List Encoding → Bool
all_finite [] = true
all_finite (x ∷ xs) = is_finite binary32 x.bits && all_finite xs

-- the replies that stand: the first cells, as many as are said to stand
abbrev pub replies_in : MeterData → List Encoding
replies_in d = encodings (take d.standing d.replies)

-- an address from 1 to 247, no more replies than there is room for, each of them finite, and a pending poll or none
abbrev pub is_meter : MeterData → Bool
is_meter d =
    (nat_le 1 d.address && nat_le d.address 247) && (nat_le d.standing 288 && (nat_le d.pending 1 && all_finite (replies_in d)))

abbrev pub model_in : MeterData → Model
model_in d = record { address = d.address; pending = (d.pending == 1); replies = replies_in d }

-- the meter, where the numbers stand for one
unfoldable pub held : MeterData → Option Held
held d =
    found (engine_numbered d.engine) None (λ e.
    found (rule_numbered d.rule) None (λ r.
    cond (is_meter d) (Some (record { model = model_in d; engine = e; rule = r })) None))

-- replies as numbers in 288 cells, with 0 in those where none stands
abbrev pub cells : List Encoding → List ℕ
cells xs = map (λ x. x.bits) xs ++ replicate (288 - length xs) 0

-- a model as C holds it, with the engine and the rule of the numbers that it came from
abbrev pub shown : MeterData → Model → MeterData
shown d m =
    record {
      replies = cells m.replies;
      standing = length m.replies;
      address = m.address;
      engine = d.engine;
      rule = d.rule;
      pending = cond m.pending 1 0;
    }

-- what the numbers stand for once the model has changed: engine and rule stay
abbrev pub again : Option Held → Model → Option Held
again o m = found o None (λ h. Some (record { model = m; engine = h.engine; rule = h.rule }))
