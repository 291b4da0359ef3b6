-- Inverter addresses.
use Rattle.std.specs.Prelude.{ℕ, cond, ◌&&◌, Some, None, Option, nat_le}
use Rattle.meter.specs.declared.fault.MeterFault.{MeterFault}
use Rattle.meter.specs.declared.fault.MeterFault.TheVariants.{Address}

-- 1 to 247 are accepted, all others refused
abbrev pub refuses_address : ℕ → Option MeterFault
refuses_address a = cond (nat_le 1 a && nat_le a 247) None (Some Address)
