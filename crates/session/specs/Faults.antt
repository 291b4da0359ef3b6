-- What a line is refused for: each fault's number, and the layer that it starts in.
use Rattle.std.specs.Prelude.{ℕ}
use Rattle.meter.specs.Faults.{number as meter_number, layer_of as meter_layer}
use Rattle.meter.specs.declared.fault.Layer.{Layer}
use Rattle.meter.specs.declared.fault.Layer.TheVariants as layer
use Rattle.session.specs.declared.fault.ConsoleFault.{ConsoleFault}
use Rattle.session.specs.declared.fault.ConsoleFault.TheVariants as fault

abbrev pub number : ConsoleFault → ℕ
number fault.Text = 1
number (fault.Meter m) = meter_number m

abbrev pub layer_of : ConsoleFault → Layer
layer_of fault.Text = layer.Text
layer_of (fault.Meter m) = meter_layer m
