-- What a meter refuses: each fault's number, and the layer that it starts in.
use Rattle.std.specs.Prelude.{ℕ}
use Rattle.window.specs.Faults.{number as window_number}
use Rattle.meter.specs.declared.fault.MeterFault.{MeterFault}
use Rattle.meter.specs.declared.fault.MeterFault.TheVariants.{Window, Address, NotFinite, OtherAddress, StillPending, NonePending, LastAttempt}
use Rattle.meter.specs.declared.fault.Layer.{Layer}
use Rattle.meter.specs.declared.fault.Layer.TheVariants as layer

abbrev pub number : MeterFault → ℕ
number (Window w) = window_number w
number Address = 2
number NotFinite = 3
number OtherAddress = 4
number StillPending = 5
number NonePending = 6
number LastAttempt = 9

abbrev pub layer_of : MeterFault → Layer
layer_of (Window w) = layer.Window
layer_of Address = layer.Poll
layer_of NotFinite = layer.Poll
layer_of OtherAddress = layer.Poll
layer_of StillPending = layer.Poll
layer_of NonePending = layer.Poll
layer_of LastAttempt = layer.Poll
