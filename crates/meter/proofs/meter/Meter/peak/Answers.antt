use Rattle.std.proofs.Common.{◌-◌, arith, rules}
use Rattle.std.proofs.lemmas.Option.{slice_get_within}
use Rattle.window.specs.Window.{standing}
use Rattle.window.proofs.Facts.{standing_few, standing_finite, peak_finite}
use Rattle.meter.proofs.meter.Meter.peak.Goals as goal

pub returns : goal.returns
returns g c =
    let p = c.in_ok-peak.ensures in
    let k = c.in_ok-peak.field-0 in
    let xs = standing c.self.inside.window in
    let within = slice_get_within xs (k.place - 1) k.encoding p.stands in
    let finite = peak_finite xs k p (standing_finite c.self.inside.window) in
    rw (← c.self.view_is) (search (rules, within), p, omega (arith, within, standing_few c.self.inside.window), finite)
