-- The text of every form, and which forms a line can have.
use Rattle.std.specs.Prelude.{◌≡◌, ℕ, ◌≤◌, List, length}
use Rattle.forms.specs.Calculations.{Sized, calculation, trial}
use Rattle.forms.specs.Commands.{command}
use Rattle.forms.specs.Polls.{Polled, poll}
use Rattle.forms.specs.Setups.{Addressed, setup}
use Rattle.forms.specs.declared.Form.{Form}
use Rattle.forms.specs.declared.Form.TheVariants.{Meter, Compute, Command, Poll, Try}

abbrev pub text : Form → List ℕ
text (Meter s) = setup s
text (Compute c) = calculation c
text (Command w) = command w
text (Poll p) = poll p
text (Try c) = trial c

-- its numbers are within their digits
abbrev pub Ranged : Form → Type 0
Ranged (Meter s) = Addressed s
Ranged (Compute c) = Sized c
Ranged (Command w) = Unit {0}
Ranged (Poll p) = Polled p
Ranged (Try c) = Sized c

-- and a line has room for it
abbrev pub Good : Form → Type 0
Good f = Ranged f × (length (text f) ≤ 80)

-- no line has two forms
abbrev pub OneForm : Type 0
OneForm = (f g : Form) → Good f → Good g → text f ≡ text g → f ≡ g
