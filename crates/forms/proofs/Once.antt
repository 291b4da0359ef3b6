-- No line has two forms: each part of a form is plain from its text.
use Rattle.std.proofs.Common.{◌≡◌, ℕ, ◌^◌, ◌<◌, cond, eqb, List, get_or, codes, decimal, sym, refl, ap, ◌∙◌, arith}
use Rattle.forms.proofs.Repeats.{ending_ends, repeated_same}
use Rattle.forms.proofs.Texts.{solid_engine, solid_hex}
use Rattle.forms.specs.Calculations.{Sized, calculation}
use Rattle.forms.specs.Commands.{command}
use Rattle.forms.specs.Forms.{OneForm, Ranged, text}
use Rattle.forms.specs.Polls.{Ended, Polled, ending, poll}
use Rattle.forms.specs.Setups.{Addressed, engine, fitting, rule, setup}
use Rattle.forms.specs.declared.Calculation.{Calculation}
use Rattle.forms.specs.declared.Calculation.TheVariants.{Divide, Square, Mean, MeanSquare}
use Rattle.forms.specs.declared.Command.{Command as Word}
use Rattle.forms.specs.declared.Command.TheVariants.{Peak, Retire, Retract, Flags, Clear}
use Rattle.forms.specs.declared.Ending.{Ending}
use Rattle.forms.specs.declared.Ending.TheVariants.{Reply, Lapse}
use Rattle.forms.specs.declared.Form.{Form}
use Rattle.forms.specs.declared.Form.TheVariants.{Meter, Compute, Command, Poll, Try}
use Rattle.forms.specs.declared.Poll.{Poll as Polling}
use Rattle.forms.specs.declared.Setup.{Setup}
use Rattle.engine_choice.specs.declared.EngineName.{EngineName}
use Rattle.engine_choice.specs.declared.EngineName.TheVariants.{Digits, Radix4, Cubic}
use Rattle.rounding.specs.declared.rules.AnyRule.{AnyRule}
use Rattle.rounding.specs.declared.rules.AnyRule.TheVariants.{Even, Away, Zero, Up, Down}
use Rattle.lex.proofs.Cuts.{group_same, pair_same}
use Rattle.lex.proofs.Decimals.{solid_decimal}
use Rattle.lex.proofs.Places.{digits_same}
use Rattle.lex.specs.Numbers.{hex}
use Rattle.std.proofs.lemmas.Fmt.{decimal_injective}

hex_same : (m n : ℕ) → m < 2 ^ 32 → n < 2 ^ 32 → hex m ≡ hex n → m ≡ n
hex_same m n h g e = digits_same 16 8 m n (omega arith) h g e

-- x where the letter of s at k is b, else y
abbrev by : {X : Type 0} → List ℕ → ℕ → ℕ → X → X → X
by s k b x y = cond (eqb (get_or s k 0) b) x y

-- names, found again by their letters
abbrev to_engine : List ℕ → EngineName
to_engine s = by s 0 100 Digits (by s 0 114 Radix4 Cubic)

engine_back : (e : EngineName) → to_engine (engine e) ≡ e
engine_back Digits = refl
engine_back Radix4 = refl
engine_back Cubic = refl

abbrev to_rule : List ℕ → AnyRule
to_rule s = by s 0 101 Even (by s 0 97 Away (by s 0 122 Zero (by s 0 117 Up Down)))

rule_back : (r : AnyRule) → to_rule (rule r) ≡ r
rule_back Even = refl
rule_back Away = refl
rule_back Zero = refl
rule_back Up = refl
rule_back Down = refl

abbrev to_command : List ℕ → Word
to_command s = by s 1 112 Peak (by s 1 102 Flags (by s 1 99 Clear (by s 4 105 Retire Retract)))

command_back : (w : Word) → to_command (command w) ≡ w
command_back Peak = refl
command_back Retire = refl
command_back Retract = refl
command_back Flags = refl
command_back Clear = refl

-- what has a way back is plain from its text
same_by : {X : Type 0} (t : X → List ℕ) (back : List ℕ → X) → ((x : X) → back (t x) ≡ x) → (x y : X) → t x ≡ t y → x ≡ y
same_by t back found x y e = sym (found x) ∙ ap back e ∙ found y

setup_same : (s t : Setup) → Addressed s → Addressed t → setup s ≡ setup t → s ≡ t
setup_same s t p q e =
    let parts = pair_same (decimal s.address) (fitting (s.engine, s.rule)) (decimal t.address) (fitting (t.engine, t.rule)) (solid_decimal s.address (omega arith)) (solid_decimal t.address (omega arith)) (group_same (codes "(meter ") _ _ e) in
    let names = pair_same (engine s.engine) (rule s.rule) (engine t.engine) (rule t.rule) (solid_engine s.engine) (solid_engine t.engine) parts.1 in
    let a : s.address ≡ t.address = decimal_injective s.address t.address (omega arith) (omega arith) parts.0 in
    let b : s.engine ≡ t.engine = same_by engine to_engine engine_back s.engine t.engine names.0 in
    let c : s.rule ≡ t.rule = same_by rule to_rule rule_back s.rule t.rule names.1 in
    λ i. record { address = a i; engine = b i; rule = c i }

-- calculations, told apart by their letters
abbrev calculation_sort : List ℕ → ℕ
calculation_sort s = by s 1 100 0 (by s 1 115 1 (by s 5 41 2 3))

calculation_same : (c d : Calculation) → Sized c → Sized d → calculation c ≡ calculation d → c ≡ d
calculation_same (Divide a b) (Divide a' b') p q e =
    let h = pair_same (hex a) (hex b) (hex a') (hex b') (solid_hex a) (solid_hex a') (group_same (codes "(div ") _ _ e) in
    let x : a ≡ a' = hex_same a a' p.0 q.0 h.0 in
    let y : b ≡ b' = hex_same b b' p.1 q.1 h.1 in
    cc
calculation_same (Divide a b) (Square n) p q e = absurd (omega (arith, ap calculation_sort e))
calculation_same (Divide a b) Mean p q e = absurd (omega (arith, ap calculation_sort e))
calculation_same (Divide a b) MeanSquare p q e = absurd (omega (arith, ap calculation_sort e))
calculation_same (Square m) (Divide a b) p q e = absurd (omega (arith, ap calculation_sort e))
calculation_same (Square m) (Square n) p q e = ap Square (hex_same m n p q (group_same (codes "(sqr ") _ _ e))
calculation_same (Square m) Mean p q e = absurd (omega (arith, ap calculation_sort e))
calculation_same (Square m) MeanSquare p q e = absurd (omega (arith, ap calculation_sort e))
calculation_same Mean (Divide a b) p q e = absurd (omega (arith, ap calculation_sort e))
calculation_same Mean (Square n) p q e = absurd (omega (arith, ap calculation_sort e))
calculation_same Mean Mean p q e = refl
calculation_same Mean MeanSquare p q e = absurd (omega (arith, ap calculation_sort e))
calculation_same MeanSquare (Divide a b) p q e = absurd (omega (arith, ap calculation_sort e))
calculation_same MeanSquare (Square n) p q e = absurd (omega (arith, ap calculation_sort e))
calculation_same MeanSquare Mean p q e = absurd (omega (arith, ap calculation_sort e))
calculation_same MeanSquare MeanSquare p q e = refl

ending_same : (x y : Ending) → Ended x → Ended y → ending x ≡ ending y → x ≡ y
ending_same (Reply m) (Reply n) p q e = ap Reply (hex_same m n p q (group_same (codes "(reply ") _ _ e))
ending_same (Reply m) Lapse p q e = absurd (omega (arith, ap (λ (s : List ℕ). get_or s 1 0) e))
ending_same Lapse (Reply n) p q e = absurd (omega (arith, ap (λ (s : List ℕ). get_or s 1 0) e))
ending_same Lapse Lapse p q e = refl

poll_same : (x y : Polling) → Polled x → Polled y → poll x ≡ poll y → x ≡ y
poll_same x y p q e =
    let h = repeated_same x.again y.again (ending x.ending) (ending y.ending) (ending_ends x.ending) (ending_ends y.ending) (group_same (codes "(poll ") _ _ e) in
    let a : x.again ≡ y.again = h.0 in
    let b : x.ending ≡ y.ending = ending_same x.ending y.ending p q h.1 in
    λ i. record { again = a i; ending = b i }

-- forms, told apart by their letters
abbrev sort : List ℕ → ℕ
sort s = by s 1 109 (by s 3 116 0 1) (by s 1 100 1 (by s 1 115 1 (by s 1 116 4 (by s 1 112 (by s 2 111 3 2) 2))))

abbrev place : Form → ℕ
place (Meter s) = 0
place (Compute c) = 1
place (Command w) = 2
place (Poll p) = 3
place (Try c) = 4

sort_is : (f : Form) → sort (text f) ≡ place f
sort_is (Meter s) = refl
sort_is (Compute (Divide a b)) = refl
sort_is (Compute (Square n)) = refl
sort_is (Compute Mean) = refl
sort_is (Compute MeanSquare) = refl
sort_is (Command Peak) = refl
sort_is (Command Retire) = refl
sort_is (Command Retract) = refl
sort_is (Command Flags) = refl
sort_is (Command Clear) = refl
sort_is (Poll p) = refl
sort_is (Try c) = refl

alike : (f g : Form) → text f ≡ text g → place f ≡ place g
alike f g e = sym (sort_is f) ∙ ap sort e ∙ sort_is g

form_same : (f g : Form) → Ranged f → Ranged g → text f ≡ text g → f ≡ g
form_same (Meter s) (Meter t) p q e = ap Meter (setup_same s t p q e)
form_same (Compute c) (Compute d) p q e = ap Compute (calculation_same c d p q e)
form_same (Command v) (Command w) p q e = ap Command (same_by command to_command command_back v w e)
form_same (Poll x) (Poll y) p q e = ap Poll (poll_same x y p q e)
form_same (Try c) (Try d) p q e = ap Try (calculation_same c d p q (group_same (codes "(try ") _ _ e))
form_same (Meter x) (Compute y) p q e = absurd (omega (arith, alike (Meter x) (Compute y) e))
form_same (Meter x) (Command y) p q e = absurd (omega (arith, alike (Meter x) (Command y) e))
form_same (Meter x) (Poll y) p q e = absurd (omega (arith, alike (Meter x) (Poll y) e))
form_same (Meter x) (Try y) p q e = absurd (omega (arith, alike (Meter x) (Try y) e))
form_same (Compute x) (Meter y) p q e = absurd (omega (arith, alike (Compute x) (Meter y) e))
form_same (Compute x) (Command y) p q e = absurd (omega (arith, alike (Compute x) (Command y) e))
form_same (Compute x) (Poll y) p q e = absurd (omega (arith, alike (Compute x) (Poll y) e))
form_same (Compute x) (Try y) p q e = absurd (omega (arith, alike (Compute x) (Try y) e))
form_same (Command x) (Meter y) p q e = absurd (omega (arith, alike (Command x) (Meter y) e))
form_same (Command x) (Compute y) p q e = absurd (omega (arith, alike (Command x) (Compute y) e))
form_same (Command x) (Poll y) p q e = absurd (omega (arith, alike (Command x) (Poll y) e))
form_same (Command x) (Try y) p q e = absurd (omega (arith, alike (Command x) (Try y) e))
form_same (Poll x) (Meter y) p q e = absurd (omega (arith, alike (Poll x) (Meter y) e))
form_same (Poll x) (Compute y) p q e = absurd (omega (arith, alike (Poll x) (Compute y) e))
form_same (Poll x) (Command y) p q e = absurd (omega (arith, alike (Poll x) (Command y) e))
form_same (Poll x) (Try y) p q e = absurd (omega (arith, alike (Poll x) (Try y) e))
form_same (Try x) (Meter y) p q e = absurd (omega (arith, alike (Try x) (Meter y) e))
form_same (Try x) (Compute y) p q e = absurd (omega (arith, alike (Try x) (Compute y) e))
form_same (Try x) (Command y) p q e = absurd (omega (arith, alike (Try x) (Command y) e))
form_same (Try x) (Poll y) p q e = absurd (omega (arith, alike (Try x) (Poll y) e))

pub one_form : OneForm
one_form f g p q e = form_same f g p.0 q.0 e
