-- Lemmas on the texts of forms.
use Rattle.std.proofs.Common.{◌≡◌, ℕ, ◌^◌, ◌<◌, List, refl, arith}
use Rattle.forms.specs.Calculations.{Encodings, Sized, calculation, divided}
use Rattle.forms.specs.Setups.{engine}
use Rattle.forms.specs.declared.Calculation.{Calculation}
use Rattle.forms.specs.declared.Calculation.TheVariants.{Divide, Square, Mean, MeanSquare}
use Rattle.engine_choice.specs.declared.EngineName.{EngineName}
use Rattle.engine_choice.specs.declared.EngineName.TheVariants.{Digits, Radix4, Cubic}
use Rattle.lex.proofs.Cuts.{solid_from}
use Rattle.lex.proofs.Places.{solid_digits}
use Rattle.lex.specs.Numbers.{hex}
use Rattle.lex.specs.Parts.{Solid}

-- what stands before a space holds none
pub solid_hex : (n : ℕ) → Solid (hex n)
solid_hex n = solid_digits 16 8 n (omega arith)

pub solid_engine : (e : EngineName) → Solid (engine e)
solid_engine Digits = solid_from (engine Digits) refl
solid_engine Radix4 = solid_from (engine Radix4) refl
solid_engine Cubic = solid_from (engine Cubic) refl

-- a line that is none of the four
pub no_calculation : (s : List ℕ)
    → (s ≡ calculation Mean → ⊥)
    → (s ≡ calculation MeanSquare → ⊥)
    → ((n : ℕ) → n < 2 ^ 32 → s ≡ calculation (Square n) → ⊥)
    → ((p : ℕ × ℕ) → Encodings p → s ≡ divided p → ⊥)
    → (c : Calculation) → Sized c → s ≡ calculation c → ⊥
no_calculation s mean meansq square divide Mean good e = mean e
no_calculation s mean meansq square divide MeanSquare good e = meansq e
no_calculation s mean meansq square divide (Square n) good e = square n good e
no_calculation s mean meansq square divide (Divide m n) good e = divide (m, n) good e
