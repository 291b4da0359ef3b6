-- Leading digits, a step at a time, and whether one is set.
use Rattle.std.proofs.Common.{◌≡◌, ℕ, ◌+◌, ◌*◌, ◌^◌, ◌<◌, ◌≤◌, Bool, true, false, ltb, List, [], ◌∷◌, ◌++◌, length, sym, refl, append_assoc, ap, ◌∙◌, subst, ⊎_elim, arith}
use Rattle.std.proofs.lemmas.Bool.{cases_lt, lt-ltb, le-ltb}
use mathlib.Core.Bool.{beq}
use mir.Val.{bool_byte}
use Rattle.std.specs.List.{list_any}
use Rattle.std.proofs.lemmas.List.{length_push}
use Rattle.places.specs.Digits.{bit, bits_value}
use Rattle.places.proofs.Binary.{pow_next, value_push}

-- The digits before `rest` was reached, from the top down, are out, and n is the number that they make.
pub record Led (ds rest : List Bool) (n : ℕ) : Type 0 where
  pub gone : List Bool
  pub whole : rest ++ gone ≡ ds
  pub parts : n * 2 ^ length rest + bits_value rest ≡ bits_value ds

pub led_more : (ds rest rest' : List Bool) (n b : ℕ) (d : Bool) → Led ds rest n → rest ≡ rest' ++ d ∷ [] → b ≡ bit d → Led ds rest' (2 * n + b)
led_more ds rest rest' n b d l e f =
    let before : Led ds (rest' ++ d ∷ []) n = subst (λ (xs : List Bool). Led ds xs n) e l in
    record {
      gone = d ∷ before.gone;
      whole = sym (append_assoc rest' (d ∷ []) before.gone) ∙ before.whole;
      parts = omega (arith, before.parts, value_push rest' d, ap (λ (k : ℕ). n * 2 ^ k) (length_push rest' d), ap (λ (p : ℕ). n * p) (pow_next (length rest')), ap (λ (z : ℕ). z * 2 ^ length rest') f);
    }

pub byte_bit : (b : Bool) → bool_byte b ≡ bit b
byte_bit true = refl
byte_bit false = refl

pub byte_few : (b : Bool) → bool_byte b ≤ 1
byte_few true = omega arith
byte_few false = omega arith

doubled_some : (n : ℕ) → ltb 0 n ≡ ltb 0 (0 + 2 * n)
doubled_some n =
    ⊎_elim
    (λ (some : 0 < n). lt-ltb 0 n some ∙ sym (lt-ltb 0 (0 + 2 * n) (omega arith)))
    (λ (none : n ≤ 0). le-ltb 0 n none ∙ sym (le-ltb 0 (0 + 2 * n) (omega arith)))
    (cases_lt 0 n)

-- a digit is set where the number is not 0
pub any_set : (xs : List Bool) → list_any (λ b. beq b true) xs ≡ ltb 0 (bits_value xs)
unfolding bits_value
any_set [] = refl
any_set (true ∷ xs) = sym (lt-ltb 0 (1 + 2 * bits_value xs) (omega arith))
any_set (false ∷ xs) = any_set xs ∙ doubled_some (bits_value xs)
