-- Lemmas on repeats, one inside another.
use Rattle.std.proofs.Common.{◌≡◌, ℕ, zero, suc, ◌+◌, List, length, get_or, codes, sym, refl, ap, ◌∙◌, add-one, arith, length-append}
use Rattle.forms.specs.Polls.{ending, repeated}
use Rattle.forms.specs.declared.Ending.{Ending}
use Rattle.forms.specs.declared.Ending.TheVariants.{Reply, Lapse}
use Rattle.lex.proofs.Cuts.{group_same}
use Rattle.lex.specs.Parts.{group}

-- x is no repeat
abbrev pub Ends : List ℕ → Type 0
Ends x = (inner : List ℕ) → x ≡ group (codes "(again ") inner → ⊥

-- one more, from inside
pub repeated_more : (n : ℕ) (x : List ℕ) → repeated n (group (codes "(again ") x) ≡ repeated (n + 1) x
unfolding repeated
repeated_more n x = inside n ∙ ap (λ (k : ℕ). repeated k x) (sym (add-one n))
  where
    inside : (k : ℕ) → repeated k (group (codes "(again ") x) ≡ repeated (suc k) x
    inside zero = refl
    inside (suc k) = ap (group (codes "(again ")) (inside k)

-- how often a text is repeated, and what, is plain from it
pub repeated_same : (m n : ℕ) (x y : List ℕ) → Ends x → Ends y → repeated m x ≡ repeated n y → (m ≡ n) × (x ≡ y)
unfolding repeated
repeated_same zero zero x y p q e = (refl, e)
repeated_same zero (suc n) x y p q e = absurd (p (repeated n y) e)
repeated_same (suc m) zero x y p q e = absurd (q (repeated m x) (sym e))
repeated_same (suc m) (suc n) x y p q e =
    let h = repeated_same m n x y p q (group_same (codes "(again ") (repeated m x) (repeated n y) e) in (ap suc h.0, h.1)

pub ending_ends : (e : Ending) → Ends (ending e)
ending_ends (Reply n) inner e = omega (arith, ap (λ (s : List ℕ). get_or s 1 0) e)
ending_ends Lapse inner e = omega (arith, ap (λ (s : List ℕ). get_or s 1 0) e)

-- a repeat takes eight bytes
pub shorter : (s x : List ℕ) → s ≡ group (codes "(again ") x → length s ≡ length x + 8
shorter s x e = ap length e ∙ simp length-append (omega arith)

pub poll_longer : (s x : List ℕ) → s ≡ group (codes "(poll ") x → length s ≡ length x + 7
poll_longer s x e = ap length e ∙ simp length-append (omega arith)
