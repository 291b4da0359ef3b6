-- All digits but the last, and then that.
use Rattle.std.proofs.Common.{◌≡◌, ℕ, zero, suc, ◌-◌, ◌/◌, ◌%◌, [], ◌∷◌, ◌++◌, refl, sub-one, arith}
use Rattle.std.proofs.lemmas.Grind.{common_steps}
use Rattle.answers.proofs.texts.Text.+hexadecimal.Goals as goal
use Rattle.lex.specs.Numbers.{digit, digits}

digits_none : (k n : ℕ) → k ≡ 0 → digits 16 k n ≡ []
unfolding digits
digits_none k n e = rw e refl

digits_last : (k n : ℕ) → (k ≡ 0 → ⊥) → digits 16 k n ≡ digits 16 (k - 1) (n / 16) ++ (digit (n % 16) ∷ [])
unfolding digits
digits_last zero n some = absurd (some refl)
digits_last (suc k) n some = rw sub-one refl

pub returns-then-count-eq0-clause-after : goal.returns-then-count-eq0-clause-after
returns-then-count-eq0-clause-after t c = grind (arith, common_steps, digits_none c.args.count c.args.n c.if-count-eq0.true)

pub returns-clause-after : goal.returns-clause-after
returns-clause-after t c = grind (arith, common_steps, digits_last c.args.count c.args.n c.if-count-eq0.false)
