-- The defined quotient and square, their flags, and what a quotient asks its engine.
use Rattle.std.specs.Prelude.{◌≡◌, ℕ, ◌*◌, ◌^◌, Bool, true, false, cond, not, ◌&&◌, ◌||◌, nat_le}
use Rattle.rounding.specs.declared.round.Answer.{Answer}
use Rattle.rounding.specs.Format.{Format, negative, size, joined, infinity, quiet, value, significand, is_nan, is_infinite, is_finite, is_zero}
use Rattle.rounding.specs.Exact.{Exact}
use Rattle.rounding.specs.Rules.{Meaning}
use Rattle.rounding.specs.Rounding.{Outcome, rounded, doublings}
use Rattle.engines.specs.declared.meaning.Log.{Log}
use Rattle.engines.specs.Meaning.{counted}

-- exclusive or
abbrev pub differ : Bool → Bool → Bool
differ true b = not b
differ false b = b

-- the sign of a quotient
abbrev pub opposite : Format → ℕ → ℕ → Bool
opposite f x y = differ (negative f x) (negative f y)

-- whether a quotient has an exact value: both operands are finite, and the divisor is not zero
abbrev pub has_quotient : Format → ℕ → ℕ → Bool
has_quotient f x y = is_finite f x && (is_finite f y && not (is_zero f y))

abbrev pub quotient_value : Format → ℕ → ℕ → Exact
quotient_value f x y = record { negative = opposite f x y; num = value f.hidden (size f x); den = value f.hidden (size f y) }

-- an answer that needed no rounding
abbrev pub plain : ℕ → ℕ → Outcome
plain x flags = record { bits = x; flags = flags }

-- The quotient: the first that fits. A NaN stays a NaN; zero by zero and infinity by infinity are invalid (1); infinity by a number is infinity and a
-- number by infinity is zero; a number by zero is infinity, with zero divide (2); else the exact value, rounded.
abbrev pub quotient : Format → Meaning → ℕ → ℕ → Outcome
quotient f m x y =
    cond (is_nan f x || is_nan f y) (plain (quiet f) 0)
    (cond ((is_zero f x && is_zero f y) || (is_infinite f x && is_infinite f y)) (plain (quiet f) 1)
    (cond (is_infinite f x) (plain (joined f (opposite f x y) (infinity f)) 0)
    (cond (is_infinite f y) (plain (joined f (opposite f x y) 0) 0)
    (cond (is_zero f y) (plain (joined f (opposite f x y) (infinity f)) 2)
    (rounded f m (quotient_value f x y))))))

abbrev pub square_value : Format → ℕ → Exact
square_value f x = record { negative = false; num = value f.hidden (size f x) * value f.hidden (size f x); den = 2 ^ (2 * f.scale) }

-- The square: a NaN stays a NaN, an infinity becomes positive, else the exact value, rounded.
abbrev pub square : Format → Meaning → ℕ → Outcome
square f m x =
    cond (is_nan f x) (plain (quiet f) 0)
    (cond (is_infinite f x) (plain (infinity f) 0)
    (rounded f m (square_value f x)))

-- a significand s above 0, doubled until it has the 24 bits that an engine is asked with
unfoldable pub aligned : ℕ → ℕ
aligned s = s * 2 ^ doublings 24 8388607 s

-- whether a quotient asks its engine: it has an exact value other than zero
abbrev pub asks : Format → ℕ → ℕ → Bool
asks f x y = has_quotient f x y && not (is_zero f x)

-- the pair that it asks: the divisor's significand, and the dividend's with 24 bits after it, or 25 where it is the smaller
abbrev pub asked_divisor : Format → ℕ → ℕ
asked_divisor f y = aligned (significand f.hidden (size f y))

abbrev pub asked_dividend : Format → ℕ → ℕ → ℕ
asked_dividend f x y =
    aligned (significand f.hidden (size f x)) * cond (nat_le (asked_divisor f y) (aligned (significand f.hidden (size f x)))) 16777216 33554432

-- the engine's meaning after a quotient: it was asked once with that pair, or not at all
abbrev pub quotient_log : Format → Log → ℕ → ℕ → Log
quotient_log f log x y = cond (asks f x y) (counted log (asked_divisor f y) (asked_dividend f x y)) log

-- an answer of the code is the defined one
abbrev pub Gives : Answer → Outcome → Type 0
Gives a o = (a.encoding.bits ≡ o.bits) × (a.flags.number ≡ o.flags)
