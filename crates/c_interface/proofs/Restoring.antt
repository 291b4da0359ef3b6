-- When numbers stand for a meter, and when for none.
use Rattle.std.proofs.Common.{◌≡◌, ℕ, ◌-◌, ◌<◌, ◌≤◌, List, length, take, is_some, Bool, true, false, cond, eqb, Some, None, Option, refl, sym, ap, ◌∙◌, arith}
use Rattle.std.proofs.lemmas.Bool.Decides.{nat_tests}
use Rattle.std.specs.Slice.{IsGetRangeResult}
use denote.Ref.{Bor}
use Rattle.rounding.specs.declared.encoding.Encoding.{Encoding}
use Rattle.rounding.specs.declared.rules.AnyRule.{AnyRule}
use Rattle.engine_choice.specs.declared.EngineName.{EngineName}
use Rattle.meter.specs.Model.{Model, fresh}
use Rattle.c_interface.specs.declared.data.MeterData.{MeterData}
use Rattle.c_interface.specs.Refusals.{found}
use Rattle.c_interface.specs.Numbers.{engine_numbered, rule_numbered}
use Rattle.c_interface.specs.Held.{Held, held, is_meter, model_in, replies_in, all_finite}
use Rattle.c_interface.specs.Calls.{empty}

-- the three parts on their own
made : MeterData → Option EngineName → Option AnyRule → Bool → Option Held
made d e r b = found e None (λ n. found r None (λ k. cond b (Some (record { model = model_in d; engine = n; rule = k })) None))

-- when numbers stand for no meter
pub no_engine : (d : MeterData) → engine_numbered d.engine ≡ None → held d ≡ None
unfolding held made
no_engine d e = let go : (o : Option EngineName) → o ≡ None → made d o (rule_numbered d.rule) (is_meter d) ≡ None = λ o p. rw p in go (engine_numbered d.engine) e

no_rule_made : (d : MeterData) (o : Option EngineName) (b : Bool) → made d o None b ≡ None
unfolding made
no_rule_made d None b = refl
no_rule_made d (Some e) b = refl

pub no_rule : (d : MeterData) → rule_numbered d.rule ≡ None → held d ≡ None
unfolding held made
no_rule d e =
    let go : (r : Option AnyRule) → r ≡ None → made d (engine_numbered d.engine) r (is_meter d) ≡ None = λ r p. rw p (no_rule_made d (engine_numbered d.engine) (is_meter d)) in
    go (rule_numbered d.rule) e

no_meter_made : (d : MeterData) (o : Option EngineName) (r : Option AnyRule) → made d o r false ≡ None
unfolding made
no_meter_made d None r = refl
no_meter_made d (Some e) None = refl
no_meter_made d (Some e) (Some k) = refl

pub no_meter : (d : MeterData) → is_meter d ≡ false → held d ≡ None
unfolding held made
no_meter d e =
    let go : (b : Bool) → b ≡ false → made d (engine_numbered d.engine) (rule_numbered d.rule) b ≡ None = λ b p. rw p (no_meter_made d (engine_numbered d.engine) (rule_numbered d.rule)) in
    go (is_meter d) e

-- and when for one
pub a_meter : (d : MeterData) (n : EngineName) (k : AnyRule) → engine_numbered d.engine ≡ Some n → rule_numbered d.rule ≡ Some k → is_meter d ≡ true → held d ≡ Some (record { model = model_in d; engine = n; rule = k })
unfolding held
a_meter d n k e r m = rw (e, r, m)

named_made : (d : MeterData) (h : Held) (o : Option EngineName) (s : Option AnyRule) (b : Bool) → made d o s b ≡ Some h → (o ≡ Some h.engine) × (s ≡ Some h.rule)
unfolding made
named_made d h None s b e = absurd (cc)
named_made d h (Some n) None b e = absurd (cc)
named_made d h (Some n) (Some k) false e = absurd (cc)
named_made d h (Some n) (Some k) true e =
    let q : record { model = model_in d; engine = n; rule = k } ≡ h = cc in
    (ap (λ (g : Held). Some g.engine) q, ap (λ (g : Held). Some g.rule) q)

-- the numbers of a meter name its engine and its rule
pub named_in : (d : MeterData) (h : Held) → held d ≡ Some h → (engine_numbered d.engine ≡ Some h.engine) × (rule_numbered d.rule ≡ Some h.rule)
unfolding held made
named_in d h e = named_made d h (engine_numbered d.engine) (rule_numbered d.rule) (is_meter d) e

-- what makes the numbers no meter, and what makes them one
pub too_many : (d : MeterData) → 288 < d.standing → is_meter d ≡ false
too_many d h = grind (arith, nat_tests)

pub no_pending : (d : MeterData) → 1 < d.pending → is_meter d ≡ false
no_pending d h = grind (arith, nat_tests)

pub not_finite : (d : MeterData) → all_finite (replies_in d) ≡ false → is_meter d ≡ false
not_finite d h = grind (arith, nat_tests)

pub sound : (d : MeterData) → 1 ≤ d.address → d.address ≤ 247 → d.standing ≤ 288 → d.pending ≤ 1 → all_finite (replies_in d) ≡ true → is_meter d ≡ true
sound d a b s p f = grind (arith, nat_tests)

-- the first cells, as `get` answers them
pub cut : (xs : List ℕ) (n : ℕ) (part : Bor (List ℕ)) (r : Option (Bor (List ℕ))) → IsGetRangeResult xs 0 n r → r ≡ Some part → (part.now ≡ take n xs) × (n ≤ length xs)
cut xs n part None g e = cc
cut xs n part (Some p) g e =
    let q : p ≡ part = cc in
    let whole : n - 0 ≡ n = omega arith in
    (ap (λ (b : Bor (List ℕ)). b.now) (sym q) ∙ (rw whole at g.0.2), g.0.1)

pub too_short : (xs : List ℕ) (n : ℕ) (r : Option (Bor (List ℕ))) → IsGetRangeResult xs 0 n r → is_some r ≡ false → length xs < n
too_short xs n None g e = omega arith
too_short xs n (Some p) g e = cc

-- a meter that was made of the parts
pub restores : (d : MeterData) (n : EngineName) (k : AnyRule) (a : ℕ) (p : Bool) (xs : List Encoding) (m : Model) (e : EngineName) (rule : AnyRule) → engine_numbered d.engine ≡ Some n → rule_numbered d.rule ≡ Some k → is_meter d ≡ true → m ≡ record { address = a; pending = p; replies = xs } → a ≡ d.address → eqb d.pending 1 ≡ p → xs ≡ replies_in d → e ≡ n → rule ≡ k → held d ≡ Some (record { model = m; engine = e; rule = rule })
restores d n k a p xs m e rule en ru is mo ad pe re ee rr =
    let same : m ≡ model_in d = cc in
    rw (same, ee, rr) (a_meter d n k en ru is)

-- a new meter's numbers, and those that are all 0
pub new_stands : (a engine rule : ℕ) (n : EngineName) (k : AnyRule) → engine_numbered engine ≡ Some n → rule_numbered rule ≡ Some k → 1 ≤ a → a ≤ 247 → held (empty a engine rule) ≡ Some (record { model = fresh a; engine = n; rule = k })
unfolding all_finite
new_stands a engine rule n k e r low high =
    let d = empty a engine rule in
    a_meter d n k e r (sound d low high (omega arith) (omega arith) refl)

pub none_stands : held (empty 0 0 0) ≡ None
unfolding held
none_stands = refl
