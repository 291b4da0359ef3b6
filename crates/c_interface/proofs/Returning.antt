-- Numbers that were given back to C stand for the meter that they were made from.
use Rattle.std.proofs.Common.{◌≡◌, ℕ, suc, ◌-◌, ◌≤◌, Bool, true, false, cond, eqb, List, [], ◌∷◌, map, length, get_or, take, replicate, is_some, Some, None, Option, refl, ap, ◌∙◌, arith}
use Rattle.std.proofs.lemmas.List.{take_at, length-map}
use Rattle.rounding.specs.declared.encoding.Encoding.{Encoding}
use Rattle.window.specs.Replies.{Finite}
use Rattle.window.specs.Ring.{blank}
use Rattle.meter.specs.Model.{Model}
use Rattle.c_interface.specs.declared.data.MeterData.{MeterData}
use Rattle.c_interface.specs.Held.{Held, held, model_in, replies_in, encodings, cells, shown, again, all_finite}
use Rattle.c_interface.proofs.Restoring.{named_in, sound, a_meter}

pub each_finite : (xs : List Encoding) → ((k : ℕ) → Finite (get_or xs k blank)) → all_finite xs ≡ true
unfolding all_finite
each_finite [] f = refl
each_finite (x ∷ xs) f = let h : Finite x = f 0 in rw h (each_finite xs (λ k. f (suc k)))

same_encodings : (xs : List Encoding) → encodings (map (λ (x : Encoding). x.bits) xs) ≡ xs
same_encodings [] = refl
same_encodings (x ∷ xs) = ap (λ (l : List Encoding). x ∷ l) (same_encodings xs)

-- the cells hold the replies
read_back : (xs : List Encoding) → encodings (take (length xs) (cells xs)) ≡ xs
read_back xs =
    ap (λ (l : List ℕ). encodings l) (take_at (map (λ (x : Encoding). x.bits) xs) (replicate (288 - length xs) 0) (length xs) (length-map xs (λ (x : Encoding). x.bits)))
    ∙ same_encodings xs

number_back : (p : Bool) → eqb (cond p 1 0) 1 ≡ p
number_back true = refl
number_back false = refl

number_few : (p : Bool) → cond p 1 0 ≤ 1
number_few true = omega arith
number_few false = omega arith

model_back : (d : MeterData) (m : Model) → model_in (shown d m) ≡ m
model_back d m =
    ap (λ (p : Bool). record { address = m.address; pending = p; replies = replies_in (shown d m) }) (number_back m.pending)
    ∙ ap (λ (l : List Encoding). record { address = m.address; pending = m.pending; replies = l }) (read_back m.replies)

pub held_again : (d : MeterData) (h : Held) (m : Model) → held d ≡ Some h → 1 ≤ m.address → m.address ≤ 247 → length m.replies ≤ 288 → all_finite m.replies ≡ true → held (shown d m) ≡ Some (record { model = m; engine = h.engine; rule = h.rule })
held_again d h m e low high few all =
    let n = named_in d h e in
    let finite : all_finite (replies_in (shown d m)) ≡ true = ap all_finite (read_back m.replies) ∙ all in
    a_meter (shown d m) h.engine h.rule n.0 n.1 (sound (shown d m) low high few (number_few m.pending) finite)
    ∙ ap (λ (k : Model). Some (record { model = k; engine = h.engine; rule = h.rule })) (model_back d m)

-- a meter's numbers, where they came from a meter's numbers
pub again_held : (d r : MeterData) (m : Model) → is_some (held d) ≡ true → r ≡ shown d m → 1 ≤ m.address → m.address ≤ 247 → length m.replies ≤ 288 → all_finite m.replies ≡ true → held r ≡ again (held d) m
again_held d r m is e low high few all =
    let go : (o : Option Held) → held d ≡ o → is_some o ≡ true → held (shown d m) ≡ again o m = λ o. elim o as (λ v. held d ≡ v → is_some v ≡ true → held (shown d m) ≡ again v m) [
      | None ↦ λ p s. absurd (cc)
      | Some h ↦ λ p s. held_again d h m p low high few all
    ] in
    ap held e ∙ go (held d) refl is
