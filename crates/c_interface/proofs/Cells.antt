-- Replies between C's cells and a meter, one more at a time.
use Rattle.std.proofs.Common.{◌≡◌, ℕ, zero, suc, ◌+◌, ◌<◌, ◌≤◌, true, false, ◌&&◌, List, [], ◌∷◌, ◌++◌, map, length, get_or, take, Bool, cond, Some, None, sym, refl, ap, ◌∙◌, arith}
use Rattle.std.proofs.lemmas.List.{take_more, map-append, length-map, length-take-le}
use Rattle.std.proofs.lemmas.Bool.Decides.{nat_tests}
use Rattle.std.specs.List.{slice_get}
use Rattle.rounding.specs.declared.encoding.Encoding.{Encoding}
use Rattle.rounding.specs.Format.{binary32, is_finite}
use Rattle.meter.specs.declared.fault.MeterFault.{MeterFault}
use Rattle.meter.specs.declared.fault.MeterFault.TheVariants.{NotFinite}
use Rattle.meter.specs.Model.{Model, refuses_reply, polled, replied}
use Rattle.c_interface.specs.Held.{encodings, all_finite}

-- a meter at rest with these replies
abbrev pub filled : ℕ → List Encoding → Model
filled a xs = record { address = a; pending = false; replies = xs }

-- the next cell is the next reply
pub taken_more : (ns : List ℕ) (i : ℕ) → i < length ns → encodings (take (i + 1) ns) ≡ encodings (take i ns) ++ record { bits = get_or ns i 0 } ∷ []
taken_more ns i h =
    ap (λ (l : List ℕ). encodings l) (take_more ns i 0 h) ∙ map-append (λ (n : ℕ). record { bits = n }) (take i ns) (get_or ns i 0 ∷ [])

pub taken_length : (ns : List ℕ) (i : ℕ) → i ≤ length ns → length (encodings (take i ns)) ≡ i
taken_length ns i h = length-map (take i ns) (λ (n : ℕ). record { bits = n }) ∙ length-take-le i ns h

pub finite_more : (xs : List Encoding) (x : Encoding) → all_finite xs ≡ true → is_finite binary32 x.bits ≡ true → all_finite (xs ++ x ∷ []) ≡ true
unfolding all_finite
finite_more [] x a f = rw f
finite_more (y ∷ ys) x a f =
    elim (is_finite binary32 y.bits) as (λ b. b && all_finite ys ≡ true → b && all_finite (ys ++ x ∷ []) ≡ true) [
      | true ↦ λ h. finite_more ys x h f
      | false ↦ λ h. h
    ] a

-- one cell that is not finite is enough
pub finite_stops : (ns : List ℕ) (i : ℕ) → i < length ns → is_finite binary32 (get_or ns i 0) ≡ false → all_finite (encodings ns) ≡ false
unfolding all_finite
finite_stops [] i l f = absurd (omega arith)
finite_stops (m ∷ ms) zero l f = rw f
finite_stops (m ∷ ms) (suc i) l f =
    let e : all_finite (encodings ms) ≡ false = finite_stops ms i (omega arith) f in
    rw e (elim (is_finite binary32 m) as (λ b. b && false ≡ false) [ true ↦ refl | false ↦ refl ])

-- the number of a reply that stands
pub nth_bits : (xs : List Encoding) (i : ℕ) (x : Encoding) → slice_get xs i ≡ Some x → slice_get (map (λ (e : Encoding). e.bits) xs) i ≡ Some x.bits
nth_bits [] i x e = let k : ◌≡◌ {A = ℕ} 0 1 = cc in absurd (omega arith)
nth_bits (y ∷ ys) zero x e = let q : y ≡ x = cc in ap (λ (z : Encoding). Some z.bits) q
nth_bits (y ∷ ys) (suc i) x e = nth_bits ys i x e

-- a reply to the pending poll, where there is room, is refused only where it is not finite
refuses_infinite : (m : Model) (p : ℕ) (x : Encoding) → m.pending ≡ true → p ≡ m.address → length m.replies < 288 → refuses_reply m p x ≡ cond (is_finite binary32 x.bits) None (Some NotFinite)
refuses_infinite m p x w e few = grind (arith, nat_tests)

pub taken_finite : (m : Model) (p : ℕ) (x : Encoding) → m.pending ≡ true → p ≡ m.address → length m.replies < 288 → refuses_reply m p x ≡ None → is_finite binary32 x.bits ≡ true
taken_finite m p x w e few none =
    let go : (b : Bool) → cond b None (Some NotFinite) ≡ None → b ≡ true = elim [ true ↦ λ h. refl | false ↦ λ h. cc ] in
    go (is_finite binary32 x.bits) (sym (refuses_infinite m p x w e few) ∙ none)

pub refused_infinite : (m : Model) (p : ℕ) (x : Encoding) (fault : MeterFault) → m.pending ≡ true → p ≡ m.address → length m.replies < 288 → refuses_reply m p x ≡ Some fault → is_finite binary32 x.bits ≡ false
refused_infinite m p x fault w e few some =
    let go : (b : Bool) → cond b None (Some NotFinite) ≡ Some fault → b ≡ false = elim [ true ↦ λ h. cc | false ↦ λ h. refl ] in
    go (is_finite binary32 x.bits) (sym (refuses_infinite m p x w e few) ∙ some)

-- a meter with the first i replies takes the next one in, by a poll of its own
pub refilled_more : (ns : List ℕ) (i a : ℕ) (waits new : Model) (x : Encoding) → i < length ns → all_finite (encodings (take i ns)) ≡ true → waits ≡ polled (filled a (encodings (take i ns))) → new ≡ replied waits x → x.bits ≡ get_or ns i 0 → is_finite binary32 x.bits ≡ true → (all_finite (encodings (take (i + 1) ns)) ≡ true) × (new ≡ filled a (encodings (take (i + 1) ns)))
refilled_more ns i a waits new x h all w n b f =
    let more = taken_more ns i h in
    let same : encodings (take i ns) ++ x ∷ [] ≡ encodings (take (i + 1) ns) = ap (λ (v : ℕ). encodings (take i ns) ++ record { bits = v } ∷ []) b ∙ sym more in
    (ap (λ (l : List Encoding). all_finite l) (sym same) ∙ finite_more (encodings (take i ns)) x all f, n ∙ ap (λ (m : Model). replied m x) w ∙ ap (λ (l : List Encoding). filled a l) same)
