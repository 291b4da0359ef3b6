-- What users of a window may cite: bounds on what stands, that a peak is the only one, and that what is asked is in range.
use Rattle.std.proofs.Common.{◌≡◌, ℕ, ◌-◌, ◌*◌, true, ◌<◌, ◌≤◌, List, length, get_or, ap, ◌∙◌, subst, ⊎_elim, arith}
use borrow.Author.Differences.{le_out, lt_out}
use Rattle.std.specs.List.{slice_get}
use Rattle.std.proofs.lemmas.Bool.{cases_order, le-leb, lt-ltb}
use Rattle.engines.specs.Band.{in_range}
use Rattle.rounding.specs.declared.encoding.Encoding.{Encoding}
use Rattle.window.specs.declared.peak.Peak.{Peak}
use Rattle.window.specs.declared.window.Window.{Window}
use Rattle.window.specs.Replies.{Finite, worth_of}
use Rattle.window.specs.Ring.{blank}
use Rattle.window.specs.Window.{standing}
use Rattle.window.specs.Peak.{Peaks}
use Rattle.window.proofs.Turning.{ringed_length, nth_stands}

pub standing_few : (w : Window) → length (standing w) ≤ 288
standing_few w = omega (arith, w.ring.few, ringed_length w.ring.cells w.ring.start w.ring.count)

pub standing_finite : (w : Window) (k : ℕ) → Finite (get_or (standing w) k blank)
standing_finite w k = w.held.0 k

-- a peak is one of the replies, and so it is finite where they are
pub peak_finite : (xs : List Encoding) (p : Peak) → Peaks xs p → ((k : ℕ) → Finite (get_or xs k blank)) → Finite p.encoding
peak_finite xs p a all = subst Finite (nth_stands xs (p.place - 1) p.encoding a.stands).1 (all (p.place - 1))

-- of two peaks neither has the lesser place
not_before : (xs : List Encoding) (p q : Peak) → Peaks xs p → Peaks xs q → p.place < q.place → ⊥
not_before xs p q a b lt =
    let m = nth_stands xs (p.place - 1) p.encoding a.stands in
    let n = nth_stands xs (q.place - 1) q.encoding b.stands in
    let less = lt_out (worth_of (get_or xs (p.place - 1) blank)) (worth_of q.encoding) (b.oldest (p.place - 1) (omega (arith, a.counted))) in
    let most = le_out (worth_of (get_or xs (q.place - 1) blank)) (worth_of p.encoding) (a.greatest (q.place - 1) n.0) in
    omega (arith, rw m.1 at less, rw n.1 at most)

abbrev made : ℕ → Encoding → Peak
made n e = record { place = n; encoding = e }

pub peak_only : (xs : List Encoding) (p q : Peak) → Peaks xs p → Peaks xs q → p ≡ q
peak_only xs p q a b =
    let same : p.place ≡ q.place = ⊎_elim (λ e. e) (λ h. ⊎_elim (λ lt. absurd (not_before xs p q a b lt)) (λ gt. absurd (not_before xs q p b a gt)) h) (cases_order p.place q.place) in
    let enc : p.encoding ≡ q.encoding = cc (a.stands, b.stands, ap (λ (n : ℕ). slice_get xs (n - 1)) same) in
    ap (λ (n : ℕ). made n p.encoding) same ∙ ap (made q.place) enc

-- a question is in range
pub in_range_from : (d n : ℕ) → (8388608 ≤ d) × (d < 16777216) → (16777216 * d ≤ n) × (n < 33554432 * d) → in_range d n ≡ true
in_range_from d n a b = simp (le-leb 8388608 d a.0, lt-ltb d 16777216 a.1, le-leb (16777216 * d) n b.0, lt-ltb n (33554432 * d) b.1)
