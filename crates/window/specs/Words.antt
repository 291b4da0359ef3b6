-- What the words of a window hold.
use Rattle.std.specs.Prelude.{◌≡◌, ℕ, ◌+◌, ◌^◌, ◌≤◌, cond, List, ℤ, pos, ◌+ℤ◌, sum_by, ◌==◌, slice_index, slice_index_or}
use borrow.Author.Differences.{up, down}
use Rattle.rounding.specs.declared.encoding.Encoding.{Encoding}
use Rattle.window.specs.declared.words.Words.{Words}
use Rattle.window.specs.Replies.{field_of, signed_of, square_of, sum_z}

-- what a reply adds to the words of field k: its own field's alone
abbrev pub signed_at : ℕ → Encoding → ℤ
signed_at k e = cond (field_of e == k) (signed_of e) (pos 0)

abbrev pub square_at : ℕ → Encoding → ℕ
square_at k e = cond (field_of e == k) (square_of e) 0

-- The words are the sums over the list, field by field.
abbrev pub Tells : Words → List Encoding → Type 0
Tells w xs = (k : ℕ) → (slice_index_or w.sums k (pos 0) ≡ sum_z (signed_at k) xs) × (slice_index w.squares k ≡ sum_by (square_at k) xs)

-- v is w with one reply more
abbrev pub Joins : Words → Encoding → Words → Type 0
Joins w e v = (k : ℕ) → (slice_index_or v.sums k (pos 0) ≡ slice_index_or w.sums k (pos 0) +ℤ signed_at k e) × (slice_index v.squares k ≡ slice_index w.squares k + square_at k e)

-- The words are far from their ends.
abbrev pub Roomy : Words → Type 0
Roomy w = (k : ℕ) → (up (slice_index_or w.sums k (pos 0)) ≤ down (slice_index_or w.sums k (pos 0)) + 2 ^ 40) × (down (slice_index_or w.sums k (pos 0)) ≤ up (slice_index_or w.sums k (pos 0)) + 2 ^ 40) × (slice_index w.squares k ≤ 2 ^ 60)
