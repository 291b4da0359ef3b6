-- Sums of words at rising places.
use Rattle.std.specs.Prelude.{ℕ, zero, suc, ◌+◌, ◌-◌, ◌*◌, ◌^◌, List, ℤ, pos, slice_index_or, unwrap_or, option_map}
use Rattle.std.specs.List.{slice_get}
use borrow.Author.Differences.{up, down}

-- the words below n: the first two count ones, and each later one counts 2^step times as much as the one before
unfoldable pub spread : ℕ → (ℕ → ℕ) → ℕ → ℕ
spread step w zero = 0
spread step w (suc n) = spread step w n + w n * 2 ^ (step * (n - 1))

-- what signed words have above 0, and below
abbrev pub ups : List ℤ → ℕ → ℕ
ups ws k = up (slice_index_or ws k (pos 0))

abbrev pub downs : List ℤ → ℕ → ℕ
downs ws k = down (slice_index_or ws k (pos 0))

-- a signed word raised by 2^63, so that it is not below 0
abbrev pub raised : ℤ → ℕ
raised z = up z + 2 ^ 63 - down z

-- words as a pass takes them, and 0 past the last one
abbrev pub taken : {A : Type 0} → (A → ℕ) → List A → ℕ → ℕ
taken worth ws k = unwrap_or (option_map worth (slice_get ws k)) 0
