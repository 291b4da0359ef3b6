-- What every reader of texts promises.
use Rattle.std.specs.Prelude.{◌≡◌, ℕ, List, Some, None, Option, ◌≢◌}
use Rattle.std.specs.Borrow.{Bor}

-- r is the good value whose text s is, and None only where there is none
abbrev pub Reads : {X : Type 0} → (X → List ℕ) → (X → Type 0) → List ℕ → Option X → Type 0
Reads {X} text Good s None = (a : X) → Good a → s ≢ text a
Reads text Good s (Some a) = Good a × (s ≡ text a)

-- the bytes behind a reader's answer
abbrev pub held : Option (Bor (List ℕ)) → Option (List ℕ)
held None = None
held (Some x) = Some x.now

abbrev pub held_both : Option (Bor (List ℕ) × Bor (List ℕ)) → Option (List ℕ × List ℕ)
held_both None = None
held_both (Some p) = Some (p.0.now, p.1.now)
