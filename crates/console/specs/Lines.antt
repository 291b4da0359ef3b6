-- How much of a line is kept.
use Rattle.std.specs.Prelude.{◌≡◌, ℕ, List, take}
use Rattle.console.specs.declared.line.Line.{Line}

abbrev pub held : Line → List ℕ
held l = take l.count l.bytes

-- A form has at most 80 bytes, so that the first 81 of a line decide its answer.
abbrev pub Keeps : Line → List ℕ → Type 0
Keeps l whole = held l ≡ take 81 whole
