-- The first 81 bytes of a line: how they grow, and that they decide which form it has.
use Rattle.std.proofs.Common.{◌≡◌, ℕ, ◌+◌, ◌<◌, ◌≤◌, List, [], ◌∷◌, ◌++◌, length, take, set, Some, None, Option, sym, ap, ◌∙◌, arith, length-append, length-take, length-take-le, take_all}
use lib.Seq.{take-append-le}
use Rattle.std.proofs.lemmas.List.{take_more_set}
use Rattle.forms.specs.Forms.{Good, text}
use Rattle.forms.specs.declared.Form.{Form}
use Rattle.lex.specs.Reads.{Reads}

-- there is room for one byte more
pub front_more :
    (bytes whole : List ℕ) (n b : ℕ) → n < 81 → length bytes ≡ 81 → take n bytes ≡ take 81 whole → take (n + 1) (set bytes n b) ≡ take 81 (whole ++ b ∷ [])
front_more bytes whole n b h l e =
    let few : length whole < 81 = omega (arith, ap length e, length-take-le n bytes (omega arith), length-take 81 whole) in
    let all = take_all 81 whole (omega arith) in
    let more = take_more_set bytes n b (omega arith) in
    let longer = take_all 81 (whole ++ b ∷ []) (simp length-append (omega arith)) in
    cc

-- there is none, and none is needed
pub front_full :
    (bytes whole : List ℕ) (n b : ℕ) → n ≡ 81 → length bytes ≡ 81 → take n bytes ≡ take 81 whole → take n bytes ≡ take 81 (whole ++ b ∷ [])
front_full bytes whole n b h l e =
    let many : 81 ≤ length whole = omega (arith, ap length e, length-take-le n bytes (omega arith), length-take 81 whole) in
    e ∙ sym (take-append-le 81 whole (b ∷ []) many)

pub front_decides : (whole : List ℕ) (o : Option Form) → Reads text Good (take 81 whole) o → Reads text Good whole o
front_decides whole (Some f) r =
    let few : length whole ≤ 81 = omega (arith, ap length r.1, r.0.1, length-take 81 whole) in
    (r.0, sym (take_all 81 whole few) ∙ r.1)
front_decides whole None r = λ f good e. r f good (take_all 81 whole (omega (arith, ap length e, good.1)) ∙ e)
