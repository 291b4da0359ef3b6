-- Lemmas on the parts of a line: groups, and the first space.
use Rattle.std.proofs.Common.{◌≡◌, ℕ, zero, suc, ◌+◌, ◌<◌, ◌≤◌, Bool, true, false, not, ◌==◌, ◌&&◌, eqb, List, [], ◌∷◌, ◌++◌, length, get_or, take, drop, Some, None, Option, sym, refl, ap, ◌∙◌, suc-le-suc, le_of_suc-le-suc, arith, length-append, take-append-drop, length-take, Bor, MatchOption}
use Rattle.std.proofs.lemmas.List.{append_cancel_left, append_cancel_right, get_or-take, get_or_at, drop_more}
use Rattle.std.proofs.lemmas.Bool.{and_parts, eqb-false, eqb-true, not-true}
use Rattle.std.proofs.lemmas.Bool.Decides.{nat_tests}
use Rattle.std.proofs.lemmas.List.Quantifiers.{position-Some}
use Rattle.std.proofs.lemmas.List.Sums.{fails_before_first}
use Rattle.std.specs.List.{position, position_or_len}
use Rattle.lex.specs.Parts.{group, pair, Solid, Apart}
use Rattle.lex.specs.Reads.{Reads, held}

-- the text is cut at its first space
pub cut_found : (s : List ℕ) (i : ℕ) → Some i ≡ position (λ byte. byte == 32) s → Solid (take i s) × (s ≡ pair (take i s, drop (i + 1) s))
cut_found s i e = (solid, sym (take-append-drop i s) ∙ ap (λ (t : List ℕ). take i s ++ t) (drop_more s i 0 first.0 ∙ ap (λ (b : ℕ). b ∷ drop (i + 1) s) (eqb-true _ _ first.1)))
  where
    first : (i < length s) × ((get_or s i 0 == 32) ≡ true) × ((k : ℕ) → k < i → (get_or s k 0 == 32) ≡ false)
    first = position-Some (λ byte. byte == 32) s i 0 (sym e)

    solid : Solid (take i s)
    solid k l h =
        let b : k < i = omega (arith, simp length-take at l) in
        eqb-false _ _ (first.2 k b) (sym (get_or-take i s k 0 b) ∙ h)

pub none_found : (s : List ℕ) → None ≡ position (λ byte. byte == 32) s → Solid s
none_found s e k l = eqb-false _ _ (fails_before_first (λ byte. byte == 32) s k 0 (omega (arith, far)))
  where
    far : length s ≤ position_or_len (λ byte. byte == 32) s
    far = grind (arith, nat_tests)

pub no_pair : (s : List ℕ) → Solid s → (p : List ℕ × List ℕ) → Apart p → s ≡ pair p → ⊥
no_pair s none p apart e =
    none
    (length p.0)
    (omega (arith, simp length-append at (ap length e)))
    (ap (λ (t : List ℕ). get_or t (length p.0) 0) e ∙ get_or_at p.0 32 p.1 0 (length p.0) refl)

-- the rest behind the head, without its parenthesis
pub within : (s head rest : List ℕ) (r : Option (Bor (List ℕ)))
    → s ≡ head ++ rest
    → MatchOption r ((front : List ℕ) → rest ≡ front ++ (41 ∷ []) → ⊥) (λ x. rest ≡ x.now ++ (41 ∷ []))
    → Reads (group head) (λ _. Unit {0}) s (held r)
within s head rest None p q = λ x good e. q x (append_cancel_left head _ _ (sym p ∙ e))
within s head rest (Some x) p q = (tt, p ∙ ap (λ (t : List ℕ). head ++ t) q)

-- a group has one inside
pub group_same : (head x y : List ℕ) → group head x ≡ group head y → x ≡ y
group_same head x y e = append_cancel_right x y (41 ∷ []) (append_cancel_left head _ _ e)

-- a text has one first space
pub pair_same : (a b c d : List ℕ) → Solid a → Solid c → pair (a, b) ≡ pair (c, d) → (a ≡ c) × (b ≡ d)
pair_same [] b [] d apart apart' e = (refl, ap (drop 1) e)
pair_same [] b (y ∷ c) d apart apart' e = absurd (apart' 0 (omega arith) (sym (ap (λ (s : List ℕ). get_or s 0 0) e)))
pair_same (x ∷ a) b [] d apart apart' e = absurd (apart 0 (omega arith) (ap (λ (s : List ℕ). get_or s 0 0) e))
pair_same (x ∷ a) b (y ∷ c) d apart apart' e =
    let h =
    pair_same a b c d (λ i l t. apart (suc i) (suc-le-suc l) t) (λ i l t. apart' (suc i) (suc-le-suc l) t) (ap (drop 1) e)
    in
    let first : x ≡ y = ap (λ (s : List ℕ). get_or s 0 0) e in
    (cc (first, h.0), h.1)

-- a text that is written out has no space: by computing it
abbrev pub spaceless : List ℕ → Bool
spaceless [] = true
spaceless (x ∷ xs) = not (eqb x 32) && spaceless xs

pub solid_from : (s : List ℕ) → spaceless s ≡ true → Solid s
solid_from [] h i l e = omega arith
solid_from (x ∷ xs) h zero l e = eqb-false x 32 (not-true (eqb x 32) (and_parts (not (eqb x 32)) (spaceless xs) h).0) e
solid_from (x ∷ xs) h (suc i) l e = solid_from xs (and_parts (not (eqb x 32)) (spaceless xs) h).1 i (le_of_suc-le-suc l) e

-- a reader of what stands in a group reads the group
pub reads_group : {X : Type 0} (head inner s : List ℕ) (t : X → List ℕ) (Good : X → Type 0) (r : Option X)
    → s ≡ group head inner
    → Reads t Good inner r
    → Reads (λ a. group head (t a)) Good s r
reads_group head inner s t Good None p q = λ a good e. q a good (group_same head inner (t a) (sym p ∙ e))
reads_group head inner s t Good (Some a) p q = (q.0, p ∙ ap (group head) q.1)

-- what a reader of two parts has to show where it finds none: no split, no first part, no second one
module _ {X Y : Type 0} (t : X → List ℕ) (u : Y → List ℕ) (Fine : X → Type 0) (Nice : Y → Type 0) (solid : (a : X) → Fine a → Solid (t a)) where
  pub no_split : (s : List ℕ) → ((p : List ℕ × List ℕ) → Apart p → s ≡ pair p → ⊥) → (a : X) (b : Y) → Fine a → s ≡ pair (t a, u b) → ⊥
  no_split s none a b fine e = none (t a, u b) (solid a fine) e

  pub no_first : (s x y : List ℕ)
      → Solid x
      → s ≡ pair (x, y)
      → ((a : X) → Fine a → x ≡ t a → ⊥)
      → (a : X) (b : Y) → Fine a → s ≡ pair (t a, u b) → ⊥
  no_first s x y apart p none a b fine e = none a fine (pair_same x y (t a) (u b) apart (solid a fine) (sym p ∙ e)).0

  pub no_second : (s x y : List ℕ)
      → Solid x
      → s ≡ pair (x, y)
      → ((b : Y) → Nice b → y ≡ u b → ⊥)
      → (a : X) (b : Y) → Fine a → Nice b → s ≡ pair (t a, u b) → ⊥
  no_second s x y apart p none a b fine nice e = none b nice (pair_same x y (t a) (u b) apart (solid a fine) (sym p ∙ e)).1
