use Rattle.std.proofs.Common.{◌≡◌, ℕ, ◌+◌, ◌<◌, ◌≤◌, length, get_or, ℤ, pos, ◌+ℤ◌, sym, ◌∙◌, arith, rules}
use borrow.Author.Differences.{ints}
use Rattle.rounding.specs.declared.encoding.Encoding.{Encoding}
use Rattle.window.specs.Replies.{square_of}
use Rattle.window.specs.Words.{signed_at, square_at}
use Rattle.window.proofs.Adding.{at_place, signed_small, signed_here, signed_apart, square_here, square_apart}
use Rattle.window.proofs.words.Words.without.Goals as goal

pub overflow_sub-next : goal.overflow_sub-next
overflow_sub-next c = omega (arith, ints, c.signed.ensures, signed_small c.args.reply, c.requires.roomy c.field-field.result)

pub returns : goal.returns
returns c k =
    let e : Encoding = c.args.reply in
    let f : ℕ = c.field-field.result in
    let held : square_of e ≤ get_or c.args.self.squares f 0 = rw c.field-field.ensures c.requires.held in
    let within : f < length c.args.self.sums = search rules in
    let within' : f < length c.args.self.squares = search rules in (
      at_place (λ (k : ℕ) (a b : ℤ). a ≡ b +ℤ signed_at k e) c.args.self.sums f _ (pos 0) within
          (rw (signed_here e f c.field-field.ensures) (omega (arith, ints, c.signed.ensures, signed_small e, c.requires.roomy f)))
          (λ k ne. rw (signed_apart e k (λ z. ne (z ∙ sym c.field-field.ensures))) (omega (arith, ints))) k,
      at_place (λ (k : ℕ) (a b : ℕ). a ≡ b + square_at k e) c.args.self.squares f _ 0 within'
          (rw (square_here e f c.field-field.ensures) (omega (arith, c.square.ensures, held)))
          (λ k ne. rw (square_apart e k (λ z. ne (z ∙ sym c.field-field.ensures))) (omega arith)) k,
    )
