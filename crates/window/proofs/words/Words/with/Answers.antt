use Rattle.std.proofs.Common.{◌≡◌, ℕ, ◌+◌, ◌<◌, length, ℤ, pos, ◌+ℤ◌, sym, ◌∙◌, arith, rules}
use borrow.Author.Differences.{ints}
use Rattle.rounding.specs.declared.encoding.Encoding.{Encoding}
use Rattle.window.specs.Words.{signed_at, square_at}
use Rattle.window.proofs.Adding.{at_place, signed_small, square_small, signed_here, signed_apart, square_here, square_apart}
use Rattle.window.proofs.words.Words.with.Goals as goal

pub overflow_add-next : goal.overflow_add-next
overflow_add-next c = omega (arith, ints, c.signed.ensures, signed_small c.args.reply, c.requires.roomy c.field-field.result)

pub overflow_add-next-2 : goal.overflow_add-next-2
overflow_add-next-2 c = omega (arith, c.square.ensures, square_small c.args.reply, c.requires.roomy c.field-field.result)

pub returns : goal.returns
returns c k =
    let e : Encoding = c.args.reply in
    let f : ℕ = c.field-field.result in
    let within : f < length c.args.self.sums = search rules in
    let within' : f < length c.args.self.squares = search rules in (
      at_place (λ (k : ℕ) (a b : ℤ). b ≡ a +ℤ signed_at k e) c.args.self.sums f _ (pos 0) within
          (rw (signed_here e f c.field-field.ensures) (omega (arith, ints, c.signed.ensures, signed_small e, c.requires.roomy f)))
          (λ k ne. rw (signed_apart e k (λ z. ne (z ∙ sym c.field-field.ensures))) (omega (arith, ints))) k,
      at_place (λ (k : ℕ) (a b : ℕ). b ≡ a + square_at k e) c.args.self.squares f _ 0 within'
          (rw (square_here e f c.field-field.ensures) (omega (arith, c.square.ensures)))
          (λ k ne. rw (square_apart e k (λ z. ne (z ∙ sym c.field-field.ensures))) (omega arith)) k,
    )
