-- The promise over whole runs, from what each step tells of its call.
use Rattle.std.proofs.Common.{◌≡◌, ℕ, ◌+◌, ◌-◌, ◌*◌, ◌^◌, ◌<◌, Bool, List, [], ◌∷◌, ◌++◌, length, take, replicate, Some, Ok, sym, refl, ap, ◌∙◌, subst, lit<}
use Rattle.std.proofs.lemmas.List.{take_at, take_more}
use Rattle.std.proofs.lemmas.Option.{slice_get_within, get_or_from_slice_get}
use Rattle.std.specs.List.{slice_get}
use Rattle.engines.specs.declared.meaning.Log.{Log}
use Rattle.rounding.specs.Format.{binary32}
use Rattle.rounding.specs.Exact.{Exact, Less, Same, Between, worth}
use Rattle.rounding.specs.Rules.{Meaning, Lawful}
use Rattle.rounding.specs.Rounding.{Outcome, rounded, chosen, settled, raised, whole, odd, rest}
use Rattle.rounding.proofs.Faithful.{keeps_values, neighbours, same_answers, rising_answers}
use Rattle.meter.specs.declared.call.Call.{Call}
use Rattle.meter.specs.Model.{Model, fresh, after}
use Rattle.replay.specs.Calls.{asked, refused_by}
use Rattle.replay.specs.Runs.{state, asks_of, Written}
use Rattle.replay.specs.Promise.{Run, before, Watched, Answered, Faithful, Alike, Agreeing, Rising, Promise}
use Rattle.replay.proofs.Tellings.{told_refuses, told_accepted, accepted_number, told_number, number_only}

-- rules of one meaning round alike
alike_chosen : (m n : Meaning) → Alike m n → (s : Bool) (h a b : ℕ) → chosen m s h a b ≡ chosen n s h a b
unfolding chosen
alike_chosen m n e s h a b = simp (e.grow s (odd (whole h a b)) (rest h a b))

alike_rounded : (m n : Meaning) → Alike m n → (v : Exact) → rounded binary32 m v ≡ rounded binary32 n v
unfolding settled raised
alike_rounded m n e v =
    let s = v.negative in
    simp (alike_chosen m n e s 8388608 (v.num * 2 ^ 149) v.den, e.infinite s)

-- an answer with an exact value is the rounded value
module _ (r : Run) (w : Watched r) (k : ℕ) (v : Exact) (x f : ℕ) (a : Answered r k v x f) where
  answered : (x ≡ (rounded binary32 r.rule v).bits) × (f ≡ (rounded binary32 r.rule v).flags)
  answered =
      let t = told_number r.rule (before r k) a.call v a.exact in
      number_only (record { bits = x; flags = f }) (rounded binary32 r.rule v)
      (sym a.answer ∙ w.answers k a.call a.step a.at ∙ t.0)

  divided : 0 < v.den
  divided = (told_number r.rule (before r k) a.call v a.exact).1

faithful : (r : Run) → Lawful r.rule → Watched r → Faithful r
faithful r law w k v x f a y ok =
    let e = (answered r w k v x f a).0 in
    let dp = divided r w k v x f a in (
      λ same. subst (λ (z : ℕ). Same (worth binary32 z) v) (sym e) (keeps_values binary32 r.rule v y (lit< tt, lit< tt) law dp ok same),
      λ between. neighbours binary32 r.rule v y (lit< tt, lit< tt) law dp ok (subst (λ (z : ℕ). Between (worth binary32 y) (worth binary32 z) v) e between),
    )

agreeing : (r q : Run) → Watched r → Watched q → Agreeing r q
agreeing r q w u alike k l v z x f y g a b some same =
    let e = answered r w k v x f a in
    let d = answered q u l z y g b in
    let o : rounded binary32 r.rule v ≡ rounded binary32 q.rule z =
    same_answers binary32 r.rule v z (lit< tt, lit< tt) (divided r w k v x f a) (divided q u l z y g b) some same ∙ alike_rounded r.rule q.rule alike z in
    (e.0 ∙ ap (λ (t : Outcome). t.bits) o ∙ sym d.0, e.1 ∙ ap (λ (t : Outcome). t.flags) o ∙ sym d.1)

rising : (r q : Run) → Lawful r.rule → Watched r → Watched q → Rising r q
rising r q law w u alike k l v z x f y g a b less back =
    let e = (answered r w k v x f a).0 in
    let d : y ≡ (rounded binary32 r.rule z).bits = (answered q u l z y g b).0 ∙ sym (ap (λ (t : Outcome). t.bits) (alike_rounded r.rule q.rule alike z)) in
    rising_answers binary32 r.rule v z (lit< tt, lit< tt) law (divided r w k v x f a) (divided q u l z y g b) less
    (subst (λ (t : ℕ). Less (worth binary32 t) (worth binary32 (rounded binary32 r.rule v).bits)) d
    (subst (λ (t : ℕ). Less (worth binary32 y) (worth binary32 t)) e back))

pub promise : (r q : Run) → Lawful r.rule → Lawful q.rule → Watched r → Watched q → Promise r q
promise r q lr lq w u =
    record {
      first = w;
      second = u;
      first_faithful = faithful r lr w;
      second_faithful = faithful q lq u;
      first_agrees = agreeing r r w w;
      second_agrees = agreeing q q u u;
      both_agree = agreeing r q w u;
      first_rises = rising r r lr w w;
      second_rises = rising q q lq u u;
      first_under_second = rising r q lr w u;
      second_under_first = rising q r lq u w;
    }

-- one call more
pub state_push : (b : Model) (cs : List Call) (c : Call) → state b (cs ++ c ∷ []) ≡ after (state b cs) c
unfolding state
state_push b [] c = refl
state_push b (d ∷ cs) c = state_push (after b d) cs c

pub asks_push : (log : Log) (b : Model) (cs : List Call) (c : Call) → asks_of log b (cs ++ c ∷ []) ≡ asked (asks_of log b cs) (state b cs) c
unfolding asks_of state
asks_push log b [] c = refl
asks_push log b (d ∷ cs) c = asks_push (asked log b d) (after b d) cs c

pub take_push : {A : Type 0} (xs : List A) (k : ℕ) (x : A) → slice_get xs k ≡ Some x → take (k + 1) xs ≡ take k xs ++ x ∷ []
take_push xs k x e = take_more xs k x (slice_get_within xs k x e) ∙ ap (λ z. take k xs ++ z ∷ []) (get_or_from_slice_get xs k x x e)

-- the run of one meter, watched
pub watched : (r : Run) → length r.steps ≡ length r.lent → Written r.rule r.engine (fresh r.address) r.calls r.lent r.steps → Watched r
watched r room w =
    record {
      refuses = λ k c s at. ap refused_by (w.each k c s at.given at.written).answer ∙ told_refuses r.rule (before r k) c;
      window =
          λ k c s at.
          let t = w.each k c s at.given at.written in
          ap (λ (n : ℕ). take n s.standing) t.counted ∙ ap (take (length (after (before r k) c).replies)) t.listed
          ∙ take_at (after (before r k) c).replies (replicate (288 - length (after (before r k) c).replies) (record { bits = 0 })) _ refl;
      numbers =
          λ k c s o at ok e.
          (w.each k c s at.given at.written).answer ∙ told_accepted r.rule (before r k) c ok ∙ ap Ok (accepted_number r.rule (before r k) c o e);
      answers = λ k c s at. (w.each k c s at.given at.written).answer;
      asks =
          λ k c s at.
          (w.each k c s at.given at.written).asking ∙ sym (asks_push r.engine (fresh r.address) (take k r.calls) c)
          ∙ sym (ap (asks_of r.engine (fresh r.address)) (take_push r.calls k c at.given));
      room = room;
      beyond = w.beyond;
    }
