-- A run's steps, written one after the other.
use Rattle.std.proofs.Common.{◌≡◌, ℕ, ◌+◌, ◌<◌, ◌≤◌, ◌≢◌, min, List, [], ◌∷◌, ◌++◌, length, take, drop, set, Some, sym, refl, ap, ◌∙◌, subst, ⊎_elim, arith, drop-set-lt, get_or-set_same, get_or-set_other}
use Rattle.std.proofs.lemmas.Bool.{cases_lt}
use Rattle.std.proofs.lemmas.List.{drop-drop, drop_all, length-set}
use Rattle.std.proofs.lemmas.Option.{slice_get_within, slice_get-get_or, get_or_from_slice_get, same_Some}
use Rattle.std.specs.List.{slice_get}
use Rattle.engines.specs.declared.meaning.Log.{Log}
use Rattle.rounding.specs.Rules.{Meaning}
use Rattle.meter.specs.declared.call.Call.{Call}
use Rattle.meter.specs.Model.{Model, after}
use Rattle.replay.specs.declared.step.Step.{Step}
use Rattle.replay.specs.Calls.{asked}
use Rattle.replay.specs.Runs.{state, asks_of, Right, Written}
use Rattle.replay.proofs.Promises.{state_push, asks_push, take_push}

-- what stands at k once x is put at i
put_at : {A : Type 0} (xs : List A) (i : ℕ) (x y : A) → i < length xs → slice_get (set xs i x) i ≡ Some y → y ≡ x
put_at xs i x y lt e = sym (get_or_from_slice_get (set xs i x) i y x e) ∙ get_or-set_same xs i x x lt

put_before : {A : Type 0} (xs : List A) (i k : ℕ) (x y : A) → k < i → slice_get (set xs i x) k ≡ Some y → slice_get xs k ≡ Some y
put_before xs i k x y lt e =
    let apart : k ≢ i = omega arith in
    let in-set = slice_get_within (set xs i x) k y e in
    let inside : k < length xs = omega (arith, length-set xs i x) in
    slice_get-get_or xs k y inside ∙ ap Some (sym (get_or-set_other xs i k x y apart) ∙ get_or_from_slice_get (set xs i x) k y y e)

-- the first i calls are performed: b0 and log0 are where the run began, b and log where it has come to
pub record Progress (m : Meaning) (log0 : Log) (b0 : Model) (calls : List Call) (lent steps : List Step) (i : ℕ) (b : Model) (log : Log) : Type 0 where
  pub within : i ≤ length calls
  pub each : (k : ℕ) (c : Call) (s : Step) → k < i → slice_get calls k ≡ Some c → slice_get steps k ≡ Some s → Right m (asks_of log0 b0 (take k calls)) (state b0 (take k calls)) c s
  pub behind : drop i steps ≡ drop i lent
  pub model_is : b ≡ state b0 (take i calls)
  pub log_is : log ≡ asks_of log0 b0 (take i calls)

pub progress_none : (m : Meaning) (log : Log) (b : Model) (calls : List Call) (lent : List Step) → Progress m log b calls lent lent 0 b log
unfolding state asks_of
progress_none m log b calls lent = record { within = omega arith; each = λ k c s lt _ _. absurd (omega arith); behind = refl; model_is = refl; log_is = refl }

pub progress_more : (m : Meaning) (log0 : Log) (b0 : Model) (calls : List Call) (lent steps : List Step) (i : ℕ) (b : Model) (log : Log) (c : Call) (s : Step) (b' : Model) (log' : Log)
    → Progress m log0 b0 calls lent steps i b log → i < length steps → slice_get calls i ≡ Some c → Right m log b c s → b' ≡ after b c → log' ≡ asked log b c
    → Progress m log0 b0 calls lent (set steps i s) (i + 1) b' log'
progress_more m log0 b0 calls lent steps i b log c s b' log' p room at right be le =
    let t : take (i + 1) calls ≡ take i calls ++ c ∷ [] = take_push calls i c at in
    let here = slice_get_within calls i c at in
    record {
      within = omega arith;
      each =
          λ k d u lt ne nu.
          ⊎_elim
          (λ (less : k < i). p.each k d u less ne (put_before steps i k s u less nu))
          (λ (ge : i ≤ k).
          let same : k ≡ i = omega arith in
          let dc : d ≡ c = same_Some d c (sym ne ∙ ap (slice_get calls) same ∙ at) in
          let us : u ≡ s = put_at steps i s u room (ap (slice_get (set steps i s)) (sym same) ∙ nu) in
          let r : Right m (asks_of log0 b0 (take i calls)) (state b0 (take i calls)) c s =
          subst (λ (l : Log). Right m l (state b0 (take i calls)) c s) p.log_is (subst (λ (z : Model). Right m log z c s) p.model_is right) in
          subst (λ (j : ℕ). Right m (asks_of log0 b0 (take j calls)) (state b0 (take j calls)) d u) (sym same)
          (subst (λ (e : Call). Right m (asks_of log0 b0 (take i calls)) (state b0 (take i calls)) e u) (sym dc)
          (subst (λ (e : Step). Right m (asks_of log0 b0 (take i calls)) (state b0 (take i calls)) c e) (sym us) r)))
          (cases_lt k i);
      behind = drop-set-lt (i + 1) steps i s (omega arith) ∙ sym (drop-drop 1 i steps) ∙ ap (drop 1) p.behind ∙ drop-drop 1 i lent;
      model_is = be ∙ ap (λ (z : Model). after z c) p.model_is ∙ sym (state_push b0 (take i calls) c) ∙ sym (ap (state b0) t);
      log_is =
          le ∙ ap (λ (l : Log). asked l b c) p.log_is ∙ ap (λ (z : Model). asked (asks_of log0 b0 (take i calls)) z c) p.model_is
          ∙ sym (asks_push log0 b0 (take i calls) c) ∙ sym (ap (asks_of log0 b0) t);
    }

-- what is there at the end, where calls or room have run out
pub record Finished (m : Meaning) (log0 : Log) (b0 : Model) (calls : List Call) (lent steps : List Step) (log : Log) : Type 0 where
  pub written : Written m log0 b0 calls lent steps
  pub asks : log ≡ asks_of log0 b0 (take (min (length calls) (length lent)) calls)

pub progress_all : (m : Meaning) (log0 : Log) (b0 : Model) (calls : List Call) (lent steps : List Step) (i : ℕ) (b : Model) (log : Log)
    → Progress m log0 b0 calls lent steps i b log → length steps ≡ length lent → i ≡ min (length calls) (length lent)
    → Finished m log0 b0 calls lent steps log
progress_all m log0 b0 calls lent steps i b log p same e =
    record {
      written =
          record {
            each = λ k c s ne nu. p.each k c s (omega (arith, slice_get_within calls k c ne, slice_get_within steps k s nu)) ne nu;
            beyond =
                ⊎_elim
                (λ (short : length steps < length calls). drop_all (length calls) steps (omega arith) ∙ sym (drop_all (length calls) lent (omega arith)))
                (λ (long : length calls ≤ length steps).
                let d : i ≡ length calls = omega arith in
                subst (λ (n : ℕ). drop n steps ≡ drop n lent) d p.behind)
                (cases_lt (length steps) (length calls));
          };
      asks = p.log_is ∙ ap (λ (n : ℕ). asks_of log0 b0 (take n calls)) e;
    }
