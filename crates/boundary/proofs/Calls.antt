-- The calls over words, said of the calls below them: what does not fit is Damaged, and else a call's answer, state and memory are what its caller sees.
-- Assumes nothing.
use mathlib.Core.Path.{◌≡◌, refl, sym, ap, ap₂, ◌∙◌}
use mathlib.Core.Bool.{Bool, true, false}
use mathlib.Core.List.{List, [], ◌∷◌}
use Prim.Native.Nat.{ℕ, ◌<◌}
use native.Mathlib.Omega.{arith}
use borrow.Author.Tests.{ne_eqb}
use Rattle.std.specs.Prelude.{Result, Ok, Err}
use Rattle.kinds.specs.declared.State.{State}
use Rattle.kinds.specs.Answers.{Answer, answer_of, state_or}
use Rattle.rules.specs.Calls.{Outcome, outcome}
use Rattle.format.specs.Calls.{Output, output}
use Rattle.boundary.specs.Words.{holds_state, state_in, put_state, put_if_done, put_ok}
use Rattle.boundary.proofs.Words.{words}
use Rattle.boundary.specs.Calls.{Seen, seen, if_fit, told, carry, begun, rate_carried, length_carried}

-- ---- what fits

module _ {L : Type 0} (fit : Bool) (ws cs : List ℕ) (l : L) (s : Seen L) where
  pub unfit : fit ≡ false → seen 1 ws cs l ≡ if_fit fit ws cs l s
  unfolding if_fit
  unfit e = sym (rw e)

  pub fits : fit ≡ true → (t : Seen L) → t ≡ s → t ≡ if_fit fit ws cs l s
  unfolding if_fit
  fits e t p = p ∙ sym (rw e)

-- ---- what the caller of a call sees

module _ {L : Type 0} (ws : List ℕ) (a : Answer) (s : State) (l : L) (o : Outcome L) (e : outcome a s l ≡ o) where
  -- a call whose state goes into the words
  pub tells : (n : ℕ) (vs : List ℕ) → n ≡ a.number → vs ≡ put_state s ws → seen n vs [] l ≡ told ws o
  unfolding told
  tells n vs p q = ap₂ (λ (m : ℕ) (us : List ℕ). seen m us [] l) p q ∙ ap (told ws) e

  -- a call that begins a run
  pub begins : (cs : List ℕ) (n : ℕ) (vs ds : List ℕ) → n ≡ a.number → vs ≡ put_if_done n s ws → ds ≡ carry a.carries cs → seen n vs ds l ≡ begun ws cs o
  unfolding begun
  begins cs n vs ds p q r =
      ap₂ (λ (us bs : List ℕ). seen n us bs l) q r ∙ ap (λ (m : ℕ). seen m (put_if_done m s ws) (carry a.carries cs) l) p ∙ ap (begun ws cs) e

-- what is put into the words of a call: refused, they are the words of the state that they hold
pub put_told : {E : Type 0} (r : Result State E) (ws : List ℕ) → holds_state ws ≡ true → (s : State) → s ≡ state_in ws → put_ok r ws ≡ put_state (state_or s r) ws
put_told (Ok t) ws h s e = refl
put_told (Err f) ws h s e = rw e (sym (words.own ws h))

-- and into those of a call that begins a run
pub put_begun : {E : Type 0} (refusal : E → Answer) → ((e : E) → 0 < (refusal e).number) → (s : State) (r : Result State E) (ws : List ℕ)
    → put_ok r ws ≡ put_if_done (answer_of refusal r).number (state_or s r) ws
unfolding put_if_done
put_begun refusal refuses s (Ok t) ws = refl
put_begun refusal refuses s (Err e) ws = let h : 0 < (refusal e).number = refuses e in sym (rw (ne_eqb (refusal e).number 0 (λ z. omega arith)))

-- no word changes where there is none
pub carry_none : (vs : List ℕ) → [] ≡ carry vs []
unfolding carry
carry_none [] = refl
carry_none (v ∷ vs) = refl

-- an estimate
pub estimates : (ws cs : List ℕ) (a b : Answer) → a ≡ b → (n : ℕ) (ds : List ℕ) → n ≡ a.number → ds ≡ carry (rate_carried a) cs
    → seen {L = Unit} n ws ds tt ≡ seen b.number ws (carry (rate_carried b) cs) tt
estimates ws cs a b e n ds p q =
    ap₂ (λ (m : ℕ) (bs : List ℕ). seen {L = Unit} m ws bs tt) p q ∙ ap (λ (x : Answer). seen {L = Unit} x.number ws (carry (rate_carried x) cs) tt) e

-- a write
pub writes : (ws cs : List ℕ) (a : Answer) (s : State) (k : ℕ) (out : List ℕ) (o : Outcome Output) → outcome a s (output k out) ≡ o
    → (n : ℕ) (ds : List ℕ) → n ≡ a.number → ds ≡ carry (length_carried a k) cs
    → seen n ws ds out ≡ seen o.answer.number ws (carry (length_carried o.answer o.lent.len) cs) o.lent.bytes
writes ws cs a s k out o e n ds p q =
    ap₂ (λ (m : ℕ) (bs : List ℕ). seen m ws bs out) p q
    ∙ ap (λ (x : Outcome Output). seen x.answer.number ws (carry (length_carried x.answer x.lent.len) cs) x.lent.bytes) e
