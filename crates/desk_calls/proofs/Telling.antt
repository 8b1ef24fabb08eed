-- What is said of a call, from its outcome. Assumes nothing.
use mathlib.Core.Path.{◌≡◌, refl, sym, ap, ap₂, ◌∙◌}
use Prim.Native.Nat.{◌<◌}
use Rattle.kinds.specs.declared.State.{State}
use Rattle.kinds.specs.Answers.{Answer, answer_of, state_or}
use Rattle.std.specs.Prelude.{Result, Ok, Err}
use native.Mathlib.Omega.{arith}
use borrow.Author.Tests.{ne_eqb}
use Rattle.rules.specs.Memory.{Lent}
use Rattle.rules.specs.Calls.{Outcome, outcome}
use Rattle.desk_calls.specs.declared.calls.Reply.{Reply}
use Rattle.desk_calls.specs.declared.calls.Done.{Done}
use Rattle.desk_calls.specs.Calls.{did, done, numbered, told, kept, begun}

-- what is done, and to what, told apart
pub both : {L : Type 0} (d e : Done) (l m : L) → d ≡ e → l ≡ m → did d l ≡ did e m
both {L} d e l m p q = ap₂ (λ (x : Done) (y : L). did x y) p q

-- every call but a start and a reading
pub tells : {L : Type 0} (a : Answer) (s : State) (l : L) (o : Outcome L) (d : Done) → outcome a s l ≡ o → d ≡ numbered a.number s → did d l ≡ told o
unfolding told
tells a s l o d e q = ap (λ (x : Done). did x l) q ∙ ap told e

-- a start and a reading leave the state before them where they are refused, which is what `kept` says by the number
pub kept_is : {E : Type 0} (refusal : E → Answer) → ((e : E) → 0 < (refusal e).number) → (r : Result State E) (s before : State)
    → state_or before r ≡ kept (answer_of refusal r).number (state_or s r) before
kept_is refusal refuses (Ok t) s before = refl
kept_is refusal refuses (Err e) s before = let h : 0 < (refusal e).number = refuses e in sym (rw (ne_eqb (refusal e).number 0 (λ z. omega arith)))

-- a start and a reading, whose reply is f of the answer
pub begins : (f : Answer → Reply) (before : State) (a : Answer) (s : State) (l : Lent) (o : Outcome Lent) (t : State) (r : Reply) → outcome a s l ≡ o
    → t ≡ kept a.number s before → r ≡ f a → did (done r t) l ≡ begun before (f o.answer) o
unfolding begun
begins f before a s l o t r e q i = ap₂ (λ (x : Reply) (u : State). did (done x u) l) i q ∙ ap (λ (x : Outcome Lent). begun before (f x.answer) x) e
