-- In the life of a caller the calls that change nothing change nothing, and a run that began with a fresh start is a run of crate `meaning`, whatever
-- stands between its calls. Assumes nothing.
use mathlib.Core.Path.{◌≡◌, refl, sym, ap, ◌∙◌, subst}
use mathlib.Core.Bool.{Bool, true, false, not, ◌&&◌, cond, true≢false}
use mathlib.Core.List.{List, [], ◌∷◌, ◌++◌}
use Prim.Native.Nat.{ℕ, ◌<◌}
use lib.Dec.{ltb, eqb}
use lib.ListN.{length}
use Rattle.kinds.specs.declared.State.{State}
use Rattle.kinds.specs.Answers.{done, damaged, short_output}
use Rattle.rules.specs.Board.{Board, Lawful}
use Rattle.rules.specs.Estimator.{fresh}
use Rattle.rules.specs.Memory.{Lent, enough, sound, view, state_of}
use Rattle.rules.specs.Calls.{Outcome, outcome, refused, accepted, start_call}
use Rattle.rules.proofs.Refusals.{DoneOrAsGiven, is_done, as_given, start_refused}
use Rattle.floats.specs.Factor.{Factor}
use Rattle.format.specs.File.{Version, history_of}
use Rattle.format.specs.Calls.{Output, write_call, read_call}
use Rattle.format.proofs.Refusals.{read_refused}
use Rattle.meaning.specs.Runs.{Rising, singly, Call, started}
use Rattle.meaning.proofs.Leading.{Comes, comes_start, comes_after}
use Rattle.meaning.proofs.Meaning.{meant, restated}
use Rattle.meaning.proofs.Sound.{follows}
use Rattle.meaning.proofs.Answered.{answers_of}
use Rattle.meaning.proofs.Success.{success}
use Rattle.lives.specs.Anew.{Anew, refitted}
use Rattle.lives.proofs.Anew.{comes_anew, refit}
use Rattle.lives.specs.Lives.{Ask, start, change, estimate, write, read, lend, Life, goes_on, begun, next, lives, TypedAsk, TypedAsks, Fair, AllFair, Aside, AsidePromise, RefitPromise, Lived, LifePromise}

-- ---- some calls, and then more

pub lives_more : (v : Version) (k : Board) (qs rs : List Ask) (y : Life) → lives v k (qs ++ rs) y ≡ lives v k rs (lives v k qs y)
unfolding lives
lives_more v k [] rs y = refl
lives_more v k (q ∷ qs) rs y = lives_more v k qs rs (next v k q y)

pub typed_more : (qs rs : List Ask) → TypedAsks qs → TypedAsks rs → TypedAsks (qs ++ rs)
unfolding TypedAsks
typed_more [] rs t u = u
typed_more (q ∷ qs) rs t u = (t.0, typed_more qs rs t.1 u)

pub fair_more : (v : Version) (k : Board) (qs rs : List Ask) (y : Life) → AllFair v k qs y → AllFair v k rs (lives v k qs y) → AllFair v k (qs ++ rs) y
unfolding AllFair lives
fair_more v k [] rs y a b = b
fair_more v k (q ∷ qs) rs y a b = (a.0, fair_more v k qs rs (next v k q y) a.1 b)

-- ---- what changes nothing

-- a refused fresh start or reading gives back the memory, and the run keeps its state
same_life : (f : Bool) (s : State) (o : Outcome Lent) (y : Life) → DoneOrAsGiven s y.held.memory o → eqb o.answer.number 0 ≡ false → begun f o y ≡ y
unfolding begun
same_life f s o y (is_done h) e = absurd (true≢false (sym (ap (λ (n : ℕ). eqb n 0) h) ∙ e))
same_life f s o y (as_given a) e = rw e

-- a write hands back the state it was given
write_state : (v : Version) (k : Board) (s : State) (l : Lent) (out : List ℕ) → (write_call v k s l out).state ≡ s
unfolding write_call
write_state v k s l out = go (not (sound k s l)) (ltb (length out) (length file)) _ _ _
  where
    file : List ℕ
    file = history_of v (view k s l)

    go : (b c : Bool) (x y z : Output) → (cond b (refused damaged s x) (cond c (refused (short_output (length file)) s y) (outcome done s z))).state ≡ s
    go true c x y z = refl
    go false true x y z = refl
    go false false x y z = refl

pub aside_promise : (v : Version) (k : Board) → AsidePromise v k
unfolding AsidePromise Aside next
aside_promise v k start y e = same_life _ _ _ y (start_refused k y.held.memory) e
aside_promise v k (change c) y e = absurd e
aside_promise v k (estimate target) y e = refl
aside_promise v k (write out) y e = ap (λ (s : State). goes_on y s y.held.memory) (write_state v k y.held.state y.held.memory out)
aside_promise v k (read file) y e = same_life _ _ _ y (read_refused v k y.held.memory file) e
aside_promise v k (lend l) y e = absurd e

-- ---- which run stands

-- of a run that did not begin with a fresh start nothing is said; one that did is a run of crate `meaning`
data Known (k : Board) (y : Life) : Type 0 where
  other : y.is_fresh ≡ false → Known k y
  known : (m : Lent) → Comes k m y.held → Known k y

start_is_done : (k : Board) (m : Lent) → eqb (start_call k m).answer.number 0 ≡ true → (start_call k m).answer ≡ done
unfolding start_call
start_is_done k m e = go (enough m.confirmed && enough m.resolved) e
  where
    go : (b : Bool) → eqb (cond b (accepted k fresh m) (refused damaged (state_of fresh) m)).answer.number 0 ≡ true → (cond b (accepted k fresh m) (refused damaged (state_of fresh) m)).answer ≡ done
    go true e = refl
    go false e = absurd (true≢false (sym e))

module _ (v : Version) (k : Board) (law : Lawful k) where
  known_start : (y : Life) → Known k y → Known k (next v k start y)
  unfolding next begun started AsidePromise Aside
  known_start y n = go (eqb (start_call k m).answer.number 0) refl
    where
      m : Lent
      m = y.held.memory

      go : (b : Bool) → eqb (start_call k m).answer.number 0 ≡ b → Known k (next v k start y)
      go true e = rw e (known m (comes_start k m (start_is_done k m e)))
      go false e = subst (Known k) (sym (aside_promise v k start y e)) n

  known_read : (file : List ℕ) (y : Life) → Known k y → Known k (next v k (read file) y)
  unfolding next begun AsidePromise Aside
  known_read file y n = go (eqb (read_call v k m file).answer.number 0) refl
    where
      m : Lent
      m = y.held.memory

      go : (b : Bool) → eqb (read_call v k m file).answer.number 0 ≡ b → Known k (next v k (read file) y)
      go true e = rw e (other refl)
      go false e = subst (Known k) (sym (aside_promise v k (read file) y e)) n

  known_change : (c : Call) (y : Life) → TypedAsk (change c) → Known k y → Known k (next v k (change c) y)
  unfolding next TypedAsk
  known_change c y t (other e) = other e
  known_change c y t (known m x) = known m (comes_after k law m y.held x c t)

  known_lend : (l : Lent) (y : Life) → TypedAsk (lend l) → Fair k (lend l) y → Known k y → Known k (next v k (lend l) y)
  unfolding next TypedAsk Fair
  known_lend l y t f (other e) = other e
  known_lend l y t f (known m c) = go y.is_fresh refl
    where
      go : (b : Bool) → y.is_fresh ≡ b → Known k (goes_on y y.held.state l)
      go true e = known l (comes_anew k law m y.held c l (f e) t.0 t.1)
      go false e = other e

  known_next : (q : Ask) (y : Life) → TypedAsk q → Fair k q y → Known k y → Known k (next v k q y)
  unfolding AsidePromise Aside
  known_next start y t f n = known_start y n
  known_next (change c) y t f n = known_change c y t n
  known_next (estimate target) y t f n = subst (Known k) (sym (aside_promise v k (estimate target) y tt)) n
  known_next (write out) y t f n = subst (Known k) (sym (aside_promise v k (write out) y tt)) n
  known_next (read file) y t f n = known_read file y n
  known_next (lend l) y t f n = known_lend l y t f n

  known_lives : (qs : List Ask) (y : Life) → TypedAsks qs → AllFair v k qs y → Known k y → Known k (lives v k qs y)
  unfolding lives TypedAsks AllFair
  known_lives [] y t f n = n
  known_lives (q ∷ qs) y t f n = known_lives qs (next v k q y) t.1 f.1 (known_next q y t.0 f.0 n)

  pub refit_promise : Factor k.decay → 0 < k.table.size → RefitPromise v k
  unfolding RefitPromise Fair
  refit_promise d pos m e qs t f a b fresh = go (lives v k qs m) (known_lives qs m t f (other e)) fresh
    where
      go : (y : Life) → Known k y → y.is_fresh ≡ true → Anew k y.held.state y.held.memory (refitted k y.held.state y.held.memory a b)
      go y (other n) q = absurd (true≢false (sym q ∙ n))
      go y (known l c) q = refit k pos y.held.state y.held.memory a b (follows k d law l y.held c).sound_is

  lived : Factor k.decay → (y : Life) → Known k y → y.is_fresh ≡ true → Rising y.held.log → Lived k y.held
  lived d y (other e) f r = absurd (true≢false (sym f ∙ e))
  lived d y (known m c) f r = record {
    meant = meant k law m y.held c r;
    restated = restated k law m y.held c r;
    answered = answers_of k law d m y.held c r;
    success = success k law d (singly y.held.log) y.held (meant k law m y.held c r);
    floored = c.live.floored;
  }

  pub life_promise : Factor k.decay → LifePromise v k
  unfolding LifePromise
  life_promise d m e qs t a f r = lived d (lives v k qs m) (known_lives qs m t a (other e)) f r
