-- Whatever meets the contracts leads where the definitions lead, and so demand 3 holds of it: each call's result is rewritten by its contract's equation.
-- Assumes nothing.
use mathlib.Core.Path.{◌≡◌, refl, sym, ap, ◌∙◌, subst}
use mathlib.Core.Bool.{true, false}
use mathlib.Core.List.{List, [], ◌∷◌, ◌++◌}
use Prim.Native.Nat.{ℕ}
use Rattle.rules.specs.Board.{Board, Lawful}
use Rattle.rules.specs.Memory.{Lent}
use Rattle.rules.specs.Calls.{Outcome}
use Rattle.floats.specs.Factor.{Factor}
use Rattle.format.specs.File.{Version}
use Rattle.format.specs.Calls.{Output}
use Rattle.meaning.specs.Runs.{Rising, enter, leave, connect, with_table, outcome_of, noted, after}
use Rattle.lives.specs.Lives.{Ask, start, change, estimate, write, read, lend, Life, holding, goes_on, begun, next, lives, Fair, AllFair, Lived, LifePromise}
use Rattle.lives.specs.Promises.{Ran, nothing, started, entered, left, connected, estimated, wrote, was_read, lent_anew, CodePromise}
use Rattle.lives.proofs.Lives.{lives_more, fair_more, life_promise}

-- ---- one call more

-- the definitions lead to y, and what was lent was fair
record Linked (v : Version) (k : Board) (m : Life) (qs : List Ask) (y : Life) : Type 0 where
  leads : lives v k qs m ≡ y
  fair : AllFair v k qs m

then : (v : Version) (k : Board) (m : Life) {qs : List Ask} (q : Ask) {y z : Life} → Linked v k m qs y → Fair k q y → next v k q y ≡ z → Linked v k m (qs ++ q ∷ []) z
unfolding lives AllFair
then v k m {qs} q n f e =
    record {
      leads = lives_more v k qs (q ∷ []) m ∙ ap (next v k q) n.leads ∙ e;
      fair = fair_more v k qs (q ∷ []) m n.fair (subst (Fair k q) (sym n.leads) f, tt);
    }

-- ---- all calls

link : (v : Version) (k : Board) (m : Life) {qs : List Ask} {y : Life} → Ran v k m qs y → Linked v k m qs y
unfolding lives next after outcome_of AllFair Fair
link v k m nothing = record { leads = refl; fair = tt }
link v k m (started {qs} {y} p r l e) = then v k m start (link v k m p) tt (ap (λ (o : Outcome Lent). begun true o y) (sym e))
link v k m (entered {qs} {y} p i rate h r pending e) =
    then v k m (change (enter i rate h)) (link v k m p) tt
    (ap (λ (o : Outcome (List ℕ)). holding y (noted (enter i rate h) (with_table y.held.memory o) y.held.log)) (sym e))
link v k m (left {qs} {y} p i r pending e) =
    then v k m (change (leave i)) (link v k m p) tt
    (ap (λ (o : Outcome (List ℕ)). holding y (noted (leave i) (with_table y.held.memory o) y.held.log)) (sym e))
link v k m (connected {qs} {y} p ids h r l e) =
    then v k m (change (connect ids h)) (link v k m p) tt (ap (λ (o : Outcome Lent). holding y (noted (connect ids h) o y.held.log)) (sym e))
link v k m (estimated p target r e) = then v k m (estimate target) (link v k m p) tt refl
link v k m (wrote {qs} {y} p out r rest e) = then v k m (write out) (link v k m p) tt (ap (λ (o : Outcome Output). goes_on y o.state y.held.memory) (sym e))
link v k m (was_read {qs} {y} p file r l e) = then v k m (read file) (link v k m p) tt (ap (λ (o : Outcome Lent). begun false o y) (sym e))
link v k m (lent_anew p l a) = then v k m (lend l) (link v k m p) a refl

pub code_promise : (v : Version) (k : Board) → Lawful k → Factor k.decay → CodePromise v k
unfolding CodePromise LifePromise
code_promise v k law d m e qs y p t f r =
    let n = link v k m p in
    subst (λ (z : Life). z.is_fresh ≡ true → Rising z.held.log → Lived k z.held) n.leads (life_promise v k law d m e qs t n.fair) f r
