-- What the estimate call answers after an accepted reading is the estimate itself, since what the reading leaves is sound. Assumes nothing.
use mathlib.Core.Path.{◌≡◌, refl, ap}
use mathlib.Core.Bool.{Bool, true, false, cond}
use mathlib.Core.List.{List, ◌++◌}
use Rattle.std.specs.Prelude.{Option, None, Some}
use Prim.Native.Nat.{ℕ}
use lib.Dec.{T, eqb, eqb→eq}
use lib.Ieee.{Float}
use lib.Pow.{are_bytes}
use Rattle.kinds.specs.declared.Height.{Height}
use Rattle.kinds.specs.declared.Horizon.{Horizon}
use Rattle.kinds.specs.declared.State.{State}
use Rattle.kinds.specs.Answers.{Answer}
use Rattle.rules.specs.Board.{board_of}
use Rattle.rules.specs.Estimate.{estimate}
use Rattle.rules.specs.Memory.{Lent, sound_counts, sound}
use Rattle.rules.specs.Calls.{rate_answer, estimate_call}
use Rattle.rules.proofs.Records.{and_left, and_right}
use Rattle.rules.proofs.Boards.{board_lawful}
use Rattle.format.specs.File.{own_version, version_of}
use Rattle.format.specs.Calls.{read_call}
use Rattle.format.proofs.Back.{version_lawful}
use Rattle.format.proofs.Again.{accepted_is_sound}
use Rattle.print.specs.Text.{Text}
use Rattle.premise.specs.Premise.{premise}
use Rattle.report.specs.Shown.{rate_text, state_lines, target_lines, refusal, told, told_of}
use Rattle.report.specs.Rates.{carried_rate, answered}
use Rattle.report.proofs.Targets.{lines_same}

carried_is : (o : Option ℕ) → carried_rate (rate_answer o).carries ≡ rate_text o
unfolding carried_rate rate_answer rate_text
carried_is None = refl
carried_is (Some r) = refl

answered_is : (on : Horizon) (s : State) (c r : List Float) → sound_counts c ≡ true → sound_counts r ≡ true → (t : ℕ) → answered s c r on t ≡ rate_text (estimate (board_of on) t c r)
unfolding answered estimate_call
answered_is on s c r p q t = rw (p, q) (carried_is (estimate (board_of on) t c r))

-- rates count only where the answer is 0
told_same : (chain : Option Height) (on : Horizon) (a : Answer) (s : State) (f g : ℕ → Text) → (a.number ≡ 0 → (t : ℕ) → f t ≡ g t) → told chain on a s f ≡ told chain on a s g
unfolding told
told_same chain on a s f g h = go (eqb a.number 0) refl
  where
    go : (b : Bool) → eqb a.number 0 ≡ b
        → cond b (premise chain s.last ++ (state_lines s ++ target_lines (board_of on).width f 1 25)) (refusal a)
        ≡ cond b (premise chain s.last ++ (state_lines s ++ target_lines (board_of on).width g 1 25)) (refusal a)
    go true e = ap (λ (l : List Text). premise chain s.last ++ (state_lines s ++ l)) (lines_same (board_of on).width f g (h (eqb→eq a.number 0 (rw e tt))) 1 25)
    go false e = refl

pub told_is : (chain : Option Height) (on : Horizon) (l : Lent) (file : List ℕ) → T (are_bytes file) → let o = read_call (version_of on) (board_of on) l file in
    told chain on o.answer o.state (answered o.state o.lent.confirmed o.lent.resolved on) ≡ told_of chain on o
unfolding sound told_of
told_is chain on l file b =
    let o = read_call (version_of on) (board_of on) l file in
    told_same chain on o.answer o.state _ _ (λ d.
    let s = accepted_is_sound (version_of on) (version_lawful (own_version on)) (board_of on) (board_lawful on) l file b d in
    let rest = and_right (sound_counts o.lent.confirmed) _ s in
    answered_is on o.state o.lent.confirmed o.lent.resolved (and_left (sound_counts o.lent.confirmed) _ s) (and_left (sound_counts o.lent.resolved) _ rest))
