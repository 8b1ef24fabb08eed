-- A block by the answer that it gets: a refusal leaves all as it was, and a block that is not refused is sound and has room. Assumes nothing.
use mathlib.Core.Path.{◌≡◌, refl, sym, ap, ◌∙◌}
use mathlib.Core.Bool.{Bool, true, false, not, cond}
use Prim.Native.Nat.{◌%◌, ◌≤◌, ◌<◌}
use native.Mathlib.Omega.{arith}
use borrow.Author.Tests.{ltb-false, not-false}
use lib.Dec.{ltb, eqb}
use lib.ListN.{length}
use Rattle.kinds.specs.declared.State.{State}
use Rattle.kinds.specs.declared.refusals.BlockError.{BlockError}
use Rattle.kinds.specs.Answers.{Answer, done, damaged, bad_list, gap_too_wide, confirmed_full, block_refusal}
use Rattle.kinds.specs.Refusals.{block_refuses}
use Rattle.rules.specs.Board.{Board}
use Rattle.rules.specs.Estimator.{block_connected}
use Rattle.rules.specs.Memory.{Lent, confirmed_capacity, sound, view}
use Rattle.rules.specs.Calls.{Outcome, outcome, refused, accepted, gap, widest_gap, ids_of, block_call}
use Rattle.rules.proofs.Refusals.{DoneOrAsGiven, is_done, as_given, block_refused}
use Rattle.verdict.proofs.Judging.{Block, wanted, says}

-- what is not refused by the first of two
past : {L : Type 0} (b : Bool) (x y : Outcome L) → (x.answer.number ≡ 0 → ⊥) → done ≡ (cond b x y).answer → (b ≡ false) × (done ≡ y.answer)
past true x y n e = absurd (n (sym (ap (λ (a : Answer). a.number) e)))
past false x y n e = (refl, e)

-- a refusal, by its answer
as_refused : {L : Type 0} {s : State} {l : L} {o : Outcome L} → DoneOrAsGiven s l o → (a : Answer) → a ≡ o.answer → (a.number ≡ 0 → ⊥) → outcome a s l ≡ o
as_refused (is_done e) a q n = absurd (n (ap (λ (b : Answer). b.number) q ∙ e))
as_refused {s = s} {l = l} (as_given b) a q n = ap (λ (c : Answer). outcome c s l) q

module _ (k : Board) (a : Block) where
  abbrev s : State
  s = a.state

  abbrev l : Lent
  l = a.lent

  pub block_as_given : (b : BlockError) → block_refusal b ≡ (says k a).answer → outcome (block_refusal b) s l ≡ says k a
  block_as_given b q = as_refused (block_refused k s l a.ids a.height) (block_refusal b) q (λ z. let r : 0 < (block_refusal b).number = block_refuses b in omega arith)

  module _ (e : done ≡ (says k a).answer) where
    -- the four tests that it has passed
    tests : (not (sound k s l) ≡ false)
        × ((not (eqb (length a.ids % 32) 0) ≡ false)
        × ((ltb widest_gap (gap s.last a.height) ≡ false)
        × (ltb (confirmed_capacity l.recent) (wanted k a) ≡ false)))
    unfolding block_call
    tests =
        let t = past (not (sound k s l)) (refused damaged s l) _ (λ o. omega arith) e in
        let u = past (not (eqb (length a.ids % 32) 0)) (refused bad_list s l) _ (λ o. omega arith) t.1 in
        let v = past (ltb widest_gap (gap s.last a.height)) (refused gap_too_wide s l) _ (λ o. omega arith) u.1 in
        let w = past (ltb (confirmed_capacity l.recent) (wanted k a)) (refused confirmed_full s l) _ (λ o. omega arith) v.1 in
        (t.0, (u.0, (v.0, w.0)))

    pub block_sound : sound k s l ≡ true
    block_sound = not-false _ tests.0

    pub block_room : wanted k a ≤ confirmed_capacity l.recent
    block_room = ltb-false _ _ tests.1.1.1

    pub block_accepted : says k a ≡ accepted k (block_connected k (ids_of a.ids) a.height.0 (view k s l)) l
    unfolding block_call
    block_accepted = rw (tests.0, tests.1.0, tests.1.1.0, tests.1.1.1)
