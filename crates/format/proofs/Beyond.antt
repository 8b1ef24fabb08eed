-- Writing and reading neither read nor write anything lent beyond the capacities. Assumes nothing.
use mathlib.Core.Path.{◌≡◌, refl, sym, ap, ap₂, ◌∙◌}
use mathlib.Core.Bool.{Bool, true, false, not, ◌&&◌, cond}
use mathlib.Core.List.{List, ◌++◌}
use Prim.Native.Nat.{ℕ}
use lib.Dec.{leb, ltb}
use lib.ListN.{length, drop}
use Rattle.kinds.specs.declared.State.{State}
use Rattle.kinds.specs.Answers.{done, damaged, no_room, short_output}
use Rattle.rules.specs.Board.{Board, confirmed_size, pending_most, confirmed_most}
use Rattle.rules.specs.Estimator.{Estimator, fresh}
use Rattle.rules.specs.Memory.{Lent, enough, sound, view, state_of}
use Rattle.rules.specs.Calls.{Outcome, outcome, refused}
use Rattle.rules.specs.Beyond.{of_lent}
use Rattle.rules.proofs.Inner.{same_places, same_all, same_view}
use Rattle.rules.proofs.Beyond.{Met, confined, choose, same_long, refused_met, laid_met}
use Rattle.format.specs.Parts.{Parsed, bad, good}
use Rattle.format.specs.File.{Version, history_of, read_history, restored}
use Rattle.format.specs.Calls.{Output, output, write_call, has_room, taken_in, read_call}
use Rattle.format.specs.Beyond.{FileBeyondPromise}

module _ (v : Version) (k : Board) where
  write_same : (s : State) (l : Lent) (out : List ℕ) → write_call v k s l out ≡ write_call v k s ((of_lent k).inner l) out
  unfolding write_call
  write_same s l out = sym (ap (λ (b : Bool). written b (view k s ((of_lent k).inner l))) (same_all k l s) ∙ go (sound k s l) refl)
    where
      written : Bool → Estimator → Outcome Output
      written b e =
          cond (not b) (refused damaged s (output 0 out))
          (cond (ltb (length out) (length (history_of v e))) (refused (short_output (length (history_of v e))) s (output 0 out))
          (outcome done s (output (length (history_of v e)) (history_of v e ++ drop (length (history_of v e)) out))))

      go : (b : Bool) → sound k s l ≡ b → written b (view k s ((of_lent k).inner l)) ≡ written b (view k s l)
      go true h = ap (written true) (same_view k l s h)
      go false h = refl

  taken_met : (l : Lent) (r : Parsed Estimator) → Met (of_lent k) l (taken_in k l r) (taken_in k ((of_lent k).inner l) r)
  unfolding taken_in has_room
  taken_met l (bad why) = refused_met k l why (state_of fresh)
  taken_met l (good e) =
      choose (has_room k l e) _ (ap₂ (λ (m n : ℕ). leb (length e.pending) m && leb (length e.recent) n) (same_places k.table.size pending_most l.pending) (same_places confirmed_size confirmed_most l.recent))
      (laid_met k l (restored e)) (λ _. refused_met k l no_room (state_of fresh))

  read_met : (file : List ℕ) (l : Lent) → Met (of_lent k) l (read_call v k l file) (read_call v k ((of_lent k).inner l) file)
  unfolding read_call
  read_met file l = choose (enough l.confirmed && enough l.resolved) _ (same_long k l) (taken_met l (read_history v file)) (λ _. refused_met k l damaged (state_of fresh))

  pub file_beyond : FileBeyondPromise v k
  file_beyond = record { write = write_same; read = λ file. confined (of_lent k) (λ l. read_call v k l file) (read_met file) }
