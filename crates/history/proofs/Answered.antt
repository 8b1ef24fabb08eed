-- The answers of the reading call, case by case: a refusal leaves all as it was, with an empty state. Assumes nothing.
use mathlib.Core.Path.{◌≡◌, sym, ap, ◌∙◌}
use mathlib.Core.List.{List}
use Prim.Native.Nat.{ℕ, ◌≤◌, ◌<◌}
use lib.ListN.{length}
use borrow.Author.Tests.{le-leb, lt-leb}
use Rattle.std.specs.Prelude.{Result}
use Rattle.std.specs.Result.{IsErrAnd}
use Rattle.std.proofs.lemmas.Result.{err_from_is_err_and}
use Rattle.kinds.specs.declared.State.{State}
use Rattle.kinds.specs.declared.refusals.ReadError.{ReadError}
use Rattle.kinds.specs.Answers.{Answer, damaged, no_room, read_refusal, read_answer, state_or}
use Rattle.rules.specs.Counts.{places_of_counts}
use Rattle.rules.specs.Board.{Board}
use Rattle.rules.specs.Estimator.{fresh}
use Rattle.rules.specs.Memory.{Lent, pending_capacity, confirmed_capacity, state_of}
use Rattle.rules.specs.Calls.{outcome, accepted}
use Rattle.format.specs.Parts.{bad, good}
use Rattle.format.specs.File.{Version, read_history, restored}
use Rattle.format.specs.Calls.{has_room, taken_in, read_call}
use Rattle.parse.specs.Says.{filed}
use Rattle.parse.specs.declared.Checked.{Checked}
use Rattle.parse.proofs.Held.{pending_many, recent_many}

-- a refusal that is handed up
pub answers_why : (r : Result State ReadError) (l : Lent) (why : ReadError) → IsErrAnd r (λ e. e ≡ why)
    → outcome (read_answer r) (state_or (state_of fresh) r) l ≡ outcome (read_refusal why) (state_of fresh) l
answers_why r l why h =
    let p = err_from_is_err_and r h in
    ap (λ (x : Result State ReadError). outcome (read_answer x) (state_or (state_of fresh) x) l) p.1
    ∙ ap (λ (e : ReadError). outcome (read_refusal e) (state_of fresh) l) p.2

-- ---- a file that was read

module _ (v : Version) (k : Board) (s : List ℕ) (r : Checked) (l : Lent) where
  pub no_pending_room : pending_capacity k l.pending < r.pending → outcome no_room (state_of fresh) l ≡ taken_in k l (good (filed v r s))
  unfolding taken_in has_room
  no_pending_room h = sym (rw (pending_many v s r, lt-leb r.pending (pending_capacity k l.pending) h))

  pub no_recent_room : r.pending ≤ pending_capacity k l.pending → confirmed_capacity l.recent < r.recent → outcome no_room (state_of fresh) l ≡ taken_in k l (good (filed v r s))
  unfolding taken_in has_room
  no_recent_room g h =
      sym (rw (pending_many v s r, recent_many v s r, le-leb r.pending (pending_capacity k l.pending) g, lt-leb r.recent (confirmed_capacity l.recent) h))

  pub with_room : r.pending ≤ pending_capacity k l.pending → r.recent ≤ confirmed_capacity l.recent → accepted k (restored (filed v r s)) l ≡ taken_in k l (good (filed v r s))
  unfolding taken_in has_room
  with_room g h =
      sym (rw (pending_many v s r, recent_many v s r, le-leb r.pending (pending_capacity k l.pending) g, le-leb r.recent (confirmed_capacity l.recent) h))

-- ---- the call

module _ (v : Version) (k : Board) (l : Lent) (s : List ℕ) where
  pub few_confirmed : length l.confirmed < places_of_counts → outcome damaged (state_of fresh) l ≡ read_call v k l s
  unfolding read_call
  few_confirmed h = sym (rw (lt-leb places_of_counts (length l.confirmed) h))

  pub few_resolved : places_of_counts ≤ length l.confirmed → length l.resolved < places_of_counts → outcome damaged (state_of fresh) l ≡ read_call v k l s
  unfolding read_call
  few_resolved g h = sym (rw (le-leb places_of_counts (length l.confirmed) g, lt-leb places_of_counts (length l.resolved) h))

  module _ (g : places_of_counts ≤ length l.confirmed) (h : places_of_counts ≤ length l.resolved) where
    pub as_taken : taken_in k l (read_history v s) ≡ read_call v k l s
    unfolding read_call
    as_taken = sym (rw (le-leb places_of_counts (length l.confirmed) g, le-leb places_of_counts (length l.resolved) h))

    pub file_refused : (why : Answer) → bad why ≡ read_history v s → outcome why (state_of fresh) l ≡ read_call v k l s
    unfolding taken_in
    file_refused why f = ap (taken_in k l) f ∙ as_taken
