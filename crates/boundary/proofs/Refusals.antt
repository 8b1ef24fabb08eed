-- A refused call changes nothing that it was lent, but for carried[0] on 9 and 12: the calls below leave state and memory as they were, the words of the
-- state that they hold are themselves, and only the answers 9 and 12 carry a number. Assumes nothing.
use mathlib.Core.Path.{◌≡◌, refl, sym, ap}
use mathlib.Core.Bool.{Bool, true, false, ◌&&◌, not, cond}
use mathlib.Core.List.{List, []}
use Prim.Native.Nat.{ℕ}
use borrow.Author.Tests.{ne_eqb}
use lib.Dec.{leb, ltb, eqb}
use lib.ListN.{length}
use Rattle.kinds.specs.declared.Horizon.{Horizon}
use Rattle.kinds.specs.Answers.{Answer, damaged, no_room, short_output}
use Rattle.rules.specs.Board.{board_of}
use Rattle.rules.specs.Estimator.{Estimator, fresh}
use Rattle.rules.specs.Memory.{Lent, enough, sound, state_of}
use Rattle.rules.specs.Calls.{Outcome, refused, start_call, estimate_call}
use Rattle.rules.proofs.Records.{and_left}
use Rattle.rules.proofs.Refusals.{DoneOrAsGiven, is_done, as_given, start_refused, enter_refused, leave_refused, block_refused}
use Rattle.format.specs.Parts.{Parsed, bad, good}
use Rattle.format.specs.File.{version_of, read_history}
use Rattle.format.specs.Calls.{Output, output, write_call, has_room, taken_in, read_call}
use Rattle.format.proofs.Refusals.{read_refused}
use Rattle.format.proofs.Stops.{Refusal, not_magic, other_version, no_file, refused_as}
use Rattle.boundary.specs.Words.{holds_state, state_in, put_if_done}
use Rattle.boundary.specs.Calls.{Seen, seen, if_fit, told, carry, begun, rate_carried, length_carried, izr_new, izr_tx_entered, izr_tx_left, izr_block_connected, izr_estimate, izr_to_history_bytes, izr_from_history_bytes}
use Rattle.boundary.specs.Refusals.{Leaves, but_on, version_in, needed, RefusalPromise}
use Rattle.boundary.proofs.Words.{words}
use Rattle.boundary.proofs.Calls.{carry_none}

-- ---- what does not fit

-- what holds of Damaged with nothing changed, and of the call, holds of the call where what is given fits
fitted : {L : Type 0} (P : Seen L → Type 0) (fit : Bool) (ws cs : List ℕ) (l : L) (s : Seen L) → P (seen 1 ws cs l) → (fit ≡ true → P s) → P (if_fit fit ws cs l s)
unfolding if_fit
fitted P true ws cs l s p q = q refl
fitted P false ws cs l s p q = p

-- ---- calls that are given a state and put one

told_leaves : {L : Type 0} (ws : List ℕ) (l : L) → holds_state ws ≡ true → (o : Outcome L) → DoneOrAsGiven (state_in ws) l o → Leaves ws [] l (told ws o)
unfolding told
told_leaves ws l h o (is_done e) n = absurd (n e)
told_leaves ws l h o (as_given a) n = ap (λ (vs : List ℕ). seen a.number vs [] l) (words.own ws h)

-- ---- calls that begin a run

begun_leaves : (ws cs ds : List ℕ) (l : Lent) (o : Outcome Lent) → DoneOrAsGiven (state_of fresh) l o → ((o.answer.number ≡ 0 → ⊥) → carry o.answer.carries cs ≡ ds)
    → Leaves ws ds l (begun ws cs o)
unfolding begun put_if_done
begun_leaves ws cs ds l o (is_done e) c n = absurd (n e)
begun_leaves ws cs ds l o (as_given a) c n = rw (ne_eqb a.number 0 n, c n)

-- what a reading that is refused carries
why_carries : (file cs : List ℕ) (why : Answer) → Refusal file why → carry why.carries cs ≡ but_on 9 (version_in file) why.number cs
unfolding carry but_on version_in
why_carries file cs why not_magic = refl
why_carries file cs why other_version = refl
why_carries file cs why no_file = refl

-- what an outcome of reading the file carries where it is refused
abbrev Carries : (file cs : List ℕ) → Outcome Lent → Type 0
Carries file cs o = (o.answer.number ≡ 0 → ⊥) → carry o.answer.carries cs ≡ but_on 9 (version_in file) o.answer.number cs

read_carries : (on : Horizon) (l : Lent) (file cs : List ℕ) → Carries file cs (read_call (version_of on) (board_of on) l file)
unfolding read_call taken_in carry but_on
read_carries on l file cs = go (enough l.confirmed && enough l.resolved) (read_history (version_of on) file) refl
  where
    held : (b : Bool) (o : Outcome Lent) → o.answer.number ≡ 0 → Carries file cs (cond b o (refused no_room (state_of fresh) l))
    held true o e n = absurd (n e)
    held false o e n = refl

    go : (b : Bool) (r : Parsed Estimator) → read_history (version_of on) file ≡ r → Carries file cs (cond b (taken_in (board_of on) l r) (refused damaged (state_of fresh) l))
    go true (bad why) e n = why_carries file cs why (refused_as (version_of on) file why e)
    go true (good x) e n = held (has_room (board_of on) l x) _ refl n
    go false r e n = refl

-- ---- an estimate

estimate_leaves : (ws cs : List ℕ) (a : Answer) → Leaves {L = Unit} ws cs tt (seen a.number ws (carry (rate_carried a) cs) tt)
unfolding rate_carried carry
estimate_leaves ws cs a n = rw (ne_eqb a.number 0 n)

-- ---- a write

-- what the caller of a write sees of its outcome, where it is refused
abbrev Wrote : (on : Horizon) (ws : List ℕ) (l : Lent) (out cs : List ℕ) → Outcome Output → Type 0
Wrote on ws l out cs o =
    Leaves ws (but_on 12 (needed on ws l) o.answer.number cs) out (seen o.answer.number ws (carry (length_carried o.answer o.lent.len) cs) o.lent.bytes)

wrote : (on : Horizon) (ws : List ℕ) (l : Lent) (out cs : List ℕ) → Wrote on ws l out cs (write_call (version_of on) (board_of on) (state_in ws) l out)
unfolding write_call carry length_carried but_on needed
wrote on ws l out cs = go (not (sound (board_of on) (state_in ws) l)) (ltb (length out) (needed on ws l)) _ refl
  where
    none : Output
    none = output 0 out

    go : (b c : Bool) (o : Outcome Output) → o.answer.number ≡ 0 → Wrote on ws l out cs (cond b (refused damaged (state_in ws) none) (cond c (refused (short_output (needed on ws l)) (state_in ws) none) o))
    go true c o e n = refl
    go false true o e n = refl
    go false false o e n = absurd (n e)

-- ---- every call

pub refusals : (on : Horizon) → RefusalPromise on
unfolding izr_new izr_tx_entered izr_tx_left izr_block_connected izr_estimate izr_to_history_bytes izr_from_history_bytes but_on begun
refusals on =
    record {
      new = λ ws l.
          fitted (Leaves ws [] l) (leb 4 (length ws)) ws [] l _ (λ n. refl) (λ f. begun_leaves ws [] [] l _ (start_refused (board_of on) l) (λ n. sym (carry_none (start_call (board_of on) l).answer.carries)));
      tx_entered = λ ws xs id rate h.
          fitted (Leaves ws [] xs) (holds_state ws && eqb (length id) 32) ws [] xs _ (λ n. refl)
          (λ f. told_leaves ws xs (and_left (holds_state ws) _ f) _ (enter_refused (board_of on) (state_in ws) xs id (record { 0 = rate }) (record { 0 = h })));
      tx_left = λ ws xs id.
          fitted (Leaves ws [] xs) (holds_state ws && eqb (length id) 32) ws [] xs _ (λ n. refl)
          (λ f. told_leaves ws xs (and_left (holds_state ws) _ f) _ (leave_refused (board_of on) (state_in ws) xs id));
      block_connected = λ ws l ids h.
          fitted (Leaves ws [] l) (holds_state ws) ws [] l _ (λ n. refl) (λ f. told_leaves ws l f _ (block_refused (board_of on) (state_in ws) l ids (record { 0 = h })));
      estimate = λ ws confirmed resolved target cs.
          fitted (Leaves ws cs tt) (holds_state ws && leb 1 (length cs)) ws cs tt _ (λ n. refl)
          (λ f. estimate_leaves ws cs (estimate_call (board_of on) (state_in ws) confirmed resolved (record { 0 = target })));
      to_history_bytes = λ ws l out cs.
          fitted (λ s. Leaves ws (but_on 12 (needed on ws l) s.number cs) out s) (holds_state ws && leb 1 (length cs)) ws cs out _ (λ n. refl) (λ f. wrote on ws l out cs);
      from_history_bytes = λ file l ws cs.
          fitted (λ s. Leaves ws (but_on 9 (version_in file) s.number cs) l s) (leb 4 (length ws) && leb 1 (length cs)) ws cs l _ (λ n. refl)
          (λ f. begun_leaves ws cs (but_on 9 (version_in file) (read_call (version_of on) (board_of on) l file).answer.number cs) l _ (read_refused (version_of on) (board_of on) l file) (read_carries on l file cs));
    }
