-- What is told of a reading depends on how many records the tables have room for, and not on what they held. Assumes nothing.
use mathlib.Core.Path.{◌≡◌, refl, sym, ap, ◌∙◌}
use mathlib.Core.Bool.{Bool, true, false, ◌&&◌, cond}
use mathlib.Core.List.{List}
use Prim.Native.Nat.{ℕ, ◌*◌, ◌/◌, ◌<◌, min}
use native.Mathlib.Nat.{mul-div_cancel}
use native.Mathlib.Omega.{arith}
use lib.Ieee.{Float}
use lib.ListN.{length, replicate, length-replicate}
use Rattle.std.specs.Prelude.{Option}
use Rattle.kinds.specs.declared.Height.{Height}
use Rattle.kinds.specs.declared.Horizon.{Horizon}
use Rattle.rules.specs.Counts.{places_of_counts, nought}
use Rattle.rules.specs.Records.{capacity}
use Rattle.rules.specs.Board.{board_of, pending_size, confirmed_size, pending_most, confirmed_most}
use Rattle.rules.specs.Estimator.{Estimator, fresh}
use Rattle.rules.specs.Memory.{Lent, lent, enough, lay, state_of, pending_capacity, confirmed_capacity}
use Rattle.rules.specs.Calls.{refused, accepted}
use Rattle.rules.proofs.Boards.{size_is}
use Rattle.kinds.specs.Answers.{damaged, no_room}
use Rattle.format.specs.Parts.{Parsed, bad, good}
use Rattle.format.specs.File.{version_of, read_history, restored}
use Rattle.format.specs.Calls.{has_room, taken_in, read_call}
use Rattle.report.specs.Shown.{told_of, Reach, reach, room}

-- two memories with the same counts, and tables with room for as many records
module _ (chain : Option Height) (on : Horizon) (c r : List Float) (p q p' q' : List ℕ) (as_many : pending_capacity (board_of on) p ≡ pending_capacity (board_of on) p') (as-recent : confirmed_capacity q ≡ confirmed_capacity q') where
  taken_alike : (e : Parsed Estimator) → told_of chain on (taken_in (board_of on) (lent c r p q) e) ≡ told_of chain on (taken_in (board_of on) (lent c r p' q') e)
  unfolding taken_in has_room told_of lay
  taken_alike (bad why) = refl
  taken_alike (good e) = rw (as_many, as-recent) (go (has_room (board_of on) (lent c r p' q') e))
    where
      go : (b : Bool) → told_of chain on (cond b (accepted (board_of on) (restored e) (lent c r p q)) (refused no_room (state_of fresh) (lent c r p q)))
          ≡ told_of chain on (cond b (accepted (board_of on) (restored e) (lent c r p' q')) (refused no_room (state_of fresh) (lent c r p' q')))
      go true = refl
      go false = refl

  pub told_alike : (file : List ℕ) → told_of chain on (read_call (version_of on) (board_of on) (lent c r p q) file) ≡ told_of chain on (read_call (version_of on) (board_of on) (lent c r p' q') file)
  unfolding read_call told_of
  told_alike file = go (enough c && enough r)
    where
      go : (b : Bool) → told_of chain on (cond b (taken_in (board_of on) (lent c r p q) (read_history (version_of on) file)) (refused damaged (state_of fresh) (lent c r p q)))
          ≡ told_of chain on (cond b (taken_in (board_of on) (lent c r p' q') (read_history (version_of on) file)) (refused damaged (state_of fresh) (lent c r p' q')))
      go true = taken_alike (read_history (version_of on) file)
      go false = refl

-- no counts yet, and these tables
abbrev pub over : List ℕ → List ℕ → Lent
over pending recent = lent (replicate places_of_counts nought) (replicate places_of_counts nought) pending recent

-- how many records there is room for
room_for : (size most n : ℕ) → 0 < size → capacity size most (replicate (n * size) 0) ≡ min n most
room_for size most n h = ap (λ (m : ℕ). min (m / size) most) (length-replicate {A = ℕ} (n * size) 0) ∙ ap (λ (m : ℕ). min m most) (mul-div_cancel n h)

pub room_for_pending : (on : Horizon) (r : Reach) → pending_capacity (board_of on) (room r).pending ≡ min r.pending pending_most
unfolding room
room_for_pending on r = ap (λ (n : ℕ). capacity n pending_most (room r).pending) (size_is on) ∙ room_for pending_size pending_most r.pending (omega arith)

pub room_for_recent : (r : Reach) → confirmed_capacity (room r).recent ≡ min r.recent confirmed_most
unfolding room
room_for_recent r = room_for confirmed_size confirmed_most r.recent (omega arith)

-- a reading into tables tells what it tells in zeros of their size
pub told_in_room : (chain : Option Height) (on : Horizon) (pending recent : List ℕ) (longest : ℕ) (file : List ℕ) → let r = reach (length pending / pending_size) (length recent / confirmed_size) longest in
    told_of chain on (read_call (version_of on) (board_of on) (over pending recent) file) ≡ told_of chain on (read_call (version_of on) (board_of on) (room r) file)
unfolding room
told_in_room chain on pending recent longest file =
    let r = reach (length pending / pending_size) (length recent / confirmed_size) longest in
    let many : pending_capacity (board_of on) pending ≡ min (length pending / pending_size) pending_most = ap (λ (n : ℕ). capacity n pending_most pending) (size_is on) in
    told_alike chain on _ _ pending recent _ _ (many ∙ sym (room_for_pending on r)) (sym (room_for_recent r)) file
