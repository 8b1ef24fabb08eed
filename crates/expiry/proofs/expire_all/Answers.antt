use mathlib.Core.Path.{◌≡◌, ap, ◌∙◌}
use mathlib.Core.List.{List, [], ◌∷◌}
use Prim.Native.Nat.{ℕ, ◌<◌}
use native.Mathlib.Omega.{arith}
use lib.ListN.{length, get_or}
use Rattle.rules.specs.Records.{records}
use Rattle.rules.specs.Board.{board_of}
use Rattle.rules.specs.Estimator.{expire_targets}
use Rattle.expiry.specs.Fields.{raised}
use Rattle.expiry.proofs.Fields.{length_raised}
use Rattle.expiry.proofs.Changing.{changing_none, changing_still, changing_more, changing_end, length_changing}
use Rattle.expiry.proofs.Expiry.{bucket_at, start, next, stop}
use Rattle.expiry.proofs.expire_all.Goals as goal
use Rattle.expiry.proofs.expire_all.Goals.{At-loop-i}

abbrev size : At-loop-i → ℕ
size l = (board_of l.args.on).table.size

kept : (l : At-loop-i) → length l.loop-i.pending ≡ length l.args.pending.now
kept l = length_changing (raised (board_of l.args.on).width l.args.h.0) (size l) l.args.used l.args.pending.now l.loop-i.i l.loop-i.pending l.loop-i.invariant.1

still : (l : At-loop-i) → l.loop-i.i < l.args.used
    → get_or (records (size l) l.args.used l.loop-i.pending) l.loop-i.i [] ≡ get_or (records (size l) l.args.used l.args.pending.now) l.loop-i.i []
still l h = changing_still (raised (board_of l.args.on).width l.args.h.0) (size l) l.args.used l.args.pending.now l.loop-i.i l.loop-i.pending h l.loop-i.invariant.1

pub expire_one-requires : goal.expire_one-requires
expire_one-requires c =
    let h : c.loop-i.i < c.args.used = omega arith in record { places_of_counts_in_bounds = (omega (arith, c.loop-i.invariant.0.long, c.requires.places_of_counts_in_bounds.0), h, omega (arith, kept (goal.at.expire_one-requires c).At-loop-i, c.requires.places_of_counts_in_bounds.1)); i_bound = rw (still (goal.at.expire_one-requires c).At-loop-i h) (bucket_at (board_of c.args.on) c.args.used c.args.pending.now c.requires.all c.loop-i.i h) }

pub loop-i-preserved : goal.loop-i-preserved
loop-i-preserved c =
    let k = board_of c.args.on in
    let h : c.loop-i.i < c.args.used = omega arith in (
      next k c.args.h.0 c.args.used c.args.pending.now c.loop-i.invariant.0 h c.expire_one.auto.resolved (c.expire_one.ensures.resolved_after ∙ ap (λ (r : List ℕ). expire_targets k c.args.h.0 (k.table.read r ∷ []) c.loop-i.resolved) (still (goal.at.loop-i-preserved c).At-loop-i h)),
      changing_more (raised k.width c.args.h.0) k.table.size c.args.used c.args.pending.now (length_raised k.table.size k.width c.args.h.0) c.loop-i.i c.loop-i.pending c.expire_one.new.pending h c.loop-i.invariant.1 c.expire_one.ensures.pending_after,
    )

pub returns : goal.returns
returns c =
    let e : c.loop-i.i ≡ c.args.used = omega (arith, c.loop-i.invariant.0.within) in record { resolved_after = stop _ _ _ _ c.loop-i.invariant.0 (omega arith); pending_after = changing_end (raised (board_of c.args.on).width c.args.h.0) (size (goal.at.returns c).At-loop-i) c.args.used c.args.pending.now c.loop-i.pending (rw e at c.loop-i.invariant.1) }

pub loop-i-init : goal.loop-i-init
loop-i-init c = (start _ _ _ _ _, changing_none _ _ _ _ c.requires.places_of_counts_in_bounds.1)
