-- `settles::settle` meets its contract. Assumes nothing.
use Rattle.settles.specs.declared.Held.TheVariants.{Exactly}
use mathlib.Core.Path.{◌≡◌, sym, ap, ◌∙◌}
use mathlib.Core.List.{[]}
use Prim.Native.Nat.{◌+◌, ◌*◌, ◌≤◌}
use native.Mathlib.Omega.{arith}
use lib.ListN.{length, get_or}
use Rattle.rules.specs.Records.{records}
use Rattle.rules.specs.Board.{Pending, board_of, pending_of}
use Rattle.rules.proofs.Boards.{board_lawful, read_at}
use Rattle.by_id.proofs.ById.{within_bytes, id_within, lent_id}
use Rattle.settles.proofs.Settling.{mark_of, settled_held, settled_counted}
use Rattle.settles.proofs.settle.Goals as goal
use Rattle.settles.proofs.settle.Goals.{After-id_at, After-record_size-size, Joined-renew, in-Another, in-Nothing}

within : (n : After-record_size-size) → n.args.i * n.record_size-size.result + 32 ≤ length n.args.pending.now
within n =
    id_within _ _ _ n.args.used n.args.i _ n.record_size-size.ensures.value (omega (arith, n.record_size-size.ensures.lower_bound)) n.requires.i_lt_used.0 n.requires.i_lt_used.1

-- the id that is lent is the record's
its : (n : After-id_at) → n.id_at.result.now ≡ ((board_of n.args.on).table.read (get_or (records (board_of n.args.on).table.size n.args.used n.args.pending.now) n.args.i [])).id
its n =
    n.id_at.ensures
    ∙ lent_id (board_of n.args.on) (board_lawful n.args.on) _ n.args.used n.args.i n.args.pending.now n.record_size-size.ensures.value (omega (arith, n.record_size-size.ensures.lower_bound)) n.requires.i_lt_used.0

-- its fields
read_of : (n : After-record_size-size) → pending_of (get_or (records n.record_size-size.result n.args.used n.args.pending.now) n.args.i []) ≡ (board_of n.args.on).table.read (get_or (records (board_of n.args.on).table.size n.args.used n.args.pending.now) n.args.i [])
read_of n = read_at n.args.on n.record_size-size.result n.args.used n.args.i n.args.pending.now n.record_size-size.ensures.value

pub returns-in-Exactly : goal.returns-in-Exactly
returns-in-Exactly c =
    settled_held _ _ ((board_of c.args.on).table.read (get_or (records (board_of c.args.on).table.size c.args.used c.args.pending.now) c.args.i [])) _ (its (goal.at.returns-in-Exactly c).After-id_at) _ _ _ _ _ _ c.renew.ensures.value c.renew.ensures.recent_after c.in-Exactly.is

pub pending_at-requires : goal.pending_at-requires
pending_at-requires c =
    (c.record_size-size.ensures.lower_bound, (c.requires.i_lt_used.0, within_bytes _ _ _ c.args.used _ c.record_size-size.ensures.value c.requires.i_lt_used.1))

-- it did not hold exactly h
other : (n : Joined-renew) → n.renew.result ≡ Exactly → ⊥
other n e = elim n.match-renew.branch [ in-Another w ↦ cc (w.in-Another.is) | in-Nothing w ↦ cc (w.in-Nothing.is) ]

mark_told : (n : Joined-renew) → n.match-renew.mark ≡ mark_of n.renew.result
mark_told n = elim n.match-renew.branch [ in-Another w ↦ w.mark-is ∙ ap mark_of (sym w.in-Another.is) | in-Nothing w ↦ w.mark-is ∙ ap mark_of (sym w.in-Nothing.is) ]

pub returns : goal.returns
returns c =
    settled_counted _ _ ((board_of c.args.on).table.read (get_or (records (board_of c.args.on).table.size c.args.used c.args.pending.now) c.args.i [])) _ (its (goal.at.returns c).After-id_at) _ _ _ _ _ _ c.renew.ensures.value c.renew.ensures.recent_after (other (goal.at.returns c).Joined-renew) _ _ _
    (c.pending_at.ensures.bucket_value ∙ ap (λ (q : Pending). q.bucket) (read_of (goal.at.returns c).After-record_size-size)) (c.pending_at.ensures.result_value ∙ ap (λ (q : Pending). q.entry) (read_of (goal.at.returns c).After-record_size-size)) (c.pending_at.ensures.through_value ∙ ap (λ (q : Pending). q.through) (read_of (goal.at.returns c).After-record_size-size)) _ _ c.count.ensures.confirmed_after c.count.ensures.resolved_after _ (mark_told (goal.at.returns c).Joined-renew)

pub overflow_mul-from : goal.overflow_mul-from
overflow_mul-from c = omega (arith, within (goal.at.overflow_mul-from c).After-record_size-size)

pub id_at-requires : goal.id_at-requires
id_at-requires c = omega (arith, within (goal.at.id_at-requires c).After-record_size-size)
