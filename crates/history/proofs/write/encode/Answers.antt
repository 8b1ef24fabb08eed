-- `history::write::encode` meets its contract: the four puts stand one after the other, and are the file of sound memory. Assumes nothing.
use mathlib.Core.Path.{◌≡◌, ap, ◌∙◌}
use mathlib.Core.List.{List, ◌++◌}
use Prim.Native.Nat.{ℕ, ◌+◌, ◌*◌, ◌≤◌}
use native.Mathlib.Omega.{arith}
use lib.Dec.{T}
use lib.Pow.{are_bytes}
use lib.ListN.{length, take}
use lib.Seq.{sets}
use Rattle.rules.specs.Bytes.{bytes}
use Rattle.rules.specs.Memory.{Lent, lent}
use Rattle.rules.specs.Counts.{places_of_counts}
use Rattle.rules.specs.Board.{board_of, confirmed_size}
use Rattle.rules.proofs.Bytes.{are_bytes_lem}
use Rattle.rules.proofs.Boards.{board_lawful}
use Rattle.format.specs.File.{version_told, rates, bucket_bytes}
use Rattle.codec.specs.Places.{buckets_size}
use Rattle.history.proofs.Same.{same_records, same_size}
use Rattle.history.proofs.Put.{Facts, facts, put_room, put_file}
use Rattle.history.proofs.write.encode.Goals as goal
use Rattle.history.proofs.write.encode.Goals.{After-record_size, Start}

abbrev memory : Start → Lent
memory s = lent s.args.confirmed.now s.args.resolved.now s.args.pending.now s.args.recent.now

known : (s : Start) → Facts (board_of s.args.on) s.args.s (memory s)
known s = facts _ _ _ s.requires.recent_value

pending_bytes : (r : After-record_size) → T (are_bytes r.args.pending.now)
pending_bytes r = are_bytes_lem r.args.pending.now (λ i. (r.type_inv.pending i).fits)

recent_bytes : (r : After-record_size) → T (are_bytes r.args.recent.now)
recent_bytes r = are_bytes_lem r.args.recent.now (λ i. (r.type_inv.recent i).fits)

same : (r : After-record_size) → r.record_size-size.result ≡ r.record_size.result
same r = same_size r.args.version r.args.on _ _ r.record_size.ensures.value r.record_size-size.ensures.value

-- where the puts end
room : (r : After-record_size) → r.header_len-at.result + buckets_size + 4 + r.args.s.pending * r.record_size.result + 4 + r.args.s.recent * confirmed_size ≤ length r.args.out.now
room r =
    put_room (version_told r.args.version) (board_of r.args.on) (board_lawful r.args.on) (same_records r.args.version r.args.on) r.args.s (memory (goal.at.After-record_size r).Start) (known (goal.at.After-record_size r).Start) (pending_bytes r) (recent_bytes r)
    r.record_size-size.result r.record_size.result r.record_size-size.ensures.value (same r) r.args.out.now r.header_len-at.result r.header_len-at.ensures.value r.requires.recent_in_bounds

pub put_buckets-requires : goal.put_buckets-requires
put_buckets-requires c = let f = known (goal.at.put_buckets-requires c).Start in record { buckets_size_in_bounds = omega (arith, room (goal.at.put_buckets-requires c).After-record_size); confirmed_value = (f.confirmed, f.resolved) }

pub put_records-requires : goal.put_records-requires
put_records-requires c =
    let f = known (goal.at.put_records-requires c).Start in record { used_le_confirmed_most = (omega (arith, f.pending_few), omega (arith, f.pending_room, ap (λ (n : ℕ). c.args.s.pending * n) c.record_size-size.ensures.value)); size_in_bounds = omega (arith, room (goal.at.put_records-requires c).After-record_size, ap (λ (n : ℕ). c.args.s.pending * n) (same (goal.at.put_records-requires c).After-record_size)) }

pub put_records-requires-2 : goal.put_records-requires-2
put_records-requires-2 c = let f = known (goal.at.put_records-requires-2 c).Start in record { used_le_confirmed_most = (f.recent_few, f.recent_room); size_in_bounds = omega (arith, room (goal.at.put_records-requires-2 c).After-record_size) }

pub returns : goal.returns
returns c =
    let v = version_told c.args.version in
    let next = c.header_len-at.result + buckets_size + 4 + c.args.s.pending * c.record_size.result in
    let rows = bucket_bytes rates (take places_of_counts c.args.confirmed.now) (take places_of_counts c.args.resolved.now) in
    let ps = bytes 4 c.args.s.pending ++ take (c.args.s.pending * c.record_size-size.result) c.args.pending.now in
    let cs = bytes 4 c.args.s.recent ++ take (c.args.s.recent * confirmed_size) c.args.recent.now in
    c.put_records-2.ensures
    ∙ ap (λ (o : List ℕ). sets o next cs)
    (c.put_records.ensures
    ∙ ap (λ (o : List ℕ). sets o (c.header_len-at.result + buckets_size) ps)
    (c.put_buckets.ensures ∙ ap (λ (o : List ℕ). sets o c.header_len-at.result rows) c.put_header.ensures))
    ∙ put_file v (board_of c.args.on) (board_lawful c.args.on) (same_records c.args.version c.args.on) c.args.s (memory (goal.at.returns c).Start) (known (goal.at.returns c).Start) (pending_bytes (goal.at.returns c).After-record_size) (recent_bytes (goal.at.returns c).After-record_size)
    c.record_size-size.result c.record_size.result c.record_size-size.ensures.value (same (goal.at.returns c).After-record_size) c.args.out.now c.header_len-at.result c.header_len-at.ensures.value

pub overflow_mul-next : goal.overflow_mul-next
overflow_mul-next c = omega (arith, room (goal.at.overflow_mul-next c).After-record_size)

pub overflow_add-next-2 : goal.overflow_add-next-2
overflow_add-next-2 c = omega (arith, room (goal.at.overflow_add-next-2 c).After-record_size)

pub put_header-requires : goal.put_header-requires
put_header-requires c = omega (arith, room (goal.at.put_header-requires c).After-record_size, c.header_len-at.ensures.value)
