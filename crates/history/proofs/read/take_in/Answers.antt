-- `history::read::take_in` meets its contract: each capacity is compared with its number of records; then the counts, the two tables and the numbers of
-- their records are those of `stored`. Assumes nothing.
use mathlib.Core.Path.{◌≡◌, refl, sym, ap, ap₂, ◌∙◌}
use mathlib.Core.List.{List, [], ◌++◌}
use Prim.Native.Nat.{ℕ, ◌+◌, ◌*◌}
use native.Mathlib.Omega.{arith}
use lib.Dec.{T}
use lib.Pow.{are_bytes}
use lib.ListN.{length, take, drop, length-drop}
use Rattle.rules.specs.Ladder.{buckets}
use Rattle.rules.specs.Counts.{places_of_counts}
use Rattle.rules.specs.Records.{records, id_of, capacity}
use Rattle.rules.specs.Board.{board_of, pending_most, confirmed_size, confirmed_most}
use Rattle.rules.specs.Memory.{Lent, lent, pending_capacity}
use Rattle.rules.proofs.Bytes.{are_bytes_lem}
use Rattle.rules.proofs.Boards.{board_lawful}
use Rattle.rules.proofs.Records.{capacity_room}
use Rattle.format.specs.Parts.{is_read}
use Rattle.format.specs.File.{version_told, rates, read_buckets, settled}
use Rattle.format.proofs.Back.{version_lawful}
use Rattle.codec.specs.Places.{buckets_size, rows_at}
use Rattle.parse.specs.Says.{head_size}
use Rattle.parse.proofs.Held.{Held, held}
use Rattle.reader.proofs.Taken.{long_taken, records_taken}
use Rattle.history.proofs.Same.{same_records, same_size}
use Rattle.history.proofs.Answered.{no_pending_room, no_recent_room, with_room}
use Rattle.history.proofs.Stored.{table_as, stored}
use Rattle.history.proofs.read.take_in.Goals as goal
use Rattle.history.proofs.read.take_in.Goals.{After-capacity-most, After-record_size, Start}

abbrev memory : Start → Lent
memory s = lent s.args.confirmed.now s.args.resolved.now s.args.pending.now s.args.recent.now

-- the capacity of the pending table, as the board has it
most : (k : After-capacity-most) → k.capacity-most.result ≡ pending_capacity (board_of k.args.on) k.args.pending.now
most k = k.capacity-most.ensures ∙ ap (λ (z : ℕ). capacity z pending_most k.args.pending.now) k.record_size-size.ensures.value

bytes : (h : After-record_size) → T (are_bytes h.args.bytes.now)
bytes h = are_bytes_lem h.args.bytes.now (λ i. (h.type_inv.bytes i).fits)

known : (h : After-record_size) → Held (version_told h.args.version) h.args.bytes.now h.args.read
known h = held (version_told h.args.version) (version_lawful h.args.version) h.args.bytes.now h.args.read (bytes h) h.requires.bytes_value

same : (h : After-record_size) → h.record_size-size.result ≡ h.record_size.result
same h = same_size h.args.version h.args.on _ _ h.record_size.ensures.value h.record_size-size.ensures.value

-- the file's length, in the code's numbers
long : (h : After-record_size) → length h.args.bytes.now ≡ h.header_len-at.result + buckets_size + 4 + h.args.read.pending * h.record_size.result + 4 + confirmed_size * h.args.read.recent
long h =
    (known h).long ∙ ap₂ (λ (i j : ℕ). i + buckets_size + 4 + h.args.read.pending * j + 4 + confirmed_size * h.args.read.recent) (sym h.header_len-at.ensures.value) (sym h.record_size.ensures.value)

-- the records of the bytes that are taken
pending_from : (h : After-record_size) (xs : List ℕ) → xs ≡ take (h.args.read.pending * h.record_size.result) (drop (h.header_len-at.result + buckets_size + 4) h.args.bytes.now)
    → records h.record_size-size.result h.args.read.pending xs
    ≡ records (board_of h.args.on).table.size h.args.read.pending (drop (head_size (version_told h.args.version) h.args.read.last + buckets_size + 4) h.args.bytes.now)
pending_from h xs e =
    let at = h.header_len-at.result + buckets_size + 4 in
    ap (records h.record_size-size.result h.args.read.pending) (e ∙ ap (λ (i : ℕ). take (h.args.read.pending * i) (drop at h.args.bytes.now)) (sym (same h)))
    ∙ records_taken h.record_size-size.result h.args.read.pending (drop at h.args.bytes.now) (simp length-drop (omega (arith, long h, ap (λ (i : ℕ). h.args.read.pending * i) (same h))))
    ∙ ap₂ (λ (i j : ℕ). records i h.args.read.pending (drop (j + buckets_size + 4) h.args.bytes.now)) h.record_size-size.ensures.value h.header_len-at.ensures.value

recent_from : (h : After-record_size) (xs : List ℕ)
    → xs ≡ take (h.args.read.recent * confirmed_size) (drop (h.header_len-at.result + buckets_size + 4 + h.args.read.pending * h.record_size.result + 4) h.args.bytes.now)
    → records confirmed_size h.args.read.recent xs
    ≡ records confirmed_size h.args.read.recent (drop (head_size (version_told h.args.version) h.args.read.last + buckets_size + 4 + h.args.read.pending * (version_told h.args.version).records.size + 4) h.args.bytes.now)
recent_from h xs e =
    let at = h.header_len-at.result + buckets_size + 4 + h.args.read.pending * h.record_size.result + 4 in
    ap (records confirmed_size h.args.read.recent) e
    ∙ records_taken confirmed_size h.args.read.recent (drop at h.args.bytes.now) (simp length-drop (omega (arith, long h)))
    ∙ ap₂ (λ (i j : ℕ). records confirmed_size h.args.read.recent (drop (i + buckets_size + 4 + h.args.read.pending * j + 4) h.args.bytes.now)) h.header_len-at.ensures.value h.record_size.ensures.value

pub returns-then-most-read : goal.returns-then-most-read
returns-then-most-read c =
    no_pending_room (version_told c.args.version) (board_of c.args.on) c.args.bytes.now c.args.read (memory (goal.at.returns-then-most-read c).Start)
    (omega (arith, most (goal.at.returns-then-most-read c).After-capacity-most, c.if-most-read.true))

pub returns-then-more-read : goal.returns-then-more-read
returns-then-more-read c =
    no_recent_room (version_told c.args.version) (board_of c.args.on) c.args.bytes.now c.args.read (memory (goal.at.returns-then-more-read c).Start)
    (omega (arith, most (goal.at.returns-then-more-read c).After-capacity-most, c.if-most-read.false)) (omega (arith, c.capacity-more.ensures, c.if-more-read.true))

pub load_buckets-requires : goal.load_buckets-requires
load_buckets-requires c = record { buckets_size_in_bounds = (omega (arith, long (goal.at.load_buckets-requires c).After-record_size), c.requires.places_of_counts_in_bounds); s_value = ap (λ (i : ℕ). is_read (read_buckets rates (drop i c.args.bytes.now))) c.header_len-at.ensures.value ∙ (known (goal.at.load_buckets-requires c).After-record_size).rows }

pub load_table-p-requires : goal.load_table-p-requires
load_table-p-requires c =
    let l = long_taken (c.args.read.pending * c.record_size.result) c.args.bytes.now (c.header_len-at.result + buckets_size + 4) c.part.result.now c.part.ensures (omega (arith, long (goal.at.load_table-p-requires c).After-record_size)) in (
      (omega (arith, c.record_size-size.ensures.lower_bound), omega (arith, same (goal.at.load_table-p-requires c).After-record_size, c.record_size.ensures.lower_bound)),
      (
        c.if-most-read.false,
        (
          omega (arith, l, ap (λ (i : ℕ). c.args.read.pending * i) (same (goal.at.load_table-p-requires c).After-record_size)),
          rw c.capacity-most.ensures (capacity_room c.record_size-size.result pending_most c.args.pending.now),
        ),
      ),
    )

pub load_table-q-requires : goal.load_table-q-requires
load_table-q-requires c =
    let l = long_taken (c.args.read.recent * confirmed_size) c.args.bytes.now (c.header_len-at.result + buckets_size + 4 + c.args.read.pending * c.record_size.result + 4) c.part-rest.result.now c.part-rest.ensures (omega (arith, long (goal.at.load_table-q-requires c).After-record_size)) in (
      omega arith,
      (c.if-more-read.false, (omega (arith, l), rw c.capacity-more.ensures (capacity_room confirmed_size confirmed_most c.args.recent.now))),
    )

pub returns : goal.returns
returns c =
    let k = board_of c.args.on in
    let l = memory (goal.at.returns c).Start in
    let e = most (goal.at.returns c).After-capacity-most in
    let x = pending_from (goal.at.returns c).After-record_size c.part.result.now c.part.ensures in
    let y = recent_from (goal.at.returns c).After-record_size c.part-rest.result.now c.part-rest.ensures in
    stored (version_told c.args.version) k (board_lawful c.args.on) (same_records c.args.version c.args.on) c.args.bytes.now c.args.read (bytes (goal.at.returns c).After-record_size) (known (goal.at.returns c).After-record_size) l c.load_table-p.result c.load_table-q.result _ _ _ _
    (c.load_table-p.ensures.value ∙ ap (λ (rs : List (List ℕ)). length (settled id_of [] rs)) x)
    (c.load_table-q.ensures.value ∙ ap (λ (rs : List (List ℕ)). length (settled id_of [] rs)) y)
    (c.load_buckets.ensures.0 ∙ ap (λ (i : ℕ). rows_at buckets c.args.bytes.now (i + 8) ++ drop places_of_counts c.args.confirmed.now) c.header_len-at.ensures.value)
    (c.load_buckets.ensures.1 ∙ ap (λ (i : ℕ). rows_at buckets c.args.bytes.now (i + 208) ++ drop places_of_counts c.args.resolved.now) c.header_len-at.ensures.value)
    (table_as c.record_size-size.result k.table.size c.capacity-most.result _ _ _ c.args.pending.now _ c.record_size-size.ensures.value e x c.load_table-p.ensures.table_after)
    (table_as confirmed_size confirmed_size c.capacity-more.result _ _ _ c.args.recent.now _ refl c.capacity-more.ensures y c.load_table-q.ensures.table_after)
    ∙ with_room (version_told c.args.version) k c.args.bytes.now c.args.read l (omega (arith, e, c.if-most-read.false)) (omega (arith, c.capacity-more.ensures, c.if-more-read.false))
