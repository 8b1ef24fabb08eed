-- What a reading that is accepted leaves is sound, and writing it gives the file back exactly when the file's ids rise: only then are the records
-- placed as they stood. Assumes nothing.
use mathlib.Core.Path.{◌≡◌, refl, sym, ap, ◌∙◌}
use mathlib.Core.Bool.{Bool, true, ◌&&◌}
use mathlib.Core.List.{List, map}
use mathlib.Core.Logic.{◌↔◌}
use Prim.Native.Nat.{ℕ, ◌≤◌}
use native.Mathlib.Nat.{mul-le-mul_left}
use native.Mathlib.Omega.{arith}
use lib.Dec.{T}
use lib.ListN.{length, drop}
use lib.Seq.{take_at}
use lib.Pow.{are_bytes}
use borrow.Author.Tests.{le-ltb}
use Rattle.rules.specs.Ids.{rising}
use Rattle.rules.specs.Board.{Board, Lawful}
use Rattle.rules.specs.Estimator.{Estimator}
use Rattle.rules.specs.Memory.{Lent, sound, view}
use Rattle.rules.specs.Calls.{accepted}
use Rattle.rules.proofs.Records.{and_left, and_right}
use Rattle.rules.proofs.Ids.{end, rising_of}
use Rattle.rules.proofs.Memory.{view_of_lay}
use Rattle.rules.proofs.Sound.{well_fits}
use Rattle.format.specs.Parts.{good}
use Rattle.format.specs.File.{Version, history_of, history_length, read_history, restored}
use Rattle.format.specs.Calls.{write_call, read_call}
use Rattle.format.proofs.Back.{LawfulVersion, written_is_read}
use Rattle.format.proofs.Lengths.{length_history}
use Rattle.format.proofs.Order.{restored_same}
use Rattle.format.proofs.Exact.{Read-is, read_is_written}
use Rattle.format.proofs.Accepted.{settled_up, fewer_pending, fewer_recent, restored_writable, restored_is_well, reading_leaves_sound}
use Rattle.format.proofs.Stops.{taken}
use Rattle.format.proofs.RoundTrip.{written}

-- the ids of both tables rise
abbrev pub ids_rise : Estimator → Bool
ids_rise e = rising (map (λ r. r.id) e.pending) && rising (map (λ c. c.id) e.recent)

restored_rises : (e : Estimator) → ids_rise (restored e) ≡ true
unfolding restored
restored_rises e = rw (rising_of (λ r. r.id) (settled_up (λ r. r.id) e.pending end), rising_of (λ c. c.id) (settled_up (λ c. c.id) e.recent end))

module _ (v : Version) (vlaw : LawfulVersion v) (k : Board) (law : Lawful k) (l : Lent) (file : List ℕ) (b : T (are_bytes file)) (d : (read_call v k l file).answer.number ≡ 0) where
  -- What an accepted reading leaves is sound.
  pub accepted_is_sound : sound k (read_call v k l file).state (read_call v k l file).lent ≡ true
  accepted_is_sound =
      let t = taken v k l file d in
      rw t.is (reading_leaves_sound k law l t.held (read_is_written v vlaw file t.held b t.read).writable t.room)

  module _ (e : Estimator) (r : read_history v file ≡ good e) where
    is : Read-is v file e
    is = read_is_written v vlaw file e b r

    state_is : read_call v k l file ≡ accepted k (restored e) l
    state_is =
        let t = taken v k l file d in
        let q : t.held ≡ e = cc (t.read, r) in
        t.is ∙ ap (λ (x : Estimator). accepted k (restored x) l) q

    seen : view k (read_call v k l file).state (read_call v k l file).lent ≡ restored e
    seen = rw state_is (view_of_lay k law (restored e) l (well_fits (restored_is_well e is.writable)))

    -- it is no longer than the file
    short : length (history_of v (restored e)) ≤ length file
    unfolding history_length restored
    short =
        let m = length_history v vlaw e is.writable in
        let n = length_history v vlaw (restored e) (restored_writable e is.writable) in
        let w = ap length is.written in
        let p = mul-le-mul_left v.records.size (fewer_pending e) in
        let q = fewer_recent e in
        rw n (omega arith)

    -- the file that is written then
    next_file : (out : List ℕ) → length file ≤ length out → written (write_call v k (read_call v k l file).state (read_call v k l file).lent out).lent ≡ history_of v (restored e)
    unfolding write_call
    next_file out h =
        let f = history_of v (restored e) in
        rw (accepted_is_sound, seen, le-ltb (length out) (length f) (omega (arith, short))) (take_at f (drop (length f) out) (length f) refl)

    -- Writing what an accepted reading left gives the file back exactly when its ids rise.
    pub given_back : (out : List ℕ) → length file ≤ length out
        → (written (write_call v k (read_call v k l file).state (read_call v k l file).lent out).lent ≡ file) ↔ (ids_rise e ≡ true)
    given_back out h = (rises, back)
      where
        rises : written (write_call v k (read_call v k l file).state (read_call v k l file).lent out).lent ≡ file → ids_rise e ≡ true
        rises g =
            let same : history_of v (restored e) ≡ file = sym (next_file out h) ∙ g in
            let p : good (restored e) ≡ good e = sym (written_is_read v vlaw (restored e) (restored_writable e is.writable)) ∙ ap (read_history v) same ∙ r in
            let q : restored e ≡ e = cc in
            ap ids_rise (sym q) ∙ restored_rises e

        back : ids_rise e ≡ true → written (write_call v k (read_call v k l file).state (read_call v k l file).lent out).lent ≡ file
        back g =
            let P = rising (map (λ r. r.id) e.pending) in
            let Q = rising (map (λ c. c.id) e.recent) in
            next_file out h ∙ ap (history_of v) (restored_same e (and_left P Q g) (and_right P Q g)) ∙ is.written
