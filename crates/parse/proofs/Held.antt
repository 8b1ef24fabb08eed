-- What is known of a file that is read, for the code that then stores it: how long it is, and that its buckets are read. Assumes nothing.
use mathlib.Core.Path.{◌≡◌, refl, sym, ap, ap₂, ◌∙◌}
use mathlib.Core.Bool.{true}
use mathlib.Core.List.{List, [], ◌∷◌}
use Prim.Native.Nat.{ℕ, ◌+◌, ◌*◌}
use native.Mathlib.Nat.{mul_comm}
use native.Mathlib.Omega.{arith}
use lib.Dec.{T}
use lib.ListN.{length, drop, length-map}
use lib.Pow.{are_bytes}
use Rattle.rules.specs.Records.{records}
use Rattle.rules.specs.Board.{confirmed_size, confirmed_of}
use Rattle.rules.specs.Estimator.{Estimator}
use Rattle.rules.proofs.Records.{length_records}
use Rattle.format.specs.Parts.{Read, stopped, got, begun, good, ended, is_read}
use Rattle.format.specs.File.{Version, rates, height_length, read_head, read_buckets, read_file, read_history, history_length}
use Rattle.format.proofs.Back.{LawfulVersion}
use Rattle.format.proofs.Lengths.{length_history}
use Rattle.format.proofs.Inverse.{then_inv, give_inv}
use Rattle.format.proofs.Exact.{read_is_written}
use Rattle.codec.specs.Places.{buckets_size}
use Rattle.parse.specs.Says.{head_size, filed}
use Rattle.parse.specs.declared.Checked.{Checked}
use Rattle.parse.proofs.Whole.{headed}

-- it has as many records as were counted
module _ (v : Version) (s : List ℕ) (r : Checked) where
  pub pending_many : length (filed v r s).pending ≡ r.pending
  pending_many =
      let at = head_size v r.last + buckets_size + 4 in
      length-map (records v.records.size r.pending (drop at s)) v.records.read ∙ length_records v.records.size r.pending (drop at s)

  pub recent_many : length (filed v r s).recent ≡ r.recent
  recent_many =
      let at = head_size v r.last + buckets_size + 4 + r.pending * v.records.size + 4 in
      length-map (records confirmed_size r.recent (drop at s)) confirmed_of ∙ length_records confirmed_size r.recent (drop at s)

pub record Held (v : Version) (s : List ℕ) (r : Checked) : Type 0 where
  pub long : length s ≡ head_size v r.last + buckets_size + 4 + r.pending * v.records.size + 4 + confirmed_size * r.recent
  pub rows : is_read (read_buckets rates (drop (head_size v r.last) s)) ≡ true

module _ (v : Version) (law : LawfulVersion v) (s : List ℕ) (r : Checked) (b : T (are_bytes s)) (h : read_history v s ≡ good (filed v r s)) where
  long : length s ≡ head_size v r.last + buckets_size + 4 + r.pending * v.records.size + 4 + confirmed_size * r.recent
  unfolding history_length
  long =
      let w = read_is_written v law s (filed v r s) b h in
      sym (ap length w.written)
      ∙ length_history v law (filed v r s) w.writable
      ∙ ap₂ (λ (i j : ℕ). 57961 + length v.after + height_length r.last + v.records.size * i + confirmed_size * j) (pending_many v s r) (recent_many v s r)
      ∙ ap (λ (i : ℕ). 57961 + length v.after + height_length r.last + i + confirmed_size * r.recent) (mul_comm v.records.size r.pending)
      ∙ omega arith

  read_is : read_file v s ≡ got (filed v r s) []
  unfolding read_history ended
  read_is = go (read_file v s) refl h
    where
      go : (x : Read Estimator) → read_file v s ≡ x → ended x ≡ good (filed v r s) → read_file v s ≡ got (filed v r s) []
      go (stopped why) q k = let z : ◌≡◌ {A = ℕ} 0 1 = cc in absurd (omega arith)
      go (got e []) q k = let z : e ≡ filed v r s = cc in q ∙ ap (λ (x : Estimator). got x []) z
      go (got e (y ∷ u)) q k = let z : ◌≡◌ {A = ℕ} 0 1 = cc in absurd (omega arith)

  rows : is_read (read_buckets rates (drop (head_size v r.last) s)) ≡ true
  unfolding read_file begun is_read
  rows =
      let l = then_inv (read_head v) _ s (filed v r s) [] read_is in
      let w = then_inv (read_buckets rates) _ l.rest (filed v r s) [] l.next in
      let t = then_inv _ _ w.rest (filed v r s) [] w.next in
      let g = give_inv _ (filed v r s) t.rest [] t.next in
      let e : l.value ≡ r.last = ap (λ (x : Estimator). x.last) g.0 in
      let d = headed v s r.last (ap begun l.first ∙ ap good e) in
      let q : l.rest ≡ drop (head_size v r.last) s = cc (l.first, d.read) in
      ap (λ (x : List ℕ). is_read (read_buckets rates x)) (sym q) ∙ ap is_read w.first

  pub held : Held v s r
  held = record { long = long; rows = rows }
