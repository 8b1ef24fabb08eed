-- What the reading call leaves, case by case: a refusal leaves all as it was, and a file that is stored is the estimator that its records make, laid.
-- Assumes nothing.
use mathlib.Core.Path.{◌≡◌, refl, sym, ap, ap₂, ◌∙◌, subst}
use mathlib.Core.List.{List, [], ◌++◌, map}
use Prim.Native.Nat.{ℕ, ◌+◌, ◌*◌, ◌≤◌}
use native.Mathlib.Omega.{arith}
use lib.Dec.{T}
use lib.ListN.{length, drop, length-drop}
use lib.Pow.{are_bytes}
use lib.Ieee.{Float}
use Rattle.kinds.specs.Last.{Last}
use Rattle.kinds.specs.Answers.{done}
use Rattle.rules.specs.Ladder.{buckets}
use Rattle.rules.specs.Counts.{places_of_counts}
use Rattle.rules.specs.Records.{records, id_of, laid}
use Rattle.rules.specs.Board.{Board, Layout, Lawful, confirmed_size, confirmed_of}
use Rattle.rules.specs.Estimator.{Estimator}
use Rattle.rules.specs.Memory.{Lent, lent, pending_capacity, confirmed_capacity, lay_pending, lay_confirmed, state_of, lay}
use Rattle.rules.specs.Calls.{Outcome, outcome, accepted}
use Rattle.rules.proofs.Bytes.{bytes_drop}
use Rattle.rules.proofs.Memory.{confirmed_kept}
use Rattle.format.specs.File.{Version, settled, restored}
use Rattle.codec.specs.Places.{buckets_size, rows_at}
use Rattle.tables.specs.Places.{recents}
use Rattle.parse.specs.Says.{head_size, filed}
use Rattle.parse.specs.declared.Checked.{Checked}
use Rattle.parse.proofs.Held.{Held}
use Rattle.settle.proofs.Bridge.{same_count, same_table}

-- ---- what is stored

-- a table under the definition's names
pub table_as : (z size room cap : ℕ) (rs qs : List (List ℕ)) (xs ys : List ℕ) → z ≡ size → room ≡ cap → rs ≡ qs → ys ≡ laid z room (settled id_of [] rs) xs → ys ≡ laid size cap (settled id_of [] qs) xs
table_as z size room cap rs qs xs ys e f g h =
    h ∙ ap₂ (λ (i j : ℕ). laid i j (settled id_of [] rs) xs) e f ∙ ap (λ (x : List (List ℕ)). laid size cap (settled id_of [] x) xs) g

-- an outcome, by its parts
abbrev made : Last → ℕ → ℕ → List Float → List Float → List ℕ → List ℕ → Outcome Lent
made last p q c d x y = outcome done (record { last = last; pending = p; recent = q }) (lent c d x y)

confirmed_named : (b : List ℕ) → (confirmed_of b).id ≡ id_of b
unfolding confirmed_of
confirmed_named b = refl

-- ---- of version v, into the memory of board k

module _ (v : Version) (k : Board) (law : Lawful k) (same : v.records ≡ k.table) (s : List ℕ) (r : Checked) (b : T (are_bytes s)) (h : Held v s r) where
  -- where the records of the tables begin
  abbrev at : ℕ
  at = head_size v r.last + buckets_size + 4

  abbrev to : ℕ
  to = head_size v r.last + buckets_size + 4 + r.pending * v.records.size + 4

  -- the two tables
  abbrev ps : List (List ℕ)
  ps = settled id_of [] (records k.table.size r.pending (drop at s))

  abbrev cs : List (List ℕ)
  cs = settled id_of [] (records confirmed_size r.recent (drop to s))

  pending_whole : r.pending * k.table.size ≤ length (drop at s)
  pending_whole = subst (λ (y : Layout). r.pending * y.size ≤ length (drop at s)) same (rw length-drop (omega (arith, h.long)))

  recent_whole : r.recent * confirmed_size ≤ length (drop to s)
  recent_whole = rw length-drop (omega (arith, h.long))

  -- what the file holds, its pending records laid out so
  abbrev held_as : Layout → Estimator
  held_as y =
      record {
        last = r.last;
        pending = map y.read (records y.size r.pending (drop at s));
        recent = recents s to r.recent;
        confirmed = rows_at buckets s (head_size v r.last + 8);
        resolved = rows_at buckets s (head_size v r.last + 208);
      }

  all_stored : (l : Lent)
      → made r.last (length ps) (length cs)
      (rows_at buckets s (head_size v r.last + 8) ++ drop places_of_counts l.confirmed) (rows_at buckets s (head_size v r.last + 208) ++ drop places_of_counts l.resolved)
      (laid k.table.size (pending_capacity k l.pending) ps l.pending) (laid confirmed_size (confirmed_capacity l.recent) cs l.recent)
      ≡ accepted k (restored (held_as k.table)) l
  unfolding state_of lay lay_pending lay_confirmed restored
  all_stored l =
      rw (
        same_count law.kept (λ x. x.id) law.named r.pending (drop at s),
        same_count confirmed_kept (λ x. x.id) confirmed_named r.recent (drop to s),
        same_table law.kept (λ x. x.id) law.named r.pending (drop at s) pending_whole (bytes_drop at s b),
        same_table confirmed_kept (λ x. x.id) confirmed_named r.recent (drop to s) recent_whole (bytes_drop to s b),
      )

  pub stored : (l : Lent) (p q : ℕ) (c d : List Float) (x y : List ℕ)
      → p ≡ length ps
      → q ≡ length cs
      → c ≡ rows_at buckets s (head_size v r.last + 8) ++ drop places_of_counts l.confirmed
      → d ≡ rows_at buckets s (head_size v r.last + 208) ++ drop places_of_counts l.resolved
      → x ≡ laid k.table.size (pending_capacity k l.pending) ps l.pending
      → y ≡ laid confirmed_size (confirmed_capacity l.recent) cs l.recent
      → made r.last p q c d x y ≡ accepted k (restored (filed v r s)) l
  stored l p q c d x y ep eq ec ed ex ey =
      let C = rows_at buckets s (head_size v r.last + 8) ++ drop places_of_counts l.confirmed in
      let D = rows_at buckets s (head_size v r.last + 208) ++ drop places_of_counts l.resolved in
      let X = laid k.table.size (pending_capacity k l.pending) ps l.pending in
      ap (λ (z : ℕ). made r.last z q c d x y) ep
      ∙ ap (λ (z : ℕ). made r.last (length ps) z c d x y) eq
      ∙ ap (λ (z : List Float). made r.last (length ps) (length cs) z d x y) ec
      ∙ ap (λ (z : List Float). made r.last (length ps) (length cs) C z x y) ed
      ∙ ap (λ (z : List ℕ). made r.last (length ps) (length cs) C D z y) ex
      ∙ ap (λ (z : List ℕ). made r.last (length ps) (length cs) C D X z) ey
      ∙ all_stored l
      ∙ ap (λ (z : Layout). accepted k (restored (held_as z)) l) (sym same)
