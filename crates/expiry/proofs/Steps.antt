-- What the passes do to pending and confirmed records: the rules' steps. Assumes nothing.
use mathlib.Core.Path.{◌≡◌, refl, ap, ◌∙◌}
use mathlib.Core.Bool.{Bool, true, false, cond}
use mathlib.Core.List.{List, [], ◌∷◌, map}
use Prim.Native.Nat.{ℕ, ◌-◌, ◌/◌, ◌^◌, min, max, ◌≤◌, ◌<◌}
use native.Mathlib.Omega.{arith}
use lib.Dec.{leb, ltb, lit<}
use lib.ListN.{length}
use borrow.Author.Tests.{ltb-true, ltb-false}
use Rattle.lists.proofs.Lists.{map_keep}
use Rattle.rules.specs.Lists.{keep}
use Rattle.rules.specs.Counts.{columns}
use Rattle.rules.specs.Ids.{Id}
use Rattle.rules.specs.Board.{Board, Pending, pending_size, pending_of, confirmed_of}
use Rattle.rules.specs.Estimator.{moved}
use Rattle.rules.proofs.Records.{Sized}
use Rattle.table.specs.Fields.{field, with_field}
use Rattle.table.proofs.Fields.{length_with_field, front_kept, field_kept, field_put}
use Rattle.expiry.specs.Fields.{through_at, reach, raised, waiting}

abbrev made : Id → ℕ → ℕ → ℕ → Pending
made i b e t = record { id = i; bucket = b; entry = e; through = t }

made_same : {i j : Id} {b c e f t u : ℕ} → i ≡ j → b ≡ c → e ≡ f → t ≡ u → made i b e t ≡ made j c f u
made_same p q r s = cc

small : (n : ℕ) → min columns n < 256 ^ 4
small n = let h : columns < 256 ^ 4 = lit< tt in omega arith

module _ (k : Board) (h size : ℕ) (least : pending_size ≤ size) where
  pub raised_moved : (b : List ℕ) → length b ≡ size → pending_of (raised k.width h b) ≡ moved k h (pending_of b)
  unfolding pending_of raised
  raised_moved b l = go (ltb (field through_at b) o) refl
    where
      o : ℕ
      o = reach k.width h b

      w : List ℕ
      w = with_field through_at o b

      go : (t : Bool) → ltb (field through_at b) o ≡ t → pending_of (cond t w b) ≡ moved k h (pending_of b)
      go true e =
          let lw : length w ≡ length b = length_with_field through_at o b in
          let m : field through_at w ≡ max (field through_at b) o = field_put through_at o b (omega arith) (small ((h - field 36 b) / k.width)) ∙ omega (arith, ltb-true (field through_at b) o e) in
          made_same (front_kept 32 through_at o b (omega arith) (omega arith)) (field_kept 32 through_at o b (omega arith) (omega arith) lw) (field_kept 36 through_at o b (omega arith) (omega arith) lw) m
      go false e = made_same refl refl refl (omega (arith, ltb-false (field through_at b) o e))

  -- the pass that raises resolved-through, and then drops what is resolved
  all_raised : (bs : List (List ℕ)) → Sized size bs → map pending_of (map (raised k.width h) bs) ≡ map (moved k h) (map pending_of bs)
  unfolding Sized
  all_raised [] z = refl
  all_raised (b ∷ bs) z = rw (raised_moved b z.0) (ap (λ (l : List Pending). moved k h (pending_of b) ∷ l) (all_raised bs z.1))

  pub pending_expired : (bs : List (List ℕ)) → Sized size bs
      → map pending_of (keep waiting (map (raised k.width h) bs)) ≡ keep (λ r. ltb r.through columns) (map (moved k h) (map pending_of bs))
  pending_expired bs z = map_keep pending_of (λ r. ltb r.through columns) (map (raised k.width h) bs) ∙ ap (keep (λ r. ltb r.through columns)) (all_raised bs z)

pub confirmed_pruned : (h : ℕ) (bs : List (List ℕ)) → map confirmed_of (keep (λ b. leb (h - (confirmed_of b).height) columns) bs) ≡ keep (λ c. leb (h - c.height) columns) (map confirmed_of bs)
confirmed_pruned h bs = map_keep confirmed_of (λ c. leb (h - c.height) columns) bs
