-- How many confirmed records there will be is told without confirming any: each listed pending record that has none gets one, the second listing of an id finds
-- it gone, and of the skipped heights the last decides. Assumes nothing.
use mathlib.Core.Path.{◌≡◌, refl, sym, ap, ap₂, ◌∙◌}
use mathlib.Core.Bool.{Bool, true, false, not, ◌&&◌, ◌||◌, cond, and-true, and-false}
use mathlib.Core.List.{List, [], ◌∷◌}
use Rattle.std.specs.Prelude.{Option, None, Some}
use Prim.Native.Nat.{ℕ, suc, ◌+◌, ◌≤◌}
use native.Mathlib.Omega.{arith}
use lib.ListN.{length}
use Rattle.kinds.specs.Last.{Last}
use Rattle.rules.specs.Lists.{bit, count, any}
use Rattle.rules.specs.Ids.{Id, same, below, dropped, placed}
use Rattle.rules.specs.Board.{Board, Pending, Confirmed}
use Rattle.rules.specs.Estimator.{Estimator, is_pending, find, holds, tx_left, record_confirmation, skip_heights, confirm, confirm_all}
use Rattle.rules.specs.Calls.{held_once_listed}
use Rattle.rules.proofs.Ids.{Up, same_eq, same_sym, dropped_absent, up_dropped, up_placed}
use Rattle.rules.proofs.Placing.{any_dropped, any_ordered}
use Rattle.rules.proofs.Room.{length_keep, length_insert}
use Rattle.rules.proofs.Well.{Well, well_skip}
use Rattle.batch.specs.Needed.{listed, stays, lasts, still_held, adds_one, needed}
use Rattle.batch.specs.Batch.{is_confirmed}
use Rattle.lists.proofs.Counting.{count_ext, count_split, count_keep, count_false, length_kept, length_left, any_keep}
use Rattle.batch.proofs.Rising.{count_one}
use Rattle.batch.proofs.Heights.{held_confirmed}
use Rattle.batch.proofs.Skipped.{skipped_recent, skipped_pending}

-- ---- one listed id

-- what confirming i makes of two tables: its pending record goes, it has a confirmed record more if it was pending and had none, and others have one as before
record Confirming (i : Id) (s t : Estimator) : Type 0 where
  pending : t.pending ≡ dropped (λ r. r.id) i s.pending
  recent : length t.recent ≡ length s.recent + bit (not (is_confirmed i s.recent) && is_pending i s.pending)
  others : (j : Id) → same i j ≡ false → is_confirmed j t.recent ≡ is_confirmed j s.recent
  rises : Up (λ c. c.id) t.recent

-- there is something
abbrev found : Option Pending → Bool
found None = false
found (Some r) = true

pending_found : (i : Id) (rs : List Pending) → is_pending i rs ≡ found (find i rs)
unfolding is_pending any find
pending_found i [] = refl
pending_found i (r ∷ rs) = go (same r.id i) (pending_found i rs)
  where
    go : (t : Bool) → is_pending i rs ≡ found (find i rs) → (t || is_pending i rs) ≡ found (cond t (Some r) (find i rs))
    go true h = refl
    go false h = h

confirming : (k : Board) (B : ℕ) (i : Id) (s : Estimator) → Up (λ c. c.id) s.recent → Confirming i s (confirm k B i s)
unfolding confirm record_confirmation tx_left is_pending placed dropped is_confirmed
confirming k B i s u = go (holds i B s.recent) refl (find i s.pending) (pending_found i s.pending)
  where
    new : Confirmed
    new = record { id = i; height = B }

    bits : (a : Bool) → bit a + bit (not a && true) ≡ 1
    bits true = refl
    bits false = refl

    more : length (placed (λ c. c.id) new s.recent) ≡ suc (length (dropped (λ c. c.id) i s.recent))
    more = length_insert (λ x y. below x.id y.id) new (dropped (λ c. c.id) i s.recent)

    one : count (λ c. same c.id i) s.recent ≡ bit (is_confirmed i s.recent)
    one = count_one (λ c. c.id) i u

    left : length (dropped (λ c. c.id) i s.recent) + count (λ c. same c.id i) s.recent ≡ length s.recent
    left = length_left (λ c. same c.id i) s.recent

    go : (t : Bool) → holds i B s.recent ≡ t → (f : Option Pending) → is_pending i s.pending ≡ found f → Confirming i s (cond t (tx_left i s) (record_confirmation k B i f s))
    go true e f g =
        record {
          pending = refl;
          recent = rw (held_confirmed i B s.recent e) (omega arith);
          others = λ j d. refl;
          rises = u;
        }
    go false e None g =
        record {
          pending = sym (dropped_absent (λ r. r.id) i s.pending g);
          recent = rw (g, and-false) (omega arith);
          others = λ j d. refl;
          rises = u;
        }
    go false e (Some r) g =
        record {
          pending = refl;
          recent = rw g (omega (arith, more, one, left, bits (is_confirmed i s.recent)));
          others = λ j d. any_ordered (λ c. c.id) new j (dropped (λ c. c.id) i s.recent) d ∙ any_dropped (λ c. c.id) i j s.recent d;
          rises = up_placed (λ c. c.id) new u;
        }

-- ---- all of them

-- a record that is listed, and has no confirmed record
abbrev is_new : List Confirmed → List Id → Pending → Bool
is_new cs ids r = listed ids r.id && not (is_confirmed r.id cs)

module _ (i : Id) (ids : List Id) (s t : Estimator) (u : Up (λ r. r.id) s.pending) (c : Confirming i s t) where
  -- the records of other ids that are new
  other : Pending → Bool
  other r = not (same r.id i) && is_new s.recent ids r

  after : count (is_new t.recent ids) t.pending ≡ count other s.pending
  unfolding dropped other
  after =
      ap (count (is_new t.recent ids)) c.pending
      ∙ count_keep (is_new t.recent ids) (λ r. not (same r.id i)) s.pending
      ∙ count_ext (λ r. not (same r.id i) && is_new t.recent ids r) other (λ r. each r (same r.id i) refl) s.pending
    where
      each : (r : Pending) (b : Bool) → same r.id i ≡ b → (not b && is_new t.recent ids r) ≡ (not b && is_new s.recent ids r)
      each r true e = refl
      each r false e = ap (λ (b : Bool). listed ids r.id && not b) (c.others r.id (same_sym i r.id ∙ e))

  before : count (is_new s.recent (i ∷ ids)) s.pending ≡ bit (not (is_confirmed i s.recent) && is_pending i s.pending) + count other s.pending
  unfolding listed any other is_pending
  before =
      count_split (is_new s.recent (i ∷ ids)) (λ r. same r.id i) s.pending
      ∙ ap₂ (λ (m n : ℕ). m + n)
      (count_ext _ (λ r. not (is_confirmed i s.recent) && same r.id i) (λ r. own r (same r.id i) refl) s.pending ∙ its (not (is_confirmed i s.recent)))
      (count_ext _ other (λ r. each r (same r.id i)) s.pending)
    where
      own : (r : Pending) (b : Bool) → same r.id i ≡ b → (b && ((b || listed ids r.id) && not (is_confirmed r.id s.recent))) ≡ (not (is_confirmed i s.recent) && b)
      own r true e = ap (λ (j : Id). not (is_confirmed j s.recent)) (same_eq r.id i e) ∙ sym (and-true (not (is_confirmed i s.recent)))
      own r false e = sym (and-false (not (is_confirmed i s.recent)))

      its : (b : Bool) → count (λ r. b && same r.id i) s.pending ≡ bit (b && any (λ r. same r.id i) s.pending)
      its true = count_one (λ r. r.id) i u
      its false = count_false s.pending

      each : (r : Pending) (b : Bool) → (not b && ((b || listed ids r.id) && not (is_confirmed r.id s.recent))) ≡ (not b && is_new s.recent ids r)
      each r true = refl
      each r false = refl

  one_by_one : length t.recent + count (is_new t.recent ids) t.pending ≡ length s.recent + count (is_new s.recent (i ∷ ids)) s.pending
  one_by_one = omega (arith, after, before, c.recent)

-- each listed pending record that has no confirmed record gets one
length_all : (k : Board) (B : ℕ) (ids : List Id) (s : Estimator) → Up (λ r. r.id) s.pending → Up (λ c. c.id) s.recent
    → length (confirm_all k B ids s).recent ≡ length s.recent + count (is_new s.recent ids) s.pending
unfolding confirm_all listed any
length_all k B [] s u v = omega (arith, count_false s.pending)
length_all k B (i ∷ ids) s u v =
    let c = confirming k B i s v in
    let t = confirm k B i s in
    length_all k B ids t (rw c.pending (up_dropped (λ r. r.id) i u)) c.rises ∙ one_by_one i ids s t u c

-- ---- before the block

module _ (k : Board) (ids : List Id) (B : ℕ) (e : Estimator) where
  abbrev skipped : Estimator
  skipped = skip_heights k e.last B e

  held_is : (i : Id) → is_confirmed i skipped.recent ≡ still_held e.last B e.recent i
  unfolding still_held is_confirmed
  held_is i = ap (λ (cs : List Confirmed). is_confirmed i cs) (skipped_recent k e.last B e) ∙ any_keep (λ c. same c.id i) (stays e.last B) e.recent

  pub needed_is : Well e → held_once_listed k ids B e ≡ needed k ids B e.last e.pending e.recent
  unfolding held_once_listed needed adds_one
  needed_is w =
      let v = well_skip k e.last B e w in
      length_all k B ids skipped v.pending_up v.recent_up
      ∙ ap₂ (λ (m n : ℕ). m + n)
      (ap length (skipped_recent k e.last B e) ∙ length_kept (stays e.last B) e.recent)
      (skipped_pending k e.last B e (λ i. listed ids i && not (is_confirmed i skipped.recent)) ∙ count_ext _ (adds_one k ids B e.last e.recent) each e.pending)
    where
      swap : (a b c : Bool) → (a && (b && c)) ≡ (b && (a && c))
      swap true b c = refl
      swap false true c = refl
      swap false false c = refl

      each : (r : Pending) → (lasts k e.last B r && is_new skipped.recent ids r) ≡ adds_one k ids B e.last e.recent r
      each r = rw (held_is r.id) (swap (lasts k e.last B r) (listed ids r.id) (not (still_held e.last B e.recent r.id)))

-- ---- at most

-- no more than all records of both tables
pub needed_most : (k : Board) (ids : List Id) (B : ℕ) (last : Last) (ps : List Pending) (cs : List Confirmed) → needed k ids B last ps cs ≤ length cs + length ps
unfolding needed
needed_most k ids B last ps cs = omega (arith, few (stays last B) cs, few (adds_one k ids B last cs) ps)
  where
    few : {A : Type 0} (p : A → Bool) (xs : List A) → count p xs ≤ length xs
    few p xs = omega (arith, length_kept p xs, length_keep p xs)
