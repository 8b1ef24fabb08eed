-- The marked records are settled one after the other: what is settled of the first i is the batch of them. Assumes nothing.
use mathlib.Core.Path.{◌≡◌, refl, sym, ap, ap₂, subst, ◌∙◌}
use mathlib.Core.Bool.{Bool, true, false, not, ◌&&◌, cond}
use mathlib.Core.List.{List, [], ◌∷◌, ◌++◌, append-nil}
use Prim.Native.Nat.{ℕ, ◌+◌, ◌^◌, ◌≤◌, ◌<◌}
use native.Mathlib.Nat.{add-zero}
use native.Mathlib.Numerals.{add-one}
use native.Mathlib.Omega.{arith}
use lib.Dec.{eqb}
use lib.ListN.{length, get_or, take, drop, set, length-set, get_or-map}
use lib.Seq.{get_or-set_same, take-set-le, drop-set-lt, get_or-drop, drop-drop, take_all}
use borrow.Author.Tests.{eq-eqb, ne_eqb}
use Rattle.kinds.specs.declared.State.{State}
use Rattle.rules.specs.Lists.{any, keep}
use Rattle.rules.specs.Ids.{Id, below}
use Rattle.rules.specs.Ladder.{last_bucket}
use Rattle.rules.specs.Counts.{Counts, places_of_counts, gain}
use Rattle.rules.specs.Records.{records, sound_table}
use Rattle.rules.specs.Board.{Board, Lawful, Pending, Confirmed, pending_most, confirmed_size, confirmed_most}
use Rattle.rules.specs.Estimator.{is_pending, holds}
use Rattle.rules.specs.Memory.{Lent, pending_records, confirmed_records, lay_confirmed, view}
use Rattle.rules.proofs.All.{All, none, more, all_at}
use Rattle.rules.proofs.Ids.{below_apart}
use Rattle.rules.proofs.Memory.{pending_length}
use Rattle.rules.proofs.Well.{WellPending}
use Rattle.lists.proofs.Lists.{keep_append}
use Rattle.batch.specs.Batch.{gains, in_time, unresolved, is_confirmed, raised, fresh_of, counted}
use Rattle.batch.specs.Picked.{picked}
use Rattle.batch.proofs.Batch.{none_raised}
use Rattle.batch.proofs.Merging.{holds_raised, raised_confirmed}
use Rattle.batch.proofs.Picked.{all_picked, picked_take, picked_back}
use Rattle.batch.proofs.Rising.{under_at}
use Rattle.batch.proofs.Settling.{raised_next}
use Rattle.ready.specs.Ready.{Ready}
use Rattle.ready.proofs.Facts.{confirmed_places, resolved_places, pending_sound, Long, long_same, long_after}
use Rattle.settles.specs.Settled.{Settled, AllSettled}
use Rattle.settles.proofs.Raised.{raised_none, raised_sound, raised_seen, raised_over}

-- ---- one more at the end

gains_append : (test : Pending → ℕ → Bool) (a b : List Pending) (xs : Counts) → gains test (a ++ b) xs ≡ gains test b (gains test a xs)
unfolding gains
gains_append test [] b xs = refl
gains_append test (r ∷ a) b xs = gains_append test a b (gain r.bucket (test r) xs)

raised_snoc : (B : ℕ) (gone : List Pending) (r : Pending) (cs : List Confirmed) → raised B (gone ++ r ∷ []) cs ≡ raised B (r ∷ []) (raised B gone cs)
raised_snoc B [] r cs = ap (raised B (r ∷ [])) (sym (none_raised B cs))
raised_snoc B (g ∷ gone) r cs = raised_next B g (gone ++ r ∷ []) cs ∙ raised_snoc B gone r (raised B (g ∷ []) cs) ∙ ap (raised B (r ∷ [])) (sym (raised_next B g gone cs))

-- it is counted, or not
counts_one : (test : Pending → ℕ → Bool) (B : ℕ) (cs : List Confirmed) (gone : List Pending) (r : Pending) (xs : Counts)
    → cond (holds r.id B cs) (gains test (counted B cs gone) xs) (gain r.bucket (test r) (gains test (counted B cs gone) xs)) ≡ gains test (counted B cs (gone ++ r ∷ [])) xs
unfolding counted keep gains
counts_one test B cs gone r xs =
    sym (ap (λ (l : List Pending). gains test l xs) (keep_append (λ q. not (holds q.id B cs)) gone (r ∷ [])) ∙ gains_append test (counted B cs gone) (counted B cs (r ∷ [])) xs ∙ go (holds r.id B cs))
  where
    go : (t : Bool) → gains test (cond (not t) (r ∷ []) []) (gains test (counted B cs gone) xs) ≡ cond t (gains test (counted B cs gone) xs) (gain r.bucket (test r) (gains test (counted B cs gone) xs))
    go true = refl
    go false = refl

-- it is none of those before it
absent_of : (i : Id) {gone : List Pending} → All (λ q. below q.id i ≡ true) gone → is_pending i gone ≡ false
unfolding is_pending any
absent_of i none = refl
absent_of i (more {a = q} h hs) = rw (below_apart q.id i h) (absent_of i hs)

held_as_before : (B : ℕ) (i : Id) {gone : List Pending} (cs : List Confirmed) → All (λ q. below q.id i ≡ true) gone → holds i B (raised B gone cs) ≡ holds i B cs
held_as_before B i {gone} cs a = holds_raised B i B gone cs ∙ ap (λ (t : Bool). cond t (is_confirmed i cs && eqb B B) (holds i B cs)) (absent_of i a)

-- ---- the loop

module _ (k : Board) (B used kept : ℕ) (l₀ : Lent) (ms₀ : List ℕ) where
  abbrev rs : List Pending
  rs = pending_records k used l₀.pending

  abbrev cs : List Confirmed
  cs = confirmed_records kept l₀.recent

  -- the marked ones among the first i
  abbrev pub gone : ℕ → List Pending
  gone i = picked 1 (take i ms₀) (take i rs)

  -- the first i places are passed
  pub record Passed (i : ℕ) (l : Lent) (ms : List ℕ) : Type 0 where
    pub within : i ≤ used
    pub confirmed : l.confirmed ≡ gains (in_time k B) (counted B cs (gone i)) l₀.confirmed
    pub resolved : l.resolved ≡ gains unresolved (counted B cs (gone i)) l₀.resolved
    pub recent : l.recent ≡ lay_confirmed (raised B (gone i) cs) l₀.recent
    pub new : picked 1 (take i ms) (take i rs) ≡ fresh_of (gone i) cs
    pub rest : picked 0 (take i ms) (take i rs) ≡ picked 0 (take i ms₀) (take i rs)
    pub ahead : drop i ms ≡ drop i ms₀
    pub long : length ms ≡ length ms₀
    pub lengths : Long l₀ l

module _ (k : Board) (law : Lawful k) (B : ℕ) (small : B < 256 ^ 4) (s : State) (l₀ : Lent) (ms₀ : List ℕ) (ready : Ready k s l₀) (enough : s.pending ≤ length ms₀) where
  abbrev Now : ℕ → Lent → List ℕ → Type 0
  Now i l ms = Passed k B s.pending s.recent l₀ ms₀ i l ms

  abbrev records_of : List Pending
  records_of = pending_records k s.pending l₀.pending

  abbrev held_of : List Confirmed
  held_of = confirmed_records s.recent l₀.recent

  abbrev gone_of : ℕ → List Pending
  gone_of i = gone k B s.pending s.recent l₀ ms₀ i

  many : length records_of ≡ s.pending
  many = pending_length k s.pending l₀.pending

  pub passed_none : Now 0 l₀ ms₀
  unfolding picked counted keep gains fresh_of
  passed_none =
      record {
        within = omega arith;
        confirmed = refl;
        resolved = refl;
        recent = raised_none k B s l₀ ready;
        new = refl;
        rest = refl;
        ahead = refl;
        long = refl;
        lengths = long_same l₀;
      }

  module _ (i : ℕ) (l : Lent) (ms : List ℕ) (v : Now i l ms) where
    seen : confirmed_records s.recent l.recent ≡ raised B (gone_of i) held_of
    seen = raised_seen k law B small s l₀ ready (gone_of i) l.recent v.recent

    -- all places are passed
    pub passed_all : i ≡ s.pending → AllSettled k B (view k s l₀) l₀ ms₀ l ms
    unfolding view
    passed_all e =
        record {
          confirmed = v.confirmed ∙ ap (λ (g : List Pending). gains (in_time k B) (counted B held_of g) l₀.confirmed) (whole 1 ms₀);
          resolved = v.resolved ∙ ap (λ (g : List Pending). gains unresolved (counted B held_of g) l₀.resolved) (whole 1 ms₀);
          recent = v.recent ∙ ap (λ (g : List Pending). lay_confirmed (raised B g held_of) l₀.recent) (whole 1 ms₀);
          new = sym (whole 1 ms) ∙ v.new ∙ ap (λ (g : List Pending). fresh_of g held_of) (whole 1 ms₀);
          rest = sym (whole 0 ms) ∙ v.rest ∙ whole 0 ms₀;
        }
      where
        whole : (w : ℕ) (ns : List ℕ) → picked w (take i ns) (take i records_of) ≡ picked w ns records_of
        whole w ns = ap (picked w (take i ns)) (take_all i records_of (omega (arith, many))) ∙ picked_take w i ns records_of (omega (arith, many))

    module _ (h : i < s.pending) where
      abbrev r : Pending
      r = get_or records_of i (k.table.read [])

      in_rs : i < length records_of
      in_rs = omega (arith, many)

      in_ms₀ : i < length ms₀
      in_ms₀ = omega arith

      pub in_ms : i < length ms
      in_ms = omega (arith, v.long)

      is_read : r ≡ k.table.read (get_or (records k.table.size s.pending l₀.pending) i [])
      unfolding pending_records
      is_read = get_or-map k.table.read (records k.table.size s.pending l₀.pending) i []

      -- what settling it asks
      pub settle_asks : ((i < s.pending) × (sound_table k.table.size pending_most s.pending l₀.pending ≡ true))
          × ((((k.table.read (get_or (records k.table.size s.pending l₀.pending) i [])).bucket ≤ last_bucket) × (places_of_counts ≤ length l.confirmed) × (places_of_counts ≤ length l.resolved))
          × (sound_table confirmed_size confirmed_most s.recent l.recent ≡ true))
      unfolding view
      settle_asks =
          let w : WellPending (k.table.read (get_or (records k.table.size s.pending l₀.pending) i [])) = subst WellPending is_read (all_at i (k.table.read []) ready.well.pending in_rs) in
          let c = confirmed_places k law s l₀ ready in
          let d = resolved_places k law s l₀ ready in
          ((h, pending_sound k law s l₀ ready), ((w.bucket, omega (arith, v.lengths.confirmed), omega (arith, v.lengths.resolved)), raised_sound k law B small s l₀ ready (gone_of i) l.recent v.recent))

      same_mark : get_or ms i 0 ≡ get_or ms₀ i 0
      same_mark =
          let z : i + 0 ≡ i = add-zero i in
          sym (get_or-drop i ms 0 0 ∙ ap (λ (n : ℕ). get_or ms n 0) z) ∙ ap (λ (l : List ℕ). get_or l 0 0) v.ahead ∙ get_or-drop i ms₀ 0 0 ∙ ap (λ (n : ℕ). get_or ms₀ n 0) z

      ahead_next : drop (i + 1) ms ≡ drop (i + 1) ms₀
      ahead_next = sym (drop-drop 1 i ms) ∙ ap (drop 1) v.ahead ∙ drop-drop 1 i ms₀

      -- one place more
      pick_next : (w : ℕ) (ns : List ℕ) → i < length ns → picked w (take (i + 1) ns) (take (i + 1) records_of) ≡ picked w (take i ns) (take i records_of) ++ cond (eqb (get_or ns i 0) w) (r ∷ []) []
      pick_next w ns g = rw add-one (picked_back w i (k.table.read []) ns records_of g in_rs)

      -- the mark is not 1
      pub passed_skip : (get_or ms i 0 ≡ 1 → ⊥) → Now (i + 1) l ms
      passed_skip e =
          let no : eqb (get_or ms i 0) 1 ≡ false = ne_eqb (get_or ms i 0) 1 e in
          let no₀ : eqb (get_or ms₀ i 0) 1 ≡ false = ap (λ (n : ℕ). eqb n 1) (sym same_mark) ∙ no in
          let same_gone : gone_of i ≡ gone_of (i + 1) = sym (pick_next 1 ms₀ in_ms₀ ∙ ap (λ (t : Bool). gone_of i ++ cond t (r ∷ []) []) no₀ ∙ append-nil (gone_of i)) in
          record {
            within = omega arith;
            confirmed = v.confirmed ∙ ap (λ (g : List Pending). gains (in_time k B) (counted B held_of g) l₀.confirmed) same_gone;
            resolved = v.resolved ∙ ap (λ (g : List Pending). gains unresolved (counted B held_of g) l₀.resolved) same_gone;
            recent = v.recent ∙ ap (λ (g : List Pending). lay_confirmed (raised B g held_of) l₀.recent) same_gone;
            new = pick_next 1 ms in_ms ∙ ap (λ (t : Bool). picked 1 (take i ms) (take i records_of) ++ cond t (r ∷ []) []) no ∙ append-nil _ ∙ v.new ∙ ap (λ (g : List Pending). fresh_of g held_of) same_gone;
            rest = pick_next 0 ms in_ms ∙ ap₂ (λ (g : List Pending) (n : ℕ). g ++ cond (eqb n 0) (r ∷ []) []) v.rest same_mark ∙ sym (pick_next 0 ms₀ in_ms₀);
            ahead = ahead_next;
            long = v.long;
            lengths = v.lengths;
          }

      -- it is 1, and the record has been settled
      pub passed_take : get_or ms i 0 ≡ 1 → (m : Lent) (mark : ℕ)
          → Settled k B (k.table.read (get_or (records k.table.size s.pending l₀.pending) i [])) (confirmed_records s.recent l.recent) l.confirmed l.resolved l.recent m.confirmed m.resolved m.recent mark
          → Long l m → Now (i + 1) m (set ms i mark)
      unfolding view fresh_of keep
      passed_take e m mark q' long =
          record {
            within = omega arith;
            confirmed = q.confirmed ∙ ap₂ (λ (t : Bool) (c : Counts). cond t c (gain r.bucket (in_time k B r) c)) held v.confirmed ∙ counts_one (in_time k B) B held_of (gone_of i) r l₀.confirmed
                ∙ ap (λ (g : List Pending). gains (in_time k B) (counted B held_of g) l₀.confirmed) next;
            resolved = q.resolved ∙ ap₂ (λ (t : Bool) (c : Counts). cond t c (gain r.bucket (unresolved r) c)) held v.resolved ∙ counts_one unresolved B held_of (gone_of i) r l₀.resolved
                ∙ ap (λ (g : List Pending). gains unresolved (counted B held_of g) l₀.resolved) next;
            recent = q.recent ∙ ap (λ (c : List Confirmed). lay_confirmed c l.recent) (ap (raised B (r ∷ [])) seen ∙ sym (raised_snoc B (gone_of i) r held_of) ∙ ap (λ (g : List Pending). raised B g held_of) next)
                ∙ raised_over k law B small s l₀ ready (gone_of i) l.recent v.recent (raised B (gone_of (i + 1)) held_of);
            new = pick_next 1 (set ms i mark) in_set
                ∙ ap₂ (λ (g : List Pending) (n : ℕ). g ++ cond (eqb n 1) (r ∷ []) []) (ap (λ (n : List ℕ). picked 1 n (take i records_of)) front ∙ v.new) mark_is
                ∙ ap (λ (t : Bool). fresh_of (gone_of i) held_of ++ cond t (r ∷ []) []) (one_new (is_confirmed r.id held_of))
                ∙ sym (keep_append (λ p. not (is_confirmed p.id held_of)) (gone_of i) (r ∷ []))
                ∙ ap (λ (g : List Pending). fresh_of g held_of) next;
            rest = pick_next 0 (set ms i mark) in_set
                ∙ ap₂ (λ (g : List Pending) (n : ℕ). g ++ cond (eqb n 0) (r ∷ []) []) (ap (λ (n : List ℕ). picked 0 n (take i records_of)) front ∙ v.rest) mark_is
                ∙ ap (λ (t : Bool). picked 0 (take i ms₀) (take i records_of) ++ cond t (r ∷ []) []) (not_free (is_confirmed r.id held_of) ∙ sym (ap (λ (n : ℕ). eqb n 0) is_one))
                ∙ sym (pick_next 0 ms₀ in_ms₀);
            ahead = drop-set-lt (i + 1) ms i mark (omega arith) ∙ ahead_next;
            long = length-set ms i mark ∙ v.long;
            lengths = long_after v.lengths long;
          }
        where
          q : Settled k B r (confirmed_records s.recent l.recent) l.confirmed l.resolved l.recent m.confirmed m.resolved m.recent mark
          q = subst (λ (p : Pending). Settled k B p (confirmed_records s.recent l.recent) l.confirmed l.resolved l.recent m.confirmed m.resolved m.recent mark) (sym is_read) q'

          is_one : get_or ms₀ i 0 ≡ 1
          is_one = sym same_mark ∙ e

          next : gone_of i ++ r ∷ [] ≡ gone_of (i + 1)
          next = sym (pick_next 1 ms₀ in_ms₀ ∙ ap (λ (t : Bool). gone_of i ++ cond t (r ∷ []) []) (eq-eqb (get_or ms₀ i 0) 1 is_one))

          under : All (λ p. below p.id r.id ≡ true) (gone_of i)
          under = all_picked 1 (take i ms₀) (under_at (λ p. p.id) i (k.table.read []) ready.well.pending_up in_rs)

          held : holds r.id B (confirmed_records s.recent l.recent) ≡ holds r.id B held_of
          held = ap (holds r.id B) seen ∙ held_as_before B r.id held_of under

          front : take i (set ms i mark) ≡ take i ms
          front = take-set-le i ms i mark (omega arith)

          in_set : i < length (set ms i mark)
          in_set = omega (arith, in_ms, length-set ms i mark)

          mark_is : get_or (set ms i mark) i 0 ≡ cond (is_confirmed r.id held_of) 2 1
          mark_is = get_or-set_same ms i mark 0 in_ms ∙ q.new ∙ ap (λ (t : Bool). cond t 2 1) (ap (is_confirmed r.id) seen ∙ raised_confirmed B (gone_of i) r.id held_of)

          one_new : (t : Bool) → eqb (cond t 2 1) 1 ≡ not t
          one_new true = refl
          one_new false = refl

          not_free : (t : Bool) → eqb (cond t 2 1) 0 ≡ false
          not_free true = refl
          not_free false = refl
