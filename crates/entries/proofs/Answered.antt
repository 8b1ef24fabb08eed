-- Enter and leave over plain lists: the answers of the code, test by test, are the definitions'. An enter at the floor or above searches a sound table for the
-- id: where the search ends at a record the id is pending, and where it ends in a gap it is not. A leave counts what is left: as many records as before where
-- the id was not pending. What either leaves is the rules' records, laid. Assumes nothing.
use Rattle.std.specs.Prelude.{Ok, Err}
use mathlib.Core.Path.{◌≡◌, refl, sym, ap, ap₂, ◌∙◌}
use mathlib.Core.Bool.{Bool, true, false, not, ◌||◌, cond}
use mathlib.Core.List.{List, [], ◌∷◌, map}
use Prim.Native.Nat.{ℕ, suc, ◌+◌, ◌*◌, ◌^◌, ◌≤◌, ◌<◌}
use native.Mathlib.Nat.{le_trans, lt_of_lt_of_le}
use native.Mathlib.Omega.{arith}
use borrow.Author.Tests.{eq-eqb, ne_eqb, lt-leb}
use lib.Dec.{T, ltb, lit<, lit≤}
use lib.ListN.{length, length-append, length-take, length-drop, length-map}
use lib.Pow.{are_bytes}
use Rattle.kinds.specs.declared.FeeRate.{FeeRate}
use Rattle.kinds.specs.declared.Height.{Height}
use Rattle.kinds.specs.declared.State.{State}
use Rattle.kinds.specs.Answers.{done, damaged, below_floor, already_pending, pending_full, absent}
use Rattle.rules.specs.Lists.{any, keep}
use Rattle.rules.specs.Ids.{Id, same, dropped, placed}
use Rattle.rules.specs.Ladder.{floor, bucket_index}
use Rattle.rules.specs.Board.{Board, Lawful, Pending, PendingFits, pending_most}
use Rattle.rules.specs.Records.{records, id_of, capacity, sound_table, laid}
use Rattle.rules.specs.Estimator.{is_pending, without, admit}
use Rattle.rules.specs.Memory.{pending_capacity, pending_records, lay_pending, sound_pending}
use Rattle.rules.specs.Calls.{Outcome, outcome, accepted_pending, enter_call, leave_call}
use Rattle.rules.proofs.Ids.{dropped_absent}
use Rattle.rules.proofs.Room.{length_keep}
use Rattle.rules.proofs.Records.{length_records, sized_records, capacity_room}
use Rattle.rules.proofs.Rates.{bucket_lt}
use Rattle.rules.proofs.Sound.{pending_id}
use Rattle.rules.proofs.Memory.{pending_table, pending_own}
use Rattle.ids.specs.Search.{find_in}
use Rattle.table.specs.Edit.{insert_at}
use Rattle.ids.specs.Search.{Found}
use Rattle.ids.proofs.Records.{record_end}
use Rattle.table.proofs.Records.{sized_insert}
use Rattle.table.proofs.Sound.{sound_told, sound_room}
use Rattle.table.proofs.Steps.{pending_put}
use Rattle.table.proofs.Edited.{edited}
use Rattle.by_id.proofs.ById.{gap_used, there, missing}

-- where a table is not full there is room for one more record
pub one_more : (size used : ℕ) (xs : List ℕ) → used < capacity size pending_most xs → used * size + size ≤ length xs
one_more size used xs h = le_trans (record_end size (capacity size pending_most xs) used h) (capacity_room size pending_most xs)

-- where as many records are left without i, i was not pending
all_left : (i : Id) (rs : List Pending) → length (without i rs) ≡ length rs → is_pending i rs ≡ false
unfolding is_pending any dropped keep
all_left i [] h = refl
all_left i (r ∷ rs) h = go (same r.id i) h (all_left i rs) (length_keep (λ r. not (same r.id i)) rs)
  where
    go : (t : Bool) → length (cond (not t) (r ∷ without i rs) (without i rs)) ≡ suc (length rs) → (length (without i rs) ≡ length rs → is_pending i rs ≡ false) → length (without i rs) ≤ length rs
        → t || is_pending i rs ≡ false
    go true h f l = absurd (omega arith)
    go false h f l = f (omega arith)

-- what either call is given
pub record Given : Type 0 where
  pub state : State
  pub table : List ℕ
  pub id : Id

module _ (k : Board) (law : Lawful k) (a : Given) where
  abbrev s : State
  s = a.state

  abbrev xs : List ℕ
  xs = a.table

  abbrev bs : List (List ℕ)
  bs = records k.table.size s.pending xs

  abbrev rs : List Pending
  rs = pending_records k s.pending xs

  many : length rs ≡ s.pending
  unfolding pending_records
  many = length-map bs k.table.read ∙ length_records k.table.size s.pending xs

  -- where the search ends
  abbrev pub Ends : Found → Type 0
  Ends o = find_in a.id (map id_of bs) ≡ o

  -- the state t and the table ys, which hold the records ls
  handed : (n : ℕ) (t : State) (ys : List ℕ) (ls : List Pending) → t ≡ record { last = s.last; pending = n; recent = s.recent } → (n ≡ length ls) × (ys ≡ lay_pending k ls xs)
      → outcome done t ys ≡ accepted_pending k s ls xs
  handed n t ys ls e w = ap₂ outcome_of e w.1 ∙ ap (λ (m : ℕ). outcome done (record { last = s.last; pending = m; recent = s.recent }) (lay_pending k ls xs)) w.0
    where
      outcome_of : State → List ℕ → Outcome (List ℕ)
      outcome_of u o = outcome done u o

  pub leave_damaged : sound_pending k s.pending xs ≡ false → outcome damaged s xs ≡ leave_call k s xs a.id
  unfolding leave_call
  leave_damaged p = sym (rw p)

  pub enter_damaged : (rate : FeeRate) (h : Height) → sound_pending k s.pending xs ≡ false → outcome damaged s xs ≡ enter_call k s xs a.id rate h
  unfolding enter_call
  enter_damaged rate h p = sym (rw p)

  module _ (p : sound_pending k s.pending xs ≡ true) where
    table_sound : sound_table k.table.size pending_most s.pending xs ≡ true
    table_sound = pending_table k s.pending xs p

    is_there : (n : ℕ) → Ends (Ok n) → is_pending a.id rs ≡ true
    is_there n f = sym (there k law a.id s.pending n xs table_sound f)

    is_missing : (n : ℕ) → Ends (Err n) → is_pending a.id rs ≡ false
    is_missing n f = sym (missing k law a.id s.pending n xs table_sound f)

    -- ---- leave

    -- m records are left, and ys holds them
    module _ (m : ℕ) (ys : List ℕ) (q : m ≡ length (without a.id rs)) (e : ys ≡ lay_pending k (without a.id rs) xs) where
      pub leave_absent : T (are_bytes xs) → m ≡ s.pending → outcome absent s ys ≡ leave_call k s xs a.id
      unfolding leave_call is_pending
      leave_absent b f =
          let no : is_pending a.id rs ≡ false = all_left a.id rs (sym q ∙ f ∙ sym many) in
          ap (outcome absent s) (e ∙ ap (λ (l : List Pending). lay_pending k l xs) (dropped_absent (λ r. r.id) a.id rs no) ∙ pending_own k law s.pending xs p b)
          ∙ sym (rw (p, no))

      pub leave_done : (m ≡ s.pending → ⊥) → (t : State) → t ≡ record { last = s.last; pending = m; recent = s.recent } → outcome done t ys ≡ leave_call k s xs a.id
      unfolding leave_call is_pending
      leave_done f t g = handed m t ys (without a.id rs) g (q, e) ∙ sym (rw (p, yes (is_pending a.id rs) refl))
        where
          yes : (o : Bool) → is_pending a.id rs ≡ o → is_pending a.id rs ≡ true
          yes true h = h
          yes false h = absurd (f (q ∙ ap length (dropped_absent (λ r. r.id) a.id rs h) ∙ many))

    -- ---- enter

    pub enter_low : (rate : FeeRate) (h : Height) → ltb rate.0 floor ≡ true → outcome below_floor s xs ≡ enter_call k s xs a.id rate h
    unfolding enter_call
    enter_low rate h e = sym (rw (p, e))

    module _ (rate : FeeRate) (h : Height) (high : ltb rate.0 floor ≡ false) where
      pub enter_there : (n : ℕ) → Ends (Ok n) → outcome already_pending s xs ≡ enter_call k s xs a.id rate h
      unfolding enter_call
      enter_there n f = sym (rw (p, high, is_there n f))

      module _ (n : ℕ) (f : Ends (Err n)) where
        pub enter_full : s.pending ≡ pending_capacity k xs → outcome pending_full s xs ≡ enter_call k s xs a.id rate h
        unfolding enter_call
        enter_full e = sym (rw (p, high, is_missing n f, eq-eqb _ _ e))

        abbrev new : ℕ → Pending
        new b = record { id = a.id; bucket = b; entry = h.0; through = 0 }

        module _ (room : s.pending < pending_capacity k xs) where
          admitted : admit a.id rate.0 h.0 rs ≡ placed (λ r. r.id) (new (bucket_index rate.0)) rs
          unfolding admit pending_records
          admitted = rw (is_missing n f, lt-leb pending_most (length (map k.table.read bs)) (rw (length-map, length_records) (omega arith)))

          module _ (ys : List ℕ) (t : T (are_bytes ys)) (l : length a.id ≡ 32) (small : h.0 < 256 ^ 4) (b : ℕ) (q : b ≡ bucket_index rate.0)
              (e : ys ≡ laid k.table.size (s.pending + 1) (insert_at n (k.table.write (new b)) bs) xs) where
            -- the record is put in where its id belongs
            entered : (s.pending + 1 ≡ length (placed (λ r. r.id) (new b) rs)) × (ys ≡ lay_pending k (placed (λ r. r.id) (new b) rs) xs)
            unfolding pending_records lay_pending insert_at
            entered =
                let g = sound_told k.table.size pending_most s.pending xs table_sound in
                let fine : PendingFits (new b) = record { id = l; bucket = rw q (lt_of_lt_of_le (bucket_lt rate.0) (lit≤ tt)); entry = small; through = lit< tt } in
                let many : length bs ≡ s.pending = length_records k.table.size s.pending xs in
                let m : n ≤ s.pending = gap_used k.table.size s.pending n xs a.id f in
                let more : length (insert_at n (k.table.write (new b)) bs) ≡ s.pending + 1 = simp (length-append, length-take, length-drop) (omega arith) in
                let seen : map k.table.read (insert_at n (k.table.write (new b)) bs) ≡ placed (λ r. r.id) (new b) (map k.table.read bs) =
                pending_put k.table.read law.named a.id n bs g.rise (k.table.write (new b)) (pending_id k law (new b) fine) f ∙ ap (λ (r : Pending). placed (λ r. r.id) r (map k.table.read bs)) (law.kept.back (new b) fine) in (
                  sym (ap length (sym seen) ∙ length-map (insert_at n (k.table.write (new b)) bs) k.table.read ∙ more),
                  edited law.kept pending_most s.pending (s.pending + 1) (insert_at n (k.table.write (new b)) bs) _ xs ys table_sound t (omega arith) (omega arith) (omega arith)
                      (sized_insert k.table.size n (k.table.write (new b)) bs (law.kept.sized (new b) fine) (sized_records k.table.size s.pending xs (sound_room k.table.size pending_most s.pending xs g))) seen e,
                )

            pub enter_done : (u : State) → u ≡ record { last = s.last; pending = s.pending + 1; recent = s.recent } → outcome done u ys ≡ enter_call k s xs a.id rate h
            unfolding enter_call
            enter_done u g =
                handed (s.pending + 1) u ys (placed (λ r. r.id) (new b) rs) g entered
                ∙ sym (rw (p, high, is_missing n f, ne_eqb s.pending (capacity k.table.size pending_most xs) (λ o. omega arith), admitted, q))
