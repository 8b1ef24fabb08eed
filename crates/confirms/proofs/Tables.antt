-- The tables once the listed records are merged and compacted: what the code leaves in bytes is what the rules' records lay. Assumes nothing.
use mathlib.Core.Path.{◌≡◌, refl, sym, ap, ap₂, subst, ◌∙◌}
use mathlib.Core.Bool.{Bool, true, false, cond}
use mathlib.Core.List.{List, [], ◌∷◌, map}
use Prim.Native.Nat.{ℕ, ◌+◌, ◌^◌, ◌≤◌, ◌<◌}
use native.Mathlib.Omega.{arith}
use lib.ListN.{length, length-map}
use lib.Seq.{take_at}
use Rattle.kinds.specs.declared.State.{State}
use Rattle.rules.specs.Lists.{insert}
use Rattle.rules.specs.Ids.{Id, below}
use Rattle.rules.specs.Bytes.{bytes}
use Rattle.rules.specs.Records.{records, id_of, laid}
use Rattle.rules.specs.Board.{Board, Lawful, Pending, Confirmed, pending_most, confirmed_size, confirmed_most, confirmed_bytes}
use Rattle.rules.specs.Memory.{Lent, pending_records, confirmed_records, confirmed_capacity, pending_capacity, lay_pending, lay_confirmed, view, lay}
use Rattle.rules.proofs.All.{All, none, more, all_insert, all_map}
use Rattle.rules.proofs.Records.{laid_records}
use Rattle.rules.proofs.Memory.{ConfirmedFits, all_sized, confirmed_kept, pending_length}
use Rattle.rules.proofs.Room.{length_insert}
use Rattle.rules.proofs.Sound.{well_fits}
use Rattle.rules.proofs.Well.{WellPending}
use Rattle.table.proofs.Sound.{sound_told, laid_up}
use Rattle.batch.specs.Batch.{at_height, raised, merged}
use Rattle.batch.specs.Picked.{picked}
use Rattle.batch.proofs.Picked.{map_picked, all_picked}
use Rattle.ready.specs.Ready.{Ready}
use Rattle.ready.proofs.Facts.{pending_sound}
use Rattle.merges.specs.New.{at_height as new-record}
use Rattle.settles.proofs.Raised.{raised_length, raised_fits, raised_sound, raised_capacity, raised_over}

-- ---- a merge in bytes

-- a confirmed record has its id first
id_first : (c : Confirmed) → ConfirmedFits c → id_of (confirmed_bytes c) ≡ c.id
unfolding confirmed_bytes
id_first c f = take_at c.id (bytes 4 c.height) 32 f.id

into_bytes : (x : Confirmed) {cs : List Confirmed} → ConfirmedFits x → All ConfirmedFits cs
    → insert (λ a b. below (id_of a) (id_of b)) (confirmed_bytes x) (map confirmed_bytes cs) ≡ map confirmed_bytes (insert (λ a b. below a.id b.id) x cs)
unfolding insert
into_bytes x h none = refl
into_bytes x h (more {a = c} {l = cs} g gs) = rw (id_first x h, id_first c g) (go (below x.id c.id) (into_bytes x h gs))
  where
    go : (t : Bool) → insert (λ a b. below (id_of a) (id_of b)) (confirmed_bytes x) (map confirmed_bytes cs) ≡ map confirmed_bytes (insert (λ a b. below a.id b.id) x cs)
        → cond t (confirmed_bytes x ∷ confirmed_bytes c ∷ map confirmed_bytes cs) (confirmed_bytes c ∷ insert (λ a b. below (id_of a) (id_of b)) (confirmed_bytes x) (map confirmed_bytes cs))
        ≡ map confirmed_bytes (cond t (x ∷ c ∷ cs) (c ∷ insert (λ a b. below a.id b.id) x cs))
    go true e = refl
    go false e = ap (λ (l : List (List ℕ)). confirmed_bytes c ∷ l) e

all_merged : {ns cs : List Confirmed} → All ConfirmedFits ns → All ConfirmedFits cs → All ConfirmedFits (merged (λ c. c.id) ns cs)
unfolding merged
all_merged none g = g
all_merged (more {a = n} h hs) g = all_insert _ n h (all_merged hs g)

merged_bytes : {ns cs : List Confirmed} → All ConfirmedFits ns → All ConfirmedFits cs → merged id_of (map confirmed_bytes ns) (map confirmed_bytes cs) ≡ map confirmed_bytes (merged (λ c. c.id) ns cs)
unfolding merged
merged_bytes none g = refl
merged_bytes (more {a = n} {l = ns} h hs) g =
    ap (insert (λ a b. below (id_of a) (id_of b)) (confirmed_bytes n)) (merged_bytes hs g) ∙ into_bytes n h (all_merged hs g)

length_merged : (ns cs : List Confirmed) → length (merged (λ c. c.id) ns cs) ≡ length ns + length cs
unfolding merged
length_merged [] cs = omega arith
length_merged (n ∷ ns) cs = length_insert _ n (merged (λ c. c.id) ns cs) ∙ omega (arith, length_merged ns cs)

-- ---- over memory that is ready

module _ (k : Board) (law : Lawful k) (s : State) (l : Lent) (ready : Ready k s l) where
  abbrev rs : List Pending
  rs = pending_records k s.pending l.pending

  -- the bytes of the pending records are those of their records
  own_records : records k.table.size s.pending l.pending ≡ map k.table.write rs
  unfolding view lay lay_pending
  own_records =
      let xs : List ℕ = lay_pending k rs l.pending in
      let n : length (map k.table.write rs) ≡ s.pending = length-map rs k.table.write ∙ pending_length k s.pending l.pending in
      ap₂ (λ (m : ℕ) (ys : List ℕ). records k.table.size m ys) (sym n) (sym (ap (λ (m : Lent). m.pending) ready.own))
      ∙ laid_records k.table.size (pending_capacity k l.pending) (map k.table.write rs) l.pending (all_sized law.kept (well_fits ready.well).pending)

  -- the pending table, compacted
  pub compacted : (n left : ℕ) (ms ps : List ℕ) (qs : List Pending) → n ≡ k.table.size → picked 0 ms rs ≡ qs → length qs ≤ s.pending
      → left ≡ length (picked 0 ms (records n s.pending l.pending)) → ps ≡ laid n s.pending (picked 0 ms (records n s.pending l.pending)) l.pending
      → (left ≡ length qs) × (ps ≡ lay_pending k qs l.pending)
  unfolding lay_pending
  compacted n left ms ps qs size q fewer many is =
      let bs : List (List ℕ) = map k.table.write qs in
      let e : picked 0 ms (records n s.pending l.pending) ≡ bs =
      ap (λ (z : ℕ). picked 0 ms (records z s.pending l.pending)) size ∙ ap (picked 0 ms) own_records ∙ sym (map_picked 0 k.table.write ms rs) ∙ ap (map k.table.write) q in
      let g = sound_told k.table.size pending_most s.pending l.pending (pending_sound k law s l ready) in
      let few : length bs ≤ s.pending = omega (arith, length-map qs k.table.write) in (
        many ∙ ap length e ∙ length-map qs k.table.write,
        is ∙ ap₂ (λ (z : ℕ) (cs : List (List ℕ)). laid z s.pending cs l.pending) size e ∙ laid_up k.table.size pending_most s.pending s.pending bs l.pending g few (omega arith) g.fit,
      )

  -- the confirmed table, where those of `gone` have got the height B, and those that the mark 1 picks go in
  module _ (B : ℕ) (small : B < 256 ^ 4) (gone : List Pending) (a : List ℕ) (e : a ≡ lay_confirmed (raised B gone (confirmed_records s.recent l.recent)) l.recent) where
    abbrev old : List Confirmed
    old = raised B gone (confirmed_records s.recent l.recent)

    old_records : records confirmed_size s.recent a ≡ map confirmed_bytes old
    unfolding lay_confirmed
    old_records =
        let n : length (map confirmed_bytes old) ≡ s.recent = length-map old confirmed_bytes ∙ raised_length k law B small s l ready gone in
        ap₂ (λ (m : ℕ) (ys : List ℕ). records confirmed_size m ys) (sym n) e
        ∙ laid_records confirmed_size (confirmed_capacity l.recent) (map confirmed_bytes old) l.recent (all_sized confirmed_kept (raised_fits k law B small s l ready gone))

    new_bytes : (bs : List (List ℕ)) → map (new-record B) bs ≡ map confirmed_bytes (map (at_height B) (map k.table.read bs))
    new_bytes [] = refl
    new_bytes (b ∷ bs) = ap₂ (λ (i : Id) (rest : List (List ℕ)). confirmed_bytes (record { id = i; height = B }) ∷ rest) (sym (law.named b)) (new_bytes bs)

    module _ (n fresh : ℕ) (ms : List ℕ) (new : List Pending) (size : n ≡ k.table.size) (picks : picked 1 ms rs ≡ new) (many : fresh ≡ length (picked 1 ms (records n s.pending l.pending))) where
      abbrev all : List Confirmed
      all = merged (λ c. c.id) (map (at_height B) new) old

      new_records : picked 1 ms (map (new-record B) (records n s.pending l.pending)) ≡ map confirmed_bytes (map (at_height B) new)
      unfolding pending_records
      new_records =
          ap (λ (z : ℕ). picked 1 ms (map (new-record B) (records z s.pending l.pending))) size
          ∙ ap (picked 1 ms) (new_bytes (records k.table.size s.pending l.pending))
          ∙ sym (map_picked 1 confirmed_bytes ms (map (at_height B) rs))
          ∙ ap (map confirmed_bytes) (sym (map_picked 1 (at_height B) ms rs) ∙ ap (map (at_height B)) picks)

      -- there are as many
      pub as_many : s.recent + fresh ≡ length all
      unfolding pending_records
      as_many =
          let p : length (picked 1 ms (records n s.pending l.pending)) ≡ length new =
          ap (λ (z : ℕ). length (picked 1 ms (records z s.pending l.pending))) size
          ∙ sym (length-map (picked 1 ms (records k.table.size s.pending l.pending)) k.table.read)
          ∙ ap length (map_picked 1 k.table.read ms (records k.table.size s.pending l.pending) ∙ picks) in
          omega (arith, length_merged (map (at_height B) new) old, length-map new (at_height B), raised_length k law B small s l ready gone)

      new_fits : All ConfirmedFits (map (at_height B) new)
      unfolding view
      new_fits = all_map (at_height B) (λ r w. record { id = w.id; height = small }) (subst (All WellPending) picks (all_picked 1 ms ready.well.pending))

      pub merged_told : length all ≤ confirmed_capacity l.recent → (t : List ℕ)
          → t ≡ laid confirmed_size (s.recent + fresh) (merged id_of (picked 1 ms (map (new-record B) (records n s.pending l.pending))) (records confirmed_size s.recent a)) a
          → t ≡ lay_confirmed all l.recent
      unfolding lay_confirmed
      merged_told room t is =
          let bs : List (List ℕ) = map confirmed_bytes all in
          let q : merged id_of (picked 1 ms (map (new-record B) (records n s.pending l.pending))) (records confirmed_size s.recent a) ≡ bs =
          ap₂ (merged id_of) new_records old_records ∙ merged_bytes new_fits (raised_fits k law B small s l ready gone) in
          let g = sound_told confirmed_size confirmed_most s.recent a (raised_sound k law B small s l ready gone a e) in
          is ∙ ap (λ (cs : List (List ℕ)). laid confirmed_size (s.recent + fresh) cs a) q
          ∙ laid_up confirmed_size confirmed_most s.recent (s.recent + fresh) bs a g (omega (arith, as_many, length-map all confirmed_bytes)) (omega arith) (omega (arith, as_many, raised_capacity k law B small s l ready gone a e))
          ∙ raised_over k law B small s l ready gone a e all
