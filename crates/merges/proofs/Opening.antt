-- A record that goes in below a block that has moved up: what stands in the table then, in bytes and in records. Assumes nothing.
use mathlib.Core.Path.{◌≡◌, sym, ap, ap₂, ◌∙◌}
use mathlib.Core.List.{List, ◌∷◌, ◌++◌}
use Prim.Native.Nat.{ℕ, suc, ◌+◌, ◌-◌, ◌*◌, ◌≤◌}
use native.Mathlib.Omega.{arith}
use lib.ListN.{length, take, drop}
use lib.Seq.{slice, sets, take-take, take-append-le, drop_at, length-take-le}
use Rattle.rules.specs.Ids.{Id}
use Rattle.rules.specs.Bytes.{bytes}
use Rattle.rules.specs.Board.{confirmed_size, confirmed_bytes}
use Rattle.rules.specs.Records.{records, laid}
use Rattle.rules.proofs.Records.{Sized, length_records, sized_records, laid_records, laid_length, laid_beyond}
use Rattle.lists.proofs.Sets.{sets_append}
use Rattle.mem.specs.Moves.{shifted_up}
use Rattle.table.specs.Edit.{open_at}
use Rattle.table.proofs.Records.{take_records, sized_open}
use Rattle.table.proofs.Laid.{length_open, open_bytes}
use Rattle.merges.specs.New.{opened}

module _ (m i n k : ℕ) (a : List ℕ) where
  abbrev R : List (List ℕ)
  R = records confirmed_size m a

  -- the table once r has gone in
  pub record Opened (r b : List ℕ) : Type 0 where
    pub long : length b ≡ length a
    pub beyond : drop (m * confirmed_size) b ≡ drop (m * confirmed_size) a
    pub front : records confirmed_size i b ≡ records confirmed_size i a
    pub back : drop (i + k) (records confirmed_size m b) ≡ r ∷ (drop i (records confirmed_size n a) ++ drop (n + suc k) R)

  pub opened_is : (r b : List ℕ) → length r ≡ confirmed_size → i ≤ n → n + suc k ≤ m → m * confirmed_size ≤ length a → b ≡ opened i n (suc k) r a → Opened r b
  unfolding opened open_at
  opened_is r b l h g room e =
      let at : i + suc k - 1 ≡ i + k = omega arith in
      let is : b ≡ laid confirmed_size m (open_at i n k r R) a =
      e ∙ ap (λ (j : ℕ). sets (shifted_up (i * confirmed_size) (n * confirmed_size) (suc k * confirmed_size) a) (j * confirmed_size) r) at ∙ open_bytes confirmed_size m i n k a r l h g room in
      let s : Sized confirmed_size (open_at i n k r R) = sized_open confirmed_size i n k r R l (sized_records confirmed_size m a room) in
      let many : length (open_at i n k r R) ≡ m = length_open confirmed_size m i n k a r h g in
      let now : records confirmed_size m b ≡ open_at i n k r R =
      ap (records confirmed_size m) is ∙ ap (λ (j : ℕ). records confirmed_size j (laid confirmed_size m (open_at i n k r R) a)) (sym many) ∙ laid_records confirmed_size m (open_at i n k r R) a s in
      let head : length (take (i + k) R) ≡ i + k = length-take-le (i + k) R (omega (arith, length_records confirmed_size m a)) in
      record {
        long = ap length is ∙ laid_length confirmed_size m (open_at i n k r R) a s (omega arith) room;
        beyond = ap (drop (m * confirmed_size)) is ∙ laid_beyond confirmed_size m (open_at i n k r R) a s (omega arith) room;
        front = sym (take_records confirmed_size i m b (omega arith)) ∙ ap (take i) now
            ∙ take-append-le i (take (i + k) R) (r ∷ (slice i n R ++ drop (n + suc k) R)) (omega arith)
            ∙ take-take i (i + k) R (omega arith) ∙ take_records confirmed_size i m a (omega arith);
        back = ap (drop (i + k)) now ∙ drop_at (take (i + k) R) (r ∷ (slice i n R ++ drop (n + suc k) R)) (i + k) head
            ∙ ap (λ (rs : List (List ℕ)). r ∷ (drop i rs ++ drop (n + suc k) R)) (take_records confirmed_size n m a (omega arith));
      }

-- its two fields are put one after the other, where the block has moved up
pub put_in : (i n left B : ℕ) (id : Id) (a b c d : List ℕ) → length id ≡ 32 → b ≡ shifted_up (i * confirmed_size) (n * confirmed_size) (left * confirmed_size) a
    → c ≡ sets b ((i + left - 1) * confirmed_size) id → d ≡ sets c ((i + left - 1) * confirmed_size + 32) (bytes 4 B) → d ≡ opened i n left (confirmed_bytes (record { id = id; height = B })) a
unfolding opened confirmed_bytes
put_in i n left B id a b c d l p q r =
    let at : ℕ = (i + left - 1) * confirmed_size in
    r ∙ ap₂ (λ (z : List ℕ) (w : ℕ). sets z (at + w) (bytes 4 B)) (q ∙ ap (λ (z : List ℕ). sets z at id) p) (sym l) ∙ sym (sets_append _ at id (bytes 4 B))
