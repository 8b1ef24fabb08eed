-- The rules' steps keep all counts sound, whatever sound counts they are given: each place changes by one more or by the decay. Assumes nothing.
use mathlib.Core.Path.{◌≡◌}
use mathlib.Core.Bool.{Bool, true, false, ◌&&◌, cond}
use mathlib.Core.List.{List, [], ◌∷◌}
use Prim.Native.Nat.{ℕ, zero, suc, ◌/◌, ◌%◌, ◌<◌}
use native.Mathlib.Omega.{arith}
use lib.Dec.{T, leb, ltb, eqb}
use lib.ListN.{length, get_or, replicate}
use lib.Ieee.{Float, nan, binary64, fits, mul}
use Rattle.rules.specs.Lists.{every, places}
use Rattle.rules.specs.Counts.{Counts, nought, one_more, gain, apply_decay, sound_count}
use Rattle.rules.specs.Estimator.{outwaited, expire_targets}
use Rattle.rules.proofs.All.{All, none, more, all_map}
use Rattle.rules.proofs.Records.{and_left, and_right}
use Rattle.rules.proofs.Sound.{every_of}
use Rattle.floats.specs.Factor.{Factor}
use Rattle.floats.proofs.Count.{Counted, zero_counted, one_more_counted, decay_counted}
use Rattle.rules.specs.Board.{Board, Pending}

-- sound counts that are binary64 numbers, as those of a slice are
pub all_counted : (xs : Counts) → every sound_count xs ≡ true → ((i : ℕ) → i < length xs → T (fits binary64 (get_or xs i nan))) → All Counted xs
unfolding every
all_counted [] h f = none
all_counted (x ∷ xs) h f =
    more
    (record { count = and_left (sound_count x) (every sound_count xs) h; fit = f 0 (omega arith) })
    (all_counted xs (and_right (sound_count x) (every sound_count xs) h) (λ i k. f (suc i) (omega arith)))

pub all_sound : {xs : Counts} → All Counted xs → every sound_count xs ≡ true
all_sound c = every_of sound_count (λ x k. k.count) c

-- ---- a fresh start, and the steps

pub all_nought : (n : ℕ) → All Counted (replicate n nought)
all_nought zero = none
all_nought (suc n) = more (zero_counted false) (all_nought n)

all_places : (f : ℕ → Float → Float) → ((n : ℕ) (x : Float) → Counted x → Counted (f n x)) → (n : ℕ) {xs : Counts} → All Counted xs → All Counted (places f n xs)
unfolding places
all_places f g n none = none
all_places f g n (more {a} c cs) = more (g n a c) (all_places f g (suc n) cs)

pub all_gain : (b : ℕ) (gains : ℕ → Bool) {xs : Counts} → All Counted xs → All Counted (gain b gains xs)
unfolding gain
all_gain b gains c = all_places _ (λ n x k. go (eqb (n / 25) b && gains (suc (n % 25))) k) 0 c
  where
    go : (t : Bool) {x : Float} → Counted x → Counted (cond t (one_more x) x)
    go true k = one_more_counted k
    go false k = k

pub all_decay : {factor : Float} → Factor factor → {xs : Counts} → All Counted xs → All Counted (apply_decay factor xs)
unfolding apply_decay
all_decay {factor} q c = all_map (λ x. mul binary64 x factor) (λ x k. decay_counted q k) c

pub all_expire : (k : Board) (h : ℕ) (rs : List Pending) {xs : Counts} → All Counted xs → All Counted (expire_targets k h rs xs)
unfolding expire_targets
all_expire k h [] c = c
all_expire k h (r ∷ rs) c = all_expire k h rs (all_gain r.bucket (λ j. ltb r.through j && leb j (outwaited k h r)) c)
