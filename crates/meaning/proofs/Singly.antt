-- From the estimator of document 01 over a log to the one over the log with each skipped height put in: a block at B is the heights between, one
-- by one, and then its own. Assumes nothing.
use mathlib.Core.Path.{◌≡◌, refl, ap, ◌∙◌, subst}
use mathlib.Core.Bool.{Bool}
use mathlib.Core.List.{List}
use Prim.Native.Nat.{ℕ, zero, suc, ◌+◌, ◌-◌, ◌≤◌, ◌<◌}
use native.Mathlib.Omega.{arith}
use lib.Dec.{ltb, lt→ltb}
use Rattle.kinds.specs.Last.{Last}
use Rattle.std.specs.Prelude.{None, Some}
use Rattle.rules.specs.Ids.{Id}
use Rattle.rules.specs.Board.{Board, pending_most}
use Rattle.rules.specs.Estimator.{Estimator, fresh, tx_entered, tx_left, advance_height, advances, advance_heights, skip_heights, confirm_all, finish_block, block_connected}
use Rattle.meaning.specs.Runs.{arrival, removal, block, Log, begin, ◌▸◌, last_of, Above, Rising, empties, skipped, singly}
use Rattle.meaning.specs.Answered.{run}
use Rattle.meaning.proofs.Counting.{is_true}
use Rattle.meaning.proofs.Living.{Under}
use Rattle.rules.proofs.Placing.{Free}
use Rattle.meaning.proofs.Table.{Admitted, singles, Climbs}
use Rattle.meaning.proofs.Counts.{left_by}

-- ---- the log with each skipped height put in climbs

pub under_empties : (g n : ℕ) (l : Log) (h : ℕ) → g + n < h → Under h l → Under h (empties g n l)
unfolding empties
under_empties g zero l h q u = u
under_empties g (suc n) l h q u = (q, under_empties g n l h (omega arith) u)

climbs_empties : (g n : ℕ) (l : Log) → Climbs l → ((h : ℕ) → g < h → Under h l) → Climbs (empties g n l)
unfolding empties
climbs_empties g zero l m f = m
climbs_empties g (suc n) l m f = (climbs_empties g n l m f, under_empties g n l (g + suc n) (omega arith) (f (g + suc n) (omega arith)))

under_skipped : (p : Last) (B : ℕ) (l : Log) → ((h : ℕ) → Above p h → Under h l) → Above p B → (h : ℕ) → B ≤ h → Under h (skipped p B l)
unfolding Above skipped
under_skipped None B l f a h q = f h tt
under_skipped (Some g) B l f a h q = under_empties g.0 _ l h (omega arith) (f h (omega arith))

climbs_skipped : (p : Last) (B : ℕ) (l : Log) → Climbs l → ((h : ℕ) → Above p h → Under h l) → Climbs (skipped p B l)
unfolding skipped Above
climbs_skipped None B l m f = m
climbs_skipped (Some g) B l m f = climbs_empties g.0 _ l m f

under_singly : (l : Log) → Rising l → (h : ℕ) → Above (last_of l) h → Under h (singly l)
unfolding singly Rising last_of Above
under_singly begin r h a = tt
under_singly (l ▸ arrival i rate e) r h a = under_singly l r h a
under_singly (l ▸ removal i) r h a = under_singly l r h a
under_singly (l ▸ block ids B) r h a = (a, under_skipped (last_of l) B (singly l) (under_singly l r.0) r.1 h (omega arith))

pub climbs_singly : (l : Log) → Rising l → Climbs (singly l)
unfolding singly Rising
climbs_singly begin r = tt
climbs_singly (l ▸ arrival i rate e) r = climbs_singly l r
climbs_singly (l ▸ removal i) r = climbs_singly l r
climbs_singly (l ▸ block ids B) r = (
  climbs_skipped (last_of l) B (singly l) (climbs_singly l r.0) (under_singly l r.0),
  under_skipped (last_of l) B (singly l) (under_singly l r.0) r.1 B (omega arith),
)

-- ---- the estimator works through it

pub last_singles : (k : Board) (l : Log) → (singles k l).last ≡ last_of l
unfolding last_of fresh tx_entered tx_left advance_height
last_singles k begin = refl
last_singles k (l ▸ arrival i rate e) = last_singles k l
last_singles k (l ▸ removal i) = last_singles k l
last_singles k (l ▸ block ids h) = refl

pub last_singly : (l : Log) → last_of (singly l) ≡ last_of l
unfolding singly last_of
last_singly begin = refl
last_singly (l ▸ arrival i rate e) = last_singly l
last_singly (l ▸ removal i) = last_singly l
last_singly (l ▸ block ids h) = refl

pub skip_empties : (k : Board) (g n : ℕ) (l : Log) → advance_heights k g n (singles k l) ≡ singles k (empties g n l)
unfolding empties advance_heights confirm_all
skip_empties k g zero l = refl
skip_empties k g (suc n) l = ap (advance_height k (g + suc n)) (skip_empties k g n l)

block_singles : (k : Board) (p : Last) (ids : List Id) (B : ℕ) (l : Log) → Above p B
    → finish_block k (advances p B) B (confirm_all k B ids (skip_heights k p B (singles k l))) ≡ advance_height k B (confirm_all k B ids (singles k (skipped p B l)))
unfolding advance_height finish_block advances skipped skip_heights Above
block_singles k None ids B l a = refl
block_singles k (Some g) ids B l a =
    ap (λ (y : Bool). finish_block k y B (confirm_all k B ids (advance_heights k g.0 (B - suc g.0) (singles k l)))) (is_true (ltb g.0 B) (lt→ltb g.0 B a))
    ∙ ap (λ (s : Estimator). advance_height k B (confirm_all k B ids s)) (skip_empties k g.0 (B - suc g.0) l)

pub run_singly : (k : Board) (l : Log) → Rising l → run k l ≡ singles k (singly l)
unfolding singly run Rising block_connected
run_singly k begin r = refl
run_singly k (l ▸ arrival i rate e) r = ap (tx_entered i rate e) (run_singly k l r)
run_singly k (l ▸ removal i) r = ap (tx_left i) (run_singly k l r)
run_singly k (l ▸ block ids B) r =
    ap (block_connected k ids B) (run_singly k l r.0)
    ∙ ap (λ (p : Last). finish_block k (advances p B) B (confirm_all k B ids (skip_heights k p B (singles k (singly l))))) (last_singles k (singly l) ∙ last_singly l)
    ∙ block_singles k (last_of l) ids B (singly l) r.1

-- ---- and each arrival is as free to come

admitted_empties : (k : Board) (g n : ℕ) (l : Log) → Admitted (left_by k) l → Admitted (left_by k) (empties g n l)
unfolding empties
admitted_empties k g zero l f = f
admitted_empties k g (suc n) l f = admitted_empties k g n l f

admitted_skipped : (k : Board) (p : Last) (B : ℕ) (l : Log) → Admitted (left_by k) l → Admitted (left_by k) (skipped p B l)
unfolding skipped
admitted_skipped k None B l f = f
admitted_skipped k (Some g) B l f = admitted_empties k g.0 _ l f

pub admitted_singly : (k : Board) (l : Log) → Rising l → Admitted (λ g. (run k g).pending) l → Admitted (left_by k) (singly l)
unfolding singly Rising
admitted_singly k begin r f = tt
admitted_singly k (l ▸ arrival i rate e) r f = (admitted_singly k l r f.0, subst (λ (s : Estimator). Free pending_most i s.pending) (run_singly k l r) f.1)
admitted_singly k (l ▸ removal i) r f = admitted_singly k l r f
admitted_singly k (l ▸ block ids B) r f = admitted_skipped k (last_of l) B (singly l) (admitted_singly k l r.0 f)
