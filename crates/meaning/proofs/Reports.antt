-- What an accepted block above the last one reports is the resolved tallies of its heights: height by height, each skipped one and its own. Assumes nothing.
use mathlib.Core.Path.{◌≡◌, ap, ◌∙◌}
use mathlib.Core.Bool.{Bool, cond}
use mathlib.Core.List.{List, []}
use Prim.Native.Nat.{ℕ, zero, suc, ◌+◌, ◌-◌, ◌<◌}
use native.Mathlib.Omega.{arith}
use borrow.Author.Tests.{lt-ltb}
use lib.Dec.{eqb}
use Rattle.kinds.specs.declared.Height.{Height}
use Rattle.kinds.specs.Last.{Last}
use Rattle.std.specs.Prelude.{None, Some}
use Rattle.kinds.specs.Answers.{Answer}
use Rattle.rules.specs.Ids.{Id}
use Rattle.rules.specs.Ladder.{buckets}
use Rattle.rules.specs.Counts.{columns}
use Rattle.rules.specs.Board.{Board, Lawful}
use Rattle.rules.specs.Estimator.{Estimator, advances, advance_heights, skip_heights, confirm_all}
use Rattle.rules.specs.Report.{sum, adds_all, adds_expire, adds_heights, adds_skip, adds_finish, adds}
use Rattle.rules.specs.Memory.{Lent}
use Rattle.rules.specs.Calls.{ids_of, block_call, block_report}
use Rattle.rules.proofs.Sums.{sum_add, sum_const, sum_ext}
use Rattle.meaning.specs.Runs.{block, Log, begin, ◌▸◌, last_of, Above, Rising, empties, skipped, singly, Held, calls}
use Rattle.meaning.specs.Fates.{admissions, in_resolved, tally}
use Rattle.meaning.specs.Answered.{run, total}
use Rattle.meaning.specs.Report.{tallies, heights_of, Reported, ReportPromise}
use Rattle.meaning.proofs.Living.{Under}
use Rattle.meaning.proofs.Table.{singles, Climbs, Admitted}
use Rattle.meaning.proofs.Counts.{left_by}
use Rattle.meaning.proofs.Tallies.{same_tally}
use Rattle.meaning.proofs.Once.{total_below}
use Rattle.meaning.proofs.Singly.{under_empties, climbs_singly, last_singles, last_singly, skip_empties, run_singly, admitted_singly}
use Rattle.meaning.proofs.Leading.{Comes, seen, comes}
use Rattle.meaning.proofs.Bound.{bound, one_call}
use Rattle.meaning.proofs.Height.{height_adds}

-- ---- sums over all cells

abbrev cells : (ℕ → ℕ → ℕ) → ℕ
cells f = sum columns (λ c. sum buckets (f c))

cells_ext : (f g : ℕ → ℕ → ℕ) → ((c b : ℕ) → f c b ≡ g c b) → cells f ≡ cells g
cells_ext f g h = sum_ext columns (λ c. sum buckets (f c)) (λ c. sum buckets (g c)) (λ c. sum_ext buckets (f c) (g c) (h c))

cells_add : (f g : ℕ → ℕ → ℕ) → cells (λ c b. f c b + g c b) ≡ cells f + cells g
cells_add f g =
    sum_ext columns (λ c. sum buckets (λ b. f c b + g c b)) (λ c. sum buckets (f c) + sum buckets (g c)) (λ c. sum_add buckets (f c) (g c))
    ∙ sum_add columns (λ c. sum buckets (f c)) (λ c. sum buckets (g c))

cells_none : cells (λ c b. 0) ≡ 0
cells_none = sum_ext columns (λ c. sum buckets (λ b. 0)) (λ c. 0) (λ c. omega (arith, sum_const buckets 0)) ∙ omega (arith, sum_const columns 0)

module _ (k : Board) (pos : 0 < k.width) where
  -- ---- height by height

  -- the resolved tally of a column and a bucket that a log makes
  abbrev resolved : Log → ℕ → ℕ → ℕ → ℕ
  resolved l c b = tally in_resolved k (admissions l) b (suc c)

  -- one height more: what it adds, and the tallies of those before it
  one_height : (l m : Log) (ids : List Id) (h : ℕ) → Climbs (l ▸ block ids h) → Admitted (left_by k) l → Under h m
      → adds_all k h ids (singles k l) + adds_expire k h (confirm_all k h ids (singles k l)).pending + tallies k l m ≡ tallies k (l ▸ block ids h) (m ▸ block ids h)
  unfolding tallies total
  one_height l m ids h u f v =
      let n : Log = l ▸ block ids h in
      omega (
        arith,
        height_adds k pos l ids h u f,
        cells_add (λ c b. resolved n c b h) (λ c b. total (resolved n c b) m),
        cells_ext (λ c b. total (resolved n c b) m) (λ c b. total (resolved l c b) m)
            (λ c b. total_below in_resolved k b (suc c) _ _ h m v (λ g q. same_tally in_resolved k b (suc c) l (block ids h) g (λ z. omega arith))),
      )

  -- the n heights after g
  skip_tallies : (g n : ℕ) (l : Log) → Climbs (empties g n l) → Admitted (left_by k) (empties g n l) → adds_heights k g n (singles k l) ≡ tallies k (empties g n l) (empties g n begin)
  unfolding adds_heights adds_all confirm_all empties tallies total
  skip_tallies g zero l u f = omega (arith, cells_none)
  skip_tallies g (suc n) l u f = omega (
    arith,
    skip_tallies g n l u.0 f,
    ap (λ (s : Estimator). adds_expire k (g + suc n) s.pending) (skip_empties k g n l),
    one_height (empties g n l) (empties g n begin) [] (g + suc n) u f (under_empties g n begin (g + suc n) (omega arith) tt),
  )

  block_tallies : (p : Last) (ids : List Id) (B : ℕ) (l : Log) → Above p B → Climbs (skipped p B l ▸ block ids B) → Admitted (left_by k) (skipped p B l)
      → adds_skip k p B (singles k l) + adds_all k B ids (skip_heights k p B (singles k l)) + adds_finish k (advances p B) B (confirm_all k B ids (skip_heights k p B (singles k l)))
      ≡ tallies k (skipped p B l ▸ block ids B) (heights_of p ids B)
  unfolding heights_of skip_heights advances adds_finish adds_skip skipped Above tallies total
  block_tallies None ids B l a u f = omega (arith, cells_none, one_height l begin ids B u f tt)
  block_tallies (Some g) ids B l a u f =
      let n : ℕ = B - suc g.0 in
      omega (
        arith,
        skip_tallies g.0 n l u.0 f,
        ap (adds_all k B ids) (skip_empties k g.0 n l),
        ap (λ (s : Estimator). adds_expire k B (confirm_all k B ids s).pending) (skip_empties k g.0 n l),
        ap (λ (y : Bool). adds_finish k y B (confirm_all k B ids (advance_heights k g.0 n (singles k l)))) (lt-ltb g.0 B a),
        one_height (empties g.0 n l) (empties g.0 n begin) ids B u f (under_empties g.0 n begin B (omega arith) tt),
      )

  -- ---- a call

  call_tallies : (l : Log) → Rising l → Admitted (λ g. (run k g).pending) l → (ids : List Id) (B : ℕ) → Above (last_of l) B → adds k ids B (run k l) ≡ tallies k (singly (l ▸ block ids B)) (heights_of (last_of l) ids B)
  unfolding adds singly Rising
  call_tallies l r f ids B h =
      ap (adds k ids B) (run_singly k l r)
      ∙ ap (λ (p : Last). adds_skip k p B (singles k (singly l)) + adds_all k B ids (skip_heights k p B (singles k (singly l))) + adds_finish k (advances p B) B (confirm_all k B ids (skip_heights k p B (singles k (singly l)))))
      (last_singles k (singly l) ∙ last_singly l)
      ∙ block_tallies (last_of l) ids B (singly l) h (climbs_singly (l ▸ block ids B) (r, h)) (admitted_singly k (l ▸ block ids B) (r, h) f)

-- ---- a run

pub reported : (k : Board) → Lawful k → (m : Lent) (x : Held) → Comes k m x → Rising x.log → Reported k x
unfolding block_report
reported k law m x c r = record {
  by_steps = steps;
  by_tallies = λ ids h a u.
      steps ids h
      ∙ ap (λ (y : Answer). cond (eqb y.number 0) (adds k (ids_of ids) h.0 (run k x.log)) 0) a
      ∙ call_tallies k law.wide x.log r c.live.admitted (ids_of ids) h.0 u;
  adds_up = λ d. one_call k law m d x c;
  bounded = bound k x.log;
}
  where
    steps : (ids : List ℕ) (h : Height) → block_report k x.state x.memory ids h ≡ cond (eqb (block_call k x.state x.memory ids h).answer.number 0) (adds k (ids_of ids) h.0 (run k x.log)) 0
    steps ids h = ap (λ (e : Estimator). cond (eqb (block_call k x.state x.memory ids h).answer.number 0) (adds k (ids_of ids) h.0 e) 0) (seen k law m x c)

pub report_promise : (k : Board) → Lawful k → ReportPromise k
unfolding ReportPromise
report_promise k law m e cs t r = reported k law m (calls k m cs) (comes k law m e cs t) r
