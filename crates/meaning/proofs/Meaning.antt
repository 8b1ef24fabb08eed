-- Demand 3 of the public calls: the memory that a run has come to holds the estimator of its log, whose counts and records are those of the log with
-- each skipped height put in. Assumes nothing.
use mathlib.Core.Path.{◌≡◌, ap, ◌∙◌}
use mathlib.Core.Bool.{◌&&◌}
use mathlib.Core.List.{◌++◌}
use Prim.Native.Nat.{ℕ, ◌+◌, ◌-◌, ◌*◌, ◌≤◌, ◌<◌}
use native.Mathlib.Omega.{arith}
use lib.Dec.{leb}
use lib.ListN.{length, get_or-append}
use Rattle.rules.specs.Lists.{count}
use Rattle.rules.specs.Ladder.{buckets}
use Rattle.rules.specs.Counts.{nought, columns, Counts, places_of_counts, cell}
use Rattle.rules.specs.Board.{Board, Lawful}
use Rattle.rules.specs.Estimator.{Estimator}
use Rattle.rules.specs.Memory.{Lent, pending_records, view, state_of, lay}
use Rattle.meaning.specs.Runs.{Log, Rising, singly, Held, calls}
use Rattle.meaning.specs.Fates.{admissions, Kind, in_resolved, in_confirmed, count_of, pends, Meant, Promise}
use Rattle.meaning.specs.Answered.{run, Restated, RestatePromise}
use Rattle.meaning.proofs.Table.{table}
use Rattle.meaning.proofs.Counts.{of, counts_are}
use Rattle.meaning.proofs.Once.{once}
use Rattle.meaning.proofs.Gone.{none_late}
use Rattle.meaning.proofs.Singly.{climbs_singly, last_singles, run_singly, admitted_singly}
use Rattle.meaning.proofs.Leading.{Comes, seen, comes}

-- what stands first in a list of counts
in_front : (ys zs : Counts) → length ys ≡ places_of_counts → (b c : ℕ) → b < buckets → c ≤ columns → cell (ys ++ zs) b c ≡ cell ys b c
in_front ys zs n b c h l = get_or-append ys zs nought (b * columns + (c - 1)) (omega arith)

module _ (k : Board) (law : Lawful k) (m : Lent) (x : Held) (c : Comes k m x) where
  -- the pending table
  pending_is : pending_records k x.state.pending x.memory.pending ≡ (run k x.log).pending
  unfolding pending_records view
  pending_is = ap (λ (e : Estimator). e.pending) (seen k law m x c)

  module _ (r : Rising x.log) where
    abbrev l : Log
    l = singly x.log

    count_is : (which : Kind) (b d : ℕ) → b < buckets → 1 ≤ d → d ≤ columns → cell (of which (run k x.log)) b d ≡ count_of which k l b d
    count_is which b d h low high =
        ap (λ (e : Estimator). cell (of which e) b d) (run_singly k x.log r)
        ∙ counts_are k law.wide b d h low high which l (climbs_singly x.log r) (admitted_singly k x.log r c.live.admitted)

    pub meant : Meant k l x
    unfolding lay state_of
    meant = record {
      confirmed_is = λ b d h low high.
          ap (λ (y : Held). cell y.memory.confirmed b d) c.is ∙ in_front (run k x.log).confirmed _ c.live.well.confirmed b d h high ∙ count_is in_confirmed b d h low high;
      resolved_is = λ b d h low high.
          ap (λ (y : Held). cell y.memory.resolved b d) c.is ∙ in_front (run k x.log).resolved _ c.live.well.resolved b d h high ∙ count_is in_resolved b d h low high;
      pending_are = λ p.
          ap (count (λ q. p q.id q.bucket q.entry)) pending_is
          ∙ ap (λ (e : Estimator). count (λ q. p q.id q.bucket q.entry) e.pending) (run_singly k x.log r)
          ∙ table k law.wide l (climbs_singly x.log r) (admitted_singly k x.log r c.live.admitted) (λ q. p q.id q.bucket q.entry);
      last_is = ap (λ (y : Held). y.state.last) c.is ∙ ap (λ (e : Estimator). e.last) (run_singly k x.log r) ∙ last_singles k l;
    }

    pub restated : Restated k l x
    restated = record {
      once = λ which b d low high. once which k b d l (climbs_singly x.log r);
      gone = λ g ids h q.
          meant.pending_are (λ i b e. leb (e + k.width * columns) h)
          ∙ ap (λ (n : Log). count (λ a. pends k a && leb (a.entry + k.width * columns) h) (admissions n)) q
          ∙ none_late k g ids h;
    }

pub restate_promise : (k : Board) → Lawful k → RestatePromise k
unfolding RestatePromise
restate_promise k law m e cs t r = restated k law m (calls k m cs) (comes k law m e cs t) r

pub promise : (k : Board) → Lawful k → Promise k
unfolding Promise
promise k law m e cs t r = meant k law m (calls k m cs) (comes k law m e cs t) r
