-- A life with most of what can happen in a run, computed: a wait of exactly t and one of t + 1, a gap, an id that is listed twice and comes again, one that is removed
-- half-way, two that come late, of which one is never confirmed and goes, and tables that grow and are cut. The promise is applied to it, so it says something: what
-- it promises of these counts is what the calls leave. Assumes nothing.
use Prim.Native.Nat.{ℕ, zero, suc, ◌≤◌, ◌<◌}
use mathlib.Core.Path.{◌≡◌, refl, sym, ap, ◌∙◌, subst}
use mathlib.Core.Bool.{Bool, true, false, ◌&&◌}
use mathlib.Core.List.{List, [], ◌∷◌, ◌++◌}
use lib.Dec.{T, lit<}
use lib.ListN.{replicate}
use lib.Ieee.{Float, nan, binary64, add}
use Rattle.kinds.specs.declared.Horizon.{Horizon}
use Rattle.std.specs.Prelude.{Some}
use Rattle.rules.specs.Ids.{same}
use Rattle.rules.specs.Ladder.{buckets}
use Rattle.rules.specs.Counts.{Counts, columns, nought, one, cell}
use Rattle.rules.specs.Bytes.{bytes}
use Rattle.rules.specs.Board.{Board, base}
use Rattle.rules.specs.Estimator.{fresh}
use Rattle.rules.specs.Memory.{Lent, state_of}
use Rattle.rules.proofs.Edge.{id, same_counts}
use Rattle.rules.proofs.Edges.{decayed}
use Rattle.format.specs.File.{version_1}
use Rattle.meaning.specs.Runs.{arrival, removal, block, Log, begin, ◌▸◌, Rising, last_of, Above, singly, Typed, leave}
use Rattle.meaning.specs.Fates.{Kind, in_resolved, in_confirmed, count_of}
use Rattle.meaning.proofs.Computed.{compute_runs, compute_logs}
use Rattle.lives.specs.Anew.{refitted}
use Rattle.lives.specs.Lives.{Ask, start, change, lend, Life, begun, next, lives, TypedAsk, TypedAsks, Fair, AllFair, RefitPromise, Lived, LifePromise}
use Rattle.lives.proofs.Lives.{lives_more, typed_more, fair_more}
use Rattle.lives.proofs.Boards.{refits, lives as promise}
use Rattle.witness.proofs.Dirty.{dirty, enters, connects}

-- ---- what is asked

-- a caller who lends dirty memory, with room for two records in each table, and has called nothing yet
abbrev before : Life
before = record { is_fresh = false; held = record { state = state_of fresh; memory = dirty; log = begin } }

-- the first id is listed twice, and comes again; for the third there is no place
abbrev first : List Ask
first =
    start
    ∷ change (enters 1 5000 100)
    ∷ change (enters 2 5000 100)
    ∷ change (connects (id 1 ++ id 1) 101)
    ∷ change (enters 1 5000 101)
    ∷ change (enters 3 1000 80)
    ∷ []

-- both tables of a life, with so many free bytes
abbrev free : ℕ → ℕ → Life → Ask
free a b y = lend (refitted base y.held.state y.held.memory a b)

-- with a place more it comes, and the second id goes
abbrev second : Life → List Ask
second y = free 44 72 y ∷ change (enters 3 1000 80) ∷ change (leave (id 2)) ∷ []

-- no place is free but one for a confirmed record; heights are skipped; the fourth comes late
abbrev third : Life → List Ask
third y = free 0 36 y ∷ change (connects (id 1) 104) ∷ change (enters 4 2000 102) ∷ change (connects (id 4) 105) ∷ []

-- a life goes on with asks that are made of what it has
unfoldable pub on : (Life → List Ask) → Life → Life
on asks y = lives version_1 base (asks y) y

abbrev full : Life
full = lives version_1 base first before

-- the third was refused
no_place : full.held.state.pending ≡ 2
unfolding compute_runs lives next begun
no_place = refl

-- where it leads
abbrev there : Life
there = on third (on second full)

-- what was answered 0
abbrev pub taken : Log
taken =
    begin
    ▸ arrival (id 1) 5000 100
    ▸ arrival (id 2) 5000 100
    ▸ block (id 1 ∷ id 1 ∷ []) 101
    ▸ arrival (id 1) 5000 101
    ▸ arrival (id 3) 1000 80
    ▸ removal (id 2)
    ▸ block (id 1 ∷ []) 104
    ▸ arrival (id 4) 2000 102
    ▸ block (id 4 ∷ []) 105

-- ---- what is stored in the end, told by hand

-- x, n heights later
abbrev fade : ℕ → Float → Float
fade = decayed base

-- one more
unfoldable pub also : Float → Float
also x = add binary64 x one

-- Bucket 33, confirmed: the first id at 101 for all, and again at 104, after a wait of 3, for 3 and above.
unfoldable pub confirmed_33 : List Float
confirmed_33 = replicate 2 (fade 5 one) ++ replicate 23 (fade 2 (also (fade 3 one)))

-- resolved: the first id at 101 for all, and for 1 the second too, which then goes; the first again, for 1 at 102, for 2 at 103, else at 104
unfoldable pub resolved_33 : List Float
resolved_33 = fade 4 (also (fade 1 (also one))) ∷ fade 3 (also (fade 2 one)) ∷ replicate 23 (fade 2 (also (fade 3 one)))

-- Bucket 14, confirmed: the fourth id at 105, after a wait of 3, for 3 and above.
unfoldable pub confirmed_14 : List Float
confirmed_14 = replicate 2 nought ++ replicate 23 (fade 1 one)

-- resolved: for all, at 105, since it came after 104
unfoldable pub resolved_14 : List Float
resolved_14 = replicate 25 (fade 1 one)

-- Bucket 0, resolved: the third id, at 102 for the 22 that it has outwaited, and then for one more at each height. It is never confirmed.
unfoldable pub resolved_0 : List Float
resolved_0 = replicate 22 (fade 4 one) ++ (fade 3 one ∷ fade 2 one ∷ fade 1 one ∷ [])

abbrev confirmed_0 : List Float
confirmed_0 = replicate 25 nought

-- counts in the buckets 0, 14 and 33, and no other
unfoldable pub rows : List Float → List Float → List Float → Counts
rows low middle high = low ++ replicate 325 nought ++ middle ++ replicate 450 nought ++ high ++ replicate 2700 nought

-- the lent memory: two places in each table, as the last that was lent has them
unfoldable pub left_so : Lent → Bool
left_so m =
    same_counts m.confirmed (rows confirmed_0 confirmed_14 confirmed_33 ++ (nan ∷ []))
    && (same_counts m.resolved (rows resolved_0 resolved_14 resolved_33)
    && (same m.pending (replicate 88 0)
    && same m.recent (id 1 ++ bytes 4 104 ++ id 4 ++ bytes 4 105)))

pub record Led (y : Life) : Type 0 where
  pub fresh_is : y.is_fresh ≡ true
  pub log_is : y.held.log ≡ taken
  pub state_is : y.held.state ≡ record { last = Some (record { 0 = 105 }); pending = 0; recent = 2 }
  pub memory_is : T (left_so y.held.memory)

pub led : Led there
unfolding compute_runs left_so on lives next begun confirmed_33 resolved_33 confirmed_14 resolved_14 resolved_0 rows also decayed
led = record { fresh_is = refl; log_is = refl; state_is = refl; memory_is = tt }

-- ---- the promise of it

typed_first : TypedAsks first
unfolding TypedAsks TypedAsk Typed
typed_first = (tt, ((refl, lit< tt), ((refl, lit< tt), (lit< tt, ((refl, lit< tt), ((refl, lit< tt), tt))))))

typed_second : TypedAsks (second full)
unfolding compute_runs lives next begun TypedAsks TypedAsk Typed
typed_second = ((tt, tt), ((refl, lit< tt), (refl, tt)))

typed_third : TypedAsks (third (on second full))
unfolding compute_runs on lives next begun TypedAsks TypedAsk Typed
typed_third = ((tt, tt), (lit< tt, ((refl, lit< tt), (lit< tt, tt))))

-- the first calls are fair; and so is what is lent then, by the promise of it
fair_first : AllFair version_1 base first before
unfolding AllFair Fair
fair_first = (tt, (tt, (tt, (tt, (tt, (tt, tt))))))

fair_second : AllFair version_1 base (second full) full
unfolding AllFair Fair RefitPromise
fair_second = (refits Horizon.Base before refl first typed_first fair_first 44 72, (tt, (tt, tt)))

typed_both : TypedAsks (first ++ second full)
typed_both = typed_more first (second full) typed_first typed_second

fair_both : AllFair version_1 base (first ++ second full) before
fair_both = fair_more version_1 base first (second full) before fair_first fair_second

both_lead : lives version_1 base (first ++ second full) before ≡ on second full
unfolding on
both_lead = lives_more version_1 base first (second full) before

fair_third : AllFair version_1 base (third (on second full)) (on second full)
unfolding AllFair Fair RefitPromise
fair_third = (subst (λ (y : Life). Fair base (free 0 36 y) y) both_lead (refits Horizon.Base before refl (first ++ second full) typed_both fair_both 0 36), (tt, (tt, (tt, tt))))

-- all that is asked
abbrev asked : List Ask
asked = first ++ second full ++ third (on second full)

leads : lives version_1 base asked before ≡ there
unfolding on
leads = lives_more version_1 base (first ++ second full) (third (on second full)) before ∙ ap (lives version_1 base (third (on second full))) both_lead

rises : Rising taken
unfolding Rising last_of Above
rises = (((tt, tt), lit< tt), lit< tt)

pub spoken_of : Lived base there.held
unfolding LifePromise
spoken_of =
    subst (λ (y : Life). y.is_fresh ≡ true → Rising y.held.log → Lived base y.held) leads
    (promise Horizon.Base before refl asked (typed_more (first ++ second full) _ typed_both typed_third)
    (fair_more version_1 base (first ++ second full) _ before fair_both (subst (AllFair version_1 base (third (on second full))) (sym both_lead) fair_third)))
    led.fresh_is (subst Rising (sym led.log_is) rises)

-- ---- and so of its counts

-- a count of the log, as it is stored in the end
abbrev stored_count : Kind → ℕ → ℕ → Float
stored_count in_confirmed b c = cell there.held.memory.confirmed b c
stored_count in_resolved b c = cell there.held.memory.resolved b c

-- the promise gives each of them from the log
pub promised : (which : Kind) (b c : ℕ) → b < buckets → 1 ≤ c → c ≤ columns → stored_count which b c ≡ count_of which base (singly taken) b c
promised in_confirmed b c h low high = spoken_of.meant.confirmed_is b c h low high ∙ ap (λ (l : Log). count_of in_confirmed base (singly l) b c) led.log_is
promised in_resolved b c h low high = spoken_of.meant.resolved_is b c h low high ∙ ap (λ (l : Log). count_of in_resolved base (singly l) b c) led.log_is

-- the counts that a log makes, in n columns from c on
unfoldable pub made : Board → Log → Kind → ℕ → ℕ → ℕ → List Float
made k l which b c zero = []
made k l which b c (suc n) = count_of which k (singly l) b c ∷ made k l which b (suc c) n

-- they are those that were told by hand, and that the calls have left
pub worked : T (same_counts (made base taken in_confirmed 33 1 25) confirmed_33
    && (same_counts (made base taken in_resolved 33 1 25) resolved_33
    && (same_counts (made base taken in_confirmed 14 1 25) confirmed_14
    && (same_counts (made base taken in_resolved 14 1 25) resolved_14
    && (same_counts (made base taken in_confirmed 0 1 25) confirmed_0
    && same_counts (made base taken in_resolved 0 1 25) resolved_0)))))
unfolding compute_logs made confirmed_33 resolved_33 confirmed_14 resolved_14 resolved_0 also decayed
worked = tt
