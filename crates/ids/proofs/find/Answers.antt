use Rattle.std.specs.Prelude.{Ok, Err}
use mathlib.Core.Path.{◌≡◌, sym, ap, ◌∙◌}
use mathlib.Core.List.{List, [], map}
use Prim.Native.Nat.{ℕ, ◌+◌, ◌*◌, ◌-◌, ◌/◌, ◌≤◌, ◌<◌}
use native.Mathlib.Nat.{zero-add}
use native.Mathlib.Omega.{arith}
use lib.ListN.{length, get_or}
use lib.Seq.{take_all}
use Rattle.rules.specs.Ids.{Id, below}
use Rattle.rules.specs.Records.{records, id_of}
use Rattle.mem.specs.Be.{be_at}
use Rattle.ids.specs.Search.{cmp}
use Rattle.std.specs.declared.cmp.Ordering.{Ordering}
use Rattle.ids.proofs.Ids.{Below, id32, cmp_below, cmp_equal, cmp_above}
use Rattle.ids.proofs.First.{words_below}
use Rattle.ids.proofs.Records.{length_ids, get_or_ids, record_end}
use Rattle.ids.proofs.Rising.{below_up, below_down, below_at}
use Rattle.ids.proofs.Search.{find_gap, find_at}
use borrow.Author.Rules.{rules}
use Rattle.ids.proofs.find.Goals as goal
use Rattle.ids.proofs.find.Goals.{In-loop-lo}
use Rattle.ids.proofs.find.Invariants.{Bracket}

-- within a turn: the middle, its end, and what is told of it
abbrev mid : In-loop-lo → ℕ
mid c = c.loop-lo.lo + (c.loop-lo.hi - c.loop-lo.lo) / 2

abbrev js : In-loop-lo → List Id
js c = map id_of (records c.args.size c.args.used c.args.table.now)

mid< : (c : In-loop-lo) → mid c < c.args.used
mid< c = omega arith

mid_in : (c : In-loop-lo) → mid c < length (js c)
mid_in c = omega (arith, mid< c, length_ids c.args.size c.args.used c.args.table.now)

end : (c : In-loop-lo) → mid c * c.args.size + c.args.size ≤ length c.args.table.now
end c = omega (arith, record_end c.args.size c.args.used (mid c) (mid< c))

mid_id : (c : In-loop-lo) → get_or (js c) (mid c) [] ≡ id32 (mid c * c.args.size) c.args.table.now
mid_id c = get_or_ids c.args.size c.args.used (mid c) c.args.table.now c.requires.le_size.0 (mid< c)

-- the middle is below the id, or above it: what that leaves
lower : (t : In-loop-lo) → Below (get_or (js t) (mid t) []) t.args.id.now → Bracket (js t) t.args.used t.args.id.now (mid t + 1) t.loop-lo.hi
lower t b =
    record {
      lo_le = omega arith;
      hi_le = omega arith;
      under = below_up (js t) t.args.id.now t.requires.table_value (mid t) (mid_in t) b;
      over = t.loop-lo.invariant.over;
    }

upper : (t : In-loop-lo) → Below t.args.id.now (get_or (js t) (mid t) []) → Bracket (js t) t.args.used t.args.id.now t.loop-lo.lo (mid t)
upper t b =
    record {
      lo_le = omega arith;
      hi_le = omega (arith, mid< t);
      under = t.loop-lo.invariant.under;
      over = λ i h k. below_down (js t) t.args.id.now t.requires.table_value (mid t) (mid_in t) b i h (omega (arith, length_ids t.args.size t.args.used t.args.table.now));
    }

-- what the words tell
id_is : (t : In-loop-lo) → id32 0 t.args.id.now ≡ t.args.id.now
id_is t = take_all 32 t.args.id.now (omega arith)

words_under : (t : In-loop-lo) → ((i : ℕ) → get_or t.args.table.now i 0 < 256) → ((i : ℕ) → get_or t.args.id.now i 0 < 256) → be_at 4 t.args.table.now (mid t * t.args.size) < be_at 4 t.args.id.now 0 → Below (get_or (js t) (mid t) []) t.args.id.now
words_under t f g q =
    let p = mid t * t.args.size in
    ap (λ (x : Id). below x t.args.id.now) (mid_id t)
    ∙ ap (below (id32 p t.args.table.now)) (sym (id_is t))
    ∙ words_below t.args.table.now p t.args.id.now 0 (omega (arith, end t)) (omega arith) f g q

words_over : (t : In-loop-lo) → ((i : ℕ) → get_or t.args.table.now i 0 < 256) → ((i : ℕ) → get_or t.args.id.now i 0 < 256) → be_at 4 t.args.id.now 0 < be_at 4 t.args.table.now (mid t * t.args.size) → Below t.args.id.now (get_or (js t) (mid t) [])
words_over t f g q =
    let p = mid t * t.args.size in
    ap (below t.args.id.now) (mid_id t)
    ∙ ap (λ (x : Id). below x (id32 p t.args.table.now)) (sym (id_is t))
    ∙ words_below t.args.id.now 0 t.args.table.now p (omega arith) (omega (arith, end t)) g f q

-- the comparison of the middle with the id
compared : (t : In-loop-lo) {o r : Ordering} → r ≡ cmp (id32 (mid t * t.args.size) t.args.table.now) (id32 0 t.args.id.now) → r ≡ o → cmp (id32 (mid t * t.args.size) t.args.table.now) t.args.id.now ≡ o
compared t e f = ap (cmp (id32 (mid t * t.args.size) t.args.table.now)) (sym (id_is t)) ∙ sym e ∙ f

pub loop-lo-init : goal.loop-lo-init
loop-lo-init c = record {
  lo_le = omega arith;
  hi_le = omega arith;
  under = λ i h. absurd (omega arith);
  over = λ i h k. absurd (omega arith);
}

pub overflow_add-mid : goal.overflow_add-mid
overflow_add-mid c = omega (arith, mid< (goal.at.overflow_add-mid c).In-loop-lo)

pub overflow_mul-at : goal.overflow_mul-at
overflow_mul-at c = omega (arith, end (goal.at.overflow_mul-at c).In-loop-lo)

pub u32_be-word-requires : goal.u32_be-word-requires
u32_be-word-requires c = omega (arith, end (goal.at.u32_be-word-requires c).In-loop-lo)

pub overflow_add-lo : goal.overflow_add-lo
overflow_add-lo c = omega (arith, mid< (goal.at.overflow_add-lo c).In-loop-lo)

pub loop-lo-preserved-then-word-first : goal.loop-lo-preserved-then-word-first
loop-lo-preserved-then-word-first c = lower (goal.at.loop-lo-preserved-then-word-first c).In-loop-lo (words_under (goal.at.loop-lo-preserved-then-word-first c).In-loop-lo (λ i. omega (arith, c.type_inv.table i)) (λ i. search rules) (omega (arith, c.if-word-first.true, c.u32_be-word.ensures, c.u32_be-first.ensures)))

pub loop-lo-preserved-then-first-word : goal.loop-lo-preserved-then-first-word
loop-lo-preserved-then-first-word c = upper (goal.at.loop-lo-preserved-then-first-word c).In-loop-lo (words_over (goal.at.loop-lo-preserved-then-first-word c).In-loop-lo (λ i. omega (arith, c.type_inv.table i)) (λ i. search rules) (omega (arith, c.if-first-word.true, c.u32_be-word.ensures, c.u32_be-first.ensures)))

pub overflow_add-lo-in-Less : goal.overflow_add-lo-in-Less
overflow_add-lo-in-Less c = omega (arith, mid< (goal.at.overflow_add-lo-in-Less c).In-loop-lo)

pub loop-lo-preserved-in-Less : goal.loop-lo-preserved-in-Less
loop-lo-preserved-in-Less c = (lower (goal.at.loop-lo-preserved-in-Less c).In-loop-lo (rw (mid_id (goal.at.loop-lo-preserved-in-Less c).In-loop-lo) (cmp_below _ _ (compared (goal.at.loop-lo-preserved-in-Less c).In-loop-lo c.compare.ensures c.in-Less.is))))

pub returns-in-Equal : goal.returns-in-Equal
returns-in-Equal c =
    let b : get_or (js (goal.at.returns-in-Equal c).In-loop-lo) (mid (goal.at.returns-in-Equal c).In-loop-lo) [] ≡ c.args.id.now = mid_id (goal.at.returns-in-Equal c).In-loop-lo ∙ cmp_equal _ _ (compared (goal.at.returns-in-Equal c).In-loop-lo c.compare.ensures c.in-Equal.is) in
    sym (find_at c.args.id.now 0 (js (goal.at.returns-in-Equal c).In-loop-lo) (mid (goal.at.returns-in-Equal c).In-loop-lo) (mid_in (goal.at.returns-in-Equal c).In-loop-lo) (below_at (js (goal.at.returns-in-Equal c).In-loop-lo) c.args.id.now c.requires.table_value (mid (goal.at.returns-in-Equal c).In-loop-lo) (mid_in (goal.at.returns-in-Equal c).In-loop-lo) b) b ∙ ap Ok (zero-add (mid (goal.at.returns-in-Equal c).In-loop-lo)))

pub loop-lo-preserved : goal.loop-lo-preserved
loop-lo-preserved c = (upper (goal.at.loop-lo-preserved c).In-loop-lo (rw (mid_id (goal.at.loop-lo-preserved c).In-loop-lo) (cmp_above _ _ (compared (goal.at.loop-lo-preserved c).In-loop-lo c.compare.ensures c.in-Greater.is))))

pub returns : goal.returns
returns c =
    let n = length_ids c.args.size c.args.used c.args.table.now in
    sym (find_gap c.args.id.now 0 _ c.loop-lo.lo (omega arith) c.loop-lo.invariant.under (λ q. c.loop-lo.invariant.over c.loop-lo.lo (omega arith) (omega arith)) ∙ ap Err (zero-add c.loop-lo.lo))
