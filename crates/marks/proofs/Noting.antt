-- The listed ids, one after the other, mark the records that have them: the marks are those of the ids so far, and these and the ids that are left are the whole
-- list. Assumes nothing.
use Rattle.std.specs.Prelude.{Ok, Err}
use mathlib.Core.Path.{◌≡◌, refl, sym, ap, ◌∙◌, fun_ext}
use mathlib.Core.Bool.{Bool, true, false, ◌||◌, or-false, or_assoc}
use mathlib.Core.List.{List, [], ◌++◌, map}
use Prim.Native.Nat.{ℕ, ◌<◌}
use native.Mathlib.Omega.{arith}
use lib.ListN.{length, get_or, take, drop, replicate, length-map, take-append-drop, get_or-map}
use lib.Seq.{set-append_left}
use Rattle.rules.specs.Lists.{any}
use Rattle.rules.specs.Ids.{Id, same, rising}
use Rattle.rules.specs.Records.{records, id_of}
use Rattle.rules.specs.Calls.{ids_of}
use Rattle.rules.proofs.Ids.{up_of}
use Rattle.rules.proofs.Records.{length_records}
use Rattle.ids.specs.Search.{find_in}
use Rattle.ids.specs.Search.{Found}
use Rattle.ids.proofs.Search.{at_told}
use Rattle.table.proofs.View.{gap_any}
use Rattle.batch.specs.Needed.{listed}
use Rattle.batch.proofs.Listing.{ids_more, ids_none}
use Rattle.marks.specs.Marks.{beside, noted}
use Rattle.marks.proofs.Beside.{beside_none, beside_miss, beside_hit}

-- ---- one id

pub noted_as : {f g : Found} (ms : List ℕ) → f ≡ g → noted g ms ≡ noted f ms
noted_as ms e = ap (λ (h : Found). noted h ms) (sym e)

length_beside : (mark : Id → Bool) (rs : List (List ℕ)) → length (beside id_of mark rs) ≡ length rs
unfolding beside
length_beside mark rs = length-map rs _

noted_beside : (mark : Id → Bool) (i : Id) (rs : List (List ℕ)) (rest : List ℕ) → rising (map id_of rs) ≡ true
    → noted (find_in i (map id_of rs)) (beside id_of mark rs ++ rest) ≡ beside id_of (λ j. mark j || same j i) rs ++ rest
noted_beside mark i rs rest up = go (find_in i (map id_of rs)) refl
  where
    go : (f : Found) → find_in i (map id_of rs) ≡ f → noted f (beside id_of mark rs ++ rest) ≡ beside id_of (λ j. mark j || same j i) rs ++ rest
    go (Ok n) e =
        let t = at_told i (map id_of rs) n e in
        let h : n < length rs = omega (arith, t.within, length-map rs id_of) in
        let its : id_of (get_or rs n []) ≡ i = sym (get_or-map id_of rs n []) ∙ t.is in
        set-append_left (beside id_of mark rs) rest n 1 (omega (arith, length_beside mark rs))
        ∙ ap (λ (l : List ℕ). l ++ rest)
        (sym (beside_hit id_of mark n [] (up_of id_of rs up) h) ∙ ap (λ (a : Id). beside id_of (λ j. mark j || same j a) rs) its)
    go (Err n) e =
        ap (λ (l : List ℕ). l ++ rest) (sym (beside_miss id_of mark i rs (gap_any id_of i 0 n rs up e)))

-- ---- all of them

-- the marks so far, and the bytes of the ids that are left
pub record Marking (size used : ℕ) (table ids marks₀ left marks : List ℕ) : Type 0 where
  pub mark : Id → Bool
  pub is : marks ≡ beside id_of mark (records size used table) ++ drop used marks₀
  pub whole : (j : Id) → (mark j || listed (ids_of left) j) ≡ listed (ids_of ids) j
  pub long : length marks ≡ length marks₀

module _ (size used : ℕ) (table ids marks₀ : List ℕ) where
  abbrev rs : List (List ℕ)
  rs = records size used table

  pub marking_none : take used marks₀ ≡ replicate used 0 → Marking size used table ids marks₀ ids marks₀
  marking_none z =
      record {
        mark = λ j. false;
        is = sym (take-append-drop used marks₀) ∙ ap (λ (l : List ℕ). l ++ drop used marks₀) (z ∙ sym (beside_none id_of rs ∙ ap (λ (n : ℕ). replicate n 0) (length_records size used table)));
        whole = λ j. refl;
        long = refl;
      }

  module _ (marks : List ℕ) where
    pub marking_more : (i left : List ℕ) → Marking size used table ids marks₀ (i ++ left) marks → rising (map id_of rs) ≡ true → length i ≡ 32 → (next : List ℕ) → next ≡ noted (find_in i (map id_of rs)) marks → length next ≡ length marks
        → Marking size used table ids marks₀ left next
    unfolding listed any
    marking_more i left g up h next e l =
        record {
          mark = λ j. g.mark j || same j i;
          is = e ∙ ap (noted (find_in i (map id_of rs))) g.is ∙ noted_beside g.mark i rs (drop used marks₀) up;
          whole = λ j.
              or_assoc (g.mark j) (same j i) (listed (ids_of left) j)
              ∙ ap (λ (is : List Id). g.mark j || listed is j) (sym (ids_more i left h))
              ∙ g.whole j;
          long = l ∙ g.long;
        }

    pub marking_all : (left : List ℕ) → Marking size used table ids marks₀ left marks → length left < 32 → marks ≡ beside id_of (listed (ids_of ids)) rs ++ drop used marks₀
    unfolding listed any
    marking_all left g h =
        let all : g.mark ≡ listed (ids_of ids) = fun_ext (λ j. sym (or-false (g.mark j)) ∙ ap (λ (is : List Id). g.mark j || listed is j) (sym (ids_none left h)) ∙ g.whole j) in
        g.is ∙ ap (λ (mark : Id → Bool). beside id_of mark rs ++ drop used marks₀) all
