-- Laws of writing on a page. What is written one after the other is the same as the whole text written once, where there is room for it.
-- Assumes nothing.
use mathlib.Core.Path.{◌≡◌, refl, sym, ap, ◌∙◌}
use mathlib.Core.List.{List, [], ◌∷◌, ◌++◌, append_assoc}
use Prim.Native.Nat.{ℕ, suc, ◌+◌, ◌≤◌, ◌<◌}
use native.Mathlib.Nat.{add-zero, add-suc, suc-add}
use native.Mathlib.Omega.{arith}
use borrow.Author.Tests.{le-leb, lt-leb}
use lib.ListN.{length, length-append}
use lib.Seq.{sets, sets-eq, length-sets, drop-drop}
use borrow.Rule.Slice.PartMut.{put_mid}
use Rattle.print.specs.Page.{page, write}

pub write_fits : (text bytes : List ℕ) (at : ℕ) → at + length text ≤ length bytes → write text (page bytes at) ≡ page (sets bytes at text) (at + length text)
unfolding write
write_fits text bytes at h = simp (le-leb _ _ h)

pub write_none : (text bytes : List ℕ) (at : ℕ) → length bytes < at + length text → write text (page bytes at) ≡ page bytes at
unfolding write
write_none text bytes at h = simp (lt-leb _ _ h)

-- text copied over the part behind the cursor is written
pub copied : (text bytes part : List ℕ) (at k : ℕ) → at + length text ≤ length bytes → k ≡ length text → part ≡ text → page (put_mid at k bytes part) (at + length text) ≡ write text (page bytes at)
copied text bytes part at k h e i =
    let j : put_mid at k bytes part ≡ sets bytes at text = rw (i, e, sets-eq text bytes at h, drop-drop, append_assoc) refl in
    rw j (sym (write_fits text bytes at h))

-- ---- texts one after the other

sets_append : (a b xs : List ℕ) (at : ℕ) → sets (sets xs at a) (at + length a) b ≡ sets xs at (a ++ b)
sets_append [] b xs at = rw add-zero
sets_append (x ∷ a) b xs at = rw (add-suc, ← suc-add) (sets_append a b _ (suc at))

pub write_write : (a b bytes : List ℕ) (at : ℕ) → at + length (a ++ b) ≤ length bytes → write b (write a (page bytes at)) ≡ write (a ++ b) (page bytes at)
write_write a b bytes at h =
    let l : length (a ++ b) ≡ length a + length b = length-append a b in
    let s : length (sets bytes at a) ≡ length bytes = length-sets bytes at a in
    let n : at + length a + length b ≡ at + length (a ++ b) = omega arith in
    ap (write b) (write_fits a bytes at (omega arith))
    ∙ write_fits b (sets bytes at a) (at + length a) (omega arith)
    ∙ rw (sets_append a b bytes at, n) (sym (write_fits (a ++ b) bytes at h))
