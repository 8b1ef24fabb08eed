-- What putting the parts of the header one after the other leaves. No contract cites this file. Assumes nothing.
use mathlib.Core.Path.{◌≡◌, refl, sym, ap, ◌∙◌}
use mathlib.Core.List.{List, [], ◌∷◌, ◌++◌, append-nil}
use Prim.Native.Nat.{ℕ, ◌+◌}
use native.Mathlib.Omega.{arith}
use lib.ListN.{length}
use lib.Seq.{sets}
use Rattle.kinds.specs.Last.{Last}
use Rattle.std.specs.Prelude.{None, Some}
use Rattle.rules.specs.Bytes.{bytes}
use Rattle.rules.specs.Records.{joined}
use Rattle.rules.proofs.Bytes.{length_bytes}
use Rattle.format.specs.File.{Version, magic, last_bytes, head_bytes}
use Rattle.lists.proofs.Sets.{sets_append}

module _ (o : List ℕ) (at : ℕ) where
  pub put_none : sets (sets o at (0 ∷ [])) (at + 1) (bytes 4 142) ≡ sets o at (last_bytes None ++ bytes 4 142)
  unfolding last_bytes
  put_none = sym (sets_append o at (0 ∷ []) (bytes 4 142))

  pub put_at : (h : ℕ) → sets (sets (sets o at (1 ∷ [])) (at + 1) (bytes 4 h)) (at + 5) (bytes 4 142) ≡ sets o at (last_bytes (Some (record { 0 = h })) ++ bytes 4 142)
  unfolding last_bytes
  put_at h =
      let e : at + 5 ≡ at + length (1 ∷ bytes 4 h) = omega (arith, length_bytes 4 h) in
      ap (λ (l : List ℕ). sets l (at + 5) (bytes 4 142)) (sym (sets_append o at (1 ∷ []) (bytes 4 h)))
      ∙ ap (λ (k : ℕ). sets (sets o at (1 ∷ bytes 4 h)) k (bytes 4 142)) e
      ∙ sym (sets_append o at (1 ∷ bytes 4 h) (bytes 4 142))

-- the code's number is the magic
magic_is : bytes 8 0x5345454645535242 ≡ magic
unfolding bytes
magic_is = refl

pub put_head : (v : Version) (o : List ℕ) (l : Last) (n at : ℕ) → n ≡ v.number → at ≡ 12 + length v.after
    → sets (sets (sets (sets o 0 (bytes 8 0x5345454645535242)) 8 (bytes 4 n)) 12 v.after) at (last_bytes l ++ bytes 4 142) ≡ sets o 0 (head_bytes v l)
unfolding head_bytes joined
put_head v o l n at e f =
    let k : 12 ≡ 8 + length (bytes 4 v.number) = omega (arith, length_bytes 4 v.number) in
    let end = last_bytes l ++ bytes 4 142 in
    ap (λ (m : List ℕ). sets (sets (sets (sets o 0 m) 8 (bytes 4 n)) 12 v.after) at end) magic_is
    ∙ ap (λ (m : ℕ). sets (sets (sets (sets o 0 magic) 8 (bytes 4 m)) 12 v.after) at end) e
    ∙ ap (λ (i : ℕ). sets (sets (sets (sets o 0 magic) 8 (bytes 4 v.number)) 12 v.after) i end) f
    ∙ sym (sets_append (sets (sets o 0 magic) 8 (bytes 4 v.number)) 12 v.after end)
    ∙ ap (λ (i : ℕ). sets (sets (sets o 0 magic) 8 (bytes 4 v.number)) i (v.after ++ end)) k
    ∙ sym (sets_append (sets o 0 magic) 8 (bytes 4 v.number) (v.after ++ end))
    ∙ sym (sets_append o 0 magic (bytes 4 v.number ++ (v.after ++ end)))
    ∙ ap (λ (m : List ℕ). sets o 0 (magic ++ (bytes 4 v.number ++ (v.after ++ (last_bytes l ++ m))))) (sym (append-nil (bytes 4 142)))
