-- An id's bytes, laid over zeros. Assumes nothing.
use mathlib.Core.Path.{◌≡◌, refl, sym, ap, ◌∙◌}
use mathlib.Core.Bool.{Bool, true, false}
use mathlib.Core.List.{List, ◌++◌}
use Prim.Native.Nat.{ℕ, ◌+◌, ◌≤◌, ◌<◌}
use native.Mathlib.Nat.{zero-add}
use native.Mathlib.Omega.{arith}
use borrow.Author.Tests.{leb-true, leb-false}
use lib.Dec.{leb}
use lib.ListN.{length, drop}
use lib.Seq.{sets-eq}
use Rattle.print.specs.Page.{Page, page, write}
use Rattle.print.proofs.Pages.{write_fits, write_none}
use Rattle.desk_calls.specs.Calls.{zeros, id_of}

laid_id : (text : List ℕ) (b : Bool) → leb (length text) 32 ≡ b → (write text (page zeros 0)).bytes ≡ id_of text
unfolding id_of
laid_id text true e =
    let h : 0 + length text ≤ length zeros = omega (arith, leb-true (length text) 32 e) in
    ap (λ (p : Page). p.bytes) (write_fits text zeros 0 h) ∙ sets-eq text zeros 0 h ∙ ap (λ (k : ℕ). text ++ drop k zeros) (zero-add (length text)) ∙ sym (rw e)
laid_id text false e =
    let h : length zeros < 0 + length text = omega (arith, leb-false (length text) 32 e) in
    ap (λ (p : Page). p.bytes) (write_none text zeros 0 h) ∙ sym (rw e)

pub id_is : (text : List ℕ) → (write text (page zeros 0)).bytes ≡ id_of text
id_is text = laid_id text (leb (length text) 32) refl
