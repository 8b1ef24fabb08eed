-- Pieces written one after the other are the whole text written at once, where there is room for it. Assumes nothing.
use mathlib.Core.Path.{◌≡◌, sym, ap, ◌∙◌}
use mathlib.Core.List.{List, [], ◌∷◌, ◌++◌}
use Prim.Native.Nat.{ℕ, ◌+◌, ◌≤◌}
use native.Mathlib.Omega.{arith}
use lib.ListN.{length, length-append}
use lib.Seq.{sets, length-sets}
use Rattle.rules.specs.Records.{joined}
use Rattle.print.specs.Page.{page, write, writes}
use Rattle.print.proofs.Pages.{write_fits, write_write}
use Rattle.print.specs.Text.{Text}

at_once : (ts : List Text) (bytes : Text) (at : ℕ) → at + length (joined ts) ≤ length bytes → writes ts (page bytes at) ≡ write (joined ts) (page bytes at)
unfolding writes joined
at_once [] bytes at h =
    let e : at + 0 ≡ at = omega arith in
    sym (write_fits [] bytes at (omega arith) ∙ ap (λ (n : ℕ). page bytes n) e)
at_once (t ∷ ts) bytes at h =
    let l : length (t ++ joined ts) ≡ length t + length (joined ts) = length-append t (joined ts) in
    let s : length (sets bytes at t) ≡ length bytes = length-sets bytes at t in
    let f : write t (page bytes at) ≡ page (sets bytes at t) (at + length t) = write_fits t bytes at (omega arith) in
    ap (writes ts) f ∙ at_once ts (sets bytes at t) (at + length t) (omega arith) ∙ ap (write (joined ts)) (sym f) ∙ write_write t (joined ts) bytes at h

-- all of them, from the first byte on
pub whole : (ts : List Text) (bytes : Text) → length (joined ts) ≤ length bytes → writes ts (page bytes 0) ≡ page (sets bytes 0 (joined ts)) (length (joined ts))
whole ts bytes h =
    let e : 0 + length (joined ts) ≡ length (joined ts) = omega arith in
    at_once ts bytes 0 (omega arith) ∙ write_fits (joined ts) bytes 0 (omega arith) ∙ ap (λ (n : ℕ). page (sets bytes 0 (joined ts)) n) e
