-- The board that a file names: a file that can be read as a board's names that board, and none that `inspect` has room for is too long for it. Assumes nothing.
use mathlib.Core.Path.{◌≡◌, refl, sym, ap, ◌∙◌}
use mathlib.Core.Bool.{Bool, true, false, cond}
use mathlib.Core.List.{List}
use Prim.Native.Nat.{ℕ, ◌≤◌, ◌<◌}
use native.Mathlib.Omega.{arith}
use lib.Dec.{T, eqb}
use lib.ListN.{length, take, drop, length-take, length-drop}
use lib.Pow.{are_bytes}
use Rattle.kinds.specs.declared.Horizon.{Horizon}
use Rattle.kinds.specs.Last.{Last}
use Rattle.std.specs.Prelude.{None, Some}
use Rattle.rules.specs.Ids.{same}
use Rattle.rules.specs.Bytes.{le, bytes}
use Rattle.rules.specs.Records.{joined}
use Rattle.rules.specs.Estimator.{Estimator}
use Rattle.rules.proofs.Ids.{same_eq}
use Rattle.rules.proofs.Bytes.{length_bytes}
use Rattle.header.proofs.Same.{is_number}
use Rattle.format.specs.Parts.{good}
use Rattle.format.specs.File.{own_version, version_of, head_bytes, history_of, history_length, read_history}
use Rattle.format.proofs.Back.{version_lawful}
use Rattle.format.proofs.Exact.{read_is_written}
use Rattle.report.specs.Shown.{of_inspect, named_by}

-- ---- as the code looks at it

-- fewer than 12 bytes name the base board
pub too_short : (file : List ℕ) → length file < 12 → named_by file ≡ Horizon.Base
unfolding named_by
too_short file h = go (same (take 4 (drop 8 file)) (bytes 4 3)) refl
  where
    go : (b : Bool) → same (take 4 (drop 8 file)) (bytes 4 3) ≡ b → cond b Horizon.Wide Horizon.Base ≡ Horizon.Base
    go true e = absurd (omega (arith, ap length (same_eq _ _ e), length_bytes 4 3, length-take 4 (drop 8 file), length-drop 8 file))
    go false e = refl

-- any other, by the number in its bytes 8 to 11
pub by_number : (file : List ℕ) → T (are_bytes file) → 12 ≤ length file → named_by file ≡ cond (eqb (le (take 4 (drop 8 file))) 3) Horizon.Wide Horizon.Base
unfolding named_by
by_number file b h = ap (λ (t : Bool). cond t Horizon.Wide Horizon.Base) (sym (is_number 4 3 file 8 h b (omega arith)))

-- ---- what `inspect` takes

-- what is written of a board's estimator names the board
written_names : (on : Horizon) (e : Estimator) → named_by (history_of (version_of on) e) ≡ on
unfolding named_by same bytes history_of head_bytes joined
written_names Horizon.Base e = refl
written_names Horizon.Wide e = refl

-- A file that can be read as a board's names that board, so `inspect` reads it as that board's.
pub read_names : (on : Horizon) (file : List ℕ) → T (are_bytes file) → (e : Estimator) → read_history (version_of on) file ≡ good e → named_by file ≡ on
read_names on file b e r = ap named_by (sym (read_is_written (version_of on) (version_lawful (own_version on)) file e b r).written) ∙ written_names on e

-- A file of either board that has at most 10,000 pending and 75,000 confirmed records is not too long for `inspect`.
pub not_too_long : (on : Horizon) (last : Last) (pending recent : ℕ) → pending ≤ of_inspect.pending → recent ≤ of_inspect.recent
    → history_length (version_of on) last pending recent ≤ of_inspect.longest
unfolding history_length bytes
not_too_long Horizon.Base None pending recent h k = omega arith
not_too_long Horizon.Base (Some _) pending recent h k = omega arith
not_too_long Horizon.Wide None pending recent h k = omega arith
not_too_long Horizon.Wide (Some _) pending recent h k = omega arith
