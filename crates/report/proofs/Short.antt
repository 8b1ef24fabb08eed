-- What is told is at most 2,048 bytes long: a number has at most 20 digits. Assumes nothing.
use mathlib.Core.Path.{◌≡◌}
use mathlib.Core.Bool.{Bool, true, false, cond}
use mathlib.Core.List.{List, [], ◌∷◌, ◌++◌}
use Prim.Native.Nat.{ℕ, zero, suc, ◌+◌, ◌*◌, ◌-◌, ◌/◌, ◌%◌, ◌≤◌}
use native.Mathlib.Omega.{arith}
use lib.Dec.{ltb}
use lib.ListN.{length, length-append}
use lib.Ieee.{Float}
use Rattle.kinds.specs.declared.Height.{Height}
use Rattle.kinds.specs.declared.Horizon.{Horizon}
use Rattle.kinds.specs.Last.{Last}
use Rattle.std.specs.Prelude.{Option, None, Some}
use Rattle.kinds.specs.declared.State.{State}
use Rattle.kinds.specs.declared.refusals.ReadError.{ReadError}
use Rattle.std.specs.Prelude.{Result, Ok, Err}
use Rattle.kinds.specs.Answers.{read_answer}
use Rattle.rules.specs.Records.{joined}
use Rattle.rules.specs.Board.{board_of}
use Rattle.rules.specs.Calls.{widest_gap}
use Rattle.print.specs.Numerals.{decimal_in, decimal}
use Rattle.print.specs.Text.{Text}
use Rattle.premise.specs.Premise.{between, ahead, behind, level, beside, no_last, premise}
use Rattle.report.specs.Shown.{line, last_text, state_lines, target_line, target_lines, name, carried, refusal, told}
use Rattle.report.specs.Rates.{carried_rate, answered}

decimal_in_short : (k n : ℕ) → length (decimal_in k n) ≤ k
unfolding decimal_in
decimal_in_short zero n = omega arith
decimal_in_short (suc k) n = go (decimal_in_short k (n / 10)) (ltb n 10)
  where
    go : length (decimal_in k (n / 10)) ≤ k → (b : Bool) → length (cond b ((48 + n) ∷ []) (decimal_in k (n / 10) ++ ((48 + n % 10) ∷ []))) ≤ suc k
    go h true = omega arith
    go h false = simp length-append (omega arith)

decimal_short : (n : ℕ) → length (decimal n) ≤ 20
unfolding decimal
decimal_short n = decimal_in_short 20 n

rate_short : (rs : List ℕ) → length (carried_rate rs) ≤ 20
unfolding carried_rate
rate_short [] = omega arith
rate_short (r ∷ rs) = decimal_short r

last_short : (l : Last) → length (last_text l) ≤ 20
unfolding last_text
last_short None = omega arith
last_short (Some h) = decimal_short h.0

length_joined : (a b : List Text) → length (joined (a ++ b)) ≡ length (joined a) + length (joined b)
unfolding joined
length_joined [] b = omega arith
length_joined (t ∷ a) b = let i = length_joined a b in simp length-append (omega arith)

state_short : (s : State) → length (joined (state_lines s)) ≤ 100
unfolding joined state_lines line
state_short s =
    let l = last_short s.last in
    let p = decimal_short s.pending in
    let r = decimal_short s.recent in
    simp length-append (omega arith)

lines_short : (width : ℕ) (f : ℕ → Text) → ((t : ℕ) → length (f t) ≤ 20) → (c n : ℕ) → length (joined (target_lines width f c n)) ≤ 42 * n
unfolding joined target_line target_lines
lines_short width f h c zero = omega arith
lines_short width f h c (suc n) =
    let d = decimal_short (width * c) in
    let x = h (width * c) in
    let i = lines_short width f h (suc c) n in
    simp length-append (omega arith)

beside_short : (h n : ℕ) → length (joined (beside h n)) ≤ 250
unfolding joined beside ahead behind level between
beside_short h n = go (ltb n h) (ltb widest_gap (n - h)) (decimal_short h) (decimal_short n)
  where
    go : (b c : Bool) → length (decimal h) ≤ 20 → length (decimal n) ≤ 20 → length (joined (cond b (ahead h n) (cond c (behind h n) (level h n)))) ≤ 250
    go true c d e = simp length-append (omega arith)
    go false true d e = simp length-append (omega arith)
    go false false d e = simp length-append (omega arith)

premise_short : (chain : Option Height) (l : Last) → length (joined (premise chain l)) ≤ 250
unfolding joined premise no_last
premise_short None l = omega arith
premise_short (Some n) None = omega arith
premise_short (Some n) (Some h) = beside_short h.0 n.0

pub told_short : (chain : Option Height) (on : Horizon) (a : Result State ReadError) (s : State) (f : ℕ → Text) → ((t : ℕ) → length (f t) ≤ 20) → length (joined (told chain on (read_answer a) s f)) ≤ 2048
unfolding told refusal name carried joined
told_short chain on (Ok t) s f h =
    let w = (board_of on).width in
    omega (arith, length_joined (premise chain s.last) (state_lines s ++ target_lines w f 1 25), premise_short chain s.last, length_joined (state_lines s) (target_lines w f 1 25), state_short s, lines_short w f h 1 25)
told_short chain on (Err ReadError.Damaged) s f h = omega arith
told_short chain on (Err ReadError.BadMagic) s f h = omega arith
told_short chain on (Err (ReadError.UnknownVersion v)) s f h = simp length-append (omega (arith, decimal_short v))
told_short chain on (Err ReadError.Corrupt) s f h = omega arith
told_short chain on (Err ReadError.NoRoom) s f h = omega arith

pub answered_short : (s : State) (confirmed resolved : List Float) (on : Horizon) (t : ℕ) → length (answered s confirmed resolved on t) ≤ 20
unfolding answered
answered_short s confirmed resolved on t = rate_short _
