-- The pieces that are put are those of the file, and there is room for all of them. Assumes nothing.
use mathlib.Core.Path.{◌≡◌, sym, ap, ◌∙◌}
use mathlib.Core.List.{List}
use Prim.Native.Nat.{ℕ, ◌/◌, ◌≤◌, ◌<◌}
use native.Mathlib.Omega.{arith}
use borrow.Author.Tests.{lt-ltb, le-ltb}
use lib.Dec.{T}
use lib.ListN.{length}
use lib.Seq.{sets, length-sets, length-take-le}
use lib.Pow.{are_bytes}
use Rattle.io.specs.Counts.{IsPrefixLen}
use Rattle.kinds.specs.declared.Height.{Height}
use Rattle.kinds.specs.declared.Horizon.{Horizon}
use Rattle.kinds.specs.declared.State.{State}
use Rattle.kinds.specs.declared.refusals.ReadError.{ReadError}
use Rattle.std.specs.Prelude.{Option, Result}
use Rattle.kinds.specs.Answers.{read_answer}
use Rattle.rules.specs.Records.{joined}
use Rattle.rules.specs.Board.{board_of, pending_size, confirmed_size}
use Rattle.rules.specs.Memory.{Lent}
use Rattle.rules.specs.Calls.{Outcome, outcome}
use Rattle.format.specs.File.{version_of}
use Rattle.format.specs.Calls.{read_call}
use Rattle.print.specs.Page.{Page, page, writes}
use Rattle.print.specs.Text.{Text}
use Rattle.report.specs.Words.{refused, too_long}
use Rattle.report.specs.Shown.{line, told, Reach, reach, pieces, shown, printed}
use Rattle.report.specs.Rates.{answered}
use Rattle.report.proofs.Pieces.{whole}
use Rattle.report.proofs.Answered.{told_is}
use Rattle.report.proofs.Alike.{over, told_in_room}

module _ (r : Reach) (chain : Option Height) (on : Horizon) (file out : List ℕ) (long : length out ≡ 2048) where
  abbrev AllPut : Text → ℕ → Type 0
  AllPut x n = IsPrefixLen n x × (page x n ≡ printed (shown r chain on file) out)

  -- the file's pieces, where they are short enough, are all that it shows
  pub all_put : (ts : List Text) → ts ≡ pieces r chain on file → length (joined ts) ≤ 2048 → (x : Text) (n : ℕ) → page x n ≡ writes ts (page out 0) → AllPut x n
  unfolding shown
  all_put ts e h x n put =
      let p : page x n ≡ page (sets out 0 (joined ts)) (length (joined ts)) = put ∙ whole ts out (omega arith) in
      let k : n ≡ length (joined ts) = ap (λ (q : Page). q.at) p in
      let m : length x ≡ length out = ap (λ (q : Page). length q.bytes) p ∙ length-sets out 0 (joined ts) in
      ((omega arith, sym (length-take-le n x (omega arith))), p ∙ ap (λ (us : List Text). page (sets out 0 (joined us)) (length (joined us))) e)

  pub put_too_long : r.longest < length file → (x : Text) (n : ℕ) → page x n ≡ writes (line refused too_long) (page out 0) → AllPut x n
  unfolding pieces line joined
  put_too_long h = all_put (line refused too_long) (sym (rw (lt-ltb r.longest (length file) h))) (omega arith)

-- what a reading into tables of these lengths tells, of the board's own version, is what the file's pieces are
pub told_pieces : (chain : Option Height) (on : Horizon) (file : List ℕ) → T (are_bytes file) → (longest : ℕ) → length file ≤ longest → (pending recent : List ℕ)
    → (a : Result State ReadError) (s : State) (l : Lent) → outcome (read_answer a) s l ≡ read_call (version_of on) (board_of on) (over pending recent) file
    → told chain on (read_answer a) s (answered s l.confirmed l.resolved on) ≡ pieces (reach (length pending / pending_size) (length recent / confirmed_size) longest) chain on file
unfolding pieces
told_pieces chain on file b longest h pending recent a s l e =
    ap (λ (o : Outcome Lent). told chain on o.answer o.state (answered o.state o.lent.confirmed o.lent.resolved on))
    e
    ∙ told_is chain on (over pending recent) file b
    ∙ told_in_room chain on pending recent longest file
    ∙ sym (rw (le-ltb longest (length file) h))
