-- The judging of a whole file, case by case. No contract cites this file. Assumes nothing.
use mathlib.Core.Path.{◌≡◌, sym, ap, ◌∙◌}
use mathlib.Core.Bool.{true}
use mathlib.Core.List.{List}
use Prim.Native.Nat.{ℕ, ◌+◌, ◌≤◌}
use lib.ListN.{length, drop}
use Rattle.std.specs.Prelude.{Option, Some, None, Result, Err, ok_or}
use Rattle.std.specs.Result.{IsErrAnd}
use Rattle.std.proofs.lemmas.Result.{err_from_is_err_and}
use Rattle.kinds.specs.declared.refusals.ReadError.{ReadError}
use Rattle.kinds.specs.Last.{Last}
use Rattle.kinds.specs.Answers.{read_refusal, corrupt}
use Rattle.rules.specs.Ladder.{buckets}
use Rattle.format.specs.Parts.{bad, good, ended, is_read}
use Rattle.format.specs.File.{Version, rates, read_buckets, read_tables, read_history}
use Rattle.codec.specs.Places.{buckets_size}
use Rattle.codec.proofs.Rated.{both_rows}
use Rattle.tables.specs.Says.{tables_say}
use Rattle.tables.specs.declared.Sizes.{Sizes}
use Rattle.parse.specs.declared.Checked.{Checked}
use Rattle.parse.specs.Says.{head_size, filed, file_says}
use Rattle.parse.proofs.Whole.{Headed, with_tables, file_tables}

-- a refusal that is handed up
pub says_why : (v : Version) (r : Result Checked ReadError) (s : List ℕ) (why : ReadError) → IsErrAnd r (λ e. e ≡ why) → file_says v r s ≡ bad (read_refusal why)
says_why v r s why h =
    let p = err_from_is_err_and r h in
    ap (λ (x : Result Checked ReadError). file_says v x s) p.1 ∙ ap (λ (e : ReadError). bad (read_refusal e)) p.2

-- no tables are corrupt
pub no_tables : (t : Option Sizes) (e : ReadError) → ok_or t ReadError.Corrupt ≡ Err e → e ≡ ReadError.Corrupt
no_tables None e h = cc
no_tables (Some z) e h = cc

module _ (v : Version) (s : List ℕ) (last : Last) (h : Headed v s last) (at : ℕ) (e : at ≡ head_size v last)
    (k : at + buckets_size ≤ length s) (f : is_read (read_buckets rates (drop at s)) ≡ true)
    (t : Option Sizes) (q : tables_say v t s (at + buckets_size) ≡ ended (read_tables v (drop (at + buckets_size) s))) where
  pub tables_good : (z : Sizes) → t ≡ Some z → good (filed v (record { last = last; pending = z.pending; recent = z.recent }) s) ≡ read_history v s
  unfolding with_tables
  tables_good z o =
      rw (← e) (sym (file_tables v s last h at e k f ∙ ap (with_tables last (both_rows buckets s at)) (sym q) ∙ rw o))

  pub tables_bad : t ≡ None → bad corrupt ≡ read_history v s
  unfolding with_tables
  tables_bad o = sym (file_tables v s last h at e k f ∙ ap (with_tables last (both_rows buckets s at)) (sym q) ∙ rw o)
