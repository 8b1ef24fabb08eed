-- What the answer of the reading says of the whole file. Assumes nothing.
use Rattle.std.specs.Prelude.{List, ℕ, ◌+◌, ◌*◌, length, Result, Ok, Err}
use Rattle.kinds.specs.declared.refusals.ReadError.{ReadError}
use Rattle.kinds.specs.Last.{Last}
use Rattle.kinds.specs.Answers.{read_refusal}
use Rattle.rules.specs.Ladder.{buckets}
use Rattle.rules.specs.Estimator.{Estimator}
use Rattle.format.specs.Parts.{Parsed, bad, good}
use Rattle.format.specs.File.{Version, height_length}
use Rattle.codec.specs.Places.{buckets_size, rows_at}
use Rattle.tables.specs.Places.{pendings, recents}
use Rattle.parse.specs.declared.Checked.{Checked}

-- where the buckets begin
abbrev pub head_size : Version → Last → ℕ
head_size v last = 17 + length v.after + height_length last

-- the estimator of the bytes s, with this last height and so many records
abbrev pub filed : Version → Checked → List ℕ → Estimator
filed v r s =
    let at = head_size v r.last in
    record {
      last = r.last;
      pending = pendings v s (at + buckets_size + 4) r.pending;
      recent = recents s (at + buckets_size + 4 + r.pending * v.records.size + 4) r.recent;
      confirmed = rows_at buckets s (at + 8);
      resolved = rows_at buckets s (at + 208);
    }

-- what the answer says of the bytes s
abbrev pub file_says : Version → Result Checked ReadError → List ℕ → Parsed Estimator
file_says v (Ok r) s = good (filed v r s)
file_says v (Err why) s = bad (read_refusal why)
