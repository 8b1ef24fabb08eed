-- Names to unfold for what is computed, as in `rules`: each stands for all that it unfolds itself. Assumes nothing.
use Rattle.rules.proofs.Computed.{compute_steps, compute_calls}
use Rattle.meaning.specs.Runs.{last_of, Above, Rising, empties, skipped, singly, event_of, outcome_of, noted, after, after_all, started, calls}
use Rattle.meaning.specs.Fates.{admissions, lists, reached, within, verdict, settle, fate, fate_of, of_kind, counted_at, counts_in, tally, ones, stored, count_of}
use Rattle.meaning.specs.Answered.{run, total}
use Rattle.meaning.specs.Report.{report_of, reports, log_reports, allowance, heights_of, tallies}

-- runs of the public calls, and whether their blocks rise
unfoldable pub compute_runs : Unit {0}
unfolding compute_calls event_of outcome_of noted after after_all started calls report_of reports Rising last_of Above
compute_runs = tt

-- what a log makes
unfoldable pub compute_logs : Unit {0}
unfolding compute_steps last_of empties skipped singly admissions lists reached within verdict settle fate fate_of of_kind counted_at counts_in tally ones stored count_of run total log_reports allowance heights_of tallies
compute_logs = tt
