-- Names to unfold for what is computed: each stands for all that it unfolds itself. Assumes nothing.
use lib.Ieee.{round, add, mul, div, le, lt, to_bits}
use Rattle.rules.specs.Lists.{count, any, every, keep, insert, places}
use Rattle.rules.specs.Ids.{same, below, rising, dropped, placed}
use Rattle.rules.specs.Ladder.{ladder, last_not_above, bucket_index, bucket_for}
use Rattle.rules.specs.Counts.{gain, apply_decay, finite, sound_count}
use Rattle.rules.specs.Bytes.{bytes}
use Rattle.rules.specs.Board.{in_range, pending_bytes, pending_of, confirmed_bytes, confirmed_of}
use Rattle.rules.specs.Records.{records, joined, all_zero, sound_table, laid}
use Rattle.rules.specs.Estimator.{fresh, is_pending, find, holds, admit, tx_entered, tx_left, record_confirmation, expire_targets, advance_height, advances, advance_heights, skip_heights, confirm, confirm_all, finish_block, block_connected}
use Rattle.rules.specs.Report.{sum, gained, additions, adds_found, adds_confirm, adds_all, adds_expire, adds_heights, adds_skip, adds_finish, adds}
use Rattle.rules.specs.Estimate.{column_of, column, passes, add_bucket, sums_down_to, rate_in_column, estimate}
use Rattle.rules.specs.Memory.{pending_records, confirmed_records, lay_pending, lay_confirmed, sound_pending, sound_confirmed, sound_counts, sound, view, state_of, lay}
use Rattle.rules.specs.Calls.{start_call, enter_call, leave_call, gap, ids_of, held_once_listed, block_call, block_report, rate_answer, estimate_call}
use Rattle.rules.proofs.Edge.{plain_zero, same_count, same_counts, only}

-- document 01's steps and the estimate
unfoldable pub compute_steps : Unit {0}
unfolding round add mul div le to_bits count any every keep insert places same below dropped placed ladder last_not_above bucket_index bucket_for gain apply_decay fresh is_pending find holds admit tx_entered tx_left record_confirmation expire_targets advance_height advances advance_heights skip_heights confirm confirm_all finish_block block_connected sum gained additions adds_found adds_confirm adds_all adds_expire adds_heights adds_skip adds_finish adds column_of column passes add_bucket sums_down_to rate_in_column estimate plain_zero same_count same_counts only
compute_steps = tt

-- the public calls, which judge memory, take the steps and lay the tables
unfoldable pub compute_calls : Unit {0}
unfolding compute_steps lt rising finite sound_count bytes Rattle.rules.specs.Bytes.le in_range pending_bytes pending_of confirmed_bytes confirmed_of records joined all_zero sound_table laid pending_records confirmed_records lay_pending lay_confirmed sound_pending sound_confirmed sound_counts sound view state_of lay start_call enter_call leave_call gap ids_of held_once_listed block_call block_report rate_answer estimate_call
compute_calls = tt
