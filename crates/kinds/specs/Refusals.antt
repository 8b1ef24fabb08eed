-- No refusal has the number of Done. Assumes nothing.
use Rattle.std.specs.Prelude.{◌<◌}
use Rattle.std.proofs.Common.{arith}
use Rattle.kinds.specs.declared.refusals.Damaged.{Damaged}
use Rattle.kinds.specs.declared.refusals.EnterError.{EnterError}
use Rattle.kinds.specs.declared.refusals.LeaveError.{LeaveError}
use Rattle.kinds.specs.declared.refusals.BlockError.{BlockError}
use Rattle.kinds.specs.declared.refusals.ReadError.{ReadError}
use Rattle.kinds.specs.declared.refusals.WriteError.{WriteError}
use Rattle.kinds.specs.Answers.{start_refusal, enter_refusal, leave_refusal, block_refusal, read_refusal, write_refusal}

pub start_refuses : (d : Damaged) → 0 < (start_refusal d).number
start_refuses d = omega arith

pub enter_refuses : (e : EnterError) → 0 < (enter_refusal e).number
enter_refuses EnterError.Damaged = omega arith
enter_refuses EnterError.BelowFloor = omega arith
enter_refuses EnterError.AlreadyPending = omega arith
enter_refuses EnterError.PendingFull = omega arith

pub leave_refuses : (e : LeaveError) → 0 < (leave_refusal e).number
leave_refuses LeaveError.Damaged = omega arith
leave_refuses LeaveError.Absent = omega arith

pub block_refuses : (e : BlockError) → 0 < (block_refusal e).number
block_refuses BlockError.Damaged = omega arith
block_refuses BlockError.BadList = omega arith
block_refuses BlockError.GapTooWide = omega arith
block_refuses BlockError.ConfirmedFull = omega arith

pub read_refuses : (e : ReadError) → 0 < (read_refusal e).number
read_refuses ReadError.Damaged = omega arith
read_refuses ReadError.BadMagic = omega arith
read_refuses (ReadError.UnknownVersion v) = omega arith
read_refuses ReadError.Corrupt = omega arith
read_refuses ReadError.NoRoom = omega arith

pub write_refuses : (e : WriteError) → 0 < (write_refusal e).number
write_refuses WriteError.Damaged = omega arith
write_refuses (WriteError.ShortOutput n) = omega arith
