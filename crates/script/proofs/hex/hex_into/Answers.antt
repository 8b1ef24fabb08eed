-- `script::hex::hex_into` meets its contract.
-- Assumes nothing.
use mathlib.Core.Path.{ap, sym, ◌∙◌}
use Prim.Native.Nat.{◌/◌}
use native.Mathlib.Omega.{arith}
use lib.ListN.{length}
use Rattle.std.specs.Prelude.{Some}
use Rattle.script.specs.Hex.{filled}
use Rattle.script.proofs.Hexes.{into_short, into_bad, into_yes}
use Rattle.script.proofs.hex.hex_into.Goals as goal
use Rattle.script.proofs.hex.hex_into.Goals.{then-out-n-via-then-out-n, then-out-n-via-else-out-n+then-not-is_hex}

pub returns-then-out-n : goal.returns-then-out-n
returns-then-out-n c =
    elim c.then-out-n.branch [
      | then-out-n-via-then-out-n w ↦ sym (into_short c.args.word.now c.args.out.now w.if-out-n.true)
      | then-out-n-via-else-out-n+then-not-is_hex w ↦ sym (into_bad c.args.word.now c.args.out.now (sym w.is_hex.ensures ∙ w.if-not-is_hex.true))
    ]

pub returns : goal.returns
returns c =
    ap (filled (Some (length c.args.word.now / 2))) c.unhex.ensures
    ∙ sym (into_yes c.args.word.now c.args.out.now (omega arith) (sym c.is_hex.ensures ∙ c.if-not-is_hex.false))
