-- The last height, if there is one. Assumes nothing.
use Rattle.std.specs.Prelude.{Option}
use Rattle.kinds.specs.declared.Height.{Height}

abbrev pub Last : Type 0
Last = Option Height
