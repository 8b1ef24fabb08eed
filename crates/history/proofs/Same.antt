-- Today the pending records of every version of the file are laid out as those of every board's table. Assumes nothing.
use mathlib.Core.Path.{◌≡◌, refl, sym, ap, ◌∙◌}
use Prim.Native.Nat.{ℕ}
use Rattle.kinds.specs.declared.FileVersion.{FileVersion}
use Rattle.kinds.specs.declared.Horizon.{Horizon}
use Rattle.rules.specs.Board.{Layout, board_of}
use Rattle.format.specs.File.{version_told}

pub same_records : (v : FileVersion) (on : Horizon) → (version_told v).records ≡ (board_of on).table
same_records FileVersion.One Horizon.Base = refl
same_records FileVersion.One Horizon.Wide = refl
same_records FileVersion.Three Horizon.Base = refl
same_records FileVersion.Three Horizon.Wide = refl

-- the code's two numbers of bytes
pub same_size : (v : FileVersion) (on : Horizon) (file table : ℕ) → file ≡ (version_told v).records.size → table ≡ (board_of on).table.size → table ≡ file
same_size v on file table e f = f ∙ sym (ap (λ (y : Layout). y.size) (same_records v on)) ∙ sym e
