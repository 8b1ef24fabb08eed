-- A page when an input has been read: what is printed of the bytes that the reader gives, where they are known, and else of some bytes. Assumes nothing.
use Rattle.std.specs.Prelude.{◌≡◌, ℕ, ◌≤◌, List, length, take, Option, IfSome}
use Rattle.print.specs.Page.{Page}
use Rattle.print.specs.Text.{Text}
use Rattle.report.specs.Shown.{printed}

-- the page `p`, that was `old`, has what `text` says of some file of at most `most` bytes
abbrev pub PrintsSome : (List ℕ → Text) → ℕ → Page → List ℕ → Type 0
PrintsSome text most p old = (file : List ℕ) × ((length file ≤ most) × (p ≡ printed (text file) old))

-- it has what `text` says of the first `most` bytes that the reader gives, where they are known
abbrev pub PrintsKnown : (List ℕ → Text) → Option (List ℕ) → ℕ → Page → List ℕ → Type 0
PrintsKnown text known most p old = IfSome known (λ file. p ≡ printed (text (take most file)) old)
