-- What is printed of the first bytes of a buffer is what is printed of the bytes that the reader gave. Assumes nothing.
use Rattle.std.specs.Prelude.{◌≡◌, ℕ, List, length, take, Option, Some, None}
use Rattle.std.proofs.Common.{ap, ◌∙◌}
use Rattle.print.specs.Page.{Page}
use Rattle.print.specs.Text.{Text}
use Rattle.report.specs.Shown.{printed}
use Rattle.buffers.specs.Filled.{Filled}
use Rattle.views.specs.Read.{PrintsKnown}

pub known_page : (known : Option (List ℕ)) (text : List ℕ → Text) (most : ℕ) (buf : List ℕ) (n : ℕ) (p : Page) (old : List ℕ) → Filled known buf n → length buf ≡ most → p ≡ printed (text (take n buf)) old → PrintsKnown text known most p old
known_page None text most buf n p old f l e = tt
known_page (Some xs) text most buf n p old f l e = e ∙ ap (λ file. printed (text file) old) (f ∙ ap (λ k. take k xs) l)
