-- Laws of pieces of text, written one after the other. Assumes nothing.
use mathlib.Core.Path.{◌≡◌, refl, sym, ap, ◌∙◌}
use mathlib.Core.List.{List, [], ◌∷◌, ◌++◌}
use Prim.Native.Nat.{ℕ}
use Rattle.print.specs.Page.{Page, write, writes}

pub writes_append : (a b : List (List ℕ)) (p : Page) → writes (a ++ b) p ≡ writes b (writes a p)
unfolding writes
writes_append [] b p = refl
writes_append (t ∷ a) b p = writes_append a b (write t p)

-- what two calls put, each some pieces
pub both : (a b : List (List ℕ)) (p : Page) {q z : Page} → q ≡ writes a p → z ≡ writes b q → z ≡ writes (a ++ b) p
both a b p e f = f ∙ ap (writes b) e ∙ sym (writes_append a b p)

-- pieces put on a page that is known otherwise
pub put_on : (a : List (List ℕ)) {p q z : Page} → z ≡ writes a p → p ≡ q → z ≡ writes a q
put_on a e f = e ∙ ap (writes a) f
