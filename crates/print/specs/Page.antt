-- Text written into a buffer at a cursor. Assumes nothing.
use Rattle.std.specs.Prelude.{ℕ, ◌+◌, cond, List, [], ◌∷◌, leb, length}
use Rattle.std.proofs.lemmas.List.Edits.{sets}
use Rattle.print.specs.declared.Cursor.{Cursor}

-- a buffer's bytes, and the cursor
pub record Page : Type 0 where
  pub bytes : List ℕ
  pub at : ℕ

-- a page with these bytes and this cursor
abbrev pub page : List ℕ → ℕ → Page
page bytes at = record { bytes = bytes; at = at }

-- a buffer's bytes and its cursor
abbrev pub page_of : Cursor → Page
page_of c = page c.out.now c.at

-- the text stands at the cursor, which moves behind it; where there is no room for all of it, the page stays as it is
unfoldable pub write : List ℕ → Page → Page
write text p = cond (leb (p.at + length text) (length p.bytes)) (page (sets p.bytes p.at text) (p.at + length text)) p

-- one piece of text after the other
unfoldable pub writes : List (List ℕ) → Page → Page
writes [] p = p
writes (t ∷ ts) p = writes ts (write t p)
