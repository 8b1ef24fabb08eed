-- How many confirmed records there will be once all listed ids are in, told from the tables as they stand before the block. Assumes nothing.
use Rattle.std.specs.Prelude.{ℕ, suc, ◌+◌, ◌-◌, max, Bool, false, not, ◌&&◌, ◌||◌, List, leb, ltb, None, Some}
use Rattle.kinds.specs.Last.{Last}
use Rattle.rules.specs.Lists.{count, any}
use Rattle.rules.specs.Ids.{Id, same}
use Rattle.rules.specs.Counts.{columns}
use Rattle.rules.specs.Board.{Board, Pending, Confirmed}
use Rattle.rules.specs.Estimator.{outwaited, prune_window}

-- the id is in the list, no matter how often and where
unfoldable pub listed : List Id → Id → Bool
listed ids i = any (same i) ids

-- there are skipped heights; the last of them is B - 1
unfoldable pub skips : Last → ℕ → Bool
skips None B = false
skips (Some L) B = ltb (suc L.0) B

-- a confirmed record stays through them
unfoldable pub stays : Last → ℕ → Confirmed → Bool
stays last B c = not (skips last B) || leb (B - 1 - c.height) prune_window

-- a pending record lasts through them
unfoldable pub lasts : Board → Last → ℕ → Pending → Bool
lasts k last B r = not (skips last B) || ltb (max r.through (outwaited k (B - 1) r)) columns

-- the confirmed record of i, if there is one, stays through them
unfoldable pub still_held : Last → ℕ → List Confirmed → Id → Bool
still_held last B cs i = any (λ c. same c.id i && stays last B c) cs

-- a listed pending record makes one confirmed record more: it lasts through them, and none of its id stays
unfoldable pub adds_one : Board → List Id → ℕ → Last → List Confirmed → Pending → Bool
adds_one k ids B last cs r = listed ids r.id && (lasts k last B r && not (still_held last B cs r.id))

-- the confirmed records that stay, and those that the list makes more
unfoldable pub needed : Board → List Id → ℕ → Last → List Pending → List Confirmed → ℕ
needed k ids B last ps cs = count (stays last B) cs + count (adds_one k ids B last cs) ps
