-- Words that hold a state: how many and how large they are, what a store of one leaves, and that a state and its words tell one another. Assumes nothing.
use mathlib.Core.Path.{◌≡◌, refl, sym, ap₂, ◌∙◌}
use mathlib.Core.Bool.{Bool, true, false, ◌&&◌}
use mathlib.Core.List.{List, [], ◌∷◌}
use Prim.Native.Nat.{ℕ, ◌^◌, ◌<◌, ◌≤◌}
use native.Mathlib.Omega.{arith}
use borrow.Author.Tests.{ltb-true, leb-true, eqb-true, lt-ltb, le-leb}
use lib.Dec.{leb, ltb, eqb, lit<}
use lib.ListN.{length, get_or, set, drop}
use lib.Seq.{sets-eq}
use Rattle.kinds.specs.Last.{Last}
use Rattle.std.specs.Prelude.{None, Some}
use Rattle.kinds.specs.declared.State.{State}
use Rattle.rules.proofs.Records.{and_left, and_right}
use Rattle.boundary.specs.Words.{holds_last, last_in, holds_state, state_in, flag_of, height_of, put_state, WordsPromise}

-- two words that are a last height are its own two, and the height has 32 bits
record Own (flag height : ℕ) : Type 0 where
  pub low : height < 2 ^ 32
  pub flag_is : flag_of (last_in flag height) ≡ flag
  pub height_is : height_of (last_in flag height) ≡ height

own_last : (flag height : ℕ) → holds_last flag height ≡ true → Own flag height
unfolding holds_last last_in
own_last flag height h = go (eqb flag 0) refl
  where
    go : (t : Bool) → eqb flag 0 ≡ t → Own flag height
    go true e = let z : height ≡ 0 = eqb-true height 0 (rw e at h) in record { low = rw z (lit< tt); flag_is = rw e (sym (eqb-true flag 0 e)); height_is = rw e (sym z) }
    go false e =
        let z : (eqb flag 1 && ltb height (2 ^ 32)) ≡ true = rw e at h in
        record { low = ltb-true height (2 ^ 32) (and_right (eqb flag 1) _ z); flag_is = rw e (sym (eqb-true flag 1 (and_left (eqb flag 1) _ z))); height_is = rw e }

module _ (ws : List ℕ) (h : holds_state ws ≡ true) where
  pub four : 4 ≤ length ws
  unfolding holds_state
  four = leb-true 4 (length ws) (and_left (leb 4 (length ws)) _ h)

  pub low : get_or ws 1 0 < 2 ^ 32
  unfolding holds_state
  low = (own_last (get_or ws 0 0) (get_or ws 1 0) (and_right (leb 4 (length ws)) _ h)).low

-- four stores are the state's words
pub stored : (s : State) (ws : List ℕ) (a b : ℕ) → 4 ≤ length ws → a ≡ flag_of s.last → b ≡ height_of s.last
    → set (set (set (set ws 0 a) 1 b) 2 s.pending) 3 s.recent ≡ put_state s ws
unfolding put_state
stored s ws a b n p q =
    sets-eq (a ∷ b ∷ s.pending ∷ s.recent ∷ []) ws 0 n ∙ ap₂ (λ (x y : ℕ). x ∷ y ∷ s.pending ∷ s.recent ∷ drop 4 ws) p q

-- ---- a state and its words

own : (ws : List ℕ) → holds_state ws ≡ true → put_state (state_in ws) ws ≡ ws
unfolding holds_state state_in put_state
own [] h = absurd (omega (arith, four [] h))
own (a ∷ []) h = absurd (omega (arith, four (a ∷ []) h))
own (a ∷ b ∷ []) h = absurd (omega (arith, four (a ∷ b ∷ []) h))
own (a ∷ b ∷ c ∷ []) h = absurd (omega (arith, four (a ∷ b ∷ c ∷ []) h))
own (a ∷ b ∷ c ∷ d ∷ rest) h = let e = own_last a b (and_right (leb 4 (length (a ∷ b ∷ c ∷ d ∷ rest))) _ h) in ap₂ (λ (x y : ℕ). x ∷ y ∷ c ∷ d ∷ rest) e.flag_is e.height_is

back : (s : State) (ws : List ℕ) → state_in (put_state s ws) ≡ s
unfolding put_state state_in last_in
back s ws = go s.last
  where
    go : (l : Last) → ◌≡◌ {A = State} (record { last = last_in (flag_of l) (height_of l); pending = s.pending; recent = s.recent }) (record { last = l; pending = s.pending; recent = s.recent })
    go None = refl
    go (Some h) = refl

held : (s : State) (ws : List ℕ) → height_of s.last < 2 ^ 32 → holds_state (put_state s ws) ≡ true
unfolding put_state holds_state holds_last
held s ws h = rw (le-leb 4 (length (put_state s ws)) (omega arith), go s.last h)
  where
    go : (l : Last) → height_of l < 2 ^ 32 → holds_last (flag_of l) (height_of l) ≡ true
    go None h = refl
    go (Some b) h = lt-ltb b.0 (2 ^ 32) h

pub words : WordsPromise
words = record { own = own; back = back; held = held }
