-- The bytes of words of paths that are read in one pass.
use Rattle.std.specs.Prelude.{◌≡◌, ℕ, suc, ◌<◌, ◌==◌, ◌&&◌, ◌||◌, Bool, true, false, not, nat_le, cond, List, [], ◌∷◌, length, get_or}
use Rattle.std.specs.Simd.Lanes.{zip2}

-- a byte of ASCII that may stand in a bare word and in a name, and is no dot: so bytes like it are UTF-8, and no reserved
-- name, since each of those has a dot
abbrev pub is_simple_byte : ℕ → Bool
is_simple_byte b = (nat_le 48 b && nat_le b 127 && not (b == 92)) || (b == 45)

abbrev pub is_slash : ℕ → Bool
is_slash b = b == 47

-- slashes and simple bytes, with no two slashes in a row, nor one at the end; `w` says whether a slash stands before
abbrev pub simple_text : Bool → List ℕ → Bool
simple_text w [] = not w
simple_text w (b ∷ bs) = cond (is_simple_byte b) (simple_text false bs) ((b == 47) && not w && simple_text true bs)

-- a byte that may stand behind another in such a text
abbrev pub may_follow : ℕ → ℕ → Bool
may_follow before b = is_simple_byte b || (is_slash b && not (is_slash before))

-- which of some bytes may not, each behind one of the others
abbrev pub misplaced : List ℕ → List ℕ → List Bool
misplaced bs ps = zip2 (λ b before. not (may_follow before b)) bs ps

-- each byte behind the first may
abbrev pub GoesOn : List ℕ → Type 0
GoesOn bs = (k : ℕ) → suc k < length bs → may_follow (get_or bs k 0) (get_or bs (suc k) 0) ≡ true
