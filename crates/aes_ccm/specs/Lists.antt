-- Lists of bytes added bit by bit.
use Rattle.std.specs.Prelude.{ℕ, List, [], ◌∷◌, bit_xor}

-- Each byte of the first list added bit by bit to that of the second at its place. Where the second ends first, the
-- rest stays; what it has beyond the first doesn't matter.
unfoldable pub xored : List ℕ → List ℕ → List ℕ
xored [] ys = []
xored (x ∷ xs) [] = x ∷ xs
xored (x ∷ xs) (y ∷ ys) = bit_xor x y ∷ xored xs ys
