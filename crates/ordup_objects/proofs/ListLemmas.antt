-- Lists of one element.
use Rattle.std.proofs.Common.{◌≡◌, ◌≤◌, ◌<◌, List, [], ◌∷◌, length, get_or, arith}

-- a list of one element is that element alone
pub alone : {X : Type 0} (xs : List X) (x : X) → 1 ≤ length xs → length xs < 2 → x ≡ get_or xs 0 x → xs ≡ x ∷ []
alone [] x some one first = absurd (omega arith)
alone (y ∷ []) x some one first = cc
alone (y ∷ z ∷ xs) x some one first = absurd (omega arith)
