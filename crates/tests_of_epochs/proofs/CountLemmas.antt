-- An archive that counts what it is given, up to the greatest count.
use Rattle.std.proofs.Common.{◌≡◌, ℕ, suc, ◌+◌, ◌≤◌, ◌∷◌, List, [], length, min, arith, ap, sym, ◌∙◌}
use Rattle.std.specs.List.{FoldsTo}
use Rattle.ordup_cluster.specs.Clusters.{ClosedState}
use Rattle.ordup_epochs.specs.Archives.{Archives}

base : (n most : ℕ) → n ≤ most → n ≡ min (n + 0) most
base n most few = omega arith

step : (n m k l most : ℕ) → m ≡ min (n + 1) most → k ≡ min (m + l) most → k ≡ min (n + suc l) most
step n m k l most e f = omega arith

few_after : (n m most : ℕ) → m ≡ min (n + 1) most → m ≤ most
few_after n m most e = omega arith

pub all_are_counted : {A : Type 0} (count : A → ℕ) (most : ℕ) (old : A) (all : List ClosedState) (new : A) → count old ≤ most
    → FoldsTo (Archives (λ a _ b. count b ≡ min (count a + 1) most)) old all new → count new ≡ min (count old + length all) most
all_are_counted count most old [] new few same = ap count (sym same) ∙ base (count old) most few
all_are_counted count most old (x ∷ xs) new few steps =
    step (count old) (count steps.0) (count new) (length xs) most steps.1.1
    (all_are_counted count most steps.0 xs new (few_after (count old) (count steps.0) most steps.1.1) steps.2)
