-- What went through a ring, and one parcel more.
use Rattle.std.proofs.Common.{◌≡◌, ◌+◌, ◌<◌, List, [], ◌∷◌, ◌++◌, length, take, refl, sym, ap, arith}
use Rattle.std.proofs.lemmas.List.{length_push}
use Rattle.std.proofs.Math.Seq.{take-append_seam}
use Rattle.ordup_ring.specs.declared.ring.Item.{Item}
use Rattle.ordup_ring.specs.declared.ring.Item.TheVariants.{Start, Next}
use Rattle.ordup_feed.specs.Parcels.{PlainParcel}
use Rattle.ordup_ring.specs.RingRule.{start_in, parcels_in, IsRun}

pub parcels-append : (xs ys : List Item) → parcels_in (xs ++ ys) ≡ parcels_in xs ++ parcels_in ys
parcels-append [] ys = refl
parcels-append (Start v ∷ xs) ys = parcels-append xs ys
parcels-append (Next p ∷ xs) ys = ap (λ (ps : List PlainParcel). p ∷ ps) (parcels-append xs ys)

pub start-append : (xs ys : List Item) → 0 < length xs → start_in (xs ++ ys) ≡ start_in xs
start-append [] ys some = absurd (omega (arith, some))
start-append (Start v ∷ xs) ys some = refl
start-append (Next p ∷ xs) ys some = refl

-- a run has at least its first item
pub run-some : (xs : List Item) → IsRun xs → 0 < length xs
run-some xs is = omega (arith, is)

-- one parcel more
pub run-more : (xs : List Item) (p : PlainParcel) → IsRun xs → IsRun (xs ++ Next p ∷ [])
run-more xs p is =
    omega (arith, is, length_push xs (Next p), ap length (parcels-append xs (Next p ∷ [])), length_push (parcels_in xs) p)

pub count-more : (xs : List Item) (p : PlainParcel) → length (parcels_in (xs ++ Next p ∷ [])) ≡ length (parcels_in xs) + 1
count-more xs p = omega (arith, ap length (parcels-append xs (Next p ∷ [])), length_push (parcels_in xs) p)

-- what was taken is a prefix of what was pushed
pub taken-prefix : (taken known sent : List Item) → taken ++ known ≡ sent
    → parcels_in taken ≡ take (length (parcels_in taken)) (parcels_in sent)
taken-prefix taken known sent is =
    sym (rw (← is, parcels-append taken known) (take-append_seam (parcels_in taken) (parcels_in known)))
