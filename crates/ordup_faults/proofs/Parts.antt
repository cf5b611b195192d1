-- What is written in parts.
use Rattle.std.proofs.Common.{◌∙◌, sym, ap, ℕ, List, ◌++◌, Option, append_assoc}
use Rattle.std.proofs.KnownBytes.{Appends-trans}
use Rattle.std.specs.Io.KnownBytes.{Appends}
use Rattle.ordup_text.specs.Fronts.{AppendsFront}

-- a prefix of the first part is one of both
pub front_of_first : (old new : Option (List ℕ)) (a b : List ℕ) → AppendsFront old new a → AppendsFront old new (a ++ b)
front_of_first old new a b (front, back, is, grew) =
    (front, back ++ b, ap (λ t. t ++ b) is ∙ append_assoc front back b, grew)

-- the first part, and a prefix of the second
pub front_after : (old mid new : Option (List ℕ)) (a b : List ℕ) → Appends old mid a → AppendsFront mid new b
    → AppendsFront old new (a ++ b)
front_after old mid new a b first (front, back, is, grew) =
    (a ++ front, back, ap (λ t. a ++ t) is ∙ sym (append_assoc a front back), Appends-trans old mid new a front first grew)
