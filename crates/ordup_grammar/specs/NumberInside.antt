-- What the fields of a number stand for.
use Rattle.std.specs.Prelude.{◌≡◌, ◌⊎◌, ◌<◌, Bool, true, false, ℤ, pos}
use Rattle.std.specs.Prelude.{negsuc, neg_ℤ, if◌then◌else◌, unsigned_abs}
use Rattle.ordup_grammar.specs.declared.number.Number.TheInside.{Inside}

-- whether a number is below zero
abbrev pub is_negative : ℤ → Bool
is_negative (pos n) = false
is_negative (negsuc n) = true

-- the number that a sign and a magnitude stand for
abbrev pub value_of : Inside → ℤ
value_of n = if is_negative n.sign then neg_ℤ (pos n.magnitude) else pos n.magnitude

-- the fields of a number: its sign is 1, or -1 where it is not zero
abbrev pub IsNumber : Inside → Type 0
IsNumber n = (n.sign ≡ pos 1) ⊎ ((n.sign ≡ negsuc 0) × (0 < n.magnitude))

-- the fields that stand for a number
abbrev pub inside_of : ℤ → Inside
inside_of z = record { sign = if is_negative z then negsuc 0 else pos 1; magnitude = unsigned_abs z }
