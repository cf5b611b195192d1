-- Names.
use Rattle.std.specs.Prelude.{ℕ, ◌&&◌, ◌||◌, ◌==◌, Bool, false, List, [], ◌∷◌, length, nat_le}
use Rattle.std.specs.List.{list_all}
use Rattle.ordup_objects.specs.Sizes.{most_name_bytes}

-- a to z
abbrev pub is_letter : ℕ → Bool
is_letter b = nat_le 97 b && nat_le b 122

-- a to z, 0 to 9 or _
abbrev pub is_name_byte : ℕ → Bool
is_name_byte b = is_letter b || (nat_le 48 b && nat_le b 57) || b == 95

abbrev pub begins_with_letter : List ℕ → Bool
begins_with_letter [] = false
begins_with_letter (b ∷ bytes) = is_letter b

-- 1 to 16 bytes of a to z, 0 to 9 and _ that begin with a letter
abbrev pub is_name : List ℕ → Bool
is_name bytes = begins_with_letter bytes && nat_le (length bytes) most_name_bytes && list_all is_name_byte bytes
