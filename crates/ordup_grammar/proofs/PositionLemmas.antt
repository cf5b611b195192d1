-- Where a byte first stands in a text, by blocks of it that are compared.
use Rattle.std.proofs.Common.{◌≡◌, ◌≢◌, ℕ, ◌+◌, ◌≤◌, ◌%◌, ◌^◌, Bool, cond}
use Rattle.std.proofs.Common.{List, length, map, take, drop, replicate, length-take, length-drop, arith}
use Rattle.std.specs.Prelude.{not, nat_eq, ◌==◌}
use Rattle.std.specs.List.{prefix_len}
use Rattle.std.specs.Simd.Lanes.{zip2, mask_l, top}
use Rattle.std.specs.Int.{w8}
use Rattle.std.proofs.lemmas.Simd.{bitmask_splat, first_set_mask_l}
use lib.Count.{count_trailing_zeros}
use Rattle.ordup_grammar.proofs.PrintedLemmas.{without_zero, with_zero}

module _ (wanted : ℕ) where
  abbrev is_wanted : ℕ → Bool
  is_wanted byte = byte == wanted

  module _ (text : List ℕ) (index n : ℕ) (spare : index + n ≤ length text) (few : n ≤ 64) where
    abbrev block : List ℕ
    block = take n (drop index text)

    -- the bytes of the block that are wanted, as the bits of a number
    abbrev found : ℕ
    found = mask_l (map (top 7) (zip2 (λ a b. cond (nat_eq a b) 255 0) block (replicate n wanted))) % 2 ^ 64

    long : length block ≡ n
    long = omega (arith, length-take n (drop index text), length-drop index text)

    first_found : cond (found == 0) n (count_trailing_zeros 64 found) ≡ prefix_len (λ byte. not (is_wanted byte)) block
    first_found = rw (bitmask_splat w8 nat_eq block n wanted long few) (first_set_mask_l is_wanted block n long few)

    pub before_found : found ≢ 0 → count_trailing_zeros 64 found ≡ prefix_len (λ byte. not (is_wanted byte)) block
    before_found some = without_zero found n (count_trailing_zeros 64 found) _ first_found some

    pub none_found : found ≡ 0 → n ≡ prefix_len (λ byte. not (is_wanted byte)) block
    none_found none = with_zero found n (count_trailing_zeros 64 found) _ first_found none
