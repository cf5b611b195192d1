-- The parts of a list, from the index of the first element at which it is cut.
use Rattle.std.proofs.Common.{◌≡◌, ◌∙◌, ap, ℕ, suc, ◌+◌, ◌-◌, ◌<◌, ◌≤◌, refl}
use Rattle.std.proofs.Common.{Bool, false, true, cond, nat_lt, List, [], ◌∷◌, ◌++◌, length}
use Rattle.std.proofs.Common.{take, drop, get_or, Some, None, arith, add-one, position, not, sym, inl, inr, ◌==◌}
use Rattle.std.proofs.Math.Seq.{split_at}
use Rattle.std.proofs.lemmas.Bool.{cases_lt, eqb-true}
use Rattle.std.proofs.lemmas.Bool.Decides.{nat_tests}
use Rattle.std.proofs.lemmas.List.{drop_all, drop_more, get_or-take, length-drop, length-take, take_all}
use Rattle.std.proofs.lemmas.List.Elements.{All-from_get_or}
use Rattle.std.proofs.lemmas.List.Folds.{length-prefix_len}
use Rattle.std.proofs.lemmas.List.Quantifiers.{position-Some}
use Rattle.std.proofs.lemmas.List.Splits.{length-slice_split, slice_split_at, slice_split_first, slice_split_none}
use Rattle.std.proofs.lemmas.List.Sums.{count_by-le-length, fails_before_first, length-filter, passes_at_first, position_or_len_is}
use Rattle.std.specs.List.{All, slice_split, position_or_len}
use Rattle.memchr.specs.Find.{IsFirstByte}
use Rattle.ordup_grammar.specs.Words.{begins_with, words_of}

-- what is not true is false
is_false : (b : Bool) → ¬ (b ≡ true) → b ≡ false
is_false true h = absurd (h refl)
is_false false h = refl

-- an index that is no answer is the end
at_end : (index len : ℕ) → cond (nat_lt index len) (Some index) None ≡ None → len ≤ index
at_end index len h = grind (arith, nat_tests)

-- before the first index that passes none does
front_fails : (p : ℕ → Bool) (xs : List ℕ) (i : ℕ) → ((k : ℕ) → k < i → p (get_or xs k 0) ≡ false)
    → All (λ x. p x ≡ false) (take i xs)
front_fails p xs i before =
    All-from_get_or (λ x. p x ≡ false) (take i xs) 0 (λ k below.
    let early : k < i = omega (arith, length-take {A = ℕ}) in
    rw (get_or-take i xs k 0 early) (before k early))

-- what stands around the first of these bytes
pub split-first_byte : (b : ℕ) (xs : List ℕ) (i : ℕ) → IsFirstByte (λ x. x == b) xs (Some i)
    → All (λ x. (x == b) ≡ false) (take i xs) × (xs ≡ take i xs ++ b ∷ take (length xs - (i + 1)) (drop (i + 1) xs))
split-first_byte b xs i (first, passes) =
    let is : get_or xs i 0 ≡ b = eqb-true (get_or xs i 0) b passes in
    let rest : take (length xs - (i + 1)) (drop (i + 1) xs) ≡ drop (i + 1) xs = take_all _ _ (rw length-drop (omega arith)) in (
      front_fails (λ x. x == b) xs i (λ k below. is_false (get_or xs k 0 == b) (first.before k (omega arith) below)),
      rw (rest, add-one) (split_at xs i 0 first.high ∙ ap (λ x. take i xs ++ x ∷ drop (suc i) xs) is),
    )

-- no byte passes
pub fails-no_byte : (p : ℕ → Bool) (xs : List ℕ) → IsFirstByte p xs None → All (λ x. p x ≡ false) xs
fails-no_byte p xs nowhere =
    All-from_get_or (λ x. p x ≡ false) xs 0 (λ k below. is_false (p (get_or xs k 0)) (nowhere k (omega arith) below))

-- an index is within the list
pub index_within : (p : ℕ → Bool) (xs : List ℕ) → position_or_len p xs ≤ length xs
index_within p xs = omega (arith, length-prefix_len (λ x. not (p x)) xs, length-take (position_or_len p xs) xs)

-- the index of the first of these bytes
pub index-first_byte : (b : ℕ) (xs : List ℕ) (i : ℕ) → IsFirstByte (λ x. x == b) xs (Some i) → position_or_len (λ x. x == b) xs ≡ i
index-first_byte b xs i (first, passes) =
    position_or_len_is (λ x. x == b) xs i 0 (omega (arith, first.high))
    (λ k below. is_false (get_or xs k 0 == b) (first.before k (omega arith) below)) (λ inside. passes)

pub index-no_byte : (b : ℕ) (xs : List ℕ) → IsFirstByte (λ x. x == b) xs None → position_or_len (λ x. x == b) xs ≡ length xs
index-no_byte b xs nowhere =
    position_or_len_is (λ x. x == b) xs (length xs) 0 (omega arith)
    (λ k below. is_false (get_or xs k 0 == b) (nowhere k (omega arith) below)) (λ inside. absurd (omega (arith, inside)))

-- a list that is cut nowhere is its one part
pub slice_split-no_index : (p : ℕ → Bool) (xs : List ℕ) → length xs ≤ position_or_len p xs → slice_split p xs ≡ xs ∷ []
slice_split-no_index p xs end = slice_split_none p xs (λ k d below. fails_before_first p xs k d (omega (arith, end, below)))

-- the first index at which a list is cut ends its first part
pub slice_split-position : (p : ℕ → Bool) (xs : List ℕ) (i : ℕ) → position p xs ≡ Some i
    → slice_split p xs ≡ take i xs ∷ slice_split p (take (length xs - (i + 1)) (drop (i + 1) xs))
slice_split-position p xs i h =
    let found = position-Some p xs i 0 h in
    let rest : take (length xs - (i + 1)) (drop (i + 1) xs) ≡ drop (i + 1) xs = take_all _ _ (rw length-drop (omega arith)) in
    rw (rest, add-one) (ap (slice_split p) (split_at xs i 0 found.0)
    ∙ slice_split_at p (take i xs) (get_or xs i 0) (drop (suc i) xs) (front_fails p xs i found.2) found.1)

-- with no such index a list is its one part
pub slice_split-no_position : (p : ℕ → Bool) (xs : List ℕ) → position p xs ≡ None → slice_split p xs ≡ xs ∷ []
slice_split-no_position p xs h = slice_split-no_index p xs (at_end (position_or_len p xs) (length xs) h)

-- the same, by the index or the length
pub slice_split-index : (p : ℕ → Bool) (xs : List ℕ) (i : ℕ) → i ≡ position_or_len p xs → i < length xs
    → slice_split p xs ≡ take i xs ∷ slice_split p (drop (i + 1) xs)
slice_split-index p xs i is inside = rw is (slice_split_first p xs 0 (omega (arith, is, inside)))

abbrev is_space : ℕ → Bool
is_space byte = byte == 32

abbrev is_word : List ℕ → Bool
is_word word = not (length word == 0)

-- a line has no more words than bytes, and one
pub few_words : (line : List ℕ) → length (words_of line) ≤ length line + 1
few_words line =
    let parts = slice_split is_space line in
    omega (
      arith,
      length-filter is_word parts,
      count_by-le-length is_word parts,
      length-slice_split is_space line,
      count_by-le-length is_space line,
    )

-- without a space before them the words are the same
pub words_without_space : (line : List ℕ) → begins_with 32 line ≡ true → words_of (drop 1 line) ≡ words_of line
words_without_space [] begins = absurd cc
words_without_space (x ∷ xs) begins = rw begins refl

-- a line that begins with a byte has one
pub begins_some : (byte : ℕ) (line : List ℕ) → begins_with byte line ≡ true → 1 ≤ length line
begins_some byte [] begins = absurd cc
begins_some byte (x ∷ xs) begins = omega arith

word_before_space : (line : List ℕ) (end : ℕ) → 0 < end → end ≡ position_or_len is_space line → end < length line
    → words_of line ≡ take end line ∷ words_of (drop end line)
word_before_space line end some is inside =
    let byte = get_or line end 0 in
    let rest = drop (end + 1) line in
    let word : is_word (take end line) ≡ true = grind (arith, nat_tests, length-take end line) in
    let space : is_space byte ≡ true = rw is (passes_at_first is_space line 0 (omega (arith, is, inside))) in
    let behind : words_of (drop end line) ≡ words_of rest =
    rw (drop_more line end 0 inside) (sym (words_without_space (byte ∷ rest) space)) in
    rw (slice_split-index is_space line end is inside, behind, word) refl

last_word : (line : List ℕ) (end : ℕ) → 0 < length line → end ≡ position_or_len is_space line → length line ≤ end
    → words_of line ≡ take end line ∷ words_of (drop end line)
last_word line end some is past =
    let word : is_word line ≡ true = grind (arith, nat_tests) in
    rw (slice_split-no_index is_space line (omega (arith, is, past)), take_all end line past, drop_all end line past, word) refl

-- the first word of a line that begins with no space, and those after it
pub first_word : (line : List ℕ) (end : ℕ) → begins_with 32 line ≡ false → 0 < length line → end ≡ position_or_len is_space line
    → words_of line ≡ take end line ∷ words_of (drop end line)
first_word [] end begins some is = absurd (omega (arith, some))
first_word (x ∷ xs) end begins some is =
    let after : position_or_len is_space (x ∷ xs) ≡ 1 + position_or_len is_space xs = rw begins refl in
    elim (cases_lt end (length (x ∷ xs))) [
      | inl inside ↦ word_before_space (x ∷ xs) end (omega (arith, after, is)) is inside
      | inr past ↦ last_word (x ∷ xs) end some is past
    ]
