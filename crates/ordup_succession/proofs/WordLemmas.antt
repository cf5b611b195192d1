-- Words with spaces between them are read back as these words.
use Rattle.std.proofs.Common.{◌≡◌, refl, ap, ℕ, ◌*◌, ◌<◌, ◌≤◌, Bool, true, false}
use Rattle.std.proofs.Common.{List, [], ◌∷◌, length, length-append, arith}
use Rattle.std.specs.Prelude.{not, ◌==◌, Some}
use Rattle.std.specs.List.{All, list_all}
use Rattle.std.proofs.lemmas.Bool.{and_parts}
use Rattle.std.proofs.lemmas.Bool.Decides.{nat_tests}
use Rattle.std.proofs.lemmas.List.Elements.{All-append, All-cons, All-head, All-nil, All-tail}
use Rattle.std.proofs.lemmas.List.Splits.{slice_split_at, slice_split_none}
use Rattle.std.proofs.lemmas.List.Sums.{list_all-from_AllPass}
use Rattle.ordup_grammar.specs.Lines.{IsPart, cut, is_line_feed}
use Rattle.ordup_grammar.specs.Requests.{is_printed}
use Rattle.ordup_grammar.specs.Words.{words_of}
use Rattle.ordup_succession.specs.Lines.{spaced}
use Rattle.ordup_succession.proofs.Words.{IsWord, is_word_byte}

-- ---- the bytes of words

abbrev is_space : ℕ → Bool
is_space byte = byte == 32

-- what the bytes of words are has each byte of a word
word_bytes : (P : ℕ → Type 0) → ((b : ℕ) → is_word_byte b ≡ true → P b) → (word : List ℕ) → list_all is_word_byte word ≡ true → All P word
word_bytes P f [] h = All-nil P
word_bytes P f (b ∷ word) h =
    let both = and_parts (is_word_byte b) (list_all is_word_byte word) h in
    All-cons P b word (f b both.0) (word_bytes P f word both.1)

-- what a space and the bytes of words are has each byte of words with spaces between them
spaced_bytes : (P : ℕ → Type 0) → P 32 → ((b : ℕ) → is_word_byte b ≡ true → P b) → (words : List (List ℕ)) → All IsWord words
    → All P (spaced words)
spaced_bytes P space f [] are = All-nil P
spaced_bytes P space f (word ∷ []) are = word_bytes P f word (All-head IsWord word [] are).bytes
spaced_bytes P space f (word ∷ next ∷ words) are =
    All-append P word (32 ∷ spaced (next ∷ words)) (word_bytes P f word (All-head IsWord word (next ∷ words) are).bytes)
    (All-cons P 32 (spaced (next ∷ words)) space (spaced_bytes P space f (next ∷ words) (All-tail IsWord word (next ∷ words) are)))

no_space : (b : ℕ) → is_word_byte b ≡ true → is_space b ≡ false
no_space b h = grind (arith, nat_tests)

no_line_feed : (b : ℕ) → is_word_byte b ≡ true → is_line_feed b ≡ false
no_line_feed b h = grind (arith, nat_tests)

-- no line ends among words
pub words_are_part : (words : List (List ℕ)) → All IsWord words → IsPart (spaced words)
words_are_part = spaced_bytes (λ b. is_line_feed b ≡ false) refl no_line_feed

-- words are printed
pub words_are_printed : (words : List (List ℕ)) → All IsWord words → list_all is_printed (spaced words) ≡ true
words_are_printed words are =
    list_all-from_AllPass is_printed (spaced words)
    (spaced_bytes (λ b. is_printed b ≡ true) refl (λ b h. (and_parts (is_printed b) _ h).0) words are)

-- ---- how long words are

-- each word has at most 20 bytes, and a space before the next one
length-spaced : (words : List (List ℕ)) → All IsWord words → length (spaced words) ≤ 21 * length words
length-spaced [] are = omega arith
length-spaced (word ∷ []) are = omega (arith, (All-head IsWord word [] are).few)
length-spaced (word ∷ next ∷ words) are =
    omega (
      arith,
      (All-head IsWord word (next ∷ words) are).few,
      length-append word (32 ∷ spaced (next ∷ words)),
      length-spaced (next ∷ words) (All-tail IsWord word (next ∷ words) are),
    )

short : (bytes : List ℕ) → length bytes ≤ 2100 → cut bytes ≡ Some bytes
short bytes few = grind (arith, nat_tests)

-- 100 words are no line that is too long
pub words_are_short : (words : List (List ℕ)) → length words ≤ 100 → All IsWord words → cut (spaced words) ≡ Some (spaced words)
words_are_short words few are = short (spaced words) (omega (arith, length-spaced words are))

-- ---- words are read back

some_byte : (word : List ℕ) → 0 < length word → not (length word == 0) ≡ true
some_byte word some = grind (arith, nat_tests)

-- the words of a line of words are these
pub words_are_read : (words : List (List ℕ)) → All IsWord words → words_of (spaced words) ≡ words
words_are_read [] are = refl
words_are_read (word ∷ []) are =
    let is = All-head IsWord word [] are in
    rw (slice_split_none is_space word (word_bytes (λ b. is_space b ≡ false) no_space word is.bytes), some_byte word is.some) refl
words_are_read (word ∷ next ∷ words) are =
    let is = All-head IsWord word (next ∷ words) are in
    let front = word_bytes (λ b. is_space b ≡ false) no_space word is.bytes in
    rw (slice_split_at is_space word 32 (spaced (next ∷ words)) front refl, some_byte word is.some)
    (ap (λ rest. word ∷ rest) (words_are_read (next ∷ words) (All-tail IsWord word (next ∷ words) are)))
