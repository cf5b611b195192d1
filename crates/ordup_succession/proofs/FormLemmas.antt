-- The text of lines that are formed one after another.
use Rattle.ordup_audit.proofs.Common.{◌++◌, ◌+◌, ◌<◌, ◌∙◌, ◌∷◌, ◌≡◌, [], ap, append-nil, append_assoc, decimal, drop, Entries, Err, get_or}
use Rattle.ordup_audit.proofs.Common.{GroupList, length, List, map, Objects, Ok, refl, Result, sym, ℕ}
use Rattle.std.specs.Prelude.{OnOk}
use Rattle.std.proofs.Common.{add-one, drop-cons}
use Rattle.ordup_text.specs.Lines.{numbered_text}
use Rattle.ordup_limits.specs.Entries.{latest}
use Rattle.ordup_succession.specs.DeclaringLines.{limit_lines, limit_words}
use Rattle.ordup_succession.specs.Lines.{lines_text, spaced}
use Rattle.ordup_succession.specs.Spread.{spread}

-- words with spaces between them are the first, and then the others with a space before each
spaced-spread : (word : List ℕ) (words : List (List ℕ)) → spaced (word ∷ words) ≡ word ++ spread words
spaced-spread word [] = sym (append-nil word)
spaced-spread word (next ∷ words) = ap (λ t. word ++ 32 ∷ t) (spaced-spread next words)

pub line_text : (word : List ℕ) (words : List (List ℕ)) → lines_text ((word ∷ words) ∷ []) ≡ word ++ (spread words ++ 10 ∷ [])
line_text word words =
    ap (λ t. t ++ 10 ∷ []) (spaced-spread word words) ∙ append_assoc word (spread words) (10 ∷ [])

pub spread-append : (words more : List (List ℕ)) → spread (words ++ more) ≡ spread words ++ spread more
spread-append [] more = refl
spread-append (word ∷ words) more =
    ap (λ t. 32 ∷ word ++ t) (spread-append words more) ∙ sym (append_assoc (32 ∷ word) (spread words) (spread more))

pub lines_text-append : (lines more : List (List (List ℕ))) → lines_text (lines ++ more) ≡ lines_text lines ++ lines_text more
lines_text-append [] more = refl
lines_text-append (words ∷ lines) more =
    ap (λ t. spaced words ++ 10 ∷ t) (lines_text-append lines more)
    ∙ sym (append_assoc (spaced words) (10 ∷ lines_text lines) (lines_text more))

pub rest_of : {X : Type 0} (xs : List X) (i : ℕ) (d : X) → i < length xs → drop i xs ≡ get_or xs i d ∷ drop (i + 1) xs
rest_of xs i d lt = rw add-one (drop-cons xs i d lt)

-- a text, and then lines of which the first are formed
pub formed_more : (mid new all : List ℕ) (now next : List (List (List ℕ))) → new ≡ mid ++ lines_text now
    → mid ++ lines_text (now ++ next) ≡ all
    → new ++ lines_text next ≡ all
formed_more mid new all now next formed upto =
    ap (λ t. t ++ lines_text next) formed
    ∙ append_assoc mid (lines_text now) (lines_text next)
    ∙ ap (λ t. mid ++ t) (sym (lines_text-append now next))
    ∙ upto

-- the same, where there is a line for each element of a list
pub formed_next : {X : Type 0} (line : X → List (List ℕ)) (xs : List X) (i : ℕ) (d : X) (mid new all : List ℕ) → i < length xs
    → new ≡ mid ++ lines_text (line (get_or xs i d) ∷ [])
    → mid ++ lines_text (map line (drop i xs)) ≡ all
    → new ++ lines_text (map line (drop (i + 1) xs)) ≡ all
formed_next line xs i d mid new all lt formed upto =
    formed_more mid new all (line (get_or xs i d) ∷ []) (map line (drop (i + 1) xs)) formed
    (ap (λ l. mid ++ lines_text (map line l)) (sym (rest_of xs i d lt)) ∙ upto)

-- the next of the words that are left is put behind the others
pub spread_next : {X : Type 0} (word : X → List ℕ) (xs : List X) (i : ℕ) (d : X) (mid new all : List ℕ) → i < length xs
    → new ≡ mid ++ spread (word (get_or xs i d) ∷ [])
    → mid ++ spread (map word (drop i xs)) ≡ all
    → new ++ spread (map word (drop (i + 1) xs)) ≡ all
spread_next word xs i d mid new all lt formed upto =
    let now : List (List ℕ) = word (get_or xs i d) ∷ [] in
    let next : List (List ℕ) = map word (drop (i + 1) xs) in
    ap (λ t. t ++ spread next) formed
    ∙ append_assoc mid (spread now) (spread next)
    ∙ ap (λ t. mid ++ t) (sym (spread-append now next))
    ∙ ap (λ l. mid ++ spread (map word l)) (sym (rest_of xs i d lt))
    ∙ upto

-- the lines of the limits of the next site
pub limit_lines_next : (objects : Objects) (groups : GroupList) (sites : List (List ℕ × ℕ)) (limits : List Entries) (i : ℕ)
    (d : List ℕ × ℕ) (mid new all : List ℕ) → i < length sites → i < length limits
    → new ≡ mid ++ lines_text (map (limit_words objects groups (get_or sites i d).0) (latest (get_or limits i [])))
    → mid ++ lines_text (limit_lines objects groups (drop i sites) (drop i limits)) ≡ all
    → new ++ lines_text (limit_lines objects groups (drop (i + 1) sites) (drop (i + 1) limits)) ≡ all
limit_lines_next objects groups sites limits i d mid new all here there formed upto =
    formed_more mid new all (map (limit_words objects groups (get_or sites i d).0) (latest (get_or limits i []))) _ formed
    (ap (λ l. mid ++ lines_text (limit_lines objects groups l (get_or limits i [] ∷ drop (i + 1) limits))) (sym (rest_of sites i d here))
    ∙ ap (λ l. mid ++ lines_text (limit_lines objects groups (drop i sites) l)) (sym (rest_of limits i [] there))
    ∙ upto)

-- ---- the text of a line

-- a word, a name and words with a space before each
pub name_formed : (t0 t1 t2 t3 word name : List ℕ) (rest : List (List ℕ)) → t1 ≡ t0 ++ (word ++ 32 ∷ []) → t2 ≡ t1 ++ name
    → t3 ≡ t2 ++ spread rest
    → t3 ≡ t0 ++ (word ++ spread (name ∷ rest))
name_formed t0 t1 t2 t3 word name rest first second third =
    third
    ∙ ap (λ t. t ++ spread rest) (second ∙ ap (λ t. t ++ name) first)
    ∙ append_assoc (t0 ++ (word ++ 32 ∷ [])) name (spread rest)
    ∙ append_assoc t0 (word ++ 32 ∷ []) (name ++ spread rest)
    ∙ ap (λ t. t0 ++ t) (append_assoc word (32 ∷ []) (name ++ spread rest))

-- one word behind others
pub word_formed : (t new word : List ℕ) → new ≡ t ++ (32 ∷ word) → new ≡ t ++ spread (word ∷ [])
word_formed t new word formed = formed ∙ ap (λ w. t ++ 32 ∷ w) (sym (append-nil word))

-- words behind others
pub words_formed : (t mid new : List ℕ) (words more : List (List ℕ)) → mid ≡ t ++ spread words → new ≡ mid ++ spread more
    → new ≡ t ++ spread (words ++ more)
words_formed t mid new words more first next =
    next ∙ ap (λ s. s ++ spread more) first ∙ append_assoc t (spread words) (spread more) ∙ ap (λ s. t ++ s) (sym (spread-append words more))

-- the line ends
pub line_formed : {E : Type 0} (r : Result (Unit {0}) E) (t mid new word : List ℕ) (words : List (List ℕ))
    → mid ≡ t ++ (word ++ spread words) → OnOk r (new ≡ mid ++ 10 ∷ [])
    → OnOk r (new ≡ t ++ lines_text ((word ∷ words) ∷ []))
line_formed (Ok u) t mid new word words formed ends =
    ends
    ∙ ap (λ s. s ++ 10 ∷ []) formed
    ∙ append_assoc t (word ++ spread words) (10 ∷ [])
    ∙ ap (λ s. t ++ s) (append_assoc word (spread words) (10 ∷ []) ∙ sym (line_text word words))
line_formed (Err e) t mid new word words formed ends = tt

-- two words behind others
pub scope_formed : {E : Type 0} (r : Result (Unit {0}) E) (t mid new word name : List ℕ) → mid ≡ t ++ (32 ∷ word)
    → OnOk r (new ≡ mid ++ spread (name ∷ []))
    → OnOk r (new ≡ t ++ spread (word ∷ name ∷ []))
scope_formed (Ok u) t mid new word name first next = words_formed t mid new (word ∷ []) (name ∷ []) (word_formed t mid word first) next
scope_formed (Err e) t mid new word name first next = tt

-- a line with a name and a number
pub numbered_line : (word name : List ℕ) (n : ℕ)
    → numbered_text (word ++ 32 ∷ []) name n ≡ lines_text ((word ∷ name ∷ decimal n ∷ []) ∷ [])
numbered_line word name n = simp append_assoc

-- ---- lines behind others

pub lines_formed : {E : Type 0} (r : Result (Unit {0}) E) (t mid new : List ℕ) (lines more : List (List (List ℕ)))
    → mid ≡ t ++ lines_text lines → OnOk r (new ≡ mid ++ lines_text more)
    → OnOk r (new ≡ t ++ lines_text (lines ++ more))
lines_formed (Ok u) t mid new lines more first next =
    next ∙ ap (λ s. s ++ lines_text more) first ∙ append_assoc t (lines_text lines) (lines_text more)
    ∙ ap (λ s. t ++ s) (sym (lines_text-append lines more))
lines_formed (Err e) t mid new lines more first next = tt

pub all_formed : {E : Type 0} (r : Result (Unit {0}) E) (t0 t1 t2 t3 t4 : List ℕ) (one two three four : List (List (List ℕ)))
    → t1 ≡ t0 ++ lines_text one → t2 ≡ t1 ++ lines_text two → t3 ≡ t2 ++ lines_text three → OnOk r (t4 ≡ t3 ++ lines_text four)
    → OnOk r (t4 ≡ t0 ++ lines_text (one ++ (two ++ (three ++ four))))
all_formed r t0 t1 t2 t3 t4 one two three four first second third fourth =
    lines_formed r t0 t1 t4 one (two ++ (three ++ four)) first
    (lines_formed r t1 t2 t4 two (three ++ four) second (lines_formed r t2 t3 t4 three four third fourth))
