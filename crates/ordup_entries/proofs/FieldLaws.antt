-- A field that is read is the field that was written, and what was written is read again.
use Rattle.std.proofs.Common.{◌≡◌, ◌∙◌, ap, sym, subst, refl, inl, inr, ℕ, ◌+◌, ◌^◌, ◌<◌, ◌≤◌, Bool, true, false, ◌&&◌, ◌==◌, ℤ, pos, negsuc}
use Rattle.std.proofs.Common.{List, [], ◌∷◌, ◌++◌, length, Option, Some, None, option_map, arith, cond}
use Rattle.std.specs.Prelude.{◌⊎◌, option_and_then, not, unsigned_abs}
use Rattle.std.specs.Fmt.{decimal}
use Rattle.std.specs.List.{list_all, position_or_len}
use Rattle.std.specs.Str.{bytes_eq, all_ascii_digits}
use Rattle.std.specs.Cmp.Lexicographic.{bytes_decides}
use Rattle.std.proofs.lemmas.Bool.{and_parts, and_from, eqb-true}
use Rattle.std.proofs.lemmas.Bool.Decides.{nat_tests}
use Rattle.std.proofs.lemmas.Fmt.{digits_decimal}
use Rattle.std.proofs.lemmas.List.{append-nil, nil_from_length, take_at, drop_at, take-append-drop}
use Rattle.std.proofs.lemmas.List.Folds.{list_all-append}
use Rattle.std.proofs.lemmas.Option.{cond_some, same_Some}
use Rattle.ordup_grammar.specs.Numbers.{number_of, amount_of}
use Rattle.ordup_grammar.proofs.Decimals.{numerals, number_of-signed_decimal, signed_decimal-number_of}
use Rattle.ordup_entries.specs.Words.{within, is_word_byte, is_printed, is_changes}
use Rattle.ordup_entries.specs.Steps.{word_text, number_text}
use Rattle.ordup_entries.specs.Fields.{is_space, first_word, word_at, tested_at, behind, number_within, number_at, text_at, last, both, after}

-- what is left of a line is nothing, or begins with a space
abbrev pub Stops : List ℕ → Type 0
Stops [] = Unit {0}
Stops (byte ∷ bytes) = is_space byte ≡ true

-- a byte that ends no line
abbrev pub is_inner : ℕ → Bool
is_inner byte = not (byte == 10)

-- a field of a line
pub record IsField {X : Type 0} (at : List ℕ → Option (X × List ℕ)) (text : X → List ℕ) (fits : X → Bool) : Type 0 where
  pub takes : (bytes : List ℕ) (x : X) (rest : List ℕ) → at bytes ≡ Some (x, rest) → (bytes ≡ text x ++ rest) × (fits x ≡ true)
  pub again : (x : X) (rest : List ℕ) → fits x ≡ true → Stops rest → at (text x ++ rest) ≡ Some (x, rest)
  pub stops : (x : X) (rest : List ℕ) → Stops (text x ++ rest)
  pub inner : (x : X) → fits x ≡ true → list_all is_inner (text x) ≡ true

-- what ends a line
pub record IsEnd {X : Type 0} (at : List ℕ → Option X) (text : X → List ℕ) (fits : X → Bool) : Type 0 where
  pub takes : (bytes : List ℕ) (x : X) → at bytes ≡ Some x → (bytes ≡ text x) × (fits x ≡ true)
  pub again : (x : X) → fits x ≡ true → at (text x) ≡ Some x
  pub stops : (x : X) → Stops (text x)
  pub inner : (x : X) → fits x ≡ true → list_all is_inner (text x) ≡ true

pub bind_some : {X Y : Type 0} (f : X → Option Y) (o : Option X) (y : Y) → option_and_then f o ≡ Some y
    → (x : X) × (o ≡ Some x) × (f x ≡ Some y)
bind_some f None y e = absurd cc
bind_some f (Some x) y e = (x, refl, e)

pub map_some : {X Y : Type 0} (f : X → Y) (o : Option X) (y : Y) → option_map f o ≡ Some y → (x : X) × (o ≡ Some x) × (f x ≡ y)
map_some f None y e = absurd cc
map_some f (Some x) y e = (x, refl, same_Some (f x) y e)

pub chosen : {X : Type 0} (b : Bool) (x y z : X) → cond b x y ≡ z → ((b ≡ true) × (x ≡ z)) ⊎ ((b ≡ false) × (y ≡ z))
chosen true x y z e = inl (refl, e)
chosen false x y z e = inr (refl, e)

pub cond_none : {X : Type 0} (b : Bool) (x y : X) → cond b None (Some x) ≡ Some y → (b ≡ false) × (x ≡ y)
cond_none true x y e = absurd cc
cond_none false x y e = (refl, same_Some x y e)

-- ---- words

ends_at : (word rest : List ℕ) → list_all is_word_byte word ≡ true → Stops rest
    → position_or_len is_space (word ++ rest) ≡ length word
ends_at [] [] h s = refl
ends_at [] (byte ∷ rest) h s = rw s refl
ends_at (byte ∷ word) rest h s =
    let parts = and_parts (is_word_byte byte) (list_all is_word_byte word) h in
    let no_space : is_space byte ≡ false = grind (arith, nat_tests) in
    let more : position_or_len is_space ((byte ∷ word) ++ rest) ≡ 1 + position_or_len is_space (word ++ rest) = rw no_space refl in
    omega (arith, more, ends_at word rest parts.1 s)

pub first_word-again : (word rest : List ℕ) → list_all is_word_byte word ≡ true → Stops rest
    → first_word (word ++ rest) ≡ (word, rest)
first_word-again word rest h s =
    rw (ends_at word rest h s, take_at word rest (length word) refl, drop_at word rest (length word) refl) refl

pub first_word-parts : (bytes : List ℕ) → bytes ≡ (first_word bytes).0 ++ (first_word bytes).1
first_word-parts bytes = sym (take-append-drop (position_or_len is_space bytes) bytes)

pub word_at-takes : (bytes : List ℕ) (w : List ℕ × List ℕ) → word_at bytes ≡ Some w → bytes ≡ 32 ∷ (w.0 ++ w.1)
word_at-takes [] w e = absurd cc
word_at-takes (byte ∷ bytes) w e =
    let c = cond_some (is_space byte) (first_word bytes) w e in
    let space : byte ≡ 32 = eqb-true byte 32 c.0 in
    ap (λ b. b ∷ bytes) space ∙ ap (λ bs. 32 ∷ bs) (first_word-parts bytes ∙ ap (λ (w : List ℕ × List ℕ). w.0 ++ w.1) c.1)

pub word_at-again : (word rest : List ℕ) → list_all is_word_byte word ≡ true → Stops rest → word_at (word_text word ++ rest) ≡ Some (word, rest)
word_at-again word rest h s = ap (λ w. Some w) (first_word-again word rest h s)

pub inner-word : (word : List ℕ) → list_all is_word_byte word ≡ true → list_all is_inner word ≡ true
inner-word [] h = refl
inner-word (byte ∷ word) h =
    let parts = and_parts (is_word_byte byte) (list_all is_word_byte word) h in
    let inner : is_inner byte ≡ true = grind (arith, nat_tests) in
    and_from (is_inner byte) (list_all is_inner word) inner (inner-word word parts.1)

pub inner-printed : (text : List ℕ) → list_all is_printed text ≡ true → list_all is_inner text ≡ true
inner-printed [] h = refl
inner-printed (byte ∷ text) h =
    let parts = and_parts (is_printed byte) (list_all is_printed text) h in
    let inner : is_inner byte ≡ true = grind (arith, nat_tests) in
    and_from (is_inner byte) (list_all is_inner text) inner (inner-printed text parts.1)

-- a word that passes a test
pub tested_law : (is : List ℕ → Bool) → ((word : List ℕ) → is word ≡ true → list_all is_word_byte word ≡ true)
    → IsField (tested_at is) word_text is
tested_law is words = record {
  takes = λ bytes x rest e.
      let a = bind_some (λ w. cond (is w.0) (Some w) None) (word_at bytes) (x, rest) e in
      let c = cond_some (is a.0.0) a.0 (x, rest) a.2 in
      let word : a.0.0 ≡ x = ap (λ (w : List ℕ × List ℕ). w.0) c.1 in
      (word_at-takes bytes a.0 a.1 ∙ ap (λ (w : List ℕ × List ℕ). 32 ∷ (w.0 ++ w.1)) c.1, subst (λ w. is w ≡ true) word c.0);
  again = λ x rest h s.
      ap (option_and_then (λ (w : List ℕ × List ℕ). cond (is w.0) (Some w) None)) (word_at-again x rest (words x h) s)
      ∙ ap (λ b. cond b (Some (x, rest)) None) h;
  stops = λ x rest. refl;
  inner = λ x h. inner-word x (words x h);
}

-- ---- numbers

digit_bytes : (digits : List ℕ) → all_ascii_digits digits ≡ true → list_all is_word_byte digits ≡ true
digit_bytes [] h = refl
digit_bytes (digit ∷ digits) h =
    let rest : all_ascii_digits digits ≡ true = grind (arith, nat_tests) in
    let byte : is_word_byte digit ≡ true = grind (arith, nat_tests) in
    and_from (is_word_byte digit) (list_all is_word_byte digits) byte (digit_bytes digits rest)

word-decimal : (n : ℕ) → n < 2 ^ 64 → list_all is_word_byte (decimal n) ≡ true
word-decimal n small = digit_bytes (decimal n) (digits_decimal numerals n small)

decimal_of : (least most : ℕ) (word : List ℕ) (z : ℤ) (n : ℕ) → most < 18446744073709551615 → number_of word ≡ Some z
    → within least most (amount_of z) ≡ true
    → amount_of z ≡ n
    → word ≡ decimal n
decimal_of least most word (pos m) n below e h is = (signed_decimal-number_of word (pos m) e).1 ∙ ap decimal is
decimal_of least most word (negsuc m) n below e h is =
    let few : 18446744073709551615 ≤ most = grind (arith, nat_tests) in
    absurd (omega (arith, few, below))

number_within-takes : (least most : ℕ) (word : List ℕ) (n : ℕ) → most < 18446744073709551615 → number_within least most word ≡ Some n
    → (word ≡ decimal n) × (within least most n ≡ true)
number_within-takes least most word n below e =
    let a = bind_some (λ z. cond (within least most (amount_of z)) (Some (amount_of z)) None) (number_of word) n e in
    let c = cond_some (within least most (amount_of a.0)) (amount_of a.0) n a.2 in
    (decimal_of least most word a.0 n below a.1 c.0 c.1, subst (λ m. within least most m ≡ true) c.1 c.0)

at_most : (least most n : ℕ) → within least most n ≡ true → n ≤ most
at_most least most n h = grind (arith, nat_tests)

number_within-again : (least most n : ℕ) → most < 10 ^ 19 → within least most n ≡ true → number_within least most (decimal n) ≡ Some n
number_within-again least most n below h =
    let few = at_most least most n h in
    let small : unsigned_abs (pos n) < 10 ^ 19 = omega (arith, few, below) in
    rw (number_of-signed_decimal (pos n) small, h) refl

pub number_law : (least most : ℕ) → most < 10 ^ 19 → IsField (number_at least most) number_text (within least most)
number_law least most below = record {
  takes = λ bytes x rest e.
      let a = bind_some (λ w. option_map (λ n. (n, w.1)) (number_within least most w.0)) (word_at bytes) (x, rest) e in
      let b = map_some (λ n. (n, a.0.1)) (number_within least most a.0.0) (x, rest) a.2 in
      let number : b.0 ≡ x = ap (λ (w : ℕ × List ℕ). w.0) b.2 in
      let left : a.0.1 ≡ rest = ap (λ (w : ℕ × List ℕ). w.1) b.2 in
      let t = number_within-takes least most a.0.0 b.0 (omega (arith, below)) b.1 in
      (word_at-takes bytes a.0 a.1 ∙ ap (λ w. 32 ∷ (w ++ a.0.1)) (t.0 ∙ ap decimal number) ∙ ap (λ r. 32 ∷ (decimal x ++ r)) left, subst (λ n. within least most n ≡ true) number t.1);
  again = λ x rest h s.
      let few = at_most least most x h in
      ap (option_and_then (λ (w : List ℕ × List ℕ). option_map (λ n. (n, w.1)) (number_within least most w.0)))
      (word_at-again (decimal x) rest (word-decimal x (omega (arith, few, below))) s)
      ∙ ap (option_map (λ n. (n, rest))) (number_within-again least most x below h);
  stops = λ x rest. refl;
  inner = λ x h.
      let few = at_most least most x h in
      inner-word (decimal x) (word-decimal x (omega (arith, few, below)));
}

-- ---- the rest of a line

text_takes : (bytes : List ℕ) (x : List ℕ) → text_at bytes ≡ Some x → (bytes ≡ word_text x) × (is_changes x ≡ true)
text_takes [] x e = absurd cc
text_takes (byte ∷ bytes) x e =
    let c = cond_some (is_space byte && is_changes bytes) bytes x e in
    let parts = and_parts (is_space byte) (is_changes bytes) c.0 in
    let space : byte ≡ 32 = eqb-true byte 32 parts.0 in
    (ap (λ b. b ∷ bytes) space ∙ ap (λ bs. 32 ∷ bs) c.1, subst (λ t. is_changes t ≡ true) c.1 parts.1)

pub text_law : IsEnd text_at word_text is_changes
text_law = record {
  takes = text_takes;
  again = λ x h. rw h refl;
  stops = λ x. refl;
  inner = λ x h. inner-printed x (and_parts _ _ h).1;
}

-- ---- several fields

module _ {X : Type 0} (at : List ℕ → Option (X × List ℕ)) (text : X → List ℕ) (fits : X → Bool) (F : IsField at text fits) where
  pub last_law : IsEnd (last at) text fits
  last_law = record {
    takes = λ bytes x e.
        let a = bind_some (λ x. cond (length x.1 == 0) (Some x.0) None) (at bytes) x e in
        let c = cond_some (length a.0.1 == 0) a.0.0 x a.2 in
        let nothing : a.0.1 ≡ [] = nil_from_length a.0.1 (eqb-true (length a.0.1) 0 c.0) in
        let f = F.takes bytes a.0.0 a.0.1 a.1 in
        subst (λ y. (bytes ≡ text y) × (fits y ≡ true)) c.1 (f.0 ∙ ap (λ r. text a.0.0 ++ r) nothing ∙ append-nil (text a.0.0), f.1);
    again = λ x h. ap (last at) (sym (append-nil (text x))) ∙ rw (F.again x [] h tt) refl;
    stops = λ x. subst Stops (append-nil (text x)) (F.stops x []);
    inner = F.inner;
  }

  module _ {Y : Type 0} (end : List ℕ → Option Y) (behind_text : Y → List ℕ) (behind_fits : Y → Bool) (E : IsEnd end behind_text behind_fits) where
    pub both_law : IsEnd (both at end) (λ x. text x.0 ++ behind_text x.1) (λ x. fits x.0 && behind_fits x.1)
    both_law = record {
      takes = λ bytes x e.
          let a = bind_some (λ x. option_map (λ y. (x.0, y)) (end x.1)) (at bytes) x e in
          let b = map_some (λ y. (a.0.0, y)) (end a.0.1) x a.2 in
          let f = F.takes bytes a.0.0 a.0.1 a.1 in
          let g = E.takes a.0.1 b.0 b.1 in
          subst (λ (y : X × Y). (bytes ≡ text y.0 ++ behind_text y.1) × ((fits y.0 && behind_fits y.1) ≡ true)) b.2
          (f.0 ∙ ap (λ r. text a.0.0 ++ r) g.0, and_from (fits a.0.0) (behind_fits b.0) f.1 g.1);
      again = λ x h.
          let parts = and_parts (fits x.0) (behind_fits x.1) h in
          rw (F.again x.0 (behind_text x.1) parts.0 (E.stops x.1), E.again x.1 parts.1) refl;
      stops = λ x. F.stops x.0 (behind_text x.1);
      inner = λ x h.
          let parts = and_parts (fits x.0) (behind_fits x.1) h in
          list_all-append is_inner (text x.0) (behind_text x.1) ∙ and_from _ _ (F.inner x.0 parts.0) (E.inner x.1 parts.1);
    }

pub behind-again : (word rest : List ℕ) → list_all is_word_byte word ≡ true → Stops rest → behind word (word_text word ++ rest) ≡ Some rest
behind-again word rest known s =
    ap (option_and_then (λ (w : List ℕ × List ℕ). cond (bytes_eq w.0 word) (Some w.1) None)) (word_at-again word rest known s)
    ∙ ap (λ b. cond b (Some rest) None) ((bytes_decides word word).1 refl)

module _ {Y : Type 0} (word : List ℕ) (known : list_all is_word_byte word ≡ true) (end : List ℕ → Option Y) (text : Y → List ℕ) (fits : Y → Bool) (E : IsEnd end text fits) where
  pub after_law : IsEnd (after word end) (λ y. word_text word ++ text y) fits
  after_law = record {
    takes = λ bytes y e.
        let a = bind_some end (behind word bytes) y e in
        let b = bind_some (λ w. cond (bytes_eq w.0 word) (Some w.1) None) (word_at bytes) a.0 a.1 in
        let c = cond_some (bytes_eq b.0.0 word) b.0.1 a.0 b.2 in
        let same : b.0.0 ≡ word = (bytes_decides b.0.0 word).0 c.0 in
        let g = E.takes a.0 y a.2 in
        (word_at-takes bytes b.0 b.1 ∙ ap (λ w. 32 ∷ (w ++ b.0.1)) same ∙ ap (λ r. 32 ∷ (word ++ r)) (c.1 ∙ g.0), g.1);
    again = λ y h. ap (option_and_then end) (behind-again word (text y) known (E.stops y)) ∙ E.again y h;
    stops = λ y. refl;
    inner = λ y h. list_all-append is_inner (word_text word) (text y) ∙ and_from _ _ (inner-word word known) (E.inner y h);
  }
