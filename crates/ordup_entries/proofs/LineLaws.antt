-- A line that is read as a step is the text of that step, and the text of a step of the form is read as it.
use Rattle.std.proofs.Common.{◌≡◌, ◌∙◌, ap, sym, subst, refl, inl, inr, ℕ, zero, suc, ◌+◌, Bool, true, false, ◌&&◌, ◌==◌}
use Rattle.std.proofs.Common.{List, [], ◌∷◌, ◌++◌, length, drop, Option, Some, None, option_map, arith, cond, if◌then◌else◌}
use Rattle.std.specs.Prelude.{option_and_then, codes, nat_le}
use Rattle.std.specs.List.{list_all}
use Rattle.std.specs.Str.{bytes_eq}
use Rattle.std.specs.Cmp.Lexicographic.{bytes_decides}
use Rattle.std.proofs.lemmas.Bool.{and_parts, and_from}
use Rattle.std.proofs.lemmas.Bool.Decides.{nat_tests}
use Rattle.std.proofs.lemmas.List.Folds.{list_all-append}
use Rattle.std.proofs.lemmas.Option.{same_Some}
use Rattle.ordup_objects.specs.Names.{is_name, is_name_byte, begins_with_letter}
use Rattle.ordup_grammar.specs.declared.declaration.ScopeWord.{ScopeWord}
use Rattle.ordup_grammar.specs.declared.declaration.ScopeWord.TheVariants as scope
use Rattle.ordup_entries.specs.Words.{within, is_word, is_client, is_client_byte, is_word_byte}
use Rattle.ordup_entries.specs.Steps.{word_text, number_text, answer_text, limit_answer_text, age_text, seconds_text, settings_text, scope_text}
use Rattle.ordup_entries.specs.Steps.{is_answer, is_limit_answer, is_settings, is_scope}
use Rattle.ordup_entries.specs.Fields.{word_at, tested_at, number_within, number_at, last, both}
use Rattle.ordup_entries.specs.Lines.{refusal_at, acknowledged_at, answer_by, answer_at, limit_answer_by, limit_answer_at, aged_by, aged_at, seconds_at, began_by, began_at, settings_by, settings_at, scope_by, scope_at}
use Rattle.ordup_entries.specs.declared.answer.Answer.{Answer}
use Rattle.ordup_entries.specs.declared.answer.Answer.TheVariants as answer
use Rattle.ordup_entries.specs.declared.answer.LimitAnswer.{LimitAnswer}
use Rattle.ordup_entries.specs.declared.answer.LimitAnswer.TheVariants as limit
use Rattle.ordup_entries.specs.declared.settings.Settings.{Settings}
use Rattle.ordup_entries.specs.declared.settings.Began.{Began}
use Rattle.ordup_entries.proofs.FieldLaws.{Stops, is_inner, IsField, IsEnd, bind_some, map_some, chosen, cond_none, word_at-takes, word_at-again, inner-word}
use Rattle.ordup_entries.proofs.FieldLaws.{tested_law, number_law, last_law, both_law, after_law}

-- ---- names and words

pub word_words : (most : ℕ) (word : List ℕ) → is_word most word ≡ true → list_all is_word_byte word ≡ true
word_words most word h = (and_parts (within 1 most (length word)) (list_all is_word_byte word) h).1

name_bytes : (word : List ℕ) → list_all is_name_byte word ≡ true → list_all is_word_byte word ≡ true
name_bytes [] h = refl
name_bytes (byte ∷ word) h =
    let parts = and_parts (is_name_byte byte) (list_all is_name_byte word) h in
    let one : is_word_byte byte ≡ true = grind (arith, nat_tests) in
    and_from (is_word_byte byte) (list_all is_word_byte word) one (name_bytes word parts.1)

client_bytes : (word : List ℕ) → list_all is_client_byte word ≡ true → list_all is_word_byte word ≡ true
client_bytes [] h = refl
client_bytes (byte ∷ word) h =
    let parts = and_parts (is_client_byte byte) (list_all is_client_byte word) h in
    let one : is_word_byte byte ≡ true = grind (arith, nat_tests) in
    and_from (is_word_byte byte) (list_all is_word_byte word) one (client_bytes word parts.1)

pub name_words : (word : List ℕ) → is_name word ≡ true → list_all is_word_byte word ≡ true
name_words word h =
    let parts = and_parts (begins_with_letter word && nat_le (length word) 16) (list_all is_name_byte word) h in
    name_bytes word parts.1

pub client_words : (word : List ℕ) → is_client word ≡ true → list_all is_word_byte word ≡ true
client_words word h = client_bytes word (and_parts (within 1 64 (length word)) (list_all is_client_byte word) h).1

pub client_law : IsField (tested_at is_client) word_text is_client
client_law = tested_law is_client client_words

pub name_law : IsField (tested_at is_name) word_text is_name
name_law = tested_law is_name name_words

pub word_law : IsField (tested_at (is_word 64)) word_text (is_word 64)
word_law = tested_law (is_word 64) (word_words 64)

pub counted_law : IsField (number_at 1 1000000) number_text (within 1 1000000)
counted_law = number_law 1 1000000 (omega arith)

pub from_zero_law : IsField (number_at 0 1000000) number_text (within 0 1000000)
from_zero_law = number_law 0 1000000 (omega arith)

pub greatest_law : IsField (number_at 1 999999999999999999) number_text (within 1 999999999999999999)
greatest_law = number_law 1 999999999999999999 (omega arith)

pub amount_law : IsField (number_at 0 9223372036854775807) number_text (within 0 9223372036854775807)
amount_law = number_law 0 9223372036854775807 (omega arith)

pub in_force_law : IsField (number_at 1 1000001) number_text (within 1 1000001)
in_force_law = number_law 1 1000001 (omega arith)

-- ---- what a first word leads to

-- what is behind a word, as a case of a type that has several
-- the same in another shape
pub mapped_law : {X Y : Type 0} (at : List ℕ → Option X) (text : X → List ℕ) (fits : X → Bool) (L : IsEnd at text fits) (make : X → Y) (back : Y → X)
    → ((x : X) → back (make x) ≡ x)
    → ((y : Y) → make (back y) ≡ y)
    → IsEnd (λ bytes. option_map make (at bytes)) (λ y. text (back y)) (λ y. fits (back y))
mapped_law at text fits L make back there and_back = record {
  takes = λ bytes y e.
      let m = map_some make (at bytes) y e in
      let l = L.takes bytes m.0 m.1 in
      let is : m.0 ≡ back y = sym (there m.0) ∙ ap back m.2 in
      (l.0 ∙ ap text is, subst (λ x. fits x ≡ true) is l.1);
  again = λ y h. ap (option_map make) (L.again (back y) h) ∙ ap (λ y. Some y) (and_back y);
  stops = λ y. L.stops (back y);
  inner = λ y h. L.inner (back y) h;
}

pub named : {X Y : Type 0} (at : List ℕ → Option X) (text : X → List ℕ) (fits : X → Bool) (L : IsEnd at text fits) (make : X → Y)
    (whole : Y → List ℕ) (whole_fits : Y → Bool) (word first rest : List ℕ) (y : Y)
    → ((x : X) → whole (make x) ≡ word ++ text x)
    → ((x : X) → whole_fits (make x) ≡ fits x)
    → bytes_eq first word ≡ true
    → option_map make (at rest) ≡ Some y
    → (first ++ rest ≡ whole y) × (whole_fits y ≡ true)
named at text fits L make whole whole_fits word first rest y spelled fitting same e =
    let m = map_some make (at rest) y e in
    let l = L.takes rest m.0 m.1 in
    let is : first ≡ word = (bytes_decides first word).0 same in
    subst (λ z. (first ++ rest ≡ whole z) × (whole_fits z ≡ true)) m.2
    (ap (λ w. w ++ rest) is ∙ ap (λ r. word ++ r) l.0 ∙ sym (spelled m.0), fitting m.0 ∙ l.1)

-- ---- answers

abbrev refusal_tail : ℕ × List ℕ → List ℕ
refusal_tail x = number_text x.0 ++ word_text x.1

abbrev acknowledged_tail : ℕ × ℕ → List ℕ
acknowledged_tail x = word_text (codes "acked") ++ (number_text x.0 ++ (word_text (codes "epoch") ++ number_text x.1))

pub refusal_law : IsEnd refusal_at (λ x. number_text x.0 ++ word_text x.1) (λ x. within 1 1000000 x.0 && is_word 64 x.1)
refusal_law = both_law _ _ _ counted_law _ _ _ (last_law _ _ _ word_law)

pub acknowledged_law : IsEnd acknowledged_at (λ x. word_text (codes "acked") ++ (number_text x.0 ++ (word_text (codes "epoch") ++ number_text x.1))) (λ x. within 1 1000000 x.0 && within 1 999999999999999999 x.1)
acknowledged_law =
    after_law (codes "acked") refl _ _ _ (both_law _ _ _ counted_law _ _ _ (after_law (codes "epoch") refl _ _ _ (last_law _ _ _ greatest_law)))

-- what is behind the first space
answer_begins : (a : Answer) → 32 ∷ drop 1 (answer_text a) ≡ answer_text a
answer_begins (answer.Acknowledged place epoch) = refl
answer_begins (answer.Refused number name) = refl

answer_by-takes : (w : List ℕ × List ℕ) (a : Answer) → answer_by w ≡ Some a → (w.0 ++ w.1 ≡ drop 1 (answer_text a)) × (is_answer a ≡ true)
answer_by-takes w a e =
    elim (chosen (bytes_eq w.0 (codes "refused")) (option_map (λ x. answer.Refused x.0 x.1) (refusal_at w.1)) (cond (bytes_eq w.0 (codes "ok")) (option_map (λ x. answer.Acknowledged x.0 x.1) (acknowledged_at w.1)) None) (Some a) e) [
      | inl is ↦ named _ _ _ refusal_law (λ x. answer.Refused x.0 x.1) (λ a. drop 1 (answer_text a)) is_answer (codes "refused") w.0 w.1 a (λ x. refl) (λ x. refl) is.0 is.1
      | inr other ↦ elim (chosen (bytes_eq w.0 (codes "ok")) (option_map (λ x. answer.Acknowledged x.0 x.1) (acknowledged_at w.1)) None (Some a) other.1) [
        | inl is ↦ named _ _ _ acknowledged_law (λ x. answer.Acknowledged x.0 x.1) (λ a. drop 1 (answer_text a)) is_answer (codes "ok") w.0 w.1 a (λ x. refl) (λ x. refl) is.0 is.1
        | inr none ↦ absurd (let e = none.1 in cc)
      ]
    ]

answer_at-takes : (bytes : List ℕ) (a : Answer) → answer_at bytes ≡ Some a → (bytes ≡ answer_text a) × (is_answer a ≡ true)
unfolding answer_at
answer_at-takes bytes a e =
    let w = bind_some answer_by (word_at bytes) a e in
    let t = answer_by-takes w.0 a w.2 in
    (word_at-takes bytes w.0 w.1 ∙ ap (λ r. 32 ∷ r) t.0 ∙ answer_begins a, t.1)

answer_at-again : (a : Answer) → is_answer a ≡ true → answer_at (answer_text a) ≡ Some a
unfolding answer_at
answer_at-again (answer.Acknowledged place epoch) h =
    ap (option_and_then answer_by) (word_at-again (codes "ok") (acknowledged_tail (place, epoch)) refl refl)
    ∙ ap (option_map (λ (x : ℕ × ℕ). answer.Acknowledged x.0 x.1)) (acknowledged_law.again (place, epoch) h)
answer_at-again (answer.Refused number name) h =
    ap (option_and_then answer_by) (word_at-again (codes "refused") (refusal_tail (number, name)) refl refl)
    ∙ ap (option_map (λ (x : ℕ × List ℕ). answer.Refused x.0 x.1)) (refusal_law.again (number, name) h)

answer_stops : (a : Answer) → Stops (answer_text a)
answer_stops (answer.Acknowledged place epoch) = refl
answer_stops (answer.Refused number name) = refl

answer_inner : (a : Answer) → is_answer a ≡ true → list_all is_inner (answer_text a) ≡ true
answer_inner (answer.Acknowledged place epoch) h = acknowledged_law.inner (place, epoch) h
answer_inner (answer.Refused number name) h = refusal_law.inner (number, name) h

pub answer_law : IsEnd answer_at answer_text is_answer
answer_law = record { takes = answer_at-takes; again = answer_at-again; stops = answer_stops; inner = answer_inner }

-- ---- answers to changes of limits

in_force_end : IsEnd (last (number_at 1 1000001)) number_text (within 1 1000001)
in_force_end = last_law _ _ _ in_force_law

limit_begins : (a : LimitAnswer) → 32 ∷ drop 1 (limit_answer_text a) ≡ limit_answer_text a
limit_begins (limit.InForce place) = refl
limit_begins (limit.Refused number name) = refl

limit_by-takes : (w : List ℕ × List ℕ) (a : LimitAnswer) → limit_answer_by w ≡ Some a → (w.0 ++ w.1 ≡ drop 1 (limit_answer_text a)) × (is_limit_answer a ≡ true)
limit_by-takes w a e =
    elim (chosen (bytes_eq w.0 (codes "refused")) (option_map (λ x. limit.Refused x.0 x.1) (refusal_at w.1)) (cond (bytes_eq w.0 (codes "ok")) (option_map (λ n. limit.InForce n) (last (number_at 1 1000001) w.1)) None) (Some a) e) [
      | inl is ↦ named _ _ _ refusal_law (λ x. limit.Refused x.0 x.1) (λ a. drop 1 (limit_answer_text a)) is_limit_answer (codes "refused") w.0 w.1 a (λ x. refl) (λ x. refl) is.0 is.1
      | inr other ↦ elim (chosen (bytes_eq w.0 (codes "ok")) (option_map (λ n. limit.InForce n) (last (number_at 1 1000001) w.1)) None (Some a) other.1) [
        | inl is ↦ named _ _ _ in_force_end (λ n. limit.InForce n) (λ a. drop 1 (limit_answer_text a)) is_limit_answer (codes "ok") w.0 w.1 a (λ x. refl) (λ x. refl) is.0 is.1
        | inr none ↦ absurd (let e = none.1 in cc)
      ]
    ]

limit_at-takes : (bytes : List ℕ) (a : LimitAnswer) → limit_answer_at bytes ≡ Some a → (bytes ≡ limit_answer_text a) × (is_limit_answer a ≡ true)
unfolding limit_answer_at
limit_at-takes bytes a e =
    let w = bind_some limit_answer_by (word_at bytes) a e in
    let t = limit_by-takes w.0 a w.2 in
    (word_at-takes bytes w.0 w.1 ∙ ap (λ r. 32 ∷ r) t.0 ∙ limit_begins a, t.1)

limit_at-again : (a : LimitAnswer) → is_limit_answer a ≡ true → limit_answer_at (limit_answer_text a) ≡ Some a
unfolding limit_answer_at
limit_at-again (limit.InForce place) h =
    ap (option_and_then limit_answer_by) (word_at-again (codes "ok") (number_text place) refl refl)
    ∙ ap (option_map (λ n. limit.InForce n)) (in_force_end.again place h)
limit_at-again (limit.Refused number name) h =
    ap (option_and_then limit_answer_by) (word_at-again (codes "refused") (refusal_tail (number, name)) refl refl)
    ∙ ap (option_map (λ (x : ℕ × List ℕ). limit.Refused x.0 x.1)) (refusal_law.again (number, name) h)

limit_stops : (a : LimitAnswer) → Stops (limit_answer_text a)
limit_stops (limit.InForce place) = refl
limit_stops (limit.Refused number name) = refl

limit_inner : (a : LimitAnswer) → is_limit_answer a ≡ true → list_all is_inner (limit_answer_text a) ≡ true
limit_inner (limit.InForce place) h = in_force_end.inner place h
limit_inner (limit.Refused number name) h = refusal_law.inner (number, name) h

pub limit_law : IsEnd limit_answer_at limit_answer_text is_limit_answer
limit_law = record { takes = limit_at-takes; again = limit_at-again; stops = limit_stops; inner = limit_inner }

-- ---- ages

aged_none : (a : Answer) → number_at 1 999999999999999999 (answer_text a) ≡ None
aged_none (answer.Acknowledged place epoch) =
    ap (option_and_then (λ (w : List ℕ × List ℕ). option_map (λ n. (n, w.1)) (number_within 1 999999999999999999 w.0))) (word_at-again (codes "ok") (acknowledged_tail (place, epoch)) refl refl)
aged_none (answer.Refused number name) =
    ap (option_and_then (λ (w : List ℕ × List ℕ). option_map (λ n. (n, w.1)) (number_within 1 999999999999999999 w.0))) (word_at-again (codes "refused") (refusal_tail (number, name)) refl refl)

abbrev pub aged_text : ℕ × Answer → List ℕ
aged_text x = age_text x.0 ++ answer_text x.1

abbrev pub is_aged : ℕ × Answer → Bool
is_aged x = within 0 999999999999999999 x.0 && is_answer x.1

aged_by-takes : (bytes : List ℕ) (o : Option (ℕ × List ℕ)) (x : ℕ × Answer) → number_at 1 999999999999999999 bytes ≡ o → aged_by bytes o ≡ Some x
    → (bytes ≡ aged_text x) × (is_aged x ≡ true)
aged_by-takes bytes None x is e =
    let m = map_some (λ a. (0, a)) (answer_at bytes) x e in
    let t = answer_law.takes bytes m.0 m.1 in
    subst (λ (y : ℕ × Answer). (bytes ≡ aged_text y) × (is_aged y ≡ true)) m.2 t
aged_by-takes bytes (Some age) x is e =
    let m = map_some (λ a. (age.0, a)) (answer_at age.1) x e in
    let t = answer_law.takes age.1 m.0 m.1 in
    let n = greatest_law.takes bytes age.0 age.1 is in
    let some : (age.0 == 0) ≡ false = (let r = n.1 in grind (arith, nat_tests)) in
    let fits : within 0 999999999999999999 age.0 ≡ true = (let r = n.1 in grind (arith, nat_tests)) in
    let text : number_text age.0 ≡ age_text age.0 = rw some refl in
    subst (λ (y : ℕ × Answer). (bytes ≡ aged_text y) × (is_aged y ≡ true)) m.2
    (n.0 ∙ ap (λ r. number_text age.0 ++ r) t.0 ∙ ap (λ r. r ++ answer_text m.0) text, and_from _ _ fits t.1)

aged-takes : (bytes : List ℕ) (x : ℕ × Answer) → aged_at bytes ≡ Some x → (bytes ≡ aged_text x) × (is_aged x ≡ true)
unfolding aged_at
aged-takes bytes x e = aged_by-takes bytes (number_at 1 999999999999999999 bytes) x refl e

aged-again : (age : ℕ) (a : Answer) → is_aged (age, a) ≡ true → aged_at (aged_text (age, a)) ≡ Some (age, a)
unfolding aged_at
aged-again zero a h =
    let parts = and_parts (within 0 999999999999999999 0) (is_answer a) h in
    ap (aged_by (answer_text a)) (aged_none a) ∙ ap (option_map (λ a. (0, a))) (answer_law.again a parts.1)
aged-again (suc age) a h =
    let parts = and_parts (within 0 999999999999999999 (suc age)) (is_answer a) h in
    let fits : within 1 999999999999999999 (suc age) ≡ true = (let r = parts.0 in grind (arith, nat_tests)) in
    let some : (suc age == 0) ≡ false = grind (arith, nat_tests) in
    let text : age_text (suc age) ≡ number_text (suc age) = rw some refl in
    let bytes = number_text (suc age) ++ answer_text a in
    ap (λ t. aged_by (t ++ answer_text a) (number_at 1 999999999999999999 (t ++ answer_text a))) text
    ∙ ap (aged_by bytes) (greatest_law.again (suc age) (answer_text a) fits (answer_law.stops a))
    ∙ ap (option_map (λ a. (suc age, a))) (answer_law.again a parts.1)

aged-stops : (b : Bool) (text rest : List ℕ) → Stops (text ++ rest) → Stops rest → Stops (cond b [] text ++ rest)
aged-stops true text rest s t = t
aged-stops false text rest s t = s

aged-inner : (b : Bool) (text : List ℕ) → list_all is_inner text ≡ true → list_all is_inner (cond b [] text) ≡ true
aged-inner true text h = refl
aged-inner false text h = h

age_inner : (age : ℕ) → within 0 999999999999999999 age ≡ true → list_all is_inner (age_text age) ≡ true
age_inner zero h = refl
age_inner (suc age) h =
    let fits : within 1 999999999999999999 (suc age) ≡ true = grind (arith, nat_tests) in
    aged-inner (suc age == 0) (number_text (suc age)) (greatest_law.inner (suc age) fits)

pub aged_law : IsEnd aged_at aged_text is_aged
aged_law = record {
  takes = aged-takes;
  again = λ x h. aged-again x.0 x.1 h;
  stops = λ x. aged-stops (x.0 == 0) (number_text x.0) (answer_text x.1) refl (answer_law.stops x.1);
  inner = λ x h.
      let parts = and_parts (within 0 999999999999999999 x.0) (is_answer x.1) h in
      list_all-append is_inner (age_text x.0) (answer_text x.1) ∙ and_from _ _ (age_inner x.0 parts.0) (answer_law.inner x.1 parts.1);
}

-- ---- settings

abbrev seconds_both : List ℕ → Option (ℕ × ℕ)
seconds_both = both (number_at 0 1000000) (last (number_at 0 1000000))

abbrev two_text : ℕ × ℕ → List ℕ
two_text x = number_text x.0 ++ number_text x.1

abbrev are_seconds : ℕ × ℕ → Bool
are_seconds x = within 0 1000000 x.0 && within 0 1000000 x.1

two_law : IsEnd seconds_both two_text are_seconds
two_law = both_law _ _ _ from_zero_law _ _ _ (last_law _ _ _ from_zero_law)

seconds-takes : (bytes : List ℕ) (x : ℕ × ℕ) → seconds_at bytes ≡ Some x → (bytes ≡ seconds_text x.0 x.1) × (are_seconds x ≡ true)
unfolding seconds_at
seconds-takes [] x e =
    let is : (0, 0) ≡ x = same_Some (0, 0) x e in
    subst (λ (y : ℕ × ℕ). ([] ≡ seconds_text y.0 y.1) × (are_seconds y ≡ true)) is (refl, refl)
seconds-takes (byte ∷ bytes) x e =
    let some : (length (byte ∷ bytes) == 0) ≡ false = grind (arith, nat_tests) in
    let b = bind_some (λ (s : ℕ × ℕ). cond (s.0 + s.1 == 0) None (Some s)) (seconds_both (byte ∷ bytes)) x (rw some at e) in
    let c = cond_none (b.0.0 + b.0.1 == 0) b.0 x b.2 in
    let t = two_law.takes (byte ∷ bytes) b.0 b.1 in
    let text : two_text b.0 ≡ seconds_text b.0.0 b.0.1 = rw c.0 refl in
    subst (λ (y : ℕ × ℕ). ((byte ∷ bytes) ≡ seconds_text y.0 y.1) × (are_seconds y ≡ true)) c.1 (t.0 ∙ text, t.1)

seconds_by-again : (x : ℕ × ℕ) (b : Bool) → (x.0 + x.1 == 0) ≡ b → are_seconds x ≡ true → seconds_at (cond b [] (two_text x)) ≡ Some x
unfolding seconds_at
seconds_by-again x true is h =
    let first : 0 ≡ x.0 = grind (arith, nat_tests) in
    let second : 0 ≡ x.1 = grind (arith, nat_tests) in
    ap (λ (n : ℕ). Some (n, 0)) first ∙ ap (λ (n : ℕ). Some (x.0, n)) second
seconds_by-again x false is h =
    let some : (length (two_text x) == 0) ≡ false = grind (arith, nat_tests) in
    rw some (ap (option_and_then (λ (s : ℕ × ℕ). cond (s.0 + s.1 == 0) None (Some s))) (two_law.again x h) ∙ ap (λ b. cond b None (Some x)) is)

seconds_stops : (b : Bool) (text : List ℕ) → Stops text → Stops (cond b [] text)
seconds_stops true text s = tt
seconds_stops false text s = s

pub seconds_law : IsEnd seconds_at (λ x. seconds_text x.0 x.1) are_seconds
seconds_law = record {
  takes = seconds-takes;
  again = λ x h. seconds_by-again x (x.0 + x.1 == 0) refl h;
  stops = λ x. seconds_stops (x.0 + x.1 == 0) (two_text x) refl;
  inner = λ x h. aged-inner (x.0 + x.1 == 0) (two_text x) (two_law.inner x h);
}

abbrev began_back : Began × ℕ → ℕ × (ℕ × (List ℕ × (ℕ × ℕ)))
began_back x = (x.0.every, (x.0.remembers, (x.0.origin, (x.1, x.0.seconds))))

pub began_law : IsEnd began_at
    (λ x. number_text x.0.every ++ (number_text x.0.remembers ++ (word_text x.0.origin ++ seconds_text x.1 x.0.seconds)))
    (λ x. within 1 1000000 x.0.every && (within 1 1000000 x.0.remembers && (is_word 64 x.0.origin && are_seconds (x.1, x.0.seconds))))
unfolding began_at
began_law =
    mapped_law _ _ _ (both_law _ _ _ counted_law _ _ _ (both_law _ _ _ counted_law _ _ _ (both_law _ _ _ word_law _ _ _ seconds_law))) began_by began_back
    (λ x. refl) (λ y. refl)

abbrev settings_back : Settings → ℕ × (ℕ × (List ℕ × (List ℕ × (Began × ℕ))))
settings_back s = (s.every, (s.remembers, (s.origin, (s.version, (s.began, s.seconds)))))

pub settings_law : IsEnd settings_at settings_text is_settings
unfolding settings_at
settings_law =
    mapped_law _ _ _ (both_law _ _ _ counted_law _ _ _ (both_law _ _ _ counted_law _ _ _ (both_law _ _ _ word_law _ _ _ (both_law _ _ _ word_law _ _ _ began_law)))) settings_by settings_back
    (λ x. refl) (λ y. refl)

-- ---- what a limit weighs

-- what is weighed, of a word that was read
abbrev scope_with : (List ℕ → ScopeWord) → List ℕ × List ℕ → ScopeWord × List ℕ
scope_with make x = (make x.0, x.1)

scope_named : (make : List ℕ → ScopeWord) (kind : List ℕ) (w : List ℕ × List ℕ) (y : ScopeWord) (rest : List ℕ)
    → ((n rest : List ℕ) → 32 ∷ (kind ++ (word_text n ++ rest)) ≡ scope_text (make n) ++ rest)
    → ((n : List ℕ) → is_scope (make n) ≡ is_name n)
    → bytes_eq w.0 kind ≡ true
    → option_map (scope_with make) (tested_at is_name w.1) ≡ Some (y, rest)
    → (32 ∷ (w.0 ++ w.1) ≡ scope_text y ++ rest) × (is_scope y ≡ true)
scope_named make kind w y rest spelled fitting same e =
    let m = map_some (scope_with make) (tested_at is_name w.1) (y, rest) e in
    let n = name_law.takes w.1 m.0.0 m.0.1 m.1 in
    let is : w.0 ≡ kind = (bytes_decides w.0 kind).0 same in
    subst (λ (z : ScopeWord × List ℕ). (32 ∷ (w.0 ++ w.1) ≡ scope_text z.0 ++ z.1) × (is_scope z.0 ≡ true)) m.2
    (ap (λ f. 32 ∷ (f ++ w.1)) is ∙ ap (λ r. 32 ∷ (kind ++ r)) n.0 ∙ spelled m.0.0 m.0.1, fitting m.0.0 ∙ n.1)

scope_alone : (s : ScopeWord) (kind : List ℕ) (w : List ℕ × List ℕ) (y : ScopeWord) (rest : List ℕ)
    → ((rest : List ℕ) → 32 ∷ (kind ++ rest) ≡ scope_text s ++ rest)
    → is_scope s ≡ true
    → bytes_eq w.0 kind ≡ true
    → ◌≡◌ {A = Option (ScopeWord × List ℕ)} (Some (s, w.1)) (Some (y, rest))
    → (32 ∷ (w.0 ++ w.1) ≡ scope_text y ++ rest) × (is_scope y ≡ true)
scope_alone s kind w y rest spelled fitting same e =
    let is : w.0 ≡ kind = (bytes_decides w.0 kind).0 same in
    let m = same_Some (s, w.1) (y, rest) e in
    subst (λ (z : ScopeWord × List ℕ). (32 ∷ (w.0 ++ w.1) ≡ scope_text z.0 ++ z.1) × (is_scope z.0 ≡ true)) m
    (ap (λ f. 32 ∷ (f ++ w.1)) is ∙ spelled w.1, fitting)

abbrev scope_after_all : List ℕ × List ℕ → Option (ScopeWord × List ℕ)
scope_after_all w = if bytes_eq w.0 (codes "count") then Some (scope.Count, w.1) else None

abbrev scope_after_group : List ℕ × List ℕ → Option (ScopeWord × List ℕ)
scope_after_group w = if bytes_eq w.0 (codes "all") then Some (scope.All, w.1) else scope_after_all w

abbrev scope_after_object : List ℕ × List ℕ → Option (ScopeWord × List ℕ)
scope_after_object w = if bytes_eq w.0 (codes "group") then option_map (scope_with (λ x. scope.Group x)) (tested_at is_name w.1) else scope_after_group w

scope_by-takes : (w : List ℕ × List ℕ) (y : ScopeWord) (rest : List ℕ) → scope_by w ≡ Some (y, rest) → (32 ∷ (w.0 ++ w.1) ≡ scope_text y ++ rest) × (is_scope y ≡ true)
scope_by-takes w y rest e =
    elim (chosen (bytes_eq w.0 (codes "object")) (option_map (scope_with (λ x. scope.Object x)) (tested_at is_name w.1)) (scope_after_object w) (Some (y, rest)) e) [
      | inl is ↦ scope_named (λ x. scope.Object x) (codes "object") w y rest (λ n rest. refl) (λ n. refl) is.0 is.1
      | inr more ↦ elim (chosen (bytes_eq w.0 (codes "group")) (option_map (scope_with (λ x. scope.Group x)) (tested_at is_name w.1)) (scope_after_group w) (Some (y, rest)) more.1) [
        | inl is ↦ scope_named (λ x. scope.Group x) (codes "group") w y rest (λ n rest. refl) (λ n. refl) is.0 is.1
        | inr more ↦ elim (chosen (bytes_eq w.0 (codes "all")) (Some (scope.All, w.1)) (scope_after_all w) (Some (y, rest)) more.1) [
          | inl is ↦ scope_alone scope.All (codes "all") w y rest (λ rest. refl) refl is.0 is.1
          | inr more ↦ elim (chosen (bytes_eq w.0 (codes "count")) (Some (scope.Count, w.1)) None (Some (y, rest)) more.1) [
            | inl is ↦ scope_alone scope.Count (codes "count") w y rest (λ rest. refl) refl is.0 is.1
            | inr none ↦ absurd (let e = none.1 in cc)
          ]
        ]
      ]
    ]

scope-takes : (bytes : List ℕ) (y : ScopeWord) (rest : List ℕ) → scope_at bytes ≡ Some (y, rest) → (bytes ≡ scope_text y ++ rest) × (is_scope y ≡ true)
unfolding scope_at
scope-takes bytes y rest e =
    let w = bind_some scope_by (word_at bytes) (y, rest) e in
    let t = scope_by-takes w.0 y rest w.2 in
    (word_at-takes bytes w.0 w.1 ∙ t.0, t.1)

scope-again : (y : ScopeWord) (rest : List ℕ) → is_scope y ≡ true → Stops rest → scope_at (scope_text y ++ rest) ≡ Some (y, rest)
unfolding scope_at
scope-again (scope.Object x) rest h s =
    ap (option_and_then scope_by) (word_at-again (codes "object") (word_text x ++ rest) refl refl)
    ∙ ap (option_map (scope_with (λ x. scope.Object x))) (name_law.again x rest h s)
scope-again (scope.Group x) rest h s =
    ap (option_and_then scope_by) (word_at-again (codes "group") (word_text x ++ rest) refl refl)
    ∙ ap (option_map (scope_with (λ x. scope.Group x))) (name_law.again x rest h s)
scope-again scope.All rest h s = ap (option_and_then scope_by) (word_at-again (codes "all") rest refl s)
scope-again scope.Count rest h s = ap (option_and_then scope_by) (word_at-again (codes "count") rest refl s)

scope_stops : (y : ScopeWord) (rest : List ℕ) → Stops (scope_text y ++ rest)
scope_stops (scope.Object x) rest = refl
scope_stops (scope.Group x) rest = refl
scope_stops scope.All rest = refl
scope_stops scope.Count rest = refl

scope_inner : (y : ScopeWord) → is_scope y ≡ true → list_all is_inner (scope_text y) ≡ true
scope_inner (scope.Object x) h = inner-word x (name_words x h)
scope_inner (scope.Group x) h = inner-word x (name_words x h)
scope_inner scope.All h = refl
scope_inner scope.Count h = refl

pub scope_law : IsField scope_at scope_text is_scope
scope_law = record { takes = scope-takes; again = scope-again; stops = scope_stops; inner = scope_inner }
