-- Scopes and changes as columns spell them, and that each has one spelling.
use Rattle.ordup_audit.proofs.Common.{◌++◌, ◌<◌, ◌==◌, ◌^◌, ◌∙◌, ◌∷◌, ◌≡◌, [], Add, All-cons, All-nil, all_ascii_digits, and_parts, ap}
use Rattle.ordup_audit.proofs.Common.{AreDistinct, AreNames, arith, bytes_eq, Change, codes, Count, decimal, digits_decimal, Everything}
use Rattle.ordup_audit.proofs.Common.{false, get_or-map, Group, GroupList, IfSome, if◌then◌else◌, is_ascii_digit, is_name, is_name_byte}
use Rattle.ordup_audit.proofs.Common.{IsInRange, IsKnown, IsScopeKnown, length, List, list_all, Max, Min, Mul, nat_tests, negsuc, None}
use Rattle.ordup_audit.proofs.Common.{index_of, NumberOp, Object, Objects, Op, op_number, op_with, option_and_then, pos, refl, same_Some}
use Rattle.ordup_audit.proofs.Common.{Scope, Set, signed_decimal, slice_split, Some, source_of, suc, sym, Take, true, unsigned_abs, ℕ, ℤ}
use Rattle.std.proofs.Common.{option_map}
use Rattle.std.specs.Prelude.{Bool}
use Rattle.std.specs.List.{All, join_with_byte}
use Rattle.std.proofs.lemmas.List.Splits.{join_with_byte-slice_split, slice_split_at, slice_split_none}
use Rattle.ordup_grammar.specs.ChangeWords.{change_of, change_of_parts}
use Rattle.ordup_grammar.specs.Numbers.{number_of}
use Rattle.ordup_grammar.specs.Operations.{number_op_of, operation_of}
use Rattle.ordup_grammar.specs.declared.change_words.ChangeWord.{ChangeWord}
use Rattle.ordup_objects.specs.declared.change.NumberOp.TheVariants as kind
use Rattle.ordup_grammar.specs.declared.change_words.Operation.{Operation}
use Rattle.ordup_grammar.specs.declared.change_words.Operation.TheVariants as word
use Rattle.ordup_grammar.proofs.Decimals.{numerals, number_of-signed_decimal, signed_decimal-number_of}
use Rattle.ordup_rows.specs.Columns.{after_prefix, change_by, change_in, has_prefix, op_in, scope_of}
use Rattle.ordup_rows.specs.Rows.{change_text, change_word, name_at, operation_text, scope_text}
use Rattle.ordup_rows.proofs.Columns.{bound, branch, mapped, name_found, prefixed, same_bytes}
use Rattle.ordup_rows.proofs.Names.{index_of-name}
use Rattle.ordup_rows.proofs.Refusals.{all_from}

-- ---- scopes

pub scope_spelled : (objects : Objects) (groups : GroupList) (column : List ℕ) (s : Scope) → scope_of objects groups column ≡ Some s
    → column ≡ scope_text objects groups s
scope_spelled objects groups column s =
    branch (has_prefix (codes "object:") column) _ _ s (λ front h.
    let (x, found, is) = mapped (λ x. Object x) (index_of (after_prefix (codes "object:") column) objects) s h in
    prefixed (codes "object:") column front ∙ ap (λ name. codes "object:" ++ name) (sym (name_found _ objects x found).1)
    ∙ ap (scope_text objects groups) is) (
    branch (has_prefix (codes "group:") column) _ _ s (λ front h.
    let (g, found, is) = mapped (λ g. Group g) (index_of (after_prefix (codes "group:") column) groups) s h in
    prefixed (codes "group:") column front ∙ ap (λ name. codes "group:" ++ name) (sym (name_found _ groups g found).1)
    ∙ ap (scope_text objects groups) is) (
    branch (bytes_eq column (codes "all")) _ _ s
    (λ same h. same_bytes column _ same ∙ ap (scope_text objects groups) (same_Some Everything s h)) (
    branch (bytes_eq column (codes "count")) _ _ s
    (λ same h. same_bytes column _ same ∙ ap (scope_text objects groups) (same_Some Count s h)) (
    λ h. absurd cc))))

pub scope_of-text : (objects : Objects) (groups : GroupList) (s : Scope) → AreDistinct objects → AreDistinct groups
    → IsScopeKnown (length objects) groups s → scope_of objects groups (scope_text objects groups s) ≡ Some s
scope_of-text objects groups (Object x) distinct apart known = rw (index_of-name objects x distinct known) refl
scope_of-text objects groups (Group g) distinct apart known = rw (index_of-name groups g apart known) refl
scope_of-text objects groups Everything distinct apart known = refl
scope_of-text objects groups Count distinct apart known = refl

-- ---- changes

-- the first part of a change by a number
abbrev op_text : NumberOp → List ℕ
op_text kind.Add = codes "add"
op_text kind.Set = codes "set"
op_text kind.Mul = codes "mul"
op_text kind.Max = codes "max"
op_text kind.Min = codes "min"

op_spelled : (column : List ℕ) (op : NumberOp) → number_op_of column ≡ Some op → column ≡ op_text op
op_spelled column op =
    let spelled : (q : NumberOp) → bytes_eq column (op_text q) ≡ true → Some q ≡ Some op → column ≡ op_text op =
    λ q same is. same_bytes column (op_text q) same ∙ ap op_text (same_Some q op is) in
    branch (bytes_eq column (codes "add")) _ _ op (spelled kind.Add) (
    branch (bytes_eq column (codes "set")) _ _ op (spelled kind.Set) (
    branch (bytes_eq column (codes "mul")) _ _ op (spelled kind.Mul) (
    branch (bytes_eq column (codes "max")) _ _ op (spelled kind.Max) (
    branch (bytes_eq column (codes "min")) _ _ op (spelled kind.Min) (λ h. absurd cc)))))

-- the parts of an operation
abbrev kind_part : Operation → List ℕ
kind_part (word.WithNumber op n) = op_text op
kind_part (word.Take y) = codes "take"

abbrev operand_part : Operation → List ℕ
operand_part (word.WithNumber op n) = signed_decimal n
operand_part (word.Take y) = y

take_spelled : (operand : List ℕ) (b : Bool) (o : Operation) → (if b then None else Some (word.Take operand)) ≡ Some o
    → (codes "take" ≡ kind_part o) × (operand ≡ operand_part o)
take_spelled operand true o h = absurd cc
take_spelled operand false o h =
    let e = same_Some (word.Take operand) o h in
    (ap kind_part e, ap operand_part e)

operation_spelled : (kind operand : List ℕ) (o : Operation) → operation_of kind operand ≡ Some o
    → (kind ≡ kind_part o) × (operand ≡ operand_part o)
operation_spelled kind operand o =
    branch (bytes_eq kind (codes "take")) _ _ o (λ same h.
    let (first, second) = take_spelled operand (length operand == 0) o h in
    (same_bytes kind _ same ∙ first, second))
    (λ h.
    let (op, is_op, rest) = bound _ (number_op_of kind) o h in
    let (n, is_n, is) = mapped (λ n. word.WithNumber op n) (number_of operand) o rest in
    (op_spelled kind op is_op ∙ ap kind_part is, (signed_decimal-number_of operand n is_n).1 ∙ ap operand_part is))

-- the word of a change word
abbrev word_text : ChangeWord → List ℕ
word_text c = kind_part c.operation ++ 58 ∷ (c.object ++ 58 ∷ operand_part c.operation)

part_spelled : (kind name operand : List ℕ) (b : Bool) (c : ChangeWord)
    → (if b then None else option_map (λ (o : Operation). let c : ChangeWord = record { object = name; operation = o } in c)
    (operation_of kind operand)) ≡ Some c
    → kind ++ 58 ∷ (name ++ 58 ∷ operand) ≡ word_text c
part_spelled kind name operand true c h = absurd cc
part_spelled kind name operand false c h =
    let (o, read, is) = mapped _ (operation_of kind operand) c h in
    let (first, second) = operation_spelled kind operand o read in
    ap (λ k. k ++ 58 ∷ (name ++ 58 ∷ operand)) first ∙ ap (λ v. kind_part o ++ 58 ∷ (name ++ 58 ∷ v)) second ∙ ap word_text is

parts_spelled : (parts : List (List ℕ)) (c : ChangeWord) → change_of_parts parts ≡ Some c → join_with_byte 58 parts ≡ word_text c
parts_spelled [] c h = absurd cc
parts_spelled (kind ∷ []) c h = absurd cc
parts_spelled (kind ∷ name ∷ []) c h = absurd cc
parts_spelled (kind ∷ name ∷ operand ∷ []) c h = part_spelled kind name operand (length name == 0) c h
parts_spelled (kind ∷ name ∷ operand ∷ part ∷ parts) c h = absurd cc

change_of-spelled : (column : List ℕ) (c : ChangeWord) → change_of column ≡ Some c → column ≡ word_text c
change_of-spelled column c h = sym (join_with_byte-slice_split 58 column) ∙ parts_spelled (slice_split (λ byte. byte == 58) column) c h

op_in-spelled : (objects : Objects) (x : List ℕ) (o : Operation) (op : Op) → op_in objects o ≡ Some op
    → kind_part o ++ 58 ∷ (x ++ 58 ∷ operand_part o) ≡ operation_text objects x op
op_in-spelled objects x (word.WithNumber kind.Add n) op h = ap (operation_text objects x) (same_Some (Add n) op h)
op_in-spelled objects x (word.WithNumber kind.Set n) op h = ap (operation_text objects x) (same_Some (Set n) op h)
op_in-spelled objects x (word.WithNumber kind.Mul n) op h = ap (operation_text objects x) (same_Some (Mul n) op h)
op_in-spelled objects x (word.WithNumber kind.Max n) op h = ap (operation_text objects x) (same_Some (Max n) op h)
op_in-spelled objects x (word.WithNumber kind.Min n) op h = ap (operation_text objects x) (same_Some (Min n) op h)
op_in-spelled objects x (word.Take y) op h =
    let (place, found, is) = mapped (λ place. Take place) (index_of y objects) op h in
    ap (λ name. change_word (codes "take") x name) (sym (name_found y objects place found).1) ∙ ap (operation_text objects x) is

pub change_spelled : (objects : Objects) (column : List ℕ) (c : Change) → change_by objects column ≡ Some c → column ≡ change_text objects c
change_spelled objects column c h =
    let (w, read, resolved) = bound (change_in objects) (change_of column) c h in
    let (object, found, rest) = bound _ (index_of w.object objects) c resolved in
    let (op, known, is) = bound _ (op_in objects w.operation) c rest in
    let e : (let d : Change = record { object = object; op = op } in d ≡ c) = same_Some _ c is in
    change_of-spelled column w read
    ∙ op_in-spelled objects w.object w.operation op known
    ∙ ap (λ name. operation_text objects name op) (sym (name_found w.object objects object found).1)
    ∙ ap (change_text objects) e

-- ---- changes read back

abbrev is_colon : ℕ → Bool
is_colon byte = byte == 58

abbrev IsPart : ℕ → Type 0
IsPart byte = is_colon byte ≡ false

name_byte : (b : ℕ) → is_name_byte b ≡ true → is_colon b ≡ false
name_byte b h = grind (arith, nat_tests)

-- what holds of the bytes that names have holds of those of a name
pub name_bytes : (P : ℕ → Type 0) → ((b : ℕ) → is_name_byte b ≡ true → P b) → (name : List ℕ) → is_name name ≡ true → All P name
name_bytes P f name h = all_from is_name_byte P f name (and_parts _ (list_all is_name_byte name) h).1

name_part : (name : List ℕ) → is_name name ≡ true → All IsPart name
name_part = name_bytes IsPart name_byte

digit_byte : (b : ℕ) → is_ascii_digit b ≡ true → is_colon b ≡ false
digit_byte b h = grind (arith, nat_tests)

-- what holds of the digits holds of the bytes of a number
module _ (P : ℕ → Type 0) (f : (b : ℕ) → is_ascii_digit b ≡ true → P b) where
  digit_bytes : (digits : List ℕ) → all_ascii_digits digits ≡ true → All P digits
  digit_bytes [] h = All-nil P
  digit_bytes (b ∷ digits) h = let both = and_parts _ _ h in All-cons P b digits (f b both.0) (digit_bytes digits both.1)

  pub decimal_bytes : (n : ℕ) → n < 10 ^ 19 → All P (decimal n)
  decimal_bytes n small = digit_bytes (decimal n) (digits_decimal numerals n (omega arith))

number_part : (z : ℤ) → unsigned_abs z < 10 ^ 19 → All IsPart (signed_decimal z)
number_part (pos n) small = decimal_bytes IsPart digit_byte n small
number_part (negsuc n) small =
    All-cons IsPart 45 (decimal (suc n)) refl (decimal_bytes IsPart digit_byte (suc n) (omega arith))

-- the parts of what two colons join, after the first
two_parts : (x operand : List ℕ) → All IsPart x → All IsPart operand → slice_split is_colon (x ++ 58 ∷ operand) ≡ x ∷ operand ∷ []
two_parts x operand name rest =
    slice_split_at is_colon x 58 operand name refl ∙ ap (λ parts. x ∷ parts) (slice_split_none is_colon operand rest)

named : (x : List ℕ) → is_name x ≡ true → (length x == 0) ≡ false
named [] h = absurd cc
named (b ∷ x) h = grind (arith, nat_tests)

-- a change by a number
number_read : (op : NumberOp) (x : List ℕ) (n : ℤ) → is_name x ≡ true → unsigned_abs n < 10 ^ 19
    → change_of (change_word (op_text op) x (signed_decimal n)) ≡ Some (record { object = x; operation = word.WithNumber op n })
number_read kind.Add x n name small =
    rw (two_parts x (signed_decimal n) (name_part x name) (number_part n small), named x name, number_of-signed_decimal n small) refl
number_read _ x n name small =
    rw (two_parts x (signed_decimal n) (name_part x name) (number_part n small), named x name, number_of-signed_decimal n small) refl

take_read : (x y : List ℕ) → is_name x ≡ true → is_name y ≡ true
    → change_of (change_word (codes "take") x y) ≡ Some (record { object = x; operation = word.Take y })
take_read x y name other = rw (two_parts x y (name_part x name) (name_part y other), named x name, named y other) refl

-- the name of an object is one
pub name_of : {V : Type 0} (table : List (List ℕ × V)) (place : ℕ) → AreNames table → place < length table
    → is_name (name_at table place) ≡ true
name_of [] place names lt = absurd (omega arith)
name_of {V} (e ∷ table) place names lt =
    rw (get_or-map (λ (e : List ℕ × V). e.0) (e ∷ table) place e [] lt) (names place e lt)

module _ (objects : Objects) (distinct : AreDistinct objects) (names : AreNames objects) where
  number_change : (op : NumberOp) (x : ℕ) (n : ℤ) → x < length objects → unsigned_abs n < 10 ^ 19
      → change_by objects (change_word (op_text op) (name_at objects x) (signed_decimal n))
      ≡ Some (record { object = x; op = op_with op n })
  number_change op x n lt small =
      ap (option_and_then (change_in objects)) (number_read op (name_at objects x) n (name_of objects x names lt) small)
      ∙ rw (index_of-name objects x distinct lt) refl

  op_read : (x : ℕ) (op : Op) → x < length objects → IfSome (source_of op) (λ y. y < length objects) → IfSome (op_number op) IsInRange
      → change_by objects (operation_text objects (name_at objects x) op) ≡ Some (record { object = x; op = op })
  op_read x (Add n) lt known small = number_change kind.Add x n lt (omega arith)
  op_read x (Set n) lt known small = number_change kind.Set x n lt (omega arith)
  op_read x (Mul n) lt known small = number_change kind.Mul x n lt (omega arith)
  op_read x (Max n) lt known small = number_change kind.Max x n lt (omega arith)
  op_read x (Min n) lt known small = number_change kind.Min x n lt (omega arith)
  op_read x (Take y) lt known small =
      ap (option_and_then (change_in objects))
      (take_read (name_at objects x) (name_at objects y) (name_of objects x names lt) (name_of objects y names known))
      ∙ rw (index_of-name objects x distinct lt, index_of-name objects y distinct known) refl

  pub change_by-text : (c : Change) → IsKnown (length objects) c → IfSome (op_number c.op) IsInRange
      → change_by objects (change_text objects c) ≡ Some c
  change_by-text c known small = op_read c.object c.op known.0 known.1 small
