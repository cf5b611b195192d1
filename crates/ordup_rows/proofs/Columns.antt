-- What columns spell, and that each value has one spelling.
use Rattle.ordup_audit.proofs.Common.{◌&&◌, ◌++◌, ◌<◌, ◌^◌, ◌∙◌, ◌∷◌, ◌≡◌, [], and_parts, ap, Bool, bytes_eq, bytes_eq-Decides, codes}
use Rattle.ordup_audit.proofs.Common.{decimal, drop, eq-eqb, eqb-true, false, if◌then◌else◌, length, length-map, List, names_of, negsuc}
use Rattle.ordup_audit.proofs.Common.{index_of, None, Option, option_and_then, pointwise, pos, refl, same_Some, Some, sym}
use Rattle.ordup_audit.proofs.Common.{take-append-drop, then_some, true, ℕ, ℤ}
use Rattle.std.proofs.Common.{option_map}
use Rattle.std.specs.Prelude.{nat_eq}
use Rattle.std.proofs.lemmas.List.Quantifiers.{position-Some}
use Rattle.ordup_grammar.specs.Numbers.{number_of}
use Rattle.ordup_grammar.proofs.Decimals.{number_of-signed_decimal, signed_decimal-number_of}
use Rattle.ordup_rows.specs.Columns.{Columns, columns_of, natural, natural_of, is_number, writes, has_prefix, after_prefix}
use Rattle.ordup_rows.specs.RowKinds.{kind_of, kind_text}
use Rattle.ordup_rows.specs.Rows.{Row, name_at}
use Rattle.ordup_rows.specs.declared.row_kind.RowKind.{RowKind}
use Rattle.ordup_rows.specs.declared.row_kind.RowKind.TheVariants as kind

-- ---- options

module _ {A B : Type 0} where
  pub mapped : (f : A → B) (o : Option A) (y : B) → option_map f o ≡ Some y → (x : A) × (o ≡ Some x) × (f x ≡ y)
  mapped f None y h = absurd cc
  mapped f (Some x) y h = (x, refl, same_Some (f x) y h)

  -- a value that came of another
  pub bound : (f : A → Option B) (o : Option A) (y : B) → option_and_then f o ≡ Some y → (x : A) × (o ≡ Some x) × (f x ≡ Some y)
  bound f None y h = absurd cc
  bound f (Some x) y h = (x, refl, h)

pub kept : {A : Type 0} (b : Bool) (x y : A) → then_some b x ≡ Some y → (b ≡ true) × (x ≡ y)
kept true x y h = (refl, same_Some x y h)
kept false x y h = absurd cc

-- the tests of a chain
module _ {a b c : Bool} where
  pub parts_3 : (a && b && c) ≡ true → (a ≡ true) × (b ≡ true) × (c ≡ true)
  parts_3 h = let (front, last) = and_parts _ _ h in let (first, second) = and_parts _ _ front in (first, second, last)

  pub parts_4 : {d : Bool} → (a && b && c && d) ≡ true → (a ≡ true) × (b ≡ true) × (c ≡ true) × (d ≡ true)
  parts_4 h = let (front, last) = and_parts _ _ h in let (first, second, third) = parts_3 front in (first, second, third, last)

-- a value that comes of one of two branches
pub branch : {A P : Type 0} (b : Bool) (o rest : Option A) (y : A) → (b ≡ true → o ≡ Some y → P) → (rest ≡ Some y → P)
    → (if b then o else rest) ≡ Some y → P
branch true o rest y here there h = here refl h
branch false o rest y here there h = there h

-- ---- texts

pub same_bytes : (xs ys : List ℕ) → bytes_eq xs ys ≡ true → xs ≡ ys
same_bytes xs ys h = (bytes_eq-Decides xs ys).0 h

pub bytes_same : (xs : List ℕ) → bytes_eq xs xs ≡ true
bytes_same xs = (bytes_eq-Decides xs xs).1 refl

-- a text that begins with a prefix
pub prefixed : (prefix column : List ℕ) → has_prefix prefix column ≡ true → column ≡ prefix ++ after_prefix prefix column
prefixed prefix column h =
    sym (take-append-drop (length prefix) column) ∙ ap (λ front. front ++ drop (length prefix) column) (same_bytes _ _ h)

-- ---- four columns

pub four_columns : (row : Row) (c : Columns) → columns_of row ≡ Some c → row ≡ c.kind ∷ c.first ∷ c.second ∷ c.third ∷ []
four_columns [] c h = absurd cc
four_columns (k ∷ []) c h = absurd cc
four_columns (k ∷ a ∷ []) c h = absurd cc
four_columns (k ∷ a ∷ b ∷ []) c h = absurd cc
four_columns (k ∷ a ∷ b ∷ d ∷ []) c h =
    let e = same_Some _ _ h in
    ap (λ (c : Columns). c.kind ∷ c.first ∷ c.second ∷ c.third ∷ []) e
four_columns (k ∷ a ∷ b ∷ d ∷ x ∷ xs) c h = absurd cc

-- ---- kinds

pub kind_spelled : (column : List ℕ) (k : RowKind) → kind_of column ≡ Some k → column ≡ kind_text k
kind_spelled column k =
    let spelled : (q : RowKind) → bytes_eq column (kind_text q) ≡ true → Some q ≡ Some k → column ≡ kind_text k =
    λ q same is. same_bytes column (kind_text q) same ∙ ap kind_text (same_Some q k is) in
    branch (bytes_eq column (codes "object")) _ _ k (spelled kind.Object) (
    branch (bytes_eq column (codes "member")) _ _ k (spelled kind.Member) (
    branch (bytes_eq column (codes "limit")) _ _ k (spelled kind.Limit) (
    branch (bytes_eq column (codes "change")) _ _ k (spelled kind.Change) (
    branch (bytes_eq column (codes "report")) _ _ k (spelled kind.Report) (
    branch (bytes_eq column (codes "round")) _ _ k (spelled kind.Round) (
    branch (bytes_eq column (codes "window")) _ _ k (spelled kind.Window) (λ h. absurd cc)))))))

-- ---- numbers

pub natural_of-decimal : (n : ℕ) → n < 10 ^ 19 → natural_of (decimal n) ≡ Some n
natural_of-decimal n small = ap (option_and_then natural) (number_of-signed_decimal (pos n) small)

pub writes-decimal : (n : ℕ) → n < 10 ^ 19 → writes (decimal n) n ≡ true
writes-decimal n small = rw (natural_of-decimal n small) (eq-eqb n n refl)

natural_pos : (z : ℤ) (n : ℕ) → natural z ≡ Some n → z ≡ pos n
natural_pos (pos m) n h = ap pos (same_Some m n h)
natural_pos (negsuc m) n h = absurd cc

-- a column that writes a number is its decimal text
pub natural_spelled : (column : List ℕ) (n : ℕ) → natural_of column ≡ Some n → (n < 10 ^ 19) × (column ≡ decimal n)
natural_spelled column n h =
    let (z, read, is) = bound natural (number_of column) n h in
    signed_decimal-number_of column (pos n) (read ∙ ap (λ z. Some z) (natural_pos z n is))

is_number-Some : (n : ℕ) (o : Option ℕ) → is_number n o ≡ true → o ≡ Some n
is_number-Some n None h = absurd cc
is_number-Some n (Some m) h = ap (λ k. Some k) (eqb-true m n h)

pub written : (column : List ℕ) (n : ℕ) → writes column n ≡ true → column ≡ decimal n
written column n h = (natural_spelled column n (is_number-Some n (natural_of column) h)).1

-- ---- names

-- a name that is found stands at its place
pub name_found : {V : Type 0} (name : List ℕ) (table : List (List ℕ × V)) (place : ℕ) → index_of name table ≡ Some place
    → (place < length table) × (name_at table place ≡ name)
name_found name table place h =
    let found = position-Some (pointwise nat_eq name) (names_of table) place [] h in
    (simp length-map at found.0, sym (same_bytes name (name_at table place) found.1))
