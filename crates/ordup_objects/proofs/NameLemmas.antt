-- Names over zeros: they are padded, and two are the same where their bytes are.
use Rattle.std.proofs.Common.{◌≡◌, ℕ, ◌*◌, ◌-◌, ◌≤◌, Bool, true, List, length, ◌++◌, take, drop, arith, replicate}
use Rattle.std.proofs.Common.{length-append, length-drop}
use Rattle.std.proofs.Common.{ap, ◌∙◌, sym, inl, inr, nat_eq, refl}
use Rattle.std.proofs.lemmas.List.{drop-replicate, take-take, take-append-drop}
use Rattle.std.proofs.Math.Seq.{drop-append_seam, take-append_seam}
use Rattle.std.proofs.lemmas.Bool.{and_parts, and_from, cases_Bool, leb-true}
use Rattle.std.specs.Cmp.Lexicographic.{pointwise, bytes_decides}
use Rattle.std.specs.Prelude.{◌&&◌}
use Rattle.ordup_objects.specs.Sizes.{most_name_bytes}
use Rattle.ordup_objects.specs.Names.{is_name, begins_with_letter}
use Rattle.ordup_objects.specs.NameInside.{IsPadded, bytes_of, inside_of, inside_of-bytes_of}
use Rattle.ordup_objects.specs.declared.name.Name.TheInside.{Inside}

-- the bytes of a name are few
pub length-name : (bytes : List ℕ) → is_name bytes ≡ true → length bytes ≤ most_name_bytes
length-name bytes h = leb-true _ _ (and_parts (begins_with_letter bytes) _ (and_parts _ _ h).0).1

-- a name over zeros is padded
pub IsPadded-over : (bytes : List ℕ) → is_name bytes ≡ true
    → (let a : Inside = record { bytes = bytes ++ drop (length bytes) (replicate most_name_bytes 0); len = length bytes } in IsPadded a)
IsPadded-over bytes h =
    let few : length bytes ≤ most_name_bytes = length-name bytes h in
    record {
      few = few;
      size = simp (length-append, length-drop) (omega arith);
      zeros = rw drop-append_seam (drop-replicate (length bytes) most_name_bytes 0);
      name = rw take-append_seam h;
    }

-- lists that are the same where two others are, and only there
pub alike : (xs ys us vs : List ℕ) → (xs ≡ ys → us ≡ vs) → (us ≡ vs → xs ≡ ys) → pointwise nat_eq xs ys ≡ pointwise nat_eq us vs
alike xs ys us vs to from = elim (cases_Bool (pointwise nat_eq xs ys)) [
  | inl same ↦ same ∙ sym ((bytes_decides us vs).1 (to ((bytes_decides xs ys).0 same)))
  | inr other ↦ elim (cases_Bool (pointwise nat_eq us vs)) [
    | inl same ↦ (let both = (bytes_decides xs ys).1 (from ((bytes_decides us vs).0 same)) in
        absurd (cc))
    | inr apart ↦ other ∙ sym apart
  ]
]

-- names are the same where their lengths and the bytes of their fields are
pub same_padded : (a b : Inside) → IsPadded a → IsPadded b → a.len ≡ b.len
    → pointwise nat_eq a.bytes b.bytes ≡ pointwise nat_eq (bytes_of a) (bytes_of b)
same_padded a b is_a is_b len =
    let fields : Inside → List ℕ = λ i. i.bytes in
    let to : a.bytes ≡ b.bytes → bytes_of a ≡ bytes_of b = λ e. rw (e, len) refl in
    let from : bytes_of a ≡ bytes_of b → a.bytes ≡ b.bytes = λ e.
    sym (ap fields (inside_of-bytes_of a is_a)) ∙ ap (λ xs. fields (inside_of xs)) e ∙ ap fields (inside_of-bytes_of b is_b) in
    alike a.bytes b.bytes (bytes_of a) (bytes_of b) to from

-- two lists are the same where their first n and their last n elements are, if these are all
ends_make : (n k : ℕ) (xs ys : List ℕ) → k ≤ n → take n xs ≡ take n ys → drop k xs ≡ drop k ys → xs ≡ ys
ends_make n k xs ys le first last =
    let front : take k xs ≡ take k ys = sym (take-take k n xs le) ∙ ap (λ zs. take k zs) first ∙ take-take k n ys le in
    sym (take-append-drop k xs) ∙ ap (λ zs. zs ++ drop k xs) front ∙ ap (λ zs. take k ys ++ zs) last ∙ take-append-drop k ys

-- so two runs of bytes of one length are told by their ends
pub same_ends : (n : ℕ) (xs ys : List ℕ) → length xs ≡ length ys → length ys ≤ 2 * n
    → (pointwise nat_eq (take n xs) (take n ys) && pointwise nat_eq (drop (length xs - n) xs) (drop (length ys - n) ys))
    ≡ pointwise nat_eq xs ys
same_ends n xs ys long few =
    let k = length ys - n in
    let le : k ≤ n = omega arith in
    let first : Bool = pointwise nat_eq (take n xs) (take n ys) in
    let last : Bool = pointwise nat_eq (drop k xs) (drop k ys) in
    rw long (elim (cases_Bool (pointwise nat_eq xs ys)) [
      | inl same ↦ (let e = (bytes_decides xs ys).0 same in
          and_from first last ((bytes_decides _ _).1 (ap (λ zs. take n zs) e)) ((bytes_decides _ _).1 (ap (λ zs. drop k zs) e)) ∙ sym same)
      | inr other ↦ elim (cases_Bool (first && last)) [
        | inl both ↦ (let parts = and_parts first last both in
            let e = ends_make n k xs ys le ((bytes_decides _ _).0 parts.0) ((bytes_decides _ _).0 parts.1) in
            let same = (bytes_decides xs ys).1 e in
            absurd (cc))
        | inr apart ↦ apart ∙ sym other
      ]
    ])
