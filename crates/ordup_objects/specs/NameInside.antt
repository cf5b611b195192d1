-- A name in the fields of a `Name`.
use Rattle.std.specs.Prelude.{◌≡◌, ℕ, ◌-◌, ◌≤◌, ◌++◌, List, length, take, drop, replicate, true}
use Rattle.std.proofs.Common.{arith, length-take, ◌∙◌, ap}
use Rattle.std.proofs.lemmas.List.{take-append-drop}
use Rattle.ordup_objects.specs.Sizes.{most_name_bytes}
use Rattle.ordup_objects.specs.Names.{is_name}
use Rattle.ordup_objects.specs.declared.name.Name.TheInside.{Inside}

abbrev pub bytes_of : Inside → List ℕ
bytes_of a = take a.len a.bytes

-- the bytes of a name, and then zeros
pub record IsPadded (a : Inside) : Type 0 where
  pub few : a.len ≤ most_name_bytes
  pub size : length a.bytes ≡ most_name_bytes
  pub zeros : drop a.len a.bytes ≡ replicate (most_name_bytes - a.len) 0
  pub name : is_name (take a.len a.bytes) ≡ true

abbrev pub inside_of : List ℕ → Inside
inside_of xs = record { bytes = xs ++ replicate (most_name_bytes - length xs) 0; len = length xs }

same_inside : (a : Inside) (xs : List ℕ) (n : ℕ) → xs ≡ a.bytes → n ≡ a.len
    → (let b : Inside = record { bytes = xs; len = n } in b ≡ a)
same_inside a xs n e f =
    let inside : List ℕ → ℕ → Inside = λ ys k. record { bytes = ys; len = k } in
    ap (λ ys. inside ys n) e ∙ ap (inside a.bytes) f

pub inside_of-bytes_of : (a : Inside) → IsPadded a → inside_of (bytes_of a) ≡ a
inside_of-bytes_of a is =
    let len : length (take a.len a.bytes) ≡ a.len = simp length-take (omega (arith, is.size, is.few)) in
    let bytes : take a.len a.bytes ++ replicate (most_name_bytes - length (take a.len a.bytes)) 0 ≡ a.bytes =
    rw (len, ← is.zeros) (take-append-drop a.len a.bytes) in
    same_inside a _ _ bytes len
