-- How many digits a number has.
use Rattle.std.proofs.Common.{◌≡◌, ◌∙◌, ap, sym, subst, ℕ, zero, suc, ◌+◌, ◌*◌, ◌/◌, ◌-◌, ◌%◌, ◌^◌, ◌<◌, ◌≤◌}
use Rattle.std.proofs.Common.{List, [], ◌∷◌, ◌++◌, length, take, drop, arith, lit<}
use Rattle.std.proofs.Math.Nat.{pow-le-pow_right}
use Rattle.std.proofs.Math.Seq.{take-append-add, take-append_seam}
use Rattle.std.proofs.lemmas.List.{length-append, length-take, length-take-le, take-append-drop, take-take}
use Rattle.std.proofs.lemmas.Fmt.{decimal_by_steps, length-decimal-le}
use Rattle.std.specs.Fmt.{decimal}

one_le_power : (k : ℕ) → 1 ≤ 10 ^ k
one_le_power k =
    let least : 0 ≤ k = omega arith in
    pow-le-pow_right {n = 10} (lit< tt) least

-- a number has more digits than the power of ten that it reaches
abbrev HasMoreDigits : ℕ → List ℕ → Type 0
HasMoreDigits n digits = (k : ℕ) → 10 ^ k ≤ n → k < length digits

one_digit : (n : ℕ) → n < 10 → HasMoreDigits n ((48 + n) ∷ [])
one_digit n small zero reached = omega arith
one_digit n small (suc k) reached = absurd (omega (arith, one_le_power k))

next_digit : (n : ℕ) (digits : List ℕ) → 10 ≤ n → HasMoreDigits (n / 10) digits → HasMoreDigits n (digits ++ (48 + n % 10) ∷ [])
next_digit n digits large before zero reached = omega (arith, length-append digits ((48 + n % 10) ∷ []))
next_digit n digits large before (suc k) reached =
    omega (arith, length-append digits ((48 + n % 10) ∷ []), before k (omega arith))

-- a number has one digit more than the greatest power of ten that it reaches
pub length-decimal : (n k : ℕ) → n < 2 ^ 64 → 10 ^ k ≤ n → n < 10 * 10 ^ k → length (decimal n) ≡ k + 1
length-decimal n k small reached below =
    omega (
      arith,
      length-decimal-le (suc k) n (omega arith) (omega arith) small,
      decimal_by_steps HasMoreDigits one_digit next_digit n small k reached,
    )

-- digits that are written behind the first `len` bytes
pub take-placed : (old new digits rest : List ℕ) (len : ℕ) → len ≤ length new → take len new ≡ take len old
    → drop len new ≡ digits ++ rest
    → take (len + length digits) new ≡ take len old ++ digits
take-placed old new digits rest len within before written =
    let front = take len new in
    let at : length front ≡ len = omega (arith, length-take {A = ℕ}) in
    let behind : take (length digits) (drop len new) ≡ digits = rw written (take-append_seam digits rest) in
    let parts = subst (λ k. take (k + length digits) (front ++ drop len new) ≡ front ++ take (length digits) (drop len new)) at
    (take-append-add front (drop len new) (length digits)) in
    let whole = ap (take (len + length digits)) (sym (take-append-drop len new)) in
    whole ∙ parts ∙ ap (λ ds. front ++ ds) behind ∙ ap (λ xs. xs ++ digits) before

-- a text to which another was added, without the last bytes of that one
pub take-shortened : (bytes old text : List ℕ) (len fewer size : ℕ) → take len bytes ≡ old ++ text → len ≤ length bytes
    → length text ≡ size → fewer ≤ size
    → take (len - (size - fewer)) bytes ≡ old ++ take fewer text
take-shortened bytes old text len fewer size whole within is few =
    let long : length old + size ≡ len =
    omega (arith, length-append old text, length-take-le len bytes within, ap length whole, is) in
    let less : len - (size - fewer) ≡ length old + fewer = omega (arith, long) in
    ap (λ k. take k bytes) less ∙ sym (take-take (length old + fewer) len bytes (omega (arith, long)))
    ∙ ap (take (length old + fewer)) whole ∙ take-append-add old text fewer
