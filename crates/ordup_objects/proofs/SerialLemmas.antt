-- Serial results, and logs that grow.
use Rattle.std.proofs.Common.{◌≡◌, ℕ, zero, suc, ◌+◌, ◌<◌, ◌≤◌, true, List, [], ◌∷◌}
use Rattle.std.proofs.Common.{◌++◌, length, get_or, arith, refl, ap, ◌∙◌, inl, inr}
use Rattle.std.specs.List.{fold}
use Rattle.std.proofs.Math.Seq.{take-suc, get_or-append_seam}
use Rattle.std.proofs.Math.ListN.{set, length-set, get_or-append}
use Rattle.std.proofs.lemmas.Bool.{cases_lt}
use Rattle.std.proofs.lemmas.List.{take-append-le, length_push}
use Rattle.std.proofs.lemmas.List.Elements.{All-push}
use Rattle.std.proofs.lemmas.List.Sums.{fold-append}
use Rattle.ordup_objects.specs.declared.change.Change.{Change}
use Rattle.ordup_objects.specs.States.{State, result_at, after, is_legal, IsState}
use Rattle.ordup_objects.specs.Sets.{IsSet, AreKnown}
use Rattle.ordup_objects.specs.Serial.{History, serial, with_update, IsLegalHistory, LongerHistoriesKeepSerialResults}
use Rattle.ordup_objects.proofs.SetLemmas.{IsState-after}

-- one update more
pub serial-suc : (h : History) (j : ℕ) → j < length h.sets → serial h (suc j) ≡ after (get_or h.sets j []) (serial h j)
serial-suc h j lt = rw (take-suc h.sets j [], fold-append) refl

-- putting results keeps the number of values
length-put : (m : List Change) (v w : State) → length (fold (λ u c. set u c.object (result_at v c)) w m) ≡ length w
length-put [] v w = refl
length-put (c ∷ m) v w = length-put m v (set w c.object (result_at v c)) ∙ length-set w c.object (result_at v c)

-- a set keeps the number of values
pub length-after : (m : List Change) (v : State) → length (after m v) ≡ length v
length-after m v = length-put m v v

-- a serial result has as many values as the start
pub length-serial : (h : History) (j : ℕ) → j ≤ length h.sets → length (serial h j) ≡ length h.start
length-serial h zero le = refl
length-serial h (suc j) le =
    ap length (serial-suc h j (omega arith)) ∙ length-after (get_or h.sets j []) (serial h j) ∙ length-serial h j (omega arith)

-- the values of a serial result are in range
pub IsState-serial : (h : History) → IsLegalHistory h → (j : ℕ) → j ≤ length h.sets → IsState (serial h j)
IsState-serial h legal zero le = legal.start
IsState-serial h legal (suc j) le =
    rw (serial-suc h j (omega arith))
    (IsState-after (serial h j) (get_or h.sets j []) (IsState-serial h legal j (omega arith)) (legal.legal j (omega arith)))

-- updates that are added later leave the serial results as they were
pub serial-longer : LongerHistoriesKeepSerialResults
serial-longer h more j le = rw (take-append-le j h.sets more le) refl

-- the serial result after one update more
pub serial-last : (h : History) (m : List Change) → serial (with_update h m) (length h.sets + 1) ≡ after m (serial h (length h.sets))
serial-last h m =
    let lt : length h.sets < length (h.sets ++ m ∷ []) = omega (arith, length_push h.sets m) in
    let e : length h.sets + 1 ≡ suc (length h.sets) = omega arith in
    rw (
      e,
      serial-suc (with_update h m) (length h.sets) lt,
      get_or-append_seam h.sets m [] [],
      serial-longer h (m ∷ []) (length h.sets) (omega arith),
    ) refl

-- a legal log stays legal by one legal set more
pub IsLegalHistory-longer : (h : History) (m : List Change) → IsLegalHistory h → IsSet m → AreKnown (length h.start) m
    → is_legal m (serial h (length h.sets)) ≡ true → IsLegalHistory (with_update h m)
IsLegalHistory-longer h m is set known legal = record {
  start = is.start;
  sets = All-push IsSet h.sets m is.sets set;
  known = All-push (AreKnown (length h.start)) h.sets m is.known known;
  legal = λ k lt. elim (cases_lt k (length h.sets)) [
    | inl before ↦ rw (get_or-append h.sets (m ∷ []) [] k before, serial-longer h (m ∷ []) k (omega arith)) (is.legal k before)
    | inr past ↦ (let at : k ≡ length h.sets = omega (arith, length_push h.sets m) in
        rw (at, get_or-append_seam h.sets m [] [], serial-longer h (m ∷ []) (length h.sets) (omega arith)) legal)
  ];
}
