-- Updates that are legal up to one that is not.
use Rattle.ordup_audit.proofs.Common.{◌++◌, ◌+◌, ◌<◌, ◌∙◌, ◌∷◌, ◌≡◌, ◌≤◌, [], All, ap, AreKnown, arith, Bool, cases_lt, Change, drop, false}
use Rattle.ordup_audit.proofs.Common.{get_or, get_or-map, greatest_value, History, history_of, in_range, inl, inr, IsLegalPrefix}
use Rattle.ordup_audit.proofs.Common.{IsLegalHistory, le-leb, length, lt-leb, List, list_all, map, RecordState, refl, result_at}
use Rattle.ordup_audit.proofs.Common.{serial, serial-longer, State, subst, suc, sym, take-append-drop, take_all, true, with_more}
use Rattle.ordup_audit.proofs.Common.{ℕ, ℤ}
use Rattle.std.specs.Int.RustNames.{unsigned_abs}
use Rattle.std.proofs.lemmas.List.{get_or-take}
use Rattle.ordup_audit.specs.Passing.{PassesBelow, IsFirstFailure, is_update_legal, is_change_in_range}
use Rattle.ordup_audit.specs.Rows.{change_row}
use Rattle.ordup_audit.specs.Verdicts.{IsIllegalRow}

-- a test that passes at each element passes at all
pub all-pass : {X : Type 0} (f : X → Bool) (xs : List X) → PassesBelow (λ p. get_or (map f xs) p true) (length xs)
    → list_all f xs ≡ true
all-pass f [] pass = refl
all-pass f (x ∷ xs) pass = rw (pass 0 (omega arith)) (all-pass f xs (λ k lt. pass (suc k) (omega arith)))

-- one number more at which the test passes
pub passes-more : (test : ℕ → Bool) (n : ℕ) → PassesBelow test n → test n ≡ true → PassesBelow test (n + 1)
passes-more test n before here k lt = elim (cases_lt k n) [
  | inl below ↦ before k below
  | inr at ↦ (let same : k ≡ n = omega arith in rw same here)
]

-- one result more that is in range
pub results-more : (v : State) (changes : List Change) (i : ℕ) (c : Change) (z : ℤ) → i < length changes → c ≡ get_or changes i c
    → z ≡ result_at v c → unsigned_abs z ≤ greatest_value
    → PassesBelow (λ p. get_or (map (λ d. in_range (result_at v d)) changes) p true) i
    → PassesBelow (λ p. get_or (map (λ d. in_range (result_at v d)) changes) p true) (i + 1)
results-more v changes i c z lt at is few before =
    let test : Change → Bool = λ d. in_range (result_at v d) in
    let here : test c ≡ true = le-leb (unsigned_abs (result_at v c)) greatest_value (rw is at few) in
    passes-more (λ p. get_or (map test changes) p true) i before
    (get_or-map test changes i c true lt ∙ ap test (sym at) ∙ here)

-- a result that is not in range
pub result-fails : (v : State) (changes : List Change) (i : ℕ) (c : Change) (z : ℤ) → i < length changes → c ≡ get_or changes i c
    → z ≡ result_at v c → greatest_value < unsigned_abs z
    → get_or (map (λ d. in_range (result_at v d)) changes) i true ≡ false
result-fails v changes i c z lt at is many =
    let test : Change → Bool = λ d. in_range (result_at v d) in
    get_or-map test changes i c true lt ∙ ap test (sym at)
    ∙ lt-leb (unsigned_abs (result_at v c)) greatest_value (rw is at many)

module _ (r : RecordState) (log : History) (front : IsLegalPrefix r log) where
  history-front : history_of r ≡ with_more log (drop (length log.sets) r.sets)
  history-front =
      let all : log.sets ++ drop (length log.sets) r.sets ≡ r.sets =
      ap (λ sets. sets ++ drop (length log.sets) r.sets) front.front ∙ take-append-drop (length log.sets) r.sets in
      sym (ap (λ sets. let h : History = record { start = log.start; sets = sets } in h) all
      ∙ ap (λ start. let h : History = record { start = start; sets = r.sets } in h) front.start)

  -- the serial results are those of the record
  pub serial-front : (j : ℕ) → j ≤ length log.sets → serial (history_of r) j ≡ serial log j
  serial-front j le = ap (λ h. serial h j) history-front ∙ serial-longer log (drop (length log.sets) r.sets) j le

  -- so are the updates
  set-front : (k : ℕ) → k < length log.sets → get_or log.sets k [] ≡ get_or r.sets k []
  set-front k lt = ap (λ sets. get_or sets k []) front.front ∙ get_or-take (length log.sets) r.sets k [] lt

  -- where the record has no more updates, they are legal
  pub front-all : length r.sets ≤ length log.sets → IsLegalHistory (history_of r)
  front-all le =
      let same : log.sets ≡ r.sets = front.front ∙ take_all (length log.sets) r.sets le in
      let history : history_of r ≡ log =
      sym (ap (λ sets. let h : History = record { start = log.start; sets = sets } in h) same
      ∙ ap (λ start. let h : History = record { start = start; sets = r.sets } in h) front.start) in
      rw history front.legal

  -- and else the first update after them is the first that is not legal
  pub front-fails : length log.sets < length r.sets → IsFirstFailure (is_update_legal r) (length r.sets) (length log.sets)
  front-fails lt = record {
    there = lt;
    fails = rw (serial-front (length log.sets) (omega arith)) (front.next lt);
    before = λ k before. rw (serial-front k (omega arith), ← set-front k before) (front.legal.legal k before);
  }

  -- the row of the first of its changes whose result is out of range
  pub illegal-row : (n p row : ℕ) (changes : List Change) → n ≡ length log.sets → n < length r.sets
      → changes ≡ get_or r.sets n []
      → IsFirstFailure (λ q. get_or (map (λ c. in_range (result_at (serial log (length log.sets)) c)) changes) q true) (length changes)
      p → row ≡ change_row r n p
      → IsIllegalRow r row
  illegal-row n p row changes count lt set fails is =
      let same : serial (history_of r) n ≡ serial log (length log.sets) = rw count (serial-front (length log.sets) (omega arith)) in
      let first : IsFirstFailure (is_change_in_range r n) (length (get_or r.sets n [])) p =
      subst (λ (v : State). IsFirstFailure (λ q. get_or (map (λ c. in_range (result_at v c)) (get_or r.sets n [])) q true)
      (length (get_or r.sets n [])) p) (sym same)
      (subst
      (λ (m : List Change). IsFirstFailure (λ q. get_or (map (λ c. in_range (result_at (serial log (length log.sets)) c)) m) q true)
      (length m) p) set fails) in
      (n, p, rw count (front-fails (omega arith)), first, is)

-- the changes of a set are on objects that are there
pub known-at : (n k : ℕ) (sets : List (List Change)) (changes : List Change) (v : State) → All (AreKnown n) sets → k < length sets
    → changes ≡ get_or sets k [] → length v ≡ n → AreKnown (length v) changes
known-at n k sets changes v known lt set same = rw (set, same) (known k [] lt)
