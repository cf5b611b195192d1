-- The fields of a log that grows.
use Rattle.std.proofs.Common.{◌≡◌, ℕ, suc, ◌+◌, ◌-◌, ◌*◌, ◌/◌, ◌<◌, ◌≤◌, ◌^◌, true, sum_by}
use Rattle.std.proofs.Common.{List, [], ◌∷◌, ◌++◌, length, take, drop, get_or}
use Rattle.std.proofs.Common.{arith, refl, sym, ap, ◌∙◌, inl, inr, Vec, vec_len, ℤ, replicate}
use Rattle.std.specs.Prelude.{◌==◌, false, None, Some}
use Rattle.std.proofs.Math.ListN.{get_or-append}
use Rattle.std.proofs.Math.Seq.{get_or-append_seam, drop-append_seam}
use Rattle.std.proofs.lemmas.Bool.{cases_lt, ne_eqb}
use Rattle.std.proofs.lemmas.List.{length_push, get_or_push, length-take-le, take-take, take_more, get_or-replicate, length-replicate}
use Rattle.ordup_objects.specs.declared.change.Change.{Change}
use Rattle.ordup_objects.specs.declared.moved.Moved.{Moved}
use Rattle.ordup_objects.specs.declared.refusal.Refusal.TheVariants.{OutOfRange}
use Rattle.ordup_objects.specs.Sizes.{most_updates}
use Rattle.ordup_objects.specs.States.{State, after, is_legal, IsState}
use Rattle.ordup_objects.specs.Sets.{IsSet, AreKnown}
use Rattle.ordup_objects.specs.Serial.{History, serial, set_at, with_update, prefix_of, IsLegalHistory}
use Rattle.ordup_objects.specs.Marks.{AreMarks, mark_at}
use Rattle.ordup_objects.specs.Moves.{moves_of}
use Rattle.ordup_objects.specs.Weights.{object_span}
use Rattle.ordup_log.specs.declared.log.Log.TheInside.{Inside}
use Rattle.ordup_log.specs.Appending.{append_refusal}
use Rattle.ordup_log.specs.Moving.{moves_below, distance_on}
use Rattle.ordup_log.specs.Rows.{updates_a_row, row_due}
use Rattle.ordup_log.specs.LogInside.{IsLog, history_of}
use Rattle.ordup_objects.proofs.SpanLemmas.{object_span-suc, object_span-longer}
use Rattle.ordup_objects.proofs.SerialLemmas.{length-after, serial-longer, serial-last, IsLegalHistory-longer}
use Rattle.ordup_log.proofs.MovingLemmas.{on-at, below-longer, length-below}
use Rattle.ordup_log.proofs.RowLemmas.{marked-longer, marks-longer}
use Rattle.ordup_log.proofs.WeightLemmas.{object_span-few}

-- where the moves of the updates of a log that grows begin
begins-longer : (h : History) (m : List Change) (begins : List ℕ) (begin : ℕ) → length begins ≡ length h.sets
    → ((k : ℕ) → k < length h.sets → get_or begins k 0 ≡ length (moves_below h k)) → begin ≡ length (moves_below h (length h.sets))
    → (k : ℕ) → k < suc (length h.sets) → get_or (begins ++ begin ∷ []) k 0 ≡ length (moves_below (with_update h m) k)
begins-longer h m begins begin len each last k lt = elim (cases_lt k (length h.sets)) [
  | inl before ↦
      get_or-append begins (begin ∷ []) 0 k (omega (arith, len)) ∙ each k before
      ∙ ap length (sym (below-longer h (m ∷ []) k (omega arith)))
  | inr past ↦ (let at : k ≡ length h.sets = omega arith in
      get_or_push begins begin 0 k (len ∙ sym at) ∙ last ∙ ap length (rw at (sym (below-longer h (m ∷ []) (length h.sets) (omega arith)))))
]

-- the moves that were added last
pub last-moves : (old new all ms : List Moved) (begin : ℕ) → new ≡ old ++ ms → all ≡ new → begin ≡ length old → drop begin all ≡ ms
last-moves old new all ms begin added is at = rw (is, added, at) (drop-append_seam old ms)

-- a log without updates
pub IsLog-empty : {A : Type 0} {results : List ℤ} (start end : State) (sets : Vec (List Change) A) (moves : Vec Moved A)
    (begins travelled marks : Vec ℕ A) → IsState start → end ≡ start → sets.items ≡ [] → moves.items ≡ [] → begins.items ≡ []
    → travelled.items ≡ replicate (length start) 0 → marks.items ≡ []
    → IsLog (record {
      start = start;
      sets = sets;
      moves = moves;
      begins = begins;
      travelled = travelled;
      marks = marks;
      end = end;
      results = results;
    })
IsLog-empty start end sets moves begins travelled marks state at e f b t g =
    let len : vec_len sets ≡ 0 = sets.ok.0 ∙ ap length e in
    let count : length travelled.items ≡ length start = ap length t ∙ length-replicate (length start) 0 in
    record {
      few = omega arith;
      legal = rw e (record {
        start = state;
        sets = λ k d lt. absurd (omega arith);
        known = λ k d lt. absurd (omega arith);
        legal = λ k lt. absurd (omega arith);
      });
      same = ap length at;
      moves = rw e f;
      kept = omega (arith, begins.ok.0, ap length b, len);
      begins = λ k lt. absurd (omega (arith, lt, ap length e));
      count = count;
      travelled = λ x lt. rw (e, t) (get_or-replicate (length start) x 0 0 (omega (arith, lt, count)));
      marked = rw (e, g) (omega arith);
      marks = λ b x lt below. absurd (omega (arith, lt, ap (λ (s : List (List Change)). length s / updates_a_row) e));
      end = rw len at;
    }

module _ {A : Type 0} (l : Inside A) (is : IsLog l) where
  -- a legal set is not refused
  pub allowed : (h : History) (m : List Change) → history_of l ≡ h → vec_len l.sets < most_updates → is_legal m l.end ≡ true
      → append_refusal h m ≡ None
  allowed h m view few legal =
      let other : (length l.sets.items == most_updates) ≡ false =
      ne_eqb (length l.sets.items) most_updates (λ e. omega (arith, e, few, l.sets.ok.0)) in
      let now : is_legal m (serial (history_of l) (length l.sets.items)) ≡ true = rw (← l.sets.ok.0, ← is.end) legal in
      rw (← view, other, now) refl

  -- and one that is not legal is
  pub not_allowed : (h : History) (m : List Change) → history_of l ≡ h → vec_len l.sets < most_updates → is_legal m l.end ≡ false
      → append_refusal h m ≡ Some OutOfRange
  not_allowed h m view few illegal =
      let other : (length l.sets.items == most_updates) ≡ false =
      ne_eqb (length l.sets.items) most_updates (λ e. omega (arith, e, few, l.sets.ok.0)) in
      let now : is_legal m (serial (history_of l) (length l.sets.items)) ≡ false = rw (← l.sets.ok.0, ← is.end) illegal in
      rw (← view, other, now) refl

  -- an index of its moves fits in four bytes
  pub moves-short : length l.moves.items < 2 ^ 32
  moves-short =
      omega (
        arith,
        ap length is.moves,
        length-below (history_of l) is.legal (length l.sets.items) (omega arith),
        is.few,
        l.sets.ok.0,
      )

  -- a log keeps its invariant where its lists only get spare capacity
  pub IsLog-same : {results : List ℤ} (sets : Vec (List Change) A) (moves : Vec Moved A) (begins marks : Vec ℕ A)
      → sets.items ≡ l.sets.items → moves.items ≡ l.moves.items → begins.items ≡ l.begins.items → marks.items ≡ l.marks.items
      → IsLog (record {
        start = l.start;
        sets = sets;
        moves = moves;
        begins = begins;
        travelled = l.travelled;
        marks = marks;
        end = l.end;
        results = results;
      })
  IsLog-same sets moves begins marks e f b g =
      let len : vec_len sets ≡ vec_len l.sets = omega (arith, sets.ok.0, l.sets.ok.0, ap length e) in
      record {
        few = omega (arith, len, is.few);
        legal = rw e is.legal;
        same = is.same;
        moves = rw (e, f) is.moves;
        kept = omega (arith, len, begins.ok.0, l.begins.ok.0, ap length b, is.kept);
        begins = λ k lt. rw (e, b) (is.begins k (rw e at lt));
        count = is.count;
        travelled = rw e is.travelled;
        marked = rw (e, g) is.marked;
        marks = λ b x lt below. rw (e, g) (is.marks b x (rw e at lt) below);
        end = rw (len, e) is.end;
      }

  module _ (m : List Change) (set : IsSet m) (legal : is_legal m l.end ≡ true) (known : AreKnown (length l.start) m) where
    -- the log with the set as its last update
    abbrev longer : History
    longer = with_update (history_of l) m

    here : vec_len l.sets ≡ length l.sets.items
    here = l.sets.ok.0

    now : l.end ≡ serial (history_of l) (length l.sets.items)
    now = is.end ∙ ap (serial (history_of l)) here

    legal_now : IsLegalHistory longer
    legal_now = IsLegalHistory-longer (history_of l) m is.legal set known (rw (← now) legal)

    more : length (l.sets.items ++ m ∷ []) ≡ suc (length l.sets.items)
    more = omega (arith, length_push l.sets.items m)

    -- its moves are those of the update
    moved : moves_of l.end m ≡ moves_of (serial longer (length l.sets.items)) (get_or longer.sets (length l.sets.items) [])
    moved =
        rw (get_or-append_seam l.sets.items m [] [], serial-longer (history_of l) (m ∷ []) (length l.sets.items) (omega arith), ← now)
        refl

    -- what an object travelled with it
    travelled-more : (x : ℕ) → x < length l.start
        → mark_at l.travelled.items x + sum_by (distance_on x) (moves_of l.end m) ≡ object_span longer x 0 (suc (length l.sets.items))
    travelled-more x lt =
        omega (
          arith,
          is.travelled x (omega (arith, lt, is.count)),
          ap (sum_by (distance_on x)) moved,
          on-at longer legal_now x (length l.sets.items) (omega (arith, more)),
          object_span-suc longer x (length l.sets.items),
          object_span-longer (history_of l) (m ∷ []) x 0 (length l.sets.items) (omega arith),
        )

    -- fits
    pub travelled-fits : vec_len l.sets < most_updates → (x : ℕ) → x < length l.start
        → mark_at l.travelled.items x + sum_by (distance_on x) (moves_of l.end m) < 2 ^ 64
    travelled-fits few x lt =
        omega (
          arith,
          travelled-more x lt,
          object_span-few longer legal_now x (suc (length l.sets.items)) (omega (arith, more)),
          few,
          here,
        )

    -- a log keeps its invariant by one legal set more, with its moves, what objects travelled by them, and the values after it
    pub IsLog-longer : {results : List ℤ} (sets : Vec (List Change) A) (moves : Vec Moved A) (begins travelled marks : Vec ℕ A)
        (end : State) (number begin : ℕ)
        → vec_len l.sets < most_updates → number ≡ vec_len l.sets + 1 → begin ≡ length l.moves.items
        → sets.items ≡ l.sets.items ++ m ∷ [] → moves.items ≡ l.moves.items ++ moves_of l.end m
        → begins.items ≡ l.begins.items ++ begin ∷ [] → length travelled.items ≡ length l.travelled.items
        → ((x : ℕ) → x < length l.travelled.items →
        mark_at travelled.items x ≡ mark_at l.travelled.items x + sum_by (distance_on x) (moves_of l.end m))
        → marks.items ≡ l.marks.items ++ row_due number travelled.items → end ≡ after m l.end
        → IsLog (record {
          start = l.start;
          sets = sets;
          moves = moves;
          begins = begins;
          travelled = travelled;
          marks = marks;
          end = end;
          results = results;
        })
    IsLog-longer sets moves begins travelled marks end number begin few at from e f b same each g k =
        let h : History = history_of l in
        let n : ℕ = length h.sets in
        let number_is : number ≡ suc n = omega (arith, at, here) in
        let count : length travelled.items ≡ length l.start = same ∙ is.count in
        let are : AreMarks longer (suc n) travelled.items =
        λ x lt. each x (omega (arith, lt, same)) ∙ travelled-more x (omega (arith, lt, count)) in
        let rows : length marks.items ≡ number / updates_a_row * length l.start =
        ap length g ∙ marked-longer h m l.marks.items travelled.items number number_is is.marked count in
        record {
          few = omega (arith, sets.ok.0, ap length e, more, here);
          legal = rw e legal_now;
          same = ap length k ∙ length-after m l.end ∙ is.same;
          moves = rw (e, more) (f ∙ ap (λ ms. ms ++ moves_of l.end m) (is.moves ∙ sym (below-longer h (m ∷ []) n (omega arith)))
              ∙ ap (λ ms. moves_below longer n ++ ms) moved);
          kept = omega (
            arith,
            sets.ok.0,
            begins.ok.0,
            l.begins.ok.0,
            ap length e,
            more,
            here,
            ap length b,
            length_push l.begins.items begin,
            is.kept,
          );
          begins = λ j lt. rw (e, b) (begins-longer h m l.begins.items begin (omega (arith, here, l.begins.ok.0, is.kept)) is.begins
              (from ∙ ap length is.moves) j (omega (arith, lt, ap length e, more)));
          count = count;
          travelled = rw (e, more) are;
          marked = rw (e, more, ← number_is) rows;
          marks = λ r x lt below. rw (e, g) (marks-longer h m l.marks.items travelled.items number number_is is.marked count is.marks are r x
              (rw (number_is, ← more, ← e) lt) below);
          end = rw (sets.ok.0, e, length_push h.sets m, serial-last h m, ← now) k;
        }

-- a prefix of a legal log takes the update after it
pub append_refusal-prefix : (h log : History) (m : List Change) (k : ℕ) → IsLegalHistory h → length h.sets ≤ most_updates
    → k < length h.sets → log ≡ prefix_of h k → m ≡ set_at h (k + 1) → append_refusal log m ≡ None
append_refusal-prefix h log m k legal few lt prefix set =
    let count : length (take k h.sets) ≡ k = length-take-le k h.sets (omega arith) in
    let spare : (k == most_updates) ≡ false = ne_eqb k most_updates (λ e. omega arith) in
    let place : k + 1 - 1 ≡ k = omega arith in
    rw (prefix, set, place, count, spare, take-take k k h.sets (omega arith), legal.legal k lt) refl

-- and is the longer prefix then
pub prefix-longer : (h log : History) (m : List Change) (k : ℕ) → k < length h.sets → log ≡ prefix_of h k → m ≡ set_at h (k + 1)
    → with_update log m ≡ prefix_of h (k + 1)
prefix-longer h log m k lt prefix set =
    let place : k + 1 - 1 ≡ k = omega arith in
    rw (prefix, set, place, take_more h.sets k [] lt) refl
