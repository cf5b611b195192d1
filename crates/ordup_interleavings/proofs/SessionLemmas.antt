-- What sessions are answered, from hold to hold.
use Rattle.std.proofs.Common.{◌≡◌, ℕ, ◌+◌, ◌-◌, ◌<◌, ◌≤◌, ◌==◌, ◌⊎◌, List, [], ◌∷◌, length, max, All}
use Rattle.std.proofs.Common.{refl, sym, ap, ◌∙◌, arith, inl, inr}
use Rattle.std.proofs.Math.ListN.{get_or-append}
use Rattle.std.proofs.Math.Seq.{get_or-append_seam}
use Rattle.std.proofs.lemmas.Bool.{cases_Bool, cases_eq, eq-eqb, ne_eqb}
use Rattle.std.proofs.lemmas.Option.{slice_get_within}
use Rattle.std.proofs.lemmas.List.{length_push, length-append}
use Rattle.std.proofs.lemmas.List.Elements.{All-cons, All-nil}
use Rattle.ordup_objects.specs.declared.change.Change.{Change}
use Rattle.ordup_objects.specs.States.{State, value_at}
use Rattle.ordup_objects.specs.Serial.{History, serial, set_at, with_more, with_update}
use Rattle.ordup_objects.proofs.SerialLemmas.{serial-longer}
use Rattle.ordup_primary.specs.Declarations.{Declared}
use Rattle.ordup_primary.specs.Primaries.{PrimaryState}
use Rattle.ordup_primary.proofs.PrimaryLemmas.{IsPrimary-proposed}
use Rattle.ordup_feed.specs.Parcels.{history_of}
use Rattle.ordup_holds.specs.Numbering.{with_numbered}
use Rattle.ordup_holds.proofs.BookLemmas.{keeps-numbered}
use Rattle.ordup_interleavings.specs.Moments.{Heard, Numbered, Acknowledged, Viewed, Caller, Moment, but_at}
use Rattle.ordup_interleavings.specs.Holds.{Hold, Number, NumberAndTurn, Turn, Hear, Relimit, Begin, Take, View, Read, Makes, Steps}
use Rattle.ordup_interleavings.specs.Holds.{Leads, Along, last_moment}
use Rattle.ordup_interleavings.specs.Promises.{furthest, last_number, StaysTrue, StayTrue, KeepsSession, SessionsReadTheirWrites, HasNumber}
use Rattle.ordup_interleavings.specs.Promises.{IsStart, Always, number_told, ComesLater, ProposalsHaveOneOrder}
use Rattle.ordup_interleavings.proofs.TurnLemmas.{there, turns, parts}
use Rattle.ordup_interleavings.proofs.SoundLemmas.{IsSound, Grew, along, along-from, last-sound, sound-start}
use Rattle.ordup_interleavings.proofs.SiteLemmas.{prefix-at}

-- what holds of a number's and of all others' holds of each
pub but-at : {X : Type 0} → (P : X → Type 0) (f : ℕ → X) (i : ℕ) (x : X) → P x → ((j : ℕ) → P (f j)) → (j : ℕ) → P (but_at f i x j)
but-at P f i x here others j = elim (cases_Bool (j == i)) [
  | inl same ↦ rw same here
  | inr other ↦ rw other (others j)
]

-- ---- a log that grows

module _ (p q : PrimaryState) (more : List (List Change)) (log : q.log ≡ with_more p.log more) (acked : p.acked ≤ q.acked) where
  length-grown : length p.log.sets ≤ length q.log.sets
  length-grown = omega (arith, ap (λ (h : History). length h.sets) log, length-append p.log.sets more)

  stays : (before : List Heard) (answer : Heard) → StaysTrue p before answer → StaysTrue q before answer
  stays before (Numbered n set) is =
      let at : set_at (with_more p.log more) n ≡ set_at p.log n =
      get_or-append p.log.sets more [] (n - 1) (omega (arith, is.0, is.1)) in
      (is.0, omega (arith, is.1, length-grown), rw log (at ∙ is.2))
  stays before (Acknowledged n) is = omega (arith, is, acked)
  stays before (Viewed s x value applied) is = (
    is.0,
    omega (arith, is.1, length-grown),
    is.2 ∙ ap (λ (v : State). value_at v x) (sym (rw log (serial-longer p.log more applied is.1))),
  )

  stay : (heard : List Heard) → StayTrue p heard → StayTrue q heard
  stay [] are = tt
  stay (answer ∷ before) are = (stays before answer are.0, stay before are.1)

  session-grown : (c : Caller) → KeepsSession p c → KeepsSession q c
  session-grown c keeps = record { seen = keeps.seen; heard = stay c.heard keeps.heard }

-- ---- one answer more

last-few : (p : PrimaryState) (heard : List Heard) → StayTrue p heard → last_number heard ≤ length p.log.sets
last-few p [] are = omega arith
last-few p (Numbered n set ∷ before) are = are.0.1
last-few p (Acknowledged n ∷ before) are = last-few p before are.1
last-few p (Viewed s x value applied ∷ before) are = last-few p before are.1

-- each number of a session is that of an update of the log
numbers-few : (p : PrimaryState) (heard : List Heard) (k : ℕ) → StayTrue p heard → HasNumber k heard → k ≤ length p.log.sets
numbers-few p [] k are has = absurd has
numbers-few p (Numbered n set ∷ before) k are has = elim has [
  | inl same ↦ omega (arith, same, are.0.1)
  | inr earlier ↦ numbers-few p before k are.1 earlier
]
numbers-few p (Acknowledged n ∷ before) k are has = numbers-few p before k are.1 has
numbers-few p (Viewed s x value applied ∷ before) k are has = numbers-few p before k are.1 has

-- a number is that of the newest answer, or of one before
numbers-part : (answer : Heard) (before : List Heard) (k : ℕ) → HasNumber k (answer ∷ before)
    → HasNumber k (answer ∷ []) ⊎ HasNumber k before
numbers-part (Numbered n set) before k has = elim has [
  | inl same ↦ inl (inl same)
  | inr earlier ↦ inr earlier
]
numbers-part (Acknowledged n) before k has = inr has
numbers-part (Viewed s x value applied) before k has = inr has

-- what a hold leaves of the sessions: one of them may have an answer more
pub record Answered (old new : Moment) : Type 0 where
  pub session : ℕ
  pub seen : ℕ
  pub answer : Heard
  pub sessions : new.sessions ≡ but_at old.sessions session (record { seen = seen; heard = answer ∷ (old.sessions session).heard })
  pub counts : seen ≡ furthest (answer ∷ (old.sessions session).heard)
  pub true : StaysTrue new.book.primary (old.sessions session).heard answer
  pub later : (k : ℕ) → HasNumber k (answer ∷ []) → length old.book.primary.log.sets < k

-- a set was numbered
numbered : (old new : Moment) (a : ℕ) (set : List Change) → ((j : ℕ) → KeepsSession old.book.primary (old.sessions j))
    → new.book.primary.log ≡ with_update old.book.primary.log set
    → new.sessions ≡ but_at old.sessions a (record {
      seen = (old.sessions a).seen;
      heard = Numbered (length old.book.primary.log.sets + 1) set ∷ (old.sessions a).heard;
    })
    → Answered old new
numbered old new a set keeps log sessions =
    let p = old.book.primary in
    let n = length p.log.sets in
    let h = (old.sessions a).heard in
    let first : last_number h < n + 1 = omega (arith, last-few p h (keeps a).heard) in
    let few : n + 1 ≤ length (with_update p.log set).sets = omega (arith, length_push p.log.sets set) in
    let place : n + 1 - 1 ≡ n = omega arith in
    let at : set_at (with_update p.log set) (n + 1) ≡ set = rw place (get_or-append_seam p.log.sets set [] []) in
    record {
      session = a;
      seen = (old.sessions a).seen;
      answer = Numbered (n + 1) set;
      sessions = sessions;
      counts = (keeps a).seen;
      true = rw log (first, few, at);
      later = λ k now. elim now [
        | inl same ↦ omega (arith, same)
        | inr none ↦ absurd none
      ];
    }

sessions-of : (new same : Moment) → new ≡ same → new.sessions ≡ same.sessions
sessions-of new same is = ap (λ (m : Moment). m.sessions) is

answered : (d : Declared) (old : Moment) (h : Hold) (new : Moment) → IsSound d old
    → ((j : ℕ) → KeepsSession old.book.primary (old.sessions j)) → Makes old h new
    → (new.sessions ≡ old.sessions) ⊎ Answered old new
answered d old (Number a set) new is keeps makes =
    inr (numbered old new a set keeps (ap (λ (m : Moment). m.book.primary.log) makes.1) (sessions-of new _ makes.1))
answered d old (NumberAndTurn a set) new is keeps makes =
    let b = with_numbered old.book set in
    let kept = is.kept in
    let may = makes.0 in
    let primary = IsPrimary-proposed old.book.primary set is.primary may.is may.known may.allowed in
    let book = keeps-numbered old.book.primary old.book.ends set is.primary kept.book in
    let stays = turns b new.book primary book (parts b new.book makes.1 makes.2) in
    inr (numbered old new a set keeps stays.log (sessions-of new _ makes.3))
answered d old Turn new is keeps makes = inl (sessions-of new _ makes.2)
answered d old (Hear a n) new is keeps makes = inr (record {
  session = a;
  seen = max (old.sessions a).seen n;
  answer = Acknowledged n;
  sessions = sessions-of new _ makes.1;
  counts = ap (λ k. max k n) (keeps a).seen;
  true = rw (ap (λ (m : Moment). m.book.primary.acked) makes.1) makes.0;
  later = λ k now. absurd now;
})
answered d old (Relimit s scope amount) new is keeps makes = inl (sessions-of new _ makes.1)
answered d old (Begin q s limit) new is keeps makes = inl (sessions-of new _ makes.2)
answered d old (Take s) new is keeps makes = inl (sessions-of new _ makes.5)
answered d old (View a s x) new is keeps makes =
    let c = makes.0 in
    let p = old.book.primary in
    let kept = is.kept in
    let e = there old.book.ends s (omega (arith, kept.count, slice_get_within old.cells s c makes.1)) in
    let at = prefix-at d old is s e.0 c e.1 makes.1 in
    let held = kept.cells s c makes.1 in
    let n = length c.end.taken in
    let applied = held.applied in
    let same : serial (history_of c.end.start c.end.taken) n ≡ serial p.log n =
    sym held.values ∙ at.prefix.values ∙ ap (serial p.log) applied in
    let primary : new.book.primary ≡ p = ap (λ (m : Moment). m.book.primary) makes.4 in
    let seen = (keeps a).seen in
    inr (record {
      session = a;
      seen = n;
      answer = Viewed s x (value_at (serial (history_of c.end.start c.end.taken) n) x) n;
      sessions = sessions-of new _ makes.4;
      counts = omega (arith, seen, makes.3);
      true = rw primary (
        omega (arith, seen, makes.3),
        omega (arith, at.applied, at.sent, applied),
        ap (λ (v : State). value_at v x) same,
      );
      later = λ k now. absurd now;
    })
answered d old (Read q x) new is keeps makes = inl (sessions-of new _ makes.7)

keeps-next : (d : Declared) (old : Moment) (h : Hold) (new : Moment) → IsSound d old → IsSound d new → Grew old.book new.book
    → Steps old h new → ((j : ℕ) → KeepsSession old.book.primary (old.sessions j))
    → (j : ℕ) → KeepsSession new.book.primary (new.sessions j)
keeps-next d old h new is after grew step keeps =
    let grown : (j : ℕ) → KeepsSession new.book.primary (old.sessions j) =
    λ j. session-grown old.book.primary new.book.primary grew.more grew.log grew.acked (old.sessions j) (keeps j) in
    elim (answered d old h new is keeps step.makes) [
      | inl same ↦ rw same grown
      | inr one ↦
          rw one.sessions
          (but-at (KeepsSession new.book.primary) old.sessions one.session _
          (record { seen = one.counts; heard = (one.true, (grown one.session).heard) }) grown)
    ]

pub sessions-read-their-writes : SessionsReadTheirWrites
sessions-read-their-writes =
    along (λ d m. (j : ℕ) → KeepsSession m.book.primary (m.sessions j)) _ keeps-next (λ d m is keeps. keeps)
    (λ d m start is j. rw (start.sessions j) (record { seen = refl; heard = tt }))

-- ---- one order of proposals

abbrev OneOrder : Moment → Type 0
OneOrder m = (a b k : ℕ) → HasNumber k (m.sessions a).heard → HasNumber k (m.sessions b).heard → a ≡ b

-- of a session afterwards, a number is new, or it had it before
number-before : (f : ℕ → Caller) (i : ℕ) (seen : ℕ) (answer : Heard) (j k : ℕ)
    → HasNumber k (but_at f i (record { seen = seen; heard = answer ∷ (f i).heard }) j).heard
    → ((j ≡ i) × HasNumber k (answer ∷ [])) ⊎ HasNumber k (f j).heard
number-before f i seen answer j k has = elim (cases_eq j i) [
  | inl same ↦
      (let here : HasNumber k (answer ∷ (f i).heard) = rw (eq-eqb j i same) at has in
      elim (numbers-part answer (f i).heard k here) [
        | inl now ↦ inl (same, now)
        | inr earlier ↦ inr (rw same earlier)
      ])
  | inr other ↦ inr (rw (ne_eqb j i other) at has)
]

-- no session had a number that is new
fresh : (old new : Moment) (one : Answered old new) → ((j : ℕ) → KeepsSession old.book.primary (old.sessions j)) → (b k : ℕ)
    → HasNumber k (old.sessions b).heard → HasNumber k (one.answer ∷ []) → ⊥
fresh old new one keeps b k has now =
    absurd (omega (arith, one.later k now, numbers-few old.book.primary (old.sessions b).heard k (keeps b).heard has))

one-order-next : (old new : Moment) → ((j : ℕ) → KeepsSession old.book.primary (old.sessions j)) → OneOrder old → Answered old new
    → OneOrder new
one-order-next old new keeps order one a b k first second =
    let x = number-before old.sessions one.session one.seen one.answer a k (rw one.sessions at first) in
    let y = number-before old.sessions one.session one.seen one.answer b k (rw one.sessions at second) in
    elim x [
      | inl here ↦ elim y [
        | inl there ↦ here.0 ∙ sym there.0
        | inr earlier ↦ absurd (fresh old new one keeps b k earlier here.1)
      ]
      | inr before ↦ elim y [
        | inl there ↦ absurd (fresh old new one keeps a k before there.1)
        | inr earlier ↦ order a b k before earlier
      ]
    ]

-- what is kept for it: the sessions, and the order
abbrev KeepsOrder : Declared → Moment → Type 0
KeepsOrder d m = ((j : ℕ) → KeepsSession m.book.primary (m.sessions j)) × OneOrder m

order-next : (d : Declared) (old : Moment) (h : Hold) (new : Moment) → IsSound d old → IsSound d new → Grew old.book new.book
    → Steps old h new → KeepsOrder d old → KeepsOrder d new
order-next d old h new is after grew step keeps = (
  keeps-next d old h new is after grew step keeps.0,
  elim (answered d old h new is keeps.0 step.makes) [
    | inl same ↦ (λ a b k first second. keeps.1 a b k (rw same at first) (rw same at second))
    | inr one ↦ one-order-next old new keeps.0 keeps.1 one
  ],
)

no-number : (c : Caller) (k : ℕ) → c ≡ record { seen = 0; heard = [] } → HasNumber k c.heard → ⊥
no-number c k is has = rw is at has

one-order : Always (λ d m. OneOrder m)
one-order =
    along KeepsOrder _ order-next (λ d m is keeps. keeps.1) (λ d m start is. (
      λ j. rw (start.sessions j) (record { seen = refl; heard = tt }),
      λ a b k first second. absurd (no-number (m.sessions a) k (start.sessions a) first),
    ))

-- ---- numbers that come later

-- no answer tells a number above those of the log
told-few : (p : PrimaryState) (heard : List Heard) (k : ℕ) → p.acked ≤ length p.log.sets → length p.log.sets < k → StayTrue p heard
    → All (λ answer. number_told answer < k) heard
told-few p [] k acked lt are = All-nil (λ answer. number_told answer < k)
told-few p (Numbered n set ∷ before) k acked lt are =
    All-cons (λ answer. number_told answer < k) (Numbered n set) before (omega (arith, lt, are.0.1)) (told-few p before k acked lt are.1)
told-few p (Acknowledged n ∷ before) k acked lt are =
    All-cons (λ answer. number_told answer < k) (Acknowledged n) before (omega (arith, acked, lt, are.0)) (told-few p before k acked lt are.1)
told-few p (Viewed s x value applied ∷ before) k acked lt are =
    All-cons (λ answer. number_told answer < k) (Viewed s x value applied) before (omega (arith, lt, are.0.1))
    (told-few p before k acked lt are.1)

-- what is kept from a moment m on: the sessions, a log that has not become shorter, and of each number that a session has that it had
-- it at m, or that it is above those of the log at m
pub record KeepsLater (m n : Moment) : Type 0 where
  pub sessions : (j : ℕ) → KeepsSession n.book.primary (n.sessions j)
  pub longer : length m.book.primary.log.sets ≤ length n.book.primary.log.sets
  pub numbers : (b k : ℕ) → HasNumber k (n.sessions b).heard → HasNumber k (m.sessions b).heard ⊎ (length m.book.primary.log.sets < k)

later-one : (m old new : Moment) → KeepsLater m old → Answered old new → (b k : ℕ) → HasNumber k (new.sessions b).heard
    → HasNumber k (m.sessions b).heard ⊎ (length m.book.primary.log.sets < k)
later-one m old new keeps one b k has =
    elim (number-before old.sessions one.session one.seen one.answer b k (rw one.sessions at has)) [
      | inl now ↦ inr (omega (arith, keeps.longer, one.later k now.1))
      | inr before ↦ keeps.numbers b k before
    ]

later-next : (m : Moment) (d : Declared) (old : Moment) (h : Hold) (new : Moment) → IsSound d old → IsSound d new
    → Grew old.book new.book → Steps old h new → KeepsLater m old → KeepsLater m new
later-next m d old h new is after grew step keeps = record {
  sessions = keeps-next d old h new is after grew step keeps.sessions;
  longer =
      omega (arith, keeps.longer, length-grown old.book.primary new.book.primary grew.more grew.log grew.acked);
  numbers = elim (answered d old h new is keeps.sessions step.makes) [
    | inl same ↦ (λ b k has. keeps.numbers b k (rw same at has))
    | inr one ↦ later-one m old new keeps one
  ];
}

-- at m nothing came later, and what each session was told is of the log
later-gives : (d : Declared) (m n : Moment) → IsSound d m → ((j : ℕ) → KeepsSession m.book.primary (m.sessions j)) → KeepsLater m n
    → ComesLater m n
later-gives d m n is told keeps a b k has = elim (keeps.numbers b k has) [
  | inl before ↦ inl before
  | inr above ↦
      inr (told-few m.book.primary (m.sessions a).heard k (omega (arith, is.primary.acked, is.primary.decided)) above (told a).heard)
]

at-last : (Fact : Moment → Type 0) (m : Moment) (holds : List (Hold × Moment)) → Along Fact m holds → Fact (last_moment m holds)
at-last Fact m [] fact = fact
at-last Fact m (x ∷ later) fact = at-last Fact x.1 later fact.1

come-later : (d : Declared) (m n : Moment) (before later : List (Hold × Moment)) → IsStart d m → Leads m before
    → n ≡ last_moment m before → Leads n later → Along (ComesLater n) n later
come-later d m n before later start first same leads =
    let is : IsSound d n = rw same (last-sound d m before (sound-start d m start) first) in
    let told : (j : ℕ) → KeepsSession n.book.primary (n.sessions j) =
    rw same (at-last (λ o. (j : ℕ) → KeepsSession o.book.primary (o.sessions j)) m before (sessions-read-their-writes d m before start first)) in
    along-from (λ e o. KeepsLater n o) (λ e o. ComesLater n o) (later-next n) (λ e o sound keeps. later-gives d n o is told keeps) d n later is
    (record { sessions = told; longer = omega arith; numbers = λ b k has. inl has }) leads

pub proposals-have-one-order : ProposalsHaveOneOrder
proposals-have-one-order = record { one = one-order; later = come-later }
