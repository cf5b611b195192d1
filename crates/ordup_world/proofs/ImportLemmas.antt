-- Queries keep their import limits.
use Rattle.std.proofs.Common.{◌≡◌, ℕ, ◌+◌, ◌≤◌, ◌==◌, ℤ, false, List, [], ◌∷◌, length, arith, refl, sym, ap, ◌∙◌, inl, inr}
use Rattle.std.specs.Prelude.{Option, Some, None, option_map, nat_lt, ◌+ℤ◌}
use Rattle.std.proofs.lemmas.Bool.{cases_Bool, eqb-false, true≢false}
use Rattle.std.proofs.lemmas.Option.{none-some, same_Some}
use Rattle.std.proofs.lemmas.Int.{ints}
use Rattle.std.proofs.lemmas.List.{length_push}
use Rattle.std.proofs.lemmas.List.Elements.{All-nil, All-cons}
use Rattle.ordup_objects.specs.declared.refusal.Refusal.{Refusal}
use Rattle.ordup_objects.specs.States.{State, value_at}
use Rattle.ordup_objects.specs.Serial.{serial}
use Rattle.ordup_objects.specs.Weights.{distance}
use Rattle.ordup_objects.proofs.SerialLemmas.{serial-longer}
use Rattle.ordup_primary.specs.Declarations.{Declared}
use Rattle.ordup_primary.specs.Primaries.{acked_after}
use Rattle.ordup_query.proofs.ImportLemmas.{moved_between}
use Rattle.ordup_world.specs.Queries.{ReadMade, Opened, import_total, values_read, refusal_now}
use Rattle.ordup_world.specs.Events.{Past, Decisions, is_same, sets_of, log_of, applied, decisions, settled, read_now, with_read, opened}
use Rattle.ordup_world.specs.Events.{reply, refused_or, is_refused, later, IsAnswer, AreAnswers}
use Rattle.ordup_query.specs.Queries.{value_sum}
use Rattle.ordup_world.specs.Imports.{KeepsImport, values_on, AreAccepted, KeepImports}
use Rattle.ordup_world.specs.Along.{Along}
use Rattle.ordup_world.specs.declared.event.Event.{Event}
use Rattle.ordup_world.specs.declared.event.Event.TheVariants.{Propose, Settle, Begin, Read, End, Abandon}
use Rattle.ordup_world.specs.declared.event.Answer.{Answer}
use Rattle.ordup_world.specs.declared.event.Answer.TheVariants.{Refused}
use Rattle.ordup_world.proofs.QueryLemmas.{total-within}
use Rattle.ordup_world.proofs.WorldLemmas.{same-name}

-- ---- one read more

distance-add : (a b c d : ℤ) → distance (a +ℤ b) (c +ℤ d) ≤ distance a c + distance b d
distance-add a b c d = grind (arith, ints)

distance-zero : (a b : ℤ) → distance a b ≤ 0 → a ≡ b
distance-zero a b h = grind (arith, ints)

pub KeepsImport-read : (v : State) (o : Opened) (r : ReadMade) → KeepsImport v o → import_total o.reads + r.import ≤ o.limit
    → distance r.value (value_at v r.object) ≤ r.import
    → KeepsImport v (record { site = o.site; place = o.place; limit = o.limit; reads = r ∷ o.reads })
KeepsImport-read v o r keeps within near = record {
  total = within;
  near = All-cons (λ s. distance s.value (value_at v s.object) ≤ s.import) r o.reads near keeps.near;
  sum = omega (
    arith,
    distance-add (value_sum (values_read o.reads)) r.value (value_sum (values_on v o.reads)) (value_at v r.object),
    keeps.sum,
    near,
  );
  exact = λ none. (let here : r.value ≡ value_at v r.object = distance-zero r.value (value_at v r.object) (omega (arith, near, none)) in
      rw here (ap (λ values. value_at v r.object ∷ values) (keeps.exact (omega (arith, none)))));
}

pub KeepsImport-begun : (v : State) (s p limit : ℕ) → KeepsImport v (record { site = s; place = p; limit = limit; reads = [] })
KeepsImport-begun v s p limit = record {
  total = omega arith;
  near = All-nil (λ r. distance r.value (value_at v r.object) ≤ r.import);
  sum = omega arith;
  exact = λ none. refl;
}

acked_after-few : (acked n : ℕ) (sites : List ℕ) → acked + 1 ≤ n → acked_after acked sites ≤ n
acked_after-few acked n [] le = le
acked_after-few acked n (s ∷ sites) le = omega arith

module _ {A : Type 0} where
  -- ---- the acknowledged updates are updates of the log

  settled-few : (setup : Declared) (past : Past A) (ds : Decisions) (n : ℕ) → ds.acked + 1 ≤ n → (settled setup past ds).acked ≤ n
  settled-few setup past ds n le = elim (cases_Bool (ds.acked == ds.decided)) [
    | inl first ↦ rw first (acked_after-few ds.acked n _ le)
    | inr later ↦ rw later (acked_after-few ds.acked n _ le)
  ]

  acked-few : (setup : Declared) (past : Past A) → AreAccepted setup past → (decisions setup past).acked ≤ length (sets_of past)
  acked-few setup [] are = omega arith
  acked-few setup (Propose m ∷ past) are = omega (arith, acked-few setup past are.0, length_push (sets_of past) m)
  acked-few setup (Settle ∷ past) are = elim (cases_Bool ((decisions setup past).acked == length (sets_of past))) [
    | inl all ↦ absurd (true≢false (rw all at are.1))
    | inr some ↦
        settled-few setup past (decisions setup past) (length (sets_of past))
        (omega (arith, acked-few setup past are.0, eqb-false _ _ some))
  ]
  acked-few setup (_ ∷ past) are = acked-few setup past are.0

  -- ---- what is kept of an open query

  record Kept (setup : Declared) (past : Past A) (o : Opened) : Type 0 where
    pub place : o.place ≤ length (sets_of past)
    pub import : KeepsImport (serial (log_of setup past) o.place) o

  abbrev KeptAll : Declared → Past A → Type 0
  KeptAll setup past = (q : List ℕ) (o : Opened) → opened setup q past ≡ Some o → Kept setup past o

  pub unrefused : (r : Option Refusal) (a : Answer A) → is_refused (refused_or r a) ≡ false → r ≡ None
  unrefused None a fine = refl
  unrefused (Some r) a fine = absurd (true≢false fine)

  -- an accepted read is refused by nothing
  accepted-read : (setup : Declared) (past : Past A) (q : List ℕ) (x : ℕ) (k : Opened) → opened setup q past ≡ Some k
      → is_refused (reply setup past (Read q x)) ≡ false
      → refusal_now k (read_now setup past k.site k.place x) ≡ None
  accepted-read setup past q x k found fine = elim (cases_Bool (nat_lt x (length setup.objects))) [
    | inl known ↦ unrefused (refusal_now k (read_now setup past k.site k.place x)) _ (rw (known, found) at fine)
    | inr unknown ↦ absurd (true≢false (rw unknown at fine))
  ]

  kept-read : (setup : Declared) (past : Past A) (q : List ℕ) (x : ℕ) (o : Opened) (m : Option Opened) → KeptAll setup past
      → opened setup q past ≡ m → is_refused (reply setup past (Read q x)) ≡ false
      → option_map (with_read setup past x) m ≡ Some o
      → Kept setup (Read q x ∷ past) o
  kept-read setup past q x o None all here fine e = absurd (cc)
  kept-read setup past q x o (Some k) all here fine e =
      let before = all q k here in
      let now : ReadMade = read_now setup past k.site k.place x in
      let within : import_total k.reads + now.import ≤ k.limit =
      total-within _ k.limit _ now.import (accepted-read setup past q x k here fine) in
      rw (← same_Some (with_read setup past x k) o e) (record {
        place = before.place;
        import =
            KeepsImport-read (serial (log_of setup past) k.place) k now before.import within
            (moved_between (log_of setup past) x (applied k.site past) k.place);
      })

  kept : (setup : Declared) (past : Past A) → AreAccepted setup past → KeptAll setup past
  kept setup [] are q o found = absurd (cc)
  kept setup (Propose m ∷ past) are q o found =
      let before = kept setup past are.0 q o found in
      let same : serial (log_of setup (Propose m ∷ past)) o.place ≡ serial (log_of setup past) o.place =
      serial-longer (log_of setup past) (m ∷ []) o.place before.place in
      record { place = omega (arith, before.place, length_push (sets_of past) m); import = rw same before.import }
  kept setup (Begin r s limit ∷ past) are q o found = elim (cases_Bool (is_same r q)) [
    | inl same ↦ (let fresh : Opened = record { site = s; place = (decisions setup past).acked; limit = limit; reads = [] } in
        rw (← same_Some fresh o (rw same at found)) (record {
          place = acked-few setup past are.0;
          import = KeepsImport-begun (serial (log_of setup past) (decisions setup past).acked) s (decisions setup past).acked limit;
        }))
    | inr other ↦ (let before = kept setup past are.0 q o (rw other at found) in record { place = before.place; import = before.import })
  ]
  kept setup (Read r x ∷ past) are q o found = elim (cases_Bool (is_same r q)) [
    | inl same ↦ (let e : r ≡ q = same-name r q same in
        let read = kept-read setup past q x o (opened setup q past) (kept setup past are.0) refl (rw e at are.1) (rw same at found) in
        record { place = read.place; import = read.import })
    | inr other ↦ (let before = kept setup past are.0 q o (rw other at found) in record { place = before.place; import = before.import })
  ]
  kept setup (End r ∷ past) are q o found = elim (cases_Bool (is_same r q)) [
    | inl same ↦ absurd (none-some o (rw same at found))
    | inr other ↦ (let before = kept setup past are.0 q o (rw other at found) in record { place = before.place; import = before.import })
  ]
  kept setup (Abandon r ∷ past) are q o found = elim (cases_Bool (is_same r q)) [
    | inl same ↦ absurd (none-some o (rw same at found))
    | inr other ↦ (let before = kept setup past are.0 q o (rw other at found) in record { place = before.place; import = before.import })
  ]
  kept setup (_ ∷ past) are q o found =
      let before = kept setup past are.0 q o found in record { place = before.place; import = before.import }

  -- ---- lists of events

  accepted-reply : (setup : Declared) (past : Past A) (e : Event A) (a : Answer A) → is_refused a ≡ false → IsAnswer setup past e a
      → is_refused (reply setup past e) ≡ false
  accepted-reply setup past e a fine is = elim is [
    | inl same ↦ ap is_refused (sym same) ∙ fine
    | inr h ↦ h.1
  ]

  AreAccepted-later : (setup : Declared) (past : Past A) (e : Event A) (a : Answer A) → AreAccepted setup past → IsAnswer setup past e a
      → AreAccepted setup (later past e a)
  AreAccepted-later setup past e (Refused r) are is = are
  AreAccepted-later setup past e a are is = (are, accepted-reply setup past e a refl is)

  -- what holds after accepted events holds after each event of a list
  Along-accepted : (Holds : Past A → Type 0) (setup : Declared) → ((past : Past A) → AreAccepted setup past → Holds past)
      → (past : Past A) (events : List (Event A)) (answers : List (Answer A)) → AreAccepted setup past
      → AreAnswers setup past events answers
      → Along Holds past events answers
  Along-accepted Holds setup each past [] answers are all = each past are
  Along-accepted Holds setup each past (e ∷ events) [] are all = each past are
  Along-accepted Holds setup each past (e ∷ events) (a ∷ answers) are all =
      (each past are, Along-accepted Holds setup each (later past e a) events answers (AreAccepted-later setup past e a are all.0) all.1)

  -- each open query keeps its import limit after each event
  pub KeepImports-along : (setup : Declared) (events : List (Event A)) (answers : List (Answer A)) → AreAnswers setup [] events answers
      → Along (KeepImports setup) [] events answers
  KeepImports-along setup events answers all =
      Along-accepted (KeepImports setup) setup (λ past are q o found. (kept setup past are q o found).import) [] events answers tt all

  -- and where one event more is accepted
  pub KeepImports-later : (setup : Declared) (past : Past A) (e : Event A) (a : Answer A) → AreAccepted setup past
      → IsAnswer setup past e a
      → KeepImports setup (later past e a)
  KeepImports-later setup past e a are is q o found =
      (kept setup (later past e a) (AreAccepted-later setup past e a are is) q o found).import
