-- What each event of queries makes of a world, and what it answers.
use Rattle.std.proofs.Common.{◌≡◌, ℕ, ◌+◌, ◌-◌, ◌<◌, ◌≤◌, ◌==◌, true, false, cond, List, ◌∷◌, length, refl, sym, ap, ◌∙◌, arith, inl}
use Rattle.std.specs.Prelude.{Option, Some, None, option_map, is_some, ◌+ℤ◌}
use Rattle.std.proofs.lemmas.Bool.{le-ltb, lt-ltb, ne_eqb, eq-eqb, false≢true}
use Rattle.std.proofs.lemmas.List.{length-map}
use Rattle.std.proofs.lemmas.Option.{same_Some}
use Rattle.ordup_objects.specs.declared.refusal.Refusal.{Refusal}
use Rattle.ordup_objects.specs.declared.refusal.Refusal.TheVariants.{UnknownObject, UnknownSite, OutOfRange, TooMany, QueryOpen}
use Rattle.ordup_objects.specs.declared.refusal.Refusal.TheVariants.{UnknownQuery}
use Rattle.ordup_primary.specs.Declarations.{Declared}
use Rattle.ordup_query.specs.Imports.{charge}
use Rattle.ordup_query.specs.Queries.{refusal_at, value_sum}
use Rattle.ordup_query.specs.declared.answer.ReadAnswer.{ReadAnswer}
use Rattle.ordup_query.specs.declared.answer.QueryAnswer.{QueryAnswer}
use Rattle.ordup_query.proofs.ImportLemmas.{charge-import_of}
use Rattle.ordup_world.specs.Queries.{ReadMade, Opened, import_total, values_read, refusal_now}
use Rattle.ordup_world.specs.Events.{Past, is_same, is_refused, opened, open_count, read_now, with_read, read_reply, reply, IsAnswer}
use Rattle.ordup_world.specs.Worlds.{StoreState, OpenState, OpenNumbers, Queries, WorldState, store_of, with_queries, find_query}
use Rattle.ordup_world.specs.Worlds.{numbers_of, numbers_after, IsOpenSound, IsSound, StandsFor}
use Rattle.ordup_world.specs.OpenQueries.{IsBegun, IsAnswered, IsRead, refusal_of, site_at, with_answer}
use Rattle.ordup_world.specs.Steps.{StepsStore, StepsWorld}
use Rattle.ordup_world.specs.declared.event.Event.{Event}
use Rattle.ordup_world.specs.declared.event.Event.TheVariants.{Begin, Read, End, Abandon}
use Rattle.ordup_world.specs.declared.event.Answer.{Answer}
use Rattle.ordup_world.specs.declared.event.Answer.TheVariants.{Begun, ReadOut, Ended, Abandoned, Refused}
use Rattle.ordup_world.proofs.QueryLemmas.{total-within}
use Rattle.ordup_world.proofs.StoreLemmas.{no_site}
use Rattle.ordup_world.proofs.StepLemmas.{there}
use Rattle.ordup_world.proofs.AfterLemmas.{later-fine, stays_aside}
use Rattle.ordup_world.proofs.WorldLemmas.{names_none, same-name, IsSound-store, StandsFor-store, IsSound-named, StandsFor-named}

-- an open query of the code is one of the events
opened-as : (o : OpenState) (m : Option Opened) → Some (numbers_of o) ≡ option_map numbers_after m
    → (k : Opened) × (m ≡ Some k) × (numbers_of o ≡ numbers_after k)
opened-as o None e = absurd (cc)
opened-as o (Some k) e = (k, refl, same_Some (numbers_of o) (numbers_after k) e)

-- where there is none of the code there is none of the events
opened-none : (m : Option Opened) → None ≡ option_map numbers_after m → m ≡ None
opened-none None e = refl
opened-none (Some k) e = absurd (cc)

is_some-map : {X Y : Type 0} (f : X → Y) (o : Option X) → is_some (option_map f o) ≡ is_some o
is_some-map f None = refl
is_some-map f (Some x) = refl

module _ {A : Type 0} {w : WorldState} (sound : IsSound w) where
  -- a refused event
  stays : {e : Event A} {r : Refusal}
      → ((past : Past A) → StandsFor w.primary.setup w past → IsAnswer w.primary.setup past e (Refused r))
      → StepsWorld {A = A} w e (Refused r) w
  stays answers = record {
    answer = λ setup past is. rw (← is.store.declared) (answers past (rw (← is.store.declared) at is));
    state = λ setup past is. is;
    refused = λ refused. refl;
    sound = sound;
    setup = refl;
  }

  -- an accepted event of a query: its answer, and what it makes of the queries
  accepted : {queries : Queries} {e : Event A} {a : Answer A} → is_refused a ≡ false → IsSound (with_queries (store_of w) queries)
      → ((past : Past A) → StandsFor w.primary.setup w past
      → IsAnswer w.primary.setup past e a × StandsFor w.primary.setup (with_queries (store_of w) queries) (e ∷ past))
      → StepsWorld {A = A} w e a (with_queries (store_of w) queries)
  accepted {e = e} {a = a} fine new after = record {
    answer = λ setup past is. rw (← is.store.declared) (after past (rw (← is.store.declared) at is)).0;
    state = λ setup past is. rw (← is.store.declared, later-fine past e a fine) (after past (rw (← is.store.declared) at is)).1;
    refused = λ refused. absurd (false≢true (rw fine at refused));
    sound = new;
    setup = refl;
  }

  -- an event of the store
  pub stepped : {e : Event A} {a : Answer A} {v : StoreState} → names_none e ≡ true → StepsStore {A = A} (store_of w) e a v
      → StepsWorld {A = A} w e a (with_queries v w.queries)
  stepped {e = e} {a = a} {v = v} none steps = record {
    answer = λ setup past is. steps.answer setup past is.store;
    state = λ setup past is. StandsFor-store setup w v past e a none is (steps.state setup past is.store);
    refused = λ refused. rw (steps.refused refused) refl;
    sound = IsSound-store w v sound steps.sound steps.grows;
    setup = steps.grows.setup;
  }

  -- ---- Begin

  -- whether a query of a name is open
  is_open : (past : Past A) (name : List ℕ) → StandsFor w.primary.setup w past
      → is_some (opened w.primary.setup name past) ≡ is_some (find_query name w.queries)
  is_open past name is =
      sym (is_some-map numbers_after (opened w.primary.setup name past))
      ∙ ap is_some (sym (is.queries name))
      ∙ is_some-map numbers_of (find_query name w.queries)

  pub unknown-begin : {name : List ℕ} {s limit : ℕ} → length w.sites ≤ s
      → StepsWorld {A = A} w (Begin name s limit) (Refused UnknownSite) w
  unknown-begin {s = s} le =
      let no = le-ltb s (length w.primary.setup.sites) (omega (arith, le, sound.store.count, sound.store.primary.count)) in
      stays (λ past is. inl (rw no refl))

  few : (past : Past A) → StandsFor w.primary.setup w past → (length w.queries ≡ 64 → ⊥) → (open_count past == 64) ≡ false
  few past is spare = ne_eqb (open_count past) 64 (λ e. spare (is.count ∙ e))

  module _ {name : List ℕ} {s limit : ℕ} (lt : s < length w.sites) where
    pub limit_out_of_range : 1000000000000000000 < limit → StepsWorld {A = A} w (Begin name s limit) (Refused OutOfRange) w
    limit_out_of_range over =
        stays (λ past is. inl (rw (there (store_of w) s sound.store lt, lt-ltb 1000000000000000000 limit over) refl))

    module _ (le : limit ≤ 1000000000000000000) where
      pub too_many_open : length w.queries ≡ 64 → StepsWorld {A = A} w (Begin name s limit) (Refused TooMany) w
      too_many_open full = stays (λ past is. inl (rw (
        there (store_of w) s sound.store lt,
        le-ltb 1000000000000000000 limit le,
        eq-eqb (open_count past) 64 (sym is.count ∙ full),
      ) refl))

      pub already_open : (length w.queries ≡ 64 → ⊥) → is_some (find_query name w.queries) ≡ true
          → StepsWorld {A = A} w (Begin name s limit) (Refused QueryOpen) w
      already_open spare taken = stays (λ past is. inl (rw (
        there (store_of w) s sound.store lt,
        le-ltb 1000000000000000000 limit le,
        few past is spare,
        is_open past name is ∙ taken,
      ) refl))

      pub begun : {queries : Queries} {o : OpenState} {place : ℕ} → (length w.queries ≡ 64 → ⊥)
          → is_some (find_query name w.queries) ≡ false → IsBegun w.primary s limit o
          → ((q : List ℕ) → find_query q queries ≡ cond (is_same name q) (Some o) (find_query q w.queries))
          → length queries ≡ length w.queries + 1 → place ≡ w.primary.acked
          → StepsWorld {A = A} w (Begin name s limit) (Begun name place) (with_queries (store_of w) queries)
      begun {queries = queries} {o = o} spare none b found count at =
          let sane : IsOpenSound (store_of w) o = record {
            site = rw b.site lt;
            place = omega (arith, b.place);
            count = b.count ∙ ap length sound.store.primary.start ∙ length-map w.primary.setup.objects (λ e. e.1);
            marks = rw b.place b.marks;
            within = omega (arith, b.total);
          } in
          accepted refl (IsSound-named w name queries (Some o) found sound (omega (arith, sound.few, spare, count))
          (λ p e. rw (← same_Some o p e) sane)) (λ past is. (
            inl (rw (
              there (store_of w) s sound.store lt,
              le-ltb 1000000000000000000 limit le,
              few past is spare,
              is_open past name is ∙ none,
              at,
              is.store.acked,
            ) refl),
            StandsFor-named w name queries (Some o) found w.primary.setup past (Begin name s limit) refl is
                (λ q same. rw (same, b.site, b.place, is.store.acked, b.limit, b.sum, b.total, b.reads) refl) (λ q other. rw other refl)
                (count ∙ ap (λ n. n + 1) is.count),
          ))

  -- ---- Read

  pub unknown-read : {name : List ℕ} {x : ℕ} → length w.primary.setup.objects ≤ x
      → StepsWorld {A = A} w (Read name x) (Refused UnknownObject) w
  unknown-read {x = x} le = stays (λ past is. inl (rw (le-ltb x (length w.primary.setup.objects) le) refl))

  -- a read by an open query, and by the query of the events
  module _ (past : Past A) (is : StandsFor w.primary.setup w past) (o : OpenState) (k : Opened) (x : ℕ)
      (sane : IsOpenSound (store_of w) o) (known : x < length w.primary.setup.objects) (same : numbers_of o ≡ numbers_after k) where
    abbrev now : ReadMade
    now = read_now w.primary.setup past k.site k.place x

    import-same : charge (site_at w.sites o.site) o.query.marks x ≡ now.import
    import-same =
        charge-import_of (site_at w.sites o.site) o.query.marks x (omega (arith, known, sane.count)) w.primary.log
        (site_at w.sites o.site).applied o.query.place (sound.store.sites o.site no_site sane.site).holds.prefix sane.marks
        ∙ rw (
          is.store.log,
          (is.store.sites o.site no_site sane.site).applied,
          ap (λ (n : OpenNumbers). n.site) same,
          ap (λ (n : OpenNumbers). n.place) same,
        ) refl

    refusal-same : refusal_at o.query (site_at w.sites o.site) x ≡ refusal_now k now
    refusal-same = rw (
      import-same,
      ap (λ (n : OpenNumbers). n.reads) same,
      ap (λ (n : OpenNumbers). n.limit) same,
      ap (λ (n : OpenNumbers). n.total) same,
    ) refl

    module _ (a : ReadAnswer) (answers : IsAnswered o (site_at w.sites o.site) x a) where
      value-is : a.value ≡ now.value
      value-is = answers.value ∙ rw ((is.store.sites o.site no_site sane.site).values, ap (λ (n : OpenNumbers). n.site) same) refl

      import-is : a.import ≡ now.import
      import-is = answers.import ∙ import-same

      total-is : a.total ≡ import_total k.reads + now.import
      total-is = answers.total ∙ rw (import-is, ap (λ (n : OpenNumbers). n.total) same) refl

      reply-is : ReadOut a ≡ read_reply {A = A} (Some k) (λ k. read_now w.primary.setup past k.site k.place x)
      reply-is = rw (sym refusal-same ∙ answers.allowed, ← value-is, ← total-is, ← import-is) refl

      more-is : numbers_of (with_answer o a) ≡ numbers_after (with_read w.primary.setup past x k)
      more-is =
          let sum : o.query.sum +ℤ a.value ≡ value_sum (values_read k.reads) +ℤ now.value =
          rw (value-is, ap (λ (n : OpenNumbers). n.sum) same) refl in
          let reads : o.query.reads + 1 ≡ length (now ∷ k.reads) = omega (arith, ap (λ (n : OpenNumbers). n.reads) same) in
          rw (
            ap (λ (n : OpenNumbers). n.site) same,
            ap (λ (n : OpenNumbers). n.place) same,
            ap (λ (n : OpenNumbers). n.limit) same,
            sum,
            total-is,
            reads,
          ) refl

  reply-refused : (past : Past A) (name : List ℕ) (x : ℕ) (r : Refusal) (o : Option OpenState) → StandsFor w.primary.setup w past
      → x < length w.primary.setup.objects → find_query name w.queries ≡ o → refusal_of o w.sites x ≡ Some r
      → Refused r ≡ read_reply {A = A} (opened w.primary.setup name past) (λ k. read_now w.primary.setup past k.site k.place x)
  reply-refused past name x r None is known found h =
      rw (opened-none (opened w.primary.setup name past) (ap (option_map numbers_of) (sym found) ∙ is.queries name))
      (ap Refused (sym (same_Some UnknownQuery r h)))
  reply-refused past name x r (Some o) is known found h =
      let one = opened-as o (opened w.primary.setup name past) (ap (option_map numbers_of) (sym found) ∙ is.queries name) in
      rw (one.1, sym (refusal-same past is o one.0 x (sound.queries name o found) known one.2) ∙ h) refl

  pub read_refused : {queries : Queries} {name : List ℕ} {x : ℕ} {r : Refusal} → x < length w.primary.setup.objects
      → refusal_of (find_query name w.queries) w.sites x ≡ Some r → queries ≡ w.queries
      → StepsWorld {A = A} w (Read name x) (Refused r) (with_queries (store_of w) queries)
  read_refused {name = name} {x = x} {r = r} known why same =
      rw same (stays (λ past is. inl (rw (lt-ltb x (length w.primary.setup.objects) known)
      (reply-refused past name x r (find_query name w.queries) is known refl why))))

  pub read_out : {queries : Queries} {name : List ℕ} {x : ℕ} {a : ReadAnswer} → x < length w.primary.setup.objects
      → IsRead w.queries queries name w.sites x a
      → StepsWorld {A = A} w (Read name x) (ReadOut a) (with_queries (store_of w) queries)
  read_out {queries = queries} {name = name} {x = x} {a = a} known read =
      let o = read.before in
      let sane = sound.queries name o read.found in
      let charged = charge (site_at w.sites o.site) o.query.marks x in
      let fits = total-within o.query.reads o.query.limit o.query.total charged read.answered.allowed in
      let more : IsOpenSound (store_of w) (with_answer o a) = record {
        site = sane.site;
        place = sane.place;
        count = sane.count;
        marks = sane.marks;
        within = omega (arith, read.answered.total, read.answered.import, fits);
      } in
      accepted refl (IsSound-named w name queries (Some (with_answer o a)) read.queries sound (omega (arith, sound.few, read.count))
      (λ p e. rw (← same_Some (with_answer o a) p e) more)) (λ past is.
      let one = opened-as o (opened w.primary.setup name past) (ap (option_map numbers_of) (sym read.found) ∙ is.queries name) in (
        inl (rw (lt-ltb x (length w.primary.setup.objects) known, one.1)
            (reply-is past is o one.0 x sane known one.2 a read.answered)),
        StandsFor-named w name queries (Some (with_answer o a)) read.queries w.primary.setup past (Read name x) refl is
            (λ q same. rw (same, ap (λ r. opened w.primary.setup r past) (sym (same-name name q same)) ∙ one.1)
            (ap Some (more-is past is o one.0 x sane known one.2 a read.answered)))
            (λ q other. rw other refl) (read.count ∙ is.count),
      ))

  -- ---- End and Abandon

  pub unknown-query : {queries : Queries} {e : Event A} (name : List ℕ)
      → ((setup : Declared) (past : Past A) → opened setup name past ≡ None → reply setup past e ≡ Refused UnknownQuery)
      → find_query name w.queries ≡ None → queries ≡ w.queries
      → StepsWorld {A = A} w e (Refused UnknownQuery) (with_queries (store_of w) queries)
  unknown-query name replies none same =
      rw same (stays (λ past is. inl (sym (replies w.primary.setup past (opened-none (opened w.primary.setup name past)
      (ap (option_map numbers_of) (sym none) ∙ is.queries name))))))

  module _ {queries : Queries} {o : OpenState} {name : List ℕ} (held : find_query name w.queries ≡ Some o)
      (found : (q : List ℕ) → find_query q queries ≡ cond (is_same name q) None (find_query q w.queries))
      (count : length queries + 1 ≡ length w.queries) where
    -- the query is open no more
    closed : {e : Event A} {a : Answer A} → is_refused a ≡ false → stays_aside e ≡ true
        → ((setup : Declared) (past : Past A) (k : Opened) → opened setup name past ≡ Some k → numbers_of o ≡ numbers_after k
        → a ≡ reply setup past e)
        → ((setup : Declared) (q : List ℕ) (past : Past A)
        → opened setup q (e ∷ past) ≡ cond (is_same name q) None (opened setup q past))
        → ((past : Past A) → open_count (e ∷ past) ≡ open_count past - 1)
        → StepsWorld {A = A} w e a (with_queries (store_of w) queries)
    closed {e = e} fine aside answers opens counts =
        accepted fine (IsSound-named w name queries None found sound (omega (arith, sound.few, count)) (λ p e. absurd (cc))) (λ past is.
        let one = opened-as o (opened w.primary.setup name past) (ap (option_map numbers_of) (sym held) ∙ is.queries name) in (
          inl (answers w.primary.setup past one.0 one.1 one.2),
          StandsFor-named w name queries None found w.primary.setup past e aside is
              (λ q same. rw (opens w.primary.setup q past, same) refl) (λ q other. rw (opens w.primary.setup q past, other) refl)
              (omega (arith, count, is.count, counts past)),
        ))

    pub ended : {a : QueryAnswer} → a ≡ record { place = o.query.place; sum = o.query.sum; total = o.query.total; reads = o.query.reads }
        → StepsWorld {A = A} w (End name) (Ended a) (with_queries (store_of w) queries)
    ended is_a =
        closed refl refl (λ setup past k one same. rw (is_a, one)
        (ap (λ (n : OpenNumbers). Ended (record { place = n.place; sum = n.sum; total = n.total; reads = n.reads })) same))
        (λ setup q past. refl) (λ past. refl)

    pub abandoned : StepsWorld {A = A} w (Abandon name) (Abandoned name) (with_queries (store_of w) queries)
    abandoned = closed refl refl (λ setup past k one same. rw one refl) (λ setup q past. refl) (λ past. refl)
