-- What an event does to a world with its open queries.
use Rattle.std.proofs.Common.{◌≡◌, ℕ, ◌<◌, ◌≤◌, true, false, cond, List, [], ◌∷◌, length, get_or, arith, refl, sym, ap, ◌∙◌, inl, inr}
use Rattle.std.specs.Prelude.{Bool, Option, Some, None, option_map, IfSome}
use Rattle.std.proofs.lemmas.Bool.{cases_Bool}
use Rattle.std.proofs.lemmas.List.{length-map}
use Rattle.std.proofs.lemmas.Slice.Eq.{bytes_eq-Decides}
use Rattle.ordup_primary.specs.Declarations.{Declared}
use Rattle.ordup_site.specs.Sites.{SiteState}
use Rattle.ordup_objects.proofs.SerialLemmas.{length-serial}
use Rattle.ordup_objects.proofs.SpanLemmas.{AreMarks-longer}
use Rattle.ordup_world.specs.Events.{Past, is_same, later, opened, open_count}
use Rattle.ordup_world.specs.Worlds.{StoreState, with_queries, OpenState, Queries, WorldState, store_of, find_query, numbers_of}
use Rattle.ordup_world.specs.Worlds.{numbers_after, IsStore, IsOpenSound, IsSound, IsStoreAfter, StandsFor}
use Rattle.ordup_world.specs.Steps.{Grows}
use Rattle.ordup_world.specs.declared.event.Event.{Event}
use Rattle.ordup_world.specs.declared.event.Event.TheVariants.{Begin, Read, End, Abandon}
use Rattle.ordup_world.specs.declared.event.Answer.{Answer}
use Rattle.ordup_world.specs.declared.event.Answer.TheVariants.{Refused}
use Rattle.ordup_world.proofs.AfterLemmas.{stays_aside, IsStoreAfter-aside}

-- ---- what stays of the queries where the primary or a site changes

pub IsSound-store : (w : WorldState) (v : StoreState) → IsSound w → IsStore v → Grows (store_of w) v → IsSound (with_queries v w.queries)
IsSound-store w v is store grows = record {
  store = store;
  few = is.few;
  queries = λ q o found. let k = is.queries q o found in record {
    site = omega (arith, k.site, grows.sites);
    place = omega (arith, k.place, grows.acked);
    count = k.count ∙ ap (λ (d : Declared). length d.objects) (sym grows.setup);
    marks =
        rw grows.log (AreMarks-longer w.primary.log o.query.place o.query.marks grows.more
        (omega (arith, k.place, is.store.primary.acked, is.store.primary.decided)) k.marks);
    within = k.within;
  };
}

module _ {A : Type 0} where
  -- events that name no query
  abbrev pub names_none : Event A → Bool
  names_none (Begin q s limit) = false
  names_none (Read q x) = false
  names_none (End q) = false
  names_none (Abandon q) = false
  names_none _ = true

  -- they leave the queries as they were
  unnamed : (setup : Declared) (q : List ℕ) (past : Past A) (e : Event A) → names_none e ≡ true
      → (opened setup q (e ∷ past) ≡ opened setup q past) × (open_count (e ∷ past) ≡ open_count past)
  unnamed setup q past (Begin r s limit) none = absurd (cc)
  unnamed setup q past (Read r x) none = absurd (cc)
  unnamed setup q past (End r) none = absurd (cc)
  unnamed setup q past (Abandon r) none = absurd (cc)
  unnamed setup q past _ none = (refl, refl)

  unnamed-later : (setup : Declared) (q : List ℕ) (past : Past A) (e : Event A) (a : Answer A) → names_none e ≡ true
      → (opened setup q (later past e a) ≡ opened setup q past) × (open_count (later past e a) ≡ open_count past)
  unnamed-later setup q past e (Refused r) none = (refl, refl)
  unnamed-later setup q past e _ none = unnamed setup q past e none

  pub StandsFor-store : (setup : Declared) (w : WorldState) (v : StoreState) (past : Past A) (e : Event A) (a : Answer A)
      → names_none e ≡ true → StandsFor setup w past → IsStoreAfter setup v (later past e a)
      → StandsFor setup (with_queries v w.queries) (later past e a)
  StandsFor-store setup w v past e a none is store = record {
    store = store;
    queries = λ q. is.queries q ∙ ap (option_map numbers_after) (sym (unnamed-later setup q past e a none).0);
    count = is.count ∙ sym (unnamed-later setup [] past e a none).1;
  }

-- ---- what becomes of one open query

-- names that the test finds the same are equal
pub same-name : (a b : List ℕ) → is_same a b ≡ true → a ≡ b
same-name a b same = (bytes_eq-Decides a b).0 same

module _ (w : WorldState) (name : List ℕ) (queries : Queries) (now : Option OpenState)
    (found : (q : List ℕ) → find_query q queries ≡ cond (is_same name q) now (find_query q w.queries)) where
  pub IsSound-named : IsSound w → length queries ≤ 64 → ((o : OpenState) → now ≡ Some o → IsOpenSound (store_of w) o)
      → IsSound (with_queries (store_of w) queries)
  IsSound-named is few sane = record {
    store = is.store;
    few = few;
    queries = λ q o there. elim (cases_Bool (is_same name q)) [
      | inl same ↦ sane o (sym (rw same at (found q)) ∙ there)
      | inr other ↦ is.queries q o (sym (rw other at (found q)) ∙ there)
    ];
  }

  pub StandsFor-named : {A : Type 0} (setup : Declared) (past : Past A) (e : Event A) → stays_aside e ≡ true → StandsFor setup w past
      → ((q : List ℕ) → is_same name q ≡ true → option_map numbers_of now ≡ option_map numbers_after (opened setup q (e ∷ past)))
      → ((q : List ℕ) → is_same name q ≡ false → opened setup q (e ∷ past) ≡ opened setup q past)
      → length queries ≡ open_count (e ∷ past)
      → StandsFor setup (with_queries (store_of w) queries) (e ∷ past)
  StandsFor-named setup past e aside is here others count = record {
    store = IsStoreAfter-aside setup (store_of w) past e aside is.store;
    queries = λ q. ap (option_map numbers_of) (found q) ∙ elim (cases_Bool (is_same name q)) [
      | inl same ↦ rw same (here q same)
      | inr other ↦ rw (other, others q other) (is.queries q)
    ];
    count = count;
  }

-- ---- at the start

pub IsSound-start : (w : StoreState) → IsStore w → IsSound (with_queries w [])
IsSound-start w store = record { store = store; few = omega arith; queries = λ q o found. absurd (cc) }

pub StandsFor-start : {A : Type 0} (setup : Declared) (w : StoreState) → IsStoreAfter {A = A} setup w []
    → StandsFor {A = A} setup (with_queries w []) []
StandsFor-start setup w store = record { store = store; queries = λ q. refl; count = refl }

-- ---- what a read wants

pub if-found : {X : Type 0} (o : Option X) (P : X → Type 0) → ((x : X) → o ≡ Some x → P x) → IfSome o P
if-found None P h = tt
if-found (Some x) P h = h x refl

-- each site has a value of each object
pub values-known : (w : WorldState) → IsSound w → (s : ℕ) (d : SiteState) → s < length w.sites
    → length (get_or w.sites s d).values ≡ length w.primary.setup.objects
values-known w is s d lt =
    let holds = is.store.sites s d lt in
    ap length holds.holds.prefix.values
    ∙ length-serial w.primary.log (get_or w.sites s d).applied holds.holds.prefix.within
    ∙ ap length is.store.primary.start
    ∙ length-map w.primary.setup.objects (λ e. e.1)
