-- Tables of open queries.
use Rattle.std.proofs.Common.{◌≡◌, ℕ, zero, suc, ◌+◌, ◌≤◌, ◌==◌, cond, List, [], ◌∷◌, length, refl, sym, ap, ◌∙◌, inl, inr, arith}
use Rattle.std.specs.Prelude.{Option, Some, None, Result, Ok, Err, IfOk, IfErr, OnErr, IsSome, nat_lt, true, map, option_map, position, slice_get}
use Rattle.std.specs.Cmp.Lexicographic.{bytes_decides}
use Rattle.std.specs.Map.{lookup_key}
use Rattle.std.proofs.lemmas.Bool.{cases_Bool, ltb-false}
use Rattle.std.proofs.lemmas.Option.{none-some, slice_get_cases, slice_get-map}
use Rattle.std.proofs.lemmas.Map.Made.{lookup_key_passes}
use Rattle.indexmap.proofs.MapLemmas.{Found, Found-position}
use Rattle.indexmap.specs.IndexMap.{set_value_at}
use Rattle.ordup_objects.specs.declared.refusal.Refusal.{Refusal}
use Rattle.ordup_objects.specs.declared.refusal.Refusal.TheVariants.{TooMany, OverImport}
use Rattle.ordup_site.specs.Sites.{SiteState}
use Rattle.ordup_query.specs.Queries.{refusal_at, read_refusal}
use Rattle.ordup_query.specs.declared.answer.ReadAnswer.{ReadAnswer}
use Rattle.ordup_world.specs.Events.{is_same}
use Rattle.ordup_world.specs.Worlds.{OpenState, Queries, find_query}
use Rattle.ordup_world.specs.OpenQueries.{site_at, refusal_of, with_answer, IsAnswered, IsRead, IsOpenAt}

-- what an accepted read brings the total to is within the limit
pub total-within : (reads limit total import : ℕ) → read_refusal reads limit total import ≡ None → total + import ≤ limit
total-within reads limit total import fine = elim (cases_Bool (reads == 256)) [
  | inl full ↦ absurd (none-some TooMany (sym (rw full at fine)))
  | inr few ↦ elim (cases_Bool (nat_lt limit (total + import))) [
    | inl over ↦ absurd (none-some OverImport (sym (rw (few, over) at fine)))
    | inr within ↦ ltb-false limit (total + import) within
  ]
]

-- the value that stands at an index, written there again
set_value_at_same : (queries : Queries) (i : ℕ) (name : List ℕ) (o : OpenState) → slice_get queries i ≡ Some (name, o)
    → set_value_at queries i o ≡ queries
set_value_at_same [] zero name o at = refl
set_value_at_same [] (suc i) name o at = refl
set_value_at_same (e ∷ queries) zero name o at = cc
set_value_at_same (e ∷ queries) (suc i) name o at = ap (λ es. e ∷ es) (set_value_at_same queries i name o at)

-- a read by an open query, written back at its index
pub read-back : (old : Queries) (i : ℕ) (name : List ℕ) (sites : List SiteState) (x : ℕ) (r : Result ReadAnswer Refusal)
    (before after : OpenState) → slice_get old i ≡ Some (name, before) → find_query name old ≡ Some before
    → ((q : List ℕ) → find_query q (set_value_at old i after) ≡ cond (is_same name q) (Some after) (find_query q old))
    → length (set_value_at old i after) ≡ length old
    → IfOk r (λ a. IsAnswered before (site_at sites before.site) x a)
    → IfOk r (λ a. after ≡ with_answer before a) → IfErr r (λ e. refusal_at before.query (site_at sites before.site) x ≡ Some e)
    → OnErr r (after ≡ before)
    → IfOk r (λ a. IsRead old (set_value_at old i after) name sites x a)
    × IfErr r (λ e. refusal_of (find_query name old) sites x ≡ Some e) × OnErr r (set_value_at old i after ≡ old)
read-back old i name sites x (Ok a) before after entry found queries count answers is refused same = (
  record {
    before = before;
    found = found;
    answered = answers;
    queries = λ q. queries q ∙ ap (λ o. cond (is_same name q) (Some o) (find_query q old)) is;
    count = count;
  },
  tt,
  tt,
)
read-back old i name sites x (Err e) before after entry found queries count answers is refused same =
    (tt, rw found refused, ap (set_value_at old i) same ∙ set_value_at_same old i name before entry)

pub is_found : {X : Type 0} (o : Option X) (x : X) → o ≡ Some x → IsSome o
is_found o x e = rw e refl

-- what stands at an index, of which the key is the name and the value what is found
pub is_open-at : (queries : Queries) (name : List ℕ) (i : ℕ) (e : List ℕ × OpenState) → slice_get queries i ≡ Some e
    → is_same name e.0 ≡ true → find_query name queries ≡ Some e.1 → IsOpenAt queries name i
is_open-at queries name i e at same found = record {
  held = e.1;
  entry = at ∙ ap (λ n. Some (n, e.1)) (sym ((bytes_decides name e.0).0 same));
  found = found;
}

-- what stands at the first index whose key is the name
pub is_open-first : (queries : Queries) (name : List ℕ) (i : ℕ) → position (is_same name) (map (λ e. e.0) queries) ≡ Some i
    → IsOpenAt queries name i
is_open-first queries name i first =
    let is : Found (is_same name) queries i = Found-position (is_same name) queries i first in
    elim (slice_get_cases queries i).1 [
      | inl there ↦ (let e = there.0 in
          let key : lookup_key (is_same name) queries ≡ Some e.0 =
          is.key ∙ slice_get-map (λ (e : List ℕ × OpenState). e.0) queries i ∙ ap (option_map (λ e. e.0)) there.2 in
          let value : find_query name queries ≡ Some e.1 =
          is.value ∙ slice_get-map (λ (e : List ℕ × OpenState). e.1) queries i ∙ ap (option_map (λ e. e.1)) there.2 in
          is_open-at queries name i e there.2 (lookup_key_passes (is_same name) queries e.0 key) value)
      | inr past ↦ absurd (omega (arith, is.within, past.0))
    ]

-- the value at the index of an open query is the query
pub open-with : (queries : Queries) (name : List ℕ) (i : ℕ) (o : OpenState) → IsOpenAt queries name i
    → Some o ≡ slice_get (map (λ e. e.1) queries) i
    → (slice_get queries i ≡ Some (name, o)) × (find_query name queries ≡ Some o)
open-with queries name i o at value =
    let same : Some at.held ≡ Some o =
    sym (slice_get-map (λ (e : List ℕ × OpenState). e.1) queries i ∙ ap (option_map (λ e. e.1)) at.entry) ∙ sym value in
    (at.entry ∙ ap (option_map (λ e. (name, e))) same, at.found ∙ same)
