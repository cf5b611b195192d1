-- The last limits of a site, in force from the start.
use Rattle.std.proofs.Common.{◌≡◌, ℕ, ◌≤◌, Bool, true, false, List, [], ◌∷◌, ◌++◌, length}
use Rattle.std.proofs.Common.{arith, refl, sym, ap, ◌∙◌, append_assoc}
use Rattle.std.specs.Prelude.{◌||◌, ◌&&◌, All, fold}
use Rattle.std.specs.List.{list_any}
use Rattle.std.proofs.lemmas.Bool.{or_parts}
use Rattle.std.proofs.lemmas.List.{append-nil, length-map}
use Rattle.std.proofs.lemmas.List.Elements.{All-map}
use Rattle.std.proofs.lemmas.List.Folds.{list_any-append}
use Rattle.ordup_objects.specs.Repeats.{repeats}
use Rattle.ordup_limits.specs.Limits.{Limits, are_on_one_scope}
use Rattle.ordup_log.specs.Groups.{GroupList}
use Rattle.ordup_log.specs.Spans.{IsScopeKnown}
use Rattle.ordup_limits.specs.Entries.{Entries, put, latest, from_start, are_one_entry, HoldFrom, AreEntries, AreEntriesKnown}
use Rattle.ordup_limits.specs.Sizes.{greatest_amount}
use Rattle.ordup_limits.specs.declared.limit.Limit.{Limit}
use Rattle.ordup_limits.specs.declared.limit_entry.LimitEntry.{LimitEntry}
use Rattle.ordup_limits.proofs.PutLemmas.{put-new, position-absent}
use Rattle.ordup_limits.proofs.EntryLemmas.{All-latest, latest-known}
use Rattle.ordup_limits.proofs.SiteLemmas.{latest-distinct}

-- none of the elements before one is the same as it, where nothing comes twice
before-repeat : {X : Type 0} (same : X → X → Bool) (xs : List X) (y : X) (ys : List X) → repeats same (xs ++ y ∷ ys) ≡ false
    → list_any (λ x. same x y) xs ≡ false
before-repeat same [] y ys distinct = refl
before-repeat same (x ∷ xs) y ys distinct =
    let parts = or_parts (list_any (same x) (xs ++ y ∷ ys)) (repeats same (xs ++ y ∷ ys)) distinct in
    let others : (list_any (same x) xs || (same x y || list_any (same x) ys)) ≡ false = sym (list_any-append (same x) xs (y ∷ ys)) ∙ parts.0 in
    let behind = or_parts (list_any (same x) xs) (same x y || list_any (same x) ys) others in
    let here = or_parts (same x y) (list_any (same x) ys) behind.1 in
    rw (here.0, before-repeat same xs y ys parts.1) refl

latest-added : (done limits : Limits) → repeats are_on_one_scope (done ++ limits) ≡ false
    → fold (λ ls e. put are_on_one_scope ls e.limit) done (from_start limits) ≡ done ++ limits
latest-added done [] distinct = sym (append-nil done)
latest-added done (l ∷ limits) distinct =
    let last : put are_on_one_scope done l ≡ done ++ l ∷ [] =
    put-new are_on_one_scope done l (position-absent (λ m. are_on_one_scope m l) done (before-repeat are_on_one_scope done l limits distinct)) in
    let all : (done ++ l ∷ []) ++ limits ≡ done ++ l ∷ limits = append_assoc done (l ∷ []) limits in
    ap (λ (ls : Limits). fold (λ ms e. put are_on_one_scope ms e.limit) ls (from_start limits)) last
    ∙ latest-added (done ++ l ∷ []) limits (rw all distinct) ∙ all

-- they are the last limits of these entries too
pub latest-from_start : (entries : Entries) → latest (from_start (latest entries)) ≡ latest entries
latest-from_start entries = latest-added [] (latest entries) (latest-distinct entries)

alike-here : (b : Bool) → (b && true) ≡ b
alike-here true = refl
alike-here false = refl

others-apart : (l : Limit) (limits : Limits) → list_any (are_one_entry (record { limit = l; place = 1 })) (from_start limits) ≡ list_any (are_on_one_scope l) limits
others-apart l [] = refl
others-apart l (m ∷ limits) = rw (alike-here (are_on_one_scope l m), others-apart l limits) refl

repeats-from_start : (limits : Limits) → repeats are_one_entry (from_start limits) ≡ repeats are_on_one_scope limits
repeats-from_start [] = refl
repeats-from_start (l ∷ limits) = rw (others-apart l limits, repeats-from_start limits) refl

place-from_start : (limits : Limits) → All (λ e. e.place ≡ 1) (from_start limits)
place-from_start limits = All-map (λ e. e.place ≡ 1) (λ l. record { limit = l; place = 1 }) limits (λ i d lt. refl)

pub HoldFrom-from_start : (limits : Limits) → HoldFrom 1 (from_start limits)
HoldFrom-from_start limits = λ i d lt. omega (arith, place-from_start limits i d lt)

pub AreEntries-from_start : (entries : Entries) → AreEntries entries → AreEntries (from_start (latest entries))
AreEntries-from_start entries are =
    let limits = latest entries in
    record {
      scopes = omega (arith, ap (λ (ls : Limits). length ls) (latest-from_start entries), are.scopes);
      few = omega (arith, length-map {B = LimitEntry} limits (λ l. record { limit = l; place = 1 }), are.scopes);
      amounts = All-map (λ e. e.limit.amount ≤ greatest_amount) (λ l. record { limit = l; place = 1 }) limits
          (All-latest (λ l. l.amount ≤ greatest_amount) entries are.amounts);
      begun = λ i d lt. omega (arith, place-from_start limits i d lt);
      rising = λ i j d le lt. omega (arith, place-from_start limits i d (omega arith), place-from_start limits j d lt);
      distinct = repeats-from_start limits ∙ latest-distinct entries;
    }

pub known-from_start : (n : ℕ) (groups : GroupList) (entries : Entries) → AreEntriesKnown n groups entries
    → AreEntriesKnown n groups (from_start (latest entries))
known-from_start n groups entries known =
    All-map (λ e. IsScopeKnown n groups e.limit.scope) (λ l. record { limit = l; place = 1 }) (latest entries) (latest-known n groups entries known)
