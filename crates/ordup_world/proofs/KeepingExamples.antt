-- Which answers are answers, and what each world keeps, at small numbers worked out by hand:
-- no definition can be made weaker, or impossible, unseen.
use Rattle.std.proofs.Common.{◌≡◌, ℕ, zero, suc, ◌≤◌, pos, [], ◌∷◌, replicate, map, true, false, arith, refl, inl, inr}
use Rattle.std.specs.Prelude.{All}
use Rattle.std.proofs.lemmas.List.Elements.{All-nil, All-cons}
use Rattle.ordup_objects.specs.declared.refusal.Refusal.TheVariants.{NoMemory}
use Rattle.ordup_objects.specs.Weights.{distance}
use Rattle.ordup_objects.specs.States.{State, value_at}
use Rattle.ordup_log.specs.declared.scope.Scope.TheVariants.{Object, Count}
use Rattle.ordup_primary.specs.Declarations.{Declared}
use Rattle.ordup_primary.specs.declared.settled.Settled.TheVariants.{Acked}
use Rattle.ordup_world.specs.Queries.{ReadMade, Opened}
use Rattle.ordup_world.specs.Events.{log_of, takes_memory, IsAnswer, AreAnswers}
use Rattle.ordup_world.specs.Imports.{KeepsImport}
use Rattle.ordup_world.specs.Along.{KeepsSite}
use Rattle.ordup_world.specs.Worlds.{WorldState, KeepsLimits}
use Rattle.ordup_world.specs.declared.event.Event.TheVariants.{Send, Apply, Report, Settle, Relimit}
use Rattle.ordup_world.specs.declared.event.Event.TheVariants.{Begin, Read, End, Abandon, Show}
use Rattle.ordup_world.specs.declared.event.Answer.TheVariants.{Proposed, Settlement, Refused}
use Rattle.ordup_world.proofs.Examples.{setup, stricter, add_to_x, q}

-- ---- answers

memory : (map (takes_memory {A = ℕ}) (add_to_x 1 ∷ Settle ∷ Relimit 0 Count 0 ∷ Begin q 0 0 ∷ Show 0 ∷ []) ≡ replicate 5 true)
    × (map (takes_memory {A = ℕ}) (Send 0 ∷ Apply 0 ∷ Report 0 ∷ Read q 0 ∷ End q ∷ Abandon q ∷ []) ≡ replicate 6 false)
memory = (refl, refl)

-- the reply is an answer, and NoMemory is one where the event takes memory and is not refused; nothing else is
answered : AreAnswers {A = ℕ} setup [] (add_to_x 5 ∷ Settle ∷ Settle ∷ [])
    (Proposed 1 ∷ Refused NoMemory ∷ Settlement (Acked 1) ∷ [])
answered = (inl refl, (inr (refl, refl, refl), (inl refl, tt)))

sends_want_no_memory : IsAnswer setup (add_to_x 5 ∷ []) (Send 0) (Refused NoMemory) → ⊥
sends_want_no_memory (inl e) = cc
sends_want_no_memory (inr e) = cc

refusals_come_first : IsAnswer {A = ℕ} setup [] Settle (Refused NoMemory) → ⊥
refusals_come_first (inl e) = cc
refusals_come_first (inr e) = cc

numbered_otherwise : IsAnswer setup [] (add_to_x 5) (Proposed 2) → ⊥
numbered_otherwise (inl e) = cc
numbered_otherwise (inr e) = cc

-- ---- sites

-- 5 is added to x and acknowledged, and x has a limit of 5 at the site 0, which applied nothing
kept : KeepsSite {A = ℕ} setup (Settle ∷ add_to_x 5 ∷ []) 0
kept = record { reported = omega arith; applied = omega arith; sent = omega arith; feed = omega arith; limits = refl }

-- where an update of 6 would count as acknowledged
over : KeepsSite {A = ℕ} setup (add_to_x 6 ∷ Settle ∷ []) 0 → ⊥
over k = let e : false ≡ true = k.limits in cc

-- what is in force now counts: where the limit is 0 from the second update on, the first one is over it once it is acknowledged
over_now : KeepsSite {A = ℕ} stricter (Settle ∷ add_to_x 5 ∷ []) 0 → ⊥
over_now k = let e : false ≡ true = k.limits in cc

-- also where it was changed: to 5, and to 4, which no store accepts
kept_now : KeepsSite {A = ℕ} setup (Relimit 0 (Object 0) 5 ∷ Settle ∷ add_to_x 5 ∷ []) 0
kept_now = record { reported = omega arith; applied = omega arith; sent = omega arith; feed = omega arith; limits = refl }

over_changed : KeepsSite {A = ℕ} setup (Relimit 0 (Object 0) 4 ∷ Settle ∷ add_to_x 5 ∷ []) 0 → ⊥
over_changed k = let e : false ≡ true = k.limits in cc

-- one more is applied than was sent, one more is sent than there is, or a feed of 1 holds 2
applied_too_much : KeepsSite {A = ℕ} setup (Apply 0 ∷ add_to_x 1 ∷ []) 0 → ⊥
applied_too_much k = let le : 1 ≤ 0 = k.applied in omega arith

sent_too_much : KeepsSite {A = ℕ} setup (Send 0 ∷ []) 0 → ⊥
sent_too_much k = let le : 1 ≤ 0 = k.sent in omega arith

fed_too_much : KeepsSite {A = ℕ} setup (Send 1 ∷ Send 1 ∷ add_to_x 1 ∷ add_to_x 1 ∷ []) 1 → ⊥
fed_too_much k = let le : 2 ≤ 1 = k.feed in omega arith

-- a world of one update, which adds this much to x and is acknowledged; the sites have reported and applied this many
abbrev world : Declared → ℕ → ℕ → ℕ → WorldState
world declared n reported applied = record {
  primary = record {
    setup = declared;
    log = log_of declared (add_to_x n ∷ []);
    acked = 1;
    decided = 1;
    sites = replicate 2 (record { sent = 1; reported = reported; reports = 0 ∷ []; rounds = []; windows = [] });
    limits = declared.limits;
  };
  sites = replicate 2 (record { applied = applied; values = []; travelled = [] });
  queries = [];
}

-- 5 is within the limit of 5, and 6 is not: what counts is what the site applied
keeps_5 : KeepsLimits (world setup 5 0 0)
keeps_5 zero d h = refl
keeps_5 (suc zero) d h = refl
keeps_5 (suc (suc s)) d h = absurd (omega arith)

keeps_no_6 : KeepsLimits (world setup 6 1 0) → ⊥
keeps_no_6 k = let e : false ≡ true = k 0 (record { applied = 9; values = []; travelled = [] }) (omega arith) in cc

-- what is in force now counts here too
keeps_none_now : KeepsLimits (world stricter 5 0 0) → ⊥
keeps_none_now k = let e : false ≡ true = k 0 (record { applied = 9; values = []; travelled = [] }) (omega arith) in cc

-- ---- imports

-- x was read as 3 and y as 10, with these imports, by a query that may import 2
abbrev reads : ℕ → ℕ → Opened
reads x y = record {
  site = 0;
  place = 1;
  limit = 2;
  reads = record { object = 0; value = pos 3; import = x } ∷ record { object = 1; value = pos 10; import = y } ∷ [];
}

abbrev IsNear : State → ReadMade → Type 0
IsNear v r = distance r.value (value_at v r.object) ≤ r.import

are_near : (v : State) (r s : ReadMade) → IsNear v r → IsNear v s → All (IsNear v) (r ∷ s ∷ [])
are_near v r s h k = All-cons (IsNear v) r (s ∷ []) h (All-cons (IsNear v) s [] k (All-nil (IsNear v)))

-- where x is 5 and y is 10 at the reference, x is 2 off, which is what was imported
near : KeepsImport (pos 5 ∷ pos 10 ∷ []) (reads 2 0)
near = record {
  total = omega arith;
  near = are_near (pos 5 ∷ pos 10 ∷ []) _ _ (omega arith) (omega arith);
  sum = omega arith;
  exact = λ e. absurd (omega arith);
}

-- with both at the reference nothing need be imported
exact : KeepsImport (pos 3 ∷ pos 10 ∷ []) (reads 0 0)
exact = record {
  total = omega arith;
  near = are_near (pos 3 ∷ pos 10 ∷ []) _ _ (omega arith) (omega arith);
  sum = omega arith;
  exact = λ e. refl;
}

-- x is 2 off by its own import of 1, though by no more than the total; or the total is 3
one_is_far : KeepsImport (pos 5 ∷ pos 10 ∷ []) (reads 1 1) → ⊥
one_is_far k = let le : 2 ≤ 1 = k.near 0 (record { object = 0; value = pos 0; import = 0 }) (omega arith) in omega arith

too_much : KeepsImport (pos 5 ∷ pos 10 ∷ []) (reads 2 1) → ⊥
too_much k = let le : 3 ≤ 2 = k.total in omega arith
