-- How counts add up.
use Rattle.std.proofs.Common.{◌≡◌, ℕ, suc, ◌+◌, ◌≤◌, List, [], ◌∷◌, length, Some, None, refl, arith, sum_by}
use Rattle.std.specs.Prelude.{Option, option_map, IfSome}
use Rattle.std.specs.declared.thread.PromisedHandle.{PromisedHandle}
use Rattle.std.specs.declared.thread.Promise as Promise
use Rattle.std.specs.PromisedHandle.{KeepsEach}
use Rattle.std.proofs.lemmas.List.Sums.{sum_by-cons}
use Rattle.ordup_plan.specs.declared.tally.Tally.{Tally}
use Rattle.ordup_plan.specs.Counting.{plus, total, count_of}

counts-more : (t : Tally) (o : Option Tally) (n : ℕ) → IfSome o (λ u. u.refused + u.pending ≡ n)
    → IfSome (option_map (plus t) o) (λ u. u.refused + u.pending ≡ t.refused + t.pending + n)
counts-more t None n e = tt
counts-more t (Some u) n e = omega (arith, e)

pub total-counts : (ts : List (Option Tally)) → IfSome (total ts) (λ t. t.refused + t.pending ≡ sum_by count_of ts)
total-counts [] = refl
total-counts (None ∷ ts) = tt
total-counts (Some t ∷ ts) = rw (sum_by-cons count_of (Some t) ts) (counts-more t (total ts) (sum_by count_of ts) (total-counts ts))

-- the promises of callers, each kept by what its thread answered
pub kept-sum : {P : Type 0} → (g : Promise.Ghosts P (Option Tally)) (most : P → ℕ) (hs : List (PromisedHandle (Option Tally) P))
    (rs : List (Option Tally)) → ((p : P) (r : Option Tally) → g.kept_by p r → count_of r ≤ most p) → length rs ≡ length hs
    → KeepsEach g (length hs) hs rs → sum_by count_of rs ≤ sum_by (λ h. most h.promise) hs
kept-sum g most [] [] each count kept = omega arith
kept-sum g most [] (r ∷ rs) each count kept = absurd cc
kept-sum g most (h ∷ hs) [] each count kept = absurd cc
kept-sum {P} g most (h ∷ hs) (r ∷ rs) each count kept =
    let first = (kept 0 None (omega arith)).1 in
    let le : count_of r ≤ most h.promise = rw (← first.handle_is) (each first.handle.promise r first.kept) in
    let rest = kept-sum g most hs rs each (omega (arith, count)) (λ i d lt. let k = (kept (suc i) d (omega arith)).1 in (refl, record { handle = k.handle; handle_is = k.handle_is; kept = k.kept })) in
    omega (arith, sum_by-cons count_of r rs, sum_by-cons (λ (k : PromisedHandle (Option Tally) P). most k.promise) h hs)

-- what a caller counts is as much as it has promised at most
pub promised : (r : Option Tally) (n : ℕ) → IfSome r (λ t. t.refused + t.pending ≤ n) → count_of r ≤ n
promised None n le = omega arith
promised (Some t) n le = le

few-some : (o : Option Tally) (m n : ℕ) → m ≤ n → IfSome o (λ t. t.refused + t.pending ≡ m) → IfSome o (λ t. t.refused + t.pending ≤ n)
few-some None m n le is = tt
few-some (Some t) m n le is = omega (arith, is)

pub total-few : (ts : List (Option Tally)) (n : ℕ) → sum_by count_of ts ≤ n → IfSome (total ts) (λ t. t.refused + t.pending ≤ n)
total-few ts n le = few-some (total ts) (sum_by count_of ts) n le (total-counts ts)
