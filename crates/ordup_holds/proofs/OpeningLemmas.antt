-- What a book and cells keep at the start.
use Rattle.std.proofs.Common.{◌≡◌, ◌⊎◌, ℕ, zero, suc, ◌+◌, ◌<◌, ◌≤◌, List, [], ◌∷◌, ◌++◌, length, Some}
use Rattle.std.proofs.Common.{refl, sym, ap, ◌∙◌, arith, inl, inr, ⊎_elim}
use Rattle.std.specs.Prelude.{slice_get}
use Rattle.std.proofs.lemmas.Option.{slice_get_within}
use Rattle.std.proofs.lemmas.List.{length_push, length-replicate, get_or-replicate}
use Rattle.ordup_objects.specs.Tables.{initial_state}
use Rattle.ordup_primary.specs.Declarations.{Declared, capacity_of}
use Rattle.ordup_primary.specs.Primaries.{PrimaryState, first_progress, progress_at}
use Rattle.ordup_primary.specs.PrimaryInside.{first_state}
use Rattle.ordup_feed.specs.Ends.{Sending, AreNewEnds}
use Rattle.ordup_holds.specs.Books.{KeepsBook}
use Rattle.ordup_holds.specs.Cells.{CellState}
use Rattle.ordup_holds.specs.Opening.{AreFirstFeeds}

-- ---- a list with one element more

pub at-pushed : {A : Type 0} → (l : List A) (a b : A) (j : ℕ) → slice_get (l ++ a ∷ []) j ≡ Some b
    → (slice_get l j ≡ Some b) ⊎ ((j ≡ length l) × (a ≡ b))
at-pushed [] a b zero e = inr (refl, cc)
at-pushed [] a b (suc j) e = absurd cc
at-pushed (x ∷ xs) a b zero e = inl e
at-pushed (x ∷ xs) a b (suc j) e = ⊎_elim (λ h. inl h) (λ h. inr (ap suc h.0, h.1)) (at-pushed xs a b j e)

pub at-before : {A : Type 0} → (l : List A) (a b : A) (j : ℕ) → slice_get l j ≡ Some b → slice_get (l ++ a ∷ []) j ≡ Some b
at-before [] a b j e = absurd cc
at-before (x ∷ xs) a b zero e = e
at-before (x ∷ xs) a b (suc j) e = at-before xs a b j e

pub at-end : {A : Type 0} → (l : List A) (a : A) → slice_get (l ++ a ∷ []) (length l) ≡ Some a
at-end [] a = refl
at-end (x ∷ xs) a = at-end xs a

-- spare capacity for one element more
pub has-spare : (len spare : ℕ) → len + 1 ≤ spare → len < spare
has-spare len spare h = omega arith

-- where a loop has ended
pub at-last : (i n count : ℕ) → n ≤ i → i ≤ n → n ≡ count → i ≡ count
at-last i n count past inside is = omega arith

-- ---- the feeds

pub feeds-more : (d : Declared) (n : ℕ) (ends : List Sending) (cells : List CellState) (e : Sending) (c : CellState)
    → AreFirstFeeds d n ends cells → AreNewEnds (initial_state d.objects) (capacity_of d n) e c.end
    → AreFirstFeeds d (n + 1) (ends ++ e ∷ []) (cells ++ c ∷ [])
feeds-more d n ends cells e c feeds made = record {
  end_count = omega (arith, length_push ends e, feeds.end_count);
  cell_count = omega (arith, length_push cells c, feeds.cell_count);
  each = λ s f at. ⊎_elim
      (λ (was : slice_get ends s ≡ Some f).
      let before = feeds.each s f was in (before.0, at-before cells c before.0 s before.1, before.2))
      (λ (last : (s ≡ length ends) × (e ≡ f)).
      let here : s ≡ n = last.0 ∙ feeds.end_count in
      let there : s ≡ length cells = here ∙ sym feeds.cell_count in
      (c, rw there (at-end cells c), rw (here, ← last.1) made))
      (at-pushed ends e f s at);
}

-- ---- the book

pub keeps-first : (d : Declared) (p : PrimaryState) (ends : List Sending) (cells : List CellState) → p ≡ first_state d
    → AreFirstFeeds d (length d.sites) ends cells → KeepsBook p ends
keeps-first d p ends cells is feeds = rw is (record {
  count = feeds.end_count ∙ sym (length-replicate (length d.sites) first_progress);
  tied = λ s e at.
      let inside : s < length d.sites = let count = feeds.end_count in let there = slice_get_within ends s e at in omega arith in
      let made = (feeds.each s e at).2 in
      let first : progress_at (first_state d) s ≡ first_progress =
      get_or-replicate (length d.sites) s first_progress first_progress inside in
      record {
        capacity = made.holds;
        pushed = rw (first, made.sender) refl;
        reported = rw first (omega arith);
      };
})

pub first-is : (d : Declared) (p : PrimaryState) → p.setup ≡ d → p.log ≡ (first_state d).log → (p.acked ≡ 0) × (p.decided ≡ 0)
    → p.sites ≡ (first_state d).sites → p.limits ≡ d.limits → p ≡ first_state d
first-is d p setup log numbers sites limits =
    λ i. record { setup = setup i; log = log i; acked = numbers.0 i; decided = numbers.1 i; sites = sites i; limits = limits i }
