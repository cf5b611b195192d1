-- Records of sites of a store with one object, worked out by hand: x begins at 0, and two updates add 1 and 2.
use Rattle.std.proofs.Common.{◌≡◌, ◌≢◌, ◌∙◌, ℕ, ◌+◌, ◌==◌, List, [], ◌∷◌, Bool, true, false, pos, take, inl, inr, refl, sym, ap, arith, unsigned_abs}
use Rattle.std.specs.Prelude.{codes}
use Rattle.std.proofs.lemmas.Bool.{false≢true}
use Rattle.ordup_objects.specs.declared.change.Change.{Change}
use Rattle.ordup_objects.specs.declared.change.Op.TheVariants.{Add}
use Rattle.ordup_objects.specs.States.{after, value_at}
use Rattle.ordup_objects.specs.Tables.{Objects, initial_state}
use Rattle.ordup_audit.specs.Records.{RecordState}
use Rattle.ordup_series.specs.Ends.{DifferAfter}
use Rattle.ordup_sites.specs.Sites.{AreSame, DiffersFrom}

abbrev adds : ℕ → List Change
adds n = record { object = 0; op = Add (pos n) } ∷ []

abbrev x_at : ℕ → Objects
x_at n = (codes "x", pos n) ∷ []

abbrev of_site : List ℕ → List (List Change) → RecordState
of_site site sets = record {
  site = site;
  objects = x_at 0;
  groups = [];
  limits = [];
  sets = sets;
  reports = [];
  rounds = [];
  windows = [];
}

abbrev a : RecordState
a = of_site (codes "a") (adds 1 ∷ adds 2 ∷ [])

-- ---- the same

-- of a site whose record was taken before the second update, or after a third
earlier : AreSame a (of_site (codes "b") (adds 1 ∷ []))
earlier = record { objects = refl; groups = refl; updates = inr refl }

later : AreSame a (of_site (codes "b") (adds 1 ∷ adds 2 ∷ adds 3 ∷ []))
later = record { objects = refl; groups = refl; updates = inl refl }

-- ---- not the same

-- two things of which a test tells one from the other
apart : {X : Type 0} (test : X → Bool) (x y : X) → test x ≡ true → test y ≡ false → x ≢ y
apart test x y here there same = false≢true (sym there ∙ (ap test (sym same) ∙ here))

-- the second update adds 3, in row 4: after the head, the object and the first change
abbrev adds_two : List Change → Bool
adds_two m = unsigned_abs (value_at (after m (pos 0 ∷ [])) 0) == 2

other_change : DiffersFrom a (of_site (codes "b") (adds 1 ∷ adds 3 ∷ [])) 4
other_change =
    let differ : DifferAfter 0 (adds 2) (adds 3) = record { same = refl; differ = apart adds_two (take 1 (adds 2)) (take 1 (adds 3)) refl refl } in
    inr (refl, refl, (1, 0, omega arith, omega arith, refl, differ, refl))

-- the updates in the other order, in row 3
other_order : DiffersFrom a (of_site (codes "b") (adds 2 ∷ adds 1 ∷ [])) 3
other_order =
    let differ : DifferAfter 0 (adds 1) (adds 2) = record {
      same = refl;
      differ = λ e. apart adds_two (take 1 (adds 2)) (take 1 (adds 1)) refl refl (sym e);
    } in
    inr (refl, refl, (0, 0, omega arith, omega arith, refl, differ, refl))

-- x begins at 1, in row 2
abbrev begins_at_one : Objects → Bool
begins_at_one o = unsigned_abs (value_at (initial_state o) 0) == 1

other_value : DiffersFrom a (record a { site = codes "b"; objects = x_at 1 }) 2
other_value = inl (inl (
  0,
  record { same = refl; differ = λ e. apart begins_at_one (take 1 (x_at 1)) (take 1 (x_at 0)) refl refl (sym e) },
  refl,
))
