-- What a read imports, and what is charged for it.
use Rattle.std.specs.Prelude.{◌≡◌, ℕ, ◌<◌, List, length, min, max}
use Rattle.std.specs.Int.{abs_diff}
use Rattle.ordup_objects.specs.Serial.{History}
use Rattle.ordup_objects.specs.Weights.{object_span}
use Rattle.ordup_objects.specs.Marks.{mark_at, AreMarks}
use Rattle.ordup_site.specs.Sites.{SiteState, travelled_at, HasApplied}

-- what a read of an object imports at a site that applied j updates, by the reference p: the weight on the object of the span
-- between
abbrev pub import_of : History → ℕ → ℕ → ℕ → ℕ
import_of h x j p = object_span h x (min j p) (max j p)

-- what is charged for a read: how far what the value travelled is from the mark
abbrev pub charge : SiteState → List ℕ → ℕ → ℕ
charge s marks x = abs_diff (travelled_at s x) (mark_at marks x)

-- where the site applied the first j updates of a history, and the marks are those of a reference on it, the charge is the import
abbrev pub ChargesAreImports : Type 0
ChargesAreImports =
    (s : SiteState) (marks : List ℕ) (x : ℕ) → x < length marks
    → (h : History) (j p : ℕ) → HasApplied s h j → AreMarks h p marks
    → charge s marks x ≡ import_of h x j p
