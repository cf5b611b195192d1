-- Which update may follow others on its way to a site.
use Rattle.std.specs.Prelude.{◌≡◌, ℕ, ◌+◌, ◌<◌, ◌≤◌, true, None, List, length}
use Rattle.ordup_objects.specs.declared.change.Change.{Change}
use Rattle.ordup_objects.specs.Sizes.{most_updates}
use Rattle.ordup_objects.specs.States.{is_legal}
use Rattle.ordup_objects.specs.Sets.{AreKnown}
use Rattle.ordup_objects.specs.Serial.{History, serial, set_at, prefix_of}
use Rattle.ordup_primary.specs.Primaries.{PrimaryState, IsPrimary, progress_at, send_refusal}

-- The update may follow those of a history: its number is the next one, of a log's at most 1,000,000, and its set changes and reads
-- objects that are there, and is legal on the serial result.
pub record MayFollow (h : History) (number : ℕ) (set : List Change) : Type 0 where
  pub next : number ≡ length h.sets + 1
  pub few : number ≤ most_updates
  pub known : AreKnown (length h.start) set
  pub legal : is_legal set (serial h (length h.sets)) ≡ true

-- what a primary has next for a site may follow the updates that were sent to it
abbrev pub NextUpdatesMayFollow : Type 0
NextUpdatesMayFollow =
    (p : PrimaryState) (s : ℕ) (number : ℕ) (set : List Change) → IsPrimary p → s < length p.sites → send_refusal p s ≡ None
    → number ≡ (progress_at p s).sent + 1 → set ≡ set_at p.log number → MayFollow (prefix_of p.log (progress_at p s).sent) number set
