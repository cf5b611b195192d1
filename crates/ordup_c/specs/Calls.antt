-- What the calls of a store leave and answer.
use Rattle.std.specs.Prelude.{◌≡◌, ℕ, ◌-◌, ◌==◌, List, [], length, take, Option, Some, None, if◌then◌else◌}
use Rattle.ordup_c.specs.declared.session.Session.{Session}
use Rattle.ordup_c.specs.declared.status.TheConstants.{DONE, MORE, CLOSED, OPEN, NO_MEMORY}
use Rattle.ordup_c.specs.Sessions.{Begins, AreWholeLines, Runs, kept}

-- a store was opened: it is before its first line
abbrev pub Opens : Option Session → Option Session → ℕ → Type 0
Opens (Some v) new status = (status ≡ OPEN) × (new ≡ Some v)
Opens None (Some v) status = (status ≡ DONE) × Begins v
Opens None None status = status ≡ NO_MEMORY

-- the status that tells whether bytes of a text were not taken, for want of memory, and else whether answers are kept
abbrev pub status_of : Session → ℕ → ℕ
status_of v left = if left == 0 then (if length (kept v) == 0 then DONE else MORE) else NO_MEMORY

-- a prefix of a text was taken, its lines were answered, and these answers given
abbrev pub RunsCall : Option Session → Option Session → List ℕ → ℕ → List ℕ → ℕ → Type 0
RunsCall None None text taken gave status = (status ≡ CLOSED) × (taken ≡ 0) × (gave ≡ [])
RunsCall None (Some w) text taken gave status = ⊥
RunsCall (Some v) None text taken gave status = ⊥
RunsCall (Some v) (Some w) text taken gave status =
    (status ≡ status_of w (length text - taken)) × AreWholeLines taken text × Runs v w (take taken text) gave
