-- The line that was found is told, and copied where it fits; or there is none, for want of memory.
use Rattle.std.proofs.Common.{inl, inr, refl}
use Rattle.ordup_c.proofs.checking.tell_series_verdict.Goals.{in-Ok, in-Err}
use Rattle.ordup_c.proofs.checking.tell_series_verdict.Goals as goal

pub returns : goal.returns
returns c = elim c.match-find_series_line.branch [
  | in-Ok w ↦ rw (w.out-is, w.written-is, w.status-is) (inl (
    c.find_series_line.new.line.text,
    w.in-Ok.found,
    w.in-Ok.ensures,
    w.len.ensures,
    rw w.as_slice.ensures at w.copy_whole-status.ensures,
  ))
  | in-Err w ↦ rw (w.out-is, w.written-is, w.status-is) (inr (w.in-Err.ensures, refl, refl))
]
