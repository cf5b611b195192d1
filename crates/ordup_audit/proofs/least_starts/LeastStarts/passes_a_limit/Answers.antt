-- A span passes a limit just where it begins before the least start of its end. So one look into the list replaces the test.
use Rattle.ordup_audit.proofs.Common.{◌≡◌, ◌+◌, arith, history_of, is_within, length}
use Rattle.std.specs.Prelude.{slice_index}
use Rattle.std.proofs.lemmas.List.{get_or_read}
use Rattle.ordup_limits.proofs.EntryLemmas.{in_force-test}
use Rattle.ordup_audit.specs.LeastStarts.{AreLeastStarts}
use Rattle.ordup_audit.proofs.LeastStartLemmas.{over-by-start}
use Rattle.ordup_audit.proofs.least_starts.LeastStarts.passes_a_limit.Goals as goal

pub returns-in-Some : goal.returns-in-Some
returns-in-Some g c =
    let r = c.args.audited.now in
    let starts = c.in-Some.starts.items in
    let are : AreLeastStarts (is_within r) (length r.sets + 1) starts = rw c.in-Some.is at c.requires.starts in
    let here : c.index.result.now ≡ slice_index starts c.args.to =
    get_or_read starts c.args.to c.index.result.now (omega (arith, are.count, c.requires.last)) c.index.ensures 0 in
    rw (c.from.ensures, here) (over-by-start (is_within r) c.args.from (slice_index starts c.args.to) c.args.to
    (in_force-test (history_of r) r.groups r.limits) (are.each c.args.to (omega (arith, c.requires.last))))

pub index-requires : goal.index-requires
index-requires g c =
    let r = c.args.audited.now in
    let are : AreLeastStarts (is_within r) (length r.sets + 1) c.in-Some.starts.items = rw c.in-Some.is at c.requires.starts in
    omega (arith, are.count, c.requires.last)
