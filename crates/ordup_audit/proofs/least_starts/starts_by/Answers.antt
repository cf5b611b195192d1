-- A span to the next place from before the old least start passes a limit too, unless limits that begin there allow it.
-- Only then is the least start searched for; else it moves on from the old one.
use Rattle.ordup_audit.proofs.Common.{◌≡◌, ◌+◌, ◌∙◌, ap, arith, History, history_of, is_within, length, length-map, refl, take}
use Rattle.ordup_limits.specs.Limits.{within}
use Rattle.ordup_limits.specs.Entries.{latest}
use Rattle.ordup_limits.proofs.EntryLemmas.{in_force-test}
use Rattle.ordup_audit.specs.Beginning.{HaveBegun}
use Rattle.ordup_audit.specs.LeastStarts.{IsLeastStart}
use Rattle.ordup_audit.proofs.LeastStartLemmas.{least-in_force, passes-before, starts-first, starts-more}
use Rattle.ordup_audit.proofs.least_starts.starts_by.Goals as goal

pub push_reserved-requires : goal.push_reserved-requires
push_reserved-requires g c = omega (arith, c.in-Ok.ensures.len, c.in-Ok.ensures.capacity)

pub loop-index-init : goal.loop-index-init
loop-index-init g c =
    let r = c.args.audited.now in
    let is = c.decided-decided.ensures.sound in
    record {
      spare = omega (arith, c.in-Ok.ensures.capacity, c.push_reserved.ensures.capacity);
      starts = rw (c.push_reserved.ensures.items, c.in-Ok.ensures.items) (starts-first (is_within r)
          (in_force-test (history_of r) r.groups r.limits));
      begun = record { upto = λ i d lt. absurd (omega arith); later = is.limits.begun };
      before = λ k lt. absurd (omega arith);
      stands = c.requires.first;
    }

pub extend-requires : goal.extend-requires
extend-requires g c =
    let is = c.loop-index.invariant.stands in
    let log = c.log-log.ensures.whole c.requires.legal in
    record {
      forward = omega (arith, is.to);
      last = rw log (omega (arith, c.loop-index-test.true, c.decided-decided.ensures.decided));
      stands = rw (log, c.groups-groups.ensures) is.stands;
    }

pub begin_limits-begun-requires : goal.begin_limits-begun-requires
begin_limits-begun-requires g c =
    let r = c.args.audited.now in
    let is = c.decided-decided.ensures.sound in
    let inside = c.loop-index.invariant in
    let entries = c.entries-entries.ensures ∙ c.limits-2.ensures in
    let start = ap (λ (h : History). length h.start) (c.log-log.ensures.whole c.requires.legal) ∙ length-map r.objects _ in
    record {
      scopes = rw entries is.limits.scopes;
      rising = rw entries is.limits.rising;
      known = rw (entries, start, c.groups-groups.ensures) is.scopes;
      begun = rw entries (λ i d lt. omega (arith, inside.begun.upto i d lt));
      limits = rw entries (c.extend.ensures.limits ∙ inside.stands.same);
      stands = c.extend.ensures.stands;
    }

pub next_start-start-requires-clause-last : goal.next_start-start-requires-clause-last
next_start-start-requires-clause-last g c =
    rw (c.log-log.ensures.whole c.requires.legal) (omega (arith, c.loop-index-test.true, c.decided-decided.ensures.decided))

pub next_start-start-requires-clause-stands : goal.next_start-start-requires-clause-stands
next_start-start-requires-clause-stands g c =
    let is = c.loop-index.invariant.stands in
    let extended = c.extend.ensures.places in
    let begun = c.begin_limits-begun.ensures.places in
    record {
      same = refl;
      from = begun.0 ∙ extended.0 ∙ is.from;
      to = begun.1 ∙ extended.1;
      stands = c.begin_limits-begun.ensures.stands;
    }

pub starts_earlier-is_earlier-requires : goal.starts_earlier-is_earlier-requires
starts_earlier-is_earlier-requires g c = record {
  legal = c.requires.legal;
  last = omega (arith, c.loop-index-test.true, c.decided-decided.ensures.decided);
}

pub next_start-start-requires-clause-before : goal.next_start-start-requires-clause-before
next_start-start-requires-clause-before g c =
    let r = c.args.audited.now in
    let n = c.begin_limits-begun.result in
    let inside = c.loop-index.invariant in
    let entries = c.entries-entries.ensures ∙ c.limits-2.ensures in
    let begun : HaveBegun (c.loop-index.index + 1) r.limits n = rw entries at c.begin_limits-begun.ensures.begun in
    let limits : c.begin_limits-begun.new.ledger.limits ≡ latest (take n r.limits) = rw entries at c.begin_limits-begun.ensures.limits in
    rw (c.log-log.ensures.whole c.requires.legal, c.groups-groups.ensures, limits)
    (passes-before r n c.loop-index.begun c.loop-index.start c.loop-index.index c.starts_earlier-is_earlier.result begun inside.before
    c.starts_earlier-is_earlier.ensures)

pub overflow_cast-start : goal.overflow_cast-start
overflow_cast-start g c =
    let log = c.log-log.ensures.whole c.requires.legal in
    let count = ap (λ (h : History). length h.sets) log in
    omega (
      arith,
      c.next_start-start.ensures.stands.from,
      c.next_start-start.ensures.stands.stands.reported,
      count,
      c.decided-decided.ensures.sound.few,
    )

pub loop-index-preserved : goal.loop-index-preserved
loop-index-preserved g c =
    let r = c.args.audited.now in
    let inside = c.loop-index.invariant in
    let n = c.begin_limits-begun.result in
    let start = c.next_start-start.result in
    let log = c.log-log.ensures.whole c.requires.legal in
    let entries = c.entries-entries.ensures ∙ c.limits-2.ensures in
    let begun : HaveBegun (c.loop-index.index + 1) r.limits n = rw entries at c.begin_limits-begun.ensures.begun in
    let limits : c.begin_limits-begun.new.ledger.limits ≡ latest (take n r.limits) = rw entries at c.begin_limits-begun.ensures.limits in
    let least : IsLeastStart (within (history_of r) r.groups (latest (take n r.limits))) start (c.loop-index.index + 1) =
    rw (log, c.groups-groups.ensures, limits) at c.next_start-start.ensures.least in
    record {
      spare = omega (arith, inside.spare, c.push_reserved-in-loop-index.ensures.capacity);
      starts = rw c.push_reserved-in-loop-index.ensures.items
          (starts-more (is_within r) (c.loop-index.index + 1) start c.loop-index.starts.items inside.starts
          (least-in_force r n start (c.loop-index.index + 1) begun least));
      begun = begun;
      before = least.before;
      stands = rw (log, c.groups-groups.ensures, limits) at c.next_start-start.ensures.stands;
    }

pub returns : goal.returns
returns g c =
    let all : c.loop-index.index ≡ length c.args.audited.now.sets = omega (arith, c.decided-decided.ensures.decided) in
    rw all at c.loop-index.invariant.starts
