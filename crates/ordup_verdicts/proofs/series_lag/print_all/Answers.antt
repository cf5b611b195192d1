-- After each record its lag was printed, or the job ends: there is a reason against it, it cannot be read or printed, or there is none.
use Rattle.std.proofs.Common.{◌++◌, ◌+◌, ◌∙◌, ◌∷◌, [], ap, inr}
use Rattle.std.proofs.lemmas.List.{length_push}
use Rattle.ordup_check.specs.declared.sizes.TheConstants.{MOST_SERIES_BYTES}
use Rattle.ordup_verdicts.proofs.SeriesLagLemmas.{judging-ends, known, lag-ended, printed-more, printing-ends, reading-ends}
use Rattle.ordup_verdicts.proofs.series_lag.print_all.Goals as goal

pub returns-in-Ok-None : goal.returns-in-Ok-None
returns-in-Ok-None g c had h =
    let (plain, done, has, counted, read, grew) = c.loop-count.invariant in
    lag-ended had _ _ _ done has.valid grew c.end_lag.ensures.kept c.end_lag.result c.end_lag.ensures.ended
    (known had (λ text first. rw c.in-Ok-None.field-0-is at c.in-Ok-None.ensures.next MOST_SERIES_BYTES text done (read text first).0) h)
    (known had (λ text first. (read text first).1) h)

pub returns-in-Err : goal.returns-in-Err
returns-in-Err g c had h =
    let (plain, done, has, counted, read, grew) = c.loop-count.invariant in
    rw c.fault_of_next.ensures
    (reading-ends had _ _ done has.valid grew c.in-Err.fault c.loop-count.count counted (known had (λ text first. (read text first).1) h)
    (λ n is. known had (λ text first. rw is at c.in-Err.ensures.next MOST_SERIES_BYTES text done (read text first).0) h))

pub returns-in-Some : goal.returns-in-Some
returns-in-Some g c had h =
    let (plain, done, has, counted, read, grew) = c.loop-count.invariant in
    judging-ends had _ _ done has.valid grew _ c.in-Ok-Some.next c.print_next-printed.new.audit (known had (λ text first. (read text first).1) h)
    (known had
    (λ text first. inr (rw c.in-Ok-Some.field-0-is at c.in-Ok-Some.ensures.next MOST_SERIES_BYTES text done (read text first).0).1) h)
    c.in-Some.status (rw (c.in-Ok.is, c.in-Some.is) at c.print_next-printed.ensures done has)

pub returns-in-Err-printed : goal.returns-in-Err-printed
returns-in-Err-printed g c had h =
    let (plain, done, has, counted, read, grew) = c.loop-count.invariant in
    printing-ends had _ _ done has.valid grew _ c.in-Ok-Some.next c.print_next-printed.new.audit
    (known had (λ text first. (read text first).1) h)
    (known had
    (λ text first. inr (rw c.in-Ok-Some.field-0-is at c.in-Ok-Some.ensures.next MOST_SERIES_BYTES text done (read text first).0).1) h)
    c.in-Err-printed.fault (c.in-Err-printed.ensures done has)

pub loop-count-preserved : goal.loop-count-preserved
loop-count-preserved g c =
    let (plain, done, has, counted, read, grew) = c.loop-count.invariant in
    let r = c.in-Ok-Some.next in
    let printed = rw (c.in-Ok.is, c.in_default.is) at c.print_next-printed.ensures done has in (
      c.in-Ok-Some.ensures.plain,
      done ++ r ∷ [],
      printed.0,
      length_push done r ∙ ap (λ k. k + 1) counted,
      λ text first.
          let next = rw c.in-Ok-Some.field-0-is at c.in-Ok-Some.ensures.next MOST_SERIES_BYTES text done (read text first).0 in
          (next.0, inr next.1),
      printed-more _ _ done grew _ r printed.1,
    )

pub returns : goal.returns
returns g c had h =
    let (plain, done, has, counted, read, grew) = c.loop-count.invariant in
    (done, has.valid, known had (λ text first. (read text first).1) h, grew)
