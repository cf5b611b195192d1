-- At each step the feed has the updates that the primary counts as sent, and the next one may follow them.
-- The loop ends at the last update that may be sent, or at a feed that is full.
use Rattle.std.proofs.Common.{◌<◌, ap, length, arith, inl, inr}
use Rattle.ordup_primary.specs.Primaries.{PrimaryState, progress_at}
use Rattle.ordup_holds.specs.Turning.{kept_at}
use Rattle.ordup_holds.proofs.BookLemmas.{tied-sent, progress-twice, progress-same, sites-count, sent-more, sent-none, with-same, pushed-alone, pushed-count}
use Rattle.ordup_holds.proofs.turning.send.Goals as goal

pub last_to_send-last-requires : goal.last_to_send-last-requires
last_to_send-last-requires g c = c.requires.site

pub loop-site-init : goal.loop-site-init
loop-site-init g c =
    record { tied = c.requires.tied; site = with-same _ _; sent = sent-none _ _ _; inside = c.requires.site }

pub sent-requires : goal.sent-requires
sent-requires g c = c.loop-site.invariant.inside

pub returns-then-is_full-clause-tied : goal.returns-then-is_full-clause-tied
returns-then-is_full-clause-tied g c = rw c.is_full.ensures.same c.loop-site.invariant.tied

pub returns-then-is_full-clause-site : goal.returns-then-is_full-clause-site
returns-then-is_full-clause-site g c = c.loop-site.invariant.site

pub returns-then-is_full-clause-sent : goal.returns-then-is_full-clause-sent
returns-then-is_full-clause-sent g c = rw c.is_full.ensures.same c.loop-site.invariant.sent

pub next_for-requires : goal.next_for-requires
next_for-requires g c = c.loop-site.invariant.inside

pub push-requires : goal.push-requires
push-requires g c =
    let before = c.loop-site.invariant in
    let parcel = c.in_ok-parcel.ensures in
    rw (c.is_full.ensures.same, before.tied.pushed)
    (c.next_updates_may_follow.ensures _ _ _ _ c.keeps.ensures.sound before.inside parcel.allowed parcel.number parcel.set)

pub mark_sent-requires : goal.mark_sent-requires
mark_sent-requires g c =
    let log = ap (λ (q : PrimaryState). length q.log.sets) c.loop-site.invariant.site in
    record {
      site = c.loop-site.invariant.inside;
      unsent = omega (arith, log, c.last_to_send-last.ensures.logged, c.loop-site-test.true, c.sent.ensures);
    }

pub loop-site-preserved : goal.loop-site-preserved
loop-site-preserved g c =
    let before = c.loop-site.invariant in
    let p = c.loop-site.primary in
    let s = c.args.site in
    let marked = c.mark_sent.ensures.marked in
    let pushed = rw c.is_full.ensures.same at c.in-Ok.ensures.pushed in
    let log = ap (λ (q : PrimaryState). length q.log.sets) before.site in
    let last = c.last_to_send-last.ensures in
    let unsent : (progress_at p s).sent < length p.log.sets =
    omega (arith, log, last.logged, c.loop-site-test.true, c.sent.ensures) in
    let at = progress-same p _ s _ marked before.inside in
    record {
      tied =
          rw pushed
          (tied-sent p _ s c.loop-site.end c.in_ok-parcel.parcel before.tied before.inside unsent c.in_ok-parcel.ensures.number
          c.in_ok-parcel.ensures.set marked);
      site = progress-twice _ p _ s _ _ before.site marked before.inside;
      sent =
          sent-more _ s _ (kept_at p s c.loop-site.end) _ before.sent at
          (pushed-alone c.loop-site.end _ _ pushed)
          (omega (arith, last.bound, c.loop-site-test.true, c.sent.ensures));
      inside = rw (sites-count p _ s _ marked) before.inside;
    }

pub returns : goal.returns
returns g c =
    let before = c.loop-site.invariant in
    record {
      tied = before.tied;
      site = before.site;
      sent = before.sent;
      out = record { some = before.sent; out = inl (omega (arith, c.last_to_send-last.ensures.bound, c.loop-site-test.false, c.sent.ensures)) };
      refused = tt;
    }

pub returns-in_err-parcel-clause-tied : goal.returns-in_err-parcel-clause-tied
returns-in_err-parcel-clause-tied g c = rw c.is_full.ensures.same c.loop-site.invariant.tied

pub returns-in_err-parcel-clause-site : goal.returns-in_err-parcel-clause-site
returns-in_err-parcel-clause-site g c = c.loop-site.invariant.site

pub returns-in_err-parcel-clause-sent : goal.returns-in_err-parcel-clause-sent
returns-in_err-parcel-clause-sent g c = rw c.is_full.ensures.same c.loop-site.invariant.sent

pub returns-in-Err-clause-tied : goal.returns-in-Err-clause-tied
returns-in-Err-clause-tied g c = rw (c.in-Err.ensures.refused.2, c.is_full.ensures.same) c.loop-site.invariant.tied

pub returns-in-Err-clause-site : goal.returns-in-Err-clause-site
returns-in-Err-clause-site g c = c.loop-site.invariant.site

pub returns-in-Err-clause-sent : goal.returns-in-Err-clause-sent
returns-in-Err-clause-sent g c = rw (c.in-Err.ensures.refused.2, c.is_full.ensures.same) c.loop-site.invariant.sent

pub returns-in-Err-clause-out : goal.returns-in-Err-clause-out
returns-in-Err-clause-out g c =
    let before = c.loop-site.invariant in
    let count = pushed-count _ _ _ c.keeps.ensures.sound before.inside before.tied in
    let full = rw c.is_full.ensures.same at c.in-Err.ensures.full in
    rw (c.in-Err.ensures.refused.2, c.is_full.ensures.same)
    (record { some = before.sent; out = inr (omega (arith, count, full)) })
