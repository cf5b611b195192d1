-- Sending to one site changes nothing at the others, and nothing that is acknowledged.
-- So up to which update each may be sent is known from the start, and the sites before the index were sent as many.
use Rattle.std.proofs.Common.{refl, sym, ap, ◌∙◌, length, arith}
use Rattle.std.proofs.lemmas.Option.{slice_get_read}
use Rattle.ordup_primary.specs.Declarations.{Declared}
use Rattle.ordup_holds.specs.Turning.{Sent, SentOut, send_bound}
use Rattle.ordup_holds.proofs.BookLemmas.{keeps-at, sites-count, upto-none, upto-more, upto-all, upto-some, upto-part, bound-same}
use Rattle.ordup_holds.proofs.BookLemmas.{sent-bound, sent_out-bound}
use Rattle.ordup_holds.proofs.turning.send_all.Goals as goal

pub loop-index-init : goal.loop-index-init
loop-index-init g c = record {
  kept = c.requires.kept;
  upto = upto-none (SentOut (send_bound c.args.primary.now)) _;
  sites =
      let count = c.keeps.ensures.sound.count in
      omega (arith, count, c.sites-index-end.ensures.sites, ap (λ (d : Declared). length d.sites) c.setup.ensures);
}

pub send-requires-clause-tied : goal.send-requires-clause-tied
send-requires-clause-tied g c = rw c.new-site.ensures (let before = c.loop-index.invariant in
    before.kept.tied _ _
    (slice_get_read c.loop-index.ends.items _ _ _ refl (omega (arith, before.kept.count, before.sites, c.loop-index-test.true))
    c.index_mut.ensures.value))

pub returns-in_err-send-clause-kept : goal.returns-in_err-send-clause-kept
returns-in_err-send-clause-kept g c =
    keeps-at _ _ _ _ _ _ c.loop-index.invariant.kept (rw c.new-site.ensures at c.send.ensures.site)
    (rw c.new-site.ensures at c.send.ensures.tied)

pub returns-in_err-send-clause-sent : goal.returns-in_err-send-clause-sent
returns-in_err-send-clause-sent g c =
    let before = c.loop-index.invariant in
    let bound = send_bound c.args.primary.now in
    let same = bound-same _ _ c.loop-index.index before.upto.primary ((before.upto.rest _ (omega arith)).1) in
    let at =
    slice_get_read c.loop-index.ends.items _ _ _ refl (omega (arith, before.kept.count, before.sites, c.loop-index-test.true))
    c.index_mut.ensures.value in
    upto-part bound _ _ _
    (upto-more (Sent bound) _ _ _ _ _ _ (upto-some bound _ _ _ before.upto)
    (omega (arith, before.sites, c.loop-index-test.true)) at (rw c.new-site.ensures at c.send.ensures.site)
    (sent-bound _ bound _ _ _ (sym same) (rw c.new-site.ensures at c.send.ensures.sent)))

pub loop-index-preserved : goal.loop-index-preserved
loop-index-preserved g c =
    let before = c.loop-index.invariant in
    let bound = send_bound c.args.primary.now in
    let same = bound-same _ _ c.loop-index.index before.upto.primary ((before.upto.rest _ (omega arith)).1) in
    let site = rw c.new-site.ensures at c.send.ensures.site in
    let at =
    slice_get_read c.loop-index.ends.items _ _ _ refl (omega (arith, before.kept.count, before.sites, c.loop-index-test.true))
    c.index_mut.ensures.value in
    record {
      kept = keeps-at _ _ _ _ _ _ before.kept site (rw c.new-site.ensures at c.send.ensures.tied);
      upto =
          upto-more (SentOut bound) _ _ _ _ _ _ before.upto (omega (arith, before.sites, c.loop-index-test.true))
          at site
          (sent_out-bound _ bound _ _ _ (sym same) (rw c.new-site.ensures at c.in_ok-send.ensures.out));
      sites = sites-count _ _ _ _ site ∙ before.sites;
    }

pub returns-clause-out : goal.returns-clause-out
returns-clause-out g c =
    let before = c.loop-index.invariant in
    upto-all (SentOut (send_bound c.args.primary.now)) _ _ _ before.upto
    (omega (arith, c.requires.kept.count, before.upto.sites, before.sites, c.loop-index-test.false))
