-- The sites before the index agree with the primary.
-- Each uses up one list of the initial values, and there are as many as sites.
use Rattle.std.proofs.Common.{◌≡◌, ◌<◌, refl, inr, length, rules, arith}
use Rattle.std.proofs.lemmas.Option.{slice_get_read, slice_get_within}
use Rattle.std.proofs.lemmas.List.Elements.{All-take}
use Rattle.ordup_cluster.proofs.ClosedLemmas.{agree-more, first-mixed}
use Rattle.ordup_cluster.proofs.closing.first_mixed.Goals as goal

pub loop-index-preserved : goal.loop-index-preserved
loop-index-preserved c =
    let before = c.loop-index.invariant in
    let sites = c.args.sites.now.items in
    let here : c.loop-index.index < length c.args.sites.now.items = search rules in
    let agrees = rw c.new-site.ensures at (c.if-not-agree.ensures.0 (search rules)) in
    record {
      spare_values = rw c.in-Some.ensures.rest (All-take (λ v. v ≡ c.args.primary.now.log.start) _ _ before.spare_values);
      count = search rules;
      agree =
          agree-more c.loop-index.index c.args.primary.now sites c.index.result.now before.agree
          (slice_get_read sites _ c.loop-index.index c.index.result.now refl here c.index.ensures) agrees;
    }

pub returns-clause-agree : goal.returns-clause-agree
returns-clause-agree c = λ s x at.
    let inside = slice_get_within c.args.sites.now.items s x at in
    let last = c.loop-index-test.false in
    let all : length c.args.sites.now.items ≡ c.sites-index-end.result = search rules in
    c.loop-index.invariant.agree s x (omega arith) at

pub returns-then-not-agree-clause-mixed : goal.returns-then-not-agree-clause-mixed
returns-then-not-agree-clause-mixed c =
    let sites = c.args.sites.now.items in
    let here : c.loop-index.index < length c.args.sites.now.items = search rules in
    inr (rw c.new-site.ensures
    (first-mixed c.loop-index.index c.args.primary.now sites c.index.result.now here c.loop-index.invariant.agree
    (slice_get_read sites _ c.loop-index.index c.index.result.now refl here c.index.ensures)
    (λ agrees. let is = c.if-not-agree.ensures.1 (rw c.new-site.ensures agrees) in search rules)))
