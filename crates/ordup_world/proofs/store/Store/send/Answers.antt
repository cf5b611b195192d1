-- The feed has what was sent and not applied, so the difference of two numbers says whether it is full.
use Rattle.std.proofs.Common.{arith, ◌+◌, ◌∙◌, refl, sym, ap}
use Rattle.std.proofs.lemmas.Grind.{common_steps}
use Rattle.ordup_world.proofs.StepLemmas.{unknown-site, nothing_to_send, feed_full, sent_next}
use Rattle.ordup_world.proofs.store.Store.send.Goals as goal

pub returns-then-index-len : goal.returns-then-index-len
returns-then-index-len g c = unknown-site c.requires c.args.site (grind (arith, common_steps)) (λ setup past no. rw no refl)

pub returns-then-sent-len : goal.returns-then-sent-len
returns-then-sent-len g c =
    nothing_to_send c.requires (grind (arith, common_steps))
    (sym c.sent-sent.ensures ∙ c.if-sent-len.true ∙ rw c.log.ensures at c.len-2.ensures.len)

pub returns-then-sent-applied : goal.returns-then-sent-applied
returns-then-sent-applied g c =
    feed_full c.requires (grind (arith, common_steps)) {site = c.index-3.result.now} (grind (arith, common_steps))
    (λ all. c.if-sent-len.false (c.sent-sent.ensures ∙ all ∙ sym (rw c.log.ensures at c.len-2.ensures.len)))
    (omega
    (arith, c.sent-sent.ensures, c.applied.ensures.applied, c.if-sent-applied.true, rw c.setup.ensures at c.capacity.ensures.capacity))

pub returns : goal.returns
returns g c =
    sent_next c.requires (grind (arith, common_steps)) {site = c.index-3.result.now} (grind (arith, common_steps))
    (λ all. c.if-sent-len.false (c.sent-sent.ensures ∙ all ∙ sym (rw c.log.ensures at c.len-2.ensures.len)))
    (λ full. c.if-sent-applied.false
    (omega (arith, c.sent-sent.ensures, c.applied.ensures.applied, full, rw c.setup.ensures at c.capacity.ensures.capacity)))
    (ap (λ n. n + 1) c.sent-sent.ensures) c.mark_sent.ensures.sound c.mark_sent.ensures.marked
