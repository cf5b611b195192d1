-- Each step of the loop adds the initial values once more, so there are as many lists of them as sites.
use Rattle.std.proofs.Common.{ℕ, ◌+◌, ◌≡◌, ap, ◌∙◌, refl, arith}
use Rattle.std.proofs.lemmas.List.{length_push}
use Rattle.std.proofs.lemmas.List.Elements.{All-push}
use Rattle.ordup_objects.specs.States.{State}
use Rattle.ordup_objects.specs.Tables.{initial_state}
use Rattle.ordup_holds.proofs.OpeningLemmas.{has-spare, at-last}
use Rattle.ordup_holds.proofs.opening.add_spare_values.Goals as goal

pub loop-init : goal.loop-init
loop-init c = record {
  count = rw c.requires.none refl;
  initial = rw c.requires.none (λ k d lt. absurd (omega arith));
}

pub push_reserved-requires : goal.push_reserved-requires
push_reserved-requires c = has-spare _ _ c.in_ok-reserve.ensures.ok

pub loop-preserved : goal.loop-preserved
loop-preserved c =
    let before = c.loop.invariant in
    let items = rw c.reserve.ensures.items at c.push_reserved.ensures.items in
    record {
      count = rw items (length_push _ _ ∙ ap (λ (n : ℕ). n + 1) before.count);
      initial =
          rw items
          (All-push (λ (v : State). v ≡ initial_state c.args.setup.now.objects) c.loop.spare_values.items c.in_ok-initial.field-0 before.initial
          (c.in_ok-initial.ensures.initial ∙ ap initial_state c.objects.ensures));
    }

pub returns : goal.returns
returns c =
    let before = c.loop.invariant in
    record {
      count = before.count ∙ at-last _ _ _ c.loop-test.false c.loop.auto.counter-end c.sites-end.ensures.sites;
      values = before.initial;
      refused = tt;
    }
