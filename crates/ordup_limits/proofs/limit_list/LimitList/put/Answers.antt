-- The search finds the limit that the definition replaces.
-- Where it finds none, the definition puts the limit last too, and by what is required the list can take one more.
use Rattle.std.proofs.Common.{arith, ap, sym, length, ◌∙◌}
use Rattle.std.proofs.Math.ListN.{set}
use Rattle.std.proofs.lemmas.List.{length_push}
use Rattle.ordup_limits.specs.Limits.{Limits, are_on_one_scope}
use Rattle.ordup_limits.proofs.PutLemmas.{put-at, put-last, take-set}
use Rattle.ordup_limits.proofs.limit_list.LimitList.put.Goals as goal

pub push-requires : goal.push-requires
push-requires c =
    omega (
      arith,
      c.requires,
      ap length (put-last are_on_one_scope c.args.self.now c.args.limit.now c.in-None.ensures),
      length_push c.args.self.now c.args.limit.now,
    )

pub returns-in-Some : goal.returns-in-Some
returns-in-Some c =
    take-set c.self.inside.count c.self.inside.limits c.in-Some.index c.args.limit.now
    ∙ ap (λ (ls : Limits). set ls c.in-Some.index c.args.limit.now) c.self.view_is
    ∙ sym (put-at are_on_one_scope c.args.self.now c.args.limit.now c.in-Some.index c.in-Some.ensures)

pub returns-in-None : goal.returns-in-None
returns-in-None c = c.push.ensures ∙ sym (put-last are_on_one_scope c.args.self.now c.args.limit.now c.in-None.ensures)
