use Rattle.std.proofs.Common.{rules, ◌∙◌, take, ap}
use Rattle.ordup_log.proofs.GroupLemmas.{groups_of, index_of-same, groups_of-next}
use Rattle.ordup_log.proofs.groups.copy_all.Goals as goal

pub push-requires : goal.push-requires
push-requires g c =
    index_of-same c.at.result.0.now c.loop-index.copy (take c.loop-index.index c.args.groups.now) c.loop-index.invariant
    ∙ c.at.ensures.first

pub loop-index-preserved : goal.loop-index-preserved
loop-index-preserved g c =
    ap groups_of (search rules)
    ∙ groups_of-next c.loop-index.copy c.args.groups.now c.loop-index.index c.at.result.0.now c.in_ok-members.members c.at.result.1.now
    c.loop-index.invariant c.at.ensures.entry (c.in_ok-members.ensures.items ∙ c.as_slice.ensures.value)
