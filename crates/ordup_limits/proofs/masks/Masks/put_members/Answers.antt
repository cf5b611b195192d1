-- The objects whose masks have gained the bit are the members before the index, and each step adds the next member to them.
use Rattle.std.proofs.lemmas.List.{take_all}
use Rattle.std.proofs.Common.{◌==◌, refl}
use Rattle.ordup_limits.specs.Masks.{has_bit}
use Rattle.ordup_limits.proofs.MaskLemmas.{members-more}
use Rattle.ordup_limits.proofs.masks.Masks.put_members.Goals as goal

pub loop-member-init : goal.loop-member-init
loop-member-init g c = λ x i below few. refl

pub put-requires : goal.put-requires
put-requires g c = c.requires

pub loop-member-preserved : goal.loop-member-preserved
loop-member-preserved g c = λ x i below few.
    members-more c.args.members.now c.loop-member.member-index c.member-item.result x (i == c.args.limit)
    (has_bit c.loop-member.self i x) _ _ c.loop-member-test.true c.member-item.is
    (c.put.ensures x i below few) (c.loop-member.invariant x i below few)

pub returns : goal.returns
returns g c =
    rw (take_all c.loop-member.member-index c.args.members.now c.loop-member-test.false) at c.loop-member.invariant
