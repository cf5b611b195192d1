use Rattle.std.proofs.Common.{arith, ap, sym, ◌∙◌, ℕ, List, Vec}
use Rattle.std.specs.Prelude.{option_map}
use Rattle.ordup_log.proofs.GroupLemmas.{group-at, groups_of-length, members_at-is}
use Rattle.ordup_log.proofs.groups.Groups.members.Goals as goal

pub at-requires : goal.at-requires
at-requires g c = omega (arith, c.index.ensures, c.requires, groups_of-length c.self.inside.groups c.args.self.now c.self.view_is)

pub returns : goal.returns
returns g c =
    let held = c.self.inside.groups in
    let at = ap (option_map (λ (e : List ℕ × Vec ℕ g.row.A.Denot). e.1)) (rw c.index.ensures at c.at.ensures.entry) in
    record {
      members = rw (← c.self.view_is) (c.as_slice.ensures.value ∙ sym (members_at-is held c.args.group c.at.result.1.now at));
      group = rw c.as_slice.ensures.value (group-at held c.args.group c.at.result.1.now c.self.invariant.1 at);
    }
