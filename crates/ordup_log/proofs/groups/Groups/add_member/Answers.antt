-- The list of members leaves the table while it grows, and then goes back.
-- So the table is the old one but for the added member; and where memory is refused, it is the old one.
use Rattle.std.proofs.Common.{arith, ◌∙◌, ◌≡◌, ◌-◌, sym, ap, refl, ℕ, List, Vec}
use Rattle.std.specs.Prelude.{option_map}
use Rattle.std.proofs.Math.ListN.{length-set}
use Rattle.std.proofs.lemmas.Result.{IfOk-from_err, err_from_is_err_and}
use Rattle.ordup_log.specs.Groups.{last_members}
use Rattle.ordup_log.proofs.GroupLemmas.{groups_of-some, taken-is, group-at, member-added, member-refused, are_groups-put, last_members-is}
use Rattle.ordup_log.proofs.groups.Groups.add_member.Goals as goal

pub at-requires : goal.at-requires
at-requires g c = omega (arith, groups_of-some c.self.inside.groups c.args.self.now c.self.view_is c.requires)

pub check_member-requires : goal.check_member-requires
check_member-requires g c =
    rw c.as_slice-members.ensures.value (group-at c.self.inside.groups (c.len-last.result - 1) c.at.result.1.now c.self.invariant.1
    (ap (option_map (λ (e : List ℕ × Vec ℕ g.row.A.Denot). e.1)) c.at.ensures.entry))

pub returns-in_err-check_member : goal.returns-in_err-check_member
returns-in_err-check_member g c =
    let last : last_members c.args.self.now ≡ c.as_slice-members.result.now =
    last_members-is c.self.inside.groups c.args.self.now (c.len-last.result - 1) c.at.result.0.now c.at.result.1.now c.self.view_is
    (ap (λ n. n - 1) c.len-last.ensures.len) c.at.ensures.entry ∙ sym c.as_slice-members.ensures.value in
    let failed = err_from_is_err_and c.from_residual.result c.from_residual.ensures.1 in
    record {
      known = IfOk-from_err _ _ c.from_residual.ensures.0;
      added = IfOk-from_err _ _ c.from_residual.ensures.0;
      allowed = IfOk-from_err _ _ c.from_residual.ensures.0;
      refused = rw (failed.1, failed.2, last, ← c.len.ensures.len, c.in_err-check_member.ensures.refused) refl;
      err = rw failed.1 refl;
    }

pub replace-members-requires : goal.replace-members-requires
replace-members-requires g c = omega (arith, groups_of-some c.self.inside.groups c.args.self.now c.self.view_is c.requires)

pub replace-requires : goal.replace-requires
replace-requires g c =
    rw (c.replace-members.ensures.replaced, length-set c.self.inside.groups)
    (omega (arith, groups_of-some c.self.inside.groups c.args.self.now c.self.view_is c.requires))

pub invariant_of-self : goal.invariant_of-self
invariant_of-self g c =
    let last = c.len-last.result - 1 in
    are_groups-put c.self.inside.groups c.replace-members.new.self c.replace.new.self last c.new.result c.push-added.new.self
    c.self.invariant c.replace-members.ensures.replaced c.replace.ensures.replaced
    (rw c.in_err-added.ensures.items
    (group-at c.self.inside.groups last c.replace-members.result c.self.invariant.1 c.replace-members.ensures.before))

pub returns-in_err-added : goal.returns-in_err-added
returns-in_err-added g c =
    let last : last_members c.args.self.now ≡ c.as_slice-members.result.now =
    last_members-is c.self.inside.groups c.args.self.now (c.len-last.result - 1) c.at.result.0.now c.at.result.1.now c.self.view_is
    (ap (λ n. n - 1) c.len-last.ensures.len) c.at.ensures.entry ∙ sym c.as_slice-members.ensures.value in
    let failed = err_from_is_err_and c.from_residual-in_err-added.result c.from_residual-in_err-added.ensures.1 in
    record {
      known = IfOk-from_err _ _ c.from_residual-in_err-added.ensures.0;
      added = IfOk-from_err _ _ c.from_residual-in_err-added.ensures.0;
      allowed = IfOk-from_err _ _ c.from_residual-in_err-added.ensures.0;
      refused = rw (failed.1, last, ← c.len.ensures.len, c.in_ok-check_member.ensures.allowed) failed.2;
      err = rw (failed.1, ← c.self.view_is) (member-refused c.self.inside.groups c.replace-members.new.self
          c.replace.new.self (c.len-last.result - 1) c.replace-members.result c.new.result c.push-added.new.self
          c.replace-members.ensures.before c.replace-members.ensures.replaced c.replace.ensures.replaced c.in_err-added.ensures.items);
    }

pub invariant_of-self-2 : goal.invariant_of-self-2
invariant_of-self-2 g c =
    let members = c.replace-members.result in
    let last = c.len-last.result - 1 in
    let same : members.items ≡ c.as_slice-members.result.now =
    taken-is c.self.inside.groups last c.at.result.0.now c.at.result.1.now members c.at.ensures.entry c.replace-members.ensures.before
    ∙ sym c.as_slice-members.ensures.value in
    are_groups-put c.self.inside.groups c.replace-members.new.self c.replace.new.self last c.new.result c.push-added.new.self
    c.self.invariant c.replace-members.ensures.replaced c.replace.ensures.replaced
    (rw (c.in_ok-added.ensures.items, same) c.in_ok-check_member.ensures.group)

pub returns : goal.returns
returns g c =
    let last : last_members c.args.self.now ≡ c.as_slice-members.result.now =
    last_members-is c.self.inside.groups c.args.self.now (c.len-last.result - 1) c.at.result.0.now c.at.result.1.now c.self.view_is
    (ap (λ n. n - 1) c.len-last.ensures.len) c.at.ensures.entry ∙ sym c.as_slice-members.ensures.value in
    record {
      known = rw (← c.len.ensures.len) c.in_ok-check_member.ensures.known;
      added = rw (← c.self.view_is) (member-added c.self.inside.groups c.replace-members.new.self c.replace.new.self
          (c.len-last.result - 1) c.replace-members.result c.new.result c.push-added.new.self c.args.member
          (ap (λ n. n - 1) c.len-last.ensures.len) c.replace-members.ensures.before c.replace-members.ensures.replaced
          c.replace.ensures.replaced c.in_ok-added.ensures.items);
      allowed = rw (last, ← c.len.ensures.len) c.in_ok-check_member.ensures.allowed;
      refused = tt;
      err = tt;
    }
