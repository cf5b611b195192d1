-- What the test of a group allows is what the table asks: a free name, few enough groups, and members that are distinct and known.
-- So each way out leaves the groups as they were, or one more.
use Rattle.std.proofs.Common.{◌∙◌, refl, sym}
use Rattle.std.proofs.lemmas.Result.{IfOk-from_err, err_from_is_err_and}
use Rattle.ordup_log.proofs.GroupLemmas.{index_of-view, group_allowed, groups_of-few, groups_of-push, are_groups-push}
use Rattle.ordup_log.proofs.groups.Groups.declare.Goals as goal

pub returns-in_err-name : goal.returns-in_err-name
returns-in_err-name g c =
    let failed = err_from_is_err_and c.from_residual.result c.from_residual.ensures.1 in
    record {
      group = IfOk-from_err _ _ c.from_residual.ensures.0;
      known = IfOk-from_err _ _ c.from_residual.ensures.0;
      declared = IfOk-from_err _ _ c.from_residual.ensures.0;
      allowed = IfOk-from_err _ _ c.from_residual.ensures.0;
      refused = rw (failed.1, failed.2, ← c.len.ensures.len, c.in_err-name.ensures.refused) refl;
      err = rw failed.1 refl;
    }

pub returns-in_err-members : goal.returns-in_err-members
returns-in_err-members g c =
    let failed = err_from_is_err_and c.from_residual-in_err-members.result c.from_residual-in_err-members.ensures.1 in
    record {
      group = IfOk-from_err _ _ c.from_residual-in_err-members.ensures.0;
      known = IfOk-from_err _ _ c.from_residual-in_err-members.ensures.0;
      declared = IfOk-from_err _ _ c.from_residual-in_err-members.ensures.0;
      allowed = IfOk-from_err _ _ c.from_residual-in_err-members.ensures.0;
      refused = rw (failed.1, ← c.len.ensures.len, c.in_ok-name.ensures.allowed) failed.2;
      err = rw failed.1 refl;
    }

pub push-requires : goal.push-requires
push-requires g c =
    let e = index_of-view (λ v. v.items) c.args.name.now c.self.inside.groups c.args.self.now c.self.view_is in
    let may = group_allowed c.len.result c.args.self.now c.args.name.now c.args.members.now
    (groups_of-few c.self.inside.groups c.args.self.now c.self.view_is c.self.invariant.0) c.in_ok-name.ensures.allowed in
    rw c.in_ok-name.ensures.name (sym e ∙ may.free)

pub invariant_of-self : goal.invariant_of-self
invariant_of-self g c = rw c.in_err-push.ensures.err c.self.invariant

pub returns-in_err-push : goal.returns-in_err-push
returns-in_err-push g c =
    let failed = err_from_is_err_and c.from_residual-in_err-push.result c.from_residual-in_err-push.ensures.1 in
    record {
      group = IfOk-from_err _ _ c.from_residual-in_err-push.ensures.0;
      known = IfOk-from_err _ _ c.from_residual-in_err-push.ensures.0;
      declared = IfOk-from_err _ _ c.from_residual-in_err-push.ensures.0;
      allowed = IfOk-from_err _ _ c.from_residual-in_err-push.ensures.0;
      refused = rw (failed.1, ← c.len.ensures.len, c.in_ok-name.ensures.allowed) failed.2;
      err = rw (failed.1, c.in_err-push.ensures.err) c.self.view_is;
    }

pub invariant_of-self-2 : goal.invariant_of-self-2
invariant_of-self-2 g c =
    let may = group_allowed c.len.result c.args.self.now c.args.name.now c.args.members.now
    (groups_of-few c.self.inside.groups c.args.self.now c.self.view_is c.self.invariant.0) c.in_ok-name.ensures.allowed in
    are_groups-push c.self.inside.groups c.push.new.self c.args.self.now c.in_ok-name.name c.in_ok-members.members c.self.invariant
    c.self.view_is may.spare (rw c.in_ok-members.ensures.items may.group) c.in_ok-push.ensures.ok

pub returns : goal.returns
returns g c = record {
  group = c.new.ensures ∙ c.len-index.ensures.len;
  known =
      let may = group_allowed c.len.result c.args.self.now c.args.name.now c.args.members.now
      (groups_of-few c.self.inside.groups c.args.self.now c.self.view_is c.self.invariant.0) c.in_ok-name.ensures.allowed in
      rw (← c.len.ensures.len) may.known;
  declared = groups_of-push c.self.inside.groups c.push.new.self c.args.self.now c.in_ok-name.name c.args.name.now
      c.in_ok-members.members c.args.members.now c.self.view_is c.in_ok-push.ensures.ok c.in_ok-name.ensures.name
      c.in_ok-members.ensures.items;
  allowed = rw (← c.len.ensures.len) c.in_ok-name.ensures.allowed;
  refused = tt;
  err = tt;
}
