-- A group has the same index in the table as in the list that contracts see, which has another form of the members alone.
use Rattle.std.proofs.Common.{arith, Some, ap, sym, ◌∙◌}
use Rattle.ordup_log.proofs.GroupLemmas.{index_of-view, groups_of-length}
use Rattle.ordup_log.proofs.groups.Groups.find.Goals as goal

pub returns-in_err-index : goal.returns-in_err-index
returns-in_err-index g c =
    let e = index_of-view (λ v. v.items) c.args.name.now c.self.inside.groups c.args.self.now c.self.view_is in
    record {
      index = rw c.from_residual.ensures (sym c.in_err-index.was ∙ c.find.ensures.index ∙ sym e);
      within = rw c.from_residual.ensures tt;
    }

pub overflow_cast-index : goal.overflow_cast-index
overflow_cast-index g c = omega (arith, c.in_ok-index.ensures.within, c.self.invariant.0)

pub returns : goal.returns
returns g c =
    let e = index_of-view (λ v. v.items) c.args.name.now c.self.inside.groups c.args.self.now c.self.view_is in
    record {
      index = ap Some c.new.ensures ∙ sym c.in_ok-index.was ∙ c.find.ensures.index ∙ sym e;
      within =
          omega (arith, c.new.ensures, c.in_ok-index.ensures.within, groups_of-length c.self.inside.groups c.args.self.now c.self.view_is);
    }
