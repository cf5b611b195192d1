use Rattle.std.proofs.Common.{ap, sym, ℕ, List, []}
use Rattle.std.proofs.lemmas.Option.{get_or_from_slice_get}
use Rattle.ordup_primary.proofs.setup.Setup.capacity.Goals as goal

pub returns : goal.returns
returns g c =
    let sites = c.self.inside.capacities in
    let fit = c.self.invariant.capacities c.args.site ([], 0) (rw (← c.self.view_is) at c.requires) in
    let read = get_or_from_slice_get sites c.args.site (c.at.result.0.now, c.at.result.1.now) ([], 0) (rw c.index.ensures at c.at.ensures.entry) in
    rw (← c.self.view_is) (record {
      capacity = sym (ap (λ (site : List ℕ × ℕ). site.1) read);
      some = rw read at fit.0;
      few = rw read at fit.1;
    })
