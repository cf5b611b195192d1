-- The ledgers, which go up to the head, have a bit for each site that it takes past a limit.
-- A site that is neither forced nor moved would get nothing from the decision, so it need not be looked at.
use Rattle.std.proofs.Common.{arith, ap, refl, sym, ◌∙◌, length, map, ◌==◌}
use Rattle.std.proofs.lemmas.List.{length-map}
use Rattle.std.proofs.lemmas.Result.{err_from_is_err_and}
use Rattle.ordup_primary.specs.PrimaryInside.{kept_of, state_of}
use Rattle.ordup_primary.proofs.PrimaryLemmas.{IsPrimary-decided, reports-few, acked-none, acked-some}
use Rattle.ordup_primary.proofs.PrimaryLemmas.{acked_or_round-none, acked_or_round-some}
use Rattle.ordup_primary.proofs.KeptLemmas.{AreKept-at, Decides-at, forced-listed, kept-others, mask-there}
use Rattle.ordup_primary.proofs.LedgerLemmas.{HasLedger-decided, HasLedger-extended, forced-by_ledger}
use Rattle.ordup_primary.proofs.primary.Primary.decide.Goals as goal

pub invariant_of-self : goal.invariant_of-self
invariant_of-self g c =
    let before = c.self.invariant in
    let ledger =
    HasLedger-extended (state_of c.self.inside) c.self.inside.ledger c.extend-over.new.self c.args.head c.self.invariant.ledger
    c.self.invariant.primary.next (rw (← c.self.view_is) at c.requires.head) c.extend-over.ensures.place c.extend-over.ensures.sites
    (rw c.groups.ensures.groups at c.extend-over.ensures.stands) in
    let same = c.in_err-reserve_decision.ensures.same in
    record {
      primary = rw same before.primary;
      ledger = rw same ledger;
      kept = rw same before.kept;
    }

pub invariant_of-self-then-is_empty : goal.invariant_of-self-then-is_empty
invariant_of-self-then-is_empty g c =
    let ledger =
    HasLedger-extended (state_of c.self.inside) c.self.inside.ledger c.extend-over.new.self c.args.head c.self.invariant.ledger
    c.self.invariant.primary.next (rw (← c.self.view_is) at c.requires.head) c.extend-over.ensures.place c.extend-over.ensures.sites
    (rw c.groups.ensures.groups at c.extend-over.ensures.stands) in
    let bits =
    forced-by_ledger (state_of c.self.inside) c.self.inside.ledger c.args.head c.extend-over.result c.self.invariant.primary
    c.self.invariant.ledger (rw (← c.self.view_is) at c.requires.head) (rw c.groups.ensures.groups at c.extend-over.ensures.over) in
    let forced = c.as_slice.ensures ∙ c.sites_among-forced.ensures
    ∙ forced-listed (state_of c.self.inside) c.extend-over.result c.sites.result (c.sites.ensures.sites ∙ sym c.self.invariant.primary.count) bits in
    let here = rw (← c.self.view_is) at c.requires.head in
    let first = rw (← c.self.view_is) at c.requires.first in
    let same = c.in_ok-reserve_decision.ensures.same in
    let decides =
    Decides-at c.self.inside c.reserve_decision.new.sites.items c.put_down.new.sites.items c.extend-over.result c.args.head c.args.head
    c.as_slice.result.now c.self.invariant.kept same c.put_down.ensures.count c.put_down.ensures.sites first here bits forced
    (acked-none c.self.inside.acked c.args.head c.as_slice.result.now c.if-is_empty.ensures here) in
    record {
      primary =
          IsPrimary-decided (state_of c.self.inside) _ c.self.invariant.primary first (omega (arith, here, rw (← c.self.view_is) at c.requires.some))
          decides;
      ledger = HasLedger-decided (state_of c.self.inside) _ c.extend-over.new.self ledger (c.extend-over.ensures.place ∙ here)
          (omega (arith, here)) decides;
      kept = AreKept-at c.self.inside c.reserve_decision.new.sites.items c.put_down.new.sites.items c.extend-over.result c.args.head
          c.self.invariant.kept same c.put_down.ensures.count c.put_down.ensures.sites first here;
    }

pub returns-then-is_empty-clause-decides : goal.returns-then-is_empty-clause-decides
returns-then-is_empty-clause-decides g c =
    let bits =
    forced-by_ledger (state_of c.self.inside) c.self.inside.ledger c.args.head c.extend-over.result c.self.invariant.primary
    c.self.invariant.ledger (rw (← c.self.view_is) at c.requires.head) (rw c.groups.ensures.groups at c.extend-over.ensures.over) in
    let forced = c.as_slice.ensures ∙ c.sites_among-forced.ensures
    ∙ forced-listed (state_of c.self.inside) c.extend-over.result c.sites.result (c.sites.ensures.sites ∙ sym c.self.invariant.primary.count) bits in
    let here = rw (← c.self.view_is) at c.requires.head in
    rw (← c.self.view_is) (Decides-at c.self.inside c.reserve_decision.new.sites.items c.put_down.new.sites.items c.extend-over.result c.args.head
    c.args.head c.as_slice.result.now c.self.invariant.kept c.in_ok-reserve_decision.ensures.same c.put_down.ensures.count
    c.put_down.ensures.sites (rw (← c.self.view_is) at c.requires.first) here bits forced
    (acked-none c.self.inside.acked c.args.head c.as_slice.result.now c.if-is_empty.ensures here))

pub invariant_of-self-else-is_empty : goal.invariant_of-self-else-is_empty
invariant_of-self-else-is_empty g c =
    let ledger =
    HasLedger-extended (state_of c.self.inside) c.self.inside.ledger c.extend-over.new.self c.args.head c.self.invariant.ledger
    c.self.invariant.primary.next (rw (← c.self.view_is) at c.requires.head) c.extend-over.ensures.place c.extend-over.ensures.sites
    (rw c.groups.ensures.groups at c.extend-over.ensures.stands) in
    let bits =
    forced-by_ledger (state_of c.self.inside) c.self.inside.ledger c.args.head c.extend-over.result c.self.invariant.primary
    c.self.invariant.ledger (rw (← c.self.view_is) at c.requires.head) (rw c.groups.ensures.groups at c.extend-over.ensures.over) in
    let forced = c.as_slice.ensures ∙ c.sites_among-forced.ensures
    ∙ forced-listed (state_of c.self.inside) c.extend-over.result c.sites.result (c.sites.ensures.sites ∙ sym c.self.invariant.primary.count) bits in
    let here = rw (← c.self.view_is) at c.requires.head in
    let first = rw (← c.self.view_is) at c.requires.first in
    let same = c.in_ok-reserve_decision.ensures.same in
    let decides =
    Decides-at c.self.inside c.reserve_decision.new.sites.items c.put_down.new.sites.items c.extend-over.result c.self.inside.acked
    c.args.head c.as_slice.result.now c.self.invariant.kept same c.put_down.ensures.count c.put_down.ensures.sites first here bits forced
    (acked-some c.self.inside.acked c.as_slice.result.now c.if-is_empty.ensures) in
    record {
      primary =
          IsPrimary-decided (state_of c.self.inside) _ c.self.invariant.primary first (omega (arith, here, rw (← c.self.view_is) at c.requires.some))
          decides;
      ledger = HasLedger-decided (state_of c.self.inside) _ c.extend-over.new.self ledger (c.extend-over.ensures.place ∙ here)
          (omega (arith, here)) decides;
      kept = AreKept-at c.self.inside c.reserve_decision.new.sites.items c.put_down.new.sites.items c.extend-over.result c.args.head
          c.self.invariant.kept same c.put_down.ensures.count c.put_down.ensures.sites first here;
    }

pub returns-clause-decides : goal.returns-clause-decides
returns-clause-decides g c =
    let bits =
    forced-by_ledger (state_of c.self.inside) c.self.inside.ledger c.args.head c.extend-over.result c.self.invariant.primary
    c.self.invariant.ledger (rw (← c.self.view_is) at c.requires.head) (rw c.groups.ensures.groups at c.extend-over.ensures.over) in
    let forced = c.as_slice.ensures ∙ c.sites_among-forced.ensures
    ∙ forced-listed (state_of c.self.inside) c.extend-over.result c.sites.result (c.sites.ensures.sites ∙ sym c.self.invariant.primary.count) bits in
    rw (← c.self.view_is) (Decides-at c.self.inside c.reserve_decision.new.sites.items c.put_down.new.sites.items c.extend-over.result
    c.self.inside.acked c.args.head c.as_slice.result.now c.self.invariant.kept c.in_ok-reserve_decision.ensures.same
    c.put_down.ensures.count c.put_down.ensures.sites (rw (← c.self.view_is) at c.requires.first) (rw (← c.self.view_is) at c.requires.head) bits forced
    (acked-some c.self.inside.acked c.as_slice.result.now c.if-is_empty.ensures))

pub reserve_decision-requires : goal.reserve_decision-requires
reserve_decision-requires g c =
    let items = c.self.inside.sites.items in
    mask-there items (map kept_of items) c.self.inside.decided c.self.inside.moved c.extend-over.result (length (state_of c.self.inside).sites)
    refl c.self.invariant.kept (length-map _ _) (λ s bit. omega (arith, c.extend-over.ensures.there s bit, c.self.invariant.ledger.count))

pub put_down-requires-clause-there : goal.put_down-requires-clause-there
put_down-requires-clause-there g c =
    let items = c.self.inside.sites.items in
    mask-there c.reserve_decision.new.sites.items (map kept_of items) c.self.inside.decided c.self.inside.moved c.extend-over.result
    (length (state_of c.self.inside).sites) c.in_ok-reserve_decision.ensures.same c.self.invariant.kept (length-map _ _)
    (λ s bit. omega (arith, c.extend-over.ensures.there s bit, c.self.invariant.ledger.count))

pub put_down-requires-clause-others : goal.put_down-requires-clause-others
put_down-requires-clause-others g c =
    kept-others c.reserve_decision.new.sites.items (map kept_of c.self.inside.sites.items) c.self.inside.decided c.self.inside.moved
    c.extend-over.result c.args.head c.in_ok-reserve_decision.ensures.same c.self.invariant.kept

pub put_down-requires-clause-reported : goal.put_down-requires-clause-reported
put_down-requires-clause-reported g c =
    reports-few c.self.inside c.reserve_decision.new.sites.items c.self.invariant.primary c.in_ok-reserve_decision.ensures.same

pub put_down-requires-clause-few : goal.put_down-requires-clause-few
put_down-requires-clause-few g c =
    omega (arith, rw (← c.self.view_is) at c.requires.some, c.self.invariant.primary.few)

pub put_down-requires-clause-spare : goal.put_down-requires-clause-spare
put_down-requires-clause-spare g c = c.in_ok-reserve_decision.ensures.spare

pub returns-then-is_empty-clause-answer : goal.returns-then-is_empty-clause-answer
returns-then-is_empty-clause-answer g c =
    let bits =
    forced-by_ledger (state_of c.self.inside) c.self.inside.ledger c.args.head c.extend-over.result c.self.invariant.primary
    c.self.invariant.ledger (rw (← c.self.view_is) at c.requires.head) (rw c.groups.ensures.groups at c.extend-over.ensures.over) in
    let forced = c.as_slice.ensures ∙ c.sites_among-forced.ensures
    ∙ forced-listed (state_of c.self.inside) c.extend-over.result c.sites.result (c.sites.ensures.sites ∙ sym c.self.invariant.primary.count) bits in
    rw (← c.self.view_is, ← forced, ← rw (← c.self.view_is) at c.requires.head) (acked_or_round-none c.args.head c.as_slice.result.now c.if-is_empty.ensures)

pub returns-clause-answer : goal.returns-clause-answer
returns-clause-answer g c =
    let bits =
    forced-by_ledger (state_of c.self.inside) c.self.inside.ledger c.args.head c.extend-over.result c.self.invariant.primary
    c.self.invariant.ledger (rw (← c.self.view_is) at c.requires.head) (rw c.groups.ensures.groups at c.extend-over.ensures.over) in
    let forced = c.sites_among-forced.ensures
    ∙ forced-listed (state_of c.self.inside) c.extend-over.result c.sites.result (c.sites.ensures.sites ∙ sym c.self.invariant.primary.count) bits in
    rw (← c.self.view_is, ← forced, ← rw (← c.self.view_is) at c.requires.head) (acked_or_round-some c.args.head c.sites_among-forced.result
    (c.if-is_empty.ensures ∙ ap (λ xs. length xs == 0) c.as_slice.ensures))

pub extend-over-requires : goal.extend-over-requires
extend-over-requires g c =
    let head = rw (← c.self.view_is) at c.requires.head in
    record {
      some = omega (arith, head);
      forward = omega (arith, c.self.invariant.ledger.added, head);
      last = rw (← c.self.view_is) at c.requires.some;
      stands = rw c.groups.ensures.groups c.self.invariant.ledger.stand;
    }

pub sites_among-forced-requires : goal.sites_among-forced-requires
sites_among-forced-requires g c = omega (arith, c.sites.ensures.sites, c.sites.ensures.few)

pub returns-in_err-reserve_decision-clause-refused : goal.returns-in_err-reserve_decision-clause-refused
returns-in_err-reserve_decision-clause-refused g c =
    let failed = err_from_is_err_and c.from_residual.result c.from_residual.ensures.1 in
    rw (failed.1, failed.2) c.in_err-reserve_decision.ensures.refused

pub returns-in_err-reserve_decision-clause-err : goal.returns-in_err-reserve_decision-clause-err
returns-in_err-reserve_decision-clause-err g c =
    let failed = err_from_is_err_and c.from_residual.result c.from_residual.ensures.1 in
    rw (failed.1, c.in_err-reserve_decision.ensures.same) (c.self.view_is)
