-- A site is pushed for each table, so it stands at the index of its table. Those before it stay as they were made.
use Rattle.std.proofs.Common.{arith, ap, [], ◌∷◌, length, inl, inr}
use Rattle.std.proofs.Math.ListN.{get_or-append}
use Rattle.std.proofs.lemmas.Bool.{cases_eq}
use Rattle.std.proofs.lemmas.List.{get_or_push, get_or_read, length_push}
use Rattle.ordup_limits.proofs.store_ledger.add_sites.Goals as goal

pub loop-table-init : goal.loop-table-init
loop-table-init g c = record { count = ap length c.requires.none; each = λ s d lt. absurd (omega (arith, lt)) }

pub new-requires : goal.new-requires
new-requires g c =
    let known = c.requires.known in
    let item = known.1.1 c.loop-table.table-index c.table-item.result c.loop-table-test.true in
    record { known = (known.0, (known.1.0, rw (← c.table-item.is) at item)) }

pub loop-table-preserved : goal.loop-table-preserved
loop-table-preserved g c =
    let before = c.loop-table.invariant in
    let sites = c.loop-table.sites.items in
    let site = c.in_ok-site.site in
    let index = c.loop-table.table-index in
    let limits = c.args.limits.now in
    let items = c.in_ok-push.ensures.items in
    let at = get_or_read limits index c.table-item.result c.loop-table-test.true c.table-item.is [] in
    record {
      count = omega (arith, ap length items, length_push sites site, before.count);
      each = λ s d lt. elim (cases_eq s index) [
        | inl here ↦ rw (here, items, get_or_push sites site d index before.count, ← at) c.in_ok-site.ensures.site
        | inr other ↦ rw (items, get_or-append sites (site ∷ []) d s (omega (arith, lt, other, before.count)))
            (before.each s d (omega (arith, lt, other)))
      ];
    }

pub returns-clause-count : goal.returns-clause-count
returns-clause-count g c =
    omega (arith, c.loop-table.invariant.count, c.loop-table-test.false, c.loop-table.auto.table-index-end)

pub returns-clause-sites : goal.returns-clause-sites
returns-clause-sites g c = λ s d lt. c.loop-table.invariant.each s d (omega (arith, lt, c.loop-table-test.false))
