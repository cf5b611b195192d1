-- A site before the index has its bit where the weight is more than it is allowed, and none of these is allowed less than
-- the least so far. Each step decides one bit more. A mask has a bit for each site that there may be.
use Rattle.std.proofs.Common.{arith, ap, sym, ◌∙◌, ◌≡◌, ◌<◌, get_or, inl, inr, length}
use Rattle.std.specs.Int.{bit_at}
use Rattle.std.specs.Prelude.{nat_lt}
use Rattle.std.proofs.lemmas.Bool.{cases_eq, cases_lt, eq-eqb, eqb-true, ne_eqb}
use Rattle.std.proofs.lemmas.Nat.Bits.{bit_at_above}
use Rattle.std.proofs.lemmas.List.{get_or_read}
use Rattle.ordup_limits.specs.StoreLedgers.{allowed, SiteLedgerState}
use Rattle.ordup_limits.proofs.SiteLemmas.{scope_index-small}
use Rattle.ordup_limits.proofs.store_ledger.StoreLedger.compare.Goals as goal

pub allowed-allowed-requires : goal.allowed-allowed-requires
allowed-allowed-requires g c =
    let stands = rw (← c.self.view_is) at c.requires.stands in
    let sites = c.self.inside.sites.items in
    let lt : c.loop-index.index < length sites = rw c.deref-site-items.ensures.value at c.loop-index-test.true in
    let is : c.site-item.result ≡ get_or sites c.loop-index.index c.site-item.result = rw c.deref-site-items.ensures.value at c.site-item.is in
    record {
      weights = rw (← is) at (stands.sites c.loop-index.index c.site-item.result lt);
      index = scope_index-small (length c.args.log.now.start) c.args.groups.now c.args.scope stands.objects c.keeps.ensures.few
          c.requires.known;
      known = c.requires.known;
    }

pub loop-index-preserved : goal.loop-index-preserved
loop-index-preserved g c =
    let before = c.loop-index.invariant in
    let index = c.loop-index.index in
    let sites = c.deref-site-items.result.now in
    let at : (d : SiteLedgerState) → c.site-item.result ≡ get_or sites index d =
    λ d. get_or_read sites index c.site-item.result c.loop-index-test.true c.site-item.is d in
    record {
      over = λ s d lt. c.with_bit-over.ensures s (omega (arith, lt, rw c.deref-site-items.ensures.value at c.loop-index-test.true, c.self.invariant.few)) ∙ elim (cases_eq s index) [
        | inl here ↦ rw (eq-eqb s index here) (ap (λ n. nat_lt n c.args.weight) (c.allowed-allowed.ensures
            ∙ ap (λ (site : SiteLedgerState). allowed c.args.log.now c.args.groups.now site c.args.scope)
            (at d ∙ ap (λ k. get_or sites k d) (sym here))))
        | inr other ↦ rw (ne_eqb s index other) (before.over s d (omega (arith, lt, other)))
      ];
      there = λ s set. elim (cases_lt s 64) [
        | inl few ↦ elim (cases_eq s index) [
          | inl here ↦ omega (arith, here)
          | inr other ↦ omega (arith, before.there s (sym (rw (ne_eqb s index other) at (c.with_bit-over.ensures s few)) ∙ set))
        ]
        | inr past ↦ absurd (omega (
          arith,
          eqb-true (bit_at c.with_bit-over.result s) 1 set,
          bit_at_above c.with_bit-over.result 64 s (omega (arith, c.with_bit-over.type_inv)) past,
        ))
      ];
      least = λ s d lt. elim (cases_eq s index) [
        | inl here ↦ rw (here, ← at d) (omega (arith, c.min-least.ensures, c.allowed-allowed.ensures))
        | inr other ↦ omega (arith, c.min-least.ensures, before.least s d (omega (arith, lt, other)))
      ];
    }

pub returns : goal.returns
returns g c =
    let same = c.deref-site-items.ensures.value in
    let after = rw same at c.loop-index.invariant in
    let end = rw same at c.loop-index-test.false in
    rw (← c.self.view_is) (record {
      over = record {
        each = λ s d lt. after.over s d (omega (arith, lt, end));
        there = λ s set. omega (arith, after.there s set, rw same at c.loop-index.auto.index-end);
      };
      least = λ s d lt. after.least s d (omega (arith, lt, end));
    })
