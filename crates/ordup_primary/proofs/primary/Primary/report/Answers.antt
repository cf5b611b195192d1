-- The site's bit is set among those that moved, so it may differ from what was last put down.
-- Its ledger begins at the new place, as its progress says.
use Rattle.std.proofs.Common.{arith, refl, ap, sym, ◌<◌, ◌^◌, ◌*◌, ◌%◌, ◌∙◌}
use Rattle.std.specs.Int.RustNames.{bit_or}
use Rattle.std.proofs.lemmas.Bool.{eq-eqb, ne_eqb, false≢true}
use Rattle.std.proofs.lemmas.Grind.{common_steps}
use Rattle.ordup_primary.specs.Primaries.{PrimaryState, first_progress, progress_at}
use Rattle.ordup_primary.specs.PrimaryInside.{state_of}
use Rattle.ordup_primary.proofs.PrimaryLemmas.{view-set, reported_as, IsPrimary-reported}
use Rattle.ordup_limits.proofs.MaskLemmas.{bit-set}
use Rattle.ordup_primary.proofs.KeptLemmas.{AreKept-set}
use Rattle.ordup_primary.proofs.LedgerLemmas.{HasLedger-reported}
use Rattle.ordup_primary.proofs.primary.Primary.report.Goals as goal

pub invariant_of-self : goal.invariant_of-self
invariant_of-self g c =
    let lt = rw (← c.self.view_is) at c.requires.site in
    let e = view-set c.self.inside c.index-2.result c.args.site c.index_mut.result.now
    (record c.index_mut.result.now { reported = c.args.place }) (reported_as c.args.place)
    c.index-2.ensures lt c.index_mut.ensures.value refl in
    record {
      primary =
          IsPrimary-reported c.self.inside _ c.args.site c.args.place c.self.invariant.primary lt
          (rw (← c.self.view_is) at c.requires.risen) (rw (← c.self.view_is) at c.requires.sent) e;
      ledger =
          (let made = c.reported-2.ensures in
          HasLedger-reported (state_of c.self.inside) c.self.inside.ledger c.reported-2.new.self c.args.site c.args.place
          (reported_as c.args.place (progress_at (state_of c.self.inside) c.args.site)) _ e c.self.invariant.ledger lt
          (rw c.groups.ensures.groups at made.stands) made.place made.count made.others made.reported made.amounts refl);
      kept =
          (let few : c.args.site < 64 = omega (arith, lt, c.self.invariant.primary.count, c.keeps.ensures.few) in
          AreKept-set c.self.inside (bit_or c.self.inside.moved (1 * 2 ^ c.index.result % 18446744073709551616)) c.index-2.result c.args.site
          c.index_mut.result.now (record c.index_mut.result.now { reported = c.args.place }) c.self.invariant.kept c.index-2.ensures lt
          c.index_mut.ensures.value refl
          (λ t other. bit-set c.self.inside.moved c.index.result t (omega (arith, few, c.index.ensures))
          ∙ rw (ne_eqb t c.index.result (λ e. other (e ∙ c.index.ensures))) refl)
          (λ none. absurd (false≢true (sym none ∙ bit-set c.self.inside.moved c.index.result c.args.site
          (omega (arith, few, c.index.ensures)) ∙ rw (eq-eqb c.args.site c.index.result (sym c.index.ensures)) refl))));
    }

pub returns-clause-noted : goal.returns-clause-noted
returns-clause-noted g c =
    let lt = rw (← c.self.view_is) at c.requires.site in
    let e = view-set c.self.inside c.index-2.result c.args.site c.index_mut.result.now
    (record c.index_mut.result.now { reported = c.args.place }) (reported_as c.args.place)
    c.index-2.ensures lt c.index_mut.ensures.value refl in
    rw (← c.self.view_is) (ap (λ sites. let p : PrimaryState = record (state_of c.self.inside) { sites = sites } in p) e)

pub index_mut-requires : goal.index_mut-requires
index_mut-requires g c = grind (arith, common_steps)

pub reported-requires-2-clause-last : goal.reported-requires-2-clause-last
reported-requires-2-clause-last g c =
    let lt = rw (← c.self.view_is) at c.requires.site in
    omega (arith, rw (← c.self.view_is) at c.requires.sent, (c.self.invariant.primary.sites c.args.site first_progress lt).sent)

pub reported-requires-2-clause-site : goal.reported-requires-2-clause-site
reported-requires-2-clause-site g c = omega (arith, rw (← c.self.view_is) at c.requires.site, c.self.invariant.ledger.count)

pub reported-requires-2-clause-forward : goal.reported-requires-2-clause-forward
reported-requires-2-clause-forward g c = λ d.
    omega (
      arith,
      c.self.invariant.ledger.reported c.args.site d (rw (← c.self.view_is) at c.requires.site),
      rw (← c.self.view_is) at c.requires.risen,
    )

pub reported-requires-2-clause-stands : goal.reported-requires-2-clause-stands
reported-requires-2-clause-stands g c = rw c.groups.ensures.groups c.self.invariant.ledger.stand
