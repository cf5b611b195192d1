-- Up to the weight that is kept for the scope, no site is over a limit on it. Where the updates weigh more, the sites are
-- compared, which tells those that are over and the least that one of them is allowed. That weight is kept from then on.
use Rattle.std.proofs.Common.{arith, ap, refl, ◌∙◌, ◌≡◌, length, get_or, inl, inr}
use Rattle.std.proofs.Math.ListN.{length-set}
use Rattle.std.proofs.lemmas.Bool.{cases_eq}
use Rattle.std.proofs.lemmas.Grind.{get_or-set_at}
use Rattle.std.proofs.lemmas.List.{get_or_read, get_or-set_other}
use Rattle.ordup_limits.specs.Limits.{is_same_scope}
use Rattle.ordup_limits.specs.StoreLedgers.{allowed, scope_index}
use Rattle.ordup_limits.proofs.EntryLemmas.{same_scope}
use Rattle.ordup_limits.proofs.SiteLemmas.{scope_index-same, scope_index-small, AreOver-none, AreOver-scope}
use Rattle.ordup_limits.proofs.store_ledger.StoreLedger.over_on.Goals as goal

pub on-weight-requires : goal.on-weight-requires
on-weight-requires g c =
    let stands = rw (← c.self.view_is) at c.requires.stands in
    record {
      weights = stands.added;
      index = scope_index-small (length c.args.log.now.start) c.args.groups.now c.args.scope.now stands.objects c.keeps.ensures.few c.requires.known;
      known = c.requires.known;
    }

pub index-requires : goal.index-requires
index-requires g c =
    let stands = rw (← c.self.view_is) at c.requires.stands in
    let small = scope_index-small (length c.args.log.now.start) c.args.groups.now c.args.scope.now stands.objects c.keeps.ensures.few c.requires.known in
    omega (arith, c.scope_index-index.ensures, small, c.self.invariant.kept)

pub returns-then-weight-index : goal.returns-then-weight-index
returns-then-weight-index g c =
    let h = c.args.log.now in
    let groups = c.args.groups.now in
    let scope = c.args.scope.now in
    let kept = c.self.inside.kept.items in
    let stands = rw (← c.self.view_is) at c.requires.stands in
    let small = scope_index-small (length h.start) groups scope stands.objects c.keeps.ensures.few c.requires.known in
    let at : c.index.result.now ≡ get_or kept (scope_index scope) 0 =
    get_or_read kept c.scope_index-index.result c.index.result.now (omega (arith, c.scope_index-index.ensures, small, c.self.invariant.kept))
    c.index.ensures 0
    ∙ ap (λ i. get_or kept i 0) c.scope_index-index.ensures in
    rw (← c.self.view_is) (record {
      rest = refl;
      stands = stands;
      over = AreOver-none h groups c.self.inside.added.place c.self.inside.sites.items (is_same_scope scope)
          (λ s d t lt known same. (let e : scope ≡ t = same_scope scope t same in
          rw (← e) (omega (arith, c.on-weight.ensures.weight, c.if-weight-index.true, at, stands.kept s d scope lt c.requires.known))));
    })

pub compare-over-requires : goal.compare-over-requires
compare-over-requires g c = record { known = c.requires.known; stands = c.requires.stands }

pub index_mut-requires : goal.index_mut-requires
index_mut-requires g c =
    let stands = rw (← c.self.view_is) at c.requires.stands in
    let small = scope_index-small (length c.args.log.now.start) c.args.groups.now c.args.scope.now stands.objects c.keeps.ensures.few c.requires.known in
    omega (arith, c.scope_index-index.ensures, small, c.self.invariant.kept)

pub invariant_of-self : goal.invariant_of-self
invariant_of-self g c = record {
  few = c.self.invariant.few;
  kept = length-set c.self.inside.kept.items c.scope_index-index.result c.compare-over.result.1 ∙ c.self.invariant.kept;
}

pub returns : goal.returns
returns g c =
    let h = c.args.log.now in
    let groups = c.args.groups.now in
    let scope = c.args.scope.now in
    let sites = c.self.inside.sites.items in
    let kept = c.self.inside.kept.items in
    let index = c.scope_index-index.result in
    let least = c.compare-over.result.1 in
    let stands = rw (← c.self.view_is) at c.requires.stands in
    let below = rw (← c.self.view_is) at c.compare-over.ensures.over in
    let most = rw (← c.self.view_is) at c.compare-over.ensures.least in
    let small = scope_index-small (length h.start) groups scope stands.objects c.keeps.ensures.few c.requires.known in
    rw (← c.self.view_is) (record {
      rest = refl;
      stands = record {
        objects = stands.objects;
        masks = stands.masks;
        added = stands.added;
        sites = stands.sites;
        kept = λ s d t lt known. elim (cases_eq (scope_index t) index) [
          | inl here ↦ (let e : t ≡ scope =
              scope_index-same (length h.start) groups t scope stands.objects c.keeps.ensures.few known c.requires.known
              (here ∙ c.scope_index-index.ensures) in
              omega (
                arith,
                get_or-set_at kept index (scope_index t) least 0 here (omega (arith, c.scope_index-index.ensures, small, c.self.invariant.kept)),
                most s d lt,
                ap (allowed h groups (get_or sites s d)) e,
              ))
          | inr other ↦ omega (arith, get_or-set_other kept index (scope_index t) least 0 other, stands.kept s d t lt known)
        ];
      };
      over = AreOver-scope h groups c.self.inside.added.place sites scope c.compare-over.result.0 c.requires.known
          (rw c.on-weight.ensures.weight at below);
    })
