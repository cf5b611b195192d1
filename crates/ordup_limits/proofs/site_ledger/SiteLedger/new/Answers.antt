-- The entries come in their order, so the amount of a later one on a scope replaces that of an earlier one.
-- After all of them each scope has the amount of its last limit, and nothing was reported.
use Rattle.std.proofs.Common.{ap, sym, ◌∙◌, ◌≡◌, ◌+◌, ◌<◌, ℕ, length, take, get_or}
use Rattle.std.proofs.Math.ListN.{length-set}
use Rattle.std.proofs.lemmas.List.{length-replicate, take_all}
use Rattle.ordup_limits.specs.declared.limit_entry.LimitEntry.{LimitEntry}
use Rattle.ordup_limits.specs.Entries.{latest, put}
use Rattle.ordup_limits.specs.Limits.{are_on_one_scope}
use Rattle.ordup_limits.specs.StoreLedgers.{most_scopes, SiteLedgerState}
use Rattle.ordup_limits.specs.Sizes.{greatest_amount}
use Rattle.ordup_limits.proofs.SiteLemmas.{HaveAmounts-none, HaveAmounts-put, latest-distinct, replicate-few}
use Rattle.ordup_limits.proofs.EntryLemmas.{latest-known, latest-more}
use Rattle.ordup_limits.proofs.site_ledger.SiteLedger.new.Goals as goal

pub invariant_of-site : goal.invariant_of-site
invariant_of-site g c = record {
  count = ap length c.in_ok-for_each_scope.ensures.numbers ∙ length-replicate {A = ℕ} most_scopes greatest_amount;
  few = λ i. rw c.in_ok-for_each_scope.ensures.numbers (replicate-few most_scopes i greatest_amount);
}

pub loop-entry-init : goal.loop-entry-init
loop-entry-init g c = record {
  place = c.in_ok-new.ensures.place;
  weights = c.in_ok-new.ensures.weights;
  count = ap length c.in_ok-for_each_scope.ensures.numbers ∙ length-replicate {A = ℕ} most_scopes greatest_amount;
  amounts = λ n objects known.
      rw c.in_ok-for_each_scope.ensures.numbers (HaveAmounts-none n c.args.groups.now objects c.keeps.ensures.few);
}

pub loop-entry-preserved : goal.loop-entry-preserved
loop-entry-preserved g c =
    let before = c.loop-entry.invariant in
    let groups = c.args.groups.now in
    let entries = c.args.limits.now in
    let i = c.loop-entry.entry-index in
    let entry = c.entry-item.result in
    let amounts = ap (λ (s : SiteLedgerState). s.amounts) c.put.ensures.put in
    let same = c.entries-entry-items.ensures in
    let lt : i < length entries = rw same at c.loop-entry-test.true in
    let is : entry ≡ get_or entries i entry = rw same at c.entry-item.is in
    let next : latest (take (i + 1) entries) ≡ put are_on_one_scope (latest (take i entries)) entry.limit =
    latest-more entries i entry lt
    ∙ ap (λ (e : LimitEntry). put are_on_one_scope (latest (take i entries)) e.limit) (sym is) in
    record {
      place = ap (λ (s : SiteLedgerState). s.reported.place) c.put.ensures.put ∙ before.place;
      weights = λ h gs. rw (ap (λ (s : SiteLedgerState). s.reported) c.put.ensures.put) (before.weights h gs);
      count = ap length amounts ∙ length-set c.loop-entry.site.amounts _ _ ∙ before.count;
      amounts = λ n objects known. rw (next, amounts)
          (HaveAmounts-put n groups (latest (take i entries)) entry.limit c.loop-entry.site.amounts objects c.keeps.ensures.few
          (rw (← is) at (known i entry lt)) before.count (before.amounts n objects known));
    }

pub returns-clause-site : goal.returns-clause-site
returns-clause-site g c =
    let before = c.loop-entry.invariant in
    let groups = c.args.groups.now in
    let entries = c.args.limits.now in
    let all = take_all c.loop-entry.entry-index entries (rw c.entries-entry-items.ensures at c.loop-entry-test.false) in
    record {
      place = before.place;
      weights = before.weights;
      limits = λ n objects known. record {
        known = latest-known n groups entries known;
        distinct = latest-distinct entries;
        amounts = rw all at (before.amounts n objects known);
      };
    }
