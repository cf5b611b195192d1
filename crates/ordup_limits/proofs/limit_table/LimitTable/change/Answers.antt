-- The tests promise an amount in range, and few enough entries and scopes with the change.
-- No entry holds from a later place, so the entries stay in their order, and the new limit is the last one on its scope.
use Rattle.std.proofs.Common.{◌≤◌, arith, ap, sym, ◌∙◌, length}
use Rattle.std.specs.Prelude.{nat_le}
use Rattle.std.proofs.lemmas.Bool.{and_parts, leb-true}
use Rattle.ordup_limits.specs.Entries.{are_one_entry, entry_of, changed, latest, put}
use Rattle.ordup_limits.specs.declared.limit_entry.LimitEntry.{LimitEntry}
use Rattle.ordup_limits.specs.Limits.{Limits, are_on_one_scope}
use Rattle.ordup_limits.specs.Sizes.{most_entries, most_limits}
use Rattle.ordup_limits.proofs.PutLemmas.{All-put}
use Rattle.ordup_limits.proofs.EntryLemmas.{change-allowed, latest-changed, AreEntries-changed}
use Rattle.ordup_limits.proofs.limit_table.LimitTable.change.Goals as goal

pub check_change-requires : goal.check_change-requires
check_change-requires g c = c.requires.last

pub put_entry-requires : goal.put_entry-requires
put_entry-requires g c = record { rising = c.self.invariant.entries.rising }

pub put-requires : goal.put-requires
put-requires g c =
    let e = entry_of c.args.scope c.args.amount c.args.place in
    let entries = c.self.inside.entries.items in
    let are = c.self.invariant.entries in
    let few = (change-allowed _ _ entries e (rw (← c.self.view_is) at c.in_ok-check_change.ensures.allowed)).1 in
    let spare = and_parts (nat_le (length (latest (changed entries e))) most_limits) (nat_le (length (changed entries e)) most_entries) few in
    rw c.self.invariant.limits (omega (
      arith,
      leb-true (length (latest (changed entries e))) most_limits spare.0,
      ap (λ (ls : Limits). length ls) (latest-changed entries e are.distinct are.rising (rw (← c.self.view_is) at c.requires.last)),
    ))

pub invariant_of-self-2 : goal.invariant_of-self-2
invariant_of-self-2 g c =
    let e = entry_of c.args.scope c.args.amount c.args.place in
    let entries = c.self.inside.entries.items in
    let are = c.self.invariant.entries in
    let hold = rw (← c.self.view_is) at c.requires.last in
    let may = change-allowed _ _ entries e (rw (← c.self.view_is) at c.in_ok-check_change.ensures.allowed) in
    let new = c.in_ok-put_entry.ensures.changed in
    record {
      entries = rw new (AreEntries-changed entries e are hold c.requires.begun may.0 may.1);
      limits = c.put.ensures ∙ ap (λ ls. put are_on_one_scope ls e.limit) c.self.invariant.limits
          ∙ sym (latest-changed entries e are.distinct are.rising hold) ∙ ap latest (sym new);
    }

pub returns-clause-last : goal.returns-clause-last
returns-clause-last g c =
    rw c.in_ok-put_entry.ensures.changed (All-put (λ (e : LimitEntry). e.place ≤ c.args.place) are_one_entry c.self.inside.entries.items
    (entry_of c.args.scope c.args.amount c.args.place) (rw (← c.self.view_is) at c.requires.last) (omega arith))

pub returns-clause-known : goal.returns-clause-known
returns-clause-known g c = c.in_ok-check_change.ensures.known

pub returns-clause-changed : goal.returns-clause-changed
returns-clause-changed g c = rw (← c.self.view_is) c.in_ok-put_entry.ensures.changed

pub returns-clause-allowed : goal.returns-clause-allowed
returns-clause-allowed g c = c.in_ok-check_change.ensures.allowed
