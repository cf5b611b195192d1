-- All entries hold from place 1, and none is on a scope without a limit.
-- So the entry of a new limit comes last, and the list of the last limits gains the limit.
use Rattle.std.proofs.Common.{arith, ap, sym, ◌≡◌, ◌<◌, ◌∙◌, length, false, true, refl}
use Rattle.std.proofs.lemmas.Bool.{le-leb}
use Rattle.ordup_limits.specs.declared.limit_entry.LimitEntry.{LimitEntry}
use Rattle.ordup_limits.specs.Entries.{are_one_entry, changed, has_few, latest, put}
use Rattle.ordup_limits.specs.Limits.{Limits, are_on_one_scope}
use Rattle.ordup_limits.specs.Sizes.{most_entries, most_limits}
use Rattle.ordup_limits.proofs.PutLemmas.{put-length}
use Rattle.ordup_limits.proofs.EntryLemmas.{has_scope, changed-new, latest-changed, latest-first, AreEntries-changed}
use Rattle.ordup_limits.proofs.limit_table.LimitTable.add.Goals as goal

pub put_entry-requires : goal.put_entry-requires
put_entry-requires g c = record { rising = c.self.invariant.entries.rising }

pub put-requires : goal.put-requires
put-requires g c =
    omega (
      arith,
      put-length are_on_one_scope c.self.inside.limits (record { scope = c.args.scope; amount = c.args.amount }),
      c.if-len-eq-MOST_LIMITS.false,
      c.len.ensures.len,
      c.len.ensures.few,
    )

pub invariant_of-self-2 : goal.invariant_of-self-2
invariant_of-self-2 g c =
    let e : LimitEntry = record { limit = record { scope = c.args.scope; amount = c.args.amount }; place = 1 } in
    let entries = c.self.inside.entries.items in
    let are = c.self.invariant.entries in
    let hold = rw (← c.self.view_is) at c.requires in
    let spare : length (latest entries) < most_limits =
    omega (
      arith,
      c.if-len-eq-MOST_LIMITS.false,
      c.len.ensures.len,
      c.len.ensures.few,
      ap (λ (ls : Limits). length ls) c.self.invariant.limits,
    ) in
    let more = latest-changed entries e are.distinct are.rising hold in
    let few : has_few (changed entries e) ≡ true =
    rw (
      le-leb (length (latest (changed entries e))) most_limits
          (omega (arith, ap (λ (ls : Limits). length ls) more, put-length are_on_one_scope (latest entries) e.limit)),
      le-leb (length (changed entries e)) most_entries
          (omega (arith, latest-first entries are hold, put-length are_one_entry entries e)),
    ) refl in
    let new = c.in_ok-put_entry.ensures.changed in
    record {
      entries = rw new (AreEntries-changed entries e are hold (omega arith) c.if-amount-gt-GREATEST_AMOUNT.false few);
      limits = c.put.ensures ∙ ap (λ ls. put are_on_one_scope ls e.limit) c.self.invariant.limits ∙ sym more ∙ ap latest (sym new);
    }

pub returns-clause-added : goal.returns-clause-added
returns-clause-added g c =
    let e : LimitEntry = record { limit = record { scope = c.args.scope; amount = c.args.amount }; place = 1 } in
    let entries = c.self.inside.entries.items in
    let none : has_scope c.args.scope (latest entries) ≡ false =
    rw (c.as_slice.ensures.limits, c.self.invariant.limits) at (sym c.if-has_scope.ensures) in
    rw (← c.self.view_is) (c.in_ok-put_entry.ensures.changed ∙ changed-new entries e none)

pub returns-clause-known : goal.returns-clause-known
returns-clause-known g c = c.in_ok-check_scope.ensures.known
