-- The limits so far are the last ones of the entries so far, all of which hold at the place.
-- Where an entry holds from later, all behind it do, so none of these is in force.
use Rattle.std.proofs.Common.{arith, ap, sym, ◌≤◌, ◌+◌, ◌∙◌, length, take, get_or}
use Rattle.std.proofs.lemmas.List.{take_all}
use Rattle.std.proofs.lemmas.List.Elements.{All-more}
use Rattle.ordup_limits.specs.declared.limit_entry.LimitEntry.{LimitEntry}
use Rattle.ordup_limits.specs.Entries.{latest, put}
use Rattle.ordup_limits.specs.Limits.{Limits, are_on_one_scope}
use Rattle.ordup_limits.proofs.EntryLemmas.{in_force-first, in_force-latest, later-drop, latest-more, latest-take}
use Rattle.ordup_limits.proofs.entries.in_force.Goals as goal

pub put-requires : goal.put-requires
put-requires c =
    let entries = c.args.entries.now in
    let i = c.loop-entry.entry-index in
    let more = latest-more entries i c.entry-item.result c.loop-entry-test.true in
    rw (c.loop-entry.invariant.limits, ap (λ (e : LimitEntry). e.limit) c.entry-item.is)
    (omega (arith, ap (λ (ls : Limits). length ls) more, latest-take entries (i + 1), c.requires.scopes))

pub returns-then-entry-place : goal.returns-then-entry-place
returns-then-entry-place c =
    let entries = c.args.entries.now in
    let i = c.loop-entry.entry-index in
    c.loop-entry.invariant.limits ∙ sym (in_force-first entries c.args.place i c.loop-entry.invariant.hold
    (later-drop entries c.args.place i c.entry-item.result c.requires.rising c.loop-entry-test.true c.entry-item.is c.if-entry-place.true))

pub loop-entry-preserved : goal.loop-entry-preserved
loop-entry-preserved c =
    let entries = c.args.entries.now in
    let i = c.loop-entry.entry-index in
    let before = c.loop-entry.invariant in
    let here : (get_or entries i c.entry-item.result).place ≤ c.args.place =
    omega (arith, c.if-entry-place.false, ap (λ (e : LimitEntry). e.place) c.entry-item.is) in
    record {
      hold = All-more (λ (e : LimitEntry). e.place ≤ c.args.place) entries i c.entry-item.result c.loop-entry-test.true before.hold here;
      limits = c.put.ensures ∙ ap (λ ls. put are_on_one_scope ls c.entry-item.result.limit) before.limits
          ∙ ap (λ (e : LimitEntry). put are_on_one_scope (latest (take i entries)) e.limit) c.entry-item.is
          ∙ sym (latest-more entries i c.entry-item.result c.loop-entry-test.true);
    }

pub returns : goal.returns
returns c =
    let entries = c.args.entries.now in
    let i = c.loop-entry.entry-index in
    let all = take_all i entries c.loop-entry-test.false in
    rw all at c.loop-entry.invariant.limits
    ∙ sym (in_force-latest entries c.args.place (rw all at c.loop-entry.invariant.hold))
