-- The query changes where it stands in the table. So its name finds the new one, and every other name finds what it found.
use Rattle.std.proofs.Common.{◌∙◌, ap, sym}
use Rattle.std.specs.Cmp.Lexicographic.{nat_list_eq_equiv}
use Rattle.std.proofs.lemmas.Option.{slice_get_within}
use Rattle.std.specs.Option.{option_copied_mut}
use Rattle.indexmap.proofs.CallerLemmas.{updates-with_value_at, index_map_len-with_value_at}
use Rattle.ordup_world.proofs.QueryLemmas.{read-back, open-with}
use Rattle.ordup_world.proofs.queries.OpenQueries.read_at.Goals as goal

pub unwrap-requires : goal.unwrap-requires
unwrap-requires g c =
    let i = c.in-Some.index in
    let at = c.in-Some.ensures.at in
    c.get_index_mut.ensures.found.1 (slice_get_within c.self.inside.entries.entries i (c.args.name.now, at.held)
    (rw c.self.view_is at.entry))

pub returns-in-Some : goal.returns-in-Some
returns-in-Some g c =
    let old = c.self.inside.entries in
    let i = c.in-Some.index in
    let held = open-with old.entries c.args.name.now i c.unwrap.result.now (rw c.self.view_is c.in-Some.ensures.at)
    (sym (ap option_copied_mut c.unwrap.ensures) ∙ c.get_index_mut.ensures.value) in
    let back = read-back old.entries i c.args.name.now c.args.sites.now c.args.object c.read.result c.unwrap.result.now c.read.new.self
    held.0 held.1
    (updates-with_value_at old i c.read.new.self nat_list_eq_equiv c.get_index_mut.ensures.unique c.args.name.now c.unwrap.result.now
    held.0).0
    (index_map_len-with_value_at old i c.read.new.self) c.read.ensures.ok c.read.ensures.query c.read.ensures.refused
    c.read.ensures.err in
    rw (← c.self.view_is) (record { ok = back.0; refused = back.1; err = back.2 })

pub read-requires-clause-site : goal.read-requires-clause-site
read-requires-clause-site g c =
    let held = open-with c.args.self.now c.args.name.now c.in-Some.index c.unwrap.result.now c.in-Some.ensures.at
    (rw (← c.self.view_is) (sym (ap option_copied_mut c.unwrap.ensures) ∙ c.get_index_mut.ensures.value)) in
    rw held.1 at c.requires.site

pub read-requires-clause-marked : goal.read-requires-clause-marked
read-requires-clause-marked g c =
    let held = open-with c.args.self.now c.args.name.now c.in-Some.index c.unwrap.result.now c.in-Some.ensures.at
    (rw (← c.self.view_is) (sym (ap option_copied_mut c.unwrap.ensures) ∙ c.get_index_mut.ensures.value)) in
    rw held.1 at c.requires.marked
