use Rattle.std.proofs.Common.{◌≡◌, ◌+◌, ◌-◌, length, take, drop, arith}
use Rattle.std.proofs.lemmas.List.{length-drop, take_all}
use Rattle.ordup_grammar.proofs.Splits.{index_within, slice_split-index, slice_split-no_index}
use Rattle.ordup_entries.specs.Parts.{is_line_feed}
use Rattle.ordup_entries.proofs.text.Text.line_and_rest.Goals as goal

pub returns-then-end-self-clause-parts : goal.returns-then-end-self-clause-parts
returns-then-end-self-clause-parts c =
    rw (← c.self.view_is)
    (slice_split-no_index is_line_feed c.self.inside.bytes.now (omega (arith, c.index_of-end.ensures, c.if-end-self.true)))

pub returns-clause-parts : goal.returns-clause-parts
returns-clause-parts c =
    let bytes = c.self.inside.bytes.now in
    let end = c.index_of-end.result in
    let within = index_within is_line_feed bytes in
    let rest : take (length bytes - (end + 1)) (drop (end + 1) bytes) ≡ drop (end + 1) bytes = take_all _ _ (rw length-drop (omega arith)) in
    rw (← c.self.view_is, c.new.ensures, c.new-2.ensures, rest)
    (slice_split-index is_line_feed bytes end c.index_of-end.ensures (omega (arith, within, c.index_of-end.ensures, c.if-end-self.false)))
