-- The index of the first separator is where the first part ends. If it is the length of the text, there is only this part.
use Rattle.std.proofs.Common.{◌≡◌, length, length-take, arith}
use Rattle.std.specs.Prelude.{◌==◌}
use Rattle.ordup_grammar.proofs.Splits.{index_within, slice_split-index, slice_split-no_index}
use Rattle.ordup_grammar.proofs.prefix.Prefix.split_once.Goals as goal

pub returns-then-end-self : goal.returns-then-end-self
returns-then-end-self c =
    let long : length c.args.self.now ≡ c.self.inside.len =
    rw (← c.self.view_is) (omega (arith, c.self.invariant, length-take c.self.inside.len c.self.inside.text.now)) in
    slice_split-no_index (λ byte. byte == c.args.separator) c.args.self.now
    (omega (arith, long, c.index_of-end.ensures, c.if-end-self.true))

pub up_to-requires : goal.up_to-requires
up_to-requires c =
    omega (arith, index_within (λ byte. byte == c.args.separator) c.args.self.now, c.index_of-end.ensures)

pub returns : goal.returns
returns c =
    let long : length c.args.self.now ≡ c.self.inside.len =
    rw (← c.self.view_is) (omega (arith, c.self.invariant, length-take c.self.inside.len c.self.inside.text.now)) in
    let within = index_within (λ byte. byte == c.args.separator) c.args.self.now in
    rw (c.up_to.ensures, c.from.ensures)
    (slice_split-index (λ byte. byte == c.args.separator) c.args.self.now c.index_of-end.result c.index_of-end.ensures
    (omega (arith, long, within, c.index_of-end.ensures, c.if-end-self.false)))
