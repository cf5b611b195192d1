-- All bytes of the array go behind the text, and a shorter length then drops the last ones.
use Rattle.std.proofs.Common.{arith, ap, ◌∙◌, length, length-append}
use Rattle.std.proofs.lemmas.List.{length-take-le}
use Rattle.ordup_text.specs.TextBuffers.{BufferedText}
use Rattle.ordup_text.proofs.DigitLemmas.{take-shortened}
use Rattle.ordup_text.proofs.text_buffer.TextBuffer.put_prefix.Goals as goal

pub returns-clause-text : goal.returns-clause-text
returns-clause-text g c =
    take-shortened c.self.inside.bytes.items c.args.self.now.text c.args.text.now c.self.inside.len c.args.len g.row.N
    (ap (λ (b : BufferedText). b.text) c.self.view_is ∙ c.put_array.ensures.text) c.self.invariant c.told-text c.requires.0

pub returns-clause-spare : goal.returns-clause-spare
returns-clause-spare g c =
    let whole = ap (λ (b : BufferedText). b.text) c.self.view_is ∙ c.put_array.ensures.text in
    let spare = ap (λ (b : BufferedText). b.spare) c.self.view_is in
    omega (
      arith,
      spare,
      c.put_array.ensures.spare,
      c.requires.0,
      c.told-text,
      c.self.invariant,
      ap length whole,
      length-append c.args.self.now.text c.args.text.now,
      length-take-le c.self.inside.len c.self.inside.bytes.items c.self.invariant,
    )
