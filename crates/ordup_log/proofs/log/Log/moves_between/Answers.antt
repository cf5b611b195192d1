-- The moves of all updates stand in one list, with an index for each place. So those between two places are one part of it.
use Rattle.std.proofs.Common.{arith, ◌≤◌, ◌∙◌, ap, length, ◌++◌}
use Rattle.std.proofs.lemmas.List.{length-append}
use Rattle.ordup_objects.specs.Serial.{History}
use Rattle.ordup_log.specs.Moving.{moves_below}
use Rattle.ordup_log.specs.LogInside.{history_of}
use Rattle.ordup_log.proofs.MovingLemmas.{between-is, begins-rise, length-below}
use Rattle.ordup_log.proofs.log.Log.moves_between.Goals as goal

pub part-requires-clause-forward : goal.part-requires-clause-forward
part-requires-clause-forward g c =
    omega (
      arith,
      begins-rise c.args.self.now c.args.from c.args.to c.requires.forward,
      c.begin.ensures,
      c.begin-2.ensures,
    )

pub part-requires-clause-last : goal.part-requires-clause-last
part-requires-clause-last g c =
    let h : History = history_of c.self.inside in
    let last : c.args.to ≤ length h.sets = rw (← c.self.view_is) at c.requires.last in
    omega (
      arith,
      begins-rise h c.args.to (length h.sets) last,
      c.begin-2.ensures,
      ap (λ (k : History). length (moves_below k c.args.to)) c.self.view_is,
      ap length c.self.invariant.moves,
      ap length c.as_slice.ensures.value,
    )

pub returns-clause-moves : goal.returns-clause-moves
returns-clause-moves g c =
    let moves = c.as_slice.ensures.value ∙ c.self.invariant.moves ∙ ap (λ (k : History). moves_below k (length k.sets)) c.self.view_is in
    rw c.part.ensures (between-is c.args.self.now c.as_slice.result.now c.args.from c.args.to (length c.args.self.now.sets)
    c.begin.result c.begin-2.result c.requires.forward c.requires.last moves c.begin.ensures c.begin-2.ensures)

pub returns-clause-few : goal.returns-clause-few
returns-clause-few g c =
    let h = c.args.self.now in
    let moves = c.as_slice.ensures.value ∙ c.self.invariant.moves ∙ ap (λ (k : History). moves_below k (length k.sets)) c.self.view_is in
    let are = between-is h c.as_slice.result.now c.args.from c.args.to (length h.sets)
    c.begin.result c.begin-2.result c.requires.forward c.requires.last moves c.begin.ensures c.begin-2.ensures in
    let legal = rw c.self.view_is at c.self.invariant.legal in
    omega (
      arith,
      ap length c.part.ensures,
      ap length are,
      length-append (moves_below h c.args.from) c.part.result.now,
      ap (λ ms. length (moves_below h c.args.from ++ ms)) c.part.ensures,
      length-below h legal c.args.to c.requires.last,
      c.requires.last,
      c.self.invariant.few,
      c.self.inside.sets.ok.0,
      ap (λ (k : History). length k.sets) c.self.view_is,
    )
