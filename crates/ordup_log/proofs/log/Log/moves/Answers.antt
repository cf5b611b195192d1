use Rattle.ordup_log.proofs.MovingLemmas.{moves-are}
use Rattle.ordup_log.proofs.log.Log.moves.Goals as goal

pub returns-clause-moves : goal.returns-clause-moves
returns-clause-moves g c =
    moves-are c.args.self.now c.args.number c.moves_between.result.now c.requires.first c.moves_between.ensures.moves
