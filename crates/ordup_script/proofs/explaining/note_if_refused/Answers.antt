use Rattle.std.proofs.Common.{rules}
use Rattle.ordup_script.specs.Explanations.{note_text}
use Rattle.ordup_script.proofs.Explanations.{note_of}
use Rattle.ordup_script.proofs.explaining.note_if_refused.Goals as goal

pub returns-clause-notes : goal.returns-clause-notes
returns-clause-notes g c =
    let reason = c.as_slice.result.now in (
      note_text c.args.number c.args.answer.now reason,
      note_of c.args.number c.args.answer.now reason (search rules),
      search rules,
    )
