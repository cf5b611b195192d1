-- The rows read so far lead to the stage. The next one leads to another stage, or stays at hand, or there is none.
use Rattle.ordup_audit.proofs.Common.{◌∙◌, [], inl, sym}
use Rattle.ordup_check.specs.StageViews.{stage_of}
use Rattle.ordup_check.proofs.ReadSteps.{ends, onward, reached-push, stops}
use Rattle.ordup_check.proofs.reading.read_rows.Goals as goal

pub loop-count-init : goal.loop-count-init
loop-count-init g c = (c.requires.plain, c.requires.stage, λ text before h. h)

pub returns-then-not-is_found-clause-ended : goal.returns-then-not-is_found-clause-ended
returns-then-not-is_found-clause-ended g c text before h =
    let (plain, is, read) = c.loop-count.invariant in
    let r = rw c.if-not-is_found.true at (c.in-Ok.ensures.reads plain.trim plain.ready) in
    ends g.R.Read.remaining c.loop-count.rdr c.read_byte_record.new.self before (stage_of c.loop-count.stage) c.loop-count.count text _ []
    plain.config (read text before h) r

pub returns-then-not-is_taken-clause-ended : goal.returns-then-not-is_taken-clause-ended
returns-then-not-is_taken-clause-ended g c text before h =
    let (plain, is, read) = c.loop-count.invariant in
    let r = rw c.if-not-is_found.false at (c.in-Ok.ensures.reads plain.trim plain.ready) in
    stops g.R.Read.remaining c.loop-count.rdr c.read_byte_record.new.self before (stage_of c.loop-count.stage)
    (stage_of c.take_row.new.stage) c.loop-count.count text _ plain.config (read text before h) r c.see_row.ensures
    (sym (rw c.if-not-is_taken.true at c.in-Ok-take_row.ensures.taken)) (c.in-Ok-take_row.ensures.kept c.if-not-is_taken.true)

pub returns-then-not-is_taken-clause-stage : goal.returns-then-not-is_taken-clause-stage
returns-then-not-is_taken-clause-stage g c begins =
    let (plain, is, read) = c.loop-count.invariant in
    rw (c.in-Ok-take_row.ensures.kept c.if-not-is_taken.true begins) is

pub loop-count-preserved : goal.loop-count-preserved
loop-count-preserved g c =
    let (plain, is, read) = c.loop-count.invariant in
    let r = rw c.if-not-is_found.false at (c.in-Ok.ensures.reads plain.trim plain.ready) in
    let next = sym (rw c.if-not-is_taken.false at c.in-Ok-take_row.ensures.taken) in (
      record { trim = r.3 ∙ plain.trim; ready = inl (c.in-Ok.ensures.ready plain.trim); config = r.2 ∙ plain.config },
      reached-push (stage_of c.loop-count.stage) (stage_of c.take_row.new.stage) _ is next,
      λ text before h. onward g.R.Read.remaining c.loop-count.rdr c.read_byte_record.new.self before (stage_of c.loop-count.stage)
          (stage_of c.take_row.new.stage) c.loop-count.count text _ plain.config (read text before h) r c.see_row.ensures next,
    )
