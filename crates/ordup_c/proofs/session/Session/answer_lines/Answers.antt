-- The bytes before `rest` are whole lines, and these were answered.
-- So where a line is refused memory, they are what was taken; and what is behind the last line feed is one line more.
use Rattle.std.proofs.Common.{◌≡◌, ◌∙◌, ◌++◌, ◌∷◌, [], ◌<◌, rules, refl, sym, ap, arith, append_assoc, length, length-append, subst, true}
use Rattle.std.proofs.lemmas.List.{append-nil}
use Rattle.ordup_grammar.specs.Lines.{cut}
use Rattle.ordup_answers.specs.Scripts.{lines_of}
use Rattle.ordup_answers.proofs.Lines.{ends, joins, last-none}
use Rattle.ordup_c.specs.Sessions.{Follows}
use Rattle.ordup_c.proofs.Sessions.{follows_none, follows_stays, follows_then, last_too, no_bytes, takes_all, takes_ended}
use Rattle.ordup_c.proofs.session.Session.answer_lines.Goals as goal

pub loop-part-init : goal.loop-part-init
loop-part-init c = (refl, [], [], refl, record { same = λ counts rest. refl }, follows_none c.args.self.now)

pub loop-part-preserved : goal.loop-part-preserved
loop-part-preserved c =
    let (same, done, lines, is, at, so_far) = c.loop-part.invariant in
    let part = c.in-Some.part in
    let more = c.in-Some.more.now in (
      c.answer_line.ensures.given ∙ same,
      (done ++ part) ++ 10 ∷ [],
      lines ++ cut part ∷ [],
      is
          ∙ ap (λ t. done ++ t) c.in-Some.ensures.1
          ∙ sym (append_assoc done part (10 ∷ more))
          ∙ sym (append_assoc (done ++ part) (10 ∷ []) more),
      ends (joins part at) c.in-Some.ensures.0,
      follows_then c.args.self.now c.loop-part.self c.answer_line.new.self lines (cut part ∷ []) so_far c.in-Ok.ensures.line,
    )

pub returns-in_default-answer_line-clause-taken : goal.returns-in_default-answer_line-clause-taken
returns-in_default-answer_line-clause-taken c =
    let (same, done, lines, is, at, so_far) = c.loop-part.invariant in
    let size = ap length is ∙ length-append done c.loop-part.rest.now in
    takes_ended c.args.self.now c.answer_line.new.self done c.loop-part.rest.now c.args.text.now lines _ is (omega (arith, size)) at
    (follows_stays c.args.self.now c.loop-part.self c.answer_line.new.self lines so_far c.in_default-answer_line.ensures.kept)

pub returns-in-Err-clause-taken : goal.returns-in-Err-clause-taken
returns-in-Err-clause-taken c =
    let (same, done, lines, is, at, so_far) = c.loop-part.invariant in
    let size = ap length is ∙ length-append done c.loop-part.rest.now in
    takes_ended c.args.self.now c.answer_line-2.new.self done c.loop-part.rest.now c.args.text.now lines _ is (omega (arith, size)) at
    (follows_stays c.args.self.now c.loop-part.self c.answer_line-2.new.self lines so_far c.in-Err.ensures.kept)

pub returns-then-is_empty-clause-taken : goal.returns-then-is_empty-clause-taken
returns-then-is_empty-clause-taken c =
    let (same, done, lines, is, at, so_far) = c.loop-part.invariant in
    let zero : length c.loop-part.rest.now ≡ 0 = search rules in
    let whole : lines_of true c.args.text.now ≡ lines =
    ap (lines_of true) (is ∙ ap (λ t. done ++ t) (no_bytes c.loop-part.rest.now zero) ∙ append-nil done) ∙ last-none at in
    takes_all c.args.self.now c.loop-part.self c.args.text.now lines whole so_far

pub returns-in-Ok-answer_line-clause-taken : goal.returns-in-Ok-answer_line-clause-taken
returns-in-Ok-answer_line-clause-taken c =
    let (same, done, lines, is, at, so_far) = c.loop-part.invariant in
    let rest = c.loop-part.rest.now in
    let some : 0 < length rest = search rules in
    let line = subst (λ part. Follows c.loop-part.self c.answer_line-2.new.self (cut part ∷ [])) c.new.ensures
    c.in-Ok-answer_line.ensures.line in
    takes_all c.args.self.now c.answer_line-2.new.self c.args.text.now (lines ++ cut rest ∷ [])
    (last_too done rest c.args.text.now lines is at c.in_default.ensures some)
    (follows_then c.args.self.now c.loop-part.self c.answer_line-2.new.self lines (cut rest ∷ []) so_far line)
