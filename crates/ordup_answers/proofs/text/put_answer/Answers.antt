-- In each branch the variant of the answer is known, and what the branch puts is the text of this variant.
-- Only a refusal can be one for want of memory, so no other branch fails.
use Rattle.ordup_answers.proofs.TextLemmas.{adds_answer}
use Rattle.ordup_answers.proofs.text.put_answer.Goals as goal

pub returns-in-Abandoned-clause-text : goal.returns-in-Abandoned-clause-text
returns-in-Abandoned-clause-text g c =
    adds_answer c.args.setup.now c.args.subject.now c.args.object.now c.args.out.now.text _ _ _ c.in-Abandoned.is (λ r. r) c.put_abandoned.ensures

pub returns-in-Reported-clause-text : goal.returns-in-Reported-clause-text
returns-in-Reported-clause-text g c =
    adds_answer c.args.setup.now c.args.subject.now c.args.object.now c.args.out.now.text _ _ _ c.in-Reported.is (λ r. r) c.put_place-in-Reported.ensures

pub returns-in-Sent-clause-text : goal.returns-in-Sent-clause-text
returns-in-Sent-clause-text g c =
    adds_answer c.args.setup.now c.args.subject.now c.args.object.now c.args.out.now.text _ _ _ c.in-Sent.is (λ r. r) c.put_place.ensures

pub returns-in-Applied-clause-text : goal.returns-in-Applied-clause-text
returns-in-Applied-clause-text g c =
    adds_answer c.args.setup.now c.args.subject.now c.args.object.now c.args.out.now.text _ _ _ c.in-Applied.is (λ r. r) c.put_place-in-Applied.ensures

pub returns-in-Relimited-clause-text : goal.returns-in-Relimited-clause-text
returns-in-Relimited-clause-text g c =
    adds_answer c.args.setup.now c.args.subject.now c.args.object.now c.args.out.now.text _ _ _ c.in-Relimited.is (λ r. r) c.put_place-in-Relimited.ensures

pub returns-in-Proposed-clause-text : goal.returns-in-Proposed-clause-text
returns-in-Proposed-clause-text g c =
    adds_answer c.args.setup.now c.args.subject.now c.args.object.now c.args.out.now.text _ _ _ c.in-Proposed.is (λ r. r) c.put_proposed.ensures

pub returns-in-Settlement-clause-text : goal.returns-in-Settlement-clause-text
returns-in-Settlement-clause-text g c =
    adds_answer c.args.setup.now c.args.subject.now c.args.object.now c.args.out.now.text _ _ _ c.in-Settlement.is (λ r. r) c.put_settled.ensures

pub returns-in-ReadOut-clause-text : goal.returns-in-ReadOut-clause-text
returns-in-ReadOut-clause-text g c =
    adds_answer c.args.setup.now c.args.subject.now c.args.object.now c.args.out.now.text _ _ _ c.in-ReadOut.is (λ r. r) c.put_read.ensures

pub returns-in-Ended-clause-text : goal.returns-in-Ended-clause-text
returns-in-Ended-clause-text g c =
    adds_answer c.args.setup.now c.args.subject.now c.args.object.now c.args.out.now.text _ _ _ c.in-Ended.is (λ r. r) c.put_ended.ensures
