-- The head is settled for the first time where all decided updates are acknowledged, and again where they are not.
-- Either case makes the clauses of the other empty, and only the first takes memory.
use Rattle.std.proofs.Common.{◌≡◌, ◌∙◌, arith, refl, None}
use Rattle.std.proofs.lemmas.Bool.{eq-eqb}
use Rattle.std.proofs.lemmas.Result.{IfErr-weaker, IfOk-weaker, on_ok_weaker}
use Rattle.ordup_objects.specs.declared.refusal.Refusal.TheVariants.{NoMemory}
use Rattle.ordup_primary.specs.Primaries.{settle_refusal}
use Rattle.ordup_primary.proofs.PrimaryLemmas.{settle-allowed, settled-later}
use Rattle.ordup_primary.proofs.primary.Primary.settle_head.Goals as goal

pub returns-else-self-clause-answer : goal.returns-else-self-clause-answer
returns-else-self-clause-answer g c =
    c.wait.ensures.answer ∙ settled-later c.args.self.now (λ e. c.if-self.false (rw (← c.self.view_is) at e))

pub returns-else-self-clause-first : goal.returns-else-self-clause-first
returns-else-self-clause-first g c = λ first. absurd (c.if-self.false (rw (← c.self.view_is) at first))

pub returns-else-self-clause-allowed : goal.returns-else-self-clause-allowed
returns-else-self-clause-allowed g c =
    settle-allowed c.args.self.now c.len.result (rw (← c.self.view_is) c.len.ensures.len)
    (λ e. c.if-self-len.false (rw (← c.self.view_is) at e))

pub returns-then-self-clause-allowed : goal.returns-then-self-clause-allowed
returns-then-self-clause-allowed g c =
    let allowed =
    settle-allowed c.args.self.now c.len.result (rw (← c.self.view_is) c.len.ensures.len)
    (λ e. c.if-self-len.false (rw (← c.self.view_is) at e)) in
    IfOk-weaker c.decide.result _ (λ settled. settle_refusal c.args.self.now ≡ None) (λ settled is. allowed) c.decide.ensures.answer

pub returns-then-self-clause-refused : goal.returns-then-self-clause-refused
returns-then-self-clause-refused g c =
    let allowed =
    settle-allowed c.args.self.now c.len.result (rw (← c.self.view_is) c.len.ensures.len)
    (λ e. c.if-self-len.false (rw (← c.self.view_is) at e)) in
    rw allowed c.decide.ensures.refused

pub returns-then-self-len-clause-only_first : goal.returns-then-self-len-clause-only_first
returns-then-self-len-clause-only_first g c =
    let is = c.self.invariant.primary in
    rw (← c.self.view_is) (omega (arith, is.acked, is.decided, c.if-self-len.true, c.len.ensures.len))

pub returns-then-self-clause-only_first : goal.returns-then-self-clause-only_first
returns-then-self-clause-only_first g c =
    let p = c.args.self.now in
    IfErr-weaker c.decide.result (λ e. e ≡ NoMemory) (λ e. p.acked ≡ p.decided)
    (λ e is. rw (← c.self.view_is) c.if-self.true) c.decide.ensures.refused

pub overflow_add-head : goal.overflow_add-head
overflow_add-head g c =
    let is = c.self.invariant.primary in
    omega (arith, is.acked, is.decided, is.few)

pub decide-requires : goal.decide-requires
decide-requires g c =
    let is = c.self.invariant.primary in
    rw (← c.self.view_is) (record {
      first = c.if-self.true;
      head = refl;
      some = omega (arith, is.acked, is.decided, c.if-self-len.false, c.len.ensures.len);
    })

pub wait-requires : goal.wait-requires
wait-requires g c =
    let is = c.self.invariant.primary in
    rw (← c.self.view_is) (record {
      later = omega (arith, is.acked, c.if-self.false);
      head = refl;
      some = omega (arith, is.acked, is.decided, c.if-self-len.false, c.len.ensures.len);
    })

pub returns-then-self-len-clause-refused : goal.returns-then-self-len-clause-refused
returns-then-self-len-clause-refused g c =
    rw (← c.self.view_is, eq-eqb _ _ (c.if-self-len.true ∙ c.len.ensures.len)) refl

pub returns-then-self-clause-answer : goal.returns-then-self-clause-answer
returns-then-self-clause-answer g c =
    rw (eq-eqb c.args.self.now.acked c.args.self.now.decided (rw (← c.self.view_is) c.if-self.true)) c.decide.ensures.answer

pub returns-then-self-clause-first : goal.returns-then-self-clause-first
returns-then-self-clause-first g c =
    on_ok_weaker c.decide.result (λ decides first. decides) c.decide.ensures.decides

pub returns-then-self-clause-later : goal.returns-then-self-clause-later
returns-then-self-clause-later g c =
    let first : c.args.self.now.acked ≡ c.args.self.now.decided = rw (← c.self.view_is) c.if-self.true in
    on_ok_weaker c.decide.result (λ decides later. absurd (omega (arith, later, first))) c.decide.ensures.decides

pub returns-then-self-clause-err : goal.returns-then-self-clause-err
returns-then-self-clause-err g c = c.decide.ensures.err

pub returns-else-self-clause-later : goal.returns-else-self-clause-later
returns-else-self-clause-later g c = λ later. c.wait.ensures.later
