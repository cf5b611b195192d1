-- A site was sent at most the whole log.
-- Where it was sent less, the next update is in the log, and its copy can lack memory alone.
use Rattle.std.proofs.Common.{arith, refl, ap, sym, length, ◌+◌, ◌∙◌, ◌≡◌, None}
use Rattle.std.proofs.lemmas.Bool.{eq-eqb}
use Rattle.std.proofs.lemmas.Result.{err_from_is_err_and}
use Rattle.ordup_primary.specs.Primaries.{first_progress, progress_at, send_refusal}
use Rattle.ordup_primary.proofs.PrimaryLemmas.{send-allowed}
use Rattle.ordup_primary.proofs.primary.Primary.next_for.Goals as goal

pub returns-clause-allowed : goal.returns-clause-allowed
returns-clause-allowed g c =
    send-allowed c.args.self.now c.args.site c.sent-sent.result c.sent-sent.ensures
    (λ e. c.if-sent-len.false (e ∙ rw (← c.self.view_is) (sym c.len.ensures.len)))

pub returns-in_err-set-clause-refused : goal.returns-in_err-set-clause-refused
returns-in_err-set-clause-refused g c =
    let allowed : send_refusal c.args.self.now c.args.site ≡ None =
    send-allowed c.args.self.now c.args.site c.sent-sent.result c.sent-sent.ensures
    (λ e. c.if-sent-len.false (e ∙ rw (← c.self.view_is) (sym c.len.ensures.len))) in
    let failed = err_from_is_err_and c.from_residual.result c.from_residual.ensures.1 in
    rw (failed.1, failed.2, allowed) c.in_err-set.ensures.refused

pub returns-then-sent-len-clause-refused : goal.returns-then-sent-len-clause-refused
returns-then-sent-len-clause-refused g c =
    let p = c.args.self.now in
    let all : c.len.result ≡ length p.log.sets = rw (← c.self.view_is) c.len.ensures.len in
    rw (eq-eqb (progress_at p c.args.site).sent (length p.log.sets) (sym c.sent-sent.ensures ∙ c.if-sent-len.true ∙ all)) refl

pub overflow_add-number : goal.overflow_add-number
overflow_add-number g c =
    let is = c.self.invariant.primary in
    let site = is.sites c.args.site first_progress (rw (← c.self.view_is) at c.requires) in
    omega (arith, site.sent, is.few, rw (← c.self.view_is) at c.sent-sent.ensures)

pub copy_set-requires : goal.copy_set-requires
copy_set-requires g c =
    let site = c.self.invariant.primary.sites c.args.site first_progress (rw (← c.self.view_is) at c.requires) in
    record {
      first = omega arith;
      last = omega (arith, site.sent, rw (← c.self.view_is) at c.sent-sent.ensures, c.if-sent-len.false, c.len.ensures.len);
    }

pub returns-clause-number : goal.returns-clause-number
returns-clause-number g c = ap (λ k. k + 1) c.sent-sent.ensures

pub returns-clause-set : goal.returns-clause-set
returns-clause-set g c = rw (← c.self.view_is) c.in_ok-set.ensures.copied
