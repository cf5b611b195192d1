-- The limits of a record are on scopes that it has, so each has a name to print, and its column goes behind the others.
use Rattle.std.proofs.Common.{◌++◌, ◌∙◌, ap, append_assoc, arith, length}
use Rattle.std.proofs.lemmas.Option.{get_or_from_slice_get}
use Rattle.ordup_limits.proofs.EntryLemmas.{latest-known}
use Rattle.ordup_limits.specs.declared.limit.Limit.{Limit}
use Rattle.ordup_limits.specs.Entries.{Entries, latest}
use Rattle.ordup_lag.specs.Texts.{scope_head, scope_heads}
use Rattle.ordup_lag.proofs.LagLemmas.{heads-next}
use Rattle.ordup_lag.proofs.row_text.push_scope_heads.Goals as goal

pub push_scope_head-requires : goal.push_scope_head-requires
push_scope_head-requires g c =
    let r = c.args.audited.now in
    let n = c.loop-number.number in
    let limit : Limit = record { scope = c.get-scope.result.0; amount = c.get-scope.result.1 } in
    let at = get_or_from_slice_get (latest r.limits) n limit limit (rw c.limits-limits.ensures at c.get-scope.ensures) in
    rw (c.objects.ensures, c.groups.ensures)
    (rw at at (latest-known (length r.objects) r.groups r.limits c.keeps.ensures.scopes n limit
    (omega (arith, ap (λ (es : Entries). length (latest es)) c.limits-limits.ensures))))

pub loop-number-preserved : goal.loop-number-preserved
loop-number-preserved g c =
    let r = c.args.audited.now in
    let n = c.loop-number.number in
    let heads = scope_heads r.objects r.groups (latest r.limits) n in
    let next = heads-next r.objects r.groups (latest r.limits) n c.get-scope.result.1 c.get-scope.result.0 (rw c.limits-limits.ensures at c.get-scope.ensures) in
    rw (c.objects.ensures, c.groups.ensures) at c.in_ok-push_scope_head.ensures
    ∙ ap (λ t. t ++ scope_head r.objects r.groups c.get-scope.result.0) c.loop-number.invariant
    ∙ append_assoc c.args.out.now.text heads (scope_head r.objects r.groups c.get-scope.result.0)
    ∙ ap (λ t. c.args.out.now.text ++ t) next
