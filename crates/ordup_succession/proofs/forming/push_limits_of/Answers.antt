-- A limit in force is on a scope that is there, so it has a line. That line follows those of the limits before it.
use Rattle.std.proofs.Common.{◌∙◌, ◌++◌, ◌∷◌, [], ap, arith, length, subst, sym}
use Rattle.std.proofs.lemmas.Option.{get_or_from_slice_get}
use Rattle.ordup_log.specs.Spans.{IsScopeKnown}
use Rattle.ordup_limits.specs.Entries.{latest}
use Rattle.ordup_limits.specs.declared.limit.Limit.{Limit}
use Rattle.ordup_limits.proofs.EntryLemmas.{latest-known}
use Rattle.ordup_succession.specs.DeclaringLines.{limit_words}
use Rattle.ordup_succession.specs.Lines.{lines_text}
use Rattle.ordup_succession.proofs.FormLemmas.{formed_next}
use Rattle.ordup_succession.proofs.forming.push_limits_of.Goals as goal

pub push_limit-requires : goal.push_limit-requires
push_limit-requires g c =
    let n = length c.args.objects.now in
    let limit : Limit = record { scope = c.get-scope.result.0; amount = c.get-scope.result.1 } in
    let is = get_or_from_slice_get (latest c.args.limits.now) c.loop-index.index limit limit c.get-scope.ensures in
    subst (λ (l : Limit). IsScopeKnown n c.args.groups.now l.scope) is
    (latest-known n c.args.groups.now c.args.limits.now c.requires c.loop-index.index limit (omega arith))

pub loop-index-preserved : goal.loop-index-preserved
loop-index-preserved g c =
    let limits = latest c.args.limits.now in
    let line = limit_words c.args.objects.now c.args.groups.now c.args.site.now in
    let limit : Limit = record { scope = c.get-scope.result.0; amount = c.get-scope.result.1 } in
    let is = get_or_from_slice_get limits c.loop-index.index limit limit c.get-scope.ensures in
    formed_next line limits c.loop-index.index limit c.loop-index.out.text _ _ (omega arith)
    (c.in_ok-push_limit.ensures ∙ ap (λ (l : Limit). c.loop-index.out.text ++ lines_text (line l ∷ [])) (sym is)) c.loop-index.invariant
