-- A list of one change is stored as that change. Any other list is kept as it is, once the tests promise what a set keeps.
use Rattle.std.proofs.Common.{◌≡◌, ◌∙◌, sym, [], ◌∷◌, arith, refl}
use Rattle.std.proofs.lemmas.Result.{err_from_is_err_and}
use Rattle.ordup_objects.proofs.ListLemmas.{alone}
use Rattle.ordup_objects.proofs.message_set.MessageSet.new.Goals as goal

pub returns-in-len1 : goal.returns-in-len1
returns-in-len1 g c =
    let only : c.args.changes.items ≡ c.change-item.result ∷ [] = sym c.as_slice.ensures.value
    ∙ alone c.as_slice.result.now c.change-item.result (omega arith) (omega arith) c.change-item.is in
    rw only c.single.ensures

pub returns-in_err-check_changes : goal.returns-in_err-check_changes
returns-in_err-check_changes g c =
    let failed = err_from_is_err_and c.from_residual.result c.from_residual.ensures.1 in
    rw (failed.1, failed.2, ← c.len.ensures.len, ← c.deref.ensures.value) c.in_err-check_changes.ensures

pub invariant_of-result : goal.invariant_of-result
invariant_of-result g c = rw (← c.deref.ensures.value) c.in_ok-check_changes.ensures.set

pub returns : goal.returns
returns g c = record {
  set = refl;
  known = rw (← c.len.ensures.len, ← c.deref.ensures.value) c.in_ok-check_changes.ensures.known;
  allowed = rw (← c.len.ensures.len, ← c.deref.ensures.value) c.in_ok-check_changes.ensures.allowed;
  refused = tt;
}
