use Rattle.std.proofs.Common.{rules, arith}
use Rattle.tests_of_epochs.proofs.CountLemmas.{all_are_counted}
use Rattle.tests_of_epochs.proofs.counting.keep_counted.Goals as goal

pub returns : goal.returns
returns g c =
    let all = c.in_ok-kept.ensures.archived.0 in
    let steps = c.in_ok-kept.ensures.archived.1 in
    let kept = c.in_ok-kept.ensures.archived.2 in
    let counted = all_are_counted (λ a. a.0) 18446744073709551615 _ all _ (search rules) steps in
    omega arith
