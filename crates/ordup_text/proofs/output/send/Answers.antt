-- The bytes are those written and those left. Each write moves a prefix of what is left over to the others.
use Rattle.std.proofs.Common.{◌≡◌, ◌∙◌, ◌++◌, ◌-◌, List, ℕ, ap, append_assoc}
use Rattle.std.proofs.Common.{arith, drop, length, sym, take, take-append-drop}
use Rattle.std.proofs.KnownBytes.{Appends-trans}
use Rattle.std.proofs.lemmas.Grind.{common_steps}
use Rattle.ordup_text.proofs.output.send.Goals as goal

-- a prefix of what is left goes
goes_on : (bytes front rest : List ℕ) (count : ℕ) → bytes ≡ front ++ rest
    → bytes ≡ (front ++ take count rest) ++ take (length rest - count) (drop count rest)
goes_on bytes front rest count is =
    let left : take (length rest - count) (drop count rest) ≡ drop count rest = grind (arith, common_steps) in
    rw left
    (is ∙ ap (λ t. front ++ t) (sym (take-append-drop count rest)) ∙ sym (append_assoc front (take count rest) (drop count rest)))

pub loop-rest-preserved : goal.loop-rest-preserved
loop-rest-preserved g c =
    let (front, is, grew) = c.loop-rest.invariant in
    let count = c.in-Ok.count in (
      front ++ take count c.loop-rest.rest.now,
      goes_on c.args.bytes.now front c.loop-rest.rest.now count is,
      Appends-trans _ _ _ front _ grew c.in-Ok.ensures.bytes,
    )
