use Rattle.std.proofs.Common.{◌≡◌, ◌++◌, IfOk, append_assoc, codes, string_bytes, sym}
use Rattle.std.specs.Fmt.{decimal}
use Rattle.ordup_verdicts.proofs.series.line_of.Goals as goal

pub returns-in-No : goal.returns-in-No
returns-in-No c =
    let after_row = codes " " ++ (c.name.result.now ++ codes "\n") in
    let after_place = codes " " ++ (decimal c.in-No.row ++ after_row) in
    let h : IfOk c.format-in-No.result (λ line. string_bytes line ≡ codes "no " ++ (decimal c.in-No.record ++ after_place)) =
    c.format-in-No.ensures.ok in
    rw c.in-No.is (simp append_assoc (rw (sym c.name.ensures) h))
