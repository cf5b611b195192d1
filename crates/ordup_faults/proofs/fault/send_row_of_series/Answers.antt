-- A line that was sent in part is a prefix of the whole: of its word, the number of the record, or that of the row.
use Rattle.std.proofs.Common.{◌≡◌, ◌∙◌, ◌++◌, codes, List, ℕ}
use Rattle.std.specs.Fmt.{decimal}
use Rattle.ordup_faults.proofs.Parts.{front_after, front_of_first}
use Rattle.ordup_faults.proofs.fault.send_row_of_series.Goals as goal

pub returns-in_err-send : goal.returns-in_err-send
returns-in_err-send g c =
    front_of_first _ _ (codes "malformed ") (decimal c.args.place ++ (codes " " ++ (decimal c.args.row ++ codes "\n"))) c.in_err-send.ensures.front

pub returns-in_err-send-2 : goal.returns-in_err-send-2
returns-in_err-send-2 g c =
    let digits : c.as_bytes.result.now ≡ decimal c.args.place = c.as_bytes.ensures.value ∙ c.format.ensures.text in
    let row : List ℕ = codes " " ++ (decimal c.args.row ++ codes "\n") in
    front_after _ _ _ (codes "malformed ") (decimal c.args.place ++ row) c.in_ok-send.ensures.sent
    (front_of_first _ _ (decimal c.args.place) row (rw digits at c.in_err-send-2.ensures.front))

pub returns : goal.returns
returns g c =
    let digits : c.as_bytes.result.now ≡ decimal c.args.place = c.as_bytes.ensures.value ∙ c.format.ensures.text in
    let row : List ℕ = codes " " ++ (decimal c.args.row ++ codes "\n") in
    front_after _ _ _ (codes "malformed ") (decimal c.args.place ++ row) c.in_ok-send.ensures.sent
    (front_after _ _ _ (decimal c.args.place) row (rw digits at c.in_ok-send-2.ensures.sent) c.send_numbered.ensures)
