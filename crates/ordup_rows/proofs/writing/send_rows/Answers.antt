-- Five calls send the parts of one text in their order.
-- Where one fails, what was written is a prefix of that text, since nothing of a later part was sent.
use Rattle.ordup_audit.proofs.Common.{◌++◌, [], map}
use Rattle.ordup_rows.specs.Forming.{csv_text, last_rows, unsent}
use Rattle.ordup_rows.specs.Rows.{counted, report_row, round_row, window_row}
use Rattle.ordup_rows.proofs.SentLemmas.{appended_front, sends_all, sends_first, sends_next, sends_none, sends_on, stops}
use Rattle.ordup_rows.proofs.writing.send_rows.Goals as goal

pub returns-in_err-hand_out-clause-front : goal.returns-in_err-hand_out-clause-front
returns-in_err-hand_out-clause-front g c =
    let text = csv_text (last_rows c.args.audited.now) in
    stops _ _ _ _ _ text (sends_none _ (unsent c.args.rows.now ++ text)) c.in_err-hand_out.ensures.front

pub returns-in_err-send_sets-clause-front : goal.returns-in_err-send_sets-clause-front
returns-in_err-send_sets-clause-front g c =
    let r = c.args.audited.now in
    let reports = csv_text (map report_row r.reports) in
    let rounds = csv_text (counted round_row 1 r.rounds) in
    let windows = csv_text (counted window_row 1 r.windows) in
    let s1 = sends_first _ _ _ _ r c.in_ok-hand_out.ensures.none c.in_ok-hand_out.ensures.sent in
    stops _ _ _ _ _ (reports ++ (rounds ++ (windows ++ []))) s1 c.in_err-send_sets.ensures.front

pub returns-in_err-send_reports-clause-front : goal.returns-in_err-send_reports-clause-front
returns-in_err-send_reports-clause-front g c =
    let r = c.args.audited.now in
    let reports = csv_text (map report_row r.reports) in
    let rounds = csv_text (counted round_row 1 r.rounds) in
    let windows = csv_text (counted window_row 1 r.windows) in
    let s1 = sends_first _ _ _ _ r c.in_ok-hand_out.ensures.none c.in_ok-hand_out.ensures.sent in
    let s2 = sends_next _ _ _ _ _ _ reports (rounds ++ (windows ++ [])) s1 c.in_ok-send_sets.ensures.sent in
    stops _ _ _ _ _ (rounds ++ (windows ++ [])) s2 (rw c.reports.ensures at c.in_err-send_reports.ensures.front)

pub returns-in_err-send_rounds-clause-front : goal.returns-in_err-send_rounds-clause-front
returns-in_err-send_rounds-clause-front g c =
    let r = c.args.audited.now in
    let reports = csv_text (map report_row r.reports) in
    let rounds = csv_text (counted round_row 1 r.rounds) in
    let windows = csv_text (counted window_row 1 r.windows) in
    let s1 = sends_first _ _ _ _ r c.in_ok-hand_out.ensures.none c.in_ok-hand_out.ensures.sent in
    let s2 = sends_next _ _ _ _ _ _ reports (rounds ++ (windows ++ [])) s1 c.in_ok-send_sets.ensures.sent in
    let s3 = sends_next _ _ _ _ _ _ rounds (windows ++ []) s2 (rw c.reports.ensures at c.in_ok-send_reports.ensures.sent) in
    stops _ _ _ _ _ (windows ++ []) s3 (rw c.rounds.ensures at c.in_err-send_rounds.ensures.front)

pub returns-in_err-send_windows-clause-front : goal.returns-in_err-send_windows-clause-front
returns-in_err-send_windows-clause-front g c =
    let r = c.args.audited.now in
    let reports = csv_text (map report_row r.reports) in
    let rounds = csv_text (counted round_row 1 r.rounds) in
    let windows = csv_text (counted window_row 1 r.windows) in
    let s1 = sends_first _ _ _ _ r c.in_ok-hand_out.ensures.none c.in_ok-hand_out.ensures.sent in
    let s2 = sends_next _ _ _ _ _ _ reports (rounds ++ (windows ++ [])) s1 c.in_ok-send_sets.ensures.sent in
    let s3 = sends_next _ _ _ _ _ _ rounds (windows ++ []) s2 (rw c.reports.ensures at c.in_ok-send_reports.ensures.sent) in
    let s4 = sends_next _ _ _ _ _ _ windows [] s3 (rw c.rounds.ensures at c.in_ok-send_rounds.ensures.sent) in
    stops _ _ _ _ _ [] s4 (rw c.windows.ensures at c.in_err-send_windows.ensures.front)

pub returns-in_err-hand_out-2-clause-front : goal.returns-in_err-hand_out-2-clause-front
returns-in_err-hand_out-2-clause-front g c =
    let r = c.args.audited.now in
    let reports = csv_text (map report_row r.reports) in
    let rounds = csv_text (counted round_row 1 r.rounds) in
    let windows = csv_text (counted window_row 1 r.windows) in
    let s1 = sends_first _ _ _ _ r c.in_ok-hand_out.ensures.none c.in_ok-hand_out.ensures.sent in
    let s2 = sends_next _ _ _ _ _ _ reports (rounds ++ (windows ++ [])) s1 c.in_ok-send_sets.ensures.sent in
    let s3 = sends_next _ _ _ _ _ _ rounds (windows ++ []) s2 (rw c.reports.ensures at c.in_ok-send_reports.ensures.sent) in
    let s4 = sends_next _ _ _ _ _ _ windows [] s3 (rw c.rounds.ensures at c.in_ok-send_rounds.ensures.sent) in
    let s5 = sends_on _ _ _ _ _ _ [] s4 (rw c.windows.ensures at c.in_ok-send_windows.ensures.sent) in
    stops _ _ _ _ _ [] s5 c.in_err-hand_out-2.ensures.front

pub returns-clause-sent : goal.returns-clause-sent
returns-clause-sent g c =
    let r = c.args.audited.now in
    let reports = csv_text (map report_row r.reports) in
    let rounds = csv_text (counted round_row 1 r.rounds) in
    let windows = csv_text (counted window_row 1 r.windows) in
    let s1 = sends_first _ _ _ _ r c.in_ok-hand_out.ensures.none c.in_ok-hand_out.ensures.sent in
    let s2 = sends_next _ _ _ _ _ _ reports (rounds ++ (windows ++ [])) s1 c.in_ok-send_sets.ensures.sent in
    let s3 = sends_next _ _ _ _ _ _ rounds (windows ++ []) s2 (rw c.reports.ensures at c.in_ok-send_reports.ensures.sent) in
    let s4 = sends_next _ _ _ _ _ _ windows [] s3 (rw c.rounds.ensures at c.in_ok-send_rounds.ensures.sent) in
    let s5 = sends_on _ _ _ _ _ _ [] s4 (rw c.windows.ensures at c.in_ok-send_windows.ensures.sent) in
    sends_all _ _ _ _ _ s5 c.in_ok-hand_out-2.ensures.sent

pub returns-clause-front : goal.returns-clause-front
returns-clause-front g c =
    let r = c.args.audited.now in
    let reports = csv_text (map report_row r.reports) in
    let rounds = csv_text (counted round_row 1 r.rounds) in
    let windows = csv_text (counted window_row 1 r.windows) in
    let s1 = sends_first _ _ _ _ r c.in_ok-hand_out.ensures.none c.in_ok-hand_out.ensures.sent in
    let s2 = sends_next _ _ _ _ _ _ reports (rounds ++ (windows ++ [])) s1 c.in_ok-send_sets.ensures.sent in
    let s3 = sends_next _ _ _ _ _ _ rounds (windows ++ []) s2 (rw c.reports.ensures at c.in_ok-send_reports.ensures.sent) in
    let s4 = sends_next _ _ _ _ _ _ windows [] s3 (rw c.rounds.ensures at c.in_ok-send_rounds.ensures.sent) in
    let s5 = sends_on _ _ _ _ _ _ [] s4 (rw c.windows.ensures at c.in_ok-send_windows.ensures.sent) in
    appended_front _ _ _ (sends_all _ _ _ _ _ s5 c.in_ok-hand_out-2.ensures.sent)
