-- What each step of a session adds to the answers.
use Rattle.std.proofs.Common.{◌≡◌, ◌∙◌, sym, refl, ap, subst, ℕ, ◌+◌, ◌<◌, true, List, [], ◌∷◌, ◌++◌, length, drop, take}
use Rattle.std.proofs.Common.{Result, Ok, Err, OnOk, append_assoc, arith, length-append}
use Rattle.std.proofs.Math.Seq.{take-append_seam, drop-append_seam, take-length}
use Rattle.std.proofs.lemmas.List.{append-nil, drop-drop, take-append-drop, take_at}
use Rattle.std.specs.declared.alloc.Global.{Global}
use Rattle.ordup_answers.specs.Answers.{Leaves}
use Rattle.ordup_answers.specs.Replies.{request_reply, reply}
use Rattle.ordup_answers.specs.ScriptStates.{ScriptState, Stands, first_state}
use Rattle.ordup_grammar.specs.Requests.{Request, request_of}
use Rattle.ordup_grammar.specs.Lines.{IsPart, Line, cut}
use Rattle.ordup_answers.proofs.Lines.{ends, joins, last-line, last-none}
use Rattle.ordup_answers.specs.Output.{Written, answered, written}
use Rattle.ordup_answers.specs.Scripts.{IsCut, after_lines, lines_of}
use Rattle.ordup_c.specs.Laws.{HasRun}
use Rattle.ordup_c.specs.declared.session.Session.{Session}
use Rattle.ordup_c.specs.Sessions.{Follows, Stays, TakesWholeLines, answers_to, kept}

pub on_ok_map : {P Q T E : Type 0} (r : Result T E) → (P → Q) → OnOk r P → OnOk r Q
on_ok_map (Ok x) f p = f p
on_ok_map (Err e) f p = p

module _ {A : Type 0} where
  -- what was written before stays in front
  pub answers_move : (s : ScriptState A) (t : List ℕ) (lines : List Line)
      → after_lines answered (s, t) lines ≡ ((answers_to s lines).0, t ++ (answers_to s lines).1)
  answers_move s t [] = ap (λ (u : List ℕ). (s, u)) (sym (append-nil t))
  answers_move s t (line ∷ lines) =
      let next : ScriptState A = (reply s line).0 in
      let text : List ℕ = (reply s line).1 in
      let rest : Written A = answers_to next lines in
      answers_move next (t ++ text) lines
      ∙ ap (λ (u : List ℕ). (rest.0, u)) (append_assoc t text rest.1)
      ∙ sym (ap (λ (w : Written A). (w.0, t ++ w.1)) (answers_move next text lines))

  lines_then : (w : Written A) (lines more : List Line) → after_lines answered w (lines ++ more) ≡ after_lines answered (after_lines answered w lines) more
  lines_then w [] more = refl
  lines_then w (line ∷ lines) more = lines_then (answered w line) lines more

  -- the answers to lines and to more lines
  pub answers_then : (s : ScriptState A) (lines more : List Line)
      → answers_to s (lines ++ more) ≡ ((answers_to (answers_to s lines).0 more).0, (answers_to s lines).1 ++ (answers_to (answers_to s lines).0 more).1)
  answers_then s lines more = lines_then (s, []) lines more ∙ answers_move (answers_to s lines).0 (answers_to s lines).1 more

-- no line was taken yet
pub follows_none : (v : Session) → Follows v v []
follows_none v s stands = (stands, sym (append-nil v.answers.text))

-- one line was taken
pub follows_line : (old new : Session) (line : List ℕ) (request : Request) → request_of (cut line) ≡ request
    → ((s : ScriptState Global) → Stands old.script s
    → Leaves (Stands new.script) (λ text. new.answers.text ≡ old.answers.text ++ text) (request_reply s request))
    → Follows old new (cut line ∷ [])
unfolding reply
follows_line old new line request is leaves s stands =
    subst (λ (r : Request). Leaves {A = Global} (Stands new.script) (λ text. new.answers.text ≡ old.answers.text ++ text) (request_reply s r))
    (sym is) (leaves s stands)

-- lines were taken, and then more
pub follows_then : (a b c : Session) (lines more : List Line) → Follows a b lines → Follows b c more → Follows a c (lines ++ more)
follows_then a b c lines more one next s stands =
    let (between, grew) = one s stands in
    let (after, grows) = next (answers_to s lines).0 between in
    let both = answers_then s lines more in (
      subst (λ (w : Written Global). Stands c.script w.0) (sym both) after,
      grows
          ∙ ap (λ t. t ++ (answers_to (answers_to s lines).0 more).1) grew
          ∙ append_assoc a.answers.text (answers_to s lines).1 (answers_to (answers_to s lines).0 more).1
          ∙ ap (λ (w : Written Global). a.answers.text ++ w.1) (sym both),
    )

-- lines were taken, and then none
pub follows_stays : (a b c : Session) (lines : List Line) → Follows a b lines → Stays b c → Follows a c lines
follows_stays a b c lines follows (end, text) s stands =
    let (after, grew) = follows s stands in
    (subst (λ e. Stands e (answers_to s lines).0) (sym end) after, text ∙ grew)

-- ---- the front of a text

pub no_bytes : (xs : List ℕ) → length xs ≡ 0 → xs ≡ []
no_bytes xs zero = sym (take-length xs) ∙ ap (λ n. take n xs) zero

-- the lines that ended are a prefix
pub takes_ended : (a b : Session) (done rest text : List ℕ) (lines : List Line) (n : ℕ) → text ≡ done ++ rest
    → n + length rest ≡ length text → IsCut done lines [] → Follows a b lines → TakesWholeLines a b text n
takes_ended a b done rest text lines n is count at follows =
    let size : n ≡ length done = omega (arith, count, ap length is, length-append done rest) in
    let front : take n text ≡ done = ap (take n) is ∙ ap (λ k. take k (done ++ rest)) size ∙ take-append_seam done rest in
    let back : drop n text ≡ rest = ap (drop n) is ∙ ap (λ k. drop k (done ++ rest)) size ∙ drop-append_seam done rest in
    let ended : lines_of true done ≡ lines = last-none at in
    let parted : lines_of true text ≡ lines_of true (take n text) ++ lines_of true (drop n text) =
    ap (lines_of true) is ∙ at.same true rest ∙ ap (λ l. l ++ lines_of true rest) (sym ended ∙ ap (lines_of true) (sym front))
    ∙ ap (λ t. lines_of true (take n text) ++ lines_of true t) (sym back) in (
      (omega (arith, count), parted),
      subst (Follows a b) (sym (ap (lines_of true) front ∙ ended)) follows,
    )

no_line : lines_of true [] ≡ []
unfolding lines_of
no_line = refl

-- all of a text is a prefix
pub takes_all : (a b : Session) (text : List ℕ) (lines : List Line) → lines_of true text ≡ lines → Follows a b lines
    → TakesWholeLines a b text (length text)
takes_all a b text lines is follows =
    let front : take (length text) text ≡ text = take-length text in
    let back : drop (length text) text ≡ [] = ap (drop (length text)) (sym (append-nil text)) ∙ drop-append_seam text [] in
    let parted : lines_of true text ≡ lines_of true (take (length text) text) ++ lines_of true (drop (length text) text) =
    sym (append-nil (lines_of true text)) ∙ ap (λ t. lines_of true text ++ t) (sym (ap (lines_of true) back ∙ no_line))
    ∙ ap (λ t. lines_of true t ++ lines_of true (drop (length text) text)) (sym front) in (
      (omega arith, parted),
      subst (Follows a b) (sym (ap (lines_of true) front ∙ is)) follows,
    )

-- what no line feed ends is the last line
pub last_too : (done rest text : List ℕ) (lines : List Line) → text ≡ done ++ rest → IsCut done lines [] → IsPart rest
    → 0 < length rest → lines_of true text ≡ lines ++ cut rest ∷ []
last_too done rest text lines is at unended some =
    let joined : IsCut (done ++ rest) lines rest = joins rest at in
    ap (lines_of true) is ∙ sym (last-line true joined unended some) ∙ ap (lines_of true) (append-nil ((done ++ rest) ++ 10 ∷ []))
    ∙ last-none (ends joined unended)

-- ---- what is kept and given

-- what is given and what is kept afterwards are what was kept
pub gives : (given count : ℕ) (text front out : List ℕ) → front ≡ take count (drop given text) → length front ≡ count
    → drop given text ≡ take count (front ++ out) ++ drop (given + count) text
gives given count text front out is len =
    sym (take-append-drop count (drop given text))
    ∙ ap (λ t. t ++ drop count (drop given text)) (sym is ∙ sym (take_at front out count len))
    ∙ ap (λ t. take count (front ++ out) ++ t) (drop-drop count given text)

-- one call after those before
pub runs_then : (v w : Session) (lines more : List Line) (given gave : List ℕ) → HasRun v lines given
    → ((s : ScriptState Global) → Stands v.script s → Stands w.script (answers_to s more).0 × (kept v ++ (answers_to s more).1 ≡ gave ++ kept w))
    → HasRun w (lines ++ more) (given ++ gave)
runs_then v w lines more given gave (stands, text) runs =
    let before : Written Global = written Global lines in
    let (after, next) = runs before.0 stands in
    let both : written Global (lines ++ more) ≡ ((answers_to before.0 more).0, before.1 ++ (answers_to before.0 more).1) = answers_then first_state lines more in (
      subst (λ (u : Written Global). Stands w.script u.0) (sym both) after,
      ap (λ (u : Written Global). u.1) both
          ∙ ap (λ t. t ++ (answers_to before.0 more).1) text
          ∙ append_assoc given (kept v) (answers_to before.0 more).1
          ∙ ap (λ t. given ++ t) next
          ∙ sym (append_assoc given gave (kept w)),
    )
