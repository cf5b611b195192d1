-- What each step of reading lines adds to those before it.
use Rattle.std.proofs.Common.{◌≡◌, ◌∙◌, sym, ap, subst, ℕ, ◌+◌, ◌-◌, ◌<◌, ◌≤◌}
use Rattle.std.proofs.Common.{true, false, List, [], ◌∷◌, ◌++◌, Option, Result}
use Rattle.std.proofs.Common.{Ok, Err, OnOk, inl, length, take, arith, append_assoc, length-append}
use Rattle.std.proofs.lemmas.List.{append-nil}
use Rattle.std.proofs.Math.Seq.{take-append-add}
use Rattle.std.proofs.KnownBytes.{Consumes-trans}
use Rattle.std.specs.Io.KnownBytes.{Consumes}
use Rattle.ordup_grammar.specs.LineBuffers.{Holds}
use Rattle.ordup_grammar.specs.Lines.{IsPart, Line, cut}
use Rattle.ordup_script.specs.Readings.{EndsIn, IsRead, IsReadOr, Reads, ReadsOn, Takes, TookAllOr}
use Rattle.ordup_answers.specs.Scripts.{IsCut, lines_of}
use Rattle.ordup_script.specs.declared.line_reader.Extent.TheVariants as extent
use Rattle.ordup_answers.proofs.Lines.{ends, joins, last-line, last-none, lines-ended}

-- the lines that ended were taken
pub takes_ended : (took : List Line → Type 0) {held : Line} {script : List ℕ} → IsRead took held script
    → took (lines_of false script)
takes_ended took {script = script} is =
    subst took (sym (lines-ended is.cut is.holds.unended) ∙ ap (lines_of false) (append-nil script)) is.taken

-- what lies within the limit
take-front : (script piece : List ℕ) (limit : ℕ) → length script ≤ limit
    → take limit (script ++ piece) ≡ script ++ take (limit - length script) piece
take-front script piece limit h =
    let split : limit ≡ length script + (limit - length script) = omega arith in
    ap (λ n. take n (script ++ piece)) split ∙ take-append-add script piece (limit - length script)

on_ok : {F P : Type 0} (r : Result (Unit {0}) F) → P → OnOk r P
on_ok (Ok done) p = p
on_ok (Err e) p = tt

module _ {T F : Type 0} {took : T → T → List Line → Type 0} {stopped : T → T → List Line → F → Type 0} where
  -- ---- a piece

  -- one piece after another
  pub reads_then : {a b c : T} {h i j : Line} {x y : List ℕ} {r : Result (Unit {0}) F} → ReadsOn took stopped a h b i x (Ok tt)
      → ReadsOn took stopped b i c j y r
      → ReadsOn took stopped a h c j (x ++ y) r
  reads_then {c = c} {j = j} {x = x} {y = y} {r = r} one next = record {
    goes_on = λ first script is.
        subst (λ t. IsReadOr took stopped first c j t r) (append_assoc script x y)
        (next.goes_on first (script ++ x) (one.goes_on first script is));
  }

  -- it stopped before the piece ended
  pub stops_before : {a b : T} {h i : Line} {x : List ℕ} {e : F} (y : List ℕ) → ReadsOn took stopped a h b i x (Err e)
      → ReadsOn took stopped a h b i (x ++ y) (Err e)
  stops_before {x = x} y one = record {
    goes_on = λ first script is rest.
        rw (← append_assoc script x y, append_assoc (script ++ x) y rest) (one.goes_on first script is (y ++ rest));
  }

  -- nothing of it was read yet
  pub reads_none : (t : T) (held : Line) → ReadsOn took stopped t held t held [] (Ok tt)
  reads_none t held = record { goes_on = λ first script is. subst (IsRead (took first t) held) (sym (append-nil script)) is }

  -- a part of a line that did not end is held
  pub reads_part : (t : T) (h i : Line) (part : List ℕ) → ((held : List ℕ) → Holds h held → Holds i (held ++ part))
      → ReadsOn took stopped t h t i part (Ok tt)
  reads_part t h i part holds = record {
    goes_on = λ first script is. record {
      lines = is.lines;
      part = is.part ++ part;
      cut = joins part is.cut;
      taken = is.taken;
      holds = holds is.part is.holds;
    };
  }

  -- a line that ended is taken
  line_taken : {a b : T} {script : List ℕ} {lines : List Line} {part : List ℕ} (first : T) (i : Line) (r : Result (Unit {0}) F)
      → IsCut script lines part → IsPart part → took first a lines → Takes took stopped a b (cut part ∷ []) r
      → OnOk r (Holds i [])
      → IsReadOr took stopped first b i (script ++ 10 ∷ []) r
  line_taken {lines = lines} {part = part} first i (Ok done) at unended taken takes none = record {
    lines = lines ++ cut part ∷ [];
    part = [];
    cut = ends at unended;
    taken = takes.goes_on first lines taken;
    holds = none;
  }
  line_taken {lines = lines} first i (Err e) at unended taken takes none =
      λ rest. rw ((ends at unended).same true rest) (takes.goes_on first lines taken (lines_of true rest))

  -- the line that was held is taken, and nothing is held
  pub takes_held : {a b : T} {h : Line} (i : Line) (r : Result (Unit {0}) F) → Takes took stopped a b (h ∷ []) r → OnOk r (Holds i [])
      → ReadsOn took stopped a h b i (10 ∷ []) r
  takes_held {a = a} {b = b} i r takes none = record {
    goes_on = λ first script is.
        line_taken first i r is.cut is.holds.unended is.taken (subst (λ l. Takes took stopped a b (l ∷ []) r) is.holds.is takes) none;
  }

  -- where nothing was held, a line is taken where it lies
  pub takes_part : {a b : T} (h : Line) (part : List ℕ) (r : Result (Unit {0}) F) → IsPart part
      → ((held : List ℕ) → Holds h held → held ≡ []) → Takes took stopped a b (cut part ∷ []) r
      → ReadsOn took stopped a h b h (part ++ 10 ∷ []) r
  takes_part {b = b} h part r unended none takes = record {
    goes_on = λ first script is.
        let empty : is.part ≡ [] = none is.part is.holds in
        let joined : IsCut (script ++ part) is.lines part = joins part (subst (IsCut script is.lines) empty is.cut) in
        subst (λ t. IsReadOr took stopped first b h t r) (append_assoc script part (10 ∷ []))
        (line_taken first h r joined unended is.taken takes (on_ok r (subst (Holds h) empty is.holds)));
  }

  -- all was handed out
  handed_out : {a b : T} (first : T) (h : Line) (script : List ℕ) (r : Result (Unit {0}) F) → Takes took stopped a b [] r
      → IsRead (took first a) h script
      → IsReadOr took stopped first b h (script ++ []) r
  handed_out {b = b} first h script (Ok done) takes is = record {
    lines = is.lines;
    part = is.part;
    cut = subst (λ t. IsCut t is.lines is.part) (sym (append-nil script)) is.cut;
    taken = subst (took first b) (append-nil is.lines) (takes.goes_on first is.lines is.taken);
    holds = is.holds;
  }
  handed_out first h script (Err e) takes is = λ rest.
      rw (append-nil script, is.cut.same true rest)
      (rw append-nil at (takes.goes_on first is.lines is.taken (lines_of true (is.part ++ rest))))

  pub hands_out : {a b : T} (h : Line) (r : Result (Unit {0}) F) → Takes took stopped a b [] r → ReadsOn took stopped a h b h [] r
  hands_out h r takes = record { goes_on = λ first script is. handed_out first h script r takes is }

  -- ---- the end of the script

  -- nothing is left
  pub ends_none : (t : T) (h : Line) → ((held : List ℕ) → Holds h held → held ≡ []) → EndsIn took stopped t h t (Ok tt)
  ends_none t h none = record {
    ends = λ first script is. rw (last-none (subst (IsCut script is.lines) (none is.part is.holds) is.cut)) is.taken;
  }

  -- a last line is left
  last_taken : {a b : T} {h i : Line} (first : T) (script : List ℕ) (r : Result (Unit {0}) F)
      → ((held : List ℕ) → Holds h held → 0 < length held) → ReadsOn took stopped a h b i (10 ∷ []) r
      → IsRead (took first a) h script
      → TookAllOr took stopped first b script r
  last_taken {b = b} first script (Ok done) some reads is =
      let last = reads.goes_on first script is in
      subst (took first b)
      (sym (lines-ended last.cut last.holds.unended) ∙ last-line false is.cut is.holds.unended (some is.part is.holds)) last.taken
  last_taken {b = b} first script (Err e) some reads is =
      subst (λ l. stopped first b l e) (last-line true is.cut is.holds.unended (some is.part is.holds)) (reads.goes_on first script is [])

  -- and taken as if a line feed ended it
  pub ends_some : {a b : T} {h i : Line} (r : Result (Unit {0}) F) → ((held : List ℕ) → Holds h held → 0 < length held)
      → ReadsOn took stopped a h b i (10 ∷ []) r
      → EndsIn took stopped a h b r
  ends_some r some reads = record { ends = λ first script is. last_taken first script r some reads is }

  -- ---- all pieces

  -- it stopped in a piece, of which this front lies within the limit
  pub stops_in : {first a b : T} {h i : Line} {e : F} {script front : List ℕ} (had mid has : Option (List ℕ)) (limit : ℕ)
      (piece : List ℕ) → Consumes had mid script → Consumes mid has piece → length script ≤ limit
      → front ≡ take (limit - length script) piece → IsRead (took first a) h script → ReadsOn took stopped a h b i front (Err e)
      → Reads (record { had = had; has = has; limit = limit }) (took first b) (stopped first b) (Err e)
  stops_in {first = first} {script = script} had mid has limit piece before next within is read reads = (
    script ++ piece,
    Consumes-trans had mid has script piece before next,
    inl (λ rest. rw (take-front script piece limit within, ← is) (reads.goes_on first script read rest)),
  )

  -- the script is too long
  pub reads_to_limit : {first a b : T} {h i : Line} {script front : List ℕ} (had mid has : Option (List ℕ)) (limit : ℕ)
      (piece : List ℕ) → Consumes had mid script → Consumes mid has piece → length script ≤ limit
      → limit < length script + length piece → front ≡ take (limit - length script) piece → IsRead (took first a) h script
      → ReadsOn took stopped a h b i front (Ok tt)
      → Reads (record { had = had; has = has; limit = limit }) (took first b) (stopped first b) (Ok extent.UpToLimit)
  reads_to_limit {first = first} {b = b} {script = script} had mid has limit piece before next within over is read reads = (
    script ++ piece,
    Consumes-trans had mid has script piece before next,
    rw length-append over,
    rw (take-front script piece limit within, ← is) (takes_ended (took first b) (reads.goes_on first script read)),
  )
