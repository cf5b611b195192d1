-- What the log keeps beside its updates follows from their moves. With the moves of the set behind them, it is what a log
-- with one update more keeps. A refused set changes nothing that contracts see.
use Rattle.std.proofs.Common.{arith, ◌∙◌, ◌≡◌, ◌∷◌, [], ◌++◌, ◌+◌, ◌<◌, ap, refl, true, length, sym, subst, drop, sum_by, List}
use Rattle.std.specs.Prelude.{All, ◌^◌}
use Rattle.std.proofs.lemmas.List.{length-append}
use Rattle.ordup_objects.specs.declared.moved.Moved.{Moved}
use Rattle.ordup_objects.specs.States.{is_legal}
use Rattle.ordup_objects.specs.Serial.{History}
use Rattle.ordup_objects.specs.Sets.{AreKnown}
use Rattle.ordup_objects.specs.Marks.{mark_at}
use Rattle.ordup_objects.specs.Moves.{moves_of}
use Rattle.ordup_log.specs.Moving.{distance_on}
use Rattle.ordup_log.specs.Rows.{row_due}
use Rattle.ordup_log.proofs.LogLemmas.{allowed, not_allowed, last-moves, moves-short, IsLog-same, IsLog-longer, travelled-fits}
use Rattle.ordup_log.proofs.MovingLemmas.{known-moves}
use Rattle.ordup_log.proofs.log.Log.append_or_return.Goals as goal

pub results-requires : goal.results-requires
results-requires g c =
    let known : AreKnown (length c.self.inside.start) c.args.set = rw (← c.self.view_is) at c.requires in
    rw c.self.invariant.same known

pub invariant_of-self : goal.invariant_of-self
invariant_of-self g c =
    let l = c.self.inside in
    IsLog-same l c.self.invariant l.sets l.moves l.begins l.marks refl refl refl refl

pub returns-in_default : goal.returns-in_default
returns-in_default g c = record {
  number = tt;
  added = tt;
  allowed = tt;
  refused = rw (not_allowed c.self.inside c.self.invariant c.args.self.now c.args.set c.self.view_is (omega arith)
      (sym c.in_default.ensures.legal)) refl;
  returned = refl;
  err = c.self.view_is;
}

pub overflow_add-number : goal.overflow_add-number
overflow_add-number g c = omega arith

pub invariant_of-self-in_default-reserve_update : goal.invariant_of-self-in_default-reserve_update
invariant_of-self-in_default-reserve_update g c =
    let r = c.reserve_update in
    IsLog-same c.self.inside c.self.invariant r.new.sets r.new.moves r.new.begins r.new.marks
    r.ensures.sets r.ensures.moves r.ensures.begins r.ensures.marks

pub returns-in_default-reserve_update : goal.returns-in_default-reserve_update
returns-in_default-reserve_update g c = record {
  number = tt;
  added = tt;
  allowed = tt;
  refused = rw (allowed c.self.inside c.self.invariant c.args.self.now c.args.set c.self.view_is (omega arith)
      (sym c.in-Ok.ensures.legal)) refl;
  returned = refl;
  err = rw c.reserve_update.ensures.sets c.self.view_is;
}

pub push_moves-requires-clause-known : goal.push_moves-requires-clause-known
push_moves-requires-clause-known g c =
    let known : AreKnown (length c.self.inside.start) c.args.set = rw (← c.self.view_is) at c.requires in
    rw c.self.invariant.same known

pub push_moves-requires-clause-legal : goal.push_moves-requires-clause-legal
push_moves-requires-clause-legal g c = sym c.in-Ok.ensures.legal

pub push_moves-requires-clause-results : goal.push_moves-requires-clause-results
push_moves-requires-clause-results g c = c.in-Ok.ensures.results

pub push_moves-requires-clause-spare : goal.push_moves-requires-clause-spare
push_moves-requires-clause-spare g c = rw c.changes.ensures.changes at c.in-Ok-reserve_update.ensures.move_spare

pub note_update-requires : goal.note_update-requires
note_update-requires g c =
    let l = c.self.inside in
    let is = c.self.invariant in
    let spare = c.reserve_update.ensures in
    let known : AreKnown (length l.start) c.args.set = rw (← c.self.view_is) at c.requires in
    let legal : is_legal c.args.set l.end ≡ true = sym c.in-Ok.ensures.legal in
    let begin : c.len-begin.result ≡ length c.reserve_update.new.moves.items = c.len-begin.ensures ∙ c.reserve_update.new.moves.ok.0 in
    let are : drop c.len-begin.result c.as_slice.result.now ≡ moves_of l.end c.args.set =
    last-moves c.reserve_update.new.moves.items c.push_moves.new.moves.items c.as_slice.result.now (moves_of l.end c.args.set)
    c.len-begin.result c.push_moves.ensures c.as_slice.ensures.value begin in
    record {
      begin = omega (
        arith,
        begin,
        ap length (c.as_slice.ensures.value ∙ c.push_moves.ensures),
        length-append c.reserve_update.new.moves.items (moves_of l.end c.args.set),
      );
      short = omega (arith, begin, ap length spare.moves, moves-short l is);
      known = subst (All (λ (d : Moved). d.object < length l.travelled.items)) (sym are)
          (known-moves l.end c.args.set (length l.travelled.items) (rw is.count (λ k d lt. (known k d lt).0)));
      few = λ x lt. subst (λ (ms : List Moved). mark_at l.travelled.items x + sum_by (distance_on x) ms < 2 ^ 64) (sym are)
          (travelled-fits l is c.args.set c.changes.ensures.set legal known (omega arith) x (omega (arith, lt, is.count)));
      begin_spare = c.in-Ok-reserve_update.ensures.begin_spare;
      mark_spare = rw (c.len-3.ensures ∙ l.travelled.ok.0) at c.in-Ok-reserve_update.ensures.mark_spare;
    }

pub put-requires-clause-known : goal.put-requires-clause-known
put-requires-clause-known g c =
    let known : AreKnown (length c.self.inside.start) c.args.set = rw (← c.self.view_is) at c.requires in
    rw c.self.invariant.same known

pub put-requires-clause-legal : goal.put-requires-clause-legal
put-requires-clause-legal g c = sym c.in-Ok.ensures.legal

pub put-requires-clause-results : goal.put-requires-clause-results
put-requires-clause-results g c = c.in-Ok.ensures.results

pub push_reserved-requires : goal.push_reserved-requires
push_reserved-requires g c = c.in-Ok-reserve_update.ensures.set_spare

pub invariant_of-self-2 : goal.invariant_of-self-2
invariant_of-self-2 g c =
    let l = c.self.inside in
    let spare = c.reserve_update.ensures in
    let note = c.note_update.ensures in
    let known : AreKnown (length l.start) c.args.set = rw (← c.self.view_is) at c.requires in
    let legal : is_legal c.args.set l.end ≡ true = sym c.in-Ok.ensures.legal in
    let begin : c.len-begin.result ≡ length c.reserve_update.new.moves.items = c.len-begin.ensures ∙ c.reserve_update.new.moves.ok.0 in
    let are : drop c.len-begin.result c.as_slice.result.now ≡ moves_of l.end c.args.set =
    last-moves c.reserve_update.new.moves.items c.push_moves.new.moves.items c.as_slice.result.now (moves_of l.end c.args.set)
    c.len-begin.result c.push_moves.ensures c.as_slice.ensures.value begin in
    IsLog-longer l c.self.invariant c.args.set c.changes.ensures.set legal known c.push_reserved.new.self c.push_moves.new.moves
    c.note_update.new.begins c.note_update.new.travelled c.note_update.new.marks c.put.new.self (c.len-2.result + 1) c.len-begin.result
    (omega arith)
    (omega (arith, c.len-2.ensures))
    (begin ∙ ap length spare.moves)
    (c.push_reserved.ensures.items ∙ ap (λ xs. xs ++ c.args.set ∷ []) spare.sets)
    (c.push_moves.ensures ∙ ap (λ xs. xs ++ moves_of l.end c.args.set) spare.moves)
    (note.begins ∙ ap (λ xs. xs ++ c.len-begin.result ∷ []) spare.begins)
    note.count
    (λ x lt. note.travelled x lt ∙ ap (λ ms. mark_at l.travelled.items x + sum_by (distance_on x) ms) are)
    (note.marks ∙ ap (λ xs. xs ++ row_due (c.len-2.result + 1) c.note_update.new.travelled.items) spare.marks)
    c.put.ensures.after

pub returns : goal.returns
returns g c = record {
  number = ap (λ n. n + 1) (c.len-2.ensures ∙ c.self.inside.sets.ok.0) ∙ ap (λ (h : History). length h.sets + 1) c.self.view_is;
  added = rw (c.push_reserved.ensures.items, c.reserve_update.ensures.sets, ← c.self.view_is) refl;
  allowed = allowed c.self.inside c.self.invariant c.args.self.now c.args.set c.self.view_is (omega arith) (sym c.in-Ok.ensures.legal);
  refused = tt;
  returned = tt;
  err = tt;
}
