-- The results before the index are in range. If the loop came to its end, all would be, and the set would be legal.
use Rattle.ordup_audit.proofs.Common.{◌∙◌, ◌≡◌, ◌≤◌, arith, false≢true, greatest_value, in_range, is_legal, of_z, result_at, rules}
use Rattle.ordup_audit.proofs.Common.{sym, to_z, to_z-of_z, true, w64}
use Rattle.std.specs.Int.RustNames.{unsigned_abs}
use Rattle.ordup_audit.proofs.LegalityLemmas.{all-pass, result-fails, results-more}
use Rattle.ordup_audit.proofs.legality.first_out_of_range.Goals as goal

pub result-requires : goal.result-requires
result-requires g c =
    let change = c.index-changes-index.result in
    record {
      known = rw (← c.index-changes-index.is) at (c.requires.known c.loop-index.index change c.loop-index-test.true);
      number = rw (← c.index-changes-index.is) at (c.requires.numbers c.loop-index.index change c.loop-index-test.true);
    }

pub returns-then-unsigned_abs-gt-GREATEST_VALUE : goal.returns-then-unsigned_abs-gt-GREATEST_VALUE
returns-then-unsigned_abs-gt-GREATEST_VALUE g c =
    let same : to_z w64 (of_z w64 c.result.result) ≡ c.result.result = to_z-of_z w64 c.result.result (search rules) in
    let many = rw same at (rw c.unsigned_abs.ensures.value at c.if-unsigned_abs-gt-GREATEST_VALUE.true) in
    record {
      there = c.loop-index-test.true;
      fails = result-fails c.args.values.now c.args.changes.now c.loop-index.index c.index-changes-index.result c.result.result
          c.loop-index-test.true c.index-changes-index.is c.result.ensures many;
      before = c.loop-index.invariant;
    }

pub loop-index-preserved : goal.loop-index-preserved
loop-index-preserved g c =
    let same : to_z w64 (of_z w64 c.result.result) ≡ c.result.result = to_z-of_z w64 c.result.result (search rules) in
    let few : unsigned_abs c.result.result ≤ greatest_value =
    rw same at (rw c.unsigned_abs.ensures.value at c.if-unsigned_abs-gt-GREATEST_VALUE.false) in
    results-more c.args.values.now c.args.changes.now c.loop-index.index c.index-changes-index.result
    c.result.result c.loop-index-test.true c.index-changes-index.is c.result.ensures few c.loop-index.invariant

pub unreachable-requires : goal.unreachable-requires
unreachable-requires g c =
    let v = c.args.values.now in
    let all : is_legal c.args.changes.now v ≡ true =
    all-pass (λ d. in_range (result_at v d)) c.args.changes.now (λ k lt. c.loop-index.invariant k (omega arith)) in
    false≢true (sym c.requires.illegal ∙ all)
