-- Each step takes a bit off the mask and raises the total of this bit.
-- So a total has the weight once its bit is gone, and a total that has no bit stays.
use Rattle.std.proofs.Common.{arith, ◌∙◌, w64}
use Rattle.std.proofs.Math.ListN.{length-set}
use Rattle.std.proofs.lemmas.List.{get_or_read, get_or-set_other}
use Rattle.std.specs.Prelude.{◌==◌}
use Rattle.std.specs.Int.{bit_at, trailing_zeros}
use Rattle.std.proofs.Math.Facts.{Fits-lt-pow}
use Rattle.std.proofs.lemmas.Nat.Bits.{bit_at-trailing_zeros, bit_at-zero}
use Rattle.ordup_limits.proofs.MaskLemmas.{cleared-less, share-most, share-next}
use Rattle.ordup_limits.proofs.RaisedLemmas.{HaveTotalAt-set}
use Rattle.ordup_limits.proofs.totals.Totals.add.Goals as goal

pub index_mut-requires : goal.index_mut-requires
index_mut-requires g c =
    let rest = c.loop-rest.rest in
    let low = bit_at-trailing_zeros w64 rest (omega (arith, c.loop-rest-test.true)) (Fits-lt-pow c.loop-rest.auto.rest-fits) in
    omega (arith, low.0, c.loop-rest.invariant.count, c.loop-rest.self-inside.totals.ok.0)

pub overflow_add-index_mut : goal.overflow_add-index_mut
overflow_add-index_mut g c =
    let rest = c.loop-rest.rest in
    let low = bit_at-trailing_zeros w64 rest (omega (arith, c.loop-rest-test.true)) (Fits-lt-pow c.loop-rest.auto.rest-fits) in
    let index = trailing_zeros w64 rest in
    omega (
      arith,
      get_or_read c.loop-rest.self-inside.totals.items _ _ (omega (arith, low.0, c.loop-rest.invariant.count)) c.index_mut.ensures.value 0,
      c.loop-rest.invariant.totals index low.0,
      share-most (bit_at c.args.mask index == 1) c.args.weight,
      (rw (← c.self.view_is) at c.requires.few) index,
      c.requires.weight,
    )

pub loop-rest-smaller : goal.loop-rest-smaller
loop-rest-smaller g c =
    let rest = c.loop-rest.rest in
    let low = bit_at-trailing_zeros w64 rest (omega (arith, c.loop-rest-test.true)) (Fits-lt-pow c.loop-rest.auto.rest-fits) in
    cleared-less rest _ low.0 low.1

pub loop-rest-preserved : goal.loop-rest-preserved
loop-rest-preserved g c =
    let rest = c.loop-rest.rest in
    let totals = c.loop-rest.self-inside.totals.items in
    let before = c.loop-rest.invariant in
    let low = bit_at-trailing_zeros w64 rest (omega (arith, c.loop-rest-test.true)) (Fits-lt-pow c.loop-rest.auto.rest-fits) in
    let z = trailing_zeros w64 rest in
    record {
      count = length-set totals _ _ ∙ before.count;
      totals = λ k below.
          share-next totals _ rest z k c.index_mut.result.now c.args.weight _ low.0 below low.1
          (HaveTotalAt-set totals z _ (omega (arith, low.0, before.count)))
          (get_or_read totals _ _ (omega (arith, low.0, before.count)) c.index_mut.ensures.value 0) (before.totals k below);
      others = λ k past. get_or-set_other totals z k _ 0 (λ e. absurd (omega (arith, e, past, low.0))) ∙ before.others k past;
    }

pub returns : goal.returns
returns g c =
    rw (← c.self.view_is) (record {
      each = λ k lt. omega (arith, rw (c.loop-rest-test.false, bit_at-zero k) at (c.loop-rest.invariant.totals k lt));
      others = c.loop-rest.invariant.others;
    })
