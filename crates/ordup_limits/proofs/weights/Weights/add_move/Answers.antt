-- A move counts on its object, on all objects, and on the groups in the mask of its object.
-- What a scope has gained and what the bits that are left will add to it come to what the move weighs there.
use Rattle.std.proofs.Common.{arith, ap, length, ◌≡◌, ◌<◌, ◌∙◌, w64, get_or}
use Rattle.std.specs.Int.{bit_at, trailing_zeros}
use Rattle.std.proofs.Math.Facts.{Fits-lt-pow}
use Rattle.std.proofs.lemmas.Nat.Bits.{bit_at-trailing_zeros, bit_at-lt}
use Rattle.ordup_objects.specs.Sizes.{most_objects}
use Rattle.ordup_log.specs.declared.scope.Scope.TheVariants.{Object, Group, All as Everything}
use Rattle.ordup_limits.specs.Limits.{is_same_scope}
use Rattle.ordup_limits.specs.Masks.{counts_on}
use Rattle.ordup_limits.specs.StoreLedgers.{WeightsAt}
use Rattle.ordup_limits.specs.Totals.{share}
use Rattle.ordup_limits.proofs.MaskLemmas.{cleared-less, share-most}
use Rattle.ordup_limits.proofs.GroupBitLemmas.{bit-known, bits-left, has_left-none, mask-at, share-left, share-parts}
use Rattle.ordup_limits.proofs.SiteLemmas.{raised-at, scope_index-small}
use Rattle.ordup_limits.proofs.weights.Weights.add_move.Goals as goal

pub add-requires : goal.add-requires
add-requires g c =
    let x = c.args.moved.now.object in
    record {
      index = scope_index-small (length c.args.log.now.start) c.args.groups.now (Object x) c.requires.objects c.keeps.ensures.few c.requires.known;
      fits = omega (arith, c.requires.few (Object x) c.requires.known, c.requires.distance, c.from-weight.ensures);
    }

pub add-requires-2 : goal.add-requires-2
add-requires-2 g c =
    let x = c.args.moved.now.object in
    record {
      index = omega arith;
      fits = omega (
        arith,
        c.requires.few Everything tt,
        raised-at (length c.args.log.now.start) c.args.groups.now c.args.self.now c.add.new.self (Object x) Everything c.from-weight.result
            c.requires.objects c.keeps.ensures.few c.requires.known tt c.add.ensures.count c.add.ensures.raised,
        c.requires.distance,
        c.from-weight.ensures,
      );
    }

pub of-rest-requires : goal.of-rest-requires
of-rest-requires g c = omega (arith, c.requires.known, c.requires.objects)

pub loop-rest-init : goal.loop-rest-init
loop-rest-init g c =
    let n = length c.args.log.now.start in
    let groups = c.args.groups.now in
    let x = c.args.moved.now.object in
    let below : x < most_objects = omega (arith, c.requires.known, c.requires.objects) in
    record {
      place = ap (λ (w : WeightsAt). w.place) c.add-2.ensures.raised ∙ ap (λ (w : WeightsAt). w.place) c.add.ensures.raised;
      left = λ s known. rw c.of-rest.ensures (omega (
        arith,
        raised-at n groups c.args.self.now c.add.new.self (Object x) s c.from-weight.result c.requires.objects c.keeps.ensures.few
            c.requires.known known c.add.ensures.count c.add.ensures.raised,
        raised-at n groups c.add.new.self c.add-2.new.self Everything s c.from-weight.result c.requires.objects c.keeps.ensures.few
            tt known c.add-2.ensures.count c.add-2.ensures.raised,
        share-parts n groups x (get_or c.args.masks.now x 0) c.from-weight.result c.keeps.ensures.few
            (λ b small. mask-at groups c.args.masks.now x b c.requires.masks below small) s known,
      ));
      bits = λ i lt. rw c.of-rest.ensures (omega arith);
    }

pub add-requires-in-loop-rest : goal.add-requires-in-loop-rest
add-requires-in-loop-rest g c =
    let rest = c.loop-rest.rest in
    let groups = c.args.groups.now in
    let x = c.args.moved.now.object in
    let mask = get_or c.args.masks.now x 0 in
    let below : x < most_objects = omega (arith, c.requires.known, c.requires.objects) in
    let low = bit_at-trailing_zeros w64 rest (omega (arith, c.loop-rest-test.true)) (Fits-lt-pow c.loop-rest.auto.rest-fits) in
    let z = trailing_zeros w64 rest in
    let one : bit_at mask z ≡ 1 = omega (arith, low.1, c.loop-rest.invariant.bits z low.0, bit_at-lt mask z) in
    let group = c.new-group.result in
    let known : group < length groups =
    omega (
      arith,
      c.new-group.ensures,
      low.0,
      bit-known groups x mask z (λ b small. mask-at groups c.args.masks.now x b c.requires.masks below small) low.0 one,
    ) in
    record {
      index = omega (arith, known, c.keeps.ensures.few);
      fits = omega (
        arith,
        c.loop-rest.invariant.left (Group group) known,
        c.requires.few (Group group) known,
        share-most (counts_on groups (Group group) x) c.from-weight.result,
        c.requires.distance,
        c.from-weight.ensures,
      );
    }

pub loop-rest-smaller : goal.loop-rest-smaller
loop-rest-smaller g c =
    let rest = c.loop-rest.rest in
    let low = bit_at-trailing_zeros w64 rest (omega (arith, c.loop-rest-test.true)) (Fits-lt-pow c.loop-rest.auto.rest-fits) in
    cleared-less rest _ low.0 low.1

pub loop-rest-preserved : goal.loop-rest-preserved
loop-rest-preserved g c =
    let n = length c.args.log.now.start in
    let groups = c.args.groups.now in
    let x = c.args.moved.now.object in
    let mask = get_or c.args.masks.now x 0 in
    let below : x < most_objects = omega (arith, c.requires.known, c.requires.objects) in
    let rest = c.loop-rest.rest in
    let low = bit_at-trailing_zeros w64 rest (omega (arith, c.loop-rest-test.true)) (Fits-lt-pow c.loop-rest.auto.rest-fits) in
    let z = trailing_zeros w64 rest in
    let one : bit_at mask z ≡ 1 = omega (arith, low.1, c.loop-rest.invariant.bits z low.0, bit_at-lt mask z) in
    let here : c.new-group.result ≡ z = omega (arith, c.new-group.ensures, low.0) in
    let there : c.new-group.result < length groups =
    omega (arith, here, bit-known groups x mask z (λ b small. mask-at groups c.args.masks.now x b c.requires.masks below small) low.0 one) in
    record {
      place = ap (λ (w : WeightsAt). w.place) c.add-in-loop-rest.ensures.raised ∙ c.loop-rest.invariant.place;
      left = λ s known. omega (
        arith,
        c.loop-rest.invariant.left s known,
        raised-at n groups c.loop-rest.self c.add-in-loop-rest.new.self (Group c.new-group.result) s c.from-weight.result
            c.requires.objects c.keeps.ensures.few there known c.add-in-loop-rest.ensures.count c.add-in-loop-rest.ensures.raised,
        ap (λ k. share (is_same_scope (Group k) s) c.from-weight.result) here,
        share-left n groups rest z c.from-weight.result c.keeps.ensures.few low.0 low.1 s known,
      );
      bits = bits-left rest mask z low.0 c.loop-rest.invariant.bits;
    }

pub returns : goal.returns
returns g c =
    let none : c.loop-rest.rest ≡ 0 = omega (arith, c.loop-rest-test.false) in
    record {
      place = c.loop-rest.invariant.place;
      raised = λ s known. rw (← c.from-weight.ensures)
          (omega (arith, rw none at (c.loop-rest.invariant.left s known), has_left-none s c.from-weight.result));
    }
