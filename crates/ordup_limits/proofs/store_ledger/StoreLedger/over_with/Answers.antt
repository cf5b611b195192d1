-- The mask of the object has a bit for each of its groups. The sites found so far are those over a limit on the object or on
-- a group whose bit is gone, and in the end no bit is left.
use Rattle.std.proofs.Common.{arith, ap, ◌≡◌, ◌<◌, ◌∙◌, length, get_or, w64}
use Rattle.std.specs.Int.{bit_at, trailing_zeros}
use Rattle.std.proofs.Math.Facts.{Fits-lt-pow}
use Rattle.std.proofs.lemmas.Nat.Bits.{bit_at-trailing_zeros, bit_at-lt}
use Rattle.ordup_objects.specs.Sizes.{most_objects}
use Rattle.ordup_log.specs.declared.scope.Scope.TheVariants.{Object, Group}
use Rattle.ordup_limits.specs.Limits.{is_same_scope}
use Rattle.ordup_limits.specs.StoreLedgers.{counts_within, AreOver, StoreLedgerState}
use Rattle.ordup_limits.proofs.MaskLemmas.{cleared, cleared-less}
use Rattle.ordup_limits.proofs.GroupBitLemmas.{beside-start, beside-next, beside-end, bit-known, bits-left, counts_beside, mask-at}
use Rattle.ordup_limits.proofs.SiteLemmas.{AreOver-or, AreOver-weaker}
use Rattle.ordup_limits.proofs.store_ledger.StoreLedger.over_with.Goals as goal

pub over_on-over-requires : goal.over_on-over-requires
over_on-over-requires g c = record { known = c.requires.object; stands = c.requires.stands }

pub of-rest-requires : goal.of-rest-requires
of-rest-requires g c = omega (arith, c.requires.object, c.requires.stands.objects)

pub loop-rest-init : goal.loop-rest-init
loop-rest-init g c =
    let h = c.args.log.now in
    let groups = c.args.groups.now in
    let l = c.args.self.now in
    let x = c.args.object in
    let below : x < most_objects = omega (arith, c.requires.object, c.requires.stands.objects) in
    let same : c.of-rest.result ≡ get_or l.masks x 0 =
    c.of-rest.ensures ∙ ap (λ (k : StoreLedgerState). get_or k.masks x 0) (c.self.view_is ∙ c.over_on-over.ensures.rest) in
    record {
      rest = c.over_on-over.ensures.rest;
      stands = c.over_on-over.ensures.stands;
      over = rw same (AreOver-weaker h groups l.added.place l.sites (is_same_scope (Object x))
          (counts_beside groups x (get_or l.masks x 0)) c.over_on-over.result c.over_on-over.ensures.over
          (λ s known is. beside-start (length h.start) groups x (get_or l.masks x 0) c.keeps.ensures.few
          (λ b small. mask-at groups l.masks x b c.requires.stands.masks below small) s known is));
      bits = λ i lt. rw same (omega arith);
    }

pub overflow_cast-bit : goal.overflow_cast-bit
overflow_cast-bit g c =
    let rest = c.loop-rest.rest in
    let low = bit_at-trailing_zeros w64 rest (omega (arith, c.loop-rest-test.true)) (Fits-lt-pow c.loop-rest.auto.rest-fits) in
    omega (arith, low.0)

pub over_on-over-requires-in-loop-rest : goal.over_on-over-requires-in-loop-rest
over_on-over-requires-in-loop-rest g c =
    let groups = c.args.groups.now in
    let l = c.args.self.now in
    let x = c.args.object in
    let mask = get_or l.masks x 0 in
    let below : x < most_objects = omega (arith, c.requires.object, c.requires.stands.objects) in
    let rest = c.loop-rest.rest in
    let low = bit_at-trailing_zeros w64 rest (omega (arith, c.loop-rest-test.true)) (Fits-lt-pow c.loop-rest.auto.rest-fits) in
    let z = trailing_zeros w64 rest in
    let one : bit_at mask z ≡ 1 = omega (arith, low.1, c.loop-rest.invariant.bits z low.0, bit_at-lt mask z) in
    record {
      known = omega (
        arith,
        c.new-group.ensures,
        low.0,
        bit-known groups x mask z (λ b small. mask-at groups l.masks x b c.requires.stands.masks below small) low.0 one,
      );
      stands = c.loop-rest.invariant.stands;
    }

pub overflow_cast-rest : goal.overflow_cast-rest
overflow_cast-rest g c =
    let rest = c.loop-rest.rest in
    let low = bit_at-trailing_zeros w64 rest (omega (arith, c.loop-rest-test.true)) (Fits-lt-pow c.loop-rest.auto.rest-fits) in
    omega (arith, low.0)

pub overflow_shl-rest : goal.overflow_shl-rest
overflow_shl-rest g c =
    let rest = c.loop-rest.rest in
    let low = bit_at-trailing_zeros w64 rest (omega (arith, c.loop-rest-test.true)) (Fits-lt-pow c.loop-rest.auto.rest-fits) in
    low.0

pub loop-rest-smaller : goal.loop-rest-smaller
loop-rest-smaller g c =
    let rest = c.loop-rest.rest in
    let low = bit_at-trailing_zeros w64 rest (omega (arith, c.loop-rest-test.true)) (Fits-lt-pow c.loop-rest.auto.rest-fits) in
    cleared-less rest _ low.0 low.1

pub loop-rest-preserved : goal.loop-rest-preserved
loop-rest-preserved g c =
    let h = c.args.log.now in
    let groups = c.args.groups.now in
    let l = c.args.self.now in
    let x = c.args.object in
    let rest = c.loop-rest.rest in
    let before = c.loop-rest.invariant in
    let low = bit_at-trailing_zeros w64 rest (omega (arith, c.loop-rest-test.true)) (Fits-lt-pow c.loop-rest.auto.rest-fits) in
    let z = trailing_zeros w64 rest in
    let here : c.new-group.result ≡ z = omega (arith, c.new-group.ensures, low.0) in
    let now = c.over_on-over-in-loop-rest in
    let over : AreOver h groups l.added.place l.sites (is_same_scope (Group z)) now.result = rw (before.rest, here) at now.ensures.over in
    record {
      rest = now.ensures.rest ∙ ap (λ (k : StoreLedgerState). record k { kept = now.new.self.kept }) before.rest;
      stands = now.ensures.stands;
      over = AreOver-or h groups l.added.place l.sites (counts_beside groups x rest) (is_same_scope (Group z))
          (counts_beside groups x (cleared rest z)) c.loop-rest.over now.result before.over over
          (λ s known is. beside-next (length h.start) groups x rest z c.keeps.ensures.few low.0 s known is);
      bits = bits-left rest (get_or l.masks x 0) z low.0 before.bits;
    }

pub returns : goal.returns
returns g c =
    let groups = c.args.groups.now in
    let l = c.args.self.now in
    let x = c.args.object in
    let after = c.loop-rest.invariant in
    record {
      rest = after.rest;
      stands = after.stands;
      over = AreOver-weaker c.args.log.now groups l.added.place l.sites (counts_beside groups x c.loop-rest.rest)
          (counts_within groups x) c.loop-rest.over after.over
          (λ s known is. beside-end groups x c.loop-rest.rest s (omega (arith, c.loop-rest-test.false)) is);
    }
