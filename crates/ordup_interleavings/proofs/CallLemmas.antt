-- The calls of ordup_holds make holds.
use Rattle.std.proofs.Common.{refl}
use Rattle.std.specs.Prelude.{Ok, Err}
use Rattle.ordup_objects.specs.declared.refusal.Refusal.TheVariants.{NoMemory}
use Rattle.ordup_interleavings.specs.Calls.{CallsMakeHolds}

pub calls-make-holds : CallsMakeHolds
calls-make-holds = record {
  number = λ m a set b is known allowed e. rw e (record { is = is; known = known; allowed = allowed }, refl);
  number_and_turn = λ m a set b turn is known allowed turned. (record { is = is; known = known; allowed = allowed }, turn, turned, refl);
  turn = λ m b turned. (Ok b.primary.acked, (refl, turned), refl);
  turn_refused = λ m b turned. (Err NoMemory, (refl, turned), refl);
  relimit = λ m s scope amount b e allowed. rw e (allowed, refl);
  begin = λ m q s limit k is count marks allowed. (k, record { query = is; count = count; marks = marks; allowed = allowed }, refl);
  take = λ m s number c d at takes. (c, d, number, at, takes, refl);
  view = λ m a s x c value applied at is count lt seen. rw (is, count) (c, at, lt, rw count at seen, refl);
  read = λ m q x k c a new asked at marked value import total allowed e read is.
      rw (e, is) (k, c, a, asked, at, marked, record { allowed = allowed; value = value; import = import; total = total }, refl);
}
