use Rattle.std.proofs.Common.{arith, ap, length, ◌-◌}
use Rattle.std.proofs.lemmas.Bool.{le-leb, leb-true}
use Rattle.ordup_limits.specs.declared.limit_entry.LimitEntry.{LimitEntry}
use Rattle.ordup_limits.proofs.entries.hold_from.Goals as goal

pub returns-in-Some : goal.returns-in-Some
returns-in-Some c =
    let entries = c.args.entries.now in
    let last = c.in-Some.entry.now in
    let item = c.in-Some.ensures.item in (
      λ le k d lt. omega (
        arith,
        leb-true last.place c.args.place le,
        c.requires k (length entries - 1) d (omega arith) (omega arith),
        ap (λ (e : LimitEntry). e.place) (item.3.1 d),
      ),
      λ hold. le-leb last.place c.args.place
          (omega (arith, hold (length entries - 1) last (omega (arith, item.3.0)), ap (λ (e : LimitEntry). e.place) item.1)),
    )
