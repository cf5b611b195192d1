-- What the passed bytes, and the state behind them, make of any further text is what the whole makes of it.
-- One step more, of a byte or of plain rows together, keeps this.
use Rattle.std.proofs.Common.{◌∙◌, ◌++◌, ◌<◌, ◌≡◌, ◌≤◌, arith, drop, get_or, length, refl, rules, sym, take}
use Rattle.std.proofs.lemmas.List.{drop_all, drop_more, length-drop, take_all, take_more}
use Rattle.ordup_check.specs.ShortRows.{ends_at_long_row}
use Rattle.ordup_check.proofs.LongRowLemmas.{over_none, over_some}
use Rattle.ordup_check.proofs.PlainRowLemmas.{passes_more}
use Rattle.ordup_check.proofs.short_rows.go_over.Goals as goal

pub loop-count-init : goal.loop-count-init
loop-count-init c = (search rules, λ more. refl)

pub returns-in_default-clause-text : goal.returns-in_default-clause-text
returns-in_default-clause-text c =
    let bytes = c.args.bytes.now in
    let i = c.loop-count.count in
    let within : i < length bytes = omega arith in
    over_none bytes i (get_or bytes i 0) (λ more. ends_at_long_row c.args.start c.args.spare (bytes ++ more))
    c.loop-count.state c.loop-count.left (take_more bytes i 0 within) (drop_more bytes i 0 within) c.loop-count.invariant.1
    (rw c.after-state.ensures at (sym c.left_after.ensures ∙ c.in_default.is))

pub loop-count-preserved-then-rows-gt0 : goal.loop-count-preserved-then-rows-gt0
loop-count-preserved-then-rows-gt0 c =
    let bytes = c.args.bytes.now in (
      search rules,
      passes_more bytes _ c.loop-count.count c.whole_rows-rows.result
          (λ more. ends_at_long_row c.args.start c.args.spare (bytes ++ more))
          (ends_at_long_row c.loop-count.state c.loop-count.left) (take_all _ _ (rw length-drop (omega arith)))
          c.loop-count.invariant.1 c.whole_rows-rows.ensures.text,
    )

pub loop-count-preserved : goal.loop-count-preserved
loop-count-preserved c =
    let bytes = c.args.bytes.now in
    let i = c.loop-count.count in
    let within : i < length bytes = omega arith in (
      search rules,
      rw c.after-state.ensures
          (over_some bytes i (get_or bytes i 0) (λ more. ends_at_long_row c.args.start c.args.spare (bytes ++ more))
          c.loop-count.state c.loop-count.left (take_more bytes i 0 within) (drop_more bytes i 0 within) c.loop-count.invariant.1
          c.in-Some.next (rw c.after-state.ensures at (sym c.left_after.ensures ∙ c.in-Some.is))),
    )

pub returns-clause-text : goal.returns-clause-text
returns-clause-text c more =
    let bytes = c.args.bytes.now in
    let state = c.loop-count.state in
    let left = c.loop-count.left in
    let all : length bytes ≤ c.loop-count.count = c.loop-count-test.false in
    let whole : take c.loop-count.count bytes ++ ends_at_long_row state left (drop c.loop-count.count bytes ++ more)
    ≡ take c.loop-count.count bytes ++ ends_at_long_row state left more =
    rw (drop_all c.loop-count.count bytes all) refl in
    c.loop-count.invariant.1 more ∙ whole
