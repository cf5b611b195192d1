use Rattle.std.proofs.Common.{arith, ◌∙◌}
use Rattle.std.specs.Prelude.{◌==◌}
use Rattle.std.specs.Int.{bit_at}
use Rattle.std.proofs.lemmas.Bool.{ne_eqb}
use Rattle.std.proofs.lemmas.Nat.Bits.{bit_at-zero}
use Rattle.ordup_primary.proofs.LedgerLemmas.{where_below-empty}
use Rattle.ordup_primary.proofs.site_mask.sites_among.Goals as goal

pub returns-then-mask-eq0 : goal.returns-then-mask-eq0
returns-then-mask-eq0 c =
    rw c.if-mask-eq0.true (c.new-sites.ensures
    ∙ where_below-empty (λ s. bit_at 0 s == 1) c.args.count (λ s. ne_eqb (bit_at 0 s) 1 (λ e. absurd (omega (arith, e, bit_at-zero s)))))
