-- An update at the end of the log changes nothing before it, and ledgers and decisions are about the updates before it.
use Rattle.std.proofs.Common.{refl, rules}
use Rattle.std.proofs.lemmas.Result.{on_ok_weaker, on_err_weaker}
use Rattle.ordup_objects.specs.Sets.{IsSet}
use Rattle.ordup_objects.specs.Serial.{History}
use Rattle.ordup_primary.specs.PrimaryInside.{state_of, KeepsPrimary}
use Rattle.ordup_primary.proofs.PrimaryLemmas.{IsPrimary-proposed, kept-appended}
use Rattle.ordup_primary.proofs.LedgerLemmas.{HasLedger-proposed}
use Rattle.ordup_primary.proofs.primary.Primary.propose.Goals as goal

pub append-appended-requires : goal.append-appended-requires
append-appended-requires g c = rw (← c.self.view_is) at c.requires

pub invariant_of-self : goal.invariant_of-self
invariant_of-self g c =
    let held = c.self.inside in
    let set : IsSet c.args.set = search rules in
    let before = c.self.invariant in
    kept-appended (λ (log : History). KeepsPrimary (record held { log = log })) c.append-appended.result held.log c.append-appended.new.self
    c.args.set before (λ allowed. record {
      primary = IsPrimary-proposed (state_of held) c.args.set before.primary set (rw (← c.self.view_is) at c.requires) allowed;
      ledger = HasLedger-proposed (state_of held) c.args.set held.ledger before.ledger;
      kept = before.kept;
    }) c.append-appended.ensures.added c.append-appended.ensures.allowed c.append-appended.ensures.err

pub returns : goal.returns
returns g c =
    let made = c.append-appended.ensures in
    rw (← c.self.view_is) (record {
      number = made.number;
      added = on_ok_weaker c.append-appended.result (λ is. rw is refl) made.added;
      allowed = made.allowed;
      refused = made.refused;
      err = on_err_weaker c.append-appended.result (λ is. rw is refl) made.err;
      sound = c.keeps.ensures.sound;
    })
