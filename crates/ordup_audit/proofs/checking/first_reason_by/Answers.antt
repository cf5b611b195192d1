-- The reasons are looked for in order. Where one is found, the calls before it have shown that no earlier one is there.
use Rattle.std.proofs.Common.{◌∙◌, ap, length, refl, rules, sym}
use Rattle.ordup_audit.proofs.VerdictLemmas.{legal-history}
use Rattle.ordup_audit.proofs.checking.first_reason_by.Goals as goal

pub first_broken-requires : goal.first_broken-requires
first_broken-requires g c = record {
  legal = legal-history c.args.audited.now c.keeps.ensures c.requires.legal;
  starts = c.requires.starts;
}

pub returns-in-Some : goal.returns-in-Some
returns-in-Some g c = record { none = tt; some = (c.requires.legal, c.in-Some.ensures.some) }

pub first_light-requires : goal.first_light-requires
first_light-requires g c = record {
  legal = legal-history c.args.audited.now c.keeps.ensures c.requires.legal;
  starts = c.requires.starts;
}

pub returns-in-Some-first_light : goal.returns-in-Some-first_light
returns-in-Some-first_light g c = record {
  none = tt;
  some = (c.requires.legal, c.in_default.ensures.none, c.in-Some-first_light.ensures.some);
}

pub returns-in-Some-first_meeting : goal.returns-in-Some-first_meeting
returns-in-Some-first_meeting g c = record {
  none = tt;
  some = (c.requires.legal, c.in_default.ensures.none, search rules, c.in-Some-first_meeting.ensures.some);
}

pub returns-in-Some-first_reported : goal.returns-in-Some-first_reported
returns-in-Some-first_reported g c = record {
  none = tt;
  some = (
    c.requires.legal,
    c.in_default.ensures.none,
    c.in_default-first_light.ensures.none,
    c.in_default-first_meeting.ensures.none,
    c.in-Some-first_reported.ensures.some,
  );
}

pub returns-then-windows-rounds : goal.returns-then-windows-rounds
returns-then-windows-rounds g c = record {
  none = tt;
  some = (
    c.requires.legal,
    c.in_default.ensures.none,
    c.in_default-first_light.ensures.none,
    c.in_default-first_meeting.ensures.none,
    c.in_default-first_reported.ensures.none,
    λ same. c.if-windows-rounds.true (ap length c.windows.ensures ∙ same ∙ sym (ap length c.rounds.ensures)),
    c.last_row.ensures,
  );
}

pub returns : goal.returns
returns g c = record {
  none = (
    c.requires.legal,
    c.in_default.ensures.none,
    c.in_default-first_light.ensures.none,
    c.in_default-first_meeting.ensures.none,
    c.in_default-first_reported.ensures.none,
    sym (ap length c.windows.ensures) ∙ c.if-windows-rounds.false ∙ ap length c.rounds.ensures,
    refl,
  );
  some = tt;
}
