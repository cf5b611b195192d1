-- The record is a copy of what is lent. So it has the same content, and is valid since that is.
use Rattle.ordup_audit.proofs.Common.{◌<◌, ◌∙◌, ap, arith, history_of, length, RecordState, sym}
use Rattle.std.proofs.lemmas.Result.{err_from_is_err_and}
use Rattle.ordup_primary.specs.Declarations.{Declared}
use Rattle.ordup_record.proofs.RecordOfLemmas.{not-refused}
use Rattle.ordup_record.proofs.recording.record_of.Goals as goal

pub returns-in_err-parts : goal.returns-in_err-parts
returns-in_err-parts g c =
    let p = c.args.primary.now in
    let setup = ap (λ (d : Declared). length d.sites) c.setup.ensures in
    let known : c.args.site < length p.sites = omega (arith, c.index.ensures, c.sites.ensures.sites, setup, c.keeps.ensures.sound.count) in
    let failed = err_from_is_err_and c.from_residual.result c.from_residual.ensures.1 in
    rw (failed.1, failed.2) (record {
      content = tt;
      valid = tt;
      allowed = tt;
      refused = rw (not-refused p c.args.site known) c.in_err-parts.ensures.refused;
    })

pub lent_by-requires : goal.lent_by-requires
lent_by-requires g c =
    let setup = ap (λ (d : Declared). length d.sites) c.setup.ensures in
    omega (arith, c.index.ensures, c.sites.ensures.sites, setup, c.keeps.ensures.sound.count)

pub copy_parts-requires : goal.copy_parts-requires
copy_parts-requires g c =
    let content = sym c.lent_by.ensures.content in
    record {
      site = c.in_ok-parts.ensures.site ∙ ap (λ (r : RecordState). r.site) content;
      log = c.in_ok-parts.ensures.log ∙ ap history_of content;
      rest = c.in_ok-parts.ensures.rest;
    }

pub from_parts-requires : goal.from_parts-requires
from_parts-requires g c = c.in-Ok-or_give_up.ensures.parts

pub returns-2 : goal.returns-2
returns-2 g c =
    let p = c.args.primary.now in
    let setup = ap (λ (d : Declared). length d.sites) c.setup.ensures in
    let known : c.args.site < length p.sites = omega (arith, c.index.ensures, c.sites.ensures.sites, setup, c.keeps.ensures.sound.count) in
    let content = c.from_parts.ensures ∙ c.in-Ok-or_give_up.ensures.content in
    record {
      content = content ∙ c.lent_by.ensures.content;
      valid = rw content c.lent_by.ensures.valid;
      allowed = not-refused p c.args.site known;
      refused = tt;
    }

pub returns : goal.returns
returns g c =
    let p = c.args.primary.now in
    let setup = ap (λ (d : Declared). length d.sites) c.setup.ensures in
    let known : c.args.site < length p.sites = omega (arith, c.index.ensures, c.sites.ensures.sites, setup, c.keeps.ensures.sound.count) in
    record {
      content = tt;
      valid = tt;
      allowed = tt;
      refused = rw (not-refused p c.args.site known, c.or_give_up-into.ensures) c.in-Err-or_give_up.ensures.refused;
    }
