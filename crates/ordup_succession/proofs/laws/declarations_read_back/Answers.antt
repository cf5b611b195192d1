-- By what the tables keep, each declaring line is one of words, which is read back as it was written.
-- The lines then declare the setup part by part, since none of them is refused.
use Rattle.std.proofs.Common.{◌∙◌}
use Rattle.ordup_succession.specs.DeclaringLines.{declaring_lines}
use Rattle.ordup_succession.proofs.DeclaringLemmas.{setup_declared}
use Rattle.ordup_succession.proofs.LineLemmas.{lines_read}
use Rattle.ordup_succession.proofs.Tables.{HasTables}
use Rattle.ordup_succession.proofs.WordLines.{setup_is_lines}
use Rattle.ordup_succession.proofs.laws.declarations_read_back.Goals as goal

pub returns : goal.returns
returns g c = λ ready.
    let d = c.args.setup.now in
    let objects = c.objects.ensures in
    let groups = c.groups.ensures.groups in
    let has : HasTables d = record {
      declared = c.keeps.ensures;
      ready = ready;
      objects = rw objects at c.keeps-2.ensures.names;
      apart = rw objects at c.keeps-2.ensures.distinct;
      few = rw objects at c.keeps-2.ensures.few;
      state = rw objects at c.keeps-2.ensures.state;
      groups = rw groups at c.keeps-3.ensures.names;
      groups_apart = rw groups at c.keeps-3.ensures.distinct;
      few_groups = rw groups at c.keeps-3.ensures.few;
      members = rw groups at c.keeps-3.ensures.groups;
      sites = c.sites-sites.ensures.names;
      sites_apart = c.sites-sites.ensures.distinct;
      entries = c.limits_keep.ensures;
    } in
    lines_read _ (declaring_lines d) (setup_is_lines d has) ∙ setup_declared d has
