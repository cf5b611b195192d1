-- What the declarations of a script make of what is declared.
use Rattle.std.specs.Prelude.{length, Result}
use Rattle.ordup_objects.specs.Tables.{object_refusal}
use Rattle.ordup_objects.specs.declared.refusal.Refusal.{Refusal}
use Rattle.ordup_log.specs.Groups.{group_refusal}
use Rattle.ordup_primary.specs.Declarations.{Declared, with_object, with_group, with_site, with_limit, site_refusal, site_limit_refusal}
use Rattle.ordup_grammar.specs.Numbers.{amount_of}
use Rattle.ordup_grammar.specs.declared.declaration.Declaration.{Declaration}
use Rattle.ordup_grammar.specs.declared.declaration.Declaration.TheVariants.{Object, Group, Site, Limit}
use Rattle.ordup_answers.specs.Names.{index_among, indices_among, scope_in}
use Rattle.ordup_answers.specs.Refusals.{unless}

-- what is declared with one declaration more, or why it is refused
abbrev pub with_declaration : Declared → Declaration → Result Declared Refusal
with_declaration d (Object name initial) = unless (object_refusal d.objects name initial) (with_object d name initial)
with_declaration d (Group name words) =
    let members = indices_among d.objects words in
    unless (group_refusal (length d.objects) d.groups name members) (with_group d name members)
with_declaration d (Site name capacity) =
    unless (site_refusal d.sites name (amount_of capacity)) (with_site d name (amount_of capacity))
with_declaration d (Limit site what number) =
    let s = index_among d.sites site in
    let scope = scope_in d what in
    let amount = amount_of number in
    unless (site_limit_refusal d s scope amount) (with_limit d s scope amount)
