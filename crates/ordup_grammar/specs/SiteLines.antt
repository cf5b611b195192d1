-- Lines of a keyword and a site.
use Rattle.std.specs.Prelude.{ℕ, List}
use Rattle.ordup_grammar.specs.Actions.{Action, Send, Apply, Report}
use Rattle.ordup_grammar.specs.declared.script_line.SiteAction.{SiteAction}
use Rattle.ordup_grammar.specs.declared.script_line.SiteAction.TheVariants as site

-- the action at a site of this name
abbrev pub action_at : SiteAction → List ℕ → Action
action_at site.Send s = Send s
action_at site.Apply s = Apply s
action_at site.Report s = Report s
