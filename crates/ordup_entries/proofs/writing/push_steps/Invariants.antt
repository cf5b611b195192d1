use Rattle.std.proofs.Common.{◌≡◌, ◌++◌, take}
use Rattle.std.specs.List.{flat_map}
use Rattle.ordup_entries.specs.Steps.{step_text}
use Rattle.ordup_entries.specs.Entries.{line_of}
use Rattle.ordup_entries.proofs.writing.push_steps.Given as goal

-- each step so far is written
abbrev pub invariant-loop-step : goal.invariant-loop-step
invariant-loop-step g l = l.out.text ≡ l.fn.out.text ++ flat_map (λ s. line_of (step_text s)) (take l.step-index l.steps)
