use Rattle.std.proofs.Common.{◌≡◌, ◌+◌, ◌*◌, ◌≤◌, ◌++◌, drop}
use Rattle.ordup_answers.specs.Texts.{windows_text}
use Rattle.ordup_answers.specs.declared.text.TheConstants.{MOST_WINDOW_BYTES}
use Rattle.ordup_answers.proofs.text.put_windows.Given as goal

-- the windows so far and those that are left are all of them, and each took its spare capacity
abbrev pub invariant-loop-window : goal.invariant-loop-window
invariant-loop-window g l =
    (l.out.text ++ windows_text (drop l.window-index l.windows) ≡ l.fn.out.text ++ windows_text l.windows)
    × (l.fn.out.spare ≤ l.out.spare + l.window-index * MOST_WINDOW_BYTES)
