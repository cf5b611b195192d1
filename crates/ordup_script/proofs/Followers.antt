-- What each line adds to how far a follower has come.
use Rattle.std.proofs.Common.{◌≡◌, sym, subst, List, [], ◌∷◌, ◌++◌, Result, Ok, Err, OnOk}
use Rattle.ordup_answers.specs.Answers.{Leaves}
use Rattle.ordup_answers.specs.Replies.{request_reply, reply}
use Rattle.ordup_answers.specs.ScriptStates.{ScriptState, Stands}
use Rattle.ordup_grammar.specs.Requests.{Request, request_of}
use Rattle.ordup_grammar.specs.Lines.{Line}
use Rattle.ordup_script.specs.Followers.{HasFollowed}
use Rattle.ordup_script.specs.Readings.{Takes}
use Rattle.ordup_answers.specs.Output.{Written, answered, written}
use Rattle.ordup_script.specs.declared.following.Follower.{Follower}
use Rattle.ordup_script.proofs.Output.{after_lines-append}

-- one line more is followed
pub follows_line : {A : Type 0} (before after : Follower A) (earlier : List Line) (request : Request) (line : Line)
    → HasFollowed before earlier → request ≡ request_of line
    → ((s : ScriptState A) → Stands before.script s → Leaves (Stands after.script) (λ text. Unit {0}) (request_reply s request))
    → HasFollowed after (earlier ++ line ∷ [])
unfolding reply
follows_line {A} before after earlier request line h is leaves =
    let w : Written A = written A earlier in
    let left = subst (λ (a : Request). Leaves {A = A} (Stands after.script) (λ text. Unit {0}) (request_reply w.0 a)) is (leaves w.0 h) in
    let next : written A (earlier ++ line ∷ []) ≡ answered w line = after_lines-append answered _ earlier (line ∷ []) in
    subst (λ (v : Written A). Stands after.script v.0) (sym next) left.0

pub takes_line : {A F : Type 0} (before after : Follower A) (request : Request) (line : Line) (r : Result (Unit {0}) F)
    → request ≡ request_of line
    → OnOk r ((s : ScriptState A) → Stands before.script s → Leaves (Stands after.script) (λ text. Unit {0}) (request_reply s request))
    → Takes (λ (first now : Follower A) lines. HasFollowed now lines) (λ first now lines (e : F). Unit {0}) before after (line ∷ []) r
takes_line before after request line (Ok done) is leaves = record {
  goes_on = λ first earlier h. follows_line before after earlier request line h is leaves;
}
takes_line before after request line (Err e) is leaves = record { goes_on = λ first earlier h later. tt }
