-- What lines ask for, worked out by hand: no definition can change its meaning unseen.
use Rattle.std.proofs.Common.{◌≡◌, pos, refl, [], ◌∷◌}
use Rattle.std.specs.Prelude.{neg_ℤ, None, Some, codes}
use Prim.Native.String.{String}
use Rattle.ordup_grammar.specs.Actions.{Send, Apply, Report, Settle, Read, End, Abandon, Show, Relimit, action_of}
use Rattle.ordup_grammar.specs.Commands.{Act, Declare}
use Rattle.ordup_grammar.specs.Keywords.{keyword_of}
use Rattle.ordup_grammar.specs.Requests.{Request, Command, NoCommand, request_of}
use Rattle.ordup_grammar.specs.declared.declaration.Declaration.TheVariants.{Limit}
use Rattle.ordup_grammar.specs.declared.declaration.ScopeWord.TheVariants.{Object, Group, All, Count}

abbrev asked : String → Request
asked line = request_of (Some (codes line))

-- a change of a limit has the words of a limit after its first
changed_limits : (asked "relimit a object x 5" ≡ Command (Act (Relimit (codes "a") (Object (codes "x")) (pos 5))))
    × (asked "relimit a group g 0" ≡ Command (Act (Relimit (codes "a") (Group (codes "g")) (pos 0))))
    × (asked "  relimit  a  all  -1 " ≡ Command (Act (Relimit (codes "a") All (neg_ℤ (pos 1)))))
    × (asked "relimit all count 12" ≡ Command (Act (Relimit (codes "all") Count (pos 12))))
unfolding request_of keyword_of
changed_limits = (refl, refl, refl, refl)

declared_limits : (asked "limit a object x 5" ≡ Command (Declare (Limit (codes "a") (Object (codes "x")) (pos 5))))
    × (asked "limit a group g 0" ≡ Command (Declare (Limit (codes "a") (Group (codes "g")) (pos 0))))
    × (asked "limit a all -1" ≡ Command (Declare (Limit (codes "a") All (neg_ℤ (pos 1)))))
    × (asked "limit all count 12" ≡ Command (Declare (Limit (codes "all") Count (pos 12))))
unfolding request_of keyword_of
declared_limits = (refl, refl, refl, refl)

no_changes : (asked "relimit" ≡ NoCommand)
    × (asked "relimit a" ≡ NoCommand)
    × (asked "relimit a all" ≡ NoCommand)
    × (asked "relimit all 5" ≡ NoCommand)
    × (asked "relimit a object 5" ≡ NoCommand)
    × (asked "relimit a count x 5" ≡ NoCommand)
    × (asked "relimit a count 5 5" ≡ NoCommand)
    × (asked "relimit a count 05" ≡ NoCommand)
    × (asked "relimit a site 5" ≡ NoCommand)
    × (asked "relimits a all 5" ≡ NoCommand)
    × (asked "Relimit a all 5" ≡ NoCommand)
unfolding request_of keyword_of
no_changes = (refl, refl, refl, refl, refl, refl, refl, refl, refl, refl, refl)

-- each keyword spells its own action
actions : (action_of (codes "send") (codes "a" ∷ []) ≡ Some (Send (codes "a")))
    × (action_of (codes "apply") (codes "a" ∷ []) ≡ Some (Apply (codes "a")))
    × (action_of (codes "report") (codes "a" ∷ []) ≡ Some (Report (codes "a")))
    × (action_of (codes "settle") [] ≡ Some Settle)
    × (action_of (codes "read") (codes "q" ∷ codes "x" ∷ []) ≡ Some (Read (codes "q") (codes "x")))
    × (action_of (codes "end") (codes "q" ∷ []) ≡ Some (End (codes "q")))
    × (action_of (codes "abandon") (codes "q" ∷ []) ≡ Some (Abandon (codes "q")))
    × (action_of (codes "show") (codes "a" ∷ []) ≡ Some (Show (codes "a")))
    × (action_of (codes "start") [] ≡ None)
    × (action_of (codes "certify") (codes "a" ∷ []) ≡ None)
unfolding keyword_of
actions = (refl, refl, refl, refl, refl, refl, refl, refl, refl, refl)
