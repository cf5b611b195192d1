-- What a call tells of a text, worked out by hand: no definition can change its meaning unseen.
use Rattle.std.proofs.Common.{◌≡◌, ℕ, [], ◌∷◌, ap, length, refl, arith}
use Rattle.std.specs.Prelude.{codes}
use Rattle.ordup_answers.specs.Scripts.{lines_of}
use Rattle.ordup_c.specs.Calls.{status_of}
use Rattle.ordup_c.specs.Sessions.{AreWholeLines, kept}
use Rattle.ordup_c.specs.declared.session.Session.{Session}
use Rattle.ordup_c.specs.declared.status.TheConstants.{DONE, MORE, NO_MEMORY}

-- bytes that were not taken are told before answers that are kept
all_given : (v : Session) → kept v ≡ [] → status_of v 0 ≡ DONE
all_given v none = rw none refl

some_kept : (v : Session) → kept v ≡ 111 ∷ [] → status_of v 0 ≡ MORE
some_kept v one = rw one refl

some_left : (v : Session) → status_of v 3 ≡ NO_MEMORY
some_left v = refl

-- a text can be taken up to the end of a line, and not up to its last byte
whole_line : AreWholeLines 3 (codes "ab\ncd")
unfolding lines_of
whole_line = (omega arith, refl)

half_line : ¬ AreWholeLines 2 (codes "ab\ncd")
unfolding lines_of
half_line is = let count : 2 ≡ 3 = ap length is.1 in absurd (omega (arith, count))
