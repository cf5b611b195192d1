-- Each push asks for the parcel that comes next: the first, the second, and the second again, since it was handed back. The ends stay those
-- of one feed.
use Rattle.std.proofs.Common.{length, ap, sym, ◌∙◌, arith}
use Rattle.std.proofs.lemmas.List.{length-map, length_push}
use Rattle.ordup_feed.specs.Ends.{Sending, Taking}
use Rattle.tests_of_threads.proofs.feed.ring.a_full_ring_hands_the_parcel_back.Goals as goal

pub push-requires : goal.push-requires
push-requires g c =
    let made = c.in_ok-sender.ensures.ends.sender in
    let start = ap (λ (e : Sending). length e.start) made in
    let none = ap (λ (e : Sending). length e.pushed) made in
    c.parcel.ensures _ _ (start ∙ length-map _ _) (omega (arith, none))

pub push-requires-2 : goal.push-requires-2
push-requires-2 g c =
    let made = c.in_ok-sender.ensures.ends.sender in
    let pushed = c.is_full.ensures.same ∙ c.in-Ok.ensures.pushed in
    let start = ap (λ (e : Sending). length e.start) pushed ∙ ap (λ (e : Sending). length e.start) made in
    let none = ap (λ (e : Sending). length e.pushed) made in
    let one = ap (λ (e : Sending). length e.pushed) pushed in
    c.parcel-2.ensures _ _ (start ∙ length-map _ _)
    (omega (arith, none, one, length_push c.in_ok-sender.sender.pushed c.parcel.result))

pub compare-requires : goal.compare-requires
compare-requires g c =
    let feed = λ (e : Sending). e.feed in
    let sent =
    ap feed c.is_full-2.ensures.same ∙ ap feed c.look-2.ensures.looked ∙ ap feed c.look.ensures.looked
    ∙ ap feed c.in-Err.ensures.refused.2 ∙ ap feed c.is_full.ensures.same ∙ ap feed c.in-Ok.ensures.pushed in
    c.pop-2.ensures ∙ c.pop.ensures ∙ ap (λ (e : Taking). e.feed) c.in_ok-sender.ensures.ends.taker ∙ sym sent

pub push-requires-3 : goal.push-requires-3
push-requires-3 g c =
    let made = c.in_ok-sender.ensures.ends.sender in
    let pushed = c.is_full.ensures.same ∙ c.in-Ok.ensures.pushed in
    let back = c.in-Err.ensures.refused in
    let look = c.look.ensures.looked in
    let again = c.look-2.ensures.looked in
    let compared = c.compare.ensures.same.0 ∙ c.is_full-2.ensures.same in
    let start =
    ap (λ (e : Sending). length e.start) compared ∙ ap (λ (e : Sending). length e.start) again
    ∙ ap (λ (e : Sending). length e.start) look ∙ ap (λ (e : Sending). length e.start) back.2
    ∙ ap (λ (e : Sending). length e.start) pushed ∙ ap (λ (e : Sending). length e.start) made in
    let same =
    ap (λ (e : Sending). length e.pushed) compared ∙ ap (λ (e : Sending). length e.pushed) again
    ∙ ap (λ (e : Sending). length e.pushed) look ∙ ap (λ (e : Sending). length e.pushed) back.2 in
    let none = ap (λ (e : Sending). length e.pushed) made in
    let one = ap (λ (e : Sending). length e.pushed) pushed in
    rw back.1
    (c.parcel-2.ensures _ _ (start ∙ length-map _ _)
    (omega (arith, none, one, same, length_push c.in_ok-sender.sender.pushed c.parcel.result)))
