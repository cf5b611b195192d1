use Rattle.std.proofs.Common.{length, ap, ◌∙◌, arith}
use Rattle.std.proofs.lemmas.List.{length-map}
use Rattle.ordup_feed.specs.Ends.{Sending}
use Rattle.tests_of_threads.proofs.feed.one_thread.a_feed_with_a_parcel_in_its_only_slot_is_full.Goals as goal

pub push-requires : goal.push-requires
push-requires g c =
    let made = c.in_ok-sender.ensures.ends.sender in
    let start = ap (λ (e : Sending). length e.start) made in
    let none = ap (λ (e : Sending). length e.pushed) made in
    c.parcel.ensures _ _ (start ∙ length-map _ _) (omega (arith, none))
