use Rattle.std.proofs.Common.{rules, sym, ◌≡◌, ◌∙◌, ◌++◌, ◌∷◌, []}
use Rattle.std.proofs.Math.ListN.{set}
use Rattle.ordup_limits.specs.Entries.{are_one_entry}
use Rattle.ordup_limits.proofs.PutLemmas.{put-at, put-last}
use Rattle.ordup_limits.proofs.entries.put_entry.Goals as goal
use Rattle.ordup_limits.proofs.entries.put_entry.Goals.{in-Some, in-None+in_ok-push-in-None}

pub returns-clause-changed : goal.returns-clause-changed
returns-clause-changed g c =
    let entries = c.args.entries.now.items in
    let entry = c.args.entry.now in
    elim c.match-index_of.branch [
      | in-Some w ↦ (let here : c.match-index_of.entries.items ≡ set entries w.in-Some.index entry = rw w.entries-is (search rules) in
          here ∙ sym (put-at are_one_entry entries entry w.in-Some.index (rw c.as_slice.ensures.value at w.in-Some.ensures)))
      | in-None+in_ok-push-in-None w ↦ (let here : c.match-index_of.entries.items ≡ entries ++ entry ∷ [] = rw w.entries-is (search rules) in
          here ∙ sym (put-last are_one_entry entries entry (rw c.as_slice.ensures.value at w.in-None.ensures)))
    ]
