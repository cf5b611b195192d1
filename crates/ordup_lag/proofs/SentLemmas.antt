-- Text that is sent as it is formed.
use Rattle.ordup_audit.proofs.Common.{◌++◌, ◌∙◌, ◌≡◌, [], ap, append-nil, append_assoc, length, List, None, Option, RecordState}
use Rattle.ordup_audit.proofs.Common.{refl, Some, sym, ◌+◌, ◌≤◌, ℕ}
use Rattle.std.proofs.KnownBytes.{Appends-trans}
use Rattle.ordup_text.specs.Fronts.{AppendsFront}
use Rattle.ordup_limits.specs.Entries.{latest}
use Rattle.ordup_lag.specs.LagRows.{row_at}
use Rattle.ordup_lag.specs.declared.offsets.Offsets.{Offsets}
use Rattle.ordup_rows.specs.Forming.{SendsUpto}
use Rattle.ordup_lag.specs.Texts.{row_text, rows_upto}
use Rattle.ordup_lag.proofs.LagLemmas.{upto-front, upto-next}

-- more is formed
formed : (a b : Option (List ℕ)) (whole left more all text : List ℕ) → SendsUpto a b whole left → all ≡ whole ++ more
    → text ≡ left ++ more
    → SendsUpto a b all text
formed a b whole left more all text (sent, is, grew) every next = (
  sent,
  every ∙ ap (λ t. t ++ more) is ∙ append_assoc sent left more ∙ ap (λ t. sent ++ t) (sym next),
  grew,
)

-- what is left is sent up to what is left then
pub sends_more : (a b c : Option (List ℕ)) (whole text left : List ℕ) → SendsUpto a b whole text → SendsUpto b c text left
    → SendsUpto a c whole left
sends_more a b c whole text left (sent, is, grew) (more, cut, grew_more) = (
  sent ++ more,
  is ∙ ap (λ t. sent ++ t) cut ∙ sym (append_assoc sent more left),
  Appends-trans a b c sent more grew grew_more,
)

-- a prefix of what is left is sent
stops_early : (a b c : Option (List ℕ)) (whole text all more : List ℕ) → SendsUpto a b whole text → AppendsFront b c text
    → all ≡ whole ++ more
    → AppendsFront a c all
stops_early a b c whole text all more (sent, is, grew) (front, back, cut, grew_more) every = (
  sent ++ front,
  back ++ more,
  every ∙ ap (λ t. t ++ more) (is ∙ ap (λ t. sent ++ t) cut)
      ∙ ap (λ t. t ++ more) (sym (append_assoc sent front back)) ∙ append_assoc (sent ++ front) back more,
  Appends-trans a b c sent front grew grew_more,
)

-- nothing is sent of it
pub front_none : (a : Option (List ℕ)) (text : List ℕ) → AppendsFront a a text
front_none None text = ([], text, refl, tt)
front_none (Some xs) text = ([], text, refl, sym (append-nil xs))

-- nothing is sent, and all of it is left
pub sends_none : (a : Option (List ℕ)) (text : List ℕ) → SendsUpto a a (text ++ []) text
sends_none None text = ([], append-nil text, tt)
sends_none (Some xs) text = ([], append-nil text, sym (append-nil xs))

-- the line of one place more is formed
pub row_formed : (a b : Option (List ℕ)) (head : List ℕ) (before : Offsets) (r : RecordState) (k : ℕ) (left text : List ℕ)
    → SendsUpto a b (head ++ rows_upto before r k) left → text ≡ left ++ row_text (length (latest r.limits)) (row_at before r (k + 1))
    → SendsUpto a b (head ++ rows_upto before r (k + 1)) text
row_formed a b head before r k left text sent next =
    let row = row_text (length (latest r.limits)) (row_at before r (k + 1)) in
    formed a b (head ++ rows_upto before r k) left row (head ++ rows_upto before r (k + 1)) text sent
    (ap (λ t. head ++ t) (sym (upto-next before r k)) ∙ sym (append_assoc head (rows_upto before r k) row)) next

-- of the lines up to a place a prefix is sent, and no more of all
pub stops_at : (a b c : Option (List ℕ)) (head : List ℕ) (before : Offsets) (r : RecordState) (k : ℕ) (text : List ℕ) → k ≤ length r.sets
    → SendsUpto a b (head ++ rows_upto before r k) text → AppendsFront b c text
    → AppendsFront a c (head ++ rows_upto before r (length r.sets))
stops_at a b c head before r k text le sent front =
    let rest = upto-front before r k (length r.sets) le in
    stops_early a b c (head ++ rows_upto before r k) text (head ++ rows_upto before r (length r.sets)) rest.0 sent front
    (ap (λ t. head ++ t) rest.1 ∙ sym (append_assoc head (rows_upto before r k) rest.0))
