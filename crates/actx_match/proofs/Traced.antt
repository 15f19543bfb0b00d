-- A machine whose steps write one event at most, and none where they end the run, is orderly.
use Rattle.std.proofs.Common.{◌≡◌, ◌+◌, Bool, [], ◌∷◌, length, ap, arith, ◌⊎◌, inl, inr, length-append}
use Rattle.actx_match.specs.Runs.{IsOrderly}
use Rattle.actx_match.specs.Traced.{Seen, over, rank_by, Change, Quiet, Wrote, Stopped}

pub change_ranks : {Event End : Type 0} (goes : End → Bool) (old new : Seen Event End) → Change goes old new → (new ≡ old) ⊎ (rank_by goes new ≡ rank_by goes old + 1)
change_ranks goes old new (Quiet e) = inl e
change_ranks goes old new (Wrote e h) =
    let r = ap (rank_by goes) h in
    inr (omega (arith, r, length-append old.trace (e ∷ [])))
change_ranks goes old new (Stopped was is same) =
    let l = ap length same in
    let before = ap over was in
    let after = ap over is in
    inr (omega arith)

pub orderly_by : {S Event End : Type 0} (goes : End → Bool) (f : S → S) (see : S → Seen Event End) → ((s : S) → Change goes (see s) (see (f s))) → IsOrderly (rank_by goes) f see
orderly_by goes f see each s = change_ranks goes (see s) (see (f s)) (each s)
