-- Two readings of `OneOutcome`, for every function that has it: of two outcomes that are known side by side, and outside the logic.
-- Assumes nothing.
use mathlib.Core.Path.{◌≡◌}
use mathlib.Core.Logic.{∥∥₁_map}
use seplogic.Ra.Ura.{Ura}
use base.Logic.{SProp, ent, sep, emp, fst∗, snd∗}
use prog.Memory.{Memory}
use prog.Routine.{Routine}
use types.Logic.{Logic}
use contract.Monad.{Fun, fact}
use denote.Triple.Entry.{Args, Res}
use denote.Triple.Clauses.{Ended, Lasts, at_exit}
use Rattle.outcomes.specs.OneOutcome.{Lives, View, Stated, Proved, OneOutcome}

module _ {M : Type 1} {T : Ended} {C : Stated M T} {S : Proved M T} {v : View T} (only : OneOutcome M T C S v)
    (𝓤 : Ura M) (𝓛 : Logic 𝓤) (mem : Memory → SProp 𝓤) (run : Routine → Fun 𝓤) (κs : Lives T) (a : Args T.signature κs)
    (g : (C 𝓤 𝓛 mem run κs a).ghost) (r r' : Res T.signature κs) (ws ws' : Lasts T κs a) where
  -- the two `ensures`, beside each other
  abbrev ensures : Res T.signature κs → Lasts T κs a → SProp 𝓤
  ensures x us = (C 𝓤 𝓛 mem run κs a).ensures g x (at_exit T κs a us)

  pub side_by_side : ent 𝓤 (sep 𝓤 (ensures r ws) (ensures r' ws')) (fact 𝓤 ((v.see κs r ≡ v.see κs r') × (ws ≡ ws')))
  side_by_side =
      (only.one 𝓤 𝓛 mem run κs a).no_second g g (sep 𝓤 (ensures r ws) (ensures r' ws')) r r' ws ws'
      (fst∗ 𝓤 (ensures r ws) (ensures r' ws')) (snd∗ 𝓤 (ensures r ws) (ensures r' ws'))

  -- what fits with nothing known is equal
  pub outright : ent 𝓤 (emp 𝓤) (ensures r ws) → ent 𝓤 (emp 𝓤) (ensures r' ws') → ∥ (v.see κs r ≡ v.see κs r') × (ws ≡ ws') ∥₁
  outright fit fit' = ∥∥₁_map (((only.one 𝓤 𝓛 mem run κs a).no_second g g (emp 𝓤) r r' ws ws' fit fit').apply 𝓤.one tt) (λ t. t.0)
