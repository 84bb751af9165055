-- One outcome for each public function of `refusals`, whole results.
-- Assumes nothing.
use mathlib.Core.Path.{refl}
use Rattle.refusals.specs.contracts as refusals
use Rattle.outcomes.specs.OneOutcome.{OneOutcome, whole}
use Rattle.outcomes.proofs.Equations.{answers, value}

pub number : {M : Type 1} → OneOutcome M refusals.Reason.number.ended (λ 𝓤. refusals.Reason.number.clauses) (λ 𝓤. refusals.Reason.number.spec) whole
number = answers value _ (λ κs a. (tt, tt)) (λ κs a ws. refl)

pub at : {M : Type 1} → OneOutcome M refusals.Refusal.at.ended (λ 𝓤. refusals.Refusal.at.clauses) (λ 𝓤. refusals.Refusal.at.spec) whole
at = answers value _ (λ κs a. (tt, (tt, tt))) (λ κs a ws. refl)

pub new : {M : Type 1} → OneOutcome M refusals.Refusal.new.ended (λ 𝓤. refusals.Refusal.new.clauses) (λ 𝓤. refusals.Refusal.new.spec) whole
new = answers value _ (λ κs a. (tt, tt)) (λ κs a ws. refl)
