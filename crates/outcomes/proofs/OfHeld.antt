-- One outcome for each public function of `held`, whole results. Nothing is lent to be written: the entries come and go by value.
-- Assumes nothing.
use mathlib.Core.Path.{refl}
use Rattle.held.specs.contracts as held
use Rattle.outcomes.specs.OneOutcome.{OneOutcome, whole}
use Rattle.outcomes.proofs.Equations.{answers, value}

pub scan : {M : Type 1} → OneOutcome M held.scan.ended (λ 𝓤. held.scan.clauses) (λ 𝓤. held.scan.spec) whole
scan = answers value _ (λ κs a. (tt, (tt, (tt, (tt, (tt, tt)))))) (λ κs a ws. refl)

pub insert : {M : Type 1} → OneOutcome M held.insert.ended (λ 𝓤. held.insert.clauses) (λ 𝓤. held.insert.spec) whole
insert = answers value _ (λ κs a. (tt, (tt, (tt, (tt, (tt, tt)))))) (λ κs a ws. refl)

pub lookup : {M : Type 1} → OneOutcome M held.lookup.ended (λ 𝓤. held.lookup.clauses) (λ 𝓤. held.lookup.spec) whole
lookup = answers value _ (λ κs a. (tt, (tt, (tt, (tt, tt))))) (λ κs a ws. refl)

pub within : {M : Type 1} → OneOutcome M held.within.ended (λ 𝓤. held.within.clauses) (λ 𝓤. held.within.spec) whole
within = answers value _ (λ κs a. (tt, tt)) (λ κs a ws. refl)
