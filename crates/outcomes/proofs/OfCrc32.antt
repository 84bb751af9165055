-- One outcome for each public function of `crc32`, whole results and whole last values.
-- Assumes nothing.
use mathlib.Core.Path.{refl}
use Rattle.crc32.specs.contracts as crc
use Rattle.outcomes.specs.OneOutcome.{OneOutcome, whole}
use Rattle.outcomes.proofs.Equations.{answers, value}

pub update : {M : Type 1} → OneOutcome M crc.update.ended (λ 𝓤. crc.update.clauses) (λ 𝓤. crc.update.spec) whole
update = answers value _ (λ κs a. (tt, (tt, tt))) (λ κs a ws. refl)

pub crc32 : {M : Type 1} → OneOutcome M crc.crc32.ended (λ 𝓤. crc.crc32.clauses) (λ 𝓤. crc.crc32.spec) whole
crc32 = answers value _ (λ κs a. (tt, tt)) (λ κs a ws. refl)

pub resume : {M : Type 1} → OneOutcome M crc.resume.ended (λ 𝓤. crc.resume.clauses) (λ 𝓤. crc.resume.spec) whole
resume = answers value _ (λ κs a. (tt, (tt, tt))) (λ κs a ws. refl)
