-- One outcome for the public function of `report`, the whole result and the whole buffer.
-- Assumes nothing.
use mathlib.Core.Path.{refl}
use mathlib.Core.List.{List}
use Prim.Native.Nat.{ℕ}
use Rattle.report.specs.contracts as report'
use Rattle.outcomes.specs.OneOutcome.{OneOutcome, whole}
use Rattle.outcomes.proofs.Equations.{answers_and_leaves, value, lends}

pub report : {M : Type 1} → OneOutcome M report'.report.ended (λ 𝓤. report'.report.clauses) (λ 𝓤. report'.report.spec) whole
report = answers_and_leaves value (lends {T = report'.report.ended} {X = λ κs. List ℕ} (λ κs e. e.1.0.now) (λ κs a x. (tt, (x, tt))) (λ κs a x. refl) (λ κs a ws. refl)) _ _
